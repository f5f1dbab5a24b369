use Rattle.std.proofs.Common.{◌≡◌, take}
use Rattle.model_refusals.specs.Hash.{hash_of}
use Rattle.model_refusals.proofs.twins.hash_of.Given as goal

-- the hash of the bytes so far
abbrev pub invariant-loop-byte : goal.invariant-loop-byte
invariant-loop-byte l = l.hash ≡ hash_of (take l.byte-index l.name)
