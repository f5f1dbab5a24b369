use Rattle.std.proofs.Common.{◌≡◌, drop}
use Rattle.mof_text.specs.Numeral.{is_colon_next}
use Rattle.mof_text.proofs.numeral.is_colon_next.Given as goal

abbrev pub invariant-loop-byte : goal.invariant-loop-byte
invariant-loop-byte l = is_colon_next (drop l.byte-index l.rest) ≡ is_colon_next l.rest
