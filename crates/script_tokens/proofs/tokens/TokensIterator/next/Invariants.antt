use Rattle.std.proofs.Common.{◌≡◌, length}
use Rattle.script_tokens.specs.Tokens.{tokens_of}
use Rattle.script_tokens.proofs.tokens.TokensIterator.next.Given as goal

abbrev pub invariant-loop-self : goal.invariant-loop-self
invariant-loop-self l = tokens_of l.self-inside.rest.now ≡ tokens_of l.initial.self-inside.rest.now

abbrev pub decreases-loop-self : goal.decreases-loop-self
decreases-loop-self l = length l.self-inside.rest.now
