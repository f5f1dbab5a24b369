use Rattle.std.proofs.Common.{◌≡◌}
use Rattle.script_core.specs.Terms.{term_of, terms_of}
use Rattle.script_tokens.specs.Each.{each_after}
use Rattle.script_core.proofs.terms.read_terms.Given as goal

abbrev pub invariant-loop-token : goal.invariant-loop-token
invariant-loop-token l = each_after term_of l.terms.items l.token-iterator ≡ terms_of l.fn.tokens
