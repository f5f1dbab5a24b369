use Rattle.std.proofs.Common.{◌≡◌}
use Rattle.script_core.specs.Terms.{components_of}
use Rattle.script_core.proofs.Components.{components_after}
use Rattle.script_core.proofs.terms.read_components.Given as goal

abbrev pub invariant-loop-token : goal.invariant-loop-token
invariant-loop-token l =
    components_after l.components.items l.terms.items l.token-iterator ≡ components_of l.fn.tokens
