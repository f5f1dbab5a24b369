use Rattle.std.specs.Prelude.{◌≡◌, map, take}
use Rattle.relaxation.specs.RelaxedEdits.{slack_term}
use Rattle.relaxation.proofs.edits.sum_terms.Given as goal

abbrev pub invariant-loop-name : goal.invariant-loop-name
invariant-loop-name l = l.terms ≡ map slack_term (take l.name-index l.names)
