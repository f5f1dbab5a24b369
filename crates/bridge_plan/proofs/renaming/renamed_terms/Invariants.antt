use Rattle.fresh_bridging.specs.Entries.{function_in}
use Rattle.bridge_plan.proofs.NamedLaws.{AreSoFar}
use Rattle.bridge_plan.proofs.renaming.renamed_terms.Given as goal

abbrev pub invariant-loop-var : goal.invariant-loop-var
invariant-loop-var l = AreSoFar (function_in l.expressions) l.var-items l.var-index l.made.items
