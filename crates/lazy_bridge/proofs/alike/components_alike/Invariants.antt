use Rattle.lazy_bridge.proofs.Names.{AreAlike}
use Rattle.user_model.specs.Functions.{has_term}
use Rattle.lazy_bridge.proofs.alike.components_alike.Given as goal

abbrev pub invariant-loop-place : goal.invariant-loop-place
invariant-loop-place l = AreAlike (λ f v. has_term v f) l.one l.other l.place
