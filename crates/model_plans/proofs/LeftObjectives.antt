-- What a deletion leaves of an affine objective.
use Rattle.std.proofs.Common.{◌≡◌, ◌≢◌, true, false, sym, ap, ◌∙◌}
use Rattle.aff_core.specs.Address.{Address}
use Rattle.aff_core.specs.Function.{Function}
use Rattle.aff_core.specs.declared.sense.Sense.{Sense}
use Rattle.user_model.specs.declared.objective.Objective.{Objective}
use Rattle.user_model.specs.declared.objective.Objective.TheVariants.{Affine}
use Rattle.user_model.specs.Deletion.{objective_without, without_term}
use Rattle.model_laws.specs.Mentions.{objective_changes_where_mentioned, objective_unmentioned}
use Rattle.user_model.specs.Model.{objective_mentions}
use Rattle.user_model.specs.Functions.{has_term}

pub affine_left : (at : Address) (o : Objective) (sense : Sense) (f g : Function)
    → o ≡ Affine sense f → has_term at f ≡ true → g ≡ without_term at f
    → (Affine sense g ≡ objective_without at o) × (Affine sense g ≢ o)
affine_left at o sense f g is has e =
    let left : Affine sense g ≡ objective_without at o =
    ap (Affine sense) e ∙ sym (ap (objective_without at) is) in (
      left,
      λ same. objective_changes_where_mentioned at o (ap (objective_mentions at) is ∙ has)
          (sym left ∙ same),
    )

pub affine_stays : (at : Address) (o : Objective) (sense : Sense) (f : Function)
    → o ≡ Affine sense f → has_term at f ≡ false → objective_without at o ≡ o
affine_stays at o sense f is lacks =
    objective_unmentioned at o (ap (objective_mentions at) is ∙ lacks)
