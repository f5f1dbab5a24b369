use Rattle.std.specs.Prelude.{◌≡◌, None, is_some, refl}
use Rattle.std.specs.Option.{option_copied}
use Rattle.std.proofs.Common.{◌∙◌, ap, sym}
use Rattle.std.proofs.lemmas.Bool.{both_ways}
use Rattle.user_model.specs.Model.{group_of}
use Rattle.model_laws.specs.Located.{named_stands}
use Rattle.model_refusals.proofs.lookups.grouped_variable.Goals as goal

-- a variable that is named stands in a group
pub returns-in_default : goal.returns-in_default
returns-in_default c =
    let model = c.args.model.now.model in
    let found = c.in_ok-found.found in
    let none : group_of model found.number ≡ None =
    sym c.group_of.ensures ∙ ap option_copied c.in_default.is in (
      refl,
      absurd (both_ways (is_some (group_of model found.number)) (ap is_some none)
          (named_stands model found.name.now found.number c.in_ok-found.ensures.1)),
    )
