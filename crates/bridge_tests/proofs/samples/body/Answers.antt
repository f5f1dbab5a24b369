use Rattle.std.proofs.Common.{subst, sym}
use Rattle.item_core.specs.declared.item.Body.TheVariants.{AffineObj, PlainObj}
use Rattle.bridge_tests.specs.SampleLaws.{IsValidBody, sound_affine_obj, sound_plain_obj}
use Rattle.bridge_tests.proofs.samples.body.Goals as goal

pub returns-in-Plain : goal.returns-in-Plain
returns-in-Plain c =
    subst (λ v. IsValidBody (PlainObj c.sense_of.result v)) (sym c.variable.ensures)
    (sound_plain_obj c.sense_of.result)

pub returns-in_ok-function-in_default : goal.returns-in_ok-function-in_default
returns-in_ok-function-in_default c =
    subst (λ f. IsValidBody (AffineObj c.sense_of-in_default.result f))
    (sym c.in_ok-function-in_default.ensures)
    (sound_affine_obj c.sense_of-in_default.result c.args.number)
