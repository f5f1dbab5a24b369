use Rattle.std.proofs.Common.{subst, sym}
use Rattle.item_core.specs.declared.item.Body.TheVariants.{AffineVec, Group, PlainVec}
use Rattle.bridge_tests.specs.SampleLaws.{IsValidBody, sound_affine_vec, sound_group_three, sound_plain_vec}
use Rattle.bridge_tests.proofs.samples.of_three.Goals as goal

pub returns-in_ok-variables-in-Vplain : goal.returns-in_ok-variables-in-Vplain
returns-in_ok-variables-in-Vplain c =
    subst (λ vs. IsValidBody (PlainVec vs c.args.set)) (sym c.in_ok-variables-in-Vplain.ensures)
    (sound_plain_vec c.args.set c.requires.vector c.requires.sample)

pub returns-in_ok-functions-in-Vaffine : goal.returns-in_ok-functions-in-Vaffine
returns-in_ok-functions-in-Vaffine c =
    subst (λ fs. IsValidBody (AffineVec fs c.args.set)) (sym c.in_ok-functions-in-Vaffine.ensures)
    (sound_affine_vec c.args.number c.args.set c.requires.vector c.requires.sample)

pub returns-in_ok-variables-in_default : goal.returns-in_ok-variables-in_default
returns-in_ok-variables-in_default c =
    subst (λ vs. IsValidBody (Group c.args.set vs)) (sym c.in_ok-variables-in_default.ensures)
    (sound_group_three c.args.set c.requires.vector c.requires.sample)
