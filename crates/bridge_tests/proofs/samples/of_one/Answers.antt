use Rattle.std.proofs.Common.{subst, sym}
use Rattle.item_core.specs.declared.item.Body.TheVariants.{Affine, Group, Plain}
use Rattle.bridge_tests.specs.SampleLaws.{IsValidBody, sound_affine, sound_group_one, sound_plain}
use Rattle.bridge_tests.proofs.samples.of_one.Goals as goal

pub returns-in-Plain : goal.returns-in-Plain
returns-in-Plain c =
    subst (λ v. IsValidBody (Plain v c.args.set)) (sym c.variable.ensures)
    (sound_plain c.args.set c.requires.scalar c.requires.sample)

pub returns-in_ok-function-in-Affine : goal.returns-in_ok-function-in-Affine
returns-in_ok-function-in-Affine c =
    subst (λ f. IsValidBody (Affine f c.args.set)) (sym c.in_ok-function-in-Affine.ensures)
    (sound_affine c.args.number c.args.set c.requires.scalar c.requires.sample)

pub returns-in_ok-one_variable-in_default : goal.returns-in_ok-one_variable-in_default
returns-in_ok-one_variable-in_default c =
    subst (λ vs. IsValidBody (Group c.args.set vs)) (sym c.in_ok-one_variable-in_default.ensures)
    (sound_group_one c.args.set c.requires.scalar c.requires.sample)
