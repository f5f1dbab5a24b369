use Rattle.std.specs.Prelude.{refl}
use Rattle.bridge_face.specs.FamilyLaws.{back_fits, back_is}
use Rattle.std.proofs.Common.{sym, ap, ◌∙◌, replicate}
use Rattle.ratio_core.specs.Rational.{zero_ℚ}
use Rattle.bridges_split.specs.DropRealsLaws.{rule}
use Rattle.bridges_split.proofs.drop_reals.DropRealsRewriting.back.Goals as goal

pub returns : goal.returns
returns c = (
  back_fits c.args.kept.now.edge c.requires.own refl c.args.kept.now.item c.args._duals.now,
  c.in_ok-zeros.ensures ∙ ap (λ n. replicate n zero_ℚ) c.component_count-count.ensures
      ∙ sym (back_is rule c.args.kept.now.edge c.requires.own c.args.kept.now.item
      c.args._duals.now),
)
