use Rattle.std.specs.Prelude.{refl}
use Rattle.bridge_face.specs.FamilyLaws.{image_fits, image_is}
use Rattle.std.proofs.Common.{sym, ap, ap₂, ◌∙◌, replicate, []}
use Rattle.item_core.specs.Item.{functions_of}
use Rattle.bridges_split.specs.ZerosVarLaws.{image_of_parts, none_of, nothings_are, rule}
use Rattle.bridges_split.proofs.zeros_var.ZerosVarRewriting.image.Goals as goal

pub returns : goal.returns
returns c = (
  image_fits c.args._edge c.requires.own refl c.args.item.now,
  ap₂ (λ gs rs. image_of_parts gs c.in_ok-exprs.exprs rs) c.new.ensures c.new-2.ensures
      ∙ ap (λ es. image_of_parts [] es [])
      (c.in_ok-exprs.ensures ∙ ap (λ n. replicate n none_of) c.component_count-count.ensures
      ∙ sym (nothings_are (functions_of c.args.item.now.body)))
      ∙ sym (image_is rule c.args._edge c.requires.own c.args.item.now),
)
