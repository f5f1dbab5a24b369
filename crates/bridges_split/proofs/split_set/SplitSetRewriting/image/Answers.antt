use Rattle.std.specs.Prelude.{refl}
use Rattle.bridge_face.specs.FamilyLaws.{image_fits, image_is, source_is}
use Rattle.bridge_face.specs.Images.{lower_part, upper_part, with_set}
use Rattle.bridge_face.specs.RowsLaws.{rows_alone}
use Rattle.std.proofs.Common.{sym, subst, ap, ap₂, ◌∙◌, ◌++◌, [], ◌∷◌}
use Rattle.bridges_split.specs.SplitSetLaws.{IsSplitSet, is_split_set, rule}
use Rattle.item_core.specs.Item.{item_of}
use Rattle.bridges_split.proofs.split_set.SplitSetRewriting.image.Goals as goal

pub set_of-set-requires : goal.set_of-set-requires
set_of-set-requires c =
    (source_is rule c.args._edge c.requires.own c.args.item.now c.requires.suits).split

pub lower_part-requires : goal.lower_part-requires
lower_part-requires c =
    subst IsSplitSet (sym c.set_of-set.ensures)
    (is_split_set (source_is rule c.args._edge c.requires.own c.args.item.now
    c.requires.suits).split)

pub with_set-requires : goal.with_set-requires
with_set-requires c =
    (source_is rule c.args._edge c.requires.own c.args.item.now c.requires.suits).split

pub upper_part-requires : goal.upper_part-requires
upper_part-requires c =
    subst IsSplitSet (sym c.set_of-set.ensures)
    (is_split_set (source_is rule c.args._edge c.requires.own c.args.item.now
    c.requires.suits).split)

pub with_set-requires-2 : goal.with_set-requires-2
with_set-requires-2 c =
    (source_is rule c.args._edge c.requires.own c.args.item.now c.requires.suits).split

pub returns : goal.returns
returns c = (
  image_fits c.args._edge c.requires.own refl c.args.item.now,
  c.rows_image.ensures
      ∙ ap rows_alone
      (c.in_ok-push-2.ensures.items
      ∙ ap₂ (λ xs i. xs ++ i ∷ [])
      (c.in_ok-push.ensures.items ∙ ap₂ (λ xs i. xs ++ i ∷ []) c.in_ok-rows.ensures.items
      (ap₂ item_of c.child.ensures (c.in_ok-with_set.ensures
      ∙ ap (with_set c.args.item.now.body) (c.lower_part.ensures
      ∙ ap lower_part c.set_of-set.ensures))))
      (ap₂ item_of c.child-2.ensures (c.in_ok-with_set-2.ensures
      ∙ ap (with_set c.args.item.now.body) (c.upper_part.ensures
      ∙ ap upper_part c.set_of-set.ensures))))
      ∙ sym (image_is rule c.args._edge c.requires.own c.args.item.now),
)
