-- What a bridge keeps of an item that is taken through an edge.
use denote.Enum.Bare.{same_true}
use Rattle.std.specs.Prelude.{IsSomeAnd, List, None, Option, Some, cond, false, length, map, true, ◌≡◌}
use Rattle.std.proofs.Common.{ap, subst, sym, ◌∙◌}
use Rattle.aff_core.specs.Address.{Address, address_total}
use Rattle.item_core.specs.declared.edge.Edge.{Edge}
use Rattle.item_core.specs.declared.edge.EdgeEntry.{EdgeEntry}
use Rattle.ratio_core.specs.Rational.{Rational}
use Rattle.bridge_face.specs.BackOf.{size}
use Rattle.item_core.specs.declared.image.Image.{Image}
use Rattle.bridge_face.specs.Law.{IsItemFor, is_objective}
use Rattle.item_core.specs.declared.item.Item.{Item}
use Rattle.bridge_face.specs.declared.kept_item.KeptItem.{KeptItem}
use Rattle.bridge_face.specs.BridgeState.{BridgeState, TakesDuals, found, given, gone}
use Rattle.aff_core.specs.KeyOrder.{address_order, same_key}
use Rattle.bridge_face.specs.ImageOf.{image_of}
use Rattle.item_core.specs.Edge.{edge_entry, family_eq, family_of}
use Rattle.item_core.specs.Item.{is_group}
use Rattle.item_core.specs.contracts.family.Family as contracts
use Rattle.item_core.specs.declared.family.Family.{Family}
use Rattle.bridge_tests.specs.SampleLaws.{here}
use Rattle.std.specs.FinMap as finite

-- a row for this edge, whose image is known, is kept where samples stand
pub record KeepsRow (edge : Edge) (image : Image) (s : BridgeState) : Type 0 where
  pub item : Item
  pub kept : found s here ≡ Some (record { edge = edge; item = item })
  pub suits : IsItemFor edge item
  pub no_group : is_group item.body ≡ false
  pub no_objective : is_objective item.body ≡ false
  pub image_is : image ≡ image_of edge item

-- what was given stands there
pub given_found : (s : BridgeState) (kept : KeptItem)
    → found (given s kept) kept.item.at ≡ Some kept
given_found s kept =
    finite.get-insert address_total s.kept kept.item.at kept kept.item.at
    ∙ ap (λ b. cond b (Some kept) (finite.get s.kept kept.item.at))
    (same_key address_order kept.item.at)

pub kept_here : (s : BridgeState) (edge : Edge) (item : Item) → item.at ≡ here
    → found (given s (record { edge = edge; item = item })) here
    ≡ Some (record { edge = edge; item = item })
kept_here s edge item e =
    let kept : KeptItem = record { edge = edge; item = item } in
    subst (λ at. found (given s kept) at ≡ Some kept) e (given_found s kept)

-- an item for the edge of what is kept can stand in its place
pub suits_kept : (s : BridgeState) (edge : Edge) (item : Item) → IsItemFor edge item
    → item.at ≡ here
    → IsSomeAnd (found s here) (λ kept. kept.edge ≡ edge)
    → IsSomeAnd (found s item.at) (λ kept. IsItemFor kept.edge item)
suits_kept s edge item suits e there =
    subst (λ at. IsSomeAnd (found s at) (λ kept. IsItemFor kept.edge item)) (sym e)
    (by (found s here) there)
  where
    by : (o : Option KeptItem) → IsSomeAnd o (λ kept. kept.edge ≡ edge)
        → IsSomeAnd o (λ kept. IsItemFor kept.edge item)
    by None h = absurd h
    by (Some kept) h = subst (λ e. IsItemFor e item) (sym h) suits

-- and nothing where one was removed
pub gone_found : (s : BridgeState) (at : Address) → found (gone s at) at ≡ None
gone_found s at =
    finite.get-remove address_total s.kept at at
    ∙ ap (λ b. cond b None (finite.get s.kept at)) (same_key address_order at)

-- families that the test finds equal are one
pub equal_family : (f g : Family) → family_eq f g ≡ true → f ≡ g
equal_family f g e = same_true contracts.the_type tt f g e

-- an edge whose entry names the bridge's family is of that family
pub own_family : (edge : Edge) (entry : EdgeEntry) (own : Family) (s : BridgeState)
    → entry ≡ edge_entry edge → own ≡ s.family → family_eq entry.family own ≡ true
    → family_of edge ≡ s.family
own_family edge entry own s entry_is own_is equal =
    ap (λ (e : EdgeEntry). e.family) (sym entry_is) ∙ equal_family entry.family own equal ∙ own_is

-- duals of the sizes of an image's rows are taken for the row that it is of
pub takes_duals : {edge : Edge} {image : Image} {s : BridgeState} (ys : List (List Rational))
    (at : Address) → at ≡ here → KeepsRow edge image s → map length ys ≡ map size image.rows
    → IsSomeAnd (found s at) (λ kept. TakesDuals kept ys)
takes_duals {edge} {image} {s} ys at at_is keeps sizes =
    subst (λ o. IsSomeAnd o (λ kept. TakesDuals kept ys))
    (sym (ap (found s) at_is ∙ keeps.kept))
    (record {
      no_group = keeps.no_group;
      no_objective = keeps.no_objective;
      sizes = sizes ∙ ap (λ (i : Image). map size i.rows) keeps.image_is;
    })
