-- Duals carried back along a bridging of renamed items are those carried back along the bridging.
use Rattle.std.specs.Prelude.{◌≡◌, ◌-◌, ℕ, cond, List, ◌∷◌, length, replicate, take, refl}
use Rattle.std.proofs.Common.{ap, ap₂, ◌∙◌}
use Rattle.std.proofs.lemmas.List.{length-map}
use Rattle.ratio_core.specs.Folds.{sum_from}
use Rattle.ratio_core.specs.Rational.{Rational, zero_ℚ}
use Rattle.aff_core.specs.Address.{Address}
use Rattle.bridge_face.specs.BackOf.{across, back_by, back_of, first_of, head_of, tail_of}
use Rattle.bridge_face.specs.ImageOf.{image_of}
use Rattle.bridge_face.specs.Law.{is_objective}
use Rattle.expansion.specs.Bridged.{Bridged, EachBridgedIn}
use Rattle.expansion.specs.Rules.{Rules}
use Rattle.fresh_bridging.specs.Entries.{Entry}
use Rattle.fresh_bridging.specs.TheRules.{edge_at}
use Rattle.item_core.specs.declared.edge.Edge.{Edge}
use Rattle.item_core.specs.declared.family.Family.{Family}
use Rattle.item_core.specs.declared.family.Family.TheVariants as family
use Rattle.item_core.specs.declared.item.Body.{Body}
use Rattle.item_core.specs.declared.item.Body.TheVariants.{Group}
use Rattle.item_core.specs.declared.item.Item.{Item}
use Rattle.item_core.specs.Edge.{family_of}
use Rattle.tree_laws.specs.Carried.{LeafAnswerDuals, back, backs, row_dual}
use Rattle.renumbering_laws.specs.RenamedForm.{AgreeRenamed}
use Rattle.renumbering_laws.specs.RenamedImageLaws.{image-renamed}
use Rattle.renumbering_laws.specs.RenamedItems.{IsRenaming, renamed_body, renamed_item, size-renamed}
use Rattle.renumbering_laws.specs.RenamedTrees.{Alike, InAlike, alike_by, alike_each_in, alike_native, alike_none_in}

is_objective-renamed : (σ : Address → Address) (b : Body)
    → is_objective (renamed_body σ b) ≡ is_objective b
is_objective-renamed σ (Group set vars) = refl
is_objective-renamed σ _ = refl

-- what is carried back: the objective's dual, and those of the leaf rows at their addresses
pub record DualsAgree (σ : Address → Address) (d e : LeafAnswerDuals) : Type 0 where
  pub objective : e.objective ≡ d.objective
  pub duals : AgreeRenamed σ d.duals e.duals

module _ (σ : Address → Address) (r : IsRenaming σ) where
  by_family : (f : Family) (item : Item) (ys : List (List Rational))
      → back_by f (renamed_item σ item) ys ≡ back_by f item ys
  unfolding back_by
  by_family family.DropReals item ys = ap (λ n. replicate n zero_ℚ) (size-renamed σ r item.body)
  by_family family.NormInfinity item ys =
      ap (λ n. sum_from zero_ℚ (first_of ys) ∷ across (n - 1) (first_of ys))
      (size-renamed σ r item.body)
  by_family family.NormOne item ys =
      ap (λ n. head_of (first_of ys) ∷ across (n - 1) (tail_of (first_of ys)))
      (size-renamed σ r item.body)
  by_family _ item ys = refl

  back_of-renamed : (edge : Edge) (item : Item) (ys : List (List Rational))
      → back_of edge (renamed_item σ item) ys ≡ back_of edge item ys
  back_of-renamed edge item ys = by_family (family_of edge) item ys

  pub row_count-renamed : (edge : Edge) (item : Item)
      → length (image_of edge (renamed_item σ item)).rows ≡ length (image_of edge item).rows
  row_count-renamed edge item =
      ap (λ image. length image.rows) (image-renamed σ r edge item)
      ∙ length-map (image_of edge item).rows (renamed_item σ)

  module _ (rules : Rules Item Entry) (g : Entry → Entry) (d e : LeafAnswerDuals)
      (same : DualsAgree σ d e) where
    native_back : (item other : Item) → other ≡ renamed_item σ item
        → row_dual e other ≡ row_dual d item
    native_back item other at =
        ap (row_dual e) at
        ∙ (λ i. cond (is_objective-renamed σ item.body i) (same.objective i) (same.duals item.at i))

    node_back : (edge : ℕ) (item other : Item) → other ≡ renamed_item σ item
        → (xs ys : List (List Rational)) → xs ≡ ys
        → cond (is_objective other.body) e.objective (back_of (edge_at edge) other
        (take (length (image_of (edge_at edge) other).rows) xs))
        ≡ cond (is_objective item.body) d.objective (back_of (edge_at edge) item
        (take (length (image_of (edge_at edge) item).rows) ys))
    node_back edge item other at xs ys is =
        (λ i. cond (is_objective (at i).body) e.objective (back_of (edge_at edge) (at i)
        (take (length (image_of (edge_at edge) (at i)).rows) (is i))))
        ∙ (λ i. cond (is_objective-renamed σ item.body i) (same.objective i)
        (back_of (edge_at edge) (renamed_item σ item)
        (take (row_count-renamed (edge_at edge) item i) ys)))
        ∙ ap (cond (is_objective item.body) d.objective) (back_of-renamed (edge_at edge) item
        (take (length (image_of (edge_at edge) item).rows) ys))

    mutual
      unfolding back

      pub back_alike : {item other : Item} {es fs : List Entry} {tree : Bridged rules item es}
          {second : Bridged rules other fs}
          → Alike rules (renamed_item σ) g item other es fs tree second
          → back e second ≡ back d tree
      back_alike (alike_native {item} {other} at c k) = native_back item other at
      back_alike (alike_by {item} {other} {edge} at c k {os = os} {ps = ps} groups others) =
          node_back edge item other at (backs e ps) (backs d os) (backs_alike others)

      pub backs_alike : {inner after : List Entry} {items others : List Item}
          {trees : EachBridgedIn rules inner items} {second : EachBridgedIn rules after others}
          → InAlike rules (renamed_item σ) g inner after items others trees second
          → backs e second ≡ backs d trees
      backs_alike alike_none_in = refl
      backs_alike (alike_each_in after at first rest) =
          ap₂ (λ y ys. y ∷ ys) (back_alike first) (backs_alike rest)
