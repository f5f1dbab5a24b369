-- The law of DropReals: a row that all vectors meet needs no row.
use Rattle.std.specs.Prelude.{All, List, [], refl, replicate, ℕ, ◌≡◌}
use Rattle.std.proofs.lemmas.List.Elements.{All-nil, All-replicate}
use Rattle.std.proofs.Common.{ap, ap₂, subst, sym, ◌∙◌}
use Rattle.std.proofs.lemmas.List.{length-replicate}
use Rattle.rational_laws.specs.Field.{ -ℚ-itself}
use Rattle.aff_core.specs.Address.{Address}
use Rattle.item_core.specs.declared.item.Body.TheVariants.{AffineVec, PlainVec}
use Rattle.bridge_face.specs.BackOf.{back_by, size}
use Rattle.item_core.specs.declared.item.Body.{Body}
use Rattle.item_core.specs.declared.family.Family.TheVariants.{DropReals}
use Rattle.set_core.specs.Membership.{Dual, In, low_of}
use Rattle.item_core.specs.declared.edge.Edge.TheVariants.{E39, E40}
use Rattle.item_core.specs.declared.edge.Edge.{Edge}
use Rattle.bridge_face.specs.Law.{IsLawful}
use Rattle.bridge_face.specs.ImageOf.{image_by}
use Rattle.item_core.specs.Valid.{IsValidItem}
use Rattle.aff_core.specs.Function.{Function}
use Rattle.dual_laws.specs.Held.{IsHeld, adjoint_of, gap_of}
use Rattle.bridge_face.specs.OneRowLaws.{IsRowBody, row_held}
use Rattle.bridge_face.specs.RowsLaws.{IsRowOf, MadeOfRows, rows_law}
use Rattle.item_core.specs.declared.item.Item.{Item}
use Rattle.bridge_face.specs.FamilyLaws.{Rule, back_is, lawful_by, of_another}
use Rattle.bridge_face.specs.Sources.{OfKind, vaffine_reals, vplain_reals}
use Rattle.ratio_core.specs.Rational.{Rational, zero_ℚ, ◌-ℚ◌}
use Rattle.set_core.specs.declared.set.Set.TheVariants.{Reals}
use Rattle.aff_core.specs.FunctionLists.{coefficients, constants, evaluations}
use Rattle.item_core.specs.Edge.{edge_entry, family_of, source_of}
use Rattle.item_core.specs.Item.{functions_of, set_of}
use Rattle.set_core.specs.Mirrored.{multiplied}
use Rattle.bridge_face.specs.Images.{rows_at}
use Rattle.rational_laws.specs.DotLaws.{zeros_dot}
use Rattle.rational_laws.specs.Order.{≤ℚ_from_≡}

-- a row in all vectors
pub data IsAny : Body → Type 0 where
  any_plain : {vars : List Address} {n : ℕ} → IsAny (PlainVec vars (Reals n))
  any_affine : {fs : List Function} {n : ℕ} → IsAny (AffineVec fs (Reals n))

is_any : (edge : Edge) → family_of edge ≡ DropReals → {b : Body} → OfKind (source_of edge) b
    → IsAny b
unfolding edge_entry
is_any E39 own vplain_reals = any_plain
is_any E40 own vaffine_reals = any_affine
is_any _ own k = of_another own refl

pub rule : Rule DropReals (λ edge. IsAny) (λ edge item. rows_at item [])
    (λ item ys. replicate (size item) zero_ℚ)
unfolding image_by back_by
rule = record { image = λ edge item. refl; back = λ item ys. refl; sourced = is_any }

-- what is read of it
record Any (b : Body) : Type 0 where
  row : IsRowBody b
  count : ℕ
  set : set_of b ≡ Reals count

read : {b : Body} → IsAny b → Any b
read (any_plain {vars} {n}) =
    record { row = record { no_group = refl; no_objective = refl }; count = n; set = refl }
read (any_affine {fs} {n}) =
    record { row = record { no_group = refl; no_objective = refl }; count = n; set = refl }

-- ---- the law

module _ (edge : Edge) (own : family_of edge ≡ DropReals) where
  module _ (item : Item) (valid : IsValidItem item) (any : Any item.body) where
    abbrev zeros : List Rational
    zeros = replicate (size item) zero_ℚ

    all_zero : All (λ q. q ≡ zero_ℚ) zeros
    all_zero = All-replicate (λ q. q ≡ zero_ℚ) (size item) zero_ℚ refl

    gap_none : gap_of (row_held item.body zeros) ≡ zero_ℚ
    gap_none =
        ap₂ ◌-ℚ◌ (ap (λ s. low_of s zeros) any.set) (zeros_dot zeros
        (constants (functions_of item.body)) all_zero)
        ∙ -ℚ-itself zero_ℚ

    no_rows : MadeOfRows edge item []
    no_rows = record {
      source = any.row;
      each = All-nil (IsRowOf edge item);
      values = λ one x h below. subst (λ s. In (multiplied one s)
          (evaluations one (functions_of item.body) x)) (sym any.set) tt;
      holds = λ ys none hold.
          subst (λ w. IsHeld (row_held item.body w)) (sym (back_is rule edge own item ys)) (record {
            set = valid.set;
            size = length-replicate (size item) zero_ℚ;
            dual = subst (λ s. Dual s zeros) (sym any.set) all_zero;
          });
      same = λ ys none hold v.
          ap (λ w. adjoint_of (row_held item.body w) v) (back_is rule edge own item ys)
          ∙ zeros_dot zeros (coefficients (functions_of item.body) v) all_zero;
      gaps = λ ys none hold.
          ≤ℚ_from_≡ _ _ (sym (ap (λ w. gap_of (row_held item.body w))
          (back_is rule edge own item ys) ∙ gap_none));
    }

pub drop_reals_lawful : IsLawful DropReals
drop_reals_lawful =
    lawful_by rule (λ edge own item valid any.
    rows_law edge item [] (no_rows edge own item valid (read any)))
