-- What is added up where an answer is carried back fits where it does for the renumbered model, and
-- the first that doesn't is reported at its new address.
use Rattle.std.specs.Prelude.{◌≡◌, ◌-◌, ℕ, zero, suc, List, [], ◌∷◌, ◌++◌, All, length, map, take, refl}
use Rattle.std.proofs.Common.{ap, ap₂, inl, inr, subst, sym, ◌∙◌}
use Rattle.std.proofs.lemmas.List.{length-map, map-append}
use Rattle.std.proofs.lemmas.List.Elements.{All-map, All-weaker}
use Rattle.std.specs.List.{zip}
use Rattle.adjoint_core.specs.CarriedBack.{AdjointFits, AllFits, GapFits, IsFirstUnfitAddress, PointAndRayFit, RowFits, RowsFit, Then, UnfitGap, UnfitRow, VariableDualFits, VariableValueFits, gap_parts_placed, group_place, placed, placed_groups, placed_rows, users}
use Rattle.adjoint_core.specs.Told.{FirstNot}
use Rattle.adjoint_core.specs.Walk.{row_place}
use Rattle.aff_core.specs.Address.{Address, root_address}
use Rattle.aff_core.specs.Function.{Function, terms_of}
use Rattle.aff_core.specs.declared.root.Root.TheVariants as root
use Rattle.bridge_face.specs.BackOf.{AcrossFits, BackFits, BackFitsBy, first_of, tail_of}
use Rattle.bridge_face.specs.ImageOf.{image_of}
use Rattle.cert_core.specs.Folds.{AddUp, CostFits, EvaluationFits, ObjectiveValueFits, adjoint_parts, gap_parts_of, products, products_at}
use Rattle.certificates.specs.Duals.{groups_with, rows_with}
use Rattle.certificates.specs.Points.{at_point, objective_function}
use Rattle.dual_laws.specs.Held.{DualRow}
use Rattle.equality_form.specs.ReadBack.{AnswerByAddress, infeasible, optimal, unbounded}
use Rattle.expansion.specs.Bridged.{Bridged, EachBridgedIn}
use Rattle.expansion.specs.Rules.{Rules}
use Rattle.fresh_bridging.specs.Entries.{Entry, function_in}
use Rattle.fresh_bridging.specs.FreshBridging.{FreshBridging}
use Rattle.fresh_bridging.specs.TheRules.{Setting, edge_at}
use Rattle.item_core.specs.declared.family.Family.{Family}
use Rattle.item_core.specs.declared.family.Family.TheVariants as family
use Rattle.item_core.specs.declared.item.Item.{Item}
use Rattle.item_core.specs.Edge.{family_of}
use Rattle.ratio_core.specs.Folds.{FoldFits, sum_from}
use Rattle.ratio_core.specs.Rational.{Rational, one_ℚ, zero_ℚ, ◌*ℚ◌}
use Rattle.rational_laws.specs.Dot.{negated}
use Rattle.set_core.specs.Membership.{low_of}
use Rattle.tree_laws.specs.Carried.{LeafAnswerDuals, backs}
use Rattle.tree_laws.specs.Certificate.{cancelling, infeasible_duals, optimal_duals, point_of, rows_of}
use Rattle.user_model.specs.Model.{ModelValue}
use Rattle.map_laws.specs.EachLaws.{all_from_map, zip_of_maps}
use Rattle.renumbering_laws.specs.RenamedDuals.{DualsAgree, backs_alike, row_count-renamed}
use Rattle.renumbering_laws.specs.RenamedEntries.{renamed_entry}
use Rattle.renumbering_laws.specs.RenamedForm.{AgreeRenamed, AnswersAgree, map_kept}
use Rattle.renumbering_laws.specs.RenamedFunctions.{constant-renamed, terms-renamed}
use Rattle.renumbering_laws.specs.RenamedItems.{IsRenaming, map_either, renamed, renamed_item, size-renamed}
use Rattle.renumbering_laws.specs.RenamedTrees.{Alike, InAlike, alike_by, alike_each_in, alike_native, alike_none_in}
use Rattle.renumbering_laws.specs.RenumberedCertificateLaws.{adjoint_of_rows-renumbered, at_point-renumbered, cancelling-renumbered, coefficients-renamed, constants-renamed, expression-renumbered, groups_with-renumbered, objective_coefficient-renumbered, objective_function-renumbered, point-renumbered, renamed_held, rows-renumbered, rows_with-renumbered, sense-renumbered, user_addresses}
use Rattle.renumbering_laws.specs.RenumberedModel.{IsRising, Renumbered, Renumbering, over, renumbered, renumbered_group, renumbered_model, renumbered_row, renumbers}

-- ---- stages

-- what fits of one fits of the other, and what is reported of one, of the other at a new address
pub record IsStage (σ : Address → Address) (Fits Other : Type 0) (Told OtherTold : Address → Type 0)
    : Type 0 where
  pub fits : Fits → Other
  pub fitted : Other → Fits
  pub told : (at : Address) → Told at → OtherTold (σ at)

along : {P Q : Type 0} → P ≡ Q → P → Q
along same = subst (λ X. X) same

module _ (σ : Address → Address) where
  stage_nowhere : IsStage σ (Unit {0}) (Unit {0}) (λ at. ⊥) (λ at. ⊥)
  stage_nowhere = record { fits = λ h. h; fitted = λ h. h; told = λ at h. h }

  stage_at : (P Q : Type 0) → Q ≡ P → (place other : Address) → other ≡ σ place
      → IsStage σ P Q (λ at. ¬ P × (place ≡ at)) (λ at. ¬ Q × (other ≡ at))
  stage_at P Q same place other is = record {
    fits = along (sym same);
    fitted = along same;
    told = λ at h. (λ q. h.0 (along same q), is ∙ ap σ h.1);
  }

  module _ {A B C D : Type 0} {Not Other NotLater OtherLater : Address → Type 0}
      (now : IsStage σ A B Not Other) (later : IsStage σ C D NotLater OtherLater) where
    then_told : (at : Address) → Then (Not at) A (NotLater at)
        → Then (Other (σ at)) B (OtherLater (σ at))
    then_told at (inl h) = inl (now.told at h)
    then_told at (inr h) = inr (now.fits h.0, later.told at h.1)

    stage_then : IsStage σ (A × C) (B × D) (λ at. Then (Not at) A (NotLater at))
        (λ at. Then (Other at) B (OtherLater at))
    stage_then = record {
      fits = λ h. (now.fits h.0, later.fits h.1);
      fitted = λ h. (now.fitted h.0, later.fitted h.1);
      told = then_told;
    }

  -- ---- lists of addresses

  module _ (P Q : Address → Type 0) (same : (v : Address) → Q (σ v) ≡ P v) where
    first_not : (us : List Address) (at : Address) → FirstNot P (λ v. v) us at
        → FirstNot Q (λ v. v) (map σ us) (σ at)
    unfolding FirstNot
    first_not [] at h = h
    first_not (u ∷ us) at h =
        let rest : IsStage σ (Unit {0}) (Unit {0}) (FirstNot P (λ v. v) us)
        (FirstNot Q (λ v. v) (map σ us)) =
        record { fits = λ x. x; fitted = λ x. x; told = first_not us } in
        then_told (stage_at (P u) (Q (σ u)) (same u) u (σ u) refl) rest at h

    stage_list : (us : List Address)
        → IsStage σ (All P us) (All Q (map σ us)) (FirstNot P (λ v. v) us)
        (FirstNot Q (λ v. v) (map σ us))
    stage_list us = record {
      fits = λ h. All-map Q σ us (All-weaker P (λ v. Q (σ v)) (λ v. along (sym (same v))) us h);
      fitted = λ h. All-weaker (λ v. Q (σ v)) P (λ v. along (same v)) us (all_from_map Q σ us h);
      told = first_not us;
    }

-- ---- functions, rows and gaps

module _ (σ : Address → Address) (r : IsRenaming σ) where
  evaluation_fits : (one : Rational) (f : Function) (x y : Address → Rational) → AgreeRenamed σ x y
      → EvaluationFits one (renamed σ f) y ≡ EvaluationFits one f x
  evaluation_fits one f x y same =
      ap₂ (λ c ts. AddUp (one *ℚ c) (products_at ts y)) (constant-renamed σ r.order f)
      (terms-renamed σ r.order f)
      ∙ ap (AddUp (one *ℚ f.constant))
      (map_kept (λ t. (σ t.0, t.1)) (λ t. t.1 *ℚ y t.0) (λ t. t.1 *ℚ x t.0)
      (λ t. ap (λ q. t.1 *ℚ q) (same t.0)) (terms_of f))

  adjoint_parts-renamed : (hs : List DualRow) (v : Address)
      → adjoint_parts (map (renamed_held σ) hs) (σ v) ≡ adjoint_parts hs v
  adjoint_parts-renamed [] v = refl
  adjoint_parts-renamed (h ∷ hs) v =
      ap₂ (λ a b. products h.duals a ++ b) (coefficients-renamed σ r h.functions v)
      (adjoint_parts-renamed hs v)

  gap_parts-renamed : (h : DualRow) → gap_parts_of (renamed_held σ h) ≡ gap_parts_of h
  gap_parts-renamed h =
      ap (λ cs. low_of h.set h.duals ∷ negated (products h.duals cs))
      (constants-renamed σ r h.functions)

  abbrev placed_held : Address × DualRow → Address × DualRow
  placed_held p = (σ p.0, renamed_held σ p.1)

  stage_gap : (sum : Rational) (hs : List (Address × DualRow))
      → IsStage σ (GapFits sum hs) (GapFits sum (map placed_held hs)) (UnfitGap sum hs)
      (UnfitGap sum (map placed_held hs))
  unfolding GapFits UnfitGap
  stage_gap sum [] = stage_nowhere σ
  stage_gap sum (h ∷ hs) =
      subst
      (λ parts. IsStage σ
      (AddUp sum (gap_parts_of h.1) × GapFits (sum_from sum (gap_parts_of h.1)) hs)
      (AddUp sum parts × GapFits (sum_from sum parts) (map placed_held hs))
      (λ at. Then (¬ (AddUp sum (gap_parts_of h.1)) × (h.0 ≡ at)) (AddUp sum (gap_parts_of h.1))
      (UnfitGap (sum_from sum (gap_parts_of h.1)) hs at))
      (λ at. Then (¬ (AddUp sum parts) × (σ h.0 ≡ at)) (AddUp sum parts)
      (UnfitGap (sum_from sum parts) (map placed_held hs) at)))
      (sym (gap_parts-renamed h.1))
      (stage_then σ (stage_at σ (AddUp sum (gap_parts_of h.1)) (AddUp sum (gap_parts_of h.1)) refl
      h.0 (σ h.0) refl) (stage_gap (sum_from sum (gap_parts_of h.1)) hs))

  by_family : (f : Family) (item : Item) (ys : List (List Rational))
      → BackFitsBy f (renamed_item σ item) ys ≡ BackFitsBy f item ys
  unfolding BackFitsBy
  by_family family.NormInfinity item ys =
      ap (λ n. FoldFits zero_ℚ (first_of ys) × AcrossFits (n - 1) (first_of ys))
      (size-renamed σ r item.body)
  by_family family.NormOne item ys =
      ap (λ n. AcrossFits (n - 1) (tail_of (first_of ys))) (size-renamed σ r item.body)
  by_family _ item ys = refl

  module _ (rules : Rules Item Entry) (g : Entry → Entry) (d e : LeafAnswerDuals)
      (same : DualsAgree σ d e) where
    abbrev NodeFits : ℕ → Item → (ℕ → Type 0) → List (List Rational) → Type 0
    NodeFits edge item Fits ys =
        let count = length (image_of (edge_at edge) item).rows in
        Fits count × BackFits (edge_at edge) item (take count ys)

    node_fits : (edge : ℕ) (item other : Item) → other ≡ renamed_item σ item
        → (P Q : ℕ → Type 0) → ((n : ℕ) → Q n ≡ P n) → (xs ys : List (List Rational)) → xs ≡ ys
        → NodeFits edge other Q xs ≡ NodeFits edge item P ys
    node_fits edge item other at P Q alike xs ys is =
        let count = length (image_of (edge_at edge) item).rows in
        (λ i. NodeFits edge (at i) (λ n. alike n i) (is i))
        ∙ (λ i. P (row_count-renamed σ r (edge_at edge) item i)
        × BackFits (edge_at edge) (renamed_item σ item)
        (take (row_count-renamed σ r (edge_at edge) item i) ys))
        ∙ ap (λ F. P count × F) (by_family (family_of (edge_at edge)) item (take count ys))

    mutual
      unfolding RowFits

      row_fits_alike : {item other : Item} {es fs : List Entry} {tree : Bridged rules item es}
          {second : Bridged rules other fs}
          → Alike rules (renamed_item σ) g item other es fs tree second
          → RowFits e second ≡ RowFits d tree
      row_fits_alike (alike_native {item} {other} at c k) = refl
      row_fits_alike (alike_by {item} {other} {edge} at c k {os = os} {ps = ps} groups others) =
          node_fits edge item other at (λ n. RowsFit d n os) (λ n. RowsFit e n ps)
          (λ n. rows_fit_alike others n) (backs e ps) (backs d os)
          (backs_alike σ r rules g d e same others)

      rows_fit_alike : {inner after : List Entry} {items others : List Item}
          {trees : EachBridgedIn rules inner items} {second : EachBridgedIn rules after others}
          → InAlike rules (renamed_item σ) g inner after items others trees second → (n : ℕ)
          → RowsFit e n second ≡ RowsFit d n trees
      rows_fit_alike alike_none_in zero = refl
      rows_fit_alike alike_none_in (suc n) = refl
      rows_fit_alike (alike_each_in after at first rest) zero = refl
      rows_fit_alike (alike_each_in after at first rest) (suc n) =
          ap₂ (λ A B. A × B) (row_fits_alike first) (rows_fit_alike rest n)

    stage_rows : {inner after : List Entry} {items others : List Item}
        {trees : EachBridgedIn rules inner items} {second : EachBridgedIn rules after others}
        → InAlike rules (renamed_item σ) g inner after items others trees second → (n : ℕ)
        → IsStage σ (RowsFit d n trees) (RowsFit e n second) (UnfitRow d n trees)
        (UnfitRow e n second)
    unfolding RowsFit UnfitRow
    stage_rows alike_none_in zero = stage_nowhere σ
    stage_rows alike_none_in (suc n) = stage_nowhere σ
    stage_rows (alike_each_in after at first rest) zero = stage_nowhere σ
    stage_rows (alike_each_in {item = item} {other = other} after at {first = one} {second = two}
        first rest) (suc n) =
        stage_then σ (stage_at σ (RowFits d one) (RowFits e two) (row_fits_alike first) item.at
        other.at (ap (λ i. i.at) at)) (stage_rows rest n)

-- ---- of a model

module _ (ν : Renumbering) (rising : IsRising ν) (model : ModelValue) where
  abbrev σ : Address → Address
  σ = renumbered ν

  abbrev r : IsRenaming (renumbered ν)
  r = renumbers ν rising

  abbrev renewed : ModelValue
  renewed = renumbered_model ν model

  -- of each of the user's variables
  stage_users : (P Q : Address → Type 0) → ((v : Address) → Q (σ v) ≡ P v)
      → IsStage σ (All P (users model)) (All Q (users renewed)) (FirstNot P (λ v. v) (users model))
      (FirstNot Q (λ v. v) (users renewed))
  stage_users P Q same =
      subst (λ us. IsStage σ (All P (users model)) (All Q us) (FirstNot P (λ v. v) (users model))
      (FirstNot Q (λ v. v) us)) (sym (user_addresses ν model))
      (stage_list σ P Q same (users model))

  objective_fits : (x : List Rational)
      → ObjectiveValueFits renewed one_ℚ x ≡ ObjectiveValueFits model one_ℚ x
  objective_fits x =
      ap (λ f. EvaluationFits one_ℚ f (at_point renewed x))
      (objective_function-renumbered ν rising model.objective)
      ∙ evaluation_fits σ r one_ℚ (objective_function model.objective) (at_point model x)
      (at_point renewed x) (at_point-renumbered ν rising model x)

  module _ (rows : List (List Rational)) where
    adjoint_fits : (v : Address) → AdjointFits renewed rows (σ v) ≡ AdjointFits model rows v
    adjoint_fits v =
        ap (λ hs. AddUp zero_ℚ (adjoint_parts hs (σ v)))
        (rows_with-renumbered ν rising rows model.rows)
        ∙ ap (AddUp zero_ℚ) (adjoint_parts-renamed σ r (rows_with rows model.rows) v)

    dual_fits : (v : Address) → VariableDualFits renewed rows (σ v) ≡ VariableDualFits model rows v
    dual_fits v =
        λ i. adjoint_fits v i × CostFits (sense-renumbered ν model.objective i)
        (objective_coefficient-renumbered ν rising model v i)
        (adjoint_of_rows-renumbered ν rising model rows v i)

    placed-renumbered : (x : List Rational)
        → placed renewed rows x ≡ map (placed_held σ r) (placed model rows x)
    placed-renumbered x =
        ap₂ (λ a b. a ++ b)
        (ap₂ zip (map_either (renumbered_row ν) row_place row_place σ (λ row. refl) model.rows)
        (rows_with-renumbered ν rising rows model.rows)
        ∙ zip_of_maps σ (renamed_held σ) (map row_place model.rows) (rows_with rows model.rows))
        (ap₂ zip (map_either (renumbered_group ν) group_place group_place σ
        (λ group. refl) model.groups)
        (groups_with-renumbered ν rising (at_point model x) (at_point renewed x)
        (at_point-renumbered ν rising model x) model.groups)
        ∙ zip_of_maps σ (renamed_held σ) (map group_place model.groups)
        (groups_with (at_point model x) model.groups))
        ∙ sym (map-append (placed_held σ r) (placed_rows model rows) (placed_groups model x))

-- ---- of an answer

module _ (ν : Renumbering) (rising : IsRising ν) {setting : Setting} {model : ModelValue}
    (b : FreshBridging setting model) (m : Renumbered ν rising b) where
  abbrev second : FreshBridging setting (renumbered_model ν model)
  second = over ν rising b m

  abbrev expression : Address → Function
  expression = function_in b.made.entries

  abbrev other_expression : Address → Function
  other_expression = function_in m.made.entries

  variable_fits : (one : Rational) (x y : Address → Rational) → AgreeRenamed (renumbered ν) x y
      → (v : Address)
      → EvaluationFits one (other_expression (renumbered ν v)) y
      ≡ EvaluationFits one (expression v) x
  variable_fits one x y same v =
      ap (λ f. EvaluationFits one f y) (expression-renumbered ν rising b m v)
      ∙ evaluation_fits (renumbered ν) (renumbers ν rising) one (expression v) x y same

  stage_all_rows : (d e : LeafAnswerDuals) → DualsAgree (renumbered ν) d e
      → IsStage (renumbered ν) (RowsFit d (length model.rows) b.made.others)
      (RowsFit e (length (renumbered_model ν model).rows) m.made.others)
      (UnfitRow d (length model.rows) b.made.others)
      (UnfitRow e (length (renumbered_model ν model).rows) m.made.others)
  stage_all_rows d e same =
      subst
      (λ n. IsStage (renumbered ν) (RowsFit d (length model.rows) b.made.others)
      (RowsFit e n m.made.others) (UnfitRow d (length model.rows) b.made.others)
      (UnfitRow e n m.made.others))
      (sym (length-map model.rows (renumbered_row ν)))
      (stage_rows (renumbered ν) (renumbers ν rising) _ (renamed_entry (renumbered ν)) d e same
      m.others (length model.rows))

  module _ (rows more : List (List Rational)) (same : more ≡ rows) where
    other_adjoint_fits : (v : Address)
        → AdjointFits (renumbered_model ν model) more (renumbered ν v) ≡ AdjointFits model rows v
    other_adjoint_fits v =
        ap (λ rs. AdjointFits (renumbered_model ν model) rs (renumbered ν v)) same
        ∙ adjoint_fits ν rising model rows v

    other_dual_fits : (v : Address)
        → VariableDualFits (renumbered_model ν model) more (renumbered ν v) ≡ VariableDualFits model rows v
    other_dual_fits v =
        ap (λ rs. VariableDualFits (renumbered_model ν model) rs (renumbered ν v)) same
        ∙ dual_fits ν rising model rows v

    stage_whole_gap : IsStage (renumbered ν) (GapFits zero_ℚ (gap_parts_placed model rows))
        (GapFits zero_ℚ (gap_parts_placed (renumbered_model ν model) more))
        (UnfitGap zero_ℚ (gap_parts_placed model rows))
        (UnfitGap zero_ℚ (gap_parts_placed (renumbered_model ν model) more))
    stage_whole_gap =
        subst
        (λ hs. IsStage (renumbered ν) (GapFits zero_ℚ (gap_parts_placed model rows))
        (GapFits zero_ℚ hs) (UnfitGap zero_ℚ (gap_parts_placed model rows)) (UnfitGap zero_ℚ hs))
        (sym (ap (gap_parts_placed (renumbered_model ν model)) same
        ∙ ap (placed (renumbered_model ν model) rows) (cancelling-renumbered ν rising b m rows)
        ∙ placed-renumbered ν rising model rows (cancelling b rows)))
        (stage_gap (renumbered ν) (renumbers ν rising) zero_ℚ (gap_parts_placed model rows))

  pub stage_answer : (one other : AnswerByAddress) → AnswersAgree (renumbered ν) one other
      → IsStage (renumbered ν) (AllFits b one) (AllFits second other) (IsFirstUnfitAddress b one)
      (IsFirstUnfitAddress second other)
  stage_answer (optimal x y) (optimal u w) same =
      let d = optimal_duals b y in
      let e = optimal_duals second w in
      let agree : DualsAgree (renumbered ν) d e = record { objective = refl; duals = same.1 } in
      let rows : rows_of second e ≡ rows_of b d = rows-renumbered ν rising b m d e agree in
      let goal : ObjectiveValueFits (renumbered_model ν model) one_ℚ (point_of second u)
      ≡ ObjectiveValueFits model one_ℚ (point_of b x) =
      ap (ObjectiveValueFits (renumbered_model ν model) one_ℚ)
      (point-renumbered ν rising b m x u same.0)
      ∙ objective_fits ν rising model (point_of b x) in
      stage_then (renumbered ν)
      (stage_users ν rising model (VariableValueFits model expression x)
      (VariableValueFits (renumbered_model ν model) other_expression u)
      (variable_fits one_ℚ x u same.0))
      (stage_then (renumbered ν) (stage_all_rows d e agree)
      (stage_then (renumbered ν)
      (stage_users ν rising model (VariableDualFits model (rows_of b d))
      (VariableDualFits (renumbered_model ν model) (rows_of second e))
      (other_dual_fits (rows_of b d) (rows_of second e) rows))
      (stage_at (renumbered ν) (ObjectiveValueFits model one_ℚ (point_of b x))
      (ObjectiveValueFits (renumbered_model ν model) one_ℚ (point_of second u)) goal
      (root_address root.Objective 0) (root_address root.Objective 0) refl)))
  stage_answer (infeasible y) (infeasible w) same =
      let d = infeasible_duals b y in
      let e = infeasible_duals second w in
      let agree : DualsAgree (renumbered ν) d e = record { objective = refl; duals = same } in
      let rows : rows_of second e ≡ rows_of b d = rows-renumbered ν rising b m d e agree in
      stage_then (renumbered ν) (stage_all_rows d e agree)
      (stage_then (renumbered ν)
      (stage_users ν rising model (AdjointFits model (rows_of b d))
      (AdjointFits (renumbered_model ν model) (rows_of second e))
      (other_adjoint_fits (rows_of b d) (rows_of second e) rows))
      (stage_whole_gap (rows_of b d) (rows_of second e) rows))
  stage_answer (unbounded x d) (unbounded u e) same =
      stage_users ν rising model (PointAndRayFit model expression x d)
      (PointAndRayFit (renumbered_model ν model) other_expression u e)
      (λ v i. variable_fits one_ℚ x u same.0 v i × variable_fits zero_ℚ d e same.1 v i)
  stage_answer _ _ same = absurd same
