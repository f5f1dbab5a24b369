-- What bridges and the map give holds of the bridging.
use Rattle.std.specs.Prelude.{◌≡◌, zero, suc, Bool, true, false, cond, List, [], ◌∷◌, All, Contains, IfOk, Result, Ok, Err, Some, map, unwrap_or, refl}
use Rattle.std.specs.FinMap as finite
use Rattle.std.specs.FinMap.Entries.{find}
use Rattle.std.proofs.Common.{arith, ap, ap₂, inl, inr, subst, sym, ◌∙◌}
use Rattle.std.proofs.lemmas.List.Elements.{All-head, All-tail}
use Rattle.map_laws.specs.EachLaws.{map_same_on}
use Rattle.ratio_core.specs.Rational.{Rational, one_ℚ, zero_ℚ}
use Rattle.address_map.specs.AddressMap.{AddressMap}
use Rattle.aff_core.specs.Address.{Address, address_cmp, address_eq, address_eq-Decides, address_total}
use Rattle.aff_core.specs.Function.{Function, slope, value_of, variable}
use Rattle.bridge_face.specs.Law.{expressed}
use Rattle.bridge_face.specs.BridgeState.{BridgeState}
use Rattle.cert_core.specs.Folds.{EvaluationFits, ObjectiveValueFits}
use Rattle.certificates.specs.Duals.{dual_gap}
use Rattle.certificates.specs.Good.{Good}
use Rattle.certificates.specs.Points.{objective_value}
use Rattle.certificates.specs.declared.certificate.Certificate.{Certificate}
use Rattle.certificates.specs.declared.certificate.Certificate.TheVariants.{Infeasible, Optimal, Unbounded}
use Rattle.equality_form.specs.ReadBack.{AnswerByAddress, infeasible, optimal, unbounded}
use Rattle.equality_form.specs.Right.{IsRight}
use Rattle.fresh_bridging.specs.Entries.{function_in}
use Rattle.fresh_bridging.specs.FreshBridging.{FreshBridging, expression_of, leaves_of}
use Rattle.tree_laws.specs.Certificate.{certificate_of, infeasible_duals, optimal_duals}
use Rattle.tree_laws.specs.GoodLaws.{right_is_good}
use Rattle.user_model.specs.Model.{ModelValue}
use Rattle.user_model.specs.Valid.{IsValid}
use Rattle.adjoint_core.specs.CanCarry.{CanCarry, HasLeafDuals}
use Rattle.adjoint_core.specs.CarriedBack.{AdjointFits, AllFits, CarriesAnswerBack, GapFits, InfeasibleBackFits, IsFirstUnfitAddress, IsUnfitInfeasible, IsUnfitOptimal, OptimalBackFits, PointAndRayFit, UnfitGap, VariableDualFits, cancelled, gap_parts_placed, point, ray, reduced, users}
use Rattle.adjoint_core.specs.Read.{expression_at}
use Rattle.adjoint_core.specs.Told.{FirstNot, TellsCarried}
use Rattle.adjoint_core.specs.Walk.{IsUnfitAmong, RowDualFits, row_dual}
use Rattle.adjoint_core.specs.declared.fault.BackFault.{BackFault}
use Rattle.adjoint_core.proofs.InOrder.{told_alike}
use Rattle.adjoint_core.proofs.RowDuals.{RowsCarried, all_in, rows_carried}

-- ---- what is listed under an address

listed : (f : Address → Function) (vs : List Address) (v : Address) → Contains vs v
    → find address_cmp v (map (λ u. (u, f u)) vs) ≡ Some (f v)
listed f [] v c = absurd (omega (arith, c.1))
listed f (u ∷ vs) v c = by (address_eq v u) refl c (λ k. listed f vs v k)
  where
    by : (b : Bool) → address_eq v u ≡ b → Contains (u ∷ vs) v
        → (Contains vs v → find address_cmp v (map (λ w. (w, f w)) vs) ≡ Some (f v))
        → cond b (Some (f u)) (find address_cmp v (map (λ w. (w, f w)) vs)) ≡ Some (f v)
    by true same k rest = ap (λ w. Some (f w)) (sym ((address_eq-Decides v u).0 same))
    by false other (zero, inside, is) rest =
        absurd (differ (sym ((address_eq-Decides v u).1 (sym is)) ∙ other))
      where
        differ : true ≡ false → ⊥
        differ e = cc
    by false other (suc n, inside, is) rest = rest (n, omega (arith, inside), is)

-- ---- functions that agree at the variables

module _ (e f : Address → Function) where
  all_same : (G : Function → Type 0) (us : List Address) → All (λ v. e v ≡ f v) us
      → All (λ v. G (e v)) us → All (λ v. G (f v)) us
  all_same G us same h = λ k d lt. subst G (same k d lt) (h k d lt)

  map_same : (g : Function → Rational) (us : List Address) → All (λ v. e v ≡ f v) us
      → map (λ v. g (e v)) us ≡ map (λ v. g (f v)) us
  map_same g us same =
      map_same_on (λ v. g (e v)) (λ v. g (f v)) us (λ k d lt. ap g (same k d lt))

  first_same : (G : Function → Type 0) (us : List Address) (at : Address)
      → All (λ v. e v ≡ f v) us → FirstNot (λ v. G (e v)) (λ v. v) us at
      → FirstNot (λ v. G (f v)) (λ v. v) us at
  unfolding FirstNot
  first_same G [] at same h = h
  first_same G (u ∷ us) at same (inl n) =
      inl ((λ g. n.0 (subst G (sym (All-head (λ v. e v ≡ f v) u us same)) g)), n.1)
  first_same G (u ∷ us) at same (inr k) =
      inr (
        subst G (All-head (λ v. e v ≡ f v) u us same) k.0,
        first_same G us at (All-tail (λ v. e v ≡ f v) u us same) k.1,
      )

-- ---- a model that is bridged

module _ (states : List BridgeState) (places : AddressMap) (model : ModelValue) (answer : AnswerByAddress)
    (can : CanCarry states places model answer) (valid : IsValid model) where
  abbrev bridging : FreshBridging can.setting model
  bridging = can.bridging

  abbrev read : Address → Function
  read = expression_at places.exprs

  abbrev meant : Address → Function
  meant = function_in bridging.made.entries

  same_expressions : All (λ v. read v ≡ meant v) (users model)
  same_expressions =
      all_in (λ v. read v ≡ meant v) (users model)
      (λ v c. ap (λ o. unwrap_or o (variable v))
      (ap (λ m. finite.get m v) can.exprs
      ∙ finite.get-from_entries address_total
      (map (λ u. (u, expressed (expression_of bridging u))) (users model)) v
      ∙ listed meant (users model) v c))

  same_point : (x : Address → Rational) → point model read x ≡ point model meant x
  same_point x = map_same read meant (λ g. value_of g x) (users model) same_expressions

  same_ray : (x : Address → Rational) → ray model read x ≡ ray model meant x
  same_ray x = map_same read meant (λ g. slope g x) (users model) same_expressions

  -- ---- no least value

  pub unbounded_told : (x d : Address → Rational) (r : Result Certificate BackFault)
      → TellsCarried r (All (PointAndRayFit model read x d) (users model))
      (λ c. c ≡ Unbounded (point model read x) (ray model read d))
      (FirstNot (PointAndRayFit model read x d) (λ v. v) (users model))
      → CarriesAnswerBack bridging (unbounded x d) r
  unbounded_told x d r h =
      told_alike r (All (PointAndRayFit model read x d) (users model)) (AllFits bridging (unbounded x d))
      (λ c. c ≡ Unbounded (point model read x) (ray model read d))
      (λ c. c ≡ certificate_of bridging (unbounded x d))
      (FirstNot (PointAndRayFit model read x d) (λ v. v) (users model))
      (IsFirstUnfitAddress bridging (unbounded x d)) h
      (all_same read meant (λ g. EvaluationFits one_ℚ g x × EvaluationFits zero_ℚ g d) (users model)
      same_expressions)
      (λ c is. is ∙ ap₂ Unbounded (same_point x) (same_ray d))
      (λ at k. first_same read meant (λ g. EvaluationFits one_ℚ g x × EvaluationFits zero_ℚ g d)
      (users model) at same_expressions k)

  -- ---- the duals of rows

  module _ (y : Address → List Rational) (sizes : HasLeafDuals (leaves_of bridging) y) where
    abbrev duals : List (List Rational)
    duals = map (row_dual states y) model.rows

    abbrev Fit : Type 0
    Fit = All (RowDualFits states y) model.rows

    abbrev Unfit : Address → Type 0
    Unfit = IsUnfitAmong states y model.rows

    -- ---- a least value

    module _ (x : Address → Rational) where
      abbrev rows : RowsCarried states places model answer can valid (optimal_duals bridging y)
          sizes
      rows = rows_carried states places model answer can valid (optimal_duals bridging y) sizes

      optimal_fits : OptimalBackFits model duals Fit Unfit read x → AllFits bridging (optimal x y)
      optimal_fits h = (
        all_same read meant (λ g. EvaluationFits one_ℚ g x) (users model) same_expressions h.0,
        (
          rows.only h.1.0,
          (
            subst (λ l. All (VariableDualFits model l) (users model)) rows.same h.1.1.0,
            subst (ObjectiveValueFits model one_ℚ) (same_point x) h.1.1.1,
          ),
        ),
      )

      optimal_is : (c : Certificate)
          → c ≡ Optimal (objective_value model (point model read x)) (point model read x) duals
          (reduced model duals)
          → c ≡ certificate_of bridging (optimal x y)
      optimal_is c is =
          is
          ∙ ap₂ (λ p l. Optimal (objective_value model p) p l (reduced model l)) (same_point x)
          rows.same

      optimal_unfit : (at : Address) → IsUnfitOptimal model duals Fit Unfit read x at
          → IsFirstUnfitAddress bridging (optimal x y) at
      optimal_unfit at (inl h) =
          inl (first_same read meant (λ g. EvaluationFits one_ℚ g x) (users model) at
          same_expressions h)
      optimal_unfit at (inr (v, inl h)) =
          inr (
            all_same read meant (λ g. EvaluationFits one_ℚ g x) (users model) same_expressions v,
            inl (rows.unfit at h),
          )
      optimal_unfit at (inr (v, inr (f, inl h))) =
          inr (
            all_same read meant (λ g. EvaluationFits one_ℚ g x) (users model) same_expressions v,
            inr (
              rows.only f,
              inl (subst (λ l. FirstNot (VariableDualFits model l) (λ v. v) (users model) at)
                  rows.same h),
            ),
          )
      optimal_unfit at (inr (v, inr (f, inr (q, h)))) =
          inr (
            all_same read meant (λ g. EvaluationFits one_ℚ g x) (users model) same_expressions v,
            inr (
              rows.only f,
              inr (
                subst (λ l. All (VariableDualFits model l) (users model)) rows.same q,
                ((λ o. h.0 (subst (ObjectiveValueFits model one_ℚ) (sym (same_point x)) o)), h.1),
              ),
            ),
          )

      pub optimal_told : (r : Result Certificate BackFault)
          → TellsCarried r (OptimalBackFits model duals Fit Unfit read x)
          (λ c. c ≡ Optimal (objective_value model (point model read x)) (point model read x) duals
          (reduced model duals))
          (IsUnfitOptimal model duals Fit Unfit read x)
          → CarriesAnswerBack bridging (optimal x y) r
      optimal_told r h =
          told_alike r (OptimalBackFits model duals Fit Unfit read x) (AllFits bridging (optimal x y))
          (λ c. c ≡ Optimal (objective_value model (point model read x)) (point model read x) duals
          (reduced model duals))
          (λ c. c ≡ certificate_of bridging (optimal x y))
          (IsUnfitOptimal model duals Fit Unfit read x) (IsFirstUnfitAddress bridging (optimal x y)) h
          optimal_fits optimal_is optimal_unfit

    -- ---- no feasible point

    abbrev none_rows : RowsCarried states places model answer can valid
        (infeasible_duals bridging y) sizes
    none_rows =
        rows_carried states places model answer can valid (infeasible_duals bridging y) sizes

    infeasible_fits : InfeasibleBackFits model duals Fit Unfit
        → AllFits bridging (infeasible y)
    infeasible_fits h = (
      none_rows.only h.0,
      (
        subst (λ l. All (AdjointFits model l) (users model)) none_rows.same h.1.0,
        subst (λ l. GapFits zero_ℚ (gap_parts_placed model l)) none_rows.same h.1.1,
      ),
    )

    infeasible_is : (c : Certificate)
        → c ≡ Infeasible (dual_gap model duals (cancelled model duals)) duals
        (cancelled model duals)
        → c ≡ certificate_of bridging (infeasible y)
    infeasible_is c is =
        is
        ∙ ap (λ l. Infeasible (dual_gap model l (cancelled model l)) l (cancelled model l))
        none_rows.same

    infeasible_unfit : (at : Address) → IsUnfitInfeasible model duals Fit Unfit at
        → IsFirstUnfitAddress bridging (infeasible y) at
    infeasible_unfit at (inl h) = inl (none_rows.unfit at h)
    infeasible_unfit at (inr (f, inl h)) =
        inr (
          none_rows.only f,
          inl (subst (λ l. FirstNot (AdjointFits model l) (λ v. v) (users model) at)
              none_rows.same h),
        )
    infeasible_unfit at (inr (f, inr (q, h))) =
        inr (
          none_rows.only f,
          inr (
            subst (λ l. All (AdjointFits model l) (users model)) none_rows.same q,
            subst (λ l. UnfitGap zero_ℚ (gap_parts_placed model l) at) none_rows.same h,
          ),
        )

    pub infeasible_told : (r : Result Certificate BackFault)
        → TellsCarried r (InfeasibleBackFits model duals Fit Unfit)
        (λ c. c ≡ Infeasible (dual_gap model duals (cancelled model duals)) duals
        (cancelled model duals))
        (IsUnfitInfeasible model duals Fit Unfit)
        → CarriesAnswerBack bridging (infeasible y) r
    infeasible_told r h =
        told_alike r (InfeasibleBackFits model duals Fit Unfit)
        (AllFits bridging (infeasible y))
        (λ c. c ≡ Infeasible (dual_gap model duals (cancelled model duals)) duals
        (cancelled model duals))
        (λ c. c ≡ certificate_of bridging (infeasible y))
        (IsUnfitInfeasible model duals Fit Unfit)
        (IsFirstUnfitAddress bridging (infeasible y)) h
        infeasible_fits infeasible_is infeasible_unfit

  -- ---- of a right answer

  pub good_if_ok : (r : Result Certificate BackFault) → CarriesAnswerBack bridging answer r
      → IsRight (leaves_of bridging) answer → IfOk r (Good model)
  good_if_ok (Ok c) h right =
      subst (Good model) (sym h.1)
      (right_is_good can.setting can.costly can.lawful can.native model valid bridging answer right)
  good_if_ok (Err e) h right = tt
