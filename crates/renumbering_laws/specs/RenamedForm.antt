-- The equality form of a solver's model doesn't know the addresses: under others in the same order
-- it is the same, and what is read off it is read back the same.
use Rattle.std.specs.Prelude.{◌≡◌, ◌+◌, ◌*◌, ℕ, suc, Bool, List, [], ◌∷◌, ◌++◌, All, cond, length, map, refl}
use Rattle.std.proofs.Common.{ap, ap₂, subst, sym, ◌∙◌, is_lt}
use Rattle.std.proofs.lemmas.List.{length-map}
use Rattle.std.proofs.lemmas.List.Elements.{All-map, All-weaker}
use Rattle.std.specs.FinMap as finite
use Rattle.std.specs.Ordering.{is_eq}
use mathlib.Core.List.{map-map}
use Rattle.ratio_core.specs.Rational.{Rational, SumFits, neg_ℚ, rational_cmp, zero_ℚ, ◌-ℚ◌}
use Rattle.aff_core.specs.Address.{Address}
use Rattle.aff_core.specs.Function.{Function, coefficient, negated, variable}
use Rattle.aff_core.specs.declared.sense.Sense.TheVariants.{Min, Max}
use Rattle.equality_form.specs.Columns.{parts_among, parts_of, slack_at, slacks_from}
use Rattle.equality_form.specs.EqualityForm.{cell_count, cells_from, cells_of, cost, cost_among, cost_of, costs_at, form_from, form_of_leaves, numbers_at, right_sides, row_cells, unit_at}
use Rattle.equality_form.specs.Equations.{Equation, RightFits, equations, equations_among, equations_for, equations_of, flipped, is_flipped, number_of, right_of, slack_of}
use Rattle.equality_form.specs.ReadBack.{AnswerByAddress, AnswerFits, LeafPointFits, ValuesFit, after, by_rows, duals_in, in_parts, infeasible, listed_at, optimal, point_in, read_back, unbounded, unflipped, value_in, values_in}
use Rattle.map_laws.specs.EachLaws.{all_from_map}
use Rattle.item_core.specs.declared.item.Body.{Body}
use Rattle.item_core.specs.declared.item.Body.TheVariants.{PlainObj, AffineObj}
use Rattle.item_core.specs.Item.{functions_of, set_of}
use Rattle.leaf_model.specs.LeafModel.{LeafModel}
use Rattle.simplex_core.specs.declared.answer.SolverAnswer.{SolverAnswer}
use Rattle.simplex_core.specs.declared.answer.SolverAnswer.TheVariants as solver
use Rattle.solver_store.specs.declared.leaf.LeafVar.{LeafVar}
use Rattle.solver_store.specs.declared.leaf.LeafVar.TheVariants as leaf
use Rattle.renumbering_laws.specs.RenamedFunctions.{coefficient-renamed, constant-renamed, constant_function-renamed, negated-renamed, variable-renamed}
use Rattle.renumbering_laws.specs.RenamedItems.{IsRenaming, functions-renamed, map_either, renamed, renamed_body, set-renamed, size-renamed}
use Rattle.renumbering_laws.specs.RenamedLeaves.{AreRenamedLeaves, flat_map_either}
use Rattle.renumbering_laws.specs.RenamedMaps.{moved_entries, renamed_entries}

-- a number of each element that is the same after the change
pub map_kept : {A B C : Type 0} (f : A → B) (k : B → C) (h : A → C) → ((x : A) → k (f x) ≡ h x)
    → (xs : List A) → map k (map f xs) ≡ map h xs
map_kept f k h same xs = map-map k f xs ∙ (λ i. map (λ x. same x i) xs)

module _ (σ : Address → Address) where
  abbrev renamed_equation : Equation → Equation
  renamed_equation e = record { function = renamed σ e.function; set = e.set }

  -- what is at the new addresses is what is at the old
  abbrev pub AgreeRenamed : {X : Type 0} → (Address → X) → (Address → X) → Type 0
  AgreeRenamed x y = (v : Address) → y (σ v) ≡ x v

  abbrev pub AnswersAgree : AnswerByAddress → AnswerByAddress → Type 0
  AnswersAgree (optimal x y) (optimal u v) = AgreeRenamed x u × AgreeRenamed y v
  AnswersAgree (infeasible y) (infeasible v) = AgreeRenamed y v
  AnswersAgree (unbounded x d) (unbounded u e) = AgreeRenamed x u × AgreeRenamed d e
  AnswersAgree _ _ = ⊥

  parts-renamed : (vars : List (Address × LeafVar))
      → parts_among (renamed_entries σ vars) ≡ renamed_entries σ (parts_among vars)
  parts-renamed vars =
      flat_map_either parts_of parts_of (λ e. (σ e.0, e.1)) (λ e. (σ e.0, e.1))
      (λ var. by var.0 var.1) vars
    where
      by : (v : Address) (var : LeafVar)
          → parts_of (σ v, var) ≡ renamed_entries σ (parts_of (v, var))
      by v leaf.Free = refl
      by v leaf.Nonneg = refl

  slacks-renamed : (k : ℕ) (es : List Equation)
      → slacks_from k (map renamed_equation es) ≡ slacks_from k es
  slacks-renamed k [] = refl
  slacks-renamed k (e ∷ es) =
      ap (λ l. slack_at k (slack_of e.set) ++ l) (slacks-renamed (suc k) es)

  values-kept : (vars : List (Address × LeafVar)) (x : List Rational)
      → values_in (renamed_entries σ vars) x ≡ values_in vars x
  values-kept [] x = refl
  values-kept (var ∷ vars) x = ap (λ l. value_in var.1 x ∷ l) (values-kept vars (after var.1 x))

  values_fit : (vars : List (Address × LeafVar)) (x : List Rational) → ValuesFit vars x
      → ValuesFit (renamed_entries σ vars) x
  values_fit [] x h = tt
  values_fit (var ∷ vars) x h = (h.0, values_fit vars (after var.1 x) h.1)

  values_fitted : (vars : List (Address × LeafVar)) (x : List Rational)
      → ValuesFit (renamed_entries σ vars) x → ValuesFit vars x
  values_fitted [] x h = tt
  values_fitted (var ∷ vars) x h = (h.0, values_fitted vars (after var.1 x) h.1)

module _ (σ : Address → Address) (r : IsRenaming σ) where
  -- ---- equations

  right-renamed : (e : Equation) → right_of (renamed_equation σ e) ≡ right_of e
  right-renamed e = ap (λ c. number_of e.set -ℚ c) (constant-renamed σ r.order e.function)

  flip-renamed : (e : Equation) → is_flipped (renamed_equation σ e) ≡ is_flipped e
  flip-renamed e = ap (λ q. is_lt (rational_cmp q zero_ℚ)) (right-renamed e)

  equations_of-renamed : (b : Body)
      → equations_of (renamed_body σ b) ≡ map (renamed_equation σ) (equations_of b)
  equations_of-renamed b =
      (λ i. equations_for (set-renamed σ b i) (functions-renamed σ r b i))
      ∙ map_either (renamed σ) (λ f. record { function = f; set = set_of b })
      (λ f. record { function = f; set = set_of b }) (renamed_equation σ) (λ f. refl)
      (functions_of b)

  numbers-renamed : (parts : List (Address × Bool)) (f : Function)
      → numbers_at (renamed_entries σ parts) (coefficient (renamed σ f))
      ≡ numbers_at parts (coefficient f)
  numbers-renamed parts f =
      map_kept (λ part. (σ part.0, part.1))
      (λ part. flipped part.1 (coefficient (renamed σ f) part.0))
      (λ part. flipped part.1 (coefficient f part.0))
      (λ part. ap (flipped part.1) (coefficient-renamed σ r.order f part.0)) parts

  module _ (parts : List (Address × Bool)) (slacks : List (ℕ × Bool)) where
    row_cells-renamed : (i : ℕ) (e : Equation)
        → row_cells (renamed_entries σ parts) slacks i (renamed_equation σ e)
        ≡ row_cells parts slacks i e
    row_cells-renamed i e =
        λ j. map (flipped (flip-renamed e j))
        (numbers-renamed parts e.function j ++ unit_at slacks i)

    cells-renamed : (i : ℕ) (es : List Equation)
        → cells_from (renamed_entries σ parts) slacks i (map (renamed_equation σ) es)
        ≡ cells_from parts slacks i es
    cells-renamed i [] = refl
    cells-renamed i (e ∷ es) =
        ap₂ (λ a b. a ++ b) (row_cells-renamed i e) (cells-renamed (suc i) es)

  rights-renamed : (es : List Equation)
      → right_sides (map (renamed_equation σ) es) ≡ right_sides es
  rights-renamed es =
      map_kept (renamed_equation σ) (λ e. flipped (is_flipped e) (right_of e))
      (λ e. flipped (is_flipped e) (right_of e))
      (λ e. ap₂ flipped (flip-renamed e) (right-renamed e)) es

  flips-renamed : (es : List Equation)
      → map is_flipped (map (renamed_equation σ) es) ≡ map is_flipped es
  flips-renamed es = map_kept (renamed_equation σ) is_flipped is_flipped flip-renamed es

  -- ---- costs

  cost_of-renamed : (b : Body) → cost_of (renamed_body σ b) ≡ renamed σ (cost_of b)
  cost_of-renamed (PlainObj Min var) = variable-renamed σ r.order var
  cost_of-renamed (PlainObj Max var) =
      ap negated (variable-renamed σ r.order var) ∙ negated-renamed σ r.order (variable var)
  cost_of-renamed (AffineObj Min func) = refl
  cost_of-renamed (AffineObj Max func) = negated-renamed σ r.order func
  cost_of-renamed _ = constant_function-renamed σ r.order zero_ℚ

  cost_among-renamed : (os : List (Address × Body))
      → cost_among (moved_entries σ (renamed_body σ) os) ≡ renamed σ (cost_among os)
  cost_among-renamed [] = constant_function-renamed σ r.order zero_ℚ
  cost_among-renamed (o ∷ os) = cost_of-renamed o.1

  -- ---- the form

  form_from-renamed : (vars : List (Address × LeafVar)) (es : List Equation) (f : Function)
      → form_from (renamed_entries σ vars) (map (renamed_equation σ) es) (renamed σ f)
      ≡ form_from vars es f
  form_from-renamed vars es f =
      let parts = parts-renamed σ vars in
      let slacks = slacks-renamed σ 0 es in
      let count = length-map es (renamed_equation σ) in
      let among = parts_among vars in
      let columns = length-map among (λ e. (σ e.0, e.1)) in
      (λ i. record {
        m = length (map (renamed_equation σ) es);
        c = length (parts i) + length (slacks i);
        matrix = cells_from (parts i) (slacks i) 0 (map (renamed_equation σ) es);
        right = rights-renamed es i;
        costs = costs_at (parts i) (slacks i) (renamed σ f);
        flips = flips-renamed es i;
      })
      ∙ (λ i. record {
        m = count i;
        c = columns i + length (slacks_from 0 es);
        matrix = cells-renamed among (slacks_from 0 es) 0 es i;
        right = right_sides es;
        costs = numbers-renamed among f i ++ map (λ slack. zero_ℚ) (slacks_from 0 es);
        flips = map is_flipped es;
      })

  cells_of-renamed : (vars : List (Address × LeafVar)) (es : List Equation)
      → cells_of (renamed_entries σ vars) (map (renamed_equation σ) es) ≡ cells_of vars es
  cells_of-renamed vars es =
      let parts = ap length (parts-renamed σ vars)
      ∙ length-map (parts_among vars) (λ e. (σ e.0, e.1)) in
      λ i. length-map es (renamed_equation σ) i
      * (parts i + length (slacks-renamed σ 0 es i) + length-map es (renamed_equation σ) i + 1)

  -- ---- points and duals

  keys-renamed : {X Y : Type 0} (h : X → Y) (es : List (Address × X))
      → map (λ e. e.0) (moved_entries σ h es) ≡ map σ (map (λ e. e.0) es)
  keys-renamed h [] = refl
  keys-renamed h (e ∷ es) = ap (λ l. σ e.0 ∷ l) (keys-renamed h es)

  listed-renamed : {X : Type 0} (none : X) (us : List Address) (xs : List X) (v : Address)
      → listed_at none (map σ us) xs (σ v) ≡ listed_at none us xs v
  listed-renamed none [] xs v = refl
  listed-renamed none (u ∷ us) [] v = refl
  listed-renamed none (u ∷ us) (x ∷ xs) v =
      ap₂ (λ c y. cond (is_eq c) x y) (r.order v u) (listed-renamed none us xs v)

  module _ (one other : LeafModel) (l : AreRenamedLeaves σ one other) where
    equations-renamed : equations other ≡ map (renamed_equation σ) (equations one)
    equations-renamed =
        ap equations_among l.rows
        ∙ flat_map_either (λ row. equations_of row.1) (λ row. equations_of row.1)
        (λ e. (σ e.0, renamed_body σ e.1)) (renamed_equation σ)
        (λ row. equations_of-renamed row.1) (finite.entries one.rows)

    cost-renamed : cost other ≡ renamed σ (cost one)
    cost-renamed = ap cost_among l.objective ∙ cost_among-renamed (finite.entries one.objective)

    -- the form is the same
    pub form-renamed : form_of_leaves other ≡ form_of_leaves one
    form-renamed =
        (λ i. form_from (l.variables i) (equations-renamed i) (cost-renamed i))
        ∙ form_from-renamed (finite.entries one.variables) (equations one) (cost one)

    pub cell_count-renamed : cell_count other ≡ cell_count one
    cell_count-renamed =
        (λ i. cells_of (l.variables i) (equations-renamed i))
        ∙ cells_of-renamed (finite.entries one.variables) (equations one)

    -- and so is whether its right sides fit
    pub rights_fit : All RightFits (equations one) → All RightFits (equations other)
    rights_fit h =
        subst (All RightFits) (sym equations-renamed)
        (All-map RightFits (renamed_equation σ) (equations one)
        (All-weaker RightFits (λ e. RightFits (renamed_equation σ e))
        (λ e. subst (λ c. SumFits (number_of e.set) (neg_ℚ c))
        (sym (constant-renamed σ r.order e.function))) (equations one) h))

    pub rights_fitted : All RightFits (equations other) → All RightFits (equations one)
    rights_fitted h =
        All-weaker (λ e. RightFits (renamed_equation σ e)) RightFits
        (λ e. subst (λ c. SumFits (number_of e.set) (neg_ℚ c))
        (constant-renamed σ r.order e.function)) (equations one)
        (all_from_map RightFits (renamed_equation σ) (equations one)
        (subst (All RightFits) equations-renamed h))

    point-renamed : (x : List Rational) → AgreeRenamed σ (point_in one x) (point_in other x)
    point-renamed x v =
        (λ i. listed_at zero_ℚ (map (λ e. e.0) (l.variables i)) (values_in (l.variables i) x) (σ v))
        ∙ (λ i. listed_at zero_ℚ (keys-renamed (λ var. var) (finite.entries one.variables) i)
        (values-kept σ (finite.entries one.variables) x i) (σ v))
        ∙ listed-renamed zero_ℚ (finite.keys one.variables)
        (values_in (finite.entries one.variables) x) v

    duals-renamed : (y : List Rational) → AgreeRenamed σ (duals_in one y) (duals_in other y)
    duals-renamed y v =
        let rows = finite.entries one.rows in
        (λ i. listed_at [] (map (λ e. e.0) (l.rows i))
        (by_rows (l.rows i) (unflipped (map is_flipped (equations-renamed i)) y)) (σ v))
        ∙ (λ i. listed_at [] (keys-renamed (renamed_body σ) rows i)
        (in_parts (map_kept {B = Address × Body} (λ e. (σ e.0, renamed_body σ e.1))
        (λ row. length (functions_of row.1)) (λ row. length (functions_of row.1))
        (λ row. size-renamed σ r row.1) rows i)
        (unflipped (flips-renamed (equations one) i) y)) (σ v))
        ∙ listed-renamed [] (finite.keys one.rows)
        (by_rows rows (unflipped (map is_flipped (equations one)) y)) v

    -- an answer is read back the same, at the new addresses
    pub read_back-renamed : (a : SolverAnswer)
        → AnswersAgree σ (read_back one a) (read_back other a)
    read_back-renamed (solver.Optimal x y basis) = (point-renamed x, duals-renamed y)
    read_back-renamed (solver.Infeasible y basis) = duals-renamed y
    read_back-renamed (solver.Unbounded x d basis) = (point-renamed x, point-renamed d)

    point_fits : (x : List Rational) → LeafPointFits one x → LeafPointFits other x
    point_fits x h =
        subst (λ vars. ValuesFit vars x) (sym l.variables)
        (values_fit σ (finite.entries one.variables) x h)

    point_fitted : (x : List Rational) → LeafPointFits other x → LeafPointFits one x
    point_fitted x h =
        values_fitted σ (finite.entries one.variables) x
        (subst (λ vars. ValuesFit vars x) l.variables h)

    pub answer_fits : (a : SolverAnswer) → AnswerFits one a → AnswerFits other a
    answer_fits (solver.Optimal x y basis) h = point_fits x h
    answer_fits (solver.Infeasible y basis) h = tt
    answer_fits (solver.Unbounded x d basis) h = (point_fits x h.0, point_fits d h.1)

    pub answer_fitted : (a : SolverAnswer) → AnswerFits other a → AnswerFits one a
    answer_fitted (solver.Optimal x y basis) h = point_fitted x h
    answer_fitted (solver.Infeasible y basis) h = tt
    answer_fitted (solver.Unbounded x d basis) h = (point_fitted x h.0, point_fitted d h.1)
