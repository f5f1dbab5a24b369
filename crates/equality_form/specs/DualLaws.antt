-- Multipliers of the equations are duals of the rows' components, and the rows' adjoint and gap are
-- sums over the equations.
use Rattle.std.specs.Prelude.{◌≡◌, ℕ, zero, suc, ◌+◌, ◌<◌, Bool, true, false, List, [], ◌∷◌, ◌++◌, Option, Some, None, All, drop, length, map, slice_index_or, take, refl}
use Rattle.std.proofs.Common.{sym, ◌∙◌, ap, ap₂, arith, subst}
use Rattle.std.proofs.lemmas.Int.{ints}
use Rattle.std.proofs.lemmas.List.Elements.{All-cons, All-head, All-nil, All-tail}
use Rattle.ratio_core.specs.Rational.{Rational, neg_ℚ, zero_ℚ, ◌*ℚ◌, ◌+ℚ◌, ◌-ℚ◌, ◌≤ℚ◌}
use Rattle.rational_laws.specs.Dot.{dot}
use Rattle.rational_laws.specs.Field.{+ℚ_assoc, zero-+ℚ}
use Rattle.rational_laws.specs.Linear.{as_scaled, linear₁, linear₂, scaled_zero, scales}
use Rattle.rational_laws.specs.Order.{nonneg_from_≤ℚ}
use Rattle.aff_core.specs.Address.{Address}
use Rattle.aff_core.specs.Function.{Function, coefficient}
use Rattle.dual_laws.specs.Held.{DualRow, HasDuals, adjoint, gap}
use Rattle.item_core.specs.declared.item.Body.{Body}
use Rattle.item_core.specs.Item.{functions_of, set_of}
use Rattle.set_core.specs.declared.set.Set.{Set}
use Rattle.solver_store.specs.declared.leaf.LeafVar.{LeafVar}
use Rattle.solver_store.specs.declared.leaf.LeafVar.TheVariants.{Free, Nonneg}
use Rattle.tableau_core.specs.Row.{cell}
use Rattle.equality_form.specs.Columns.{parts_among, slack_at, slacks_from}
use Rattle.equality_form.specs.ComponentLaws.{MayWeigh, gap_by_components, in_dual}
use Rattle.equality_form.specs.Equations.{Equation, equations_among, flipped, right_of, slack_of}
use Rattle.equality_form.specs.Native.{IsNativeRow}
use Rattle.equality_form.specs.ReadBack.{by_rows}
use Rattle.equality_form.specs.Right.{MayCost, held}

-- ---- slacks

-- a slack's price, from the multiplier of its equation
abbrev pub IsPriced : (ℕ → Rational) → ℕ × Bool → Type 0
IsPriced w slack = flipped slack.1 (w slack.0) ≤ℚ zero_ℚ

may_weigh : (b : Bool) (q : Rational) → flipped b q ≤ℚ zero_ℚ → MayWeigh (Some b) q
may_weigh false q h = h
may_weigh true q h = above q h
  where
    above : (q : Rational) → neg_ℚ q ≤ℚ zero_ℚ → zero_ℚ ≤ℚ q
    above = linear₁ _ (λ a e h. simp (scaled_zero e)
        (omega (arith, ints, scales, simp (as_scaled, scaled_zero e) at h)))

pub weighs : (es : List Equation) (k i : ℕ) (w : ℕ → Rational) (d : Equation) → i < length es
    → All (IsPriced w) (slacks_from k es)
    → MayWeigh (slack_of (slice_index_or es i d).set) (w (k + i))
weighs [] k i w d h p = absurd (omega (arith, h))
weighs (e ∷ es) k zero w d h p =
    subst (λ i. MayWeigh (slack_of e.set) (w i)) (omega arith) (by_slack (slack_of e.set) p)
  where
    by_slack : (o : Option Bool) → All (IsPriced w) (slack_at k o ++ slacks_from (suc k) es)
        → MayWeigh o (w k)
    by_slack None p = tt
    by_slack (Some b) p =
        may_weigh b (w k) (All-head (IsPriced w) (k, b) (slacks_from (suc k) es) p)
weighs (e ∷ es) k (suc i) w d h p =
    subst (λ j. MayWeigh (slack_of (slice_index_or es i d).set) (w j)) (omega arith)
    (weighs es (suc k) i w d (omega (arith, h)) (by_slack (slack_of e.set) p))
  where
    by_slack : (o : Option Bool) → All (IsPriced w) (slack_at k o ++ slacks_from (suc k) es)
        → All (IsPriced w) (slacks_from (suc k) es)
    by_slack None p = p
    by_slack (Some b) p = All-tail (IsPriced w) (k, b) (slacks_from (suc k) es) p

-- ---- variables

-- what the columns of the variables leave of their costs
pub left_over : (vars : List (Address × LeafVar)) (a c : Address → Rational)
    → All (λ part. flipped part.1 (a part.0) ≤ℚ flipped part.1 (c part.0)) (parts_among vars)
    → All (λ var. MayCost var.1 (c var.0 -ℚ a var.0)) vars
left_over [] a c h = All-nil (λ var. MayCost var.1 (c var.0 -ℚ a var.0))
left_over ((v, Free) ∷ vars) a c h =
    let others = All-tail (λ part. flipped part.1 (a part.0) ≤ℚ flipped part.1 (c part.0))
    (v, false) ((v, true) ∷ parts_among vars) h in
    All-cons (λ var. MayCost var.1 (c var.0 -ℚ a var.0)) (v, Free) vars
    (same (a v) (c v) (All-head (λ part. flipped part.1 (a part.0) ≤ℚ flipped part.1 (c part.0))
    (v, false) ((v, true) ∷ parts_among vars) h) (All-head
    (λ part. flipped part.1 (a part.0) ≤ℚ flipped part.1 (c part.0)) (v, true)
    (parts_among vars) others))
    (left_over vars a c (All-tail (λ part. flipped part.1 (a part.0) ≤ℚ flipped part.1 (c part.0))
    (v, true) (parts_among vars) others))
  where
    same : (p q : Rational) → p ≤ℚ q → neg_ℚ p ≤ℚ neg_ℚ q → q -ℚ p ≡ zero_ℚ
    same = linear₂ _ (λ a b e h k. simp (as_scaled, scaled_zero e)
        (omega (arith, ints, scales, h, simp as_scaled at k)))
left_over ((v, Nonneg) ∷ vars) a c h =
    All-cons (λ var. MayCost var.1 (c var.0 -ℚ a var.0)) (v, Nonneg) vars
    (nonneg_from_≤ℚ (a v) (c v) (All-head (λ part. flipped part.1 (a part.0) ≤ℚ flipped part.1
    (c part.0)) (v, false) (parts_among vars) h))
    (left_over vars a c (All-tail (λ part. flipped part.1 (a part.0) ≤ℚ flipped part.1 (c part.0))
    (v, false) (parts_among vars) h))

-- ---- rows with duals

-- rows and lists of duals, one after the other
abbrev pub held_with : List (List Rational) → List (Address × Body) → List DualRow
held_with [] rows = []
held_with (y ∷ ys) [] = []
held_with (y ∷ ys) (row ∷ rows) =
    record { duals = y; functions = functions_of row.1; set = set_of row.1 } ∷ held_with ys rows

pub held_is : (y : Address → List Rational) (rows : List (Address × Body))
    → map (held y) rows ≡ held_with (map (λ row. y row.0) rows) rows
held_is y [] = refl
held_is y (row ∷ rows) = ap (λ hs. held y row ∷ hs) (held_is y rows)

pub length-by_rows : (rows : List (Address × Body)) (w : List Rational)
    → length (by_rows rows w) ≡ length rows
length-by_rows [] w = refl
length-by_rows (row ∷ rows) w = ap suc (length-by_rows rows (drop (length (functions_of row.1)) w))

-- equations with multipliers that suit them, one after the other
abbrev pub Weigh : List Equation → List Rational → Type 0
Weigh [] w = Unit {0}
Weigh (e ∷ es) [] = ⊥
Weigh (e ∷ es) (q ∷ w) = MayWeigh (slack_of e.set) q × Weigh es w

pub weigh_from : (es : List Equation) (w : List Rational) → length w ≡ length es
    → ((i : ℕ) (d : Equation) → i < length es
    → MayWeigh (slack_of (slice_index_or es i d).set) (cell w i)) → Weigh es w
weigh_from [] w n h = tt
weigh_from (e ∷ es) [] n h = absurd (omega (arith, n))
weigh_from (e ∷ es) (q ∷ w) n h = (
  h 0 e (omega arith),
  weigh_from es w (omega (arith, n))
      (λ i d b. h (suc i) d (omega (arith, b))),
)

module _ (set : Set) (rest : List Equation) where
  abbrev component : Function → Equation
  component f = record { function = f; set = set }

  first_duals : (fs : List Function) (w : List Rational) → Weigh (map component fs ++ rest) w
      → (length (take (length fs) w) ≡ length fs)
      × All (MayWeigh (slack_of set)) (take (length fs) w) × Weigh rest (drop (length fs) w)
  first_duals [] w h = (refl, All-nil (MayWeigh (slack_of set)), h)
  first_duals (f ∷ fs) [] h = absurd h
  first_duals (f ∷ fs) (q ∷ w) h =
      let others = first_duals fs w h.1 in (
        ap suc others.0,
        All-cons (MayWeigh (slack_of set)) q (take (length fs) w) h.0 others.1,
        others.2,
      )

  -- a product over the equations in two parts
  split : (g : Equation → Rational) (fs : List Function) (w : List Rational)
      → length w ≡ length (map component fs ++ rest)
      → dot w (map g (map component fs ++ rest))
      ≡ dot (take (length fs) w) (map (λ f. g (component f)) fs)
      +ℚ dot (drop (length fs) w) (map g rest)
  split g [] w n = sym (zero-+ℚ (dot w (map g rest)))
  split g (f ∷ fs) [] n = absurd (omega (arith, n))
  split g (f ∷ fs) (q ∷ w) n =
      ap (λ s. q *ℚ g (component f) +ℚ s) (split g fs w (omega (arith, n)))
      ∙ sym (+ℚ_assoc (q
      *ℚ g (component f)) (dot (take (length fs) w) (map (λ f. g (component f)) fs))
      (dot (drop (length fs) w) (map g rest)))

  pub length_rest : (fs : List Function) (w : List Rational)
      → length w ≡ length (map component fs ++ rest) → length (drop (length fs) w) ≡ length rest
  length_rest [] w n = n
  length_rest (f ∷ fs) [] n = absurd (omega (arith, n))
  length_rest (f ∷ fs) (q ∷ w) n = length_rest fs w (omega (arith, n))

pub have_duals : (rows : List (Address × Body)) (w : List Rational)
    → All (λ row. IsNativeRow row.1) rows → Weigh (equations_among rows) w
    → All HasDuals (held_with (by_rows rows w) rows)
have_duals [] w n h = All-nil HasDuals
have_duals (row ∷ rows) w n h =
    let is_native = All-head (λ row. IsNativeRow row.1) row rows n in
    let parts = first_duals (set_of row.1) (equations_among rows) (functions_of row.1) w h in
    All-cons HasDuals _ (held_with (by_rows rows (drop (length (functions_of row.1)) w)) rows)
    (record {
      size = parts.0;
      dual = in_dual (set_of row.1) (take (length (functions_of row.1)) w) is_native.set
          (is_native.dimension ∙ sym parts.0) parts.1;
    })
    (have_duals rows (drop (length (functions_of row.1)) w)
    (All-tail (λ row. IsNativeRow row.1) row rows n) parts.2)

pub adjoint_by_equations : (v : Address) (rows : List (Address × Body)) (w : List Rational)
    → length w ≡ length (equations_among rows)
    → adjoint (held_with (by_rows rows w) rows) v
    ≡ dot w (map (λ e. coefficient e.function v) (equations_among rows))
adjoint_by_equations v [] [] n = refl
adjoint_by_equations v [] (q ∷ w) n = refl
adjoint_by_equations v (row ∷ rows) w n =
    ap (λ s. dot (take (length (functions_of row.1)) w)
    (map (λ f. coefficient f v) (functions_of row.1)) +ℚ s)
    (adjoint_by_equations v rows (drop (length (functions_of row.1)) w)
    (length_rest (set_of row.1) (equations_among rows) (functions_of row.1) w n))
    ∙ sym (split (set_of row.1) (equations_among rows) (λ e. coefficient e.function v)
    (functions_of row.1) w n)

pub gap_by_equations : (rows : List (Address × Body)) (w : List Rational)
    → All (λ row. IsNativeRow row.1) rows → Weigh (equations_among rows) w
    → length w ≡ length (equations_among rows)
    → gap (held_with (by_rows rows w) rows) ≡ dot w (map right_of (equations_among rows))
gap_by_equations [] [] native h n = refl
gap_by_equations [] (q ∷ w) native h n = refl
gap_by_equations (row ∷ rows) w native h n =
    let is_native = All-head (λ row. IsNativeRow row.1) row rows native in
    let parts = first_duals (set_of row.1) (equations_among rows) (functions_of row.1) w h in
    ap₂ ◌+ℚ◌
    (gap_by_components (λ f. f.constant) (set_of row.1) (take (length (functions_of row.1)) w)
    (functions_of row.1) is_native.set is_native.dimension parts.0)
    (gap_by_equations rows (drop (length (functions_of row.1)) w)
    (All-tail (λ row. IsNativeRow row.1) row rows native) parts.2
    (length_rest (set_of row.1) (equations_among rows) (functions_of row.1) w n))
    ∙ sym (split (set_of row.1) (equations_among rows) right_of (functions_of row.1) w n)
