-- How many steps a trail has at most: each place of it has a number below the bound, and no two have
-- the same.
use Rattle.std.specs.Prelude.{◌≡◌, ℕ, suc, ◌+◌, ◌^◌, ◌<◌, ◌≤◌, true, Option, Some, None, is_some, refl}
use Rattle.std.proofs.Common.{sym, ◌∙◌, ap, add-one, arith, subst, true≢false}
use Rattle.std.proofs.lemmas.Bool.{and_parts}
use Rattle.simplex_form.specs.declared.turn.Phase.{Phase}
use Rattle.simplex_form.specs.declared.turn.Phase.TheVariants.{First, Second, Sweep}
use Rattle.simplex_form.specs.declared.turn.Turn.{Turn}
use Rattle.simplex_form.specs.declared.turn.Turn.TheVariants.{Infeasible, Optimal, Pivot, Stuck, Unbounded}
use Rattle.simplex_form.specs.Basis.{BasisState, basic}
use Rattle.simplex_form.specs.Board.{pivot}
use Rattle.simplex_form.specs.Fit.{turn_fits}
use Rattle.simplex_form.specs.Form.{Form, IsStandard}
use Rattle.simplex_form.specs.TrailOutcome.{IsOutcome}
use Rattle.simplex_form.specs.Readings.{Readings, readings}
use Rattle.simplex_form.specs.Standing.{StandsAtBasis, TurnSays}
use Rattle.simplex_form.specs.Trail.{IsWithinPhase, after, pivot_phase, reached}
use Rattle.simplex_form.specs.Turns.{entering, enters, leaving, second_turn, sweep_turn, swept_entry, turn, turn_in}
use Rattle.simplex_laws.specs.BoardLaws.{basic-pivot_at}
use Rattle.simplex_laws.specs.BoundedSumLaws.{same_or_other}
use Rattle.simplex_laws.specs.OutcomeLaws.{outcome_is}
use Rattle.simplex_laws.specs.TrailLaws.{reached_stands, trail-goes_on}
use Rattle.simplex_laws.specs.TurnLaws.{turn_says}
use Rattle.bland_rule_laws.specs.BasicColumns.{is_basic}
use Rattle.bland_rule_laws.specs.Counting.{number_of, number_of-below, number_of-same, pigeonhole, two_lem}
use Rattle.bland_rule_laws.specs.Cycles.{IsTrailBounded, IsUnlimited, most_steps}
use Rattle.bland_rule_laws.specs.NeverRepeats.{never_equal}
use Rattle.bland_rule_laws.specs.PhaseSteps.{moves_of, phase_step}
use Rattle.bland_rule_laws.specs.Sequences.{carried}
use Rattle.bland_rule_laws.specs.Steps.{ReplacesBasic}

-- ---- the phase of a turn, also of one that ends the trail

abbrev phase_of : Turn → Phase
phase_of (Pivot phase r q) = phase
phase_of Stuck = First
phase_of Infeasible = First
phase_of (Unbounded q) = Second
phase_of Optimal = Second

-- the phases follow one another
abbrev rank : Phase → ℕ
rank First = 0
rank Sweep = 1
rank Second = 2

rank-same : (p o : Phase) → rank p ≡ rank o → p ≡ o
rank-same First First e = refl
rank-same First Sweep e = absurd (omega (arith, e))
rank-same First Second e = absurd (omega (arith, e))
rank-same Sweep First e = absurd (omega (arith, e))
rank-same Sweep Sweep e = refl
rank-same Sweep Second e = absurd (omega (arith, e))
rank-same Second First e = absurd (omega (arith, e))
rank-same Second Sweep e = absurd (omega (arith, e))
rank-same Second Second e = refl

enters-phase : (q : ℕ) (o : Option ℕ) → phase_of (enters Second q o) ≡ Second
enters-phase q None = refl
enters-phase q (Some r) = refl

second-phase : (R : Readings) (o : Option ℕ) → phase_of (second_turn R o) ≡ Second
second-phase R None = refl
second-phase R (Some q) = enters-phase q (leaving R q)

sweep-phase : (R : Readings) (o : Option (ℕ × ℕ)) → 1 ≤ rank (phase_of (sweep_turn R o))
sweep-phase R None =
    rank_lem (phase_of (second_turn R (entering R R.second_price)))
    (second-phase R (entering R R.second_price))
  where
    rank_lem : (p : Phase) → p ≡ Second → 1 ≤ rank p
    rank_lem p e = subst (λ o. 1 ≤ rank o) (sym e) (omega arith)
sweep-phase R (Some found) = omega arith

-- a turn is of its basis's phase or of a later one
turn-later : (R : Readings) (p : Phase) → rank p ≤ rank (phase_of (turn_in p R))
turn-later R First = omega arith
turn-later R Sweep = sweep-phase R (swept_entry R)
turn-later R Second =
    subst (λ o. 2 ≤ rank o) (sym (second-phase R (entering R R.second_price))) (omega arith)

pivot-phase : (t : Turn) → is_some (pivot_phase t) ≡ true → pivot_phase t ≡ Some (phase_of t)
pivot-phase (Pivot phase r q) e = refl
pivot-phase Stuck e = absurd (true≢false (sym e))
pivot-phase Infeasible e = absurd (true≢false (sym e))
pivot-phase (Unbounded q) e = absurd (true≢false (sym e))
pivot-phase Optimal e = absurd (true≢false (sym e))

-- the basis after a pivot is of its phase
after-phase : (F : Form) (s : BasisState) (t : Turn) → is_some (pivot_phase t) ≡ true
    → (after F s t).phase ≡ phase_of t
unfolding pivot
after-phase F s (Pivot phase r q) e = refl
after-phase F s Stuck e = absurd (true≢false (sym e))
after-phase F s Infeasible e = absurd (true≢false (sym e))
after-phase F s (Unbounded q) e = absurd (true≢false (sym e))
after-phase F s Optimal e = absurd (true≢false (sym e))

-- ---- the row of a sweep

abbrev row_of : Turn → ℕ
row_of (Pivot phase r q) = r
row_of t = 0

-- its artificial column gives way to a real one
record SweepsRow (F : Form) (s t : BasisState) (r : ℕ) : Type 0 where
  within : r < F.rows
  artificial : F.reals ≤ basic s r
  real : basic t r < F.reals

other_phase : (p o : Phase) → ¬ (rank p ≡ rank o) → ¬ (p ≡ o)
other_phase p o n e = n (ap rank e)

sweeps_row : (F : Form) (s : BasisState) → StandsAtBasis F s → (t : Turn) → TurnSays F s t
    → phase_of t ≡ Sweep
    → SweepsRow F s (after F s t) (row_of t)
sweeps_row F s h (Pivot First r q) k e = absurd (other_phase First Sweep (λ g. omega (arith, g)) e)
sweeps_row F s h (Pivot Sweep r q) k e = record {
  within = k.1.row;
  artificial = k.1.artificial;
  real = subst (λ j. j < F.reals) (sym (basic-pivot_at F s Sweep r q h.basis k.1.row)) k.1.real;
}
sweeps_row F s h (Pivot Second r q) k e =
    absurd (other_phase Second Sweep (λ g. omega (arith, g)) e)
sweeps_row F s h Stuck k e = absurd (other_phase First Sweep (λ g. omega (arith, g)) e)
sweeps_row F s h Infeasible k e = absurd (other_phase First Sweep (λ g. omega (arith, g)) e)
sweeps_row F s h (Unbounded q) k e = absurd (other_phase Second Sweep (λ g. omega (arith, g)) e)
sweeps_row F s h Optimal k e = absurd (other_phase Second Sweep (λ g. omega (arith, g)) e)

-- ---- the number of a place

-- by its phase, its set's number below w, and its row: the sets of the first phase, then those of
-- the second, then the rows
abbrev code_by : ℕ → Phase → ℕ → ℕ → ℕ
code_by w First set row = set
code_by w Second set row = w + set
code_by w Sweep set row = w + w + row

code-below : (w m : ℕ) (p : Phase) (set row : ℕ) → set < w → (p ≡ Sweep → row < m)
    → code_by w p set row < w + w + m
code-below w m First set row b c = omega (arith, b)
code-below w m Second set row b c = omega (arith, b)
code-below w m Sweep set row b c = omega (arith, c refl)

-- places of one number are of one phase, in which the sets are equal, or in the sweep the rows
record Alike (p o : Phase) (set set' row row' : ℕ) : Type 0 where
  phases : p ≡ o
  sets : ¬ (p ≡ Sweep) → set ≡ set'
  rows : p ≡ Sweep → row ≡ row'

code-same : (w : ℕ) (p o : Phase) (set set' row row' : ℕ) → set < w → set' < w
    → code_by w p set row ≡ code_by w o set' row' → Alike p o set set' row row'
code-same w First First set set' row row' b c e = record {
  phases = refl;
  sets = λ _. e;
  rows = λ g. absurd (other_phase First Sweep (λ f. omega (arith, f)) g);
}
code-same w First Second set set' row row' b c e = absurd (omega (arith, b, c, e))
code-same w First Sweep set set' row row' b c e = absurd (omega (arith, b, c, e))
code-same w Second First set set' row row' b c e = absurd (omega (arith, b, c, e))
code-same w Second Second set set' row row' b c e = record {
  phases = refl;
  sets = λ _. omega (arith, e);
  rows = λ g. absurd (other_phase Second Sweep (λ f. omega (arith, f)) g);
}
code-same w Second Sweep set set' row row' b c e = absurd (omega (arith, b, c, e))
code-same w Sweep First set set' row row' b c e = absurd (omega (arith, b, c, e))
code-same w Sweep Second set set' row row' b c e = absurd (omega (arith, b, c, e))
code-same w Sweep Sweep set set' row row' b c e = record {
  phases = refl;
  sets = λ n. absurd (n refl);
  rows = λ _. omega (arith, e);
}

-- ---- a trail

module _ (F : Form) (standard : IsStandard F) (n : ℕ)
    (pivots : (k : ℕ) → k < n → is_some (pivot_phase (turn F (reached F k))) ≡ true) where
  abbrev phase_at : ℕ → Phase
  phase_at k = phase_of (turn F (reached F k))

  abbrev set_at : ℕ → ℕ
  set_at k = number_of (is_basic F (reached F k)) (F.reals + F.rows)

  abbrev row_at : ℕ → ℕ
  row_at k = row_of (turn F (reached F k))

  abbrev stands : (k : ℕ) → StandsAtBasis F (reached F k)
  stands k = reached_stands F standard k

  phase-later : (k : ℕ) → k < n → rank (phase_at k) ≤ rank (phase_at (suc k))
  phase-later k b =
      subst (λ p. rank p ≤ rank (phase_at (suc k)))
      (after-phase F (reached F k) (turn F (reached F k)) (pivots k b))
      (turn-later (readings F (reached F (suc k))) (reached F (suc k)).phase)

  phases-rise : (a b : ℕ) → a ≤ b → b ≤ n → rank (phase_at a) ≤ rank (phase_at b)
  phases-rise a b c d =
      carried (λ k. rank (phase_at a) ≤ rank (phase_at k)) a n
      (λ k g f h. le_lem (rank (phase_at a)) (rank (phase_at k)) (rank (phase_at (suc k))) h
      (phase-later k f)) a b (omega arith) c d (le_lem_same (rank (phase_at a)))
    where
      le_lem : (x y z : ℕ) → x ≤ y → y ≤ z → x ≤ z
      le_lem x y z h k = omega (arith, h, k)

      le_lem_same : (x : ℕ) → x ≤ x
      le_lem_same x = omega arith

  -- between two places of one phase all pivots are of it
  within : (a b : ℕ) → a < b → b ≤ n → phase_at a ≡ phase_at b → IsWithinPhase F (phase_at a) a b
  within a b c d e k g f =
      pivot-phase (turn F (reached F k)) (pivots k (omega (arith, d, f)))
      ∙ ap Some (rank-same (phase_at k) (phase_at a) (between (rank (phase_at a))
      (rank (phase_at k)) (rank (phase_at b)) (phases-rise a k g (omega (arith, d, f)))
      (phases-rise k b (omega (arith, f)) d) (ap rank e)))
    where
      between : (x y z : ℕ) → x ≤ y → y ≤ z → x ≡ z → y ≡ x
      between x y z h k e = omega (arith, h, k, e)

  -- in the sweep no row comes twice
  rows-differ : (a b : ℕ) → a < b → b ≤ n → phase_at a ≡ Sweep → phase_at b ≡ Sweep
      → ¬ (row_at a ≡ row_at b)
  rows-differ a b c d e g h =
      let first : SweepsRow F (reached F a) (reached F (suc a)) (row_at a) =
      sweeps_row F (reached F a) (stands a) (turn F (reached F a))
      (turn_says F (reached F a) (stands a)) e in
      let last : SweepsRow F (reached F b) (reached F (suc b)) (row_at b) =
      sweeps_row F (reached F b) (stands b) (turn F (reached F b))
      (turn_says F (reached F b) (stands b)) g in
      clash (basic (reached F b) (row_at b)) F.reals
      (subst (λ r. basic (reached F b) r < F.reals) h
      (carried (λ k. basic (reached F k) (row_at a) < F.reals) (suc a) n
      (λ k f l real. stays_real (row_at a) (reached F k) (reached F (suc k))
      (moves_of F (phase_at k) (reached F k) (reached F (suc k)) (phase_step F (reached F k)
      (stands k) (phase_at k) (pivot-phase (turn F (reached F k)) (pivots k l)))) real)
      (suc a) b (omega arith) (omega (arith, c)) d first.real))
      last.artificial
    where
      clash : (x c : ℕ) → x < c → c ≤ x → ⊥
      clash x c h k = absurd (omega (arith, h, k))

      stays_real : (r : ℕ) (s t : BasisState) → ReplacesBasic F s t → basic s r < F.reals
          → basic t r < F.reals
      stays_real r s t m real =
          same_or_other (basic t r < F.reals) r m.row
          (λ q. subst (λ j. j < F.reals) (sym (ap (λ i. basic t i) q ∙ m.at)) m.real)
          (λ o. subst (λ j. j < F.reals) (sym (m.off r o)) real)

  code_at : ℕ → ℕ
  code_at k = code_by (2 ^ (F.reals + F.rows)) (phase_at k) (set_at k) (row_at k)

  set-below : (k : ℕ) → set_at k < 2 ^ (F.reals + F.rows)
  set-below k = number_of-below (is_basic F (reached F k)) (F.reals + F.rows)

  code_at-below : (k : ℕ) → code_at k < 2 ^ (F.reals + F.rows) + 2 ^ (F.reals + F.rows) + F.rows
  unfolding code_at
  code_at-below k = code-below (2 ^ (F.reals + F.rows)) F.rows (phase_at k) (set_at k) (row_at k)
      (set-below k) (λ e. (sweeps_row F (reached F k) (stands k) (turn F (reached F k))
      (turn_says F (reached F k) (stands k)) e).within)

  codes-differ : (a b : ℕ) → a < b → b ≤ n → ¬ (code_at a ≡ code_at b)
  unfolding code_at
  codes-differ a b c d e =
      by_phase (phase_at a) refl (code-same (2 ^ (F.reals + F.rows)) (phase_at a) (phase_at b)
      (set_at a) (set_at b) (row_at a) (row_at b) (set-below a) (set-below b) e)
    where
      by_set : Alike (phase_at a) (phase_at b) (set_at a) (set_at b) (row_at a) (row_at b)
          → ¬ (phase_at a ≡ Sweep) → ⊥
      by_set alike m =
          never_equal F standard (phase_at a) a b c (within a b c d alike.phases)
          (λ j f. number_of-same (is_basic F (reached F a)) (is_basic F (reached F b))
          (F.reals + F.rows) (alike.sets m) j f)

      by_phase : (p : Phase) → phase_at a ≡ p
          → Alike (phase_at a) (phase_at b) (set_at a) (set_at b) (row_at a) (row_at b) → ⊥
      by_phase First g alike =
          by_set alike (λ h. other_phase First Sweep (λ f. omega (arith, f)) (sym g ∙ h))
      by_phase Sweep g alike =
          rows-differ a b c d g (sym alike.phases ∙ g) (alike.rows g)
      by_phase Second g alike =
          by_set alike (λ h. other_phase Second Sweep (λ f. omega (arith, f)) (sym g ∙ h))

  pub below_bound : n < most_steps F
  below_bound =
      from_count n (2 ^ (F.reals + F.rows)) F.rows (2 ^ (F.reals + F.rows + 1))
      (ap (λ k. 2 ^ k) (add-one (F.reals + F.rows)) ∙ two_lem (F.reals + F.rows))
      (pigeonhole (suc n) (2 ^ (F.reals + F.rows) + 2 ^ (F.reals + F.rows) + F.rows) code_at
      (λ k _. code_at-below k) (λ a b c d. codes-differ a b c (at_most_lem b n d)))
    where
      at_most_lem : (b n : ℕ) → b < suc n → b ≤ n
      at_most_lem b n d = omega (arith, d)

      from_count : (n w m p : ℕ) → p ≡ w + w → suc n ≤ w + w + m → n < p + m
      from_count n w m p e h = omega (arith, e, h)

-- a trail has fewer pivots than the bound
pub bounded : (F : Form) → IsStandard F → IsTrailBounded F
bounded F standard n h =
    below_bound F standard n (λ k b. (and_parts (is_some (pivot_phase (turn F (reached F k))))
    (turn_fits (readings F (reached F k)) (turn F (reached F k)))
    (trail-goes_on F n k h b)).0)

-- and isn't cut off by a greater allowance
pub unlimited : (F : Form) → IsStandard F → IsUnlimited F
unlimited F standard n s h e =
    too_long (most_steps F) n h
    (bounded F standard n (subst (IsOutcome F n) e (outcome_is F n)).0)
  where
    too_long : (p n : ℕ) → p ≤ n → n < p → ⊥
    too_long p n h k = absurd (omega (arith, h, k))
