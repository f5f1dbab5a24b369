-- What a plan gives: the row that is brought over its denominator, and what is left to be done. The
-- numbers and lists are given as the code has them, with equations that say what they are.
use Rattle.std.specs.Prelude.{◌≡◌, ℕ, ◌+◌, ◌*◌, ◌/◌, ◌^◌, ◌<◌, ◌≤◌, ◌⊎◌, List, length, slice_index_or, ℤ, pos, ◌*ℤ◌, unsigned_abs, refl}
use Rattle.std.proofs.Common.{inl, inr, sym, ◌∙◌, ap, ap₂, arith, div-le_self, mul-le-mul_right, mul-pos, subst}
use Rattle.std.proofs.lemmas.Bool.{cases_lt}
use Rattle.std.proofs.lemmas.Int.{unsigned_abs-mul}
use Rattle.std.proofs.lemmas.List.{get_or_default, get_or_past}
use Rattle.ratio_core.specs.Gcd.{gcd, part_pos}
use Rattle.ratio_core.specs.Rational.{reduce}
use Rattle.whole_rows.specs.declared.narrow_row.NarrowRow.{NarrowRow}
use Rattle.whole_rows.specs.declared.plan.LongPlan.{LongPlan}
use Rattle.whole_rows.specs.declared.plan.LoweringPlan.{LoweringPlan}
use Rattle.whole_rows.specs.declared.plan.LoweringPlan.TheVariants.{Long, Short}
use Rattle.whole_rows.specs.declared.plan.ShortPlan.{ShortPlan}
use Rattle.whole_rows.specs.ColumnMarks.{AreScaled, MarksCover}
use Rattle.whole_rows.specs.Listed.{lowered_once}
use Rattle.whole_rows.specs.Numerators.{AreNumeratorsWithin, numerator}
use Rattle.whole_rows.specs.Plans.{IsLongPlan, IsLoweringPlan, IsShortPlan}
use Rattle.whole_rows.specs.Rows.{IsNarrowReady, numerator_of, width_of}
use Rattle.whole_rows.proofs.RowSteps.{number_over, part_fits, size_int_div}

below_lem : (x s o w m : ℕ) → x ≤ s → s * o + w ≡ m → m < 2 ^ 63 → x * o < 2 ^ 63
below_lem x s o w m h e k =
    let more : x * o ≤ s * o = mul-le-mul_right o h in
    omega (arith, more, e, k)

at_most_lem : (y x s o w m : ℕ) → y ≡ x * o → x ≤ s → s * o + w ≡ m → y ≤ m
at_most_lem y x s o w m i h e =
    let more : x * o ≤ s * o = mul-le-mul_right o h in
    omega (arith, i, more, e)

sum_lem : (y p w r m n : ℕ) → y ≡ p → p + w ≤ r → r ≡ m → n ≡ m → y + w ≤ n
sum_lem y p w r m n e h f g = omega (arith, e, h, f, g)

module _ (q : ℕ) (step row : NarrowRow) (plan : ShortPlan)
    (planned : IsShortPlan q step row plan) where
  room_is : (by : ℤ) → by ≡ plan.by
      → row.bound * plan.over + unsigned_abs by * step.bound ≡ plan.bound
  room_is by by_is =
      ap₂ (λ x y. row.bound * x + y * step.bound) planned.over
      (ap unsigned_abs (by_is ∙ planned.by) ∙ size_int_div (numerator_of row q) _)
      ∙ sym planned.bound

  pub planned_above : 0 < plan.den
  planned_above =
      subst (λ x. 0 < x) (sym planned.den)
      (mul-pos row.above (part_pos (unsigned_abs (numerator_of row q)) step.den step.above))

  pub planned_over : plan.over < 2 ^ 63
  planned_over =
      subst (λ x. x < 2 ^ 63) (sym planned.over)
      (part_lem step.den (gcd (unsigned_abs (numerator_of row q)) step.den)
      (div-le_self step.den (gcd (unsigned_abs (numerator_of row q)) step.den)) step.small_den)
    where
      part_lem : (p g : ℕ) → p / g ≤ p → p < 2 ^ 63 → p / g < 2 ^ 63
      part_lem p g h k = omega (arith, h, k)

  over_small : (x : ℕ) → x ≤ row.bound → x * plan.over < 2 ^ 63
  over_small x h =
      below_lem x row.bound plan.over (unsigned_abs plan.by * step.bound) plan.bound h
      (room_is plan.by refl) planned.small_bound

  pub planned_small : (N : List ℤ) → N ≡ row.numbers.items → (j : ℕ) → j < length N
      → unsigned_abs (slice_index_or N j (pos 0)) * plan.over < 2 ^ 63
  planned_small N N_is =
      subst (λ l. (j : ℕ) → j < length l
      → unsigned_abs (slice_index_or l j (pos 0)) * plan.over < 2 ^ 63) (sym N_is)
      (λ j b. over_small (unsigned_abs (slice_index_or row.numbers.items j (pos 0)))
      (subst (λ z. unsigned_abs z ≤ row.bound)
      (get_or_default row.numbers.items j row.side (pos 0) b) (row.within.sizes j)))

  pub planned_side : (s : ℤ) → s ≡ row.side → unsigned_abs s * plan.over < 2 ^ 63
  planned_side s s_is =
      over_small (unsigned_abs s)
      (subst (λ z. unsigned_abs z ≤ row.bound)
      (get_or_past row.numbers.items (width_of row) row.side (omega arith) ∙ sym s_is)
      (row.within.sizes (width_of row)))

  module _ (N N' items : List ℤ) (s side : ℤ) (N_is : N ≡ row.numbers.items) (s_is : s ≡ row.side)
      (scaled : AreScaled (pos plan.over) (length N) N N') (items_are : items ≡ N')
      (side_is : side ≡ s *ℤ pos plan.over) where
    scaled_items : AreScaled (pos plan.over) (width_of row) row.numbers.items items
    scaled_items =
        subst (AreScaled (pos plan.over) (width_of row) row.numbers.items) (sym items_are)
        (subst (λ l. AreScaled (pos plan.over) (length l) l N') N_is scaled)

    numerator_scaled : (j : ℕ) → numerator items side j ≡ numerator_of row j *ℤ pos plan.over
    numerator_scaled j = by_end (cases_lt j (width_of row))
      where
        by_end : (j < width_of row) ⊎ (width_of row ≤ j)
            → numerator items side j ≡ numerator_of row j *ℤ pos plan.over
        by_end (inl b) =
            get_or_default items j side (pos 0) (subst (λ n. j < n) (sym scaled_items.long) b)
            ∙ scaled_items.scaled j b
            ∙ ap (λ z. z *ℤ pos plan.over)
            (sym (get_or_default row.numbers.items j row.side (pos 0) b))
        by_end (inr h) =
            get_or_past items j side (subst (λ n. n ≤ j) (sym scaled_items.long) h) ∙ side_is
            ∙ ap (λ z. z *ℤ pos plan.over)
            (s_is ∙ sym (get_or_past row.numbers.items j row.side h))

    size_scaled : (j : ℕ) → unsigned_abs (numerator items side j)
        ≡ unsigned_abs (numerator_of row j) * plan.over
    size_scaled j =
        ap unsigned_abs (numerator_scaled j)
        ∙ unsigned_abs-mul (numerator_of row j) (pos plan.over)

    pub scaled_within : AreNumeratorsWithin plan.bound items side
    scaled_within = record {
      sizes = λ j. at_most_lem (unsigned_abs (numerator items side j))
          (unsigned_abs (numerator_of row j)) row.bound plan.over
          (unsigned_abs plan.by * step.bound) plan.bound (size_scaled j) (row.within.sizes j)
          (room_is plan.by refl);
    }

    pub planned_ready : (next : NarrowRow) (by : ℤ) → next.numbers.items ≡ items
        → next.side ≡ side → next.den ≡ plan.den → next.bound ≡ plan.bound
        → MarksCover next.marks.items step.numbers.items → by ≡ plan.by
        → IsNarrowReady q step row next by
    planned_ready next by next_items next_side next_den next_bound covers by_is = record {
      width = width_lem;
      left = record {
        width = planned.width ∙ sym width_lem;
        within = λ j. sum_lem (unsigned_abs (numerator_of next j))
            (unsigned_abs (numerator_of row j) * plan.over)
            (unsigned_abs by * unsigned_abs (numerator_of step j))
            (row.bound * plan.over + unsigned_abs by * step.bound) plan.bound next.bound
            (ap unsigned_abs (same_lem j) ∙ size_scaled j)
            (part_fits (unsigned_abs (numerator_of row j)) (unsigned_abs (numerator_of step j))
            row.bound step.bound plan.over (unsigned_abs by) (row.within.sizes j)
            (step.within.sizes j))
            (room_is by by_is) next_bound;
        covers = covers;
      };
      numbers = λ j b.
          ap₂ reduce (ap (λ z. lowered_once z by (numerator_of step j))
          (same_lem j ∙ numerator_scaled j))
          (next_den ∙ planned.den ∙ ap (λ x. row.den * x) (sym planned.over))
          ∙ number_over (numerator_of row j) (numerator_of step j) (numerator_of row q) by row.den
          step.den (gcd (unsigned_abs (numerator_of row q)) step.den) plan.over row.above
          step.above refl planned.over (by_is ∙ planned.by);
    }
      where
        width_lem : width_of next ≡ width_of row
        width_lem = ap length next_items ∙ scaled_items.long

        same_lem : (j : ℕ) → numerator_of next j ≡ numerator items side j
        same_lem j = ap₂ (λ x y. slice_index_or x j y) next_items next_side

-- the plan that there is
pub by_short : (q : ℕ) (step row : NarrowRow) (plan : LoweringPlan) (short : ShortPlan)
    → plan ≡ Short short → IsLoweringPlan q step row plan → IsShortPlan q step row short
by_short q step row plan short is h = subst (IsLoweringPlan q step row) is h

pub by_long : (q : ℕ) (step row : NarrowRow) (plan : LoweringPlan) (long : LongPlan)
    → plan ≡ Long long → IsLoweringPlan q step row plan → IsLongPlan q step row long
by_long q step row plan long is h = subst (IsLoweringPlan q step row) is h
