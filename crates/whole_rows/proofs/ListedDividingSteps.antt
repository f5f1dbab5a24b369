-- What divides the listed numbers, and numbers that are divided at listed columns.
use Rattle.std.specs.Prelude.{◌≡◌, ℕ, ◌+◌, ◌<◌, ◌≤◌, ◌⊎◌, List, length, map, slice_index, slice_index_or, slice_set, ℤ, pos, ◌*ℤ◌, unsigned_abs, refl}
use Rattle.std.proofs.Common.{inl, inr, sym, ◌∙◌, ap, arith, subst}
use Rattle.std.proofs.lemmas.List.{get_or-map, get_or-set_other, get_or-set_same, length-set}
use Rattle.std.proofs.lemmas.Nat.Gcd.{dvd-zero}
use Rattle.std.specs.Int.{◌∣◌}
use Rattle.rational_laws.specs.Whole.{*ℤ_pos_one}
use Rattle.simplex_laws.specs.BoundedSumLaws.{same_or_other}
use Rattle.whole_rows.specs.Listed.{ListsNonzeros}
use Rattle.whole_rows.specs.Numerators.{AreDivided, AreSized, DividesAll}
use Rattle.whole_rows.proofs.MarkSteps.{factor_zero, zero_times}
use Rattle.whole_rows.proofs.ListedSteps.{sought}

-- the numbers of the listed columns
abbrev pub numbers_at : List ℕ → List ℤ → List ℤ
numbers_at columns numbers = map (λ c. slice_index_or numbers c (pos 0)) columns

pub number_at_is : (columns : List ℕ) (numbers : List ℤ) (k : ℕ) → k < length columns
    → slice_index_or (numbers_at columns numbers) k (pos 0)
    ≡ slice_index_or numbers (slice_index columns k) (pos 0)
number_at_is columns numbers k b =
    get_or-map (λ c. slice_index_or numbers c (pos 0)) columns k 0 (pos 0) b

-- what holds of 0 and of each listed number holds of all
pub from_listed : (P : ℤ → Type 0) (columns : List ℕ) (numbers : List ℤ)
    → ListsNonzeros columns numbers
    → P (pos 0)
    → ((k : ℕ) → k < length columns → P (slice_index_or numbers (slice_index columns k) (pos 0)))
    → (j : ℕ) → j < length numbers → P (slice_index_or numbers j (pos 0))
from_listed P columns numbers lists zero listed j b =
    by_place (sought columns j (length columns))
  where
    by_place : ((k : ℕ) × (k < length columns) × (slice_index columns k ≡ j))
        ⊎ ((k : ℕ) → k < length columns → ¬ (slice_index columns k ≡ j))
        → P (slice_index_or numbers j (pos 0))
    by_place (inl f) =
        subst (λ i. P (slice_index_or numbers i (pos 0))) f.2 (listed f.0 f.1)
    by_place (inr none) = subst P (sym (lists.others j b none)) zero

pub sized_all : (columns : List ℕ) (numbers : List ℤ) (n size greatest : ℕ)
    → ListsNonzeros columns numbers → n ≡ length columns
    → AreSized (numbers_at columns numbers) n size greatest
    → AreSized numbers (length numbers) size greatest
sized_all columns numbers n size greatest lists all h = record {
  within_size = h.within_size;
  within = from_listed (λ z. unsigned_abs z ≤ greatest) columns numbers lists (omega arith)
      (λ k b. subst (λ z. unsigned_abs z ≤ greatest) (number_at_is columns numbers k b)
      (h.within k (subst (λ m. k < m) (sym all) b)));
  small = h.small;
}

pub divides_listed : (columns : List ℕ) (numbers : List ℤ) (n size common : ℕ)
    → ListsNonzeros columns numbers → n ≡ length columns
    → DividesAll (numbers_at columns numbers) n size common
    → DividesAll numbers (length numbers) size common
divides_listed columns numbers n size common lists all h = record {
  positive = h.positive;
  divides_size = h.divides_size;
  divides = from_listed (λ z. common ∣ unsigned_abs z) columns numbers lists (dvd-zero common)
      (λ k b. subst (λ z. common ∣ unsigned_abs z) (number_at_is columns numbers k b)
      (h.divides k (subst (λ m. k < m) (sym all) b)));
}

-- ---- numbers that are divided

-- the numbers at the first n columns are divided, and each other is as it was
pub record IsDividedAt (by : ℤ) (columns : List ℕ) (n : ℕ) (old new : List ℤ) : Type 0 where
  pub long : length new ≡ length old
  pub divided : (k : ℕ) → k < n →
      slice_index_or old (slice_index columns k) (pos 0)
      ≡ slice_index_or new (slice_index columns k) (pos 0) *ℤ by
  pub others : (j : ℕ) → ((k : ℕ) → k < n → ¬ (slice_index columns k ≡ j)) →
      slice_index_or new j (pos 0) ≡ slice_index_or old j (pos 0)

pub divided_none : (by : ℤ) (columns : List ℕ) (old : List ℤ) → IsDividedAt by columns 0 old old
divided_none by columns old = record {
  long = refl;
  divided = λ k b. absurd (omega (arith, b));
  others = λ j h. refl;
}

pub divided_next : (by : ℤ) (columns : List ℕ) (n : ℕ) (old now : List ℤ) (x : ℤ)
    → IsDividedAt by columns n old now → slice_index columns n < length now
    → ((k : ℕ) → k < n → ¬ (slice_index columns k ≡ slice_index columns n))
    → slice_index_or now (slice_index columns n) (pos 0) ≡ x *ℤ by
    → IsDividedAt by columns (n + 1) old (slice_set now (slice_index columns n) x)
divided_next by columns n old now x so_far within apart is = record {
  long = length-set now (slice_index columns n) x ∙ so_far.long;
  divided = λ k b.
      same_or_other _ k n
      (λ e. subst (λ i. slice_index_or old (slice_index columns i) (pos 0)
      ≡ slice_index_or (slice_set now (slice_index columns n) x) (slice_index columns i) (pos 0)
      *ℤ by) (sym e)
      (sym (so_far.others (slice_index columns n) apart) ∙ is
      ∙ ap (λ y. y *ℤ by) (sym (get_or-set_same now (slice_index columns n) x (pos 0) within))))
      (λ m. let here : k < n = omega (arith, b, m) in
      so_far.divided k here
      ∙ ap (λ y. y *ℤ by) (sym (get_or-set_other now (slice_index columns n)
      (slice_index columns k) x (pos 0) (apart k here))));
  others = λ j h.
      get_or-set_other now (slice_index columns n) j x (pos 0)
      (λ e. h n (omega arith) (sym e)) ∙ so_far.others j (λ k b. h k (omega (arith, b)));
}

pub divided_all : (by : ℤ) (columns : List ℕ) (old new : List ℤ) (n : ℕ) → ListsNonzeros columns old
    → n ≡ length columns → IsDividedAt by columns n old new
    → AreDivided by (length old) old new
divided_all by columns old new n lists all made = record {
  long = made.long;
  divided = λ j b. by_place j b (sought columns j (length columns));
  others = λ j h. made.others j (λ k c e. past_lem j (slice_index columns k) (length old)
      (lists.within k (subst (λ m. k < m) all c)) e h);
}
  where
    past_lem : (j x m : ℕ) → x < m → x ≡ j → m ≤ j → ⊥
    past_lem j x m b e h = omega (arith, b, e, h)

    by_place : (j : ℕ) → j < length old
        → ((k : ℕ) × (k < length columns) × (slice_index columns k ≡ j))
        ⊎ ((k : ℕ) → k < length columns → ¬ (slice_index columns k ≡ j))
        → slice_index_or old j (pos 0) ≡ slice_index_or new j (pos 0) *ℤ by
    by_place j b (inr none) =
        lists.others j b none ∙ sym (zero_times by)
        ∙ ap (λ z. z *ℤ by) (sym (made.others j (λ k c. none k (subst (λ m. k < m) all c))
        ∙ lists.others j b none))
    by_place j b (inl f) =
        subst (λ i. slice_index_or old i (pos 0) ≡ slice_index_or new i (pos 0) *ℤ by) f.2
        (made.divided f.0 (subst (λ m. f.0 < m) (sym all) f.1))

pub divided_by_one : (old : List ℤ) → AreDivided (pos 1) (length old) old old
divided_by_one old = record {
  long = refl;
  divided = λ j b. sym (*ℤ_pos_one (slice_index_or old j (pos 0)));
  others = λ j h. refl;
}

-- the same columns are those of the numbers that aren't 0
pub lists_divided : (by : ℤ) (columns : List ℕ) (old new : List ℤ) → ¬ (by ≡ pos 0)
    → ListsNonzeros columns old → AreDivided by (length old) old new → ListsNonzeros columns new
lists_divided by columns old new nonzero lists divided = record {
  within = λ k b. subst (λ n. slice_index columns k < n) (sym divided.long) (lists.within k b);
  rising = lists.rising;
  nonzero = λ k b z. lists.nonzero k b (divided.divided (slice_index columns k) (lists.within k b)
      ∙ ap (λ y. y *ℤ by) z ∙ zero_times by);
  others = λ j b none. factor_zero (slice_index_or new j (pos 0)) by
      (sym (divided.divided j (subst (λ n. j < n) divided.long b))
      ∙ lists.others j (subst (λ n. j < n) divided.long b) none) nonzero;
}
