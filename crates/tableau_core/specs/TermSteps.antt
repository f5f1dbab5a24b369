-- A row of numbers that is changed at the places of terms alone.
use Rattle.std.specs.Prelude.{◌≡◌, ℕ, ◌+◌, ◌-◌, ◌<◌, ◌≤◌, ◌⊎◌, true, List, [], ◌∷◌, drop, length, slice_index_or, Result, Ok, Err, OnErr, OnOk}
use Rattle.std.proofs.Common.{inl, inr, sym, ◌∙◌, ap, arith, subst}
use Rattle.std.proofs.Math.ListN.{drop_of_length-le}
use Rattle.std.proofs.lemmas.Bool.{cases_lt}
use Rattle.std.proofs.lemmas.List.{drop_more}
use Rattle.ratio_core.specs.Rational.{Rational, sum_fits, zero_ℚ}
use Rattle.ratio_core.specs.RationalLaws.{sum_fits_Decides}
use Rattle.rational_laws.specs.ZeroSums.{SumFits-zero_right}
use Rattle.simplex_laws.specs.BoundedSumLaws.{same_or_other}
use Rattle.sparse_ratios.specs.Terms.{AreTerms, number_at}
use Rattle.sparse_ratios.specs.TermLaws.{number_before, number_here, number_later}
use Rattle.tableau_core.specs.Row.{AllFit, IsChanged, cell}

-- the numbers of the columns from b on are those that are left, which the places from `from + b` on
-- name
pub record AreTermsLeft (from c b : ℕ) (all left : List (ℕ × Rational)) : Type 0 where
  pub low : b ≤ c
  pub terms : AreTerms (from + b) (from + c) left
  pub numbers : (j : ℕ) → b ≤ j → j < c → number_at all (from + j) ≡ number_at left (from + j)

pub all_left : (from c : ℕ) (all : List (ℕ × Rational)) → AreTerms from (from + c) all
    → AreTermsLeft from c 0 all all
all_left from c all h = record {
  low = omega arith;
  terms = subst (λ k. AreTerms k (from + c) all) (none_lem from) h;
  numbers = λ j b d. λ i. number_at all (from + j);
}
  where
    none_lem : (n : ℕ) → n ≡ n + 0
    none_lem n = omega arith

module _ (from c b : ℕ) (all : List (ℕ × Rational)) where
  module _ (t : ℕ × Rational) (left : List (ℕ × Rational)) (h : AreTermsLeft from c b all (t ∷ left)) where
    -- the term's column
    pub column_within : t.0 - from < c
    column_within = omega (arith, h.terms.0, h.terms.1)

    pub column_past : b ≤ t.0 - from
    column_past = omega (arith, h.terms.0)

    pub place_past : from ≤ t.0
    place_past = omega (arith, h.terms.0)

    back : from + (t.0 - from) ≡ t.0
    back = omega (arith, h.terms.0)

    -- the columns before it have 0
    pub zero_before : (j : ℕ) → b ≤ j → j < t.0 - from → number_at all (from + j) ≡ zero_ℚ
    zero_before j d e =
        h.numbers j d (omega (arith, e, column_within))
        ∙ number_later t left (from + j) (λ f. omega (arith, e, f))
        ∙ number_before (t.0 + 1) (from + c) left (from + j) h.terms.2 (omega (arith, e))

    pub number_there : number_at all (from + (t.0 - from)) ≡ t.1
    number_there =
        h.numbers (t.0 - from) column_past column_within
        ∙ number_here t left (from + (t.0 - from)) (sym back)

    pub left_after : AreTermsLeft from c (t.0 - from + 1) all left
    left_after = record {
      low = omega (arith, column_within);
      terms = subst (λ k. AreTerms k (from + c) left) (next_lem from t.0 place_past) h.terms.2;
      numbers = λ j d e.
          h.numbers j (omega (arith, d, column_past)) e
          ∙ number_later t left (from + j) (λ f. omega (arith, d, f, place_past));
    }
      where
        next_lem : (from p : ℕ) → from ≤ p → p + 1 ≡ from + (p - from + 1)
        next_lem from p b = omega (arith, b)

  pub zero_at_end : AreTermsLeft from c b all [] → (j : ℕ) → b ≤ j → j < c
      → number_at all (from + j) ≡ zero_ℚ
  zero_at_end h j d e = h.numbers j d e

-- ---- numbers that are changed by g, which changes none by 0

module _ (g : Rational → Rational → Rational) (from c b : ℕ) (all : List (ℕ × Rational))
    (old now : List Rational) (none : (j : ℕ) → j < c → g (cell old j) zero_ℚ ≡ cell old j)
    (changed : IsChanged (λ j x. g x (number_at all (from + j))) b old now) where
  skipped : (j : ℕ) → b ≤ j → j < c → number_at all (from + j) ≡ zero_ℚ
      → cell now j ≡ g (cell old j) (number_at all (from + j))
  skipped j d e z = changed.others j d ∙ sym (none j e) ∙ ap (g (cell old j)) (sym z)

  pub changed_more : (t : ℕ × Rational) (left : List (ℕ × Rational)) → AreTermsLeft from c b all (t ∷ left)
      → (next : List Rational) → length next ≡ length now
      → cell next (t.0 - from) ≡ g (cell now (t.0 - from)) t.1
      → ((j : ℕ) → ¬ (j ≡ t.0 - from) → cell next j ≡ cell now j)
      → IsChanged (λ j x. g x (number_at all (from + j))) (t.0 - from + 1) old next
  changed_more t left h next long here others = record {
    long = long ∙ changed.long;
    changed = λ j d. same_or_other (cell next j ≡ g (cell old j) (number_at all (from + j))) j
        (t.0 - from)
        (λ e. subst (λ k. cell next k ≡ g (cell old k) (number_at all (from + k))) (sym e)
        (here ∙ (λ i. g (changed.others (t.0 - from) (column_past from c b all t left h) i)
        (sym (number_there from c b all t left h) i))))
        (λ n. others j n ∙ by_start j (omega (arith, d, n)) (cases_lt j b));
    others = λ j d. others j (λ e. omega (arith, d, e))
        ∙ changed.others j (omega (arith, d, column_past from c b all t left h));
  }
    where
      by_start : (j : ℕ) → j < t.0 - from → (j < b) ⊎ (b ≤ j)
          → cell now j ≡ g (cell old j) (number_at all (from + j))
      by_start j d (inl e) = changed.changed j e
      by_start j d (inr e) =
          skipped j e (omega (arith, d, column_within from c b all t left h))
          (zero_before from c b all t left h j e d)

  pub changed_all : AreTermsLeft from c b all [] → IsChanged (λ j x. g x (number_at all (from + j))) c old now
  changed_all h = record {
    long = changed.long;
    changed = λ j d. by_start j d (cases_lt j b);
    others = λ j d. changed.others j (omega (arith, d, h.low));
  }
    where
      by_start : (j : ℕ) → j < c → (j < b) ⊎ (b ≤ j)
          → cell now j ≡ g (cell old j) (number_at all (from + j))
      by_start j d (inl e) = changed.changed j e
      by_start j d (inr e) = skipped j e d (zero_at_end from c b all h j e d)

-- the columns before those that are left are changed
pub record IsDoneTo (g : Rational → Rational → Rational) (from c : ℕ)
    (all left : List (ℕ × Rational)) (old now : List Rational) : Type 0 where
  pub next : ℕ
  pub rest : AreTermsLeft from c next all left
  pub changed : IsChanged (λ j x. g x (number_at all (from + j))) next old now

pub done_none : (g : Rational → Rational → Rational) (from c : ℕ) (all : List (ℕ × Rational))
    (old : List Rational) → AreTerms from (from + c) all → IsDoneTo g from c all all old old
done_none g from c all old h = record {
  next = 0;
  rest = all_left from c all h;
  changed = record {
    long = λ i. length old;
    changed = λ j b. absurd (omega (arith, b));
    others = λ j b. λ i. cell old j;
  };
}

module _ (g : Rational → Rational → Rational) (from c : ℕ) (all : List (ℕ × Rational))
    (old now : List Rational) where
  -- the next of the terms that are left
  pub at_term : (i : ℕ) (t : ℕ × Rational) → i < length all → t ≡ slice_index_or all i t
      → IsDoneTo g from c all (drop i all) old now
      → IsDoneTo g from c all (t ∷ drop (i + 1) all) old now
  at_term i t b e = subst (λ left. IsDoneTo g from c all left old now)
      (drop_more all i t b ∙ ap (λ x. x ∷ drop (i + 1) all) (sym e))

  pub at_end : (i : ℕ) → length all ≤ i → IsDoneTo g from c all (drop i all) old now
      → IsDoneTo g from c all [] old now
  at_end i b = subst (λ left. IsDoneTo g from c all left old now) (drop_of_length-le all b)

  module _ (t : ℕ × Rational) (left : List (ℕ × Rational))
      (d : IsDoneTo g from c all (t ∷ left) old now) where
    pub term_within : t.0 - from < c
    term_within = column_within from c d.next all t left d.rest

    pub term_past : from ≤ t.0
    term_past = place_past from c d.next all t left d.rest

    pub term_number : number_at all (from + (t.0 - from)) ≡ t.1
    term_number = number_there from c d.next all t left d.rest

    -- its column is as it was
    pub term_untouched : cell now (t.0 - from) ≡ cell old (t.0 - from)
    term_untouched = d.changed.others (t.0 - from) (column_past from c d.next all t left d.rest)

module _ (g : Rational → Rational → Rational) (from c : ℕ) (all : List (ℕ × Rational))
    (old now : List Rational) (none : (j : ℕ) → j < c → g (cell old j) zero_ℚ ≡ cell old j) where
  pub done_more : (t : ℕ × Rational) (left : List (ℕ × Rational))
      → IsDoneTo g from c all (t ∷ left) old now → (next : List Rational) → length next ≡ length now
      → cell next (t.0 - from) ≡ g (cell now (t.0 - from)) t.1
      → ((j : ℕ) → ¬ (j ≡ t.0 - from) → cell next j ≡ cell now j)
      → IsDoneTo g from c all left old next
  done_more t left d next long here others = record {
    next = t.0 - from + 1;
    rest = left_after from c d.next all t left d.rest;
    changed = changed_more g from c d.next all old now none d.changed t left d.rest next long here
        others;
  }

  pub done_all : IsDoneTo g from c all [] old now
      → IsChanged (λ j x. g x (number_at all (from + j))) c old now
  done_all d = changed_all g from c d.next all old now none d.changed d.rest

-- ---- sums that fit

-- of each column what is added is still among the numbers that are left, or its sum fits
abbrev pub AreFitTo : ℕ → ℕ → List (ℕ × Rational) → List (ℕ × Rational) → List Rational → Type 0
AreFitTo from c all left old =
    (j : ℕ) → j < c → (number_at all (from + j) ≡ number_at left (from + j))
    ⊎ (sum_fits (cell old j) (number_at all (from + j)) ≡ true)

pub fit_more : (from c : ℕ) (all : List (ℕ × Rational)) (old : List Rational) (t : ℕ × Rational)
    (left : List (ℕ × Rational)) → AreFitTo from c all (t ∷ left) old → from ≤ t.0
    → sum_fits (cell old (t.0 - from)) t.1 ≡ true → AreFitTo from c all left old
fit_more from c all old t left h past fits j b = by_case (h j b)
  where
    by_case : (number_at all (from + j) ≡ number_at (t ∷ left) (from + j))
        ⊎ (sum_fits (cell old j) (number_at all (from + j)) ≡ true)
        → (number_at all (from + j) ≡ number_at left (from + j))
        ⊎ (sum_fits (cell old j) (number_at all (from + j)) ≡ true)
    by_case (inr e) = inr e
    by_case (inl e) =
        same_or_other ((number_at all (from + j) ≡ number_at left (from + j))
        ⊎ (sum_fits (cell old j) (number_at all (from + j)) ≡ true)) t.0 (from + j)
        (λ f. let here : j ≡ t.0 - from = omega (arith, f, past) in
        inr ((λ i. sum_fits (cell old (here i)) ((e ∙ number_here t left (from + j) f) i)) ∙ fits))
        (λ n. inl (e ∙ number_later t left (from + j) n))

pub fit_all : (from c : ℕ) (all : List (ℕ × Rational)) (old : List Rational)
    → AreFitTo from c all [] old → AllFit old → (j : ℕ) → j < c
    → sum_fits (cell old j) (number_at all (from + j)) ≡ true
fit_all from c all old h fit j b = by_case (h j b)
  where
    by_case : (number_at all (from + j) ≡ zero_ℚ)
        ⊎ (sum_fits (cell old j) (number_at all (from + j)) ≡ true)
        → sum_fits (cell old j) (number_at all (from + j)) ≡ true
    by_case (inr e) = e
    by_case (inl e) =
        ap (sum_fits (cell old j)) e
        ∙ (sum_fits_Decides (cell old j) zero_ℚ).1 (SumFits-zero_right (cell old j) (fit j))

-- ---- changes by equal numbers

pub changed_same : (f g : ℕ → Rational → Rational) (n : ℕ) (old new : List Rational)
    → ((j : ℕ) (x : Rational) → j < n → f j x ≡ g j x) → IsChanged f n old new
    → IsChanged g n old new
changed_same f g n old new same h = record {
  long = h.long;
  changed = λ j b. h.changed j b ∙ same j (cell old j) b;
  others = h.others;
}

-- ---- results

pub on_err : {A E : Type 0} (P : Type 0) (r : Result A E) → P → OnErr r P
on_err P (Ok a) p = tt
on_err P (Err e) p = p

pub on_ok : {A E : Type 0} (P Q : Type 0) (r : Result A E) → (P → Q) → OnOk r P → OnOk r Q
on_ok P Q (Ok a) f p = f p
on_ok P Q (Err e) f p = tt
