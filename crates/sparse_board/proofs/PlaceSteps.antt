-- Terms split at a place.
use Rattle.std.specs.Prelude.{◌≡◌, ℕ, ◌+◌, ◌-◌, ◌<◌, ◌≤◌, ◌⊎◌, List, drop, length, take, slice_index_or}
use Rattle.std.proofs.Common.{inl, inr, sym, ◌∙◌, ap, arith, subst}
use Rattle.std.proofs.lemmas.Bool.{cases_lt}
use Rattle.std.proofs.lemmas.List.{get_or-drop, get_or_default, length-drop}
use Rattle.ratio_core.specs.Rational.{Rational}
use Rattle.simplex_laws.specs.BoundedSumLaws.{same_or_other}
use Rattle.sparse_ratios.specs.Terms.{AreTerms, AreTermsSplit}
use Rattle.sparse_ratios.specs.TermLaws.{number_dropped, number_taken, terms_dropped, terms_rise, terms_taken}
use Rattle.sparse_board.specs.Starting.{AreTermsOf}

-- the terms from the `from`-th on that come before the k-th are at places below `to`
abbrev pub ArePassed : ℕ → ℕ → ℕ → List (ℕ × Rational) → Type 0
ArePassed to from k ts =
    (j : ℕ) (d : ℕ × Rational) → from ≤ j → j < k → (slice_index_or ts j d).0 < to

pub passed_none : (to from : ℕ) (ts : List (ℕ × Rational)) → ArePassed to from from ts
passed_none to from ts j d b e = absurd (omega (arith, b, e))

pub passed_more : (to from k : ℕ) (ts : List (ℕ × Rational)) (t : ℕ × Rational)
    → ArePassed to from k ts → k < length ts → (slice_index_or ts k t).0 < to
    → ArePassed to from (k + 1) ts
passed_more to from k ts t h b e j d f g =
    same_or_other ((slice_index_or ts j d).0 < to) j k
    (λ s. subst (λ n. (slice_index_or ts n d).0 < to) (sym s)
    (subst (λ x. x.0 < to) (get_or_default ts k t d b) e))
    (λ n. h j d f (low_lem j k g n))
  where
    low_lem : (j k : ℕ) → j < k + 1 → ¬ (j ≡ k) → j < k
    low_lem j k b n = omega (arith, b, n)

module _ (n low to from : ℕ) (ts : List (ℕ × Rational)) (h : AreTerms 0 n ts) (wide : low ≤ to)
    (split : AreTermsSplit low from ts) where
  below_to : (k : ℕ) → ArePassed to from k ts → (j : ℕ) (d : ℕ × Rational) → j < k
      → (slice_index_or ts j d).0 < to
  below_to k passed j d e = by_start (cases_lt j from)
    where
      by_start : (j < from) ⊎ (from ≤ j) → (slice_index_or ts j d).0 < to
      by_start (inl f) = omega (arith, split.before j d f, wide)
      by_start (inr f) = passed j d f e

  -- the k-th term isn't at a place below `to`
  pub split_at : (k : ℕ) (t : ℕ × Rational) → ArePassed to from k ts → k < length ts
      → to ≤ (slice_index_or ts k t).0 → AreTermsSplit to k ts
  split_at k t passed b past = record {
    before = below_to k passed;
    after = λ j d e f. omega (
      arith,
      subst (λ x. to ≤ x.0) (get_or_default ts k t d b) past,
      terms_rise 0 n ts k j d h e f,
    );
  }

  -- all are
  pub split_end : (k : ℕ) → ArePassed to from k ts → length ts ≤ k → AreTermsSplit to (length ts) ts
  split_end k passed b = record {
    before = λ j d e. below_to k passed j d (omega (arith, e, b));
    after = λ j d e f. absurd (omega (arith, e, f));
  }

pub between_splits : (n low high from end : ℕ) (ts : List (ℕ × Rational)) → AreTerms 0 n ts
    → AreTermsSplit low from ts → AreTermsSplit high end ts → from ≤ end
    → AreTermsOf low high ts (take (end - from) (drop from ts))
between_splits n low high from end ts h first last b = record {
  terms = terms_taken low n high (end - from) (drop from ts)
      (terms_dropped 0 n low from ts h (λ k d e f. first.after k d e f))
      (λ k d e f. here k d e);
  numbers = λ k e f.
      number_taken (end - from) k (drop from ts) (λ j d g i x. past_lem k f j d g i x)
      ∙ number_dropped from k ts (λ j d g i x. omega (arith, first.before j d g, e, x));
}
  where
    here : (k : ℕ) (d : ℕ × Rational) → k < end - from → (slice_index_or (drop from ts) k d).0 < high
    here k d e = subst (λ t. t.0 < high) (sym (get_or-drop from ts k d))
        (last.before (from + k) d (omega (arith, e, b)))

    past_lem : (k : ℕ) → k < high → (j : ℕ) (d : ℕ × Rational) → end - from ≤ j
        → j < length (drop from ts) → ¬ ((slice_index_or (drop from ts) j d).0 ≡ k)
    past_lem k f j d g i x = omega (
      arith,
      f,
      sym (ap (λ t. t.0) (get_or-drop from ts j d)) ∙ x,
      last.after (from + j) d (omega (arith, g, b)) (omega (arith, i, length-drop from ts)),
    )
