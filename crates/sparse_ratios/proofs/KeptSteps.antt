-- A list and how it is kept.
use Rattle.std.specs.Prelude.{◌≡◌, ℕ, ◌+◌, ◌-◌, ◌<◌, ◌≤◌, ◌⊎◌, List, ◌∷◌, [], ◌++◌, length, replicate, slice_index_or}
use Rattle.std.proofs.Common.{inl, inr, sym, ◌∙◌, ap, arith, subst}
use Rattle.std.proofs.lemmas.Bool.{cases_lt}
use Rattle.std.proofs.lemmas.List.{get_or_past}
use Rattle.ratio_core.specs.Rational.{Rational, zero_ℚ}
use Rattle.sparse_ratios.specs.declared.ratios.SparseRatios.TheInside.{Inside}
use Rattle.sparse_ratios.specs.Kept.{AreTermsKept, numbers_in}
use Rattle.sparse_ratios.specs.Terms.{AreTerms, Puts, number_at, numbers_of}
use Rattle.sparse_ratios.specs.TermLaws.{cell-numbers_of, length-numbers_of, number_past, numbers_put, numbers_zeros}

module _ (a : Inside) (list : List Rational) (view : numbers_in a ≡ list) where
  pub kept_long : a.len ≡ length list
  kept_long = sym (length-numbers_of a.len a.terms.items) ∙ ap length view

  pub kept_below : (n : ℕ) → length list ≤ n → a.len ≤ n
  kept_below n b = subst (λ k. k ≤ n) (sym kept_long) b

  pub kept_number : AreTermsKept a → (k : ℕ)
      → number_at a.terms.items k ≡ slice_index_or list k zero_ℚ
  kept_number h k = by_end (cases_lt k a.len)
    where
      by_end : (k < a.len) ⊎ (a.len ≤ k)
          → number_at a.terms.items k ≡ slice_index_or list k zero_ℚ
      by_end (inl b) =
          sym (cell-numbers_of a.len a.terms.items k b)
          ∙ ap (λ l. slice_index_or l k zero_ℚ) view
      by_end (inr b) =
          number_past 0 a.len a.terms.items k h.terms b
          ∙ sym (get_or_past list k zero_ℚ (subst (λ n. n ≤ k) kept_long b))

  pub kept_padded : (n : ℕ) → AreTermsKept a → length list ≤ n
      → numbers_of n a.terms.items ≡ list ++ replicate (n - length list) zero_ℚ
  kept_padded n h b =
      ap (λ k. numbers_of k a.terms.items) (back_lem (length list) n b ∙ ap (λ k. k + (n - length list)) (sym kept_long))
      ∙ numbers_zeros a.len (n - length list) a.terms.items h.terms
      ∙ ap (λ l. l ++ replicate (n - length list) zero_ℚ) view
    where
      back_lem : (l n : ℕ) → l ≤ n → n ≡ l + (n - l)
      back_lem l n b = omega (arith, b)

  pub kept_put : (p : ℕ) (x : Rational) (next : List (ℕ × Rational)) → AreTermsKept a
      → length list ≤ p
      → Puts p x a.terms.items next
      → numbers_of (p + 1) next ≡ (list ++ replicate (p - length list) zero_ℚ) ++ x ∷ []
  kept_put p x next h b put =
      numbers_put a.len p x a.terms.items next h.terms (kept_below p b)
      (put.here a.len h.terms (kept_below p b))
      (λ k c. put.others k (λ e. omega (arith, e, c)))
      ∙ (λ i. (view i ++ replicate (p - kept_long i) zero_ℚ) ++ x ∷ [])
