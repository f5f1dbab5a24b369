-- The number of a column, by the columns that are kept.
use Rattle.std.specs.Prelude.{◌≡◌, ℕ, zero, suc, ◌+◌, ◌<◌, ◌≤◌, nat_eq, List, [], ◌∷◌, ◌++◌, length, slice_index, take, ◌⊎◌, refl, min}
use Rattle.std.proofs.Common.{sym, ◌∙◌, ap, arith, subst, eq-eqb, inl, inr}
use Rattle.std.proofs.lemmas.Bool.{cond-true, cond-false, cases_lt, ne_eqb}
use Rattle.std.proofs.lemmas.List.{get_or_append_left, get_or-take, length-append, length-take}
use Rattle.std.proofs.Math.Seq.{get_or-append_seam}
use Rattle.ratio_core.specs.Rational.{Fits, Rational, zero_ℚ}
use Rattle.rational_laws.specs.Fitting.{Fits_zero}
use Rattle.simplex_laws.specs.BoundedSumLaws.{same_or_other}
use Rattle.tableau_core.specs.Row.{AllFit, cell}
use Rattle.sparse_board.specs.Sparse.{AreColumnsBelow, AreColumnsSplit, IsSparse, number_at, number_in}

module _ (columns : List ℕ) (values : List Rational) where
  number_here : (n j : ℕ) → slice_index columns n ≡ j → number_at columns values (suc n) j
      ≡ cell values n
  number_here n j e =
      cond-true (nat_eq (slice_index columns n) j) (cell values n) (number_at columns values n j)
      (eq-eqb (slice_index columns n) j e)

  number_before : (n j : ℕ) → ¬ (slice_index columns n ≡ j) → number_at columns values (suc n) j
      ≡ number_at columns values n j
  number_before n j m =
      cond-false (nat_eq (slice_index columns n) j) (cell values n) (number_at columns values n j)
      (ne_eqb (slice_index columns n) j m)

  found : (n k j : ℕ) → ((i : ℕ) → k < i → i < n → ¬ (slice_index columns i ≡ j)) → k < n
      → slice_index columns k ≡ j → number_at columns values n j ≡ cell values k
  found zero k j other b e = absurd (omega (arith, b))
  found (suc n) k j other b e =
      same_or_other (number_at columns values (suc n) j ≡ cell values k) k n
      (λ q. subst (λ l. number_at columns values (suc n) j ≡ cell values l) (sym q)
      (number_here n j (ap (slice_index columns) (sym q) ∙ e)))
      (λ m. number_before n j (other n (omega (arith, b, m)) (omega arith))
      ∙ found n k j (λ i c d. other i c (omega (arith, d))) (omega (arith, b, m)) e)

  missing : (n j : ℕ) → ((k : ℕ) → k < n → ¬ (slice_index columns k ≡ j))
      → number_at columns values n j ≡ zero_ℚ
  missing zero j h = refl
  missing (suc n) j h =
      number_before n j (h n (omega arith)) ∙ missing n j (λ k b. h k (omega (arith, b)))

  fits_at : AllFit values → (n j : ℕ) → Fits (number_at columns values n j)
  fits_at h zero j = Fits_zero
  fits_at h (suc n) j =
      same_or_other (Fits (number_at columns values (suc n) j)) (slice_index columns n) j
      (λ e. subst Fits (sym (number_here n j e)) (h n))
      (λ m. subst Fits (sym (number_before n j m)) (fits_at h n j))

  -- ---- numbers of all the columns

  pub number_at_place : IsSparse columns values → (k j : ℕ) → k < length columns
      → slice_index columns k ≡ j → number_in columns values j ≡ cell values k
  unfolding number_in
  number_at_place h k j b e =
      found (length columns) k j (λ i c d f. above_lem (slice_index columns k)
      (slice_index columns i) j (h.rising k i c d) e f) b e
    where
      above_lem : (a b j : ℕ) → a < b → a ≡ j → b ≡ j → ⊥
      above_lem a b j h e f = absurd (omega (arith, h, e, f))

  pub number_missing : (j : ℕ) → ((k : ℕ) → k < length columns → ¬ (slice_index columns k ≡ j))
      → number_in columns values j ≡ zero_ℚ
  unfolding number_in
  number_missing j h = missing (length columns) j h

  pub number_fits : AllFit values → (j : ℕ) → Fits (number_in columns values j)
  unfolding number_in
  number_fits h j = fits_at h (length columns) j

  -- no number stands beside a column from b on and before the next
  pub number_between : IsSparse columns values → (b i j : ℕ) → AreColumnsSplit b i columns → b ≤ j
      → (i < length columns → j < slice_index columns i) → number_in columns values j ≡ zero_ℚ
  number_between h b i j split low high = number_missing j (λ k c e. by_side k c e (cases_lt k i))
    where
      by_side : (k : ℕ) → k < length columns → slice_index columns k ≡ j → (k < i) ⊎ (i ≤ k) → ⊥
      by_side k c e (inl d) = before_lem (slice_index columns k) b j (split.before k d) low e
        where
          before_lem : (x b j : ℕ) → x < b → b ≤ j → x ≡ j → ⊥
          before_lem x b j p q r = absurd (omega (arith, p, q, r))
      by_side k c e (inr d) =
          same_or_other ⊥ i k
          (λ f. here_lem j (slice_index columns i)
          (high (subst (λ l. l < length columns) (sym f) c)) (ap (slice_index columns) f ∙ e))
          (λ m. past_lem j (slice_index columns i) (slice_index columns k)
          (high (omega (arith, c, d))) (h.rising i k (omega (arith, d, m)) c) e)
        where
          here_lem : (j x : ℕ) → j < x → x ≡ j → ⊥
          here_lem j x p q = absurd (omega (arith, p, q))

          past_lem : (j x y : ℕ) → j < x → x < y → y ≡ j → ⊥
          past_lem j x y p q r = absurd (omega (arith, p, q, r))

  -- nor beside one past all
  pub number_past : (b j : ℕ) → AreColumnsBelow b columns → b ≤ j
      → number_in columns values j ≡ zero_ℚ
  number_past b j below c =
      number_missing j (λ k d e. past_lem (slice_index columns k) b j (below k d) c e)
    where
      past_lem : (x b j : ℕ) → x < b → b ≤ j → x ≡ j → ⊥
      past_lem x b j p q r = absurd (omega (arith, p, q, r))

-- ---- as many columns as are below a bound, at most

pub places_rise : (columns : List ℕ)
    → ((i k : ℕ) → i < k → k < length columns → slice_index columns i < slice_index columns k)
    → (k : ℕ) → k < length columns → k ≤ slice_index columns k
places_rise columns h zero b = omega arith
places_rise columns h (suc k) b =
    step_lem k (slice_index columns k) (slice_index columns (suc k))
    (places_rise columns h k (omega (arith, b))) (h k (suc k) (omega arith) b)
  where
    step_lem : (k x y : ℕ) → k ≤ x → x < y → suc k ≤ y
    step_lem k x y p q = omega (arith, p, q)

pub few_below : (columns : List ℕ) (b : ℕ)
    → ((i k : ℕ) → i < k → k < length columns → slice_index columns i < slice_index columns k)
    → AreColumnsBelow b columns → length columns ≤ b
few_below columns b h below = by_length (length columns) refl
  where
    last_lem : (n x b : ℕ) → n ≤ x → x < b → suc n ≤ b
    last_lem n x b p q = omega (arith, p, q)

    by_length : (n : ℕ) → n ≡ length columns → length columns ≤ b
    by_length zero e = omega (arith, e)
    by_length (suc n) e =
        let c : n < length columns = omega (arith, e) in
        subst (λ m. m ≤ b) e (last_lem n (slice_index columns n) b
        (places_rise columns h n c) (below n c))

-- ---- one more at the end

module _ (columns : List ℕ) (values : List Rational) (c : ℕ) (v : Rational)
    (long : length values ≡ length columns) where
  new_column : slice_index (columns ++ c ∷ []) (length columns) ≡ c
  new_column = get_or-append_seam columns c [] 0

  new_value : cell (values ++ v ∷ []) (length columns) ≡ v
  new_value = ap (cell (values ++ v ∷ [])) (sym long) ∙ get_or-append_seam values v [] zero_ℚ

  old_column : (k : ℕ) → k < length columns → slice_index (columns ++ c ∷ []) k
      ≡ slice_index columns k
  old_column k b = get_or_append_left columns (c ∷ []) 0 k b

  old_value : (k : ℕ) → k < length columns → cell (values ++ v ∷ []) k ≡ cell values k
  old_value k b = get_or_append_left values (v ∷ []) zero_ℚ k (subst (λ n. k < n) (sym long) b)

  old_numbers : (n j : ℕ) → n ≤ length columns
      → number_at (columns ++ c ∷ []) (values ++ v ∷ []) n j ≡ number_at columns values n j
  old_numbers zero j b = refl
  old_numbers (suc n) j b =
      same_or_other (number_at (columns ++ c ∷ []) (values ++ v ∷ []) (suc n) j ≡ number_at columns
      values (suc n) j) (slice_index columns n) j
      (λ e. number_here (columns ++ c ∷ []) (values ++ v ∷ []) n j (old_column n few ∙ e)
      ∙ old_value n few ∙ sym (number_here columns values n j e))
      (λ m. number_before (columns ++ c ∷ []) (values ++ v ∷ []) n j (λ e. m (sym (old_column n few)
      ∙ e)) ∙ old_numbers n j (omega (arith, few)) ∙ sym (number_before columns values n j m))
    where
      few : n < length columns
      few = omega (arith, b)

  one_more : length (columns ++ c ∷ []) ≡ suc (length columns)
  one_more = length-append columns (c ∷ []) ∙ more_lem (length columns)
    where
      more_lem : (n : ℕ) → n + 1 ≡ suc n
      more_lem n = omega arith

  pub number_added : number_in (columns ++ c ∷ []) (values ++ v ∷ []) c ≡ v
  unfolding number_in
  number_added =
      ap (λ n. number_at (columns ++ c ∷ []) (values ++ v ∷ []) n c) one_more
      ∙ number_here (columns ++ c ∷ []) (values ++ v ∷ []) (length columns) c new_column ∙ new_value

  pub number_kept : (j : ℕ) → ¬ (j ≡ c) → number_in (columns ++ c ∷ []) (values ++ v ∷ []) j
      ≡ number_in columns values j
  unfolding number_in
  number_kept j m =
      ap (λ n. number_at (columns ++ c ∷ []) (values ++ v ∷ []) n j) one_more
      ∙ number_before (columns ++ c ∷ []) (values ++ v ∷ []) (length columns) j
      (λ e. m (sym e ∙ new_column))
      ∙ old_numbers (length columns) j (omega arith)

  at_end : (P : ℕ → Type 0) → ((k : ℕ) → k < length columns → P k) → P (length columns) → (k : ℕ)
      → k < length (columns ++ c ∷ []) → P k
  at_end P old new k b =
      same_or_other (P k) k (length columns) (λ e. subst P (sym e) new)
      (λ m. old k (omega (arith, m, subst (λ n. k < n) one_more b)))

  pub below_added : AreColumnsBelow c columns → AreColumnsBelow (c + 1) (columns ++ c ∷ [])
  below_added below =
      at_end (λ k. slice_index (columns ++ c ∷ []) k < c + 1)
      (λ k b. subst (λ x. x < c + 1) (sym (old_column k b)) (omega (arith, below k b)))
      (subst (λ x. x < c + 1) (sym new_column) (omega arith))

  pub within_added : (w : ℕ) → AreColumnsBelow w columns → c < w
      → AreColumnsBelow w (columns ++ c ∷ [])
  within_added w below d =
      at_end (λ k. slice_index (columns ++ c ∷ []) k < w)
      (λ k b. subst (λ x. x < w) (sym (old_column k b)) (below k b))
      (subst (λ x. x < w) (sym new_column) d)

  pub sparse_added : IsSparse columns values → AreColumnsBelow c columns → ¬ (v ≡ zero_ℚ) → Fits v
      → IsSparse (columns ++ c ∷ []) (values ++ v ∷ [])
  sparse_added h below other fits = record {
    long = length-append values (v ∷ []) ∙ ap (λ n. n + 1) long
        ∙ sym (length-append columns (c ∷ []));
    rising =
        λ i k d b. at_end (λ k. i < k → slice_index (columns ++ c ∷ []) i < slice_index
        (columns ++ c ∷ []) k)
        (λ k b e. subst (λ x. x < slice_index (columns ++ c ∷ []) k)
        (sym (old_column i (omega (arith, b, e)))) (subst (λ x. slice_index columns i < x)
        (sym (old_column k b)) (h.rising i k e b)))
        (λ e. subst (λ x. x < slice_index (columns ++ c ∷ []) (length columns))
        (sym (old_column i e)) (subst (λ x. slice_index columns i < x) (sym new_column)
        (below i e)))
        k b d;
    others = at_end (λ k. ¬ (cell (values ++ v ∷ []) k ≡ zero_ℚ))
        (λ k b e. h.others k b (sym (old_value k b) ∙ e)) (λ e. other (sym new_value ∙ e));
    fit = all_fit values h.fit;
  }
    where
      all_fit : (xs : List Rational) → AllFit xs → AllFit (xs ++ v ∷ [])
      all_fit [] h zero = fits
      all_fit [] h (suc k) = Fits_zero
      all_fit (x ∷ xs) h zero = h zero
      all_fit (x ∷ xs) h (suc k) = all_fit xs (λ i. h (suc i)) k

-- ---- looking for a column

pub sought : (columns : List ℕ) (j n : ℕ)
    → ((k : ℕ) × (k < n) × (slice_index columns k ≡ j)) ⊎ ((k : ℕ) → k < n
    → ¬ (slice_index columns k ≡ j))
sought columns j zero = inr (λ k b. absurd (omega (arith, b)))
sought columns j (suc n) =
    same_or_other (((k : ℕ) × (k < suc n) × (slice_index columns k ≡ j)) ⊎ ((k : ℕ) → k < suc n
    → ¬ (slice_index columns k ≡ j))) (slice_index columns n) j
    (λ e. inl (n, omega arith, e))
    (λ m. by_earlier m (sought columns j n))
  where
    by_earlier : ¬ (slice_index columns n ≡ j)
        → ((k : ℕ) × (k < n) × (slice_index columns k ≡ j)) ⊎ ((k : ℕ) → k < n
        → ¬ (slice_index columns k ≡ j))
        → ((k : ℕ) × (k < suc n) × (slice_index columns k ≡ j)) ⊎ ((k : ℕ) → k < suc n
        → ¬ (slice_index columns k ≡ j))
    by_earlier m (inl f) = inl (f.0, omega (arith, f.1), f.2)
    by_earlier m (inr none) =
        inr (λ k b e. same_or_other ⊥ k n (λ q. m (ap (slice_index columns) (sym q) ∙ e))
        (λ o. none k (omega (arith, b, o)) e))

-- ---- the numbers of the first i columns

all_fit_take : (i : ℕ) (xs : List Rational) → AllFit xs → AllFit (take i xs)
all_fit_take zero xs h k = Fits_zero
all_fit_take (suc i) [] h k = Fits_zero
all_fit_take (suc i) (x ∷ xs) h zero = h zero
all_fit_take (suc i) (x ∷ xs) h (suc k) = all_fit_take i xs (λ l. h (suc l)) k

module _ (columns : List ℕ) (values : List Rational) (sparse : IsSparse columns values) (w i : ℕ)
    (split : AreColumnsSplit w i columns) where
  min_lem : (a b : ℕ) → a ≤ b → min a b ≡ a
  min_lem a b c = omega (arith, c)

  taken_long : length (take i columns) ≡ i
  taken_long = length-take i columns ∙ min_lem i (length columns) split.within

  taken_column : (k : ℕ) → k < i → slice_index (take i columns) k ≡ slice_index columns k
  taken_column k b = get_or-take i columns k 0 b

  taken_value : (k : ℕ) → k < i → cell (take i values) k ≡ cell values k
  taken_value k b = get_or-take i values k zero_ℚ b

  less : (k : ℕ) → k < length (take i columns) → k < i
  less k b = subst (λ n. k < n) taken_long b

  pub below_taken : AreColumnsBelow w (take i columns)
  below_taken k b = subst (λ x. x < w) (sym (taken_column k (less k b))) (split.before k (less k b))

  pub sparse_taken : IsSparse (take i columns) (take i values)
  sparse_taken = record {
    long = length-take i values ∙ ap (min i) sparse.long ∙ sym (length-take i columns);
    rising = λ l k b c.
        let d : k < i = less k c in
        subst (λ x. x < slice_index (take i columns) k) (sym (taken_column l (omega (arith, b, d))))
        (subst (λ x. slice_index columns l < x) (sym (taken_column k d))
        (sparse.rising l k b (omega (arith, d, split.within))));
    others = λ k c e. sparse.others k (omega (arith, less k c, split.within))
        (sym (taken_value k (less k c)) ∙ e);
    fit = all_fit_take i values sparse.fit;
  }

  pub number_taken : (j : ℕ) → j < w → number_in (take i columns) (take i values) j
      ≡ number_in columns values j
  number_taken j b = by_place (sought columns j i)
    where
      by_place : ((k : ℕ) × (k < i) × (slice_index columns k ≡ j)) ⊎ ((k : ℕ) → k < i
          → ¬ (slice_index columns k ≡ j)) → number_in (take i columns) (take i values) j
          ≡ number_in columns values j
      by_place (inl f) =
          number_at_place (take i columns) (take i values) sparse_taken f.0 j
          (subst (λ n. f.0 < n) (sym taken_long) f.1) (taken_column f.0 f.1 ∙ f.2)
          ∙ taken_value f.0 f.1
          ∙ sym (number_at_place columns values sparse f.0 j (omega (arith, f.1, split.within)) f.2)
      by_place (inr none) =
          number_missing (take i columns) (take i values) j
          (λ k c e. none k (less k c) (sym (taken_column k (less k c)) ∙ e))
          ∙ sym (number_missing columns values j (λ k c e. by_side k c e (cases_lt k i)))
        where
          by_side : (k : ℕ) → k < length columns → slice_index columns k ≡ j → (k < i) ⊎ (i ≤ k) → ⊥
          by_side k c e (inl d) = none k d e
          by_side k c e (inr d) = past_lem w (slice_index columns k) j (split.after k d c) e b
            where
              past_lem : (w x j : ℕ) → w ≤ x → x ≡ j → j < w → ⊥
              past_lem w x j p q r = absurd (omega (arith, p, q, r))
