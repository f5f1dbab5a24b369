-- The least below a bound, found by a loop.
use Rattle.std.specs.Prelude.{◌≡◌, ℕ, zero, suc, ◌+◌, ◌-◌, ◌<◌, ◌≤◌, Bool, true, false, ◌||◌, Option, Some, None}
use Rattle.std.proofs.Common.{sym, ◌∙◌, ap, add-one, arith}
use Rattle.std.proofs.lemmas.Bool.{or_right}
use Rattle.simplex_laws.specs.BoundedSumLaws.{same_or_other}
use Rattle.simplex_laws.specs.SearchLaws.{all_below_at, all_below_failed, all_below_more}
use Rattle.simplex_form.specs.Search.{all_below, least_row, row_or_else, some_below}

-- ---- the least row

pub row_more : (n : ℕ) (column_of : ℕ → Option ℕ) → least_row n column_of ≡ None
    → column_of n ≡ None → least_row (n + 1) column_of ≡ None
row_more n column_of e f =
    ap (λ k. least_row k column_of) (add-one n) ∙ (λ i. row_or_else (e i) n (f i))

row_here : (r q : ℕ) (column_of : ℕ → Option ℕ) → least_row r column_of ≡ None
    → column_of r ≡ Some q → least_row (suc r) column_of ≡ Some (r, q)
row_here r q column_of e f = λ i. row_or_else (e i) r (f i)

pub row_found : (n r q : ℕ) (column_of : ℕ → Option ℕ) → r < n → least_row r column_of ≡ None
    → column_of r ≡ Some q → least_row n column_of ≡ Some (r, q)
row_found zero r q column_of b e f = absurd (omega (arith, b))
row_found (suc n) r q column_of b e f =
    same_or_other (least_row (suc n) column_of ≡ Some (r, q)) r n
    (λ i. ap (λ k. least_row (suc k) column_of) (sym i) ∙ row_here r q column_of e f)
    (λ m. ap (λ o. row_or_else o n (column_of n))
    (row_found n r q column_of (omega (arith, b, m)) e f))

-- ---- some number

pub some_more : (n : ℕ) (test : ℕ → Bool) → some_below n test ≡ false → test n ≡ false
    → some_below (n + 1) test ≡ false
some_more n test e f = ap (λ k. some_below k test) (add-one n) ∙ (λ i. e i || f i)

pub some_found : (n k : ℕ) (test : ℕ → Bool) → k < n → test k ≡ true → some_below n test ≡ true
some_found zero k test b e = absurd (omega (arith, b))
some_found (suc n) k test b e =
    same_or_other (some_below (suc n) test ≡ true) k n
    (λ q. or_right (some_below n test) (test n) (ap test (sym q) ∙ e))
    (λ m. ap (λ x. x || test n) (some_found n k test (omega (arith, b, m)) e))

-- ---- tests of the numbers from a on

module _ (a : ℕ) (f : ℕ → Bool) where
  back_lem : (j : ℕ) → a ≤ j → f (a + (j - a)) ≡ f j
  back_lem j b = ap f (omega (arith, b))

  pub passed_none : (j : ℕ) → j ≡ a → all_below (j - a) (λ k. f (a + k)) ≡ true
  passed_none j e =
      let none : j - a ≡ 0 = omega arith in ap (λ n. all_below n (λ k. f (a + k))) none

  pub passed_more : (j : ℕ) → a ≤ j → all_below (j - a) (λ k. f (a + k)) ≡ true → f j ≡ true
      → all_below (j + 1 - a) (λ k. f (a + k)) ≡ true
  passed_more j b h e =
      let more : j + 1 - a ≡ j - a + 1 = omega (arith, b) in
      ap (λ n. all_below n (λ k. f (a + k))) more
      ∙ all_below_more (j - a) (λ k. f (a + k)) h (back_lem j b ∙ e)

  pub passed_failed : (j m : ℕ) → a ≤ j → j < a + m → f j ≡ false
      → all_below m (λ k. f (a + k)) ≡ false
  passed_failed j m b c e =
      all_below_failed m (j - a) (λ k. f (a + k)) (omega (arith, b, c)) (back_lem j b ∙ e)

  pub passed_all : (j m : ℕ) → j ≡ a + m → all_below (j - a) (λ k. f (a + k)) ≡ true
      → all_below m (λ k. f (a + k)) ≡ true
  passed_all j m e h =
      let all : m ≡ j - a = omega arith in ap (λ n. all_below n (λ k. f (a + k))) all ∙ h

  pub passed_at : (j m : ℕ) → a ≤ j → j < a + m → all_below m (λ k. f (a + k)) ≡ true → f j ≡ true
  passed_at j m b c h =
      sym (back_lem j b) ∙ all_below_at m (j - a) (λ k. f (a + k)) h (omega (arith, b, c))
