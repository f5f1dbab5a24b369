-- What the least and the best below a bound are, and tests of the numbers below one.
use Rattle.std.specs.Prelude.{◌≡◌, ℕ, zero, suc, ◌+◌, ◌<◌, ◌≤◌, Bool, true, false, ◌&&◌, ◌||◌, Option, Some, None, IfSome, if◌then◌else◌, refl}
use Rattle.std.proofs.Common.{sym, ◌∙◌, ap, ap₂, arith, subst, true≢false}
use Rattle.std.proofs.lemmas.Bool.{and_left, and_parts, and_right, or_parts}
use Rattle.simplex_form.specs.Search.{all_below, best_below, better_of, least_below, least_row, or_else, row_or_else, some_below}
use Rattle.simplex_laws.specs.BoundedSumLaws.{same_or_other}

-- a fact of each number below n + 1, from one of each below n and one of n
pub below_or_at : (n : ℕ) (P : ℕ → Type 0) → ((i : ℕ) → i < n → P i) → P n → (i : ℕ) → i < suc n
    → P i
below_or_at n P below at i b =
    same_or_other (P i) i n (λ q. subst P (sym q) at) (λ m. below i (omega (arith, m)))

-- ---- the least

abbrev pub IsLeast : ℕ → (ℕ → Bool) → Option ℕ → Type 0
IsLeast n test None = (i : ℕ) → i < n → test i ≡ false
IsLeast n test (Some k) = (k < n) × (test k ≡ true) × ((i : ℕ) → i < k → test i ≡ false)

pub least_below_is : (n : ℕ) (test : ℕ → Bool) → IsLeast n test (least_below n test)
least_below_is zero test = λ i b. absurd (omega arith)
least_below_is (suc n) test = step (least_below n test) (least_below_is n test) (test n) refl
  where
    step : (o : Option ℕ) → IsLeast n test o → (b : Bool) → test n ≡ b
        → IsLeast (suc n) test (or_else o (if b then Some n else None))
    step None h true e = (omega arith, e, h)
    step None h false e = below_or_at n (λ i. test i ≡ false) h e
    step (Some k) h b e = (omega (arith, h.0), h.1, h.2)

abbrev pub IsLeastRow : ℕ → (ℕ → Option ℕ) → Option (ℕ × ℕ) → Type 0
IsLeastRow n column_of None = (i : ℕ) → i < n → column_of i ≡ None
IsLeastRow n column_of (Some found) = (found.0 < n) × (column_of found.0 ≡ Some found.1)
    × ((i : ℕ) → i < found.0 → column_of i ≡ None)

pub least_row_is : (n : ℕ) (column_of : ℕ → Option ℕ)
    → IsLeastRow n column_of (least_row n column_of)
least_row_is zero column_of = λ i b. absurd (omega arith)
least_row_is (suc n) column_of =
    step (least_row n column_of) (least_row_is n column_of) (column_of n) refl
  where
    step : (o : Option (ℕ × ℕ)) → IsLeastRow n column_of o → (c : Option ℕ) → column_of n ≡ c
        → IsLeastRow (suc n) column_of (row_or_else o n c)
    step None h None e = below_or_at n (λ i. column_of i ≡ None) h e
    step None h (Some j) e = (omega arith, e, h)
    step (Some found) h c e = (omega (arith, h.0), h.1, h.2)

-- ---- the best

abbrev pub IsBest : ℕ → (ℕ → Bool) → (ℕ → ℕ → Type 0) → Option ℕ → Type 0
IsBest n test AtMost None = (i : ℕ) → i < n → test i ≡ false
IsBest n test AtMost (Some k) = (k < n) × (test k ≡ true)
    × ((i : ℕ) → i < n → test i ≡ true → AtMost k i)

-- where `before` decides an order that is reflexive and transitive
pub best_below_is : (n : ℕ) (test : ℕ → Bool) (before : ℕ → ℕ → Bool) (AtMost : ℕ → ℕ → Type 0)
    → ((i : ℕ) → AtMost i i) → ((i j k : ℕ) → AtMost i j → AtMost j k → AtMost i k)
    → ((i k : ℕ) → before i k ≡ true → AtMost i k) → ((i k : ℕ) → before i k ≡ false → AtMost k i)
    → IsBest n test AtMost (best_below n test before)
best_below_is zero test before AtMost same chain forth back = λ i b. absurd (omega arith)
best_below_is (suc n) test before AtMost same chain forth back =
    step (best_below n test before) (best_below_is n test before AtMost same chain forth back)
  where
    None_lem : ((i : ℕ) → i < n → test i ≡ false) → (b : Bool) → test n ≡ b
        → IsBest (suc n) test AtMost (if b then Some n else None)
    None_lem h true e = (
      omega arith,
      e,
      below_or_at n (λ i. test i ≡ true → AtMost n i)
          (λ i b k. absurd (true≢false (sym k ∙ h i b))) (λ k. same n),
    )
    None_lem h false e = below_or_at n (λ i. test i ≡ false) h e

    Some_lem : (k : ℕ) → IsBest n test AtMost (Some k) → (b c : Bool) → test n ≡ b → before n k ≡ c
        → IsBest (suc n) test AtMost (if b && c then Some n else Some k)
    Some_lem k h true true e f = (
      omega arith,
      e,
      below_or_at n (λ i. test i ≡ true → AtMost n i)
          (λ i b g. chain n k i (forth n k f) (h.2 i b g)) (λ g. same n),
    )
    Some_lem k h true false e f = (
      omega (arith, h.0),
      h.1,
      below_or_at n
          (λ i. test i ≡ true → AtMost k i) h.2 (λ g. back n k f),
    )
    Some_lem k h false c e f = (
      omega (arith, h.0),
      h.1,
      below_or_at n (λ i. test i ≡ true → AtMost k i) h.2
          (λ g. absurd (true≢false (sym g ∙ e))),
    )

    step : (o : Option ℕ) → IsBest n test AtMost o
        → IsBest (suc n) test AtMost (better_of test before o n)
    step None h = None_lem h (test n) refl
    step (Some k) h = Some_lem k h (test n) (before n k) refl refl

-- ---- tests of each number, and of one

pub all_below_same : (n : ℕ) (f g : ℕ → Bool) → ((k : ℕ) → k < n → f k ≡ g k)
    → all_below n f ≡ all_below n g
all_below_same zero f g e = refl
all_below_same (suc n) f g e =
    ap₂ ◌&&◌ (all_below_same n f g (λ k b. e k (omega arith))) (e n (omega arith))

-- one that fails
pub all_below_failed : (n k : ℕ) (f : ℕ → Bool) → k < n → f k ≡ false → all_below n f ≡ false
all_below_failed zero k f b e = absurd (omega arith)
all_below_failed (suc n) k f b e =
    same_or_other (all_below (suc n) f ≡ false) k n
    (λ q. and_right (all_below n f) (f n) (ap f (sym q) ∙ e))
    (λ m. and_left (all_below n f) (f n) (all_below_failed n k f (omega (arith, m)) e))

-- one more that passes
pub all_below_more : (n : ℕ) (f : ℕ → Bool) → all_below n f ≡ true → f n ≡ true
    → all_below (n + 1) f ≡ true
all_below_more n f e g = subst (λ m. all_below m f ≡ true) (more_lem n) (ap₂ ◌&&◌ e g)
  where
    more_lem : (n : ℕ) → suc n ≡ n + 1
    more_lem n = omega arith

-- at one of those that pass
pub all_below_at : (n k : ℕ) (f : ℕ → Bool) → all_below n f ≡ true → k < n → f k ≡ true
all_below_at zero k f e b = absurd (omega arith)
all_below_at (suc n) k f e b = same_or_other (f k ≡ true) k n
    (λ q. ap f q ∙ (and_parts (all_below n f) (f n) e).1)
    (λ m. all_below_at n k f (and_parts (all_below n f) (f n) e).0 (omega (arith, m)))

pub all_below_all : (n : ℕ) (f : ℕ → Bool) → ((k : ℕ) → k < n → f k ≡ true) → all_below n f ≡ true
all_below_all zero f e = refl
all_below_all (suc n) f e =
    ap₂ ◌&&◌ (all_below_all n f (λ k b. e k (omega arith))) (e n (omega arith))

-- the last of them apart
pub all_below_last : (m n : ℕ) (f : ℕ → Bool) → m ≡ n + 1 → all_below m f ≡ (all_below n f && f n)
all_below_last m n f e = ap (λ k. all_below k f) (e ∙ more_lem n)
  where
    more_lem : (n : ℕ) → n + 1 ≡ suc n
    more_lem n = omega arith

-- one that passes
pub some_below_true : (n : ℕ) (f : ℕ → Bool) → some_below n f ≡ true
    → (k : ℕ) × (k < n) × (f k ≡ true)
some_below_true zero f e = absurd (true≢false (sym e))
some_below_true (suc n) f e = by_test (some_below n f) refl (some_below_true n f) e
  where
    by_test : (b : Bool) → some_below n f ≡ b
        → (some_below n f ≡ true → (k : ℕ) × (k < n) × (f k ≡ true)) → (b || f n) ≡ true
        → (k : ℕ) × (k < suc n) × (f k ≡ true)
    by_test true g before h =
        let found : (k : ℕ) × (k < n) × (f k ≡ true) = before g
        in (found.0, omega (arith, found.1), found.2)
    by_test false g before h = (n, omega arith, h)

pub some_below_false : (n : ℕ) (f : ℕ → Bool) → some_below n f ≡ false → (k : ℕ) → k < n
    → f k ≡ false
some_below_false zero f e = λ k b. absurd (omega (arith, b))
some_below_false (suc n) f e =
    let both : (some_below n f ≡ false) × (f n ≡ false) = or_parts (some_below n f) (f n) e in
    below_or_at n (λ i. f i ≡ false) (some_below_false n f both.0) both.1

pub some_below_same : (n : ℕ) (f g : ℕ → Bool) → ((k : ℕ) → k < n → f k ≡ g k)
    → some_below n f ≡ some_below n g
some_below_same zero f g e = refl
some_below_same (suc n) f g e =
    ap₂ ◌||◌ (some_below_same n f g (λ k b. e k (omega (arith, b)))) (e n (omega arith))

-- ---- the same choices by the same tests

pub least_below_same : (n : ℕ) (f g : ℕ → Bool) → ((k : ℕ) → k < n → f k ≡ g k)
    → least_below n f ≡ least_below n g
least_below_same zero f g e = refl
least_below_same (suc n) f g e =
    ap₂ or_else (least_below_same n f g (λ k b. e k (omega (arith, b))))
    (ap (λ b. if b then Some n else None) (e n (omega arith)))

pub least_row_same : (n : ℕ) (f g : ℕ → Option ℕ) → ((k : ℕ) → k < n → f k ≡ g k)
    → least_row n f ≡ least_row n g
least_row_same zero f g e = refl
least_row_same (suc n) f g e =
    ap₂ (λ o c. row_or_else o n c) (least_row_same n f g (λ k b. e k (omega (arith, b))))
    (e n (omega arith))

module _ (f g : ℕ → Bool) (before other : ℕ → ℕ → Bool) (m : ℕ) (e : (k : ℕ) → k < m → f k ≡ g k)
    (h : (i k : ℕ) → i < m → k < m → before i k ≡ other i k) where
  abbrev AgreesBelow : ℕ → Option ℕ → Option ℕ → Type 0
  AgreesBelow n o p = (o ≡ p) × IfSome o (λ k. k < n)

  better_same : (n : ℕ) (o : Option ℕ) → n < m → IfSome o (λ k. k < n)
      → AgreesBelow (suc n) (better_of f before o n) (better_of g other o n)
  better_same n None b h2 = (ap (λ t. if t then Some n else None) (e n b), by_test (f n))
    where
      by_test : (t : Bool) → IfSome (if t then Some n else None) (λ k. k < suc n)
      by_test true = omega arith
      by_test false = tt
  better_same n (Some k) b c = (
    ap₂ (λ t u. if t && u then Some n else Some k) (e n b) (h n k b (omega (arith, b, c))),
    by_test (f n && before n k),
  )
    where
      by_test : (t : Bool) → IfSome (if t then Some n else Some k) (λ k. k < suc n)
      by_test true = omega arith
      by_test false = omega (arith, c)

  agrees_below : (n : ℕ) → n ≤ m → AgreesBelow n (best_below n f before) (best_below n g other)
  agrees_below zero b = (refl, tt)
  agrees_below (suc n) b = step (agrees_below n (omega (arith, b)))
    where
      step : AgreesBelow n (best_below n f before) (best_below n g other)
          → AgreesBelow (suc n) (best_below (suc n) f before) (best_below (suc n) g other)
      step k =
          let next = better_same n (best_below n f before) (omega (arith, b)) k.1 in
          (next.0 ∙ ap (λ o. better_of g other o n) k.0, next.1)

  pub best_below_same : best_below m f before ≡ best_below m g other
  best_below_same = (agrees_below m (omega arith)).0
