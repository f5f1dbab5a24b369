-- Positions of numbers in a list whose numbers rise.
use Rattle.std.specs.Prelude.{◌≡◌, ℕ, zero, suc, ◌+◌, ◌<◌, ◌≤◌, ◌==◌, nat_lt, cond, List, [], ◌∷◌, ◌++◌, All, Contains, map, length, slice_index_or, refl}
use Rattle.std.specs.Ordering.{nat_cmp}
use Rattle.std.proofs.Common.{ap, arith, sym, ◌∙◌}
use Rattle.std.proofs.lemmas.Bool.{le-ltb, lt-ltb}
use Rattle.std.proofs.lemmas.Bool.Decides.{nat_tests}
use Rattle.std.proofs.lemmas.List.{get_or-map, get_or_at, length-append, length-map}
use Rattle.std.proofs.lemmas.List.Sums.{sum_by-cons}
use Rattle.std.proofs.lemmas.List.Elements.{All-head, All-tail}
use Rattle.numbered_list.specs.Numbered.{Rise}
use Rattle.numbered_list.specs.Laws.{Rise-head, Rise-tail}
use Rattle.user_model.specs.SameUpToNumbers.{position}

pub position_more : (m : ℕ) (ms : List ℕ) (n : ℕ)
    → position (m ∷ ms) n ≡ cond (nat_lt m n) 1 0 + position ms n
position_more m ms n = sum_by-cons (λ m. cond (nat_lt m n) 1 0) m ms

pub position_above : (m : ℕ) (ms : List ℕ) (n : ℕ) → m < n
    → position (m ∷ ms) n ≡ suc (position ms n)
position_above m ms n h =
    position_more m ms n ∙ ap (λ b. cond b 1 0 + position ms n) (lt-ltb m n h) ∙ omega arith

pub position_low : (m : ℕ) (ms : List ℕ) (n : ℕ) → n ≤ m → position (m ∷ ms) n ≡ position ms n
position_low m ms n h =
    position_more m ms n ∙ ap (λ b. cond b 1 0 + position ms n) (le-ltb m n h) ∙ omega arith

-- a number that is below another is below each that is no less
least_more : (a m n : ℕ) → m ≤ n → cond (nat_lt a m) 1 0 ≤ cond (nat_lt a n) 1 0
least_more a m n h = grind (arith, nat_tests)

-- a greater number has no lesser position
position_most : (ms : List ℕ) (m n : ℕ) → m ≤ n → position ms m ≤ position ms n
position_most [] m n h = omega arith
position_most (a ∷ ms) m n h =
    let first = position_more a ms m in
    let second = position_more a ms n in
    let rest = position_most ms m n h in
    let least = least_more a m n h in
    omega (arith, first, second, rest, least)

-- a number of the list has a lesser position than any that is greater
pub position_less : (ms : List ℕ) (m n : ℕ) → Contains ms m → m < n
    → position ms m < position ms n
position_less [] m n there h = absurd (omega (arith, there.1))
position_less (a ∷ ms) m n (zero, inside, is) h =
    let first = position_low a ms m (omega (arith, is)) in
    let second = position_above a ms n (omega (arith, is, h)) in
    let rest = position_most ms m n (omega (arith, h)) in
    omega (arith, first, second, rest)
position_less (a ∷ ms) m n (suc k, inside, is) h =
    let first = position_more a ms m in
    let second = position_more a ms n in
    let rest = position_less ms m n (k, omega (arith, inside), is) h in
    let least = least_more a m n (omega (arith, h)) in
    omega (arith, first, second, rest, least)

-- numbers in the order of two others
pub cmp_alike : (m n p q : ℕ) → (m < n → p < q) → (n < m → q < p) → (m ≡ n → p ≡ q)
    → nat_cmp p q ≡ nat_cmp m n
cmp_alike m n p q less more same = grind (arith, nat_tests)

pub test_alike : (m n p q : ℕ) → (m < n → p < q) → (n < m → q < p) → (m ≡ n → p ≡ q)
    → (p == q) ≡ (m == n)
test_alike m n p q less more same = grind (arith, nat_tests)

module _ {X : Type 0} (number_of : X → ℕ) where
  none_counted : (xs : List X) (n : ℕ) → All (λ x. n < number_of x) xs
      → position (map number_of xs) n ≡ 0
  none_counted [] n h = refl
  none_counted (x ∷ xs) n h =
      let above : n < number_of x = All-head (λ x. n < number_of x) x xs h in
      position_low (number_of x) (map number_of xs) n (omega (arith, above))
      ∙ none_counted xs n (All-tail (λ x. n < number_of x) x xs h)

  number_in : (xs : List X) (x : X) → Contains xs x → Contains (map number_of xs) (number_of x)
  number_in xs x there = (
    there.0,
    omega (arith, there.1, length-map xs number_of),
    get_or-map number_of xs there.0 x (number_of x) there.1 ∙ ap number_of there.2,
  )

  -- the position of the item at a place is the place
  at_place : (xs : List X) → Rise number_of xs → (k : ℕ) (d : X) → k < length xs
      → position (map number_of xs) (number_of (slice_index_or xs k d)) ≡ k
  at_place [] rise k d h = absurd (omega arith)
  at_place (x ∷ xs) rise zero d h =
      position_low (number_of x) (map number_of xs) (number_of x) (omega arith)
      ∙ none_counted xs (number_of x) (Rise-head number_of x xs rise)
  at_place (x ∷ xs) rise (suc k) d h =
      position_above (number_of x) (map number_of xs) (number_of (slice_index_or xs k d))
      (Rise-head number_of x xs rise k d (omega arith))
      ∙ ap suc (at_place xs (Rise-tail number_of x xs rise) k d (omega arith))

  pub placed : (xs : List X) → Rise number_of xs → (x : X) (there : Contains xs x)
      → position (map number_of xs) (number_of x) ≡ there.0
  placed xs rise x there =
      ap (λ y. position (map number_of xs) (number_of y)) (sym there.2)
      ∙ at_place xs rise there.0 x there.1

  -- and so is that of the item behind some
  pub placed_here : (all : List X) → Rise number_of all → (done : List X) (x : X) (rest : List X)
      → all ≡ done ++ x ∷ rest → position (map number_of all) (number_of x) ≡ length done
  placed_here all rise done x rest whole =
      placed all rise x (
        length done,
        omega (arith, ap length whole, length-append done (x ∷ rest)),
        ap (λ ys. slice_index_or ys (length done) x) whole
            ∙ get_or_at done x rest x (length done) refl,
      )

  -- an item that is made of another stands at its place
  pub placed_again : (f : X → X) (xs : List X) → Rise number_of xs → Rise number_of (map f xs)
      → (x : X) → Contains xs x
      → position (map number_of (map f xs)) (number_of (f x))
      ≡ position (map number_of xs) (number_of x)
  placed_again f xs rise up x there =
      placed (map f xs) up (f x) (
        there.0,
        omega (arith, there.1, length-map xs f),
        get_or-map f xs there.0 x (f x) there.1 ∙ ap f there.2,
      )
      ∙ sym (placed xs rise x there)

  -- positions compare as the numbers do
  pub position_order : (xs : List X) (x y : X) → Contains xs x → Contains xs y
      → nat_cmp (position (map number_of xs) (number_of x))
      (position (map number_of xs) (number_of y))
      ≡ nat_cmp (number_of x) (number_of y)
  position_order xs x y here there =
      cmp_alike (number_of x) (number_of y) _ _ (position_less _ _ _ (number_in xs x here))
      (position_less _ _ _ (number_in xs y there)) (ap (position (map number_of xs)))

  -- and they are one where the numbers are
  pub position_test : (xs : List X) (x y : X) → Contains xs x → Contains xs y
      → (position (map number_of xs) (number_of x) == position (map number_of xs) (number_of y))
      ≡ (number_of x == number_of y)
  position_test xs x y here there =
      test_alike (number_of x) (number_of y) _ _ (position_less _ _ _ (number_in xs x here))
      (position_less _ _ _ (number_in xs y there)) (ap (position (map number_of xs)))
