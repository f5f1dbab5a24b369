-- Laws of what stands at a number after it is set: what is found, and that setting what stood there
-- takes it back.
use Rattle.std.specs.Prelude.{◌≡◌, ◌≢◌, ℕ, ◌+◌, ◌<◌, ◌≤◌, ◌==◌, nat_lt, true, false, not, cond, List, [], ◌∷◌, ◌++◌, Option, Some, None, All, filter, length, refl}
use Rattle.std.specs.Option.{option_or, option_to_list}
use Rattle.std.proofs.Common.{arith, sym, ap, subst, inl, inr, ◌∙◌}
use Rattle.std.proofs.lemmas.Bool.{cases_eq, cases_order, ltb-true, lt-ltb, le-ltb, eq-eqb, ne_eqb}
use Rattle.std.proofs.lemmas.List.{length-append}
use Rattle.std.proofs.lemmas.List.Elements.{All-cons, All-weaker, filter_passes}
use Rattle.std.proofs.lemmas.List.Folds.{find-append}
use Rattle.map_laws.specs.PlaceLaws.{filter_all, filter_nothing}
use Rattle.numbered_list.specs.Numbered.{Rise, find, below, above, IsAt, set_at, put, without}
use Rattle.numbered_list.specs.Laws.{Rise-cons, Rise-head, Rise-tail, Rise-filter, Rise-append, find-first, find-rest, find-none_below, find-none_above, IsAt-find, same_lists}

module _ {X : Type 0} (number_of : X → ℕ) where
  All-below : (n : ℕ) (xs : List X) → All (λ x. number_of x < n) (below number_of n xs)
  All-below n xs = All-weaker (λ x. nat_lt (number_of x) n ≡ true) (λ x. number_of x < n)
      (λ x e. ltb-true (number_of x) n e) (below number_of n xs)
      (filter_passes (λ x. nat_lt (number_of x) n) xs)

  All-above : (n : ℕ) (xs : List X) → All (λ x. n < number_of x) (above number_of n xs)
  All-above n xs = All-weaker (λ x. nat_lt n (number_of x) ≡ true) (λ x. n < number_of x)
      (λ x e. ltb-true n (number_of x) e) (above number_of n xs)
      (filter_passes (λ x. nat_lt n (number_of x)) xs)

  -- the items below a number where all are, or none is
  pub below-all : (n : ℕ) (xs : List X) → All (λ x. number_of x < n) xs → below number_of n xs ≡ xs
  below-all n xs h = filter_all (λ x. nat_lt (number_of x) n) xs
      (All-weaker (λ x. number_of x < n) (λ x. nat_lt (number_of x) n ≡ true)
      (λ x lt. lt-ltb (number_of x) n lt) xs h)

  pub below-none : (n : ℕ) (xs : List X) → All (λ x. n ≤ number_of x) xs → below number_of n xs ≡ []
  below-none n xs h = filter_nothing (λ x. nat_lt (number_of x) n) xs
      (All-weaker (λ x. n ≤ number_of x) (λ x. nat_lt (number_of x) n ≡ false)
      (λ x le. le-ltb (number_of x) n le) xs h)

  pub above-all : (n : ℕ) (xs : List X) → All (λ x. n < number_of x) xs → above number_of n xs ≡ xs
  above-all n xs h = filter_all (λ x. nat_lt n (number_of x)) xs
      (All-weaker (λ x. n < number_of x) (λ x. nat_lt n (number_of x) ≡ true)
      (λ x lt. lt-ltb n (number_of x) lt) xs h)

  pub above-none : (n : ℕ) (xs : List X) → All (λ x. number_of x ≤ n) xs → above number_of n xs ≡ []
  above-none n xs h = filter_nothing (λ x. nat_lt n (number_of x)) xs
      (All-weaker (λ x. number_of x ≤ n) (λ x. nat_lt n (number_of x) ≡ false)
      (λ x le. le-ltb n (number_of x) le) xs h)

  -- an item joins those below or above
  below-first : (n : ℕ) (x : X) (xs : List X) → number_of x < n
      → below number_of n (x ∷ xs) ≡ x ∷ below number_of n xs
  below-first n x xs lt =
      ap (λ b. cond b (x ∷ below number_of n xs) (below number_of n xs)) (lt-ltb (number_of x) n lt)

  below-rest : (n : ℕ) (x : X) (xs : List X) → n ≤ number_of x
      → below number_of n (x ∷ xs) ≡ below number_of n xs
  below-rest n x xs le =
      ap (λ b. cond b (x ∷ below number_of n xs) (below number_of n xs)) (le-ltb (number_of x) n le)

  above-first : (n : ℕ) (x : X) (xs : List X) → n < number_of x
      → above number_of n (x ∷ xs) ≡ x ∷ above number_of n xs
  above-first n x xs lt =
      ap (λ b. cond b (x ∷ above number_of n xs) (above number_of n xs)) (lt-ltb n (number_of x) lt)

  above-rest : (n : ℕ) (x : X) (xs : List X) → number_of x ≤ n
      → above number_of n (x ∷ xs) ≡ above number_of n xs
  above-rest n x xs le =
      ap (λ b. cond b (x ∷ above number_of n xs) (above number_of n xs)) (le-ltb n (number_of x) le)

  find-middle : (n : ℕ) (new : Option X) (ys : List X) → IsAt number_of n new
      → find number_of n ys ≡ None → find number_of n (option_to_list new ++ ys) ≡ new
  find-middle n None ys at e = e
  find-middle n (Some x) ys at e = find-first number_of n x ys at

  find-beside : (m n : ℕ) (new : Option X) (ys : List X) → m ≢ n → IsAt number_of n new
      → find number_of m (option_to_list new ++ ys) ≡ find number_of m ys
  find-beside m n None ys ne at = refl
  find-beside m n (Some x) ys ne at = find-rest number_of m x ys (λ e. ne (sym e ∙ at))

  -- what was set is found
  pub find-set_at_same : (n : ℕ) (new : Option X) (xs : List X) → IsAt number_of n new
      → find number_of n (set_at number_of n new xs) ≡ new
  unfolding set_at
  find-set_at_same n new xs at =
      find-append (λ x. number_of x == n) (below number_of n xs)
      (option_to_list new ++ above number_of n xs)
      ∙ (ap (λ o. option_or o (find number_of n (option_to_list new ++ above number_of n xs)))
      (find-none_below number_of n (below number_of n xs) (All-below n xs))
      ∙ find-middle n new (above number_of n xs) at
      (find-none_above number_of n (above number_of n xs) (All-above n xs)))

  parted : (m n : ℕ) (xs : List X) → m ≢ n
      → option_or (find number_of m (below number_of n xs))
      (find number_of m (above number_of n xs)) ≡ find number_of m xs
  parted m n [] ne = refl
  parted m n (x ∷ xs) ne =
      elim (cases_order (number_of x) n) [
        | inl e ↦
            let le : n ≤ number_of x = omega arith in
            let ge : number_of x ≤ n = omega arith in
            rw (below-rest n x xs le, above-rest n x xs ge)
            (parted m n xs ne ∙ sym (find-rest number_of m x xs (λ at. ne (sym at ∙ e))))
        | inr apart ↦ elim apart [
          | inl lt ↦ let le : number_of x ≤ n = omega arith in
              rw (below-first n x xs lt, above-rest n x xs le) (in_below (parted m n xs ne))
          | inr lt ↦ let le : n ≤ number_of x = omega arith in
              rw (below-rest n x xs le, above-first n x xs lt) (in_above lt (parted m n xs ne))
        ]
      ]
    where
      in_below : option_or (find number_of m (below number_of n xs))
          (find number_of m (above number_of n xs)) ≡ find number_of m xs
          → option_or (find number_of m (x ∷ below number_of n xs))
          (find number_of m (above number_of n xs)) ≡ find number_of m (x ∷ xs)
      in_below h =
          elim (cases_eq (number_of x) m) [
            | inl at ↦ rw (
              find-first number_of m x (below number_of n xs) at,
              find-first number_of
                  m x xs at,
            ) refl
            | inr off ↦ rw (
              find-rest number_of m x (below number_of n xs) off,
              find-rest number_of
                  m x xs off,
            ) h
          ]

      in_above : n < number_of x
          → option_or (find number_of m (below number_of n xs))
          (find number_of m (above number_of n xs)) ≡ find number_of m xs
          → option_or (find number_of m (below number_of n xs))
          (find number_of m (x ∷ above number_of n xs)) ≡ find number_of m (x ∷ xs)
      in_above lt h =
          elim (cases_eq (number_of x) m) [
            | inl at ↦ rw (
              find-none_below number_of m (below number_of n xs)
                  (All-weaker (λ y. number_of y < n) (λ y. number_of y < m) (λ y lower. omega arith)
                  (below number_of n xs) (All-below n xs)),
              find-first number_of m x
                  (above number_of n xs) at,
              find-first number_of m x xs at,
            ) refl
            | inr off ↦ rw (
              find-rest number_of m x (above number_of n xs) off,
              find-rest number_of
                  m x xs off,
            ) h
          ]

  -- at every other number the same is found as before
  pub find-set_at_other : (m n : ℕ) (new : Option X) (xs : List X) → m ≢ n → IsAt number_of n new
      → find number_of m (set_at number_of n new xs) ≡ find number_of m xs
  unfolding set_at
  find-set_at_other m n new xs ne at =
      find-append (λ x. number_of x == m) (below number_of n xs)
      (option_to_list new ++ above number_of n xs)
      ∙ (ap (option_or (find number_of m (below number_of n xs)))
      (find-beside m n new (above number_of n xs) ne at)
      ∙ parted m n xs ne)

  -- the numbers still rise
  pub Rise-set_at : (n : ℕ) (new : Option X) (xs : List X) → IsAt number_of n new
      → Rise number_of xs → Rise number_of (set_at number_of n new xs)
  unfolding set_at
  Rise-set_at n new xs at rise =
      let lower = Rise-filter number_of (λ x. nat_lt (number_of x) n) xs rise in
      let upper = Rise-filter number_of (λ x. nat_lt n (number_of x)) xs rise in
      Rise-append number_of n (below number_of n xs) (option_to_list new ++ above number_of n xs)
      lower (All-below n xs) (middle new at upper) (middle_above new at)
    where
      middle : (o : Option X) → IsAt number_of n o → Rise number_of (above number_of n xs)
          → Rise number_of (option_to_list o ++ above number_of n xs)
      middle None at upper = upper
      middle (Some x) at upper = Rise-cons number_of x (above number_of n xs)
          (All-weaker (λ y. n < number_of y) (λ y. number_of x < number_of y)
          (λ y lt. omega (arith, at)) (above number_of n xs) (All-above n xs)) upper

      middle_above : (o : Option X) → IsAt number_of n o
          → All (λ y. n ≤ number_of y) (option_to_list o ++ above number_of n xs)
      middle_above None at = All-weaker (λ y. n < number_of y) (λ y. n ≤ number_of y)
          (λ y lt. omega arith) (above number_of n xs) (All-above n xs)
      middle_above (Some x) at = All-cons (λ y. n ≤ number_of y) x (above number_of n xs)
          (omega (arith, at)) (All-weaker (λ y. n < number_of y) (λ y. n ≤ number_of y)
          (λ y lt. omega arith) (above number_of n xs) (All-above n xs))

  -- setting what stands there changes nothing
  pub set_at_found : (n : ℕ) (xs : List X) → Rise number_of xs
      → set_at number_of n (find number_of n xs) xs ≡ xs
  set_at_found n xs rise =
      same_lists number_of _ xs (Rise-set_at n (find number_of n xs) xs (IsAt-find number_of n xs)
      rise) rise (λ m.
      elim (cases_eq m n) [
        | inl e ↦ subst (λ k. find number_of k (set_at number_of n (find number_of n xs) xs)
            ≡ find number_of k xs) (sym e) (find-set_at_same n (find number_of n xs) xs
            (IsAt-find number_of n xs))
        | inr ne ↦ find-set_at_other m n (find number_of n xs) xs ne (IsAt-find number_of n xs)
      ])

  -- of two contents set at one number the last stays
  pub set_at-set_at : (n : ℕ) (last first : Option X) (xs : List X) → IsAt number_of n last
      → IsAt number_of n first → Rise number_of xs
      → set_at number_of n last (set_at number_of n first xs) ≡ set_at number_of n last xs
  set_at-set_at n last first xs at was rise =
      same_lists number_of _ _ (Rise-set_at n last (set_at number_of n first xs) at
      (Rise-set_at n first xs was rise)) (Rise-set_at n last xs at rise) (λ m.
      elim (cases_eq m n) [
        | inl e ↦ subst (λ k. find number_of k (set_at number_of n last
            (set_at number_of n first xs)) ≡ find number_of k (set_at number_of n last xs)) (sym e)
            (find-set_at_same n last (set_at number_of n first xs) at
            ∙ sym (find-set_at_same n last xs at))
        | inr ne ↦ find-set_at_other m n last (set_at number_of n first xs) ne at
            ∙ (find-set_at_other m n first xs ne was ∙ sym (find-set_at_other m n last xs ne at))
      ])

  -- how many items there are
  pub length-set_at : (n : ℕ) (new : Option X) (xs : List X) → Rise number_of xs
      → length (set_at number_of n new xs) + length (option_to_list (find number_of n xs))
      ≡ length xs + length (option_to_list new)
  unfolding set_at
  length-set_at n new xs rise =
      let before = ap length (set_at_found n xs rise) in
      omega (
        arith,
        simp length-append at before,
        length-append (below number_of n xs)
            (option_to_list new ++ above number_of n xs),
        length-append (option_to_list new)
            (above number_of n xs),
      )

  -- an item of a number above all others goes last
  pub put_last : (x : X) (xs : List X) → All (λ y. number_of y < number_of x) xs
      → put number_of x xs ≡ xs ++ x ∷ []
  unfolding set_at
  put_last x xs h =
      rw (
        below-all (number_of x) xs h,
        above-none (number_of x) xs
            (All-weaker (λ y. number_of y < number_of x) (λ y. number_of y ≤ number_of x)
            (λ y lt. omega arith) xs h),
      ) refl

  -- taking out an item leaves those of other numbers
  pub without-filter : (n : ℕ) (xs : List X) → Rise number_of xs
      → without number_of n xs ≡ filter (λ x. not (number_of x == n)) xs
  unfolding set_at
  without-filter n [] rise = refl
  without-filter n (x ∷ xs) rise =
      let rest = without-filter n xs (Rise-tail number_of x xs rise) in
      elim (cases_order (number_of x) n) [
        | inl e ↦
            let le : n ≤ number_of x = omega arith in
            let ge : number_of x ≤ n = omega arith in
            rw (below-rest n x xs le, above-rest n x xs ge, eq-eqb (number_of x) n e) rest
        | inr apart ↦ elim apart [
          | inl lt ↦ let le : number_of x ≤ n = omega arith in
              rw (
                below-first n x xs lt,
                above-rest n x xs le,
                ne_eqb (number_of x) n
                    (λ e. omega arith),
              ) (ap (λ zs. x ∷ zs) rest)
          | inr lt ↦ let le : n ≤ number_of x = omega arith in
              let none : below number_of n xs ≡ [] = below-none n xs
              (All-weaker (λ y. number_of x < number_of y) (λ y. n ≤ number_of y)
              (λ y above. omega arith) xs (Rise-head number_of x xs rise)) in
              rw (
                below-rest n x xs le,
                above-first n x xs lt,
                ne_eqb (number_of x) n
                    (λ e. omega arith),
                none,
              ) (ap (λ zs. x ∷ zs) (rw none at rest))
        ]
      ]
