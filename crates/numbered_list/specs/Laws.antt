-- Laws of lists in the order of their numbers: what is found in them, and what keeps the order.
use Rattle.std.specs.Prelude.{◌≡◌, ◌≢◌, ℕ, zero, suc, ◌<◌, ◌≤◌, Bool, cond, List, [], ◌∷◌, ◌++◌, Option, Some, None, All, Contains, filter, slice_get, refl}
use Rattle.std.specs.List.{filter_map, cons_option}
use Rattle.std.specs.Option.{option_and_then}
use Rattle.std.proofs.Common.{arith, sym, ap, subst, inl, inr, ◌∙◌}
use Rattle.std.proofs.lemmas.Bool.{cases_eq, cases_order, eq-eqb, ne_eqb}
use Rattle.std.proofs.lemmas.Option.{slice_get_within, get_or_from_slice_get}
use Rattle.std.proofs.lemmas.List.Elements.{All-append, All-nil, All-cons, All-head, All-tail, All-weaker}
use Rattle.std.proofs.lemmas.List.Kept.{AllPairs-cons, AllPairs-filter}
use Rattle.map_laws.specs.PairLaws.{AllPairs-head, AllPairs-nil, AllPairs-tail}
use Rattle.numbered_list.specs.Numbered.{Rise, find, IsAt}

module _ {X : Type 0} (number_of : X → ℕ) where
  pub Rise-nil : Rise number_of []
  Rise-nil = record { rising = AllPairs-nil (λ x y. number_of x < number_of y) }

  pub Rise-cons : (x : X) (xs : List X) → All (λ y. number_of x < number_of y) xs
      → Rise number_of xs → Rise number_of (x ∷ xs)
  Rise-cons x xs first rise =
      record { rising = AllPairs-cons (λ x y. number_of x < number_of y) x xs first rise.rising }

  pub Rise-head : (x : X) (xs : List X) → Rise number_of (x ∷ xs)
      → All (λ y. number_of x < number_of y) xs
  Rise-head x xs rise = AllPairs-head (λ x y. number_of x < number_of y) x xs rise.rising

  pub Rise-tail : (x : X) (xs : List X) → Rise number_of (x ∷ xs) → Rise number_of xs
  Rise-tail x xs rise =
      record { rising = AllPairs-tail (λ x y. number_of x < number_of y) x xs rise.rising }

  pub Rise-filter : (p : X → Bool) (xs : List X) → Rise number_of xs → Rise number_of (filter p xs)
  Rise-filter p xs rise =
      record { rising = AllPairs-filter (λ x y. number_of x < number_of y) p xs rise.rising }

  -- lists whose numbers a number parts
  pub Rise-append : (n : ℕ) (xs ys : List X) → Rise number_of xs → All (λ x. number_of x < n) xs
      → Rise number_of ys → All (λ y. n ≤ number_of y) ys → Rise number_of (xs ++ ys)
  Rise-append n [] ys up low rest high = rest
  Rise-append n (x ∷ xs) ys up low rest high =
      Rise-cons x (xs ++ ys)
      (All-append (λ y. number_of x < number_of y) xs ys (Rise-head x xs up) above)
      (Rise-append n xs ys (Rise-tail x xs up) (All-tail (λ x. number_of x < n) x xs low) rest
      high)
    where
      lesser : number_of x < n
      lesser = All-head (λ x. number_of x < n) x xs low

      above : All (λ y. number_of x < number_of y) ys
      above = All-weaker (λ y. n ≤ number_of y) (λ y. number_of x < number_of y)
          (λ y le. omega (arith, lesser)) ys high

  -- an item of a greater number comes last
  pub Rise-push : (xs : List X) (x : X) → Rise number_of xs
      → All (λ y. number_of y < number_of x) xs → Rise number_of (xs ++ x ∷ [])
  Rise-push xs x rise lower =
      Rise-append (number_of x) xs (x ∷ []) rise lower
      (Rise-cons x [] (All-nil (λ y. number_of x < number_of y)) Rise-nil)
      (All-cons (λ y. number_of x ≤ number_of y) x [] (omega arith)
      (All-nil (λ y. number_of x ≤ number_of y)))

  -- an item of this number stands first
  pub find-first : (n : ℕ) (x : X) (xs : List X) → number_of x ≡ n
      → find number_of n (x ∷ xs) ≡ Some x
  find-first n x xs e =
      ap (λ b. cond b (Some x) (find number_of n xs)) (eq-eqb (number_of x) n e)

  -- an item of another number stands first
  pub find-rest : (n : ℕ) (x : X) (xs : List X) → number_of x ≢ n
      → find number_of n (x ∷ xs) ≡ find number_of n xs
  find-rest n x xs e =
      ap (λ b. cond b (Some x) (find number_of n xs)) (ne_eqb (number_of x) n e)

  -- no item of the number stands there
  pub find-none : (n : ℕ) (xs : List X) → All (λ x. number_of x ≢ n) xs → find number_of n xs ≡ None
  find-none n [] h = refl
  find-none n (x ∷ xs) h = find-rest n x xs (All-head (λ x. number_of x ≢ n) x xs h)
      ∙ find-none n xs (All-tail (λ x. number_of x ≢ n) x xs h)

  pub find-none_below : (n : ℕ) (xs : List X) → All (λ x. number_of x < n) xs
      → find number_of n xs ≡ None
  find-none_below n xs h = find-none n xs (All-weaker (λ x. number_of x < n) (λ x. number_of x ≢ n)
      (λ x lt e. omega arith) xs h)

  pub find-none_above : (n : ℕ) (xs : List X) → All (λ x. n < number_of x) xs
      → find number_of n xs ≡ None
  find-none_above n xs h = find-none n xs (All-weaker (λ x. n < number_of x) (λ x. number_of x ≢ n)
      (λ x lt e. omega arith) xs h)

  -- what is found has the number
  pub IsAt-find : (n : ℕ) (xs : List X) → IsAt number_of n (find number_of n xs)
  IsAt-find n [] = tt
  IsAt-find n (x ∷ xs) =
      elim (cases_eq (number_of x) n) [
        | inl e ↦ subst (IsAt number_of n) (sym (find-first n x xs e)) e
        | inr e ↦ subst (IsAt number_of n) (sym (find-rest n x xs e)) (IsAt-find n xs)
      ]

  pub number_of_found : (n : ℕ) (x : X) (xs : List X) → find number_of n xs ≡ Some x
      → number_of x ≡ n
  number_of_found n x xs e = let h = subst (IsAt number_of n) e (IsAt-find n xs) in h

  pub Contains-found : (n : ℕ) (x : X) (xs : List X) → find number_of n xs ≡ Some x → Contains xs x
  Contains-found n x [] e = cc
  Contains-found n x (y ∷ xs) e =
      elim (cases_eq (number_of y) n) [
        | inl same ↦
            let is : Some y ≡ Some x = sym (find-first n y xs same) ∙ e in
            (0, omega arith, cc)
        | inr other ↦
            let rest = Contains-found n x xs (sym (find-rest n y xs other) ∙ e) in
            (suc rest.0, omega (arith, rest.1), rest.2)
      ]

  -- the item at a place is found by its number
  pub find-at : (xs : List X) (i : ℕ) (x : X) → Rise number_of xs → slice_get xs i ≡ Some x
      → find number_of (number_of x) xs ≡ Some x
  find-at [] i x rise e = cc
  find-at (y ∷ xs) zero x rise e =
      let is : y ≡ x = cc
      in subst (λ z. find number_of (number_of z) (y ∷ xs) ≡ Some z) is
      (find-first (number_of y) y xs refl)
  find-at (y ∷ xs) (suc i) x rise e =
      let within = slice_get_within xs i x e in
      let read = get_or_from_slice_get xs i x y e in
      let lesser = Rise-head y xs rise i y within in
      find-rest (number_of x) y xs (λ same. omega (arith, lesser, ap number_of read))
      ∙ find-at xs i x (Rise-tail y xs rise) e

  -- what stands first has the least number
  pub find-past : (x : X) (xs : List X) (n : ℕ) → n ≤ number_of x → Rise number_of (x ∷ xs)
      → find number_of n xs ≡ None
  find-past x xs n le rise = find-none_above n xs
      (All-weaker (λ y. number_of x < number_of y) (λ y. n < number_of y) (λ y lt. omega arith) xs
      (Rise-head x xs rise))

  pub find-below : (x : X) (xs : List X) (n : ℕ) → n < number_of x → Rise number_of (x ∷ xs)
      → find number_of n (x ∷ xs) ≡ None
  find-below x xs n lt rise = find-rest n x xs (λ e. omega arith)
      ∙ find-past x xs n (omega arith) rise

  -- two lists in which the same is found at every number are one
  pub same_lists : (xs ys : List X) → Rise number_of xs → Rise number_of ys
      → ((n : ℕ) → find number_of n xs ≡ find number_of n ys) → xs ≡ ys
  same_lists [] [] up rise same = refl
  same_lists [] (y ∷ ys) up rise same =
      absurd (let e : None ≡ Some y = same (number_of y) ∙ find-first (number_of y) y ys refl in cc)
  same_lists (x ∷ xs) [] up rise same = absurd (let e : Some x
      ≡ None = sym (find-first (number_of x) x xs refl) ∙ same (number_of x) in cc)
  same_lists (x ∷ xs) (y ∷ ys) up rise same =
      elim (cases_order (number_of x) (number_of y)) [
        | inl e ↦
            let heads : Some x ≡ Some y = sym (find-first (number_of x) x xs refl)
            ∙ (same (number_of x) ∙ find-first (number_of x) y ys (sym e)) in
            let rests : xs ≡ ys =
            same_lists xs ys (Rise-tail x xs up) (Rise-tail y ys rise) (rest heads e) in
            cc
        | inr apart ↦ absurd (elim apart [
          | inl lt ↦
              let e : Some x ≡ None = sym (find-first (number_of x) x xs refl)
              ∙ (same (number_of x) ∙ find-below y ys (number_of x) lt rise) in
              cc
          | inr lt ↦
              let e : None ≡ Some y = sym (find-below x xs (number_of y) lt up)
              ∙ (same (number_of y) ∙ find-first (number_of y) y ys refl) in
              cc
        ])
      ]
    where
      rest : Some x ≡ Some y → number_of x ≡ number_of y → (n : ℕ)
          → find number_of n xs ≡ find number_of n ys
      rest heads e n =
          elim (cases_eq (number_of x) n) [
            | inl at ↦ find-past x xs n (omega arith) up ∙ sym (find-past y ys n (omega arith) rise)
            | inr off ↦ sym (find-rest n x xs off)
                ∙ (same n ∙ find-rest n y ys (λ at. off (e ∙ at)))
          ]

  -- an edit of each item that keeps its number, or drops it
  pub record KeepsNumbers (f : X → Option X) : Type 0 where
    pub keeps : (x : X) → IsAt number_of (number_of x) (f x)

  All-edited : (f : X → Option X) (n : ℕ) (xs : List X) → KeepsNumbers f
      → All (λ x. n < number_of x) xs → All (λ x. n < number_of x) (filter_map f xs)
  All-edited f n [] keeps h = All-nil (λ x. n < number_of x)
  All-edited f n (x ∷ xs) keeps h =
      first (f x) (keeps.keeps x) (All-edited f n xs keeps (All-tail (λ x. n < number_of x) x xs h))
    where
      first : (o : Option X) → IsAt number_of (number_of x) o
          → All (λ x. n < number_of x) (filter_map f xs)
          → All (λ x. n < number_of x) (cons_option o (filter_map f xs))
      first None at rest = rest
      first (Some y) at rest =
          let lt = All-head (λ x. n < number_of x) x xs h
          in All-cons (λ x. n < number_of x) y (filter_map f xs) (omega (arith, lt, at)) rest

  pub Rise-filter_map : (f : X → Option X) (xs : List X) → KeepsNumbers f → Rise number_of xs
      → Rise number_of (filter_map f xs)
  Rise-filter_map f [] keeps rise = Rise-nil
  Rise-filter_map f (x ∷ xs) keeps rise =
      first (f x) (keeps.keeps x) (Rise-filter_map f xs keeps (Rise-tail x xs rise))
    where
      first : (o : Option X) → IsAt number_of (number_of x) o → Rise number_of (filter_map f xs)
          → Rise number_of (cons_option o (filter_map f xs))
      first None at rest = rest
      first (Some y) at rest =
          Rise-cons y (filter_map f xs) (subst (λ n. All (λ z. n < number_of z) (filter_map f xs))
          (sym at) (All-edited f (number_of x) xs keeps (Rise-head x xs rise))) rest

  pub find-filter_map : (f : X → Option X) (n : ℕ) (xs : List X) → KeepsNumbers f
      → Rise number_of xs
      → find number_of n (filter_map f xs) ≡ option_and_then f (find number_of n xs)
  find-filter_map f n [] keeps rise = refl
  find-filter_map f n (x ∷ xs) keeps rise =
      elim (cases_eq (number_of x) n) [
        | inl e ↦ here (f x) refl (keeps.keeps x) e
            ∙ ap (option_and_then f) (sym (find-first n x xs e))
        | inr e ↦ other (f x) (keeps.keeps x) e
            ∙ (find-filter_map f n xs keeps (Rise-tail x xs rise)
            ∙ ap (option_and_then f) (sym (find-rest n x xs e)))
      ]
    where
      here : (o : Option X) → f x ≡ o → IsAt number_of (number_of x) o → number_of x ≡ n
          → find number_of n (cons_option o (filter_map f xs)) ≡ f x
      here None is at e = find-none_above n (filter_map f xs)
          (subst (λ m. All (λ z. m < number_of z) (filter_map f xs)) e
          (All-edited f (number_of x) xs keeps (Rise-head x xs rise))) ∙ sym is
      here (Some y) is at e = find-first n y (filter_map f xs) (at ∙ e) ∙ sym is

      other : (o : Option X) → IsAt number_of (number_of x) o → number_of x ≢ n
          → find number_of n (cons_option o (filter_map f xs)) ≡ find number_of n (filter_map f xs)
      other None at e = refl
      other (Some y) at e = find-rest n y (filter_map f xs) (λ same. e (sym at ∙ same))
