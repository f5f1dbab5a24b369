-- What is found in lists of items with numbers and names.
use Rattle.std.proofs.Common.{◌≡◌, ◌≢◌, ℕ, ◌+◌, ◌<◌, ◌==◌, ◌||◌, nat_lt, Bool, true, false, cond, List, [], ◌∷◌, map, Option, Some, None, refl, sym, ap, ◌∙◌, arith, inl, inr, slice_get}
use Rattle.std.specs.Prelude.{is_some, AllPairs, count_by, flat_map}
use Rattle.std.specs.List as list
use Rattle.std.specs.List.{list_any}
use Rattle.std.specs.Option.{option_map, option_and_then, option_or}
use Rattle.std.specs.Str.{bytes_eq}
use Rattle.std.specs.Cmp.Lexicographic.{bytes_decides}
use Rattle.std.proofs.lemmas.Bool.{cases_order}
use Rattle.std.proofs.lemmas.Bool.Decides.{nat_tests}
use Rattle.std.proofs.lemmas.List.Folds.{find-append}
use Rattle.std.proofs.lemmas.Option.{none-some, same_Some, slice_get_within, get_or_from_slice_get}
use Rattle.map_laws.specs.PairLaws.{AllPairs-map}
use Rattle.map_laws.specs.PlaceLaws.{none_passes, place_of_found, some_found}
use Rattle.map_laws.specs.SumLaws.{count_first}
use Rattle.numbered_list.specs.Numbered.{Rise, IsAt, find}
use Rattle.numbered_list.specs.Laws.{IsAt-find, find-at, number_of_found, same_lists}
use Rattle.model_catalog.specs.Names.{AreDistinct}

-- ---- searches

module _ {X : Type 0} (p : X → Bool) where
  -- some item passes where at least one is counted
  pub any_counted : (xs : List X) → nat_lt 0 (count_by p xs) ≡ list_any p xs
  any_counted [] = refl
  any_counted (x ∷ xs) =
      ap (nat_lt 0) (count_first p x xs)
      ∙ elim (p x) as (λ b. nat_lt 0 (cond b 1 0 + count_by p xs) ≡ (b || list_any p xs)) [
        | true ↦ one_more (count_by p xs)
        | false ↦ ap (nat_lt 0) (none_more (count_by p xs)) ∙ any_counted xs
      ]
    where
      one_more : (n : ℕ) → nat_lt 0 (1 + n) ≡ true
      one_more n = grind (arith, nat_tests)

      none_more : (n : ℕ) → 0 + n ≡ n
      none_more n = omega arith

-- an item of a list of lists is found exactly where a list that has one is
pub some_found_in : {X Y : Type 0} (f : X → List Y) (p : Y → Bool) (xs : List X)
    → is_some (list.find p (flat_map f xs)) ≡ is_some (list.find (λ x. list_any p (f x)) xs)
some_found_in f p [] = refl
some_found_in {X} {Y} f p (x ∷ xs) =
    ap is_some (find-append p (f x) (flat_map f xs))
    ∙ (by_first (list.find p (f x)) (some_found_in f p xs)
    ∙ ap (λ b. is_some (cond b (Some x) (list.find (λ y. list_any p (f y)) xs)))
    (some_found p (f x)))
  where
    by_first : (o : Option Y) → is_some (list.find p (flat_map f xs))
        ≡ is_some (list.find (λ y. list_any p (f y)) xs)
        → is_some (option_or o (list.find p (flat_map f xs)))
        ≡ is_some (cond (is_some o) (Some x) (list.find (λ y. list_any p (f y)) xs))
    by_first None rest = rest
    by_first (Some y) rest = refl

-- ---- names

module _ {X : Type 0} (number_of : X → ℕ) (name_of : X → List ℕ) where
  naming : List X → ℕ → Option (List ℕ)
  naming xs n = option_map name_of (find number_of n xs)

  -- the item with a number and a name
  item_named : (xs : List X) (n : ℕ) (name : List ℕ) → option_map name_of (find number_of n xs)
      ≡ Some name → (x : X) × (find number_of n xs ≡ Some x) × (name_of x ≡ name)
  item_named xs n name e = by_place (find number_of n xs) refl e
    where
      by_place : (o : Option X) → find number_of n xs ≡ o → option_map name_of o ≡ Some name
          → (x : X) × (find number_of n xs ≡ Some x) × (name_of x ≡ name)
      by_place None at is = absurd (none-some name is)
      by_place (Some x) at is = (x, at, same_Some (name_of x) name is)

  pub distinct_names : (xs : List X) → AllPairs (λ v w. name_of v ≢ name_of w) xs
      → AreDistinct (λ n. option_map name_of (find number_of n xs))
  distinct_names xs apart n m name here there =
      let one = item_named xs n name here in
      let other = item_named xs m name there in
      let i = (place_of_found (λ x. number_of x == n) xs one.0 one.1).1 in
      let j = (place_of_found (λ x. number_of x == m) xs other.0 other.1).1 in
      let d = one.0 in
      let at_i = get_or_from_slice_get xs i.0 one.0 d i.1 in
      let at_j = get_or_from_slice_get xs j.0 other.0 d j.1 in
      let in_i = slice_get_within xs i.0 one.0 i.1 in
      let in_j = slice_get_within xs j.0 other.0 j.1 in
      elim (cases_order i.0 j.0) [
        | inl same ↦
            let read : one.0 ≡ other.0 =
            same_Some one.0 other.0 (sym i.1 ∙ (ap (slice_get xs) same ∙ j.1)) in
            sym (number_of_found number_of n one.0 xs one.1)
            ∙ (ap number_of read ∙ number_of_found number_of m other.0 xs other.1)
        | inr order ↦ absurd (elim order [
          | inl lt ↦ apart i.0 j.0 d lt in_j (ap name_of at_i
              ∙ (one.2 ∙ (sym other.2 ∙ sym (ap name_of at_j))))
          | inr lt ↦ apart j.0 i.0 d lt in_i (ap name_of at_j
              ∙ (other.2 ∙ (sym one.2 ∙ sym (ap name_of at_i))))
        ])
      ]

  -- the item that has the name, where its number is known
  pub record IsNumberOf (xs : List X) (name : List ℕ) (o : Option ℕ) : Type 0 where
    pub has : (n : ℕ) → o ≡ Some n → option_map name_of (find number_of n xs) ≡ Some name
    pub all : (n : ℕ) → option_map name_of (find number_of n xs) ≡ Some name → o ≡ Some n

  pub found_by_name : (xs : List X) (name : List ℕ) (o : Option ℕ) → Rise number_of xs
      → IsNumberOf xs name o
      → (o ≡ option_map number_of (list.find (λ x. bytes_eq (name_of x) name) xs))
      × (option_and_then (λ n. find number_of n xs) o ≡ list.find
      (λ x. bytes_eq (name_of x) name) xs)
  found_by_name xs name o rise h = by_place (list.find (λ x. bytes_eq (name_of x) name) xs) refl
    where
      by_place : (q : Option X) → list.find (λ x. bytes_eq (name_of x) name) xs ≡ q
          → (o ≡ option_map number_of q) × (option_and_then (λ n. find number_of n xs) o ≡ q)
      by_place (Some x) e =
          let at = place_of_found (λ y. bytes_eq (name_of y) name) xs x e in
          let named = (bytes_decides (name_of x) name).0 at.0 in
          let there = find-at number_of xs at.1.0 x rise at.1.1 in
          let is = h.all (number_of x) (ap (option_map name_of) there ∙ ap Some named) in
          (is, ap (option_and_then (λ n. find number_of n xs)) is ∙ there)
      by_place None e =
          let is = nothing o refl in (is, ap (option_and_then (λ n. find number_of n xs)) is)
        where
          nothing : (q : Option ℕ) → o ≡ q → o ≡ None
          nothing None is = is
          nothing (Some n) is =
              let item = item_named xs n name (h.has n is) in
              let at = place_of_found (λ x. number_of x == n) xs item.0 item.1 in
              let off = none_passes (λ x. bytes_eq (name_of x) name) xs at.1.0 item.0 e at.1.1 in
              let on = (bytes_decides (name_of item.0) name).1 item.2 in
              absurd (let both : true ≡ false = sym on ∙ off in cc)

-- ---- items made of others, whose numbers they have

module _ {X Y : Type 0} (f : X → Y) (number_of : Y → ℕ) where
  pub Rise-map : (xs : List X) → Rise (λ x. number_of (f x)) xs → Rise number_of (map f xs)
  Rise-map xs rise = record {
    rising = AllPairs-map (λ x y. number_of x < number_of y) f
        (λ x y. number_of (f x) < number_of (f y)) xs (λ x y lt. lt) rise.rising;
  }

  pub find-map : (n : ℕ) (xs : List X) → find number_of n (map f xs)
      ≡ option_map f (find (λ x. number_of (f x)) n xs)
  find-map n [] = refl
  find-map n (x ∷ xs) =
      elim (number_of (f x) == n) as (λ b. cond b (Some (f x)) (find number_of n (map f xs))
      ≡ option_map f (cond b (Some x) (find (λ x. number_of (f x)) n xs)))
      [ true ↦ refl | false ↦ find-map n xs ]

-- two lists in which items of the same numbers are found have the same numbers
pub same_numbers : {X Y : Type 0} (f : X → ℕ) (g : Y → ℕ) (xs : List X) (ys : List Y) → Rise f xs
    → Rise g ys → ((n : ℕ) → is_some (find f n xs) ≡ is_some (find g n ys)) → map f xs ≡ map g ys
same_numbers {X} {Y} f g xs ys up rise same =
    same_lists (λ k. k) (map f xs) (map g ys) (Rise-map f (λ k. k) xs up)
    (Rise-map g (λ k. k) ys rise) (λ n. find-map f (λ k. k) n xs
    ∙ (at n (find f n xs) (find g n ys) (IsAt-find f n xs) (IsAt-find g n ys) (same n)
    ∙ sym (find-map g (λ k. k) n ys)))
  where
    at : (n : ℕ) (o : Option X) (p : Option Y) → IsAt f n o → IsAt g n p → is_some o ≡ is_some p
        → option_map f o ≡ option_map g p
    at n None None a b e = refl
    at n None (Some y) a b e = absurd (let both : false ≡ true = e in cc)
    at n (Some x) None a b e = absurd (let both : true ≡ false = e in cc)
    at n (Some x) (Some y) a b e = ap Some (a ∙ sym b)
