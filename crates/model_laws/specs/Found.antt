-- What a search by a test finds, and names that no item has.
use Rattle.std.specs.Prelude.{◌≡◌, ◌≢◌, ℕ, suc, Bool, true, false, ◌||◌, cond, List, [], ◌∷◌, Option, Some, None, All, Contains, find, flat_map, is_some, refl}
use Rattle.std.specs.List.{list_any}
use Rattle.std.specs.Str.{bytes_eq}
use Rattle.std.proofs.Common.{arith, sym, ap, subst, inl, inr, ◌∙◌}
use Rattle.std.proofs.lemmas.Bool.{cases_Bool, or_parts, both_ways}
use Rattle.std.proofs.lemmas.Option.{slice_get-get_or}
use Rattle.std.proofs.lemmas.Slice.Eq.{bytes_eq-Decides}
use Rattle.std.proofs.lemmas.List.Folds.{list_any-append, list_any_at}
use Rattle.std.proofs.lemmas.List.Elements.{All-nil, All-cons, All-weaker}
use Rattle.numbered_list.specs.Numbered.{Rise}
use Rattle.numbered_list.specs.Numbered as numbered
use Rattle.numbered_list.specs.Laws.{find-at}

module _ {X : Type 0} (p : X → Bool) where
  pub is_some-find : (xs : List X) → is_some (find p xs) ≡ list_any p xs
  is_some-find [] = refl
  is_some-find (x ∷ xs) = elim (p x) as (λ b. is_some (cond b (Some x) (find p xs))
      ≡ (b || list_any p xs)) [ true ↦ refl | false ↦ is_some-find xs ]

  find_here : (x : X) (xs : List X) → p x ≡ true → find p (x ∷ xs) ≡ Some x
  find_here x xs e = ap (λ b. cond b (Some x) (find p xs)) e

  find_later : (x : X) (xs : List X) → p x ≡ false → find p (x ∷ xs) ≡ find p xs
  find_later x xs e = ap (λ b. cond b (Some x) (find p xs)) e

  -- what is found passes the test, and stands in the list
  pub found_passes : (xs : List X) (x : X) → find p xs ≡ Some x → p x ≡ true
  found_passes [] x e = cc
  found_passes (y ∷ xs) x e =
      elim (cases_Bool (p y)) [
        | inl passing ↦
            let is : Some y ≡ Some x = sym (find_here y xs passing) ∙ e in
            let same : y ≡ x = cc in
            subst (λ z. p z ≡ true) same passing
        | inr failing ↦ found_passes xs x (sym (find_later y xs failing) ∙ e)
      ]

  pub found_stands : (xs : List X) (x : X) → find p xs ≡ Some x → Contains xs x
  found_stands [] x e = cc
  found_stands (y ∷ xs) x e =
      elim (cases_Bool (p y)) [
        | inl passing ↦
            let is : Some y ≡ Some x = sym (find_here y xs passing) ∙ e in
            (0, omega arith, cc)
        | inr failing ↦
            let rest = found_stands xs x (sym (find_later y xs failing) ∙ e) in
            (suc rest.0, omega (arith, rest.1), rest.2)
      ]

  -- where no item passes, each fails
  pub none_pass : (xs : List X) → list_any p xs ≡ false → All (λ x. p x ≡ false) xs
  none_pass [] e = All-nil (λ x. p x ≡ false)
  none_pass (x ∷ xs) e =
      let parts = or_parts (p x) (list_any p xs) e
      in All-cons (λ x. p x ≡ false) x xs parts.0 (none_pass xs parts.1)

  pub one_passes : (xs : List X) (x : X) → Contains xs x → p x ≡ true → list_any p xs ≡ true
  one_passes xs x there passing =
      list_any_at p xs there.0 x there.1 (subst (λ y. p y ≡ true) (sym there.2) passing)

  pub list_any-flat_map : {Y : Type 0} (f : Y → List X) (ys : List Y)
      → list_any p (flat_map f ys) ≡ list_any (λ y. list_any p (f y)) ys
  list_any-flat_map f [] = refl
  list_any-flat_map f (y ∷ ys) = list_any-append p (f y) (flat_map f ys)
      ∙ ap (λ b. list_any p (f y) || b) (list_any-flat_map f ys)

-- what is there is something
pub something : {X : Type 0} (o : Option X) → is_some o ≡ true → (x : X) × (o ≡ Some x)
something None e = absurd (both_ways false refl e)
something (Some x) e = (x, refl)

module _ {X : Type 0} (number_of : X → ℕ) where
  -- an item of the list is found by its number
  pub stands_found : (xs : List X) (x : X) → Rise number_of xs → Contains xs x
      → numbered.find number_of (number_of x) xs ≡ Some x
  stands_found xs x rise there =
      find-at number_of xs there.0 x rise (slice_get-get_or xs there.0 x there.1 ∙ ap Some there.2)

-- a name that is not found is no item's
pub other_names : {X : Type 0} (name_of : X → List ℕ) (name : List ℕ) (xs : List X)
    → list_any (λ x. bytes_eq (name_of x) name) xs ≡ false → All (λ x. name_of x ≢ name) xs
other_names name_of name xs e =
    All-weaker (λ x. bytes_eq (name_of x) name ≡ false) (λ x. name_of x ≢ name)
    (λ x failing same. both_ways (bytes_eq (name_of x) name) failing
    ((bytes_eq-Decides (name_of x) name).1 same)) xs
    (none_pass (λ x. bytes_eq (name_of x) name) xs e)

pub others_of_name : (name : List ℕ) (names : List (List ℕ))
    → list_any (bytes_eq name) names ≡ false → All (λ other. name ≢ other) names
others_of_name name names e =
    All-weaker (λ other. bytes_eq name other ≡ false) (λ other. name ≢ other)
    (λ other failing same. both_ways (bytes_eq name other) failing
    ((bytes_eq-Decides name other).1 same)) names (none_pass (bytes_eq name) names e)
