-- Lists by place: the item at a place and those behind it, and what a test leaves of a list.
use Rattle.std.specs.Prelude.{◌≡◌, ℕ, zero, suc, ◌+◌, ◌<◌, Bool, true, false, ◌||◌, cond, List, [], ◌∷◌, All, Some, None, filter, drop, take, length, slice_get, is_some, refl}
use Rattle.std.specs.List as list
use Rattle.std.specs.List.{list_any}
use Rattle.std.proofs.Common.{add-one, arith, sym, ap, ◌∙◌}
use Rattle.std.proofs.lemmas.List.Elements.{All-head, All-tail}
use Rattle.std.proofs.lemmas.Option.{none-some, same_Some}

drop_suc : {X : Type 0} (i : ℕ) (x : X) (xs : List X) → slice_get xs i ≡ Some x
    → drop i xs ≡ x ∷ drop (suc i) xs
drop_suc i x [] e = cc
drop_suc zero x (y ∷ xs) e = ap (λ z. z ∷ xs) (same_Some y x e)
drop_suc (suc i) x (y ∷ xs) e = drop_suc i x xs e

-- the item at a place, and those behind it
pub drop_at : {X : Type 0} (i : ℕ) (x : X) (xs : List X) → slice_get xs i ≡ Some x
    → drop i xs ≡ x ∷ drop (i + 1) xs
drop_at i x xs e = rw add-one (drop_suc i x xs e)

-- an item of the first n
pub taken_at : {X : Type 0} (n i : ℕ) (x : X) (xs : List X) → i < n → slice_get xs i ≡ Some x
    → slice_get (take n xs) i ≡ Some x
taken_at n i x [] lt e = cc
taken_at zero i x (y ∷ xs) lt e = absurd (omega arith)
taken_at (suc n) zero x (y ∷ xs) lt e = e
taken_at (suc n) (suc i) x (y ∷ xs) lt e = taken_at n i x xs (omega arith) e

-- there is an item at each place
pub none_past : {X : Type 0} (i : ℕ) (xs : List X) → slice_get xs i ≡ None → i < length xs → ⊥
none_past i [] e lt = omega arith
none_past zero (x ∷ xs) e lt = cc
none_past (suc i) (x ∷ xs) e lt = none_past i xs e (omega arith)

module _ {X : Type 0} (p : X → Bool) where
  -- what is found passes, and stands at a place
  pub place_of_found : (xs : List X) (x : X) → list.find p xs ≡ Some x
      → (p x ≡ true) × ((i : ℕ) × (slice_get xs i ≡ Some x))
  place_of_found [] x e = absurd (none-some x e)
  place_of_found (y ∷ xs) x e =
      elim (p y) as (λ b. p y ≡ b → cond b (Some y) (list.find p xs) ≡ Some x
      → (p x ≡ true) × ((i : ℕ) × (slice_get (y ∷ xs) i ≡ Some x))) [
        | true ↦ λ passes is. (ap p (sym (same_Some y x is)) ∙ passes, (0, is))
        | false ↦ λ passes is.
            let rest = place_of_found xs x is in (rest.0, (suc rest.1.0, rest.1.1))
      ] refl e

  -- where nothing is found, no item passes
  pub none_passes : (xs : List X) (i : ℕ) (y : X) → list.find p xs ≡ None → slice_get xs i ≡ Some y
      → p y ≡ false
  none_passes [] i y none at = absurd (none-some y at)
  none_passes (x ∷ xs) i y none at =
      elim (p x) as (λ b. p x ≡ b → cond b (Some x) (list.find p xs) ≡ None → p y ≡ false) [
        | true ↦ λ passes is. absurd (none-some x (sym is))
        | false ↦ λ passes is. later i passes (λ k at. none_passes xs k y is at) at
      ] refl none
    where
      later : (k : ℕ) → p x ≡ false → ((k : ℕ) → slice_get xs k ≡ Some y → p y ≡ false)
          → slice_get (x ∷ xs) k ≡ Some y → p y ≡ false
      later zero passes rest at = ap p (sym (same_Some x y at)) ∙ passes
      later (suc k) passes rest at = rest k at

  -- something is found where some item passes
  pub some_found : (xs : List X) → is_some (list.find p xs) ≡ list_any p xs
  some_found [] = refl
  some_found (x ∷ xs) = elim (p x) as (λ b. is_some (cond b (Some x) (list.find p xs))
      ≡ (b || list_any p xs)) [ true ↦ refl | false ↦ some_found xs ]

  -- a test that all pass, and one that none passes
  pub filter_all : (xs : List X) → All (λ x. p x ≡ true) xs → filter p xs ≡ xs
  filter_all [] h = refl
  filter_all (x ∷ xs) h =
      ap (λ b. cond b (x ∷ filter p xs) (filter p xs)) (All-head (λ x. p x ≡ true) x xs h)
      ∙ ap (λ zs. x ∷ zs) (filter_all xs (All-tail (λ x. p x ≡ true) x xs h))

  pub filter_nothing : (xs : List X) → All (λ x. p x ≡ false) xs → filter p xs ≡ []
  filter_nothing [] h = refl
  filter_nothing (x ∷ xs) h =
      ap (λ b. cond b (x ∷ filter p xs) (filter p xs)) (All-head (λ x. p x ≡ false) x xs h)
      ∙ filter_nothing xs (All-tail (λ x. p x ≡ false) x xs h)
