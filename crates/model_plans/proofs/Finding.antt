-- What is found by number in a list, and what is there if nothing is found.
use Rattle.std.proofs.Common.{◌≡◌, ℕ, ◌==◌, true, false, cond, List, [], ◌∷◌, Some, refl, ap, ◌∙◌, map}
use Rattle.std.specs.Prelude.{Contains, IsSome}
use Rattle.std.specs.Option.{option_map}
use Rattle.std.proofs.lemmas.Bool.{eq-eqb}
use Rattle.numbered_list.specs.Numbered.{find}
use Rattle.model_laws.specs.Found.{is_some-find, one_passes}

-- each item is made something of the same number
pub find-mapped : {X Y : Type 0} (number_of : X → ℕ) (other_number_of : Y → ℕ) (f : X → Y)
    → ((x : X) → other_number_of (f x) ≡ number_of x) → (n : ℕ) (xs : List X)
    → find other_number_of n (map f xs) ≡ option_map f (find number_of n xs)
find-mapped number_of other_number_of f same n [] = refl
find-mapped number_of other_number_of f same n (x ∷ xs) =
    ap (λ m. cond (m == n) (Some (f x)) (find other_number_of n (map f xs))) (same x)
    ∙ elim (number_of x == n) as (λ b. cond b (Some (f x)) (find other_number_of n (map f xs))
    ≡ option_map f (cond b (Some x) (find number_of n xs))) [
      | true ↦ refl
      | false ↦ find-mapped
          number_of other_number_of f same n xs
    ]

-- what stands in the list is found by its number
pub found_by_number : {X : Type 0} (number_of : X → ℕ) (n : ℕ) (x : X) (xs : List X) → Contains xs x
    → number_of x ≡ n → IsSome (find number_of n xs)
found_by_number number_of n x xs there number =
    is_some-find (λ y. number_of y == n) xs ∙ one_passes (λ y. number_of y == n) xs x there
    (eq-eqb (number_of x) n number)
