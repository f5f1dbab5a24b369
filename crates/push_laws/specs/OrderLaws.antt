-- Strictly sorted lists with the same elements are one.
use Rattle.std.specs.Prelude.{◌≡◌, zero, suc, List, [], ◌∷◌, ◌++◌, All, Contains, refl}
use Rattle.std.specs.Cmp.{IsTotalOrder}
use Rattle.std.specs.List.Sorted.{IsStrictlySortedBy}
use Rattle.std.specs.declared.cmp.Ordering.{Ordering}
use Rattle.std.specs.declared.cmp.Ordering.TheVariants.{Less}
use Rattle.std.proofs.Common.{arith, ap₂, subst, sym}
use Rattle.std.proofs.lemmas.Cmp.{tied_itself}
use Rattle.std.proofs.lemmas.List.Elements.{All-append, All-contains, All-from_recursion, All-head, All-tail, recursion_from_All}
use Rattle.std.proofs.lemmas.Map.Keys.{sorted_head, sorted_tail}
use Rattle.map_laws.specs.EachLaws.{contains_here, contains_later}

module _ {K : Type 0} {R : K → K → Ordering} (total : IsTotalOrder R) where
  pub not_below : (x : K) → R x x ≡ Less → ⊥
  not_below x e = let same = tied_itself total x in cc

  abbrev Sorted : List K → Type 0
  Sorted = IsStrictlySortedBy R

  above : (x : K) (xs : List K) → Sorted (x ∷ xs) → All (λ y. R x y ≡ Less) xs
  above x xs h = All-from_recursion (λ y. R x y ≡ Less) xs (sorted_head R x xs h)

  -- an element of both heads each list
  same_heads : (x y : K) (xs ys : List K) → Sorted (x ∷ xs) → Sorted (y ∷ ys)
      → Contains (y ∷ ys) x → Contains (x ∷ xs) y → x ≡ y
  same_heads x y xs ys h k (zero, inside, is) d = sym is
  same_heads x y xs ys h k (suc i, inside, is) (zero, within, same) = same
  same_heads x y xs ys h k (suc i, inside, is) (suc j, within, same) =
      absurd (not_below x (total.trans x y x
      (All-contains (λ z. R x z ≡ Less) xs y (above x xs h) (j, omega (arith, within), same))
      (All-contains (λ z. R y z ≡ Less) ys x (above y ys k) (i, omega (arith, inside), is))))

  -- what is in a tail is in the other
  same_tails : (x : K) (xs ys : List K) → Sorted (x ∷ xs)
      → ((k : K) → Contains (x ∷ xs) k → Contains (x ∷ ys) k)
      → (k : K) → Contains xs k → Contains ys k
  same_tails x xs ys h to k c = by (to k (contains_later x k xs c))
    where
      by : Contains (x ∷ ys) k → Contains ys k
      by (zero, inside, is) =
          absurd (not_below k (subst (λ z. R z k ≡ Less) is
          (All-contains (λ z. R x z ≡ Less) xs k (above x xs h) c)))
      by (suc i, inside, is) = (i, omega (arith, inside), is)

  pub same_sorted : (xs ys : List K) → Sorted xs → Sorted ys
      → ((k : K) → Contains xs k → Contains ys k) → ((k : K) → Contains ys k → Contains xs k)
      → xs ≡ ys
  same_sorted [] [] h k to from = refl
  same_sorted [] (y ∷ ys) h k to from =
      let c = from y (contains_here y ys) in absurd (omega (arith, c.1))
  same_sorted (x ∷ xs) [] h k to from =
      let c = to x (contains_here x xs) in absurd (omega (arith, c.1))
  same_sorted (x ∷ xs) (y ∷ ys) h k to from =
      let same = same_heads x y xs ys h k (to x (contains_here x xs)) (from y (contains_here y ys)) in
      let heads = subst (λ z. (k : K) → Contains (x ∷ xs) k → Contains (z ∷ ys) k) (sym same) to in
      let back = subst (λ z. (k : K) → Contains (z ∷ ys) k → Contains (x ∷ xs) k) (sym same) from in
      let sorted = subst (λ z. Sorted (z ∷ ys)) (sym same) k in
      ap₂ (λ z zs. z ∷ zs) same
      (same_sorted xs ys (sorted_tail R x xs h) (sorted_tail R y ys k)
      (same_tails x xs ys h heads) (same_tails x ys xs sorted back))

  pub sorted_append : (xs ys : List K) → Sorted xs → Sorted ys
      → All (λ x. All (λ y. R x y ≡ Less) ys) xs → Sorted (xs ++ ys)
  unfolding IsStrictlySortedBy
  sorted_append [] ys h k below = k
  sorted_append (x ∷ xs) ys h k below = (
    recursion_from_All (λ y. R x y ≡ Less) (xs ++ ys)
        (All-append (λ y. R x y ≡ Less) xs ys (above x xs h)
        (All-head (λ x. All (λ y. R x y ≡ Less) ys) x xs below)),
    sorted_append xs ys h.1 k (All-tail (λ x. All (λ y. R x y ≡ Less) ys) x xs below),
  )
