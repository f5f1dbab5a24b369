-- The first change of each number: what a stable sort by number leaves, where the first of each number
-- alone is kept.
use Rattle.std.specs.Prelude.{◌≡◌, ◌==◌, ◌≤◌, ◌<◌, ℕ, Bool, true, false, cond, List, [], ◌∷◌, All, find, length, map, Some, refl}
use Rattle.std.specs.Borrow.{Bor}
use Rattle.std.specs.Cmp.{nat_cmp_total, on_total}
use Rattle.std.specs.List.{AllByRecursion, dedup}
use Rattle.std.specs.List.Sorted.{IsSortedByKey, IsStableByKey, IsStrictlySortedBy}
use Rattle.std.specs.Option.{option_map}
use Rattle.std.specs.Ordering.{is_eq, nat_cmp, on}
use Rattle.std.specs.declared.cmp.Ordering.TheVariants.{Less}
use Rattle.std.proofs.Common.{arith, sym, ap, subst, ◌∙◌}
use Rattle.std.proofs.lemmas.Bool.Decides.{nat_tests}
use Rattle.std.proofs.lemmas.List.{length-map}
use Rattle.std.proofs.lemmas.List.Elements.{All-cons, All-nil}
use Rattle.std.proofs.lemmas.List.Kept.{IsStrictlySortedBy-dedup}
use Rattle.map_laws.specs.TestLaws.{less_than}
use Rattle.touched_items.specs.StableLaws.{once_find, sorted_find}
use Rattle.numbered_list.specs.Laws.{Rise-cons, Rise-nil}
use Rattle.numbered_list.specs.Numbered as numbered
use Rattle.numbered_list.specs.Numbered.{Rise}
use Rattle.numbered_list.specs.Changes.{changed_number}
use Rattle.numbered_list.specs.declared.change.Change.{Change}
use Rattle.touched_items.specs.FirstChanges.{AreFirst}

same_number : (m n : ℕ) → (m == n) ≡ is_eq (nat_cmp m n)
same_number m n = grind (arith, nat_tests)

-- items by the numbers of what is read of them
module _ {B X : Type 0} (read : B → X) (number_of : X → ℕ) where
  abbrev number : B → ℕ
  number b = number_of (read b)

  find_read : (n : ℕ) (bs : List B)
      → numbered.find number_of n (map read bs)
      ≡ option_map read (find (λ b. is_eq (nat_cmp (number b) n)) bs)
  find_read n [] = refl
  find_read n (b ∷ bs) =
      ap (λ t. cond t (Some (read b)) (numbered.find number_of n (map read bs)))
      (same_number (number b) n)
      ∙ by (is_eq (nat_cmp (number b) n)) (find_read n bs)
    where
      by : (t : Bool)
          → numbered.find number_of n (map read bs)
          ≡ option_map read (find (λ b. is_eq (nat_cmp (number b) n)) bs)
          → cond t (Some (read b)) (numbered.find number_of n (map read bs))
          ≡ option_map read (cond t (Some b) (find (λ b. is_eq (nat_cmp (number b) n)) bs))
      by true later = refl
      by false later = later

  above : (k : ℕ) (bs : List B) → AllByRecursion (λ b. nat_cmp k (number b) ≡ Less) bs
      → All (λ x. k < number_of x) (map read bs)
  above k [] h = All-nil (λ x. k < number_of x)
  above k (b ∷ bs) h =
      All-cons (λ x. k < number_of x) (read b) (map read bs) (less_than k (number b) h.0)
      (above k bs h.1)

  rise : (bs : List B) → IsStrictlySortedBy (on number nat_cmp) bs
      → Rise number_of (map read bs)
  unfolding IsStrictlySortedBy
  rise [] sorted = Rise-nil number_of
  rise (b ∷ bs) sorted =
      Rise-cons number_of (read b) (map read bs) (above (number b) bs sorted.0) (rise bs sorted.1)

-- ---- changes

module _ {X : Type 0} where
  abbrev pub change_in : Bor (Change X) → Change X
  change_in c = c.now

  abbrev pub number_in : Bor (Change X) → ℕ
  number_in c = c.now.number

  abbrev pub have_one : Bor (Change X) → Bor (Change X) → Bool
  have_one a b = number_in a == number_in b

  pub are_first : (xs ys zs : List (Bor (Change X))) → IsStableByKey number_in nat_cmp xs ys
      → IsSortedByKey number_in nat_cmp ys → zs ≡ dedup have_one ys → length zs ≤ length ys
      → length ys ≡ length xs → AreFirst (map change_in xs) (map change_in zs)
  are_first xs ys zs stable sorted kept fewer long = record {
    rising = rise change_in changed_number zs
        (subst (IsStrictlySortedBy (on number_in nat_cmp)) (sym kept)
        (IsStrictlySortedBy-dedup (on_total number_in nat_cmp_total)
        (λ a b. same_number (number_in a) (number_in b)) ys sorted));
    first = λ n.
        find_read change_in changed_number n zs
        ∙ ap (option_map change_in)
        (ap (find (λ c. is_eq (nat_cmp (number_in c) n)))
        (kept ∙ (λ i. dedup (λ a b. same_number (number_in a) (number_in b) i) ys))
        ∙ once_find nat_cmp_total number_in n ys
        ∙ sorted_find nat_cmp_total number_in xs ys n stable)
        ∙ sym (find_read change_in changed_number n xs);
    few = omega (arith, fewer, long, length-map zs change_in, length-map xs change_in);
  }
