-- What is found by key, where a list is sorted stably or the first of each key alone is left of it.
use Rattle.std.specs.Prelude.{◌≡◌, ◌&&◌, Bool, true, false, cond, not, List, [], ◌∷◌, filter, find, slice_get, Option, Some, None, refl}
use Rattle.std.specs.Cmp.{IsTotalOrder, alike_right}
use Rattle.std.specs.List.{dedup, dedup_from}
use Rattle.std.specs.List.Sorted.{IsStableByKey, ties}
use Rattle.std.specs.Ordering.{eq_by_cmp, is_eq, is_lt, ordering_reverse}
use Rattle.std.specs.declared.cmp.Ordering.{Ordering}
use Rattle.std.specs.declared.cmp.Ordering.TheVariants.{Less, Equal, Greater}
use Rattle.std.proofs.Common.{sym, ap, ◌∙◌}
use Rattle.map_laws.specs.TestLaws.{is_equal}

first_passing : {A : Type 0} (p q : A → Bool) → ((x : A) → p x ≡ q x) → (xs : List A)
    → find p xs ≡ slice_get (filter q xs) 0
first_passing p q same [] = refl
first_passing p q same (x ∷ xs) =
    ap (λ b. cond b (Some x) (find p xs)) (same x) ∙ by (q x) (first_passing p q same xs)
  where
    by : (b : Bool) → find p xs ≡ slice_get (filter q xs) 0
        → cond b (Some x) (find p xs) ≡ slice_get (cond b (x ∷ filter q xs) (filter q xs)) 0
    by true later = refl
    by false later = later

passes_found : {A : Type 0} (p : A → Bool) (xs : List A) (x : A) → find p xs ≡ Some x → p x ≡ true
passes_found p [] x e = cc
passes_found p (y ∷ ys) x e = by (p y) refl e (passes_found p ys x)
  where
    by : (b : Bool) → p y ≡ b → cond b (Some y) (find p ys) ≡ Some x
        → (find p ys ≡ Some x → p x ≡ true) → p x ≡ true
    by true t e later =
        let same : y ≡ x = cc in
        ap p (sym same) ∙ t
    by false t e later = later e

module _ {B K : Type 0} {R : K → K → Ordering} (o : IsTotalOrder R) (key : B → K) where
  abbrev has : K → B → Bool
  has k b = eq_by_cmp R (key b) k

  abbrev pub alike : B → B → Bool
  alike a b = eq_by_cmp R (key a) (key b)

  neither_less : (a b : K) → eq_by_cmp R b a ≡ (not (is_lt (R a b)) && not (is_lt (R b a)))
  neither_less a b =
      by (R b a) ∙ ap (λ r. not (is_lt r) && not (is_lt (R b a))) (sym (o.antisymm a b))
    where
      by : (r : Ordering) → is_eq r ≡ (not (is_lt (ordering_reverse r)) && not (is_lt r))
      by Less = refl
      by Equal = refl
      by Greater = refl

  pub sorted_find : (xs ys : List B) (k : K) → IsStableByKey key R xs ys
      → find (has k) ys ≡ find (has k) xs
  sorted_find xs ys k stable = by (find (has k) xs) (find (has k) ys) refl refl
    where
      lt : B → B → Bool
      lt a b = is_lt (R (key a) (key b))

      beside : (b : B) → has k b ≡ true → find (has k) ys ≡ find (has k) xs
      beside b t =
          let same = λ (y : B). ap is_eq (sym (alike_right o (key b) k (key y) (is_equal (R (key b) k) t)))
          ∙ neither_less (key b) (key y) in
          first_passing (has k) (ties lt b) same ys
          ∙ ap (λ bs. slice_get bs 0) (stable b)
          ∙ sym (first_passing (has k) (ties lt b) same xs)

      by : (m n : Option B) → find (has k) xs ≡ m → find (has k) ys ≡ n
          → find (has k) ys ≡ find (has k) xs
      by (Some b) n e f = beside b (passes_found (has k) xs b e)
      by None (Some b) e f = beside b (passes_found (has k) ys b f)
      by None None e f = f ∙ sym e

  once_from : (k : K) (b : B) (ys : List B)
      → find (has k) (dedup_from alike b ys) ≡ cond (has k b) (Some b) (find (has k) ys)
  once_from k b [] = refl
  once_from k b (y ∷ ys) = by (alike y b) refl (once_from k b ys) (once_from k y ys)
    where
      both : (s t : Bool) → s ≡ t
          → cond t (Some b) (find (has k) ys)
          ≡ cond t (Some b) (cond s (Some y) (find (has k) ys))
      both true true e = refl
      both false false e = refl
      both true false e = cc
      both false true e = cc

      by : (t : Bool) → alike y b ≡ t
          → find (has k) (dedup_from alike b ys) ≡ cond (has k b) (Some b) (find (has k) ys)
          → find (has k) (dedup_from alike y ys) ≡ cond (has k y) (Some y) (find (has k) ys)
          → find (has k) (cond t (dedup_from alike b ys) (b ∷ dedup_from alike y ys))
          ≡ cond (has k b) (Some b) (cond (has k y) (Some y) (find (has k) ys))
      by true e from_b from_y =
          from_b
          ∙ both (has k y) (has k b) (ap is_eq (o.congr (key y) (key b) k (is_equal _ e)))
      by false e from_b from_y = ap (λ f. cond (has k b) (Some b) f) from_y

  pub once_find : (k : K) (ys : List B) → find (has k) (dedup alike ys) ≡ find (has k) ys
  once_find k [] = refl
  once_find k (y ∷ ys) = once_from k y ys
