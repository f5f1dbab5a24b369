-- Sums over the entries of a finite map, and over a list, after an item comes or goes.
use Rattle.std.proofs.Common.{◌≡◌, ℕ, ◌+◌, List, [], ◌∷◌, Some, None, Bool, true, false, cond, sum_by, refl, sym, ap, ◌∙◌, arith}
use Rattle.std.proofs.lemmas.Cmp.{tied_itself}
use Rattle.std.proofs.lemmas.List.Sums.{sum_by-cons}
use Rattle.std.specs.Prelude.{count_by}
use Rattle.std.specs.Ordering.{eq_by_cmp, is_eq}
use Rattle.std.specs.Cmp.{IsTotalOrder}
use Rattle.std.specs.FinMap.{FinMap, IsAntisymmetric, entries, get, insert, remove, get-entries, get-insert, get-remove, entries-insert, same_map}
use Rattle.std.specs.FinMap.Entries.{put, by_order, find}
use Rattle.std.specs.declared.cmp.Ordering.{Ordering}
use Rattle.std.specs.declared.cmp.Ordering.TheVariants.{Less, Equal, Greater}
use Rattle.map_laws.specs.TestLaws.{is_equal}

sum-put : {K X : Type 0} (R : K → K → Ordering) (f : K × X → ℕ) (k : K) (v : X) (es : List (K × X))
    → find R k es ≡ None → sum_by f (put R k v es) ≡ f (k, v) + sum_by f es
sum-put R f k v [] h = sum_by-cons f (k, v) []
sum-put R f k v (e ∷ es) h = by (R k e.0) refl (sum-put R f k v es)
  where
    by : (o : Ordering) → R k e.0 ≡ o
        → (find R k es ≡ None → sum_by f (put R k v es) ≡ f (k, v) + sum_by f es)
        → sum_by f (by_order o ((k, v) ∷ e ∷ es) ((e.0, v) ∷ es) (e ∷ put R k v es))
        ≡ f (k, v) + sum_by f (e ∷ es)
    by Less is later = sum_by-cons f (k, v) (e ∷ es)
    by Equal is later =
        let found : Some e.1 ≡ None = sym (ap (λ o. cond (is_eq o) (Some e.1) (find R k es)) is) ∙ h
        in cc
    by Greater is later =
        let rest : find R k es ≡ None = sym (ap (λ o. cond (is_eq o) (Some e.1) (find R k es)) is)
        ∙ h in
        omega (arith, sum_by-cons f e (put R k v es), later rest, sum_by-cons f e es)

module _ {K X : Type 0} {R : K → K → Ordering} (total : IsTotalOrder R) where
  -- a sum with one more entry
  pub sum_inserted : (f : K × X → ℕ) (m : FinMap R X) (k : K) (v : X) → get m k ≡ None
      → sum_by f (entries (insert m k v)) ≡ f (k, v) + sum_by f (entries m)
  sum_inserted f m k v none = ap (sum_by f) (entries-insert total m k v)
      ∙ sum-put R f k v (entries m) (sym (get-entries m k) ∙ none)

module _ {K X : Type 0} {R : K → K → Ordering} (total : IsTotalOrder R)
    (exact : IsAntisymmetric R) where
  -- an entry that is taken out and put in again leaves the map as it was
  pub put_again : (m : FinMap R X) (k : K) (v : X) → get m k ≡ Some v → insert (remove m k) k v ≡ m
  put_again m k v there = same_map total exact _ _
      (λ q. get-insert total (remove m k) k v q
      ∙ (ap (cond (eq_by_cmp R q k) (Some v)) (get-remove total m k q)
      ∙ by q (eq_by_cmp R q k) refl))
    where
      by : (q : K) (b : Bool) → eq_by_cmp R q k ≡ b
          → cond b (Some v) (cond b None (get m q)) ≡ get m q
      by q true is = sym there ∙ ap (get m) (sym (exact q k (is_equal _ is)))
      by q false is = refl

  -- a key that has nothing is taken out in vain
  pub taken_in_vain : (m : FinMap R X) (k : K) → get m k ≡ None → remove m k ≡ m
  taken_in_vain m k none =
      same_map total exact _ _ (λ q. get-remove total m k q ∙ by q (eq_by_cmp R q k) refl)
    where
      by : (q : K) (b : Bool) → eq_by_cmp R q k ≡ b → cond b None (get m q) ≡ get m q
      by q true is = sym none ∙ ap (get m) (sym (exact q k (is_equal _ is)))
      by q false is = refl

  get_removed : (m : FinMap R X) (k : K) → get (remove m k) k ≡ None
  get_removed m k = get-remove total m k k
      ∙ ap (λ o. cond (is_eq o) None (get m k)) (tied_itself total k)

  -- a sum with one entry less
  pub sum_removed : (f : K × X → ℕ) (m : FinMap R X) (k : K) (v : X) → get m k ≡ Some v
      → sum_by f (entries m) ≡ f (k, v) + sum_by f (entries (remove m k))
  sum_removed f m k v there = sym (ap (λ n. sum_by f (entries n)) (put_again m k v there))
      ∙ sum_inserted total f (remove m k) k v (get_removed m k)

-- how many pass, from the first item on
pub count_first : {X : Type 0} (p : X → Bool) (x : X) (xs : List X)
    → count_by p (x ∷ xs) ≡ cond (p x) 1 0 + count_by p xs
count_first p x xs = sum_by-cons (λ y. cond (p y) 1 0) x xs
