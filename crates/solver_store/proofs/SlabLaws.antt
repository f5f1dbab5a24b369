-- A slab as a finite map by key: what its calls leave.
use Rattle.std.specs.Prelude.{◌≡◌, ◌≢◌, ℕ, zero, suc, ◌+◌, ◌<◌, cond, List, [], ◌∷◌, Option, Some, None, slice_index_or, refl}
use Rattle.std.proofs.Common.{arith, sym, ap, ◌∙◌}
use Rattle.std.specs.Cmp.{nat_cmp_total}
use Rattle.std.specs.FinMap as finite
use Rattle.std.specs.FinMap.{find, nat_cmp-IsAntisymmetric}
use Rattle.std.specs.Ordering.{nat_cmp, eq_by_cmp}
use Rattle.aff_core.specs.KeyOrder.{IsKeyOrder, other_key, same_key, same_or_other}
use Rattle.slab.specs.Slab.{Slab, Updates, entries_from, get}
use Rattle.solver_store.specs.KeptModel.{by_key}

pub index_order : IsKeyOrder nat_cmp
index_order = record { total = nat_cmp_total; exact = nat_cmp-IsAntisymmetric }

-- a key below all of them is not found
find_before : {X : Type 0} (q first : ℕ) (slots : List (Option X)) → q < first
    → find nat_cmp q (entries_from first slots) ≡ None
find_before q first [] lt = refl
find_before q first (None ∷ slots) lt = find_before q (first + 1) slots (omega (arith, lt))
find_before q first (Some x ∷ slots) lt =
    ap (λ b. cond b (Some x) (find nat_cmp q (entries_from (first + 1) slots)))
    (other_key index_order q first (λ e. omega (arith, lt, e)))
    ∙ find_before q (first + 1) slots (omega (arith, lt))

-- the key at a place has what stands there
find_slot : {X : Type 0} (first i : ℕ) (slots : List (Option X))
    → find nat_cmp (first + i) (entries_from first slots) ≡ slice_index_or slots i None
find_slot first i [] = refl
find_slot first zero (None ∷ slots) = find_before (first + zero) (first + 1) slots (omega arith)
find_slot first (suc i) (None ∷ slots) =
    let shift : first + suc i ≡ first + 1 + i = omega arith in
    ap (λ q. find nat_cmp q (entries_from (first + 1) slots)) shift ∙ find_slot (first + 1) i slots
find_slot first zero (Some x ∷ slots) =
    let here : first + zero ≡ first = omega arith in
    ap (λ q. find nat_cmp q ((first, x) ∷ entries_from (first + 1) slots)) here
    ∙ ap (λ b. cond b (Some x) (find nat_cmp first (entries_from (first + 1) slots)))
    (same_key index_order first)
find_slot first (suc i) (Some x ∷ slots) =
    let shift : first + suc i ≡ first + 1 + i = omega arith in
    ap (λ b. cond b (Some x) (find nat_cmp (first + suc i) (entries_from (first + 1) slots)))
    (other_key index_order (first + suc i) first (λ e. omega (arith, e)))
    ∙ (ap (λ q. find nat_cmp q (entries_from (first + 1) slots)) shift
    ∙ find_slot (first + 1) i slots)

module _ {X : Type 0} where
  pub get-by_key : (s : Slab X) (k : ℕ) → finite.get (by_key s) k ≡ get s k
  get-by_key s k =
      let start : 0 + k ≡ k = omega arith in
      finite.get-from_entries nat_cmp_total (entries_from 0 s.slots) k
      ∙ (ap (λ q. find nat_cmp q (entries_from 0 s.slots)) (sym start) ∙ find_slot 0 k s.slots)

  -- a value that is put in, or takes another's place
  pub by_key-put : (s t : Slab X) (k : ℕ) (x : X) → get t k ≡ Some x
      → ((q : ℕ) → q ≢ k → get t q ≡ get s q) → by_key t ≡ finite.insert (by_key s) k x
  by_key-put s t k x here others =
      finite.same_map nat_cmp_total nat_cmp-IsAntisymmetric _ _ (λ q.
      get-by_key t q ∙ (at q ∙ sym (finite.get-insert nat_cmp_total (by_key s) k x q)))
    where
      at : (q : ℕ) → get t q ≡ cond (eq_by_cmp nat_cmp q k) (Some x) (finite.get (by_key s) q)
      at q = same_or_other index_order _ q k
          (λ e. ap (get t) e ∙ here
          ∙ sym (ap (λ p. cond (eq_by_cmp nat_cmp p k) (Some x) (finite.get (by_key s) q)) e
          ∙ ap (λ b. cond b (Some x) (finite.get (by_key s) q)) (same_key index_order k)))
          (λ n. others q n ∙ (sym (get-by_key s q)
          ∙ sym (ap (λ b. cond b (Some x) (finite.get (by_key s) q))
          (other_key index_order q k n))))

  -- a value that is taken out
  pub by_key-taken : (s t : Slab X) (k : ℕ) → Updates s t k None
      → by_key t ≡ finite.remove (by_key s) k
  by_key-taken s t k h =
      finite.same_map nat_cmp_total nat_cmp-IsAntisymmetric _ _ (λ q.
      get-by_key t q ∙ (at q ∙ sym (finite.get-remove nat_cmp_total (by_key s) k q)))
    where
      at : (q : ℕ) → get t q ≡ cond (eq_by_cmp nat_cmp q k) None (finite.get (by_key s) q)
      at q = same_or_other index_order _ q k
          (λ e. ap (get t) e ∙ h.changed
          ∙ sym (ap (λ p. cond (eq_by_cmp nat_cmp p k) None (finite.get (by_key s) q)) e
          ∙ ap (λ b. cond b None (finite.get (by_key s) q)) (same_key index_order k)))
          (λ n. h.others q n ∙ (sym (get-by_key s q)
          ∙ sym (ap (λ b. cond b None (finite.get (by_key s) q))
          (other_key index_order q k n))))

  pub by_key-updated : (s t : Slab X) (k : ℕ) (x : X) → Updates s t k (Some x)
      → by_key t ≡ finite.insert (by_key s) k x
  by_key-updated s t k x h = by_key-put s t k x h.changed h.others

  -- a value that takes the place of one taken out
  pub by_key-replaced : (s between t : Slab X) (k j : ℕ) (x : X) → Updates s between k None
      → Updates between t j (Some x) → j ≡ k → by_key t ≡ finite.insert (by_key s) k x
  by_key-replaced s between t k j x out put same =
      by_key-put s t k x (ap (get t) (sym same) ∙ put.changed)
      (λ q n. put.others q (λ e. n (e ∙ same)) ∙ out.others q n)
