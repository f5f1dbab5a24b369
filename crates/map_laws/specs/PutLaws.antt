-- An entry put among others or taken from them, at its place in the order of the keys.
--     Within       the entries from one place up to another compare so with a key
--     put_gap put_place take_place     put between two, put in another's place, taken out
use Rattle.std.specs.Prelude.{◌≡◌, ℕ, zero, suc, ◌<◌, ◌≤◌, not, cond, List, [], ◌∷◌, ◌++◌, take, drop, length, filter, slice_index_or, refl}
use Rattle.std.proofs.Common.{arith, ap, ◌∙◌}
use Rattle.std.specs.Ordering.{eq_by_cmp, is_eq, ordering_reverse}
use Rattle.std.specs.declared.cmp.Ordering.{Ordering}
use Rattle.std.specs.declared.cmp.Ordering.TheVariants.{Less, Equal, Greater}
use Rattle.std.specs.Cmp.{IsTotalOrder}
use Rattle.std.specs.FinMap.{IsAntisymmetric}
use Rattle.std.specs.FinMap.Entries.{by_order, put}

-- each entry from one place up to another compares so with the key
abbrev pub Within : {K X : Type 0} → (K → K → Ordering) → List (K × X) → K → Ordering → ℕ → ℕ
    → Type 0
Within {K} {X} R es k o low high = (j : ℕ) (d : K × X) → low ≤ j → j < high
    → R (slice_index_or es j d).0 k ≡ o

module _ {K : Type 0} {R : K → K → Ordering} (total : IsTotalOrder R) (k : K) where
  pub turned : (x : K) (o : Ordering) → R x k ≡ o → R k x ≡ ordering_reverse o
  turned x o e = total.antisymm k x ∙ ap ordering_reverse e

module _ {K X : Type 0} {R : K → K → Ordering} (total : IsTotalOrder R) (k : K) where
  -- the rest of a list has the same, one place earlier
  rest : (e : K × X) (es : List (K × X)) (o : Ordering) (low high from : ℕ) → from ≤ suc low
      → Within R (e ∷ es) k o from (suc high) → Within R es k o low high
  rest e es o low high from lt h j d after before = h (suc j) d (omega arith) (omega arith)

  pub put_gap : (v : X) (es : List (K × X)) (i : ℕ) → i ≤ length es → Within R es k Less 0 i
      → Within R es k Greater i (length es) → put R k v es ≡ take i es ++ (k, v) ∷ drop i es
  put_gap v [] zero lt below above = refl
  put_gap v [] (suc i) lt below above = absurd (omega arith)
  put_gap v (e ∷ es) zero lt below above =
      ap (λ r. by_order r ((k, v) ∷ e ∷ es) ((e.0, v) ∷ es) (e ∷ put R k v es))
      (turned total k e.0 Greater (above 0 e (omega arith) (omega arith)))
  put_gap v (e ∷ es) (suc i) lt below above =
      ap (λ r. by_order r ((k, v) ∷ e ∷ es) ((e.0, v) ∷ es) (e ∷ put R k v es))
      (turned total k e.0 Less (below 0 e (omega arith) (omega arith)))
      ∙ ap (λ l. e ∷ l)
      (put_gap v es i (omega arith) (rest e es Less 0 i 0 (omega arith) below)
      (rest e es Greater i (length es) (suc i) (omega arith) above))

  pub put_place : IsAntisymmetric R → (v : X) (es : List (K × X)) (i : ℕ) → i < length es
      → Within R es k Less 0 i → ((d : K × X) → R (slice_index_or es i d).0 k ≡ Equal)
      → put R k v es ≡ take i es ++ (k, v) ∷ drop (suc i) es
  put_place exact v [] i lt below here = absurd (omega arith)
  put_place exact v (e ∷ es) zero lt below here =
      ap (λ r. by_order r ((k, v) ∷ e ∷ es) ((e.0, v) ∷ es) (e ∷ put R k v es))
      (turned total k e.0 Equal (here e)) ∙ ap (λ x. (x, v) ∷ es) (exact e.0 k (here e))
  put_place exact v (e ∷ es) (suc i) lt below here =
      ap (λ r. by_order r ((k, v) ∷ e ∷ es) ((e.0, v) ∷ es) (e ∷ put R k v es))
      (turned total k e.0 Less (below 0 e (omega arith) (omega arith)))
      ∙ ap (λ l. e ∷ l)
      (put_place exact v es i (omega arith) (rest e es Less 0 i 0 (omega arith) below)
      here)

  -- the entries but the key's
  unfoldable pub others : List (K × X) → List (K × X)
  others es = filter (λ e. not (eq_by_cmp R k e.0)) es

  all_above : (es : List (K × X)) → Within R es k Greater 0 (length es) → others es ≡ es
  unfolding others
  all_above [] above = refl
  all_above (e ∷ es) above =
      ap (λ r. cond (not (is_eq r)) (e ∷ others es) (others es))
      (turned total k e.0 Greater (above 0 e (omega arith) (omega arith)))
      ∙ ap (λ l. e ∷ l) (all_above es (rest e es Greater 0 (length es) 0 (omega arith) above))

  pub take_place : (es : List (K × X)) (i : ℕ) → i < length es → Within R es k Less 0 i
      → ((d : K × X) → R (slice_index_or es i d).0 k ≡ Equal)
      → Within R es k Greater (suc i) (length es) → others es ≡ take i es ++ drop (suc i) es
  unfolding others
  take_place [] i lt below here above = absurd (omega arith)
  take_place (e ∷ es) zero lt below here above =
      ap (λ r. cond (not (is_eq r)) (e ∷ others es) (others es)) (turned total k e.0 Equal (here e))
      ∙ all_above es (rest e es Greater 0 (length es) 1 (omega arith) above)
  take_place (e ∷ es) (suc i) lt below here above =
      ap (λ r. cond (not (is_eq r)) (e ∷ others es) (others es))
      (turned total k e.0 Less (below 0 e (omega arith) (omega arith)))
      ∙ ap (λ l. e ∷ l)
      (take_place es i (omega arith) (rest e es Less 0 i 0 (omega arith) below) here
      (rest e es Greater (suc i) (length es) (suc (suc i)) (omega arith) above))
