-- The rows worked out, or put in place, up to the i-th.
use Rattle.std.specs.Prelude.{◌≡◌, ℕ, ◌+◌, ◌<◌, ◌≤◌, Bool, true, false, ◌||◌, nat_eq, List, length, slice_index_or, Some, slice_get, slice_set}
use Rattle.std.proofs.Common.{sym, ◌∙◌, ap, ap₂, arith, subst}
use Rattle.std.proofs.lemmas.Bool.{eq-eqb, ne_eqb}
use Rattle.std.proofs.lemmas.List.{length-set}
use Rattle.std.proofs.Math.Bool.{or-true}
use Rattle.ratio_core.specs.Rational.{Rational}
use Rattle.tableau_core.specs.declared.kept.Row.{Row}
use Rattle.tableau_core.specs.Places.{CoversNonzeros}
use Rattle.tableau_core.specs.Row.{IsLowered, IsPrepared, cell, lowering_fits}
use Rattle.tableau_core.specs.Rows.{ArePrepared, AreWide, next_at, next_numbers, now_at, numbers, rows_fit}
use Rattle.tableau_core.specs.ItemLaws.{each_written, read_at, written_off}
use Rattle.simplex_laws.specs.SearchLaws.{all_below_failed, all_below_more}
use Rattle.simplex_form.specs.Search.{all_below}

-- the rows below i are worked out, and all stand
pub record ArePreparedTo (r q : ℕ) (step : List Rational) (before rows : List Row)
    (i : ℕ) : Type 0 where
  pub within : i ≤ length before
  pub long : length rows ≡ length before
  pub stays : (k : ℕ) → now_at rows k ≡ now_at before k
  pub fit : all_below i (λ k. nat_eq k r || lowering_fits q step (now_at before k)) ≡ true
  pub prepared : (k : ℕ) → k < i → ¬ (k ≡ r) → IsPrepared q step (now_at rows k) (next_at rows k)

-- the rows below i are put in place
pub record AreSettledTo (r q : ℕ) (places : List ℕ) (before rows : List Row) (i : ℕ) : Type 0 where
  pub within : i ≤ length before
  pub long : length rows ≡ length before
  pub later : (k : ℕ) → i ≤ k → slice_get rows k ≡ slice_get before k
  pub pivot_stays : now_at rows r ≡ now_at before r
  pub lowered : (step : List Rational) → AreWide (length step) before → CoversNonzeros places step
      → ArePrepared r q step before → (k : ℕ) → k < i → ¬ (k ≡ r)
      → IsLowered (cell (now_at before k) q) step (now_at before k) (now_at rows k)

-- ---- the rows worked out

module _ (r q : ℕ) (step : List Rational) (before rows : List Row) (i : ℕ) where
  abbrev row_fits : ℕ → Bool
  row_fits k = nat_eq k r || lowering_fits q step (now_at before k)

  row_stands : (d : Row) → ArePreparedTo r q step before rows i → i < length before
      → (slice_index_or rows i d).now.items ≡ now_at before i
  row_stands d h b =
      sym (ap numbers (read_at rows i d (subst (λ n. i < n) (sym h.long) b))) ∙ h.stays i

  pub prepared-more : (d new : Row) → ArePreparedTo r q step before rows i → i < length before
      → new.now.items ≡ (slice_index_or rows i d).now.items
      → true ≡ lowering_fits q step (slice_index_or rows i d).now.items
      → IsPrepared q step (slice_index_or rows i d).now.items new.next.items
      → ArePreparedTo r q step before (slice_set rows i new) (i + 1)
  prepared-more d new h b same fits made =
      let at : i < length rows = subst (λ n. i < n) (sym h.long) b in
      let old : (slice_index_or rows i d).now.items ≡ now_at before i = row_stands d h b in
      record {
        within = omega (arith, b);
        long = length-set rows i new ∙ h.long;
        stays = each_written (λ k o. numbers o ≡ now_at before k) rows i new at (same ∙ old)
            (λ k m. h.stays k);
        fit = all_below_more i row_fits h.fit (ap (λ x. nat_eq i r || x)
            (subst (λ row. lowering_fits q step row ≡ true) old (sym fits)) ∙ or-true (nat_eq i r));
        prepared =
            each_written (λ k o. k < i + 1 → ¬ (k ≡ r) → IsPrepared q step (numbers o)
            (next_numbers o)) rows i new at
            (λ _ _. subst (λ row. IsPrepared q step row new.next.items) (sym same) made)
            (λ k m c n. h.prepared k (omega (arith, c, m)) n);
      }

  -- the pivot's row is passed over
  pub prepared-pivot : ArePreparedTo r q step before rows i → i < length before → i ≡ r
      → ArePreparedTo r q step before rows (i + 1)
  prepared-pivot h b e = record {
    within = omega (arith, b);
    long = h.long;
    stays = h.stays;
    fit = all_below_more i row_fits h.fit (ap (λ x. x || lowering_fits q step (now_at before i))
        (eq-eqb i r e));
    prepared = λ k c n. h.prepared k (omega (arith, c, below_lem k i r n e)) n;
  }
    where
      below_lem : (k i r : ℕ) → ¬ (k ≡ r) → i ≡ r → ¬ (k ≡ i)
      below_lem k i r n e f = n (f ∙ e)

  -- a row that is refused
  pub rows-refused : (d : Row) → ArePreparedTo r q step before rows i → i < length before
      → ¬ (i ≡ r) → false ≡ lowering_fits q step (slice_index_or rows i d).now.items
      → rows_fit r q step before ≡ false
  rows-refused d h b n fits =
      all_below_failed (length before) i row_fits b
      (ap₂ ◌||◌ (ne_eqb i r n) (subst (λ row. lowering_fits q step row ≡ false)
      (row_stands d h b) (sym fits)))

-- ---- the rows put in place

module _ (r q : ℕ) (places : List ℕ) (before rows : List Row) (i : ℕ) where
  pub settled-more : (d new : Row) → AreSettledTo r q places before rows i → i < length before
      → ¬ (i ≡ r) → ((step : List Rational) → length (slice_index_or rows i d).now.items ≤ length
      step → CoversNonzeros places step → IsPrepared q step (slice_index_or rows i d).now.items
      (slice_index_or rows i d).next.items → IsLowered (cell (slice_index_or rows i d).now.items q)
      step (slice_index_or rows i d).now.items new.now.items)
      → AreSettledTo r q places before (slice_set rows i new) (i + 1)
  settled-more d new h b n low =
      let at : i < length rows = subst (λ n. i < n) (sym h.long) b in
      let old : Some (slice_index_or rows i d) ≡ slice_get before i =
      sym (read_at rows i d at) ∙ h.later i (omega arith) in
      record {
        within = omega (arith, b);
        long = length-set rows i new ∙ h.long;
        later = λ k c. written_off rows i k new (λ e. above_lem k i c e)
            ∙ h.later k (omega (arith, c));
        pivot_stays = ap numbers (written_off rows i r new (λ e. n (sym e))) ∙ h.pivot_stays;
        lowered = λ step wide covers p.
            each_written (λ k o. k < i + 1 → ¬ (k ≡ r) → IsLowered (cell (now_at before k) q) step
            (now_at before k) (numbers o)) rows i new at
            (λ _ _. lowered_here old (low step (at_most (ap (λ o. length (numbers o)) old
            ∙ wide i b)) covers) (p i b n))
            (λ k f c m. h.lowered step wide covers p k (omega (arith, c, f)) m);
      }
    where
      at_most : {a b : ℕ} → a ≡ b → a ≤ b
      at_most e = omega (arith, e)

      above_lem : (k i : ℕ) → i + 1 ≤ k → k ≡ i → ⊥
      above_lem k i c e = absurd (omega (arith, c, e))

      lowered_here : {row : Row} {step : List Rational} → Some row ≡ slice_get before i
          → (IsPrepared q step row.now.items row.next.items → IsLowered (cell row.now.items q) step
          row.now.items new.now.items) → IsPrepared q step (now_at before i) (next_at before i)
          → IsLowered (cell (now_at before i) q) step (now_at before i) new.now.items
      lowered_here {row} {step} e low p =
          subst (λ o. IsLowered (cell (numbers o) q) step (numbers o) new.now.items) e
          (low (subst (λ o. IsPrepared q step (numbers o) (next_numbers o)) (sym e) p))

  pub settled-pivot : AreSettledTo r q places before rows i → i < length before → i ≡ r
      → AreSettledTo r q places before rows (i + 1)
  settled-pivot h b e = record {
    within = omega (arith, b);
    long = h.long;
    later = λ k c. h.later k (omega (arith, c));
    pivot_stays = h.pivot_stays;
    lowered = λ step wide covers p k c n. h.lowered step wide covers p k
        (omega (arith, c, below_lem k i r n e)) n;
  }
    where
      below_lem : (k i r : ℕ) → ¬ (k ≡ r) → i ≡ r → ¬ (k ≡ i)
      below_lem k i r n e f = n (f ∙ e)
