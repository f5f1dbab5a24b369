-- A row divided, or lowered by a multiple of the pivot's new row, up to a column.
use Rattle.std.specs.Prelude.{◌≡◌, ℕ, zero, suc, ◌+◌, ◌<◌, ◌≤◌, true, false, List, [], length, slice_index, ◌⊎◌, refl}
use Rattle.std.proofs.Common.{sym, ◌∙◌, ap, arith, subst, inl, inr}
use Rattle.std.proofs.lemmas.Bool.{cases_lt}
use Rattle.ratio_core.specs.Rational.{Fits, Rational, fits, zero_ℚ, inverse_ℚ, ◌*ℚ◌, ◌-ℚ◌, ◌/ℚ◌}
use Rattle.rational_laws.specs.Field.{zero-*ℚ}
use Rattle.rational_laws.specs.Fitting.{Fits_zero}
use Rattle.simplex_form.specs.Fit.{lowered_fits}
use Rattle.simplex_laws.specs.BoundedSumLaws.{same_or_other}
use Rattle.simplex_laws.specs.SearchLaws.{all_below_all, all_below_failed}
use Rattle.ratio_core.specs.RationalLaws.{fits_Decides}
use Rattle.tableau_core.specs.LoweringLaws.{false_from_not, fits_from, lowered-zero, lowered_fits-zero, step-zero}
use Rattle.tableau_core.specs.Row.{cell}
use Rattle.sparse_board.specs.declared.sparse_row.SparseRow.{SparseRow}
use Rattle.sparse_board.specs.Sparse.{AreColumnsBelow, AreColumnsSplit, IsSparse, number_in}
use Rattle.sparse_board.specs.Numbers.{AppendsNumber, Copies, CopiesTo, HoldsBelow, IsReadyAt, number_of, row_columns, row_values, width_of}
use Rattle.tableau_core.specs.BoardNumbers.{differences_fit, quotients_fit}
use Rattle.sparse_board.specs.Lowering.{IsSparseDivided, IsSparseLowered}
use Rattle.sparse_board.proofs.NumberLemmas.{number_at_place, number_between, number_fits}
use Rattle.sparse_board.proofs.HeldLemmas.{below_less, held_next, held_none, held_past}

-- ---- places

-- the column behind the first k columns
abbrev pub past : List ℕ → ℕ → ℕ
past columns zero = 0
past columns (suc k) = slice_index columns k + 1

pub past_more : (columns : List ℕ) (k : ℕ) → past columns (k + 1) ≡ slice_index columns k + 1
past_more columns k = ap (past columns) (more_lem k)
  where
    more_lem : (k : ℕ) → k + 1 ≡ suc k
    more_lem k = omega arith

module _ (columns : List ℕ) (values : List Rational) (sparse : IsSparse columns values) where
  pub past_split : (k : ℕ) → k ≤ length columns → AreColumnsSplit (past columns k) k columns
  past_split zero b = record {
    within = omega arith;
    before = λ i c. absurd (omega (arith, c));
    after = λ i c d. omega arith;
  }
  past_split (suc k) b = record {
    within = b;
    before = λ i c. same_or_other (slice_index columns i < slice_index columns k + 1) i k
        (λ e. subst (λ x. x < slice_index columns k + 1) (sym (ap (slice_index columns) e))
        (omega arith)) (λ m. less_lem (slice_index columns i) (slice_index columns k)
        (sparse.rising i k (omega (arith, c, m)) (omega (arith, b))));
    after = λ i c d. more_lem (slice_index columns k) (slice_index columns i)
        (sparse.rising k i (omega (arith, c)) d);
  }
    where
      less_lem : (x y : ℕ) → x < y → x < y + 1
      less_lem x y h = omega (arith, h)

      more_lem : (x y : ℕ) → x < y → x + 1 ≤ y
      more_lem x y h = omega (arith, h)

  pub past_least : (k : ℕ) → k < length columns → past columns k ≤ slice_index columns k
  past_least k b = (past_split k (omega (arith, b))).after k (omega arith) b

  -- between two of the columns there is no number
  pub between_zero : (k j : ℕ) → k ≤ length columns → past columns k ≤ j
      → (k < length columns → j < slice_index columns k) → number_in columns values j ≡ zero_ℚ
  between_zero k j b low high =
      number_between columns values sparse (past columns k) k j (past_split k b) low high

-- the place behind column c, where the i-th is column c
pub split_more : (columns : List ℕ) (values : List Rational) → IsSparse columns values → (i c : ℕ)
    → i < length columns → slice_index columns i ≡ c → AreColumnsSplit (c + 1) (i + 1) columns
split_more columns values sparse i c b e =
    subst (λ x. AreColumnsSplit x (i + 1) columns) (past_more columns i ∙ ap (λ x. x + 1) e)
    (past_split columns values sparse (i + 1) (omega (arith, b)))

-- the same place, where no column is c
pub split_other : (columns : List ℕ) (i c : ℕ) → AreColumnsSplit c i columns
    → (i < length columns → ¬ (slice_index columns i ≡ c))
    → ((k : ℕ) → i < k → k < length columns → slice_index columns i < slice_index columns k)
    → AreColumnsSplit (c + 1) i columns
split_other columns i c split other rising = record {
  within = split.within;
  before = λ k d. omega (arith, split.before k d);
  after = λ k d e. same_or_other (c + 1 ≤ slice_index columns k) i k
      (λ f. subst (λ l. c + 1 ≤ slice_index columns l) f (here_lem c (slice_index columns i)
      (split.after i (omega arith) (subst (λ l. l < length columns) (sym f) e))
      (other (subst (λ l. l < length columns) (sym f) e))))
      (λ m. past_lem c (slice_index columns i) (slice_index columns k)
      (split.after i (omega arith) (omega (arith, d, e))) (rising k (omega (arith, d, m)) e));
}
  where
    here_lem : (c x : ℕ) → c ≤ x → ¬ (x ≡ c) → c + 1 ≤ x
    here_lem c x p q = omega (arith, p, q)

    past_lem : (c x y : ℕ) → c ≤ x → x < y → c + 1 ≤ y
    past_lem c x y p q = omega (arith, p, q)

-- ---- a row copied up to a column

pub record IsCopiedTo (row : SparseRow) (i column : ℕ) (old next : SparseRow)
    (end : ℕ) : Type 0 where
  pub width : width_of next ≡ width_of old
  pub reached : (d : ℕ) × (d ≤ column) × AreColumnsSplit d end (row_columns row)
      × AreColumnsBelow d (row_columns next)
  pub copied : (b : ℕ) (h : ℕ → Rational) → b ≤ column → AreColumnsSplit b i (row_columns row)
      → HoldsBelow b h old →
      ((j : ℕ) → b ≤ j → j < column → h j ≡ number_of row j) →
      (d : ℕ) × (d ≤ column) × (b ≤ d) × AreColumnsSplit d end (row_columns row) × HoldsBelow d h next

module _ (row : SparseRow) (i column : ℕ) (old : SparseRow) where
  pub copied_none : (b : ℕ) → b ≤ column → AreColumnsSplit b i (row_columns row)
      → AreColumnsBelow b (row_columns old) → IsCopiedTo row i column old old i
  copied_none b few split below = record {
    width = refl;
    reached = (b, few, split, below);
    copied = λ d h less place held same. (d, less, omega arith, place, held);
  }

  module _ (next : SparseRow) (end : ℕ) (c : IsCopiedTo row i column old next end) where
    -- the next number's column is before the column
    module _ (b : end < length (row_columns row))
        (low : slice_index (row_columns row) end < column) where
      abbrev at : ℕ
      at = slice_index (row_columns row) end

      pub copy_above : AreColumnsBelow at (row_columns next)
      copy_above =
          below_less c.reached.0 at (row_columns next) c.reached.3
          (c.reached.2.after end (omega arith) b)

      pub copied_more : (value : Rational) (new : SparseRow) → value ≡ cell (row_values row) end
          → AppendsNumber at value next new → IsCopiedTo row i column old new (end + 1)
      copied_more value new is adds = record {
        width = adds.width ∙ c.width;
        reached = (
          at + 1,
          omega (arith, low),
          split_more (row_columns row) (row_values row)
              row.sparse end at b refl,
          adds.below,
        );
        copied = λ d h less place held same.
            let so_far = c.copied d h less place held same in
            let first : d ≤ at = least_lem d so_far.0 at so_far.2 (so_far.3.after end
            (omega arith) b) in (
              at + 1,
              omega (arith, low),
              omega (arith, first),
              split_more (row_columns row) (row_values row) row.sparse end at b refl,
              held_next so_far.0 at h value next new so_far.4 (so_far.3.after end (omega arith) b)
                  (λ j low_j high. same j (up_lem d so_far.0 j so_far.2 low_j)
                  (below_lem j at column high low) ∙ number_between (row_columns row)
                  (row_values row) row.sparse so_far.0 end j so_far.3 low_j (λ _. high))
                  adds (is ∙ sym (number_at_place (row_columns row) (row_values row) row.sparse end
                  at b refl) ∙ sym (same at first low)),
            );
      }
        where
          least_lem : (b d x : ℕ) → b ≤ d → d ≤ x → b ≤ x
          least_lem b d x p q = omega (arith, p, q)

          up_lem : (b d j : ℕ) → b ≤ d → d ≤ j → b ≤ j
          up_lem b d j p q = omega (arith, p, q)

          below_lem : (j a c : ℕ) → j < a → a < c → j < c
          below_lem j a c p q = omega (arith, p, q)

    -- no number is left before the column
    module _ (past_end : end < length (row_columns row) → column ≤ slice_index
        (row_columns row) end) where
      pub copied_split : AreColumnsSplit column end (row_columns row)
      copied_split = record {
        within = c.reached.2.within;
        before = λ k d. omega (arith, c.reached.2.before k d, c.reached.1);
        after = λ k d e. same_or_other (column ≤ slice_index (row_columns row) k) end k
            (λ f. subst (λ l. column ≤ slice_index (row_columns row) l) f
            (past_end (subst (λ l. l < length (row_columns row)) (sym f) e)))
            (λ m. rest_lem column (slice_index (row_columns row) end)
            (slice_index (row_columns row) k) (past_end (omega (arith, d, e)))
            (row.sparse.rising end k (omega (arith, d, m)) e));
      }
        where
          rest_lem : (c x y : ℕ) → c ≤ x → x < y → c ≤ y
          rest_lem c x y p q = omega (arith, p, q)

      pub copied_below : AreColumnsBelow column (row_columns next)
      copied_below = below_less c.reached.0 column (row_columns next) c.reached.3 c.reached.1

      pub copied_all : Copies row i column old next
      copied_all = λ b h less place held same.
          let so_far = c.copied b h less place held same in
          held_past so_far.0 column h next so_far.4 so_far.1
          (λ j low high. same j (up_lem b so_far.0 j so_far.2 low) high
          ∙ number_between (row_columns row) (row_values row) row.sparse so_far.0 end j so_far.3
          low (λ e. high_lem j column (slice_index (row_columns row) end) high (past_end e)))
        where
          up_lem : (b d j : ℕ) → b ≤ d → d ≤ j → b ≤ j
          up_lem b d j p q = omega (arith, p, q)

          high_lem : (j c x : ℕ) → j < c → c ≤ x → j < x
          high_lem j c x p q = omega (arith, p, q)

-- ---- a row lowered by the first k of the units

pub record IsLoweredTo (row : SparseRow) (by : Rational) (columns : List ℕ) (units : List Rational)
    (next : SparseRow) (k i : ℕ) : Type 0 where
  pub width : width_of next ≡ width_of row
  pub split : AreColumnsSplit (past columns k) i (row_columns row)
  pub held : HoldsBelow (past columns k) (λ j. number_of row j -ℚ by *ℚ number_in columns
      units j) next
  pub fit : (j : ℕ) → j < past columns k
      → lowered_fits (number_of row j) by (number_in columns units j) ≡ true

module _ (row : SparseRow) (by : Rational) (columns : List ℕ) (units : List Rational)
    (sparse : IsSparse columns units) (within : AreColumnsBelow (width_of row) columns) where
  abbrev unit : ℕ → Rational
  unit j = number_in columns units j

  abbrev less : ℕ → Rational
  less j = number_of row j -ℚ by *ℚ unit j

  -- where no unit stands the row's number fits, and stays
  module _ (k j : ℕ) (few : k ≤ length columns) (low : past columns k ≤ j)
      (high : k < length columns → j < slice_index columns k) where
    no_product : by *ℚ unit j ≡ zero_ℚ
    no_product = step-zero by (unit j) (between_zero columns units sparse k j few low high)

    between_same : less j ≡ number_of row j
    between_same = lowered-zero (number_of row j) by (unit j) no_product

    between_fits : lowered_fits (number_of row j) by (unit j) ≡ true
    between_fits =
        lowered_fits-zero (number_of row j) by (unit j) no_product
        (number_fits (row_columns row) (row_values row) row.sparse.fit j)

  pub lowered_none : (next : SparseRow) → next.entries.items ≡ [] → width_of next ≡ width_of row
      → IsLoweredTo row by columns units next 0 0
  lowered_none next e width = record {
    width = width;
    split = past_split (row_columns row) (row_values row) row.sparse 0 (omega arith);
    held = held_none less next e;
    fit = λ j b. absurd (omega (arith, b));
  }

  module _ (next : SparseRow) (k i : ℕ) (l : IsLoweredTo row by columns units next k i) where
    module _ (b : k < length columns) (item : Rational) (is : item ≡ cell units k) where
      abbrev unit_at : ℕ
      unit_at = slice_index columns k

      here : unit unit_at ≡ item
      here = number_at_place columns units sparse k unit_at b refl ∙ sym is

      pub lowered_ready : IsReadyAt unit_at row i next
      lowered_ready = (past columns k, past_least columns units sparse k b, l.split, l.held.below)

      pub lowered_refused : lowered_fits (number_of row unit_at) by item ≡ false
          → differences_fit (width_of row) (number_of row) by unit ≡ false
      lowered_refused e =
          all_below_failed (width_of row) unit_at (λ j. lowered_fits (number_of row j) by (unit j))
          (within k b) (ap (lowered_fits (number_of row unit_at) by) here ∙ e)

      pub lowered_more : (new : SparseRow) (end : ℕ) → width_of new ≡ width_of next
          → lowered_fits (number_of row unit_at) by item ≡ true
          → AreColumnsSplit (unit_at + 1) end (row_columns row)
          → CopiesTo row i unit_at (number_of row unit_at -ℚ by *ℚ item) next new
          → IsLoweredTo row by columns units new (k + 1) end
      lowered_more new end width fits split copied = record {
        width = width ∙ l.width;
        split = subst (λ c. AreColumnsSplit c end (row_columns row)) (sym (past_more columns k)) split;
        held = subst (λ c. HoldsBelow c less new) (sym (past_more columns k))
            (copied (past columns k) less (past_least columns units sparse k b) l.split l.held
            (λ j low high. between_same k j (omega (arith, b)) low (λ _. high))
            (ap (λ u. number_of row unit_at -ℚ by *ℚ u) here));
        fit = λ j c. up_to j (subst (λ n. j < n) (past_more columns k) c)
            (cases_lt j (past columns k));
      }
        where
          up_to : (j : ℕ) → j < unit_at + 1 → (j < past columns k) ⊎ (past columns k ≤ j)
              → lowered_fits (number_of row j) by (unit j) ≡ true
          up_to j c (inl d) = l.fit j d
          up_to j c (inr d) =
              same_or_other (lowered_fits (number_of row j) by (unit j) ≡ true) j unit_at
              (λ e. subst (λ n. lowered_fits (number_of row n) by (unit n) ≡ true) (sym e)
              (ap (lowered_fits (number_of row unit_at) by) here ∙ fits))
              (λ m. between_fits k j (omega (arith, b)) d (λ _. less_lem j unit_at c m))
            where
              less_lem : (j a : ℕ) → j < a + 1 → ¬ (j ≡ a) → j < a
              less_lem j a p q = omega (arith, p, q)

    -- with all of the units
    module _ (all : k ≡ length columns) where
      none_left : (j : ℕ) → k < length columns → j < slice_index columns k
      none_left j b = absurd (omega (arith, all, b))

      pub lowered_fit : differences_fit (width_of row) (number_of row) by unit ≡ true
      lowered_fit =
          all_below_all (width_of row) (λ j. lowered_fits (number_of row j) by (unit j))
          (λ j b. by_side j (cases_lt j (past columns k)))
        where
          by_side : (j : ℕ) → (j < past columns k) ⊎ (past columns k ≤ j)
              → lowered_fits (number_of row j) by (unit j) ≡ true
          by_side j (inl d) = l.fit j d
          by_side j (inr d) = between_fits k j (omega (arith, all)) d (none_left j)

      past_within : (n : ℕ) → n ≤ length columns → past columns n ≤ width_of row
      past_within zero b = omega arith
      past_within (suc n) b = omega (arith, within n (omega (arith, b)))

      pub lowered_last : (column : ℕ) → width_of row ≤ column → IsReadyAt column row i next
      lowered_last column wide = (
        past columns k,
        omega (arith, wide, past_within k (omega (arith, all))),
        l.split,
        l.held.below,
      )

      pub lowered_all : (column : ℕ) (new : SparseRow) → width_of row ≤ column
          → width_of new ≡ width_of next → Copies row i column next new
          → IsSparseLowered by unit row new
      lowered_all column new wide width copied = record {
        width = width ∙ l.width;
        numbers = λ j b. (copied (past columns k) less
            (omega (arith, wide, past_within k (omega (arith, all)))) l.split l.held
            (λ j low high. between_same k j (omega (arith, all)) low (none_left j))).numbers j
            (omega (arith, b, wide));
      }

-- ---- the first k numbers of a row divided

pub record IsDividedTo (row : SparseRow) (by : Rational) (next : SparseRow) (k : ℕ) : Type 0 where
  pub width : width_of next ≡ width_of row
  pub held : HoldsBelow (past (row_columns row) k) (λ j. number_of row j /ℚ by) next
  pub fit : (j : ℕ) → j < past (row_columns row) k → fits (number_of row j /ℚ by) ≡ true

module _ (row : SparseRow) (by : Rational) where
  abbrev quotient : ℕ → Rational
  quotient j = number_of row j /ℚ by

  module _ (k j : ℕ) (few : k ≤ length (row_columns row)) (low : past (row_columns row) k ≤ j)
      (high : k < length (row_columns row) → j < slice_index (row_columns row) k) where
    quotient_zero : quotient j ≡ zero_ℚ
    quotient_zero =
        ap (λ x. x /ℚ by) (between_zero (row_columns row) (row_values row) row.sparse k j few low
        high) ∙ zero-*ℚ (inverse_ℚ by)

    quotient_fits : fits (quotient j) ≡ true
    quotient_fits = fits_from (quotient j) (subst Fits (sym quotient_zero) Fits_zero)

  pub divided_none : (next : SparseRow) → next.entries.items ≡ [] → width_of next ≡ width_of row
      → IsDividedTo row by next 0
  divided_none next e width = record {
    width = width;
    held = held_none quotient next e;
    fit = λ j b. absurd (omega (arith, b));
  }

  module _ (next : SparseRow) (k : ℕ) (d : IsDividedTo row by next k) where
    module _ (b : k < length (row_columns row)) (item : Rational)
        (is : item ≡ cell (row_values row) k) where
      abbrev at_place : ℕ
      at_place = slice_index (row_columns row) k

      here_is : number_of row at_place ≡ item
      here_is =
          number_at_place (row_columns row) (row_values row) row.sparse k at_place b refl ∙ sym is

      pub divided_above : AreColumnsBelow at_place (row_columns next)
      divided_above =
          below_less (past (row_columns row) k) at_place (row_columns next) d.held.below
          (past_least (row_columns row) (row_values row) row.sparse k b)

      pub divided_refused : ¬ (Fits (item /ℚ by))
          → quotients_fit (width_of row) (number_of row) by ≡ false
      divided_refused n =
          all_below_failed (width_of row) at_place (λ j. fits (quotient j)) (row.within k b)
          (false_from_not (fits (quotient at_place)) (Fits (item /ℚ by))
          (λ f. subst (λ x. Fits (x /ℚ by)) here_is ((fits_Decides (quotient at_place)).0 f)) n)

      pub divided_more : (value : Rational) (new : SparseRow) → Fits (item /ℚ by)
          → value ≡ item /ℚ by → AppendsNumber at_place value next new
          → IsDividedTo row by new (k + 1)
      divided_more value new f e adds = record {
        width = adds.width ∙ d.width;
        held = subst (λ c. HoldsBelow c quotient new) (sym (past_more (row_columns row) k))
            (held_next (past (row_columns row) k) at_place quotient value next new d.held
            (past_least (row_columns row) (row_values row) row.sparse k b)
            (λ j low high. quotient_zero k j (omega (arith, b)) low (λ _. high)) adds (e
            ∙ ap (λ x. x /ℚ by) (sym here_is)));
        fit = λ j c. up_to j (subst (λ n. j < n) (past_more (row_columns row) k) c)
            (cases_lt j (past (row_columns row) k));
      }
        where
          up_to : (j : ℕ) → j < at_place + 1
              → (j < past (row_columns row) k) ⊎ (past (row_columns row) k ≤ j)
              → fits (quotient j) ≡ true
          up_to j c (inl b) = d.fit j b
          up_to j c (inr low) =
              same_or_other (fits (quotient j) ≡ true) j at_place
              (λ q. subst (λ n. fits (quotient n) ≡ true) (sym q)
              (fits_from (quotient at_place) (subst (λ x. Fits (x /ℚ by)) (sym here_is) f)))
              (λ m. quotient_fits k j (omega (arith, b)) low (λ _. less_lem j at_place c m))
            where
              less_lem : (j a : ℕ) → j < a + 1 → ¬ (j ≡ a) → j < a
              less_lem j a p q = omega (arith, p, q)

    module _ (all : k ≡ length (row_columns row)) where
      none_after : (j : ℕ) → k < length (row_columns row) → j < slice_index (row_columns row) k
      none_after j b = absurd (omega (arith, all, b))

      by_past : (P : Type 0) (j : ℕ) → (j < past (row_columns row) k → P)
          → (past (row_columns row) k ≤ j → P) → P
      by_past P j low high = by_end (cases_lt j (past (row_columns row) k))
        where
          by_end : (j < past (row_columns row) k) ⊎ (past (row_columns row) k ≤ j) → P
          by_end (inl b) = low b
          by_end (inr b) = high b

      pub divided_fit : quotients_fit (width_of row) (number_of row) by ≡ true
      divided_fit =
          all_below_all (width_of row) (λ j. fits (quotient j))
          (λ j b. by_past (fits (quotient j) ≡ true) j (d.fit j)
          (λ low. quotient_fits k j (omega (arith, all)) low (none_after j)))

      past_few : (n : ℕ) → n ≤ length (row_columns row) → past (row_columns row) n ≤ width_of row
      past_few zero b = omega arith
      past_few (suc n) b = omega (arith, row.within n (omega (arith, b)))

      pub divided_all : IsSparseDivided by row next
      divided_all = record {
        width = d.width;
        numbers = (held_past (past (row_columns row) k) (width_of row) quotient next d.held
            (past_few k (omega (arith, all))) (λ j low high. quotient_zero k j (omega (arith, all))
            low (none_after j))).numbers;
      }
