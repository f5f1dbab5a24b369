-- A row that is searched, and one that gets a number more.
use Rattle.std.specs.Prelude.{◌≡◌, ℕ, ◌+◌, ◌<◌, ◌≤◌, true, List, [], ◌∷◌, ◌++◌, length, slice_index, slice_index_or, take, ◌⊎◌, Option, Some, None, IfSome, Result, Ok, Err, OnOk, vec_len, refl}
use Rattle.std.proofs.Common.{sym, ◌∙◌, ap, arith, subst, inl, inr}
use Rattle.std.proofs.lemmas.Bool.{cases_lt}
use Rattle.std.proofs.lemmas.List.{get_or-map, length-map, map-append, take-map}
use Rattle.std.specs.List.Sorted.{IsBinarySearchResult, IsNonDecreasingBy, IsSearchInRange}
use Rattle.std.specs.Ordering.{nat_cmp, ordering_index}
use Rattle.std.specs.declared.cmp.Ordering.TheVariants.{Less, Equal, Greater}
use Rattle.ratio_core.specs.Rational.{Fits, Rational, zero_ℚ}
use Rattle.rational_laws.specs.Fitting.{Fits_zero}
use Rattle.simplex_form.specs.Fit.{lowered_fits}
use Rattle.simplex_laws.specs.BoundedSumLaws.{same_or_other}
use Rattle.simplex_laws.specs.SearchLaws.{all_below_all}
use Rattle.tableau_core.specs.LoweringLaws.{lowered_fits-zero, zero-step}
use Rattle.tableau_core.specs.Row.{cell}
use Rattle.sparse_board.specs.declared.sparse_row.SparseRow.{SparseRow}
use Rattle.sparse_board.specs.declared.entry.Entry.{Entry}
use Rattle.sparse_board.specs.Sparse.{AreColumnsBelow, AreColumnsSplit, AreUnits, IsSparse, columns_in, number_among, number_in, values_in}
use Rattle.sparse_board.specs.Numbers.{AppendsNumber, number_of, row_columns, row_values, width_of}
use Rattle.tableau_core.specs.BoardNumbers.{differences_fit}
use Rattle.sparse_board.proofs.NumberLemmas.{below_added, below_taken, number_added, number_at_place, number_fits, number_kept, number_missing, number_past, number_taken, sparse_added, sparse_taken, within_added}
use Rattle.sparse_board.proofs.HeldLemmas.{below_less}

pub sparse_none : (columns : List ℕ) (values : List Rational) → columns ≡ [] → values ≡ []
    → IsSparse columns values
sparse_none columns values e f = record {
  long = ap length f ∙ sym (ap length e);
  rising = λ i k b c. absurd (omega (arith, subst (λ l. k < length l) e c));
  others = λ k b. absurd (omega (arith, subst (λ l. k < length l) e b));
  fit = λ j. subst (λ l. Fits (cell l j)) (sym f) Fits_zero;
}

pub columns_long : (row : SparseRow) → length (row_columns row) ≡ length row.entries.items
columns_long row = length-map row.entries.items (λ (x : Entry). x.column)

pub below_none : (w : ℕ) (columns : List ℕ) → columns ≡ [] → AreColumnsBelow w columns
below_none w columns e k b = absurd (omega (arith, subst (λ l. k < length l) e b))

pub column_of : (entries : List Entry) (k : ℕ) (item : Entry) → k < length entries
    → item ≡ slice_index_or entries k item → item.column ≡ slice_index (columns_in entries) k
column_of entries k item b e =
    ap (λ (x : Entry). x.column) e ∙ sym (get_or-map (λ (x : Entry). x.column) entries k item 0 b)

pub value_of : (entries : List Entry) (k : ℕ) (item : Entry) → k < length entries
    → item ≡ slice_index_or entries k item → item.value ≡ cell (values_in entries) k
value_of entries k item b e =
    ap (λ (x : Entry). x.value) e ∙ sym (get_or-map (λ (x : Entry). x.value) entries k
    item zero_ℚ b)

no_entry : Entry
no_entry = record { column = 0; value = zero_ℚ }

-- a search among the entries is one among their columns
pub searched_in : (entries : List Entry) (column : ℕ) (r : Result ℕ ℕ)
    → IsSearchInRange r (length entries)
    → IsBinarySearchResult (λ (e : Entry). nat_cmp e.column column) entries r
    → IsBinarySearchResult (λ c. nat_cmp c column) (columns_in entries) r
searched_in entries column (Ok i) b h =
    λ d. subst (λ c. nat_cmp c column ≡ Equal) (sym (at_lem i d b)) (h no_entry)
  where
    at_lem : (k d : ℕ) → k < length entries → slice_index_or (columns_in entries) k d
        ≡ (slice_index_or entries k no_entry).column
    at_lem k d c = get_or-map (λ (x : Entry). x.column) entries k no_entry d c
searched_in entries column (Err i) b h = λ up.
    let parted = h (rising_lem up) in
    let few : i ≤ length entries = b in (
      λ k d low high. subst (λ c. nat_cmp c column ≡ Less)
          (sym (at_lem k d (omega (arith, high, few)))) (parted.0 k no_entry low high),
      λ k d low high. subst (λ c. nat_cmp c column ≡ Greater) (sym (at_lem k d (long_lem k high)))
          (parted.1 k no_entry low (long_lem k high)),
    )
  where
    at_lem : (k d : ℕ) → k < length entries → slice_index_or (columns_in entries) k d
        ≡ (slice_index_or entries k no_entry).column
    at_lem k d c = get_or-map (λ (x : Entry). x.column) entries k no_entry d c

    long_lem : (k : ℕ) → k < length (columns_in entries) → k < length entries
    long_lem k c = subst (λ n. k < n) (length-map entries (λ (x : Entry). x.column)) c

    rising_lem : IsNonDecreasingBy (λ c. ordering_index (nat_cmp c column)) (columns_in entries)
        → IsNonDecreasingBy (λ (e : Entry). ordering_index (nat_cmp e.column column)) entries
    rising_lem up k l d low c =
        subst (λ x. ordering_index (nat_cmp x column) ≤ ordering_index
        (nat_cmp (slice_index_or entries l d).column column))
        (get_or-map (λ (x : Entry). x.column) entries k d 0 (omega (arith, low, c)))
        (subst (λ x. ordering_index (nat_cmp (slice_index_or (columns_in entries) k 0) column)
        ≤ ordering_index (nat_cmp x column)) (get_or-map (λ (x : Entry). x.column)
        entries l d 0 c)
        (up k l 0 low (subst (λ n. l < n) (sym (length-map entries (λ (x : Entry). x.column))) c)))

module _ (row : SparseRow) where
  abbrev columns : List ℕ
  columns = row_columns row

  pub not_falling : (i j : ℕ) → i ≤ j → j < length columns
      → slice_index columns i ≤ slice_index columns j
  not_falling i j b c =
      same_or_other (slice_index columns i ≤ slice_index columns j) i j
      (λ e. subst (λ k. slice_index columns i ≤ slice_index columns k) e (omega arith))
      (λ m. less_lem (slice_index columns i) (slice_index columns j)
      (row.sparse.rising i j (omega (arith, b, m)) c))
    where
      less_lem : (x y : ℕ) → x < y → x ≤ y
      less_lem x y h = omega (arith, h)

  pub value_is : (k : ℕ) (item : Entry) → k < length columns
      → item ≡ slice_index_or row.entries.items k item → item.value ≡ cell (row_values row) k
  value_is k item b e =
      value_of row.entries.items k item (subst (λ n. k < n) (columns_long row) b) e

  pub number_found : (k column : ℕ) (item : Entry) → k < length columns
      → slice_index columns k ≡ column → item ≡ slice_index_or row.entries.items k item
      → item.value ≡ number_of row column
  number_found k column item b at is =
      value_is k item b is ∙ sym (number_at_place columns (row_values row) row.sparse k column b at)

  pub number_not_found : (k column : ℕ) (item : Rational)
      → ((i : ℕ) → i < k → slice_index columns i < column)
      → ((i : ℕ) → k ≤ i → i < length columns → column < slice_index columns i) → item ≡ zero_ℚ
      → item ≡ number_of row column
  number_not_found k column item before after e =
      e ∙ sym (number_missing columns (row_values row) column (λ i b at. by_side i b at))
    where
      by_side : (i : ℕ) → i < length columns → slice_index columns i ≡ column → ⊥
      by_side i b at =
          below_or_past i k (λ c. lower_lem (slice_index columns i) column (before i c) at)
          (λ c. higher_lem (slice_index columns i) column (after i c b) at)
        where
          lower_lem : (x y : ℕ) → x < y → x ≡ y → ⊥
          lower_lem x y p q = absurd (omega (arith, p, q))

          higher_lem : (x y : ℕ) → y < x → x ≡ y → ⊥
          higher_lem x y p q = absurd (omega (arith, p, q))

          below_or_past : (i k : ℕ) → (i < k → ⊥) → (k ≤ i → ⊥) → ⊥
          below_or_past i k p q = by_end (cases_lt i k)
            where
              by_end : (i < k) ⊎ (k ≤ i) → ⊥
              by_end (inl c) = p c
              by_end (inr c) = q c

  pub split_found : (k column : ℕ) → k < length columns → slice_index columns k ≡ column
      → AreColumnsSplit column k columns
  split_found k column b at = record {
    within = omega (arith, b);
    before = λ i c. subst (λ x. slice_index columns i < x) at (row.sparse.rising i k c b);
    after = λ i c d. subst (λ x. x ≤ slice_index columns i) at (not_falling k i c d);
  }

  pub split_not_found : (k column : ℕ) → k ≤ length columns
      → ((i : ℕ) → i < k → slice_index columns i < column)
      → ((i : ℕ) → k ≤ i → i < length columns → column < slice_index columns i)
      → AreColumnsSplit column k columns
  split_not_found k column b before after = record {
    within = b;
    before = before;
    after = λ i c d. omega (arith, after i c d);
  }

  -- the first n entries, where the n-th column is the first from w on
  module _ (w n : ℕ) (split : AreColumnsSplit w n columns) (entries : List Entry)
      (e : entries ≡ row.entries.items) where
    taken_columns : columns_in (take n entries) ≡ take n columns
    taken_columns =
        sym (take-map (λ (x : Entry). x.column) n entries) ∙ ap (λ l. take n (columns_in l)) e

    taken_values : values_in (take n entries) ≡ take n (row_values row)
    taken_values =
        sym (take-map (λ (x : Entry). x.value) n entries) ∙ ap (λ l. take n (values_in l)) e

    pub taken_units : AreUnits w (take n entries)
    taken_units = record {
      sparse = subst (λ l. IsSparse l (values_in (take n entries))) (sym taken_columns)
          (subst (IsSparse (take n columns)) (sym taken_values)
          (sparse_taken columns (row_values row) row.sparse w n split));
      within = subst (AreColumnsBelow w) (sym taken_columns)
          (below_taken columns (row_values row) row.sparse w n split);
    }

    pub taken_numbers : (j : ℕ) → j < w → number_among (take n entries) j ≡ number_of row j
    taken_numbers j b =
        (λ i. number_in (taken_columns i) (taken_values i) j)
        ∙ number_taken columns (row_values row) row.sparse w n split j b

pub row_units : (row : SparseRow) (w : ℕ) (entries : List Entry) → entries ≡ row.entries.items
    → width_of row ≡ w → AreUnits w entries
row_units row w entries e wide =
    subst (AreUnits w) (sym e) (record {
      sparse = row.sparse;
      within = subst (λ n. AreColumnsBelow n (row_columns row)) wide row.within;
    })

-- ---- a number more

pub pushed_columns : (entries new : List Entry) (entry : Entry) → new ≡ entries ++ entry ∷ []
    → columns_in new ≡ columns_in entries ++ entry.column ∷ []
pushed_columns entries new entry e =
    ap columns_in e ∙ map-append (λ (x : Entry). x.column) entries (entry ∷ [])

pub pushed_values : (entries new : List Entry) (entry : Entry) → new ≡ entries ++ entry ∷ []
    → values_in new ≡ values_in entries ++ entry.value ∷ []
pushed_values entries new entry e =
    ap values_in e ∙ map-append (λ (x : Entry). x.value) entries (entry ∷ [])

module _ (old : SparseRow) (column : ℕ) (value : Rational)
    (above : AreColumnsBelow column (row_columns old)) where
  pub pushed_sparse : (columns : List ℕ) (values : List Rational)
      → columns ≡ row_columns old ++ column ∷ [] → values ≡ row_values old ++ value ∷ []
      → ¬ (value ≡ zero_ℚ) → Fits value → IsSparse columns values
  pushed_sparse columns values c v other fits =
      subst (λ l. IsSparse l values) (sym c) (subst (IsSparse (row_columns old ++ column ∷ []))
      (sym v) (sparse_added (row_columns old) (row_values old) column value old.sparse.long
      old.sparse above other fits))

  pub pushed_within : (columns : List ℕ) (w : ℕ) → columns ≡ row_columns old ++ column ∷ []
      → width_of old ≡ w → column < w → AreColumnsBelow w columns
  pushed_within columns w c e b =
      subst (AreColumnsBelow w) (sym c) (within_added (row_columns old) (row_values old) column value
      old.sparse.long w (subst (λ n. AreColumnsBelow n (row_columns old)) e old.within) b)

  pub pushed_adds : (new : SparseRow) → row_columns new ≡ row_columns old ++ column ∷ []
      → row_values new ≡ row_values old ++ value ∷ [] → width_of new ≡ width_of old
      → AppendsNumber column value old new
  pushed_adds new c v w = record {
    width = w;
    below = subst (AreColumnsBelow (column + 1)) (sym c) (below_added (row_columns old) (row_values old)
        column value old.sparse.long above);
    here = numbers_are column ∙ number_added (row_columns old) (row_values old) column value
        old.sparse.long;
    elsewhere = λ j m. numbers_are j ∙ number_kept (row_columns old) (row_values old) column value
        old.sparse.long j m;
  }
    where
      numbers_are : (j : ℕ) → number_of new j ≡ number_in (row_columns old ++ column ∷ [])
          (row_values old ++ value ∷ []) j
      numbers_are j = λ i. number_in (c i) (v i) j

  pub zero_adds : value ≡ zero_ℚ → AppendsNumber column value old old
  zero_adds e = record {
    width = refl;
    below = below_less column (column + 1) (row_columns old) above (omega arith);
    here = number_past (row_columns old) (row_values old) column column above (omega arith) ∙ sym e;
    elsewhere = λ j m. refl;
  }

-- ---- a row whose entry is 0

pub zero_row_fits : (row : SparseRow) (w : ℕ) (by : Rational) (units : ℕ → Rational) → by ≡ zero_ℚ
    → differences_fit w (number_of row) by units ≡ true
zero_row_fits row w by units z =
    all_below_all w (λ j. lowered_fits (number_of row j) by (units j))
    (λ j b. lowered_fits-zero (number_of row j) by (units j) (zero-step by (units j) z)
    (number_fits (row_columns row) (row_values row) row.sparse.fit j))

-- ---- what a vector's length and its items are

pub row_place : (row : SparseRow) (n k : ℕ) → n ≡ vec_len row.entries → k < n
    → k < length (row_columns row)
row_place row n k e b = omega (arith, e, b, row.entries.ok.0, columns_long row)

pub row_end : (row : SparseRow) (n k : ℕ) → n ≡ vec_len row.entries → k ≤ n → n ≤ k
    → k ≡ length (row_columns row)
row_end row n k e b c = omega (arith, e, b, c, row.entries.ok.0, columns_long row)

pub column_is : (row : SparseRow) (k : ℕ) (item : Entry) → k < length (row_columns row)
    → item ≡ slice_index_or row.entries.items k item → item.column ≡ slice_index (row_columns row) k
column_is row k item b e =
    column_of row.entries.items k item (subst (λ n. k < n) (columns_long row) b) e

pub on_ok : {T E : Type 0} (r : Result T E) (P : Type 0) → P → OnOk r P
on_ok (Ok x) P p = p
on_ok (Err e) P p = tt

pub on_ok_then : {T E : Type 0} (r : Result T E) (P Q : Type 0) → (P → Q) → OnOk r P → OnOk r Q
on_ok_then (Ok x) P Q f p = f p
on_ok_then (Err e) P Q f p = tt

pub if_some_then : (o : Option ℕ) (P Q : ℕ → Type 0) → ((j : ℕ) → P j → Q j)
    → IfSome o P → IfSome o Q
if_some_then None P Q f p = tt
if_some_then (Some j) P Q f p = f j p
