-- Rows with their duals, one after the other.
use Rattle.std.specs.Prelude.{◌≡◌, ℕ, zero, suc, ◌+◌, ◌<◌, ◌≤◌, List, [], ◌∷◌, ◌++◌, All, length, refl}
use Rattle.std.proofs.Common.{sym, ◌∙◌, ap, ap₂, subst, arith, drop, get_or}
use Rattle.std.proofs.lemmas.List.Elements.{All-drop, All-get_or, All-head}
use Rattle.std.proofs.Math.ListN.{drop_of_length-le}
use Rattle.ratio_core.specs.Rational.{Rational}
use Rattle.map_laws.specs.LoopLaws.{next_item}
use Rattle.user_model.specs.declared.row.Row.{Row}
use Rattle.aff_core.specs.Address.{Address}
use Rattle.aff_core.specs.Function.{Function}
use Rattle.aff_core.specs.FunctionLists.{coefficients}
use Rattle.cert_core.specs.Folds.{adjoint_parts, products}
use Rattle.set_core.specs.Shapes.{dimension_of}
use Rattle.certificates.specs.Points.{functions_of}
use Rattle.cert_core.specs.Checked.{HasEachDual, HasRowDuals}
use Rattle.cert_core.specs.CountedLaws.{counted_next}
use Rattle.cert_core.specs.Holding.{HasRowSet}
use Rattle.certificates.specs.Duals.{row_with, rows_with}

pub row_count : (ys : List (List Rational)) (rows : List Row) → length ys ≡ length rows
    → length (rows_with ys rows) ≡ length rows
row_count [] [] e = refl
row_count [] (r ∷ rows) e = absurd (omega (arith, e))
row_count (y ∷ ys) [] e = absurd (omega (arith, e))
row_count (y ∷ ys) (r ∷ rows) e = ap suc (row_count ys rows (omega (arith, e)))

row_at : (ys : List (List Rational)) (rows : List Row) (i : ℕ) (y : List Rational) (r : Row)
    → length ys ≡ length rows
    → get_or (rows_with ys rows) i (row_with y r) ≡ row_with (get_or ys i y) (get_or rows i r)
row_at [] [] i y r e = refl
row_at [] (q ∷ rows) i y r e = absurd (omega (arith, e))
row_at (x ∷ ys) [] i y r e = absurd (omega (arith, e))
row_at (x ∷ ys) (q ∷ rows) zero y r e = refl
row_at (x ∷ ys) (q ∷ rows) (suc i) y r e = row_at ys rows i y r (omega (arith, e))

-- what is left begins with the row and its duals
pub next_row : (ys : List (List Rational)) (rows : List Row) (i : ℕ) (y : List Rational) (r : Row)
    → length ys ≡ length rows → y ≡ get_or ys i y → r ≡ get_or rows i r → i < length rows
    → drop i (rows_with ys rows) ≡ row_with y r ∷ drop (i + 1) (rows_with ys rows)
next_row ys rows i y r e y_is r_is lt =
    next_item (rows_with ys rows) (rows_with ys rows) i (row_with y r) refl
    (ap₂ row_with y_is r_is ∙ sym (row_at ys rows i y r e))
    (subst (λ n. i < n) (sym (row_count ys rows e)) lt)

pub rows_done : (ys : List (List Rational)) (rows : List Row) (i : ℕ) → length ys ≡ length rows
    → length rows ≤ i → drop i (rows_with ys rows) ≡ []
rows_done ys rows i e le =
    drop_of_length-le (rows_with ys rows) (subst (λ n. n ≤ i) (sym (row_count ys rows e)) le)

-- the row at a place has this number of duals, and a set for them
pub row_size : (ys : List (List Rational)) (rows : List Row) (i : ℕ) (y : List Rational) (r : Row)
    → HasRowDuals rows ys → y ≡ get_or ys i y → r ≡ get_or rows i r → i < length rows
    → length y ≡ length (functions_of r.func)
row_size ys rows i y r entries y_is r_is lt =
    All-head HasEachDual (row_with y r) (drop (i + 1) (rows_with ys rows))
    (subst (All HasEachDual) (next_row ys rows i y r entries.each y_is r_is lt)
    (All-drop HasEachDual i (rows_with ys rows) entries.components))

pub has_set_at : (rows : List Row) (i : ℕ) (r : Row) → All HasRowSet rows → r ≡ get_or rows i r
    → i < length rows → HasRowSet r
has_set_at rows i r sets r_is lt =
    subst HasRowSet (sym r_is) (All-get_or HasRowSet rows i r lt sets)

pub row_set : (rows : List Row) (i : ℕ) (r : Row) → All HasRowSet rows → r ≡ get_or rows i r
    → i < length rows → length (functions_of r.func) ≡ dimension_of r.set
row_set rows i r sets r_is lt = (has_set_at rows i r sets r_is lt).dimension

-- what is left to add to the adjoint begins with the row's parts
pub next_parts : (ys : List (List Rational)) (rows : List Row) (i : ℕ) (y : List Rational) (r : Row)
    (slice : List Rational) (fs : List Function) → length ys ≡ length rows → y ≡ get_or ys i y
    → r ≡ get_or rows i r → i < length rows → slice ≡ y → fs ≡ functions_of r.func → (v : Address)
    → adjoint_parts (drop i (rows_with ys rows)) v
    ≡ products slice (coefficients fs v) ++ adjoint_parts (drop (i + 1) (rows_with ys rows)) v
next_parts ys rows i y r slice fs e y_is r_is lt slice_is fs_is v =
    ap (λ l. adjoint_parts l v) (next_row ys rows i y r e y_is r_is lt)
    ∙ ap₂ (λ w gs. products w (coefficients gs v)
    ++ adjoint_parts (drop (i + 1) (rows_with ys rows)) v) (sym slice_is) (sym fs_is)

-- a row of those that are gone through, with its duals
pub record RowTurn (rows rest : List Row) (ys : List (List Rational)) (i : ℕ) (y : List Rational)
    (r : Row) : Type 0 where
  pub within : i < length rows
  pub row : r ≡ get_or rows i r
  pub duals : y ≡ get_or ys i y
  pub rest_is : rest ≡ drop (i + 1) rows

pub row_turn : (rows left rest : List Row) (ys : List (List Rational)) (i : ℕ)
    (y : List Rational) (r : Row) → left ≡ drop i rows → left ≡ r ∷ rest → y ≡ get_or ys i y
    → RowTurn rows rest ys i y r
row_turn rows left rest ys i y r so_far next is =
    let at = counted_next rows left i so_far rest r next in
    record {
      within = at.within;
      row = at.is;
      duals = is;
      rest_is = at.rest_is;
    }
