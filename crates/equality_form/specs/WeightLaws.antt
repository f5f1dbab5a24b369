-- Columns of the equality form weighed by multipliers: the multipliers of the equations as they
-- were before some were flipped weigh the coefficients, and each slack has one multiplier.
use Rattle.std.specs.Prelude.{◌≡◌, ℕ, zero, suc, ◌+◌, ◌*◌, ◌<◌, Bool, true, false, List, [], ◌∷◌, ◌++◌, Option, Some, None, All, drop, length, map, slice_index_or, refl}
use Rattle.std.proofs.Common.{sym, ◌∙◌, ap, ap₂, arith, subst}
use Rattle.std.proofs.lemmas.List.{get_or-append-add, get_or-map, get_or_append_left, length-append, length-map}
use Rattle.std.proofs.lemmas.List.Elements.{All-cons, All-nil}
use Rattle.ratio_core.specs.Rational.{Rational, zero_ℚ, ◌*ℚ◌}
use Rattle.rational_laws.specs.Dot.{dot}
use Rattle.aff_core.specs.Address.{Address}
use Rattle.aff_core.specs.Function.{coefficient, constant_function}
use Rattle.set_core.specs.declared.set.Set.TheVariants.{EqualTo}
use Rattle.simplex_form.specs.BoundedSums.{delta, sum_to}
use Rattle.simplex_laws.specs.BoundedSumLaws.{sum_to-neg_ℚ, sum_to_delta_right, sum_to_same}
use Rattle.tableau_core.specs.Row.{cell}
use Rattle.equality_form.specs.CellLaws.{*ℚ-flipped, flipped-*ℚ, sum_to_dot}
use Rattle.equality_form.specs.Columns.{slack_at, slacks_from}
use Rattle.equality_form.specs.EqualityForm.{cells_from, numbers_at, right_sides, row_cells, unit_at}
use Rattle.equality_form.specs.Equations.{Equation, flipped, is_flipped, right_of, slack_of}
use Rattle.equality_form.specs.ReadBack.{unflipped}
use Rattle.equality_form.specs.RowLaws.{cell_at, from_none, right_at}

no_equation : Equation
no_equation = record { function = constant_function zero_ℚ; set = EqualTo zero_ℚ }

-- ---- multipliers

pub length-unflipped : (es : List Equation) (y : List Rational)
    → length (unflipped (map is_flipped es) y) ≡ length es
length-unflipped [] y = refl
length-unflipped (e ∷ es) y = ap suc (length-unflipped es (drop 1 y))

after_first : (y : List Rational) (i : ℕ) → cell (drop 1 y) i ≡ cell y (suc i)
after_first [] i = refl
after_first (q ∷ y) i = refl

cell_unflipped : (es : List Equation) (y : List Rational) (i : ℕ) (d : Equation) → i < length es
    → cell (unflipped (map is_flipped es) y) i
    ≡ flipped (is_flipped (slice_index_or es i d)) (cell y i)
cell_unflipped [] y i d h = absurd (omega (arith, h))
cell_unflipped (e ∷ es) y zero d h = refl
cell_unflipped (e ∷ es) y (suc i) d h =
    cell_unflipped es (drop 1 y) i d (omega (arith, h))
    ∙ ap (flipped (is_flipped (slice_index_or es i d))) (after_first y i)

-- a column whose cells are flipped with their equations
weighed : (es : List Equation) (y : List Rational) (g h : ℕ → Rational)
    → ((i : ℕ) → i < length es → g i ≡ flipped (is_flipped (slice_index_or es i no_equation)) (h i))
    → sum_to (length es) (λ i. cell y i *ℚ g i)
    ≡ sum_to (length es) (λ i. cell (unflipped (map is_flipped es) y) i *ℚ h i)
weighed es y g h e =
    sum_to_same (length es) (λ i. cell y i *ℚ g i)
    (λ i. cell (unflipped (map is_flipped es) y) i *ℚ h i)
    (λ i b. ap (λ q. cell y i *ℚ q) (e i b)
    ∙ *ℚ-flipped (is_flipped (slice_index_or es i no_equation)) (cell y i) (h i)
    ∙ flipped-*ℚ (is_flipped (slice_index_or es i no_equation)) (cell y i) (h i)
    ∙ ap (λ q. q *ℚ h i) (sym (cell_unflipped es y i no_equation b)))

-- the sum over the equations
over_equations : (es : List Equation) (w : List Rational) (h : Equation → Rational)
    → length w ≡ length es
    → sum_to (length es) (λ i. cell w i *ℚ h (slice_index_or es i no_equation)) ≡ dot w (map h es)
over_equations es w h n =
    sum_to_same (length es) (λ i. cell w i *ℚ h (slice_index_or es i no_equation))
    (λ i. cell w i
    *ℚ cell (map h es) i) (λ i b. ap (λ q. cell w i *ℚ q)
    (sym (get_or-map h es i no_equation zero_ℚ b)))
    ∙ subst (λ m. sum_to m (λ i. cell w i *ℚ cell (map h es) i) ≡ dot w (map h es))
    (length-map es h) (sum_to_dot w (map h es) (n ∙ sym (length-map es h)))

pub weighed_rights : (es : List Equation) (y : List Rational)
    → sum_to (length es) (λ i. cell y i *ℚ cell (right_sides es) i)
    ≡ dot (unflipped (map is_flipped es) y) (map right_of es)
weighed_rights es y =
    weighed es y (cell (right_sides es)) (λ i. right_of (slice_index_or es i no_equation))
    (λ i b. right_at es i no_equation b)
    ∙ over_equations es (unflipped (map is_flipped es) y) right_of (length-unflipped es y)

flipped_sum : (b : Bool) (n : ℕ) (g : ℕ → Rational)
    → sum_to n (λ i. flipped b (g i)) ≡ flipped b (sum_to n g)
flipped_sum true n g = sum_to-neg_ℚ n g
flipped_sum false n g = refl

out : (b : Bool) (n : ℕ) (w : ℕ → Rational) (g : ℕ → Rational)
    → sum_to n (λ i. w i *ℚ flipped b (g i)) ≡ flipped b (sum_to n (λ i. w i *ℚ g i))
out b n w g = sum_to_same n (λ i. w i *ℚ flipped b (g i)) (λ i. flipped b (w i *ℚ g i))
    (λ i k. *ℚ-flipped b (w i) (g i)) ∙ flipped_sum b n (λ i. w i *ℚ g i)

module _ (parts : List (Address × Bool)) (slacks : List (ℕ × Bool)) (es : List Equation)
    (y : List Rational) where
  abbrev pub column_weighed : ℕ → Rational
  column_weighed j = sum_to (length es) (λ i. cell y i
      *ℚ cell (cells_from parts slacks 0 es) (i * (length parts + length slacks) + j))

  cell_in : (i j : ℕ) → i < length es → j < length parts + length slacks
      → cell (cells_from parts slacks 0 es) (i * (length parts + length slacks) + j)
      ≡ flipped (is_flipped (slice_index_or es i no_equation))
      (cell (numbers_at parts (coefficient (slice_index_or es i no_equation).function)
      ++ unit_at slacks i) j)
  cell_in i j h b =
      cell_at parts slacks es 0 i j no_equation h b
      ∙ ap (λ n. cell (row_cells parts slacks n (slice_index_or es i no_equation)) j) (from_none i)
      ∙ get_or-map (flipped (is_flipped (slice_index_or es i no_equation)))
      (numbers_at parts (coefficient (slice_index_or es i no_equation).function)
      ++ unit_at slacks i) j zero_ℚ zero_ℚ
      (subst (λ n. j < n) (sym (row_lem i)) b)
    where
      row_lem : (i : ℕ)
          → length (numbers_at parts (coefficient (slice_index_or es i no_equation).function)
          ++ unit_at slacks i) ≡ length parts + length slacks
      row_lem i =
          length-append (numbers_at parts (coefficient (slice_index_or es i no_equation).function))
          (unit_at slacks i)
          ∙ ap₂ ◌+◌ (length-map parts (λ part. flipped part.1
          (coefficient (slice_index_or es i no_equation).function part.0)))
          (length-map slacks (λ slack. flipped slack.1 (delta slack.0 i)))

  -- the column of a variable
  pub part_weighed : (j : ℕ) (d : Address × Bool) → j < length parts
      → column_weighed j
      ≡ flipped (slice_index_or parts j d).1 (dot (unflipped (map is_flipped es) y)
      (map (λ e. coefficient e.function (slice_index_or parts j d).0) es))
  part_weighed j d h =
      weighed es y (λ i. cell (cells_from parts slacks 0 es)
      (i * (length parts + length slacks) + j)) (λ i. flipped (slice_index_or parts j d).1
      (coefficient (slice_index_or es i no_equation).function (slice_index_or parts j d).0))
      (λ i b. cell_in i j b (omega (arith, h))
      ∙ ap (flipped (is_flipped (slice_index_or es i no_equation))) (number_in i))
      ∙ out (slice_index_or parts j d).1 (length es) (cell (unflipped (map is_flipped es) y))
      (λ i. coefficient (slice_index_or es i no_equation).function (slice_index_or parts j d).0)
      ∙ ap (flipped (slice_index_or parts j d).1) (over_equations es
      (unflipped (map is_flipped es) y) (λ e. coefficient e.function
      (slice_index_or parts j d).0) (length-unflipped es y))
    where
      number_in : (i : ℕ)
          → cell (numbers_at parts (coefficient (slice_index_or es i no_equation).function)
          ++ unit_at slacks i) j
          ≡ flipped (slice_index_or parts j d).1 (coefficient
          (slice_index_or es i no_equation).function (slice_index_or parts j d).0)
      number_in i =
          get_or_append_left (numbers_at parts (coefficient
          (slice_index_or es i no_equation).function)) (unit_at slacks i) zero_ℚ j
          (subst (λ n. j
          < n) (sym (length-map parts (λ part. flipped part.1
          (coefficient (slice_index_or es i no_equation).function part.0)))) h)
          ∙ get_or-map (λ part. flipped part.1 (coefficient
          (slice_index_or es i no_equation).function part.0)) parts j d zero_ℚ h

  -- the column of a slack
  pub slack_weighed : (j : ℕ) (d : ℕ × Bool) → j < length slacks
      → (slice_index_or slacks j d).0 < length es
      → column_weighed (length parts + j)
      ≡ flipped (slice_index_or slacks j d).1 (cell (unflipped (map is_flipped es) y)
      (slice_index_or slacks j d).0)
  slack_weighed j d h k =
      weighed es y (λ i. cell (cells_from parts slacks 0 es)
      (i * (length parts + length slacks) + (length parts + j)))
      (λ i. flipped (slice_index_or slacks j d).1 (delta (slice_index_or slacks j d).0 i))
      (λ i b. cell_in i (length parts + j) b (omega (arith, h))
      ∙ ap (flipped (is_flipped (slice_index_or es i no_equation))) (unit_in i))
      ∙ out (slice_index_or slacks j d).1 (length es) (cell (unflipped (map is_flipped es) y))
      (delta (slice_index_or slacks j d).0)
      ∙ ap (flipped (slice_index_or slacks j d).1) (sum_to_delta_right (length es)
      (slice_index_or slacks j d).0 (cell (unflipped (map is_flipped es) y)) k)
    where
      unit_in : (i : ℕ)
          → cell (numbers_at parts (coefficient (slice_index_or es i no_equation).function)
          ++ unit_at slacks i) (length parts + j)
          ≡ flipped (slice_index_or slacks j d).1 (delta (slice_index_or slacks j d).0 i)
      unit_in i =
          ap (λ n. cell (numbers_at parts (coefficient (slice_index_or es i no_equation).function)
          ++ unit_at slacks i) (n
          + j)) (sym (length-map parts (λ part. flipped part.1
          (coefficient (slice_index_or es i no_equation).function part.0))))
          ∙ get_or-append-add (numbers_at parts (coefficient
          (slice_index_or es i no_equation).function)) (unit_at slacks i) j zero_ℚ
          ∙ get_or-map (λ slack. flipped slack.1 (delta slack.0 i)) slacks j d zero_ℚ h

-- ---- slacks and their equations

abbrev pub IsSlackBelow : ℕ → ℕ × Bool → Type 0
IsSlackBelow n slack = slack.0 < n

pub slacks_within : (es : List Equation) (k n : ℕ) → k + length es ≡ n
    → All (IsSlackBelow n) (slacks_from k es)
slacks_within [] k n e = All-nil (IsSlackBelow n)
slacks_within (e ∷ es) k n h =
    by_slack (slack_of e.set) (slacks_within es (suc k) n (omega (arith, h)))
  where
    by_slack : (o : Option Bool) → All (IsSlackBelow n) (slacks_from (suc k) es)
        → All (IsSlackBelow n) (slack_at k o ++ slacks_from (suc k) es)
    by_slack None rest = rest
    by_slack (Some b) rest =
        All-cons (IsSlackBelow n) (k, b) (slacks_from (suc k) es) (omega (arith, h)) rest
