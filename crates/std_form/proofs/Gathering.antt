-- What the rows of the matrix are gathered from, and what they come to.
use Rattle.std.specs.Prelude.{◌≡◌, ℕ, zero, suc, ◌+◌, ◌<◌, ◌≤◌, ◌⊎◌, Bool, true, false, cond, ◌&&◌, List, [], ◌∷◌, ◌++◌, Some, IsTrue, flat_map, length, map, slice_index_or, take, unwrap_or, refl}
use Rattle.std.specs.declared.cmp.Ordering.TheVariants.{Less, Equal, Greater}
use Rattle.std.specs.Cmp.{nat_cmp_is}
use Rattle.std.specs.FinMap.{find, is_sorted}
use Rattle.std.specs.FinMap.Entries.{below_all}
use Rattle.std.specs.Ordering.{eq_by_cmp, is_lt, nat_cmp}
use Rattle.std.proofs.Common.{inl, inr, sym, ◌∙◌, ap, ap₂, arith, subst, true≢false}
use Rattle.std.proofs.lemmas.Bool.{cases_lt}
use Rattle.std.proofs.lemmas.List.{get_or-map, get_or_default, length-append, length-map, length-take-le, map-append}
use Rattle.ratio_core.specs.Rational.{Rational, neg_ℚ, one_ℚ, zero_ℚ}
use Rattle.sparse_ratios.specs.Terms.{AreTerms, number_at}
use Rattle.sparse_ratios.specs.TermLaws.{number_here, number_later}
use Rattle.sparse_lists.specs.Across.{ArePutAcross, GrowBy, IsStartOf, PlacesRise, list_at, padded}
use Rattle.sparse_lists.specs.AcrossLaws.{start_cell, start_none, start_padded}
use Rattle.sparse_lists.specs.GrowthLaws.{grow_none, grow_one, grow_same, grow_then, put_same}
use Rattle.sparse_lists.specs.JoinedLaws.{flat_map_more}
use Rattle.simplex_laws.specs.BoundedSumLaws.{delta_other, delta_same, same_or_other}
use Rattle.simplex_form.specs.BoundedSums.{delta}
use Rattle.aff_core.specs.Function.{coefficient, constant_function, terms_of, variable}
use Rattle.aff_core.specs.FunctionLaws.{coefficient-constant_function, coefficient-variable_other, coefficient-variable_same, coefficient_in, coefficient_in-terms_of}
use Rattle.aff_core.specs.KeyOrder.{other_key, same_key}
use Rattle.aff_core.specs.Rising.{RiseBy}
use Rattle.set_core.specs.declared.set.Set.{Set}
use Rattle.solver_store.specs.SolverFunction.{SolverFunction}
use Rattle.solver_store.specs.declared.leaf.LeafVar.{LeafVar}
use Rattle.solver_store.specs.declared.leaf.LeafVar.TheVariants.{Free, Nonneg}
use Rattle.tableau_core.specs.Row.{cell}
use Rattle.equality_form.specs.CellLaws.{flipped-zero}
use Rattle.equality_form.specs.Columns.{parts_among, signs, slack_at, slacks_from}
use Rattle.equality_form.specs.EqualityForm.{cells_from, numbers_at, row_cells, unit_at}
use Rattle.equality_form.specs.Equations.{flipped, is_flipped, slack_of}
use Rattle.std_form.specs.Gathered.{AreColumns, cells_at, column_of}
use Rattle.std_form.specs.Indexed.{SolverEquation}
use Rattle.std_form.specs.NameLaws.{index_order}
use Rattle.std_form.proofs.Pushes.{chunk, chunks}
use Rattle.std_form.proofs.Steps.{mapped_step, slacks_step}

-- ---- a function's terms

both : (a b : Bool) → (a && b) ≡ true → (a ≡ true) × (b ≡ true)
both true b e = (refl, e)
both false b e = absurd (true≢false (sym e))

below_lt : (x y : ℕ) → is_lt (nat_cmp x y) ≡ true → x < y
below_lt x y h = by_order (cases_lt x y)
  where
    by_order : (x < y) ⊎ (y ≤ x) → x < y
    by_order (inl b) = b
    by_order (inr b) =
        same_or_other (x < y) x y
        (λ e. absurd (true≢false (sym h ∙ ap is_lt (sym (nat_cmp_is x y Equal e)))))
        (λ n. absurd (true≢false (sym h
        ∙ ap is_lt (sym (nat_cmp_is x y Greater (omega (arith, b, n)))))))

rise_past : (x : ℕ) (ts : List (ℕ × Rational)) → below_all nat_cmp x ts ≡ true
    → is_sorted nat_cmp ts ≡ true → (to : ℕ) × (x < to) × AreTerms (x + 1) to ts
rise_past x [] h s = (x + 1, omega arith, tt)
rise_past x (t ∷ ts) h s =
    let first = both (is_lt (nat_cmp x t.0)) (below_all nat_cmp x ts) h in
    let parts = both (below_all nat_cmp t.0 ts) (is_sorted nat_cmp ts) s in
    let rest = rise_past t.0 ts parts.0 parts.1 in
    let low : x < t.0 = below_lt x t.0 first.0 in
    (rest.0, omega (arith, low, rest.1), (omega (arith, low), rest.1, rest.2))

pub terms_rise : (ts : List (ℕ × Rational)) → RiseBy nat_cmp ts → PlacesRise ts
terms_rise [] h = (0, tt)
terms_rise (t ∷ ts) h =
    let parts = both (below_all nat_cmp t.0 ts) (is_sorted nat_cmp ts) h.rising in
    let rest = rise_past t.0 ts parts.0 parts.1 in (rest.0, (omega arith, rest.1, rest.2))

pub one_rises : (v : ℕ) (x : Rational) → PlacesRise ((v, x) ∷ [])
one_rises v x = (v + 1, (omega arith, omega arith, tt))

number_is : (ts : List (ℕ × Rational)) (v : ℕ) → number_at ts v ≡ coefficient_in nat_cmp ts v
number_is [] v = refl
number_is (t ∷ ts) v =
    same_or_other (number_at (t ∷ ts) v ≡ coefficient_in nat_cmp (t ∷ ts) v) t.0 v
    (λ e. number_here t ts v e
    ∙ sym (ap (λ b. unwrap_or (cond b (Some t.1) (find nat_cmp v ts)) zero_ℚ)
    (ap (eq_by_cmp nat_cmp v) e ∙ same_key index_order v)))
    (λ n. number_later t ts v n ∙ number_is ts v
    ∙ sym (ap (λ b. unwrap_or (cond b (Some t.1) (find nat_cmp v ts)) zero_ℚ)
    (other_key index_order v t.0 (λ e. n (sym e)))))

pub number_of_terms : (f : SolverFunction) (v : ℕ) → number_at (terms_of f) v ≡ coefficient f v
number_of_terms f v = number_is (terms_of f) v ∙ coefficient_in-terms_of f v

pub number_of_variable : (var v : ℕ) (one : Rational) → one ≡ one_ℚ
    → number_at ((var, one) ∷ []) v ≡ coefficient (variable {R = nat_cmp} var) v
number_of_variable var v one is =
    same_or_other (number_at ((var, one) ∷ []) v ≡ coefficient (variable {R = nat_cmp} var) v) var v
    (λ e. number_here (var, one) [] v e ∙ is ∙ sym (coefficient-variable_same index_order var)
    ∙ ap (coefficient (variable {R = nat_cmp} var)) e)
    (λ n. number_later (var, one) [] v n
    ∙ sym (coefficient-variable_other index_order var v (λ e. n (sym e))))

pub number_of_zero : (v : ℕ) → zero_ℚ ≡ coefficient (constant_function {R = nat_cmp} zero_ℚ) v
number_of_zero v = sym (coefficient-constant_function index_order zero_ℚ v)

-- ---- columns

module _ {E : Type 0} (f : E → SolverEquation) (xs : List E) (i : ℕ) (d : E)
    (h : i < length xs) where
  pub columns_more : (flip : Bool) (before after : List (List Rational))
      → flip ≡ is_flipped (f (slice_index_or xs i d))
      → AreColumns (map f (take i xs)) before
      → ArePutAcross i (λ b. flipped flip (coefficient (f (slice_index_or xs i d)).function b))
      before after → AreColumns (map f (take (i + 1) xs)) after
  columns_more flip before after is columns put b c =
      subst (IsStartOf (list_at after b)) (grown b)
      (put.each b (column_of (map f (take i xs)) b) (omega (arith, c, put.long))
      (length-map (map f (take i xs)) (λ e. flipped (is_flipped e) (coefficient e.function b))
      ∙ length-map (take i xs) f ∙ length-take-le i xs (omega (arith, h)))
      (columns b (omega (arith, c, put.long))))
    where
      grown : (b : ℕ) → column_of (map f (take i xs)) b
          ++ flipped flip (coefficient (f (slice_index_or xs i d)).function b) ∷ []
          ≡ column_of (map f (take (i + 1) xs)) b
      grown b =
          mapped_step f xs i d h (λ e. flipped (is_flipped e) (coefficient e.function b))
          (column_of (map f (take i xs)) b)
          (column_of (map f (take i xs)) b
          ++ flipped flip (coefficient (f (slice_index_or xs i d)).function b) ∷ [])
          (flipped flip (coefficient (f (slice_index_or xs i d)).function b)) refl
          (ap (λ c. flipped c (coefficient (f (slice_index_or xs i d)).function b)) is) refl

pub columns_none : (columns : List (List Rational)) → ((b : ℕ) → list_at columns b ≡ [])
    → AreColumns [] columns
columns_none columns h b c = start_none (list_at columns b) (h b)

-- the number of an equation in an index's column
pub column_cell : (es : List SolverEquation) (columns : List (List Rational)) → AreColumns es columns
    → (b : ℕ) → b < length columns → (r : ℕ) (e : SolverEquation) → r < length es
    → cell (list_at columns b) r
    ≡ flipped (is_flipped (slice_index_or es r e)) (coefficient (slice_index_or es r e).function b)
column_cell es columns h b c r e d =
    start_cell (list_at columns b) (column_of es b) (h b c) r
    ∙ get_or-map (λ x. flipped (is_flipped x) (coefficient x.function b)) es r e zero_ℚ d

-- ---- variables

pub cells_are : (columns : List (List Rational)) (r : ℕ) (flip : Bool) (g : ℕ → Rational)
    (vars : List (ℕ × LeafVar))
    → ((k : ℕ) (d : ℕ × LeafVar) → k < length vars
    → cell (list_at columns (slice_index_or vars k d).0) r
    ≡ flipped flip (g (slice_index_or vars k d).0))
    → flat_map (cells_at columns r) vars ≡ map (flipped flip) (numbers_at (parts_among vars) g)
cells_are columns r flip g vars h = each vars h ∙ chunks flip g vars
  where
    each : (vars : List (ℕ × LeafVar)) → ((k : ℕ) (d : ℕ × LeafVar) → k < length vars
        → cell (list_at columns (slice_index_or vars k d).0) r
        ≡ flipped flip (g (slice_index_or vars k d).0))
        → flat_map (cells_at columns r) vars ≡ flat_map (chunk flip g) vars
    each [] h = refl
    each (var ∷ vars) h =
        ap₂ ◌++◌ (ap (λ q. map (λ negated. flipped negated q) (signs var.1))
        (h 0 var (omega arith)))
        (each vars (λ k d b. h (suc k) d (omega (arith, b))))

-- a variable more
pub variables_more : (columns a b c : List (List Rational)) (vars : List (ℕ × LeafVar)) (i : ℕ)
    (d : ℕ × LeafVar) → i < length vars
    → (terms : List (ℕ × Rational))
    → ((k : ℕ) → number_at terms k ≡ cell (list_at columns (slice_index_or vars i d).0) k)
    → (start mid next : ℕ) → GrowBy start mid (λ r. flat_map (cells_at columns r) (take i vars)) a b
    → GrowBy mid next
    (λ r. map (λ negated. flipped negated (number_at terms r)) (signs (slice_index_or vars i d).1)) b c
    → GrowBy start next (λ r. flat_map (cells_at columns r) (take (i + 1) vars)) a c
variables_more columns a b c vars i d inside terms same start mid next h g =
    grow_same a start next
    (λ r. flat_map (cells_at columns r) (take i vars)
    ++ map (λ negated. flipped negated (number_at terms r)) (signs (slice_index_or vars i d).1))
    (λ r. flat_map (cells_at columns r) (take (i + 1) vars)) c
    (λ r e. ap (λ q. flat_map (cells_at columns r) (take i vars)
    ++ map (λ negated. flipped negated q) (signs (slice_index_or vars i d).1)) (same r)
    ∙ sym (flat_map_more (cells_at columns r) vars i d inside))
    (grow_then a start mid next (λ r. flat_map (cells_at columns r) (take i vars))
    (λ r. map (λ negated. flipped negated (number_at terms r)) (signs (slice_index_or vars i d).1))
    b c h g)

-- indices that are all below an end
pub indices_more : (vars : List (ℕ × LeafVar)) (i end next : ℕ) (first : ℕ × LeafVar)
    → ((k : ℕ) (d : ℕ × LeafVar) → k < i → (slice_index_or vars k d).0 < end) → i < length vars
    → end ≤ next → (slice_index_or vars i first).0 < next → (k : ℕ) (d : ℕ × LeafVar) → k < i + 1
    → (slice_index_or vars k d).0 < next
indices_more vars i end next first h inside keeps past k d b =
    same_or_other ((slice_index_or vars k d).0 < next) k i
    (λ e. subst (λ x. x.0 < next)
    (get_or_default vars i first d inside ∙ (λ j. slice_index_or vars (sym e j) d)) past)
    (λ n. omega (arith, h k d (omega (arith, b, n)), keeps))

pub nonneg_grows : (a b : List (List Rational)) (place next : ℕ) (terms : List (ℕ × Rational))
    → ArePutAcross place (λ r. number_at terms r) a b → next ≡ place + 1
    → GrowBy place next (λ r. map (λ negated. flipped negated (number_at terms r)) (signs Nonneg)) a b
nonneg_grows a b place next terms put e = grow_one a place next (λ r. number_at terms r) b put e

pub free_grows : (a b c : List (List Rational)) (place mid next : ℕ) (terms : List (ℕ × Rational))
    → ArePutAcross place (λ r. number_at terms r) a b → mid ≡ place + 1
    → ArePutAcross mid (λ r. neg_ℚ (number_at terms r)) b c → next ≡ mid + 1
    → GrowBy place next (λ r. map (λ negated. flipped negated (number_at terms r)) (signs Free)) a c
free_grows a b c place mid next terms first e second f =
    grow_then a place mid next (λ r. number_at terms r ∷ []) (λ r. neg_ℚ (number_at terms r) ∷ []) b c
    (grow_one a place mid (λ r. number_at terms r) b first e)
    (grow_one b mid next (λ r. neg_ℚ (number_at terms r)) c second f)

-- ---- slacks

-- the slack of equation i
pub slack_grows : (a b : List (List Rational)) (place next i : ℕ) (negated taken : Bool)
    (x : Rational) (flip : ℕ → Bool) → flip i ≡ negated → x ≡ flipped taken one_ℚ
    → ArePutAcross place (λ r. flipped negated (number_at ((i, x) ∷ []) r)) a b → next ≡ place + 1
    → GrowBy place next (λ r. map (flipped (flip r)) (unit_at ((i, taken) ∷ []) r)) a b
slack_grows a b place next i negated taken x flip e is put f =
    grow_one a place next (λ r. flipped (flip r) (flipped taken (delta i r))) b
    (put_same place (λ r. flipped negated (number_at ((i, x) ∷ []) r))
    (λ r. flipped (flip r) (flipped taken (delta i r))) a b here put) f
  where
    here : (r : ℕ) → flipped negated (number_at ((i, x) ∷ []) r)
        ≡ flipped (flip r) (flipped taken (delta i r))
    here r =
        same_or_other (flipped negated (number_at ((i, x) ∷ []) r)
        ≡ flipped (flip r) (flipped taken (delta i r))) i r
        (λ g. ap (flipped negated) (number_here (i, x) [] r g ∙ is
        ∙ ap (flipped taken) (sym (delta_same i) ∙ ap (delta i) g))
        ∙ ap (λ c. flipped c (flipped taken (delta i r))) (sym e ∙ ap flip g))
        (λ n. ap (flipped negated) (number_later (i, x) [] r n) ∙ flipped-zero negated
        ∙ sym (ap (flipped (flip r)) (ap (flipped taken) (delta_other i r n) ∙ flipped-zero taken)
        ∙ flipped-zero (flip r)))

module _ {E : Type 0} (f : E → SolverEquation) (xs : List E) (i : ℕ) (d : E)
    (h : i < length xs) where
  pub slacks_more : (a b c : List (List Rational)) (flip : ℕ → Bool) (start mid next : ℕ)
      → GrowBy start mid
      (λ r. map (flipped (flip r)) (unit_at (slacks_from 0 (map f (take i xs))) r)) a b
      → GrowBy mid next (λ r. map (flipped (flip r))
      (unit_at (slack_at i (slack_of (f (slice_index_or xs i d)).set)) r)) b c
      → GrowBy start next
      (λ r. map (flipped (flip r)) (unit_at (slacks_from 0 (map f (take (i + 1) xs))) r)) a c
  slacks_more a b c flip start mid next g k =
      grow_same a start next
      (λ r. map (flipped (flip r)) (unit_at (slacks_from 0 (map f (take i xs))) r)
      ++ map (flipped (flip r))
      (unit_at (slack_at i (slack_of (f (slice_index_or xs i d)).set)) r))
      (λ r. map (flipped (flip r)) (unit_at (slacks_from 0 (map f (take (i + 1) xs))) r)) c
      (λ r b. sym (ap (λ ss. map (flipped (flip r)) (unit_at ss r))
      (sym (slacks_step f xs i d h (slacks_from 0 (map f (take i xs)))
      (slacks_from 0 (map f (take i xs))
      ++ slack_at i (slack_of (f (slice_index_or xs i d)).set)) refl refl))
      ∙ ap (map (flipped (flip r))) (map-append (λ slack. flipped slack.1 (delta slack.0 r))
      (slacks_from 0 (map f (take i xs)))
      (slack_at i (slack_of (f (slice_index_or xs i d)).set)))
      ∙ map-append (flipped (flip r)) (unit_at (slacks_from 0 (map f (take i xs))) r)
      (unit_at (slack_at i (slack_of (f (slice_index_or xs i d)).set)) r)))
      (grow_then a start mid next
      (λ r. map (flipped (flip r)) (unit_at (slacks_from 0 (map f (take i xs))) r))
      (λ r. map (flipped (flip r))
      (unit_at (slack_at i (slack_of (f (slice_index_or xs i d)).set)) r)) b c g k)

-- ---- the matrix

-- each row is the equation's cells, but for zeros at its end
pub joined_are : (parts : List (ℕ × Bool)) (ss : List (ℕ × Bool)) (width k : ℕ)
    (rows : List (List Rational)) (es : List SolverEquation) → length rows ≡ length es
    → ((r : ℕ) (d : SolverEquation) → r < length es
    → padded width (list_at rows r) ≡ row_cells parts ss (k + r) (slice_index_or es r d))
    → flat_map (padded width) rows ≡ cells_from parts ss k es
joined_are parts ss width k [] [] e h = refl
joined_are parts ss width k [] (x ∷ es) e h = absurd (omega (arith, e))
joined_are parts ss width k (row ∷ rows) [] e h = absurd (omega (arith, e))
joined_are parts ss width k (row ∷ rows) (x ∷ es) e h =
    ap₂ ◌++◌ (h 0 x (omega arith) ∙ ap (λ n. row_cells parts ss n x) (first_lem k))
    (joined_are parts ss width (suc k) rows es (omega (arith, e))
    (λ r d b. h (suc r) d (omega (arith, b))
    ∙ ap (λ n. row_cells parts ss n (slice_index_or es r d)) (next_lem k r)))
  where
    first_lem : (k : ℕ) → k + 0 ≡ k
    first_lem k = omega arith

    next_lem : (k r : ℕ) → k + suc r ≡ suc k + r
    next_lem k r = omega arith

pub matrix_is : (vars : List (ℕ × LeafVar)) (es : List SolverEquation)
    (columns none mid rows : List (List Rational)) (parts width : ℕ) → AreColumns es columns
    → ((k : ℕ) (d : ℕ × LeafVar) → k < length vars
    → (slice_index_or vars k d).0 < length columns)
    → ((b : ℕ) → list_at none b ≡ []) → length none ≡ length es
    → GrowBy 0 parts (λ r. flat_map (cells_at columns r) vars) none mid
    → ((flip : ℕ → Bool) → ((i : ℕ) (d : SolverEquation) → i < length es
    → flip i ≡ is_flipped (slice_index_or es i d))
    → GrowBy parts width (λ r. map (flipped (flip r)) (unit_at (slacks_from 0 es) r)) mid rows)
    → flat_map (padded width) rows ≡ cells_from (parts_among vars) (slacks_from 0 es) 0 es
matrix_is vars es columns none mid rows parts width cols indices empty long first second =
    joined_are (parts_among vars) (slacks_from 0 es) width 0 rows es rows_long row_is
  where
    flip : ℕ → Bool
    flip i = flip_of (is_flipped_at i)
      where
        is_flipped_at : ℕ → List Bool
        is_flipped_at i = map is_flipped es

        flip_of : List Bool → Bool
        flip_of bs = slice_index_or bs i false

    flip_is : (i : ℕ) (d : SolverEquation) → i < length es
        → flip i ≡ is_flipped (slice_index_or es i d)
    flip_is i d b = get_or-map is_flipped es i d false b

    slacked : GrowBy parts width (λ r. map (flipped (flip r)) (unit_at (slacks_from 0 es) r)) mid rows
    slacked = second flip flip_is

    rows_long : length rows ≡ length es
    rows_long = slacked.long ∙ first.long ∙ long

    row_is : (r : ℕ) (d : SolverEquation) → r < length es
        → padded width (list_at rows r)
        ≡ row_cells (parts_among vars) (slacks_from 0 es) (0 + r) (slice_index_or es r d)
    row_is r d b =
        sym (start_padded width (list_at rows r) (front ++ back)
        (slacked.each r front (omega (arith, b, long, first.long)) first_width
        (first.each r [] (omega (arith, b, long)) refl (start_none (list_at none r) (empty r))))
        (length-append front back ∙ ap (λ n. n + length back) (first_width)
        ∙ slacked.width r (omega (arith, b, long, first.long))))
        ∙ ap₂ ◌++◌ (cells_are columns r (is_flipped e) (coefficient e.function) vars
        (λ k v c. column_cell es columns cols (slice_index_or vars k v).0 (indices k v c) r d b))
        (ap (λ c. map (flipped c) (unit_at (slacks_from 0 es) r)) (flip_is r d b))
        ∙ sym (map-append (flipped (is_flipped e))
        (numbers_at (parts_among vars) (coefficient e.function)) (unit_at (slacks_from 0 es) r))
        ∙ ap (λ n. row_cells (parts_among vars) (slacks_from 0 es) n e) (plain_lem r)
      where
        e : SolverEquation
        e = slice_index_or es r d

        front : List Rational
        front = flat_map (cells_at columns r) vars

        back : List Rational
        back = map (flipped (flip r)) (unit_at (slacks_from 0 es) r)

        zero_lem : (n : ℕ) → n ≡ 0 + n
        zero_lem n = omega arith

        first_width : length front ≡ parts
        first_width = zero_lem (length front) ∙ first.width r (omega (arith, b, long))

        plain_lem : (r : ℕ) → r ≡ 0 + r
        plain_lem r = omega arith
