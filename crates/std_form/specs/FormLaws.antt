-- The form of a solver's model by index is the equality form of the leaf model that is read through
-- its map.
use Rattle.std.specs.Prelude.{◌≡◌, ℕ, suc, ◌+◌, Bool, List, [], ◌∷◌, ◌++◌, All, IsSome, Option, Some, None, flat_map, length, map, refl}
use Rattle.std.specs.Prelude as prelude
use Rattle.std.specs.FinMap as finite
use Rattle.std.specs.FinMap.Entries.{put}
use Rattle.std.specs.Option.{option_map_or}
use Rattle.std.specs.Ordering.{nat_cmp}
use Rattle.std.proofs.Common.{sym, ◌∙◌, ap, ap₂, is_lt, subst}
use Rattle.std.proofs.lemmas.List.{length-map, map-append}
use Rattle.std.proofs.lemmas.List.Elements.{All-append, All-head, All-nil, All-tail, All-weaker}
use Rattle.std.proofs.lemmas.Simd.{map-map}
use Rattle.ratio_core.specs.Rational.{Rational, neg_ℚ, rational_cmp, zero_ℚ, ◌-ℚ◌}
use Rattle.address_map.specs.AddressMap.{AddressMap}
use Rattle.address_map.specs.Places.{AreIndicesOneToOne, Indices}
use Rattle.aff_core.specs.Address.{Address, address_cmp, address_total}
use Rattle.aff_core.specs.Function.{Function, coefficient, negated, terms_of, variable}
use Rattle.aff_core.specs.FunctionLaws.{coefficient-constant_function, coefficient-negated}
use Rattle.aff_core.specs.KeyOrder.{address_order}
use Rattle.aff_core.specs.declared.sense.Sense.TheVariants.{Min, Max}
use Rattle.equality_form.specs.Columns.{parts_among, slack_at, slacks_from}
use Rattle.equality_form.specs.EqualityForm.{cells_from, cost_among, form_from, form_of_leaves, numbers_at, right_sides, unit_at}
use Rattle.equality_form.specs.Equations as address
use Rattle.equality_form.specs.Equations.{Equation, equations, equations_among, flipped, is_flipped, number_of, right_of, slack_of}
use Rattle.leaf_model.specs.ReadThrough.{address_in, named, read_objective, read_row, read_through}
use Rattle.map_laws.specs.MadeLaws.{entries_empty}
use Rattle.solver_store.specs.SolverFunction.{SolverFunction}
use Rattle.solver_store.specs.SolverModel.{Leaves}
use Rattle.solver_store.specs.declared.leaf.LeafObjective.{LeafObjective}
use Rattle.solver_store.specs.declared.leaf.LeafObjective.TheVariants as objective
use Rattle.solver_store.specs.declared.leaf.LeafRow.{LeafRow}
use Rattle.solver_store.specs.declared.leaf.LeafRow.TheVariants as row
use Rattle.solver_store.specs.declared.leaf.LeafVar.{LeafVar}
use Rattle.solver_store.specs.declared.leaf.LeafVar.TheVariants.{Free, Nonneg}
use Rattle.std_form.specs.Indexed.{SolverEquation, cost_in, equations_in, equations_of, form_of, objective_in}
use Rattle.std_form.specs.NameLaws.{IsTermIndexNamed, NamesNamed, coefficient_named, constant_named, index_order, variable_named}
use Rattle.std_form.specs.Readable.{IsReadable, NamesUsed}
use Rattle.std_form.specs.ThroughLaws.{HasItsIndex, each_index, entries_through, leaves_at_is, leaves_with}

-- ---- variables

abbrev Variables : Type 0
Variables = List (Address × (ℕ × LeafVar))

abbrev by_addresses : Variables → List (Address × LeafVar)
by_addresses L = map (λ l. (l.0, l.1.1)) L

abbrev by_indices : Variables → List (ℕ × LeafVar)
by_indices L = map (λ l. l.1) L

numbers_same : (L : Variables) (f : Address → Rational) (g : ℕ → Rational)
    → All (λ l. f l.0 ≡ g l.1.0) L
    → numbers_at (parts_among (by_addresses L)) f ≡ numbers_at (parts_among (by_indices L)) g
numbers_same [] f g h = refl
numbers_same ((a, (i, Free)) ∷ L) f g h =
    ap₂ (λ q qs. q ∷ neg_ℚ q ∷ qs) (All-head (λ l. f l.0 ≡ g l.1.0) (a, (i, Free)) L h)
    (numbers_same L f g (All-tail (λ l. f l.0 ≡ g l.1.0) (a, (i, Free)) L h))
numbers_same ((a, (i, Nonneg)) ∷ L) f g h =
    ap₂ (λ q qs. q ∷ qs) (All-head (λ l. f l.0 ≡ g l.1.0) (a, (i, Nonneg)) L h)
    (numbers_same L f g (All-tail (λ l. f l.0 ≡ g l.1.0) (a, (i, Nonneg)) L h))

length_same : (L : Variables)
    → length (parts_among (by_addresses L)) ≡ length (parts_among (by_indices L))
length_same [] = refl
length_same ((a, (i, Free)) ∷ L) = ap (λ n. suc (suc n)) (length_same L)
length_same ((a, (i, Nonneg)) ∷ L) = ap suc (length_same L)

-- ---- equations

module _ (indices : Indices) where
  abbrev pub named_equation : SolverEquation → Equation
  named_equation e = record { function = named indices e.function; set = e.set }

  equations_of_row : (r : LeafRow)
      → address.equations_of (read_row indices r) ≡ map named_equation (equations_in r)
  equations_of_row (row.Plain var set) =
      ap (λ f. record { function = f; set = set } ∷ []) (sym (variable_named indices var))
  equations_of_row (row.Affine func set) = refl
  equations_of_row (row.AffineVec func set) =
      map-map (λ f. record { function = f; set = set }) (named indices) func
      ∙ sym (map-map named_equation (λ f. record { function = f; set = set }) func)

  equations_of_rows : (L : List (Address × (ℕ × LeafRow)))
      → equations_among (map (λ l. (l.0, read_row indices l.1.1)) L)
      ≡ map named_equation (flat_map (λ r. equations_in r.1) (map (λ l. l.1) L))
  equations_of_rows [] = refl
  equations_of_rows (l ∷ L) =
      ap₂ ◌++◌ (equations_of_row l.1.1) (equations_of_rows L)
      ∙ sym (map-append named_equation (equations_in l.1.1)
      (flat_map (λ r. equations_in r.1) (map (λ l. l.1) L)))

  right_named : (e : SolverEquation) → right_of (named_equation e) ≡ right_of e
  right_named e = ap (λ k. number_of e.set -ℚ k) (constant_named indices e.function)

  flip_named : (e : SolverEquation) → is_flipped (named_equation e) ≡ is_flipped e
  flip_named e = ap (λ q. is_lt (rational_cmp q zero_ℚ)) (right_named e)

  slacks_named : (k : ℕ) (es : List SolverEquation)
      → slacks_from k (map named_equation es) ≡ slacks_from k es
  slacks_named k [] = refl
  slacks_named k (e ∷ es) = ap (λ ss. slack_at k (slack_of e.set) ++ ss) (slacks_named (suc k) es)

  rights_named : (es : List SolverEquation) → right_sides (map named_equation es) ≡ right_sides es
  rights_named [] = refl
  rights_named (e ∷ es) = ap₂ ◌∷◌ (ap₂ flipped (flip_named e) (right_named e)) (rights_named es)

  pub flips_named : (es : List SolverEquation)
      → map is_flipped (map named_equation es) ≡ map is_flipped es
  flips_named [] = refl
  flips_named (e ∷ es) = ap₂ ◌∷◌ (flip_named e) (flips_named es)

  module _ (one : AreIndicesOneToOne indices) (L : Variables)
      (found : All (λ l. finite.get indices l.0 ≡ Some l.1.0) L) where
    coefficients_same : (f : SolverFunction) → NamesNamed indices f
        → All (λ l. coefficient (named indices f) l.0 ≡ coefficient f l.1.0) L
    coefficients_same f n =
        All-weaker (λ l. finite.get indices l.0 ≡ Some l.1.0)
        (λ l. coefficient (named indices f) l.0 ≡ coefficient f l.1.0)
        (λ l h. coefficient_named indices one f l.0 l.1.0 h n) L found

    cells_named : (ss : List (ℕ × Bool)) (i : ℕ) (es : List SolverEquation)
        → All (λ e. NamesNamed indices e.function) es
        → cells_from (parts_among (by_addresses L)) ss i (map named_equation es)
        ≡ cells_from (parts_among (by_indices L)) ss i es
    cells_named ss i [] n = refl
    cells_named ss i (e ∷ es) n =
        ap₂ ◌++◌
        (ap₂ (λ b numbers. map (flipped b) (numbers ++ unit_at ss i)) (flip_named e)
        (numbers_same L (coefficient (named indices e.function)) (coefficient e.function)
        (coefficients_same e.function (All-head (λ e. NamesNamed indices e.function) e es n))))
        (cells_named ss (suc i) es (All-tail (λ e. NamesNamed indices e.function) e es n))

    -- ---- costs

    same_at : (f : SolverFunction) → NamesNamed indices f → (l : Address × (ℕ × LeafVar))
        → finite.get indices l.0 ≡ Some l.1.0
        → coefficient (named indices f) l.0 ≡ coefficient f l.1.0
    same_at f n l h = coefficient_named indices one f l.0 l.1.0 h n

    variable_at : (var : ℕ) → NamesNamed indices (variable var) → (l : Address × (ℕ × LeafVar))
        → finite.get indices l.0 ≡ Some l.1.0
        → coefficient (variable {R = address_cmp} (address_in indices var)) l.0
        ≡ coefficient (variable {R = nat_cmp} var) l.1.0
    variable_at var n l h = ap (λ f. coefficient f l.0) (sym (variable_named indices var))
        ∙ same_at (variable var) n l h

    negated_at : (f : Function) (g : SolverFunction) (l : Address × (ℕ × LeafVar))
        → coefficient f l.0 ≡ coefficient g l.1.0
        → coefficient (negated f) l.0 ≡ coefficient (negated g) l.1.0
    negated_at f g l e = coefficient-negated address_order f l.0 ∙ ap neg_ℚ e
        ∙ sym (coefficient-negated index_order g l.1.0)

    cost_at : (at : Address) (o : Option LeafObjective) → NamesNamed indices (objective_in o)
        → (l : Address × (ℕ × LeafVar)) → finite.get indices l.0 ≡ Some l.1.0
        → coefficient (cost_among (option_map_or (λ x. (at, read_objective indices x) ∷ []) o []))
        l.0 ≡ coefficient (cost_in o) l.1.0
    cost_at at None n l h = coefficient-constant_function address_order zero_ℚ l.0
        ∙ sym (coefficient-constant_function index_order zero_ℚ l.1.0)
    cost_at at (Some (objective.Plain Min var)) n l h = variable_at var n l h
    cost_at at (Some (objective.Plain Max var)) n l h =
        negated_at (variable (address_in indices var)) (variable var) l (variable_at var n l h)
    cost_at at (Some (objective.Affine Min func)) n l h = same_at func n l h
    cost_at at (Some (objective.Affine Max func)) n l h =
        negated_at (named indices func) func l (same_at func n l h)

    cost_named : (at : Address) (o : Option LeafObjective) → NamesNamed indices (objective_in o)
        → All (λ l. coefficient (cost_among (option_map_or
        (λ x. (at, read_objective indices x) ∷ []) o [])) l.0 ≡ coefficient (cost_in o) l.1.0) L
    cost_named at o n =
        All-weaker (λ l. finite.get indices l.0 ≡ Some l.1.0)
        (λ l. coefficient (cost_among (option_map_or (λ x. (at, read_objective indices x) ∷ [])
        o [])) l.0 ≡ coefficient (cost_in o) l.1.0)
        (cost_at at o n) L found

    -- ---- forms

    form_named : (es : List SolverEquation) → All (λ e. NamesNamed indices e.function) es
        → (at : Address) (o : Option LeafObjective) → NamesNamed indices (objective_in o)
        → form_from (by_indices L) es (cost_in o)
        ≡ form_from (by_addresses L) (map named_equation es)
        (cost_among (option_map_or (λ x. (at, read_objective indices x) ∷ []) o []))
    form_named es n at o k =
        let slacks_are = sym (slacks_named 0 es) in
        let rows_are = sym (length-map es named_equation) in
        let columns_are = ap₂ ◌+◌ (sym (length_same L)) (ap length slacks_are) in
        let matrix_is = sym (cells_named (slacks_from 0 es) 0 es n)
        ∙ ap (λ ss. cells_from (parts_among (by_addresses L)) ss 0 (map named_equation es))
        slacks_are in
        let costs_are = ap₂ (λ numbers ss. numbers ++ map (λ slack. zero_ℚ) ss)
        (sym (numbers_same L (coefficient (cost_among
        (option_map_or (λ x. (at, read_objective indices x) ∷ []) o [])))
        (coefficient (cost_in o)) (cost_named at o k))) slacks_are in
        λ i. record {
          m = rows_are i;
          c = columns_are i;
          matrix = matrix_is i;
          right = sym (rights_named es) i;
          costs = costs_are i;
          flips = sym (flips_named es) i;
        }

-- ---- a model

module _ (map : AddressMap) (leaves : Leaves) where
  abbrev pub IsNamedFunction : SolverFunction → Type 0
  IsNamedFunction f = NamesNamed map.vars.indices f

  pub names_named : IsReadable map leaves → (f : SolverFunction) → NamesUsed map leaves f
      → IsNamedFunction f
  names_named readable f h =
      All-weaker (λ t. IsSome (finite.get leaves.vars t.0)) (IsTermIndexNamed map.vars.indices)
      (λ t k. readable.vars.named t.0 k) (terms_of f) h

  -- what is so of each row's equations
  among_rows : (P : SolverEquation → Type 0) (L : List (Address × (ℕ × LeafRow)))
      → All (λ l. All P (equations_in l.1.1)) L
      → All P (flat_map (λ r. equations_in r.1) (prelude.map (λ l. l.1) L))
  among_rows P [] h = All-nil P
  among_rows P (l ∷ L) h =
      All-append P (equations_in l.1.1) (flat_map (λ r. equations_in r.1)
      (prelude.map (λ l. l.1) L)) (All-head (λ l. All P (equations_in l.1.1)) l L h)
      (among_rows P L (All-tail (λ l. All P (equations_in l.1.1)) l L h))

  rows_with : List (Address × (ℕ × LeafRow))
  rows_with = leaves_with leaves.rows (finite.entries map.rows.indices)

  equations_are : equations_of map leaves
      ≡ flat_map (λ r. equations_in r.1) (prelude.map (λ l. l.1) rows_with)
  unfolding rows_with
  equations_are = ap (flat_map (λ r. equations_in r.1)) (leaves_at_is leaves.rows map.rows.indices)

  pub equations_named : IsReadable map leaves
      → All (λ e. IsNamedFunction e.function) (equations_of map leaves)
  unfolding rows_with
  equations_named readable =
      subst (All (λ e. IsNamedFunction e.function)) (sym equations_are)
      (among_rows (λ e. IsNamedFunction e.function) rows_with
      (All-weaker (HasItsIndex leaves.rows map.rows.indices)
      (λ l. All (λ e. IsNamedFunction e.function) (equations_in l.1.1))
      (λ l h. All-weaker (λ e. NamesUsed map leaves e.function) (λ e. IsNamedFunction e.function)
      (λ e k. names_named readable e.function k) (equations_in l.1.1)
      (readable.each_row l.1.0 l.1.1 h.1).names)
      rows_with (each_index leaves.rows map.rows.indices)))

  pub equations_through : (at : Address)
      → equations (read_through map leaves at)
      ≡ prelude.map (named_equation map.vars.indices) (equations_of map leaves)
  unfolding rows_with
  equations_through at =
      ap equations_among (entries_through leaves.rows (read_row map.vars.indices) map.rows.indices)
      ∙ equations_of_rows map.vars.indices rows_with
      ∙ ap (prelude.map (named_equation map.vars.indices)) (sym equations_are)

  pub objective_through : (at : Address)
      → finite.entries (read_through map leaves at).objective
      ≡ option_map_or (λ o. (at, read_objective map.vars.indices o) ∷ []) leaves.objective []
  objective_through at = by_objective leaves.objective
    where
      by_objective : (o : Option LeafObjective)
          → finite.entries (option_map_or (λ o. finite.insert finite.empty at
          (read_objective map.vars.indices o)) o (finite.empty {R = address_cmp}))
          ≡ option_map_or (λ o. (at, read_objective map.vars.indices o) ∷ []) o []
      by_objective None = entries_empty address_cmp
      by_objective (Some o) =
          finite.entries-insert address_total finite.empty at (read_objective map.vars.indices o)
          ∙ ap (put address_cmp at (read_objective map.vars.indices o)) (entries_empty address_cmp)

  vars_with : Variables
  vars_with = leaves_with leaves.vars (finite.entries map.vars.indices)

  -- the form by index is that of the leaf model
  pub form_is : AreIndicesOneToOne map.vars.indices → IsReadable map leaves → (at : Address)
      → form_of map leaves ≡ form_of_leaves (read_through map leaves at)
  unfolding vars_with
  form_is one readable at =
      ap (λ vars. form_from vars (equations_of map leaves) (cost_in leaves.objective))
      (leaves_at_is leaves.vars map.vars.indices)
      ∙ form_named map.vars.indices one vars_with
      (All-weaker (HasItsIndex leaves.vars map.vars.indices)
      (λ l. finite.get map.vars.indices l.0 ≡ Some l.1.0) (λ l h. h.0) vars_with
      (each_index leaves.vars map.vars.indices))
      (equations_of map leaves) (equations_named readable) at leaves.objective
      (names_named readable (objective_in leaves.objective) readable.objective)
      ∙ sym (λ i. form_from (entries_through leaves.vars (λ var. var) map.vars.indices i)
      (equations_through at i) (cost_among (objective_through at i)))
