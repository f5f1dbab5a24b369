-- The edits of the dual make it of the empty model: groups, rows and the objective one after another.
use Rattle.std.specs.Prelude.{◌≡◌, ℕ, zero, suc, ◌+◌, ◌<◌, ◌≤◌, Bool, true, false, cond, List, [], ◌∷◌, ◌++◌, All, Option, Some, decimal, find, flat_map, length, map, slice_index_or, unwrap_or, refl}
use Rattle.std.specs.List.{AllByRecursion, IsDistinct}
use Rattle.std.specs.Option.{option_map}
use Rattle.std.specs.Str.{bytes_eq}
use Rattle.std.proofs.Common.{sym, ◌∙◌, ap, ap₂, arith, subst}
use Rattle.std.proofs.lemmas.List.{append-nil, append_assoc, length-map}
use Rattle.std.proofs.lemmas.List.Elements.{All-append, All-cons, All-filter, All-head, All-nil, All-tail}
use Rattle.std.proofs.lemmas.Map.Keys.{IsDistinct-head, IsDistinct-tail}
use Rattle.std.proofs.lemmas.Slice.Eq.{bytes_eq-Decides}
use Rattle.ratio_core.specs.Rational.{Rational, neg_ℚ, one_ℚ, zero_ℚ}
use Rattle.rational_laws.specs.Dot.{negated}
use Rattle.rational_laws.specs.DotLaws.{length-negated}
use Rattle.aff_core.specs.Address.{Address, address_cmp}
use Rattle.aff_core.specs.Function.{Function, function_of, gathered, terms_of}
use Rattle.aff_core.specs.FunctionLaws.{coefficient-function_of, coefficient-gathered, constant-function_of, function_of-terms, same_coefficients, terms-function_of, terms_rise}
use Rattle.aff_core.specs.KeyOrder.{address_order}
use Rattle.aff_core.specs.Rising.{RiseStrictly}
use Rattle.aff_core.specs.Terms.{is_nonzero}
use Rattle.named_aff.specs.declared.terms.NamedTerm.{NamedTerm}
use Rattle.set_core.specs.declared.set.Set.{Set}
use Rattle.set_core.specs.declared.set.Set.TheVariants.{LessThan, GreaterThan, EqualTo, Interval, Reals, Zeros, Nonnegatives, Nonpositives, NormInfinityCone, NormOneCone}
use Rattle.set_core.specs.Shapes.{is_scalar}
use Rattle.aff_core.specs.declared.sense.Sense.{Sense}
use Rattle.user_model.specs.declared.edit.Edit.{Edit}
use Rattle.user_model.specs.declared.function.UserFunc.TheVariants.{Affine, AffineVec}
use Rattle.user_model.specs.declared.group.Group.{Group}
use Rattle.user_model.specs.declared.group.GroupVar.{GroupVar}
use Rattle.user_model.specs.declared.objective.Objective.{Objective}
use Rattle.user_model.specs.declared.objective.Objective.TheVariants as objective
use Rattle.user_model.specs.declared.row.Row.{Row}
use Rattle.user_model.specs.Edited.{affine, edited, located, numbered_from}
use Rattle.user_model.specs.Model.{ModelValue, address_named, empty_model, variable_address}
use Rattle.certificates.specs.Points.{addresses_of, objective_value, sense_of, variables_of}
use Rattle.dual_parts.specs.Parts.{own_bounds}
use Rattle.group_numbering.specs.NewGroups.{NewGroup, numbered_groups, terms_from, variable_count}
use Rattle.group_numbering.specs.NumberLaws.{terms_rise as from_rises}
use Rattle.dual_model.specs.DualOf.{bound_numbers, column_in, cost_of, costs, dual_objective_of, dual_of_model, dual_rows, function_in, group_rows, left_for, left_less_two, new_groups, opposite, row_for, row_variables, scalar_function, signed}
use Rattle.dual_model.specs.GroupRowLaws.{own_total}
use Rattle.limit_laws.specs.Leads.{all_edited}
use Rattle.limit_laws.specs.LeadsLaws.{both_edited}
use Rattle.dualization.specs.Rows.{ColumnsFit}
use Rattle.dualization.specs.DualEdits.{affine_by_name, dual_edits, dual_names, edit_of_group, edit_of_row, edits_of_objective, function_by_name, name_of, term_by_name}
use Rattle.dualization.proofs.TermLemmas.{length-padded, padded, padded_function}

abbrev pub state : List Group → List Row → Objective → ℕ → ℕ → ℕ → ModelValue
state groups rows objective n m r = record {
  groups = groups;
  rows = rows;
  objective = objective;
  next = record { group = n; variable = m; row = r };
}

along : (a b c : ℕ) → (a + b) + c ≡ a + (b + c)
along a b c = omega arith

stay : (n : ℕ) → n ≡ n + 0
stay n = omega arith

pub from_none : (n : ℕ) → 0 + n ≡ n
from_none n = omega arith

-- ---- groups

pub groups_made : (gs : List NewGroup) (groups : List Group) (n m : ℕ)
    → all_edited (state groups [] objective.Feasibility n m 0) (map edit_of_group gs)
    ≡ state (groups ++ numbered_groups n m gs) [] objective.Feasibility (n + length gs)
    (m + variable_count gs) 0
unfolding edited
groups_made [] groups n m =
    λ i. state (sym (append-nil groups) i) [] objective.Feasibility (stay n i) (stay m i) 0
groups_made (g ∷ gs) groups n m =
    let first : Group = record { id = n; vars = numbered_from m g.names; set = g.set } in
    let one : n + 1 ≡ suc n = omega arith in
    let count : (n + 1) + length gs ≡ n + suc (length gs) = omega arith in
    groups_made gs (groups ++ first ∷ []) (n + 1) (m + length g.names)
    ∙ (λ i. state
    ((append_assoc groups (first ∷ []) (numbered_groups (n + 1) (m + length g.names) gs)
    ∙ ap (λ k. groups ++ first ∷ numbered_groups k (m + length g.names) gs) one) i)
    [] objective.Feasibility (count i) (along m (length g.names) (variable_count gs) i) 0)

-- ---- variables found by name

names_on : (n : ℕ) (ns ms : List (List ℕ))
    → numbered_from n (ns ++ ms) ≡ numbered_from n ns ++ numbered_from (n + length ns) ms
names_on n [] ms = ap (λ k. numbered_from k ms) (stay n)
names_on n (name ∷ ns) ms =
    let on : suc n + length ns ≡ n + suc (length ns) = omega arith in
    ap (λ vs. record { number = n; name = name } ∷ vs) (names_on (suc n) ns ms
    ∙ ap (λ k. numbered_from (suc n) ns ++ numbered_from k ms) on)

-- the variables of numbered groups, one after another
pub variables_are : (id n : ℕ) (gs : List NewGroup)
    → variables_of (numbered_groups id n gs) ≡ numbered_from n (flat_map (λ g. g.names) gs)
variables_are id n [] = refl
variables_are id n (g ∷ gs) =
    ap (λ vs. numbered_from n g.names ++ vs) (variables_are (suc id) (n + length g.names) gs)
    ∙ sym (names_on n g.names (flat_map (λ g. g.names) gs))

abbrev found : List (List ℕ) → ℕ → List ℕ → Option GroupVar
found names n name = find (λ (v : GroupVar). bytes_eq v.name name) (numbered_from n names)

differs : (names : List (List ℕ)) (first : List ℕ) (j : ℕ)
    → AllByRecursion (λ m. bytes_eq first m ≡ false) names → j < length names
    → bytes_eq first (slice_index_or names j []) ≡ false
differs [] first j h lt = absurd (omega (arith, lt))
differs (m ∷ names) first zero h lt = h.0
differs (m ∷ names) first (suc j) h lt = differs names first j h.1 (omega (arith, lt))

pub found_there : (names : List (List ℕ)) (n j : ℕ) → IsDistinct bytes_eq names → j < length names
    → option_map (λ (v : GroupVar). v.number) (found names n (slice_index_or names j []))
    ≡ Some (n + j)
found_there [] n j d lt = absurd (omega (arith, lt))
found_there (name ∷ names) n zero d lt =
    ap (λ b. option_map (λ (v : GroupVar). v.number)
    (cond b (Some (record { number = n; name = name })) (found names (suc n) name)))
    ((bytes_eq-Decides name name).1 refl)
    ∙ ap Some (stay n)
found_there (name ∷ names) n (suc j) d lt =
    let on : suc n + j ≡ n + suc j = omega arith in
    ap (λ b. option_map (λ (v : GroupVar). v.number)
    (cond b (Some (record { number = n; name = name }))
    (found names (suc n) (slice_index_or names j []))))
    (differs names name j (IsDistinct-head bytes_eq name names d) (omega (arith, lt)))
    ∙ found_there names (suc n) j (IsDistinct-tail bytes_eq name names d) (omega (arith, lt))
    ∙ ap Some on

-- ---- functions of the first variables

-- where the keys rise it makes no difference that the first of each key counts
gathered_is : (ts : List (Address × Rational)) (k : Rational) → RiseStrictly ts
    → gathered {R = address_cmp} ts k ≡ function_of ts k
unfolding gathered
gathered_is ts k rise =
    same_coefficients address_order (gathered ts k) (function_of ts k)
    (λ v. coefficient-gathered address_order ts k v
    ∙ sym (coefficient-function_of address_order ts k v rise))
    (constant-function_of address_cmp _ k ∙ sym (constant-function_of address_cmp ts k))

module _ (names : List (List ℕ)) (distinct : IsDistinct bytes_eq names) where
  -- one of the first variables, one for each name
  abbrev pub IsFirst : Address → Type 0
  IsFirst at = (j : ℕ) × (j < length names) × (at ≡ variable_address j)

  abbrev pub HasFirst : Function → Type 0
  HasFirst f = All (λ t. IsFirst t.0) (terms_of f)

  -- a model with just these variables
  abbrev HasNames : ModelValue → Type 0
  HasNames m = variables_of m.groups ≡ numbered_from 0 names

  module _ (m : ModelValue) (has : HasNames m) where
    address_again : (at : Address) → IsFirst at → address_named m (name_of names at) ≡ at
    address_again at h =
        ap (λ (a : Address). address_named m (slice_index_or names a.number [])) h.2
        ∙ ap (λ vs. variable_address (unwrap_or (option_map (λ (v : GroupVar). v.number)
        (find (λ (v : GroupVar). bytes_eq v.name (slice_index_or names h.0 [])) vs)) 0)) has
        ∙ ap (λ o. variable_address (unwrap_or o 0)) (found_there names 0 h.0 distinct h.1)
        ∙ ap variable_address (from_none h.0)
        ∙ sym h.2

    terms_again : (ts : List (Address × Rational)) → All (λ t. IsFirst t.0) ts
        → map (λ (t : NamedTerm). (address_named m t.variable, t.coefficient))
        (map (term_by_name names) ts) ≡ ts
    terms_again [] h = refl
    terms_again (t ∷ ts) h =
        ap₂ (λ at us. (at, t.1) ∷ us)
        (address_again t.0 (All-head (λ t. IsFirst t.0) t ts h))
        (terms_again ts (All-tail (λ t. IsFirst t.0) t ts h))

    affine_again : (f : Function) → HasFirst f → affine m (affine_by_name names f) ≡ f
    affine_again f h =
        ap (λ ts. gathered ts f.constant) (terms_again (terms_of f) h)
        ∙ gathered_is (terms_of f) f.constant (terms_rise f)
        ∙ function_of-terms f

    affines_again : (fs : List Function) → All {X = Function} HasFirst fs
        → map (affine m) (map (affine_by_name names) fs) ≡ fs
    affines_again [] h = refl
    affines_again (f ∷ fs) h =
        ap₂ (λ g gs. g ∷ gs) (affine_again f (All-head HasFirst f fs h))
        (affines_again fs (All-tail HasFirst f fs h))

    in_set_again : (set : Set) (fs : List Function) → All {X = Function} HasFirst fs
        → located m (function_by_name names (function_in set fs)) ≡ function_in set fs
    in_set_again set fs h = by (is_scalar set)
      where
        scalar : (fs : List Function) → All {X = Function} HasFirst fs
            → located m (function_by_name names (scalar_function fs)) ≡ scalar_function fs
        scalar [] h = refl
        scalar (f ∷ []) h = ap Affine (affine_again f (All-head HasFirst f [] h))
        scalar (f ∷ g ∷ fs) h = ap AffineVec (affines_again (f ∷ g ∷ fs) h)

        by : (b : Bool)
            → located m (function_by_name names (cond b (scalar_function fs) (AffineVec fs)))
            ≡ cond b (scalar_function fs) (AffineVec fs)
        by true = scalar fs h
        by false = ap AffineVec (affines_again fs h)

  -- ---- the dual's functions are of the first variables

  first_terms : (n : ℕ) (qs : List Rational) → n + length qs ≤ length names
      → All {X = Address × Rational} (λ t. IsFirst t.0) (terms_from n qs)
  first_terms n [] h = All-nil (λ t. IsFirst t.0)
  first_terms n (q ∷ qs) h =
      All-cons {X = Address × Rational} (λ t. IsFirst t.0) (variable_address n, q)
      (terms_from (suc n) qs) (n, omega (arith, h), refl)
      (first_terms (suc n) qs (omega (arith, h)))

  pub has_first : (qs : List Rational) (k : Rational) → length qs ≤ length names
      → HasFirst (function_of (terms_from 0 qs) k)
  has_first qs k h =
      subst (All (λ t. IsFirst t.0)) (sym (terms-function_of (terms_from 0 qs) k (from_rises 0 qs)))
      (All-filter is_nonzero (λ (t : Address × Rational). IsFirst t.0) (terms_from 0 qs)
      (first_terms 0 qs (omega (arith, h))))

  module _ (model : ModelValue) (n : ℕ) (columns : ColumnsFit model n) where
    pub left_first : n ≤ length names → (v : Address) → HasFirst (left_for model v)
    left_first size v =
        let column : List Rational = column_in model.rows v in
        has_first (negated column) (cost_of model v)
        (omega (arith, size, columns v, length-negated column))

    pub less_two_first : n + 2 ≤ length names → (v : Address) → HasFirst (left_less_two model n v)
    less_two_first size v =
        let column : List Rational = column_in model.rows v in
        let two : List Rational = neg_ℚ one_ℚ ∷ neg_ℚ one_ℚ ∷ [] in
        let low : length (negated column) ≤ n = omega (arith, columns v, length-negated column) in
        subst HasFirst (sym (padded_function (negated column) two n (cost_of model v) low))
        (has_first (padded (negated column) n two) (cost_of model v)
        (omega (arith, size, length-padded (negated column) two n low)))

    pub each_first : (f : Address → Function) → ((v : Address) → HasFirst (f v)) → (vs : List Address)
        → All {X = Function} HasFirst (map f vs)
    each_first f h [] = All-nil HasFirst
    each_first f h (v ∷ vs) = All-cons HasFirst (f v) (map f vs) (h v) (each_first f h vs)

  -- a row is made again of its edit
  abbrev pub IsAgain : Row → Type 0
  IsAgain r = (m : ModelValue) → HasNames m → located m (function_by_name names r.func) ≡ r.func

  abbrev row_with : ℕ → ℕ → Set → List Function → Row
  row_with id k set fs =
      record { id = id; name = 103 ∷ decimal k; func = function_in set fs; set = set }

  one_again : (id k : ℕ) (set : Set) (fs : List Function) → All {X = Function} HasFirst fs
      → All IsAgain (row_with id k set fs ∷ [])
  one_again id k set fs h =
      All-cons IsAgain (row_with id k set fs) [] (λ m has. in_set_again m has set fs h)
      (All-nil IsAgain)

  row_again : (model : ModelValue) (id k n : ℕ) (vs : List Address) (set : Set)
      → ColumnsFit model n → n + length (own_bounds set) ≤ length names
      → All IsAgain (row_for model id k n vs set)
  row_again model id k n vs (EqualTo a) c h = All-nil IsAgain
  row_again model id k n vs (Zeros d) c h = All-nil IsAgain
  row_again model id k n vs (Interval l u) c h =
      one_again id k (EqualTo zero_ℚ) (map (left_less_two model n) vs)
      (each_first model n c (left_less_two model n) (less_two_first model n c h) vs)
  row_again model id k n vs (LessThan u) c h =
      one_again id k (LessThan zero_ℚ) (map (left_for model) vs)
      (each_first model n c (left_for model) (left_first model n c (omega (arith, h))) vs)
  row_again model id k n vs (GreaterThan l) c h =
      one_again id k (GreaterThan zero_ℚ) (map (left_for model) vs)
      (each_first model n c (left_for model) (left_first model n c (omega (arith, h))) vs)
  row_again model id k n vs (Reals d) c h =
      one_again id k (Zeros d) (map (left_for model) vs)
      (each_first model n c (left_for model) (left_first model n c (omega (arith, h))) vs)
  row_again model id k n vs (Nonnegatives d) c h =
      one_again id k (Nonnegatives d) (map (left_for model) vs)
      (each_first model n c (left_for model) (left_first model n c (omega (arith, h))) vs)
  row_again model id k n vs (Nonpositives d) c h =
      one_again id k (Nonpositives d) (map (left_for model) vs)
      (each_first model n c (left_for model) (left_first model n c (omega (arith, h))) vs)
  row_again model id k n vs (NormInfinityCone d) c h =
      one_again id k (NormOneCone d) (map (left_for model) vs)
      (each_first model n c (left_for model) (left_first model n c (omega (arith, h))) vs)
  row_again model id k n vs (NormOneCone d) c h =
      one_again id k (NormInfinityCone d) (map (left_for model) vs)
      (each_first model n c (left_for model) (left_first model n c (omega (arith, h))) vs)

  -- ---- numbers of rows

  abbrev pub NumberedFrom : ℕ → List Row → Type 0
  NumberedFrom id [] = Unit {0}
  NumberedFrom id (r ∷ rows) = (id ≡ r.id) × NumberedFrom (id + 1) rows

  numbered_both : (id : ℕ) (rows others : List Row) → NumberedFrom id rows
      → NumberedFrom (id + length rows) others → NumberedFrom id (rows ++ others)
  numbered_both id [] others h k = subst (λ n. NumberedFrom n others) (sym (stay id)) k
  numbered_both id (r ∷ rows) others h k =
      let on : id + suc (length rows) ≡ (id + 1) + length rows = omega arith in
      (h.0, numbered_both (id + 1) rows others h.1 (subst (λ n. NumberedFrom n others) on k))

  numbered_row : (model : ModelValue) (id k n : ℕ) (vs : List Address) (set : Set)
      → NumberedFrom id (row_for model id k n vs set)
  numbered_row model id k n vs (EqualTo a) = tt
  numbered_row model id k n vs (Zeros d) = tt
  numbered_row model id k n vs (Interval l u) = (refl, tt)
  numbered_row model id k n vs (LessThan u) = (refl, tt)
  numbered_row model id k n vs (GreaterThan l) = (refl, tt)
  numbered_row model id k n vs (Reals d) = (refl, tt)
  numbered_row model id k n vs (Nonnegatives d) = (refl, tt)
  numbered_row model id k n vs (Nonpositives d) = (refl, tt)
  numbered_row model id k n vs (NormInfinityCone d) = (refl, tt)
  numbered_row model id k n vs (NormOneCone d) = (refl, tt)

  pub numbered_rows : (model : ModelValue) (id k n : ℕ) (groups : List Group)
      → NumberedFrom id (group_rows model id k n groups)
  numbered_rows model id k n [] = tt
  numbered_rows model id k n (g ∷ groups) =
      let first : List Row = row_for model id k n (addresses_of g.vars) g.set in
      let more : ℕ = n + length (own_bounds g.set) in
      numbered_both id first (group_rows model (id + length first) (suc k) more groups)
      (numbered_row model id k n (addresses_of g.vars) g.set)
      (numbered_rows model (id + length first) (suc k) more groups)

  pub columns_more : (model : ModelValue) (n more : ℕ) → ColumnsFit model n → ColumnsFit model (n + more)
  columns_more model n more c v = omega (arith, c v)

  pub rows_again : (model : ModelValue) (id k n : ℕ) (groups : List Group) → ColumnsFit model n
      → n + own_total groups ≤ length names → All IsAgain (group_rows model id k n groups)
  rows_again model id k n [] c h = All-nil IsAgain
  rows_again model id k n (g ∷ groups) c h =
      let vs : List Address = addresses_of g.vars in
      let first : List Row = row_for model id k n vs g.set in
      let more : ℕ = n + length (own_bounds g.set) in
      All-append IsAgain first (group_rows model (id + length first) (suc k) more groups)
      (row_again model id k n vs g.set c (omega (arith, h)))
      (rows_again model (id + length first) (suc k) more groups
      (columns_more model n (length (own_bounds g.set)) c) (omega (arith, h)))

  -- ---- rows

  pub made_row : (groups : List Group) (rows : List Row) (o : Objective) (n m id : ℕ) (r : Row)
      → variables_of groups ≡ numbered_from 0 names → id ≡ r.id → IsAgain r
      → edited (state groups rows o n m id) (edit_of_row names r)
      ≡ state groups (rows ++ r ∷ []) o n m (id + 1)
  unfolding edited
  made_row groups rows o n m id r has e again =
      λ i. state groups (rows ++ record {
        id = e i;
        name = r.name;
        func = again (state groups rows o n m id) has i;
        set = r.set;
      } ∷ []) o n m (id + 1)

  pub rows_made : (groups : List Group) (o : Objective) (n m id : ℕ) (rs rows : List Row)
      → variables_of groups ≡ numbered_from 0 names → NumberedFrom id rs → All IsAgain rs
      → all_edited (state groups rows o n m id) (map (edit_of_row names) rs)
      ≡ state groups (rows ++ rs) o n m (id + length rs)
  rows_made groups o n m id [] rows has h again =
      λ i. state groups (sym (append-nil rows) i) o n m (stay id i)
  rows_made groups o n m id (r ∷ rs) rows has h again =
      let on : (id + 1) + length rs ≡ id + suc (length rs) = omega arith in
      ap (λ x. all_edited x (map (edit_of_row names) rs))
      (made_row groups rows o n m id r has h.0 (All-head IsAgain r rs again))
      ∙ rows_made groups o n m (id + 1) rs (rows ++ r ∷ []) has h.1 (All-tail IsAgain r rs again)
      ∙ (λ i. state groups (append_assoc rows (r ∷ []) rs i) o n m (on i))

  -- ---- the objective

  objective_made : (m : ModelValue) (sense : Sense) (f : Function) → HasNames m → HasFirst f
      → all_edited m (edits_of_objective names (objective.Affine sense f))
      ≡ record m { objective = objective.Affine sense f }
  unfolding edited
  objective_made m sense f has h =
      ap (λ g. record m { objective = objective.Affine sense g }) (affine_again m has f h)

-- ---- the whole

module _ (model : ModelValue) (own : ℕ) (own_is : row_variables model ≡ own)
    (columns : ColumnsFit model own)
    (size : own + own_total model.groups ≡ length (dual_names model))
    (costs_size : length (costs model) ≡ length (dual_names model))
    (distinct : IsDistinct bytes_eq (dual_names model)) where
  abbrev names : List (List ℕ)
  names = dual_names model

  abbrev groups : List Group
  groups = numbered_groups 0 0 (new_groups model)

  abbrev rows : List Row
  rows = dual_rows model

  abbrev count : ℕ
  count = length (new_groups model)

  abbrev variables_count : ℕ
  variables_count = variable_count (new_groups model)

  has : variables_of groups ≡ numbered_from 0 names
  has = variables_are 0 0 (new_groups model)

  low : row_variables model + own_total model.groups ≤ length names
  low = omega (arith, own_is, size)

  again : All (IsAgain names distinct) rows
  again = rows_again names distinct model 0 1 (row_variables model) model.groups
      (subst (ColumnsFit model) (sym own_is) columns) low

  with_rows : all_edited (state groups [] objective.Feasibility count variables_count 0)
      (map (edit_of_row names) rows)
      ≡ state groups rows objective.Feasibility count variables_count (length rows)
  with_rows =
      rows_made names distinct groups objective.Feasibility count variables_count 0 rows [] has
      (numbered_rows names distinct model 0 1 (row_variables model) model.groups) again
      ∙ (λ i. state groups rows objective.Feasibility count variables_count
      (from_none (length rows) i))

  pub all_made : all_edited empty_model (dual_edits model) ≡ dual_of_model model
  all_made =
      let first : List Edit = map edit_of_group (new_groups model) in
      let second : List Edit = map (edit_of_row names) rows in
      let last : List Edit = edits_of_objective names (dual_objective_of model) in
      both_edited first (second ++ last) empty_model
      ∙ ap (λ m. all_edited m (second ++ last)) (groups_made (new_groups model) [] 0 0
      ∙ (λ i. state groups [] objective.Feasibility (from_none count i)
      (from_none variables_count i) 0))
      ∙ both_edited second last (state groups [] objective.Feasibility count variables_count 0)
      ∙ ap (λ m. all_edited m last) with_rows
      ∙ objective_made names distinct
      (state groups rows objective.Feasibility count variables_count (length rows))
      (opposite (sense_of model.objective))
      (function_of (terms_from 0 (map (signed (sense_of model.objective)) (costs model)))
      (objective_value model (bound_numbers model.groups))) has
      (has_first names distinct (map (signed (sense_of model.objective)) (costs model))
      (objective_value model (bound_numbers model.groups))
      (omega (arith, costs_size, length-map (costs model) (signed (sense_of model.objective)))))
