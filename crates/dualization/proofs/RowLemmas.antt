-- The edits of the dual's rows, group by group.
use Rattle.std.specs.Prelude.{◌≡◌, ℕ, suc, ◌+◌, ◌≤◌, Bool, true, false, if◌then◌else◌, List, [], ◌∷◌, ◌++◌, decimal, length, map, Option, Some, None, refl}
use Rattle.std.proofs.Common.{sym, ◌∙◌, ap, ap₂, arith, subst}
use Rattle.std.proofs.lemmas.List.{map-append}
use Rattle.ratio_core.specs.Rational.{Rational, neg_ℚ, one_ℚ, zero_ℚ}
use Rattle.rational_laws.specs.Dot.{negated}
use Rattle.rational_laws.specs.DotLaws.{length-negated}
use Rattle.aff_core.specs.Address.{Address}
use Rattle.aff_core.specs.Function.{Function}
use Rattle.named_aff.specs.declared.aff.NamedAff.{NamedAff}
use Rattle.set_core.specs.declared.set.Set.{Set}
use Rattle.set_core.specs.declared.set.Set.TheVariants.{LessThan, GreaterThan, EqualTo, Interval, Reals, Zeros, Nonnegatives, Nonpositives, NormInfinityCone, NormOneCone}
use Rattle.set_core.specs.Shapes.{is_scalar}
use Rattle.user_model.specs.declared.edit.Edit.{Edit}
use Rattle.user_model.specs.declared.edit.Edit.TheVariants.{AddRow}
use Rattle.user_model.specs.declared.edit.NamedFunc.{NamedFunc}
use Rattle.user_model.specs.declared.edit.NamedFunc.TheVariants as named
use Rattle.user_model.specs.declared.function.UserFunc.TheVariants.{AffineVec}
use Rattle.user_model.specs.declared.group.Group.{Group}
use Rattle.user_model.specs.declared.row.Row.{Row}
use Rattle.user_model.specs.Model.{ModelValue}
use Rattle.certificates.specs.Points.{addresses_of}
use Rattle.dual_parts.specs.Parts.{own_bounds}
use Rattle.dual_model.specs.DualOf.{column_in, cost_of, function_in, group_rows, left_for, left_less_two, row_for, scalar_function}
use Rattle.dualization.specs.DualEdits.{affine_by_name, edit_of_row, function_by_name}
use Rattle.dualization.specs.Rows.{ColumnsFit, LeftSize, left_named, named_in, one_or_more, own_from, row_set}
use Rattle.dualization.proofs.TermLemmas.{function_named, padded_named}

module _ (names : List (List ℕ)) where
  -- ---- functions in sets, by name

  by_shape : (fs : List Function)
      → function_by_name names (scalar_function fs) ≡ one_or_more (map (affine_by_name names) fs)
  by_shape [] = refl
  by_shape (f ∷ []) = refl
  by_shape (f ∷ h ∷ fs) = refl

  named_function_in : (set : Set) (fs : List Function)
      → function_by_name names (function_in set fs) ≡ named_in set (map (affine_by_name names) fs)
  named_function_in set fs = by (is_scalar set)
    where
      by : (b : Bool)
          → function_by_name names (if b then scalar_function fs else AffineVec fs)
          ≡ (if b then one_or_more (map (affine_by_name names) fs)
          else named.AffineVec (map (affine_by_name names) fs))
      by true = by_shape fs
      by false = refl

  module _ (model : ModelValue) where
    -- the edit of the row of the group with place k
    abbrev added : ℕ → Set → List NamedAff → Edit
    added k set fs = AddRow (103 ∷ decimal k) (named_in set fs) set

    left_is : (size : ColumnsFit model (length names)) (v : Address)
        → affine_by_name names (left_for model v) ≡ left_named model names None v
    left_is size v =
        let column : List Rational = column_in model.rows v in
        function_named names (negated column) (cost_of model v)
        (subst (λ n. n ≤ length names) (sym (length-negated column)) (size v))

    less_two_is : (n : ℕ) (columns : ColumnsFit model n) (size : n + 2 ≤ length names) (v : Address)
        → affine_by_name names (left_less_two model n v) ≡ left_named model names (Some n) v
    less_two_is n columns size v =
        let column : List Rational = column_in model.rows v in
        padded_named names (negated column) (neg_ℚ one_ℚ ∷ neg_ℚ one_ℚ ∷ []) n (cost_of model v)
        (subst (λ k. k ≤ n) (sym (length-negated column)) (columns v)) size

    each_named : (f : Address → Function) (two : Option ℕ) (vs : List Address)
        → ((v : Address) → affine_by_name names (f v) ≡ left_named model names two v)
        → map (affine_by_name names) (map f vs) ≡ map (left_named model names two) vs
    each_named f two [] e = refl
    each_named f two (v ∷ vs) e = ap₂ (λ h hs. h ∷ hs) (e v) (each_named f two vs e)

    -- the set of a group's row, and the row with it
    abbrev row_with_set : ℕ → ℕ → List Address → Set → Option Set → List Edit
    row_with_set k n vs set None = []
    row_with_set k n vs set (Some s) =
        added k s (map (left_named model names (own_from set n)) vs) ∷ []

    kept : (k n : ℕ) (vs : List Address) (set dual : Set)
        → own_from set n ≡ None → LeftSize model None (length names)
        → edit_of_row names (record {
          id = 0;
          name = 103 ∷ decimal k;
          func = function_in dual (map (left_for model) vs);
          set = dual;
        }) ≡ added k dual (map (left_named model names (own_from set n)) vs)
    kept k n vs set dual none size =
        ap (λ func. AddRow (103 ∷ decimal k) func dual)
        (named_function_in dual (map (left_for model) vs)
        ∙ ap (named_in dual) (each_named (left_for model) None vs (left_is size)
        ∙ ap (λ two. map (left_named model names two) vs) (sym none)))

    row_edits : (k n : ℕ) (vs : List Address) (set : Set)
        → ColumnsFit model n → n + length (own_bounds set) ≤ length names
        → map (edit_of_row names) (row_for model 0 k n vs set)
        ≡ row_with_set k n vs set (row_set set)
    row_edits k n vs (EqualTo a) columns size = refl
    row_edits k n vs (Zeros d) columns size = refl
    row_edits k n vs (Interval l u) columns size =
        ap (λ func. AddRow (103 ∷ decimal k) func (EqualTo zero_ℚ) ∷ [])
        (named_function_in (EqualTo zero_ℚ) (map (left_less_two model n) vs)
        ∙ ap (named_in (EqualTo zero_ℚ)) (each_named (left_less_two model n) (Some n) vs
        (less_two_is n columns size)))
    row_edits k n vs (LessThan u) columns size =
        ap (λ e. e ∷ []) (kept k n vs (LessThan u) (LessThan zero_ℚ) refl (λ v. omega (arith, columns v, size)))
    row_edits k n vs (GreaterThan l) columns size =
        ap (λ e. e ∷ []) (kept k n vs (GreaterThan l) (GreaterThan zero_ℚ) refl (λ v. omega (arith, columns v, size)))
    row_edits k n vs (Reals d) columns size =
        ap (λ e. e ∷ []) (kept k n vs (Reals d) (Zeros d) refl (λ v. omega (arith, columns v, size)))
    row_edits k n vs (Nonnegatives d) columns size =
        ap (λ e. e ∷ []) (kept k n vs (Nonnegatives d) (Nonnegatives d) refl (λ v. omega (arith, columns v, size)))
    row_edits k n vs (Nonpositives d) columns size =
        ap (λ e. e ∷ []) (kept k n vs (Nonpositives d) (Nonpositives d) refl (λ v. omega (arith, columns v, size)))
    row_edits k n vs (NormInfinityCone d) columns size =
        ap (λ e. e ∷ []) (kept k n vs (NormInfinityCone d) (NormOneCone d) refl (λ v. omega (arith, columns v, size)))
    row_edits k n vs (NormOneCone d) columns size =
        ap (λ e. e ∷ []) (kept k n vs (NormOneCone d) (NormInfinityCone d) refl (λ v. omega (arith, columns v, size)))

    -- the row of a group, pushed
    pub row_pushed : (k n : ℕ) (vs : List Address) (set s : Set) (name : List ℕ) (func : NamedFunc)
        (fs : List NamedAff) (two : Option ℕ) (o : Option Set) (old new : List Edit)
        → ColumnsFit model n → n + length (own_bounds set) ≤ length names
        → o ≡ row_set set → o ≡ Some s → name ≡ 103 ∷ decimal k → func ≡ named_in s fs
        → fs ≡ map (left_named model names two) vs → two ≡ own_from set n
        → new ≡ old ++ AddRow name func s ∷ []
        → new ≡ old ++ map (edit_of_row names) (row_for model 0 k n vs set)
    row_pushed k n vs set s name func fs two o old new columns size o_is some name_is func_is fs_is
        two_is new_is =
        let made : func ≡ named_in s (map (left_named model names (own_from set n)) vs) =
        func_is ∙ ap (named_in s) (fs_is ∙ ap (λ t. map (left_named model names t) vs) two_is) in
        new_is
        ∙ (λ i. old ++ AddRow (name_is i) (made i) s ∷ [])
        ∙ ap (λ x. old ++ row_with_set k n vs set x) (sym some ∙ o_is)
        ∙ ap (λ es. old ++ es) (sym (row_edits k n vs set columns size))

    -- ---- the number of a row is no part of its edit

    any_number : (id k n : ℕ) (vs : List Address) (set : Set)
        → map (edit_of_row names) (row_for model id k n vs set)
        ≡ map (edit_of_row names) (row_for model 0 k n vs set)
    any_number id k n vs (EqualTo a) = refl
    any_number id k n vs (Zeros d) = refl
    any_number id k n vs (Interval l u) = refl
    any_number id k n vs (LessThan u) = refl
    any_number id k n vs (GreaterThan l) = refl
    any_number id k n vs (Reals d) = refl
    any_number id k n vs (Nonnegatives d) = refl
    any_number id k n vs (Nonpositives d) = refl
    any_number id k n vs (NormInfinityCone d) = refl
    any_number id k n vs (NormOneCone d) = refl

    abbrev pub edits_from : ℕ → ℕ → ℕ → List Group → List Edit
    edits_from id k n groups = map (edit_of_row names) (group_rows model id k n groups)

    all_numbers : (id k n : ℕ) (groups : List Group)
        → edits_from id k n groups ≡ edits_from 0 k n groups
    all_numbers id k n [] = refl
    all_numbers id k n (g ∷ groups) =
        let vs : List Address = addresses_of g.vars in
        let own : List Row = row_for model id k n vs g.set in
        let first : List Row = row_for model 0 k n vs g.set in
        let more : ℕ = n + length (own_bounds g.set) in
        map-append (edit_of_row names) own (group_rows model (id + length own) (suc k) more groups)
        ∙ ap₂ ◌++◌ (any_number id k n vs g.set)
        (all_numbers (id + length own) (suc k) more groups
        ∙ sym (all_numbers (0 + length first) (suc k) more groups))
        ∙ sym (map-append (edit_of_row names) first
        (group_rows model (0 + length first) (suc k) more groups))

    -- the edits of a group, and then those of the others
    pub next_edits : (k n : ℕ) (g : Group) (groups : List Group)
        → edits_from 0 k n (g ∷ groups)
        ≡ map (edit_of_row names) (row_for model 0 k n (addresses_of g.vars) g.set)
        ++ edits_from 0 (k + 1) (n + length (own_bounds g.set)) groups
    next_edits k n g groups =
        let first : List Row = row_for model 0 k n (addresses_of g.vars) g.set in
        let more : ℕ = n + length (own_bounds g.set) in
        let next : suc k ≡ k + 1 = omega arith in
        map-append (edit_of_row names) first
        (group_rows model (0 + length first) (suc k) more groups)
        ∙ ap (λ es. map (edit_of_row names) first ++ es)
        (all_numbers (0 + length first) (suc k) more groups
        ∙ ap (λ j. edits_from 0 j more groups) next)
