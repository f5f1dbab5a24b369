-- A row that stood first in a model and was deleted is added again by its name, its function by
-- name, and its set: this is refused only for want of a number, and the row is as it was but for its
-- number.
use Rattle.std.specs.Prelude.{◌≡◌, ◌≢◌, ℕ, ◌+◌, ◌≤◌, Bool, true, false, ◌&&◌, not, List, [], ◌∷◌, All, AllPairs, cond, count_by, is_some, length, map, option_map, sum_by, Some, None, unwrap_or, bytes_eq, refl}
use Rattle.std.specs.List.{list_any}
use Rattle.std.specs.Option.{option_map_or}
use Rattle.std.proofs.Common.{ap, arith, subst, sym, ◌∙◌}
use Rattle.std.proofs.lemmas.Bool.{and_from, or_from}
use Rattle.std.proofs.lemmas.List.{map-id}
use Rattle.std.proofs.lemmas.List.Elements.{All-head, All-tail}
use Rattle.std.proofs.lemmas.List.Sums.{sum_by-append, sum_by-cons}
use Rattle.map_laws.specs.PairLaws.{AllPairs-head}
use mathlib.Core.List.{map-map}
use Rattle.aff_core.specs.Address.{Address, address_eq-Decides}
use Rattle.aff_core.specs.Function.{Function, gathered, terms_of}
use Rattle.aff_core.specs.FunctionLaws.{function_of-terms, terms_rise}
use Rattle.model_laws.specs.Found.{is_some-find, list_any-flat_map}
use Rattle.model_laws.specs.Needed.{unknown}
use Rattle.model_laws.specs.Passed.{IsPassed}
use Rattle.mof_laws.specs.EditLaws.{row_edit}
use Rattle.mof_laws.specs.ReadBack.{named_affine, named_function, named_term}
use Rattle.mof_laws.specs.VariableLaws.{HasVariableAt}
use Rattle.mof_laws.specs.WrittenLaws.{function_size}
use Rattle.mof_round_trip_laws.specs.Accepted.{AreCountsWithin, accepted, each_within, terms_within}
use Rattle.mof_round_trip_laws.specs.Bounds.{has_bound, none_pass, none_there}
use Rattle.mof_round_trip_laws.specs.Functions.{HasTerms, HasVariable, IsPlaced, gathered_is}
use Rattle.mof_round_trip_laws.specs.Groups.{other_name}
use Rattle.mof_round_trip_laws.specs.Renumbered.{found_variable, made_as, none_made}
use Rattle.mof_round_trip_laws.specs.Rows.{placed_function, same_shape, scalar_kept, terms_in, unless}
use Rattle.mof_write.specs.Written.{naming}
use Rattle.row_again.specs.Deleted.{with_rows}
use Rattle.set_core.specs.Shapes.{has_bad_dimension}
use Rattle.set_core.specs.ShapeLaws.{good_dimension}
use Rattle.set_core.specs.declared.set.Set.{Set}
use Rattle.user_model.specs.Edited.{add_row, affine, edited, located}
use Rattle.user_model.specs.Functions.{components, mentioned, named_components, names_of, term_counts}
use Rattle.user_model.specs.Limits.{ALL_TERMS, LAST_NUMBER, TERMS}
use Rattle.user_model.specs.Model.{ModelValue, address_named, is_variable, total_terms, variable_address, variable_named}
use Rattle.user_model.specs.Refusals.{counts, first_refusal, has_row_named, meets_bound_already_set}
use Rattle.user_model.specs.Sets.{sets_lower, sets_upper}
use Rattle.user_model.specs.Valid.{IsValid, IsValidRow, bound_count, is_created_by}
use Rattle.user_model.specs.declared.edit.Edit.TheVariants as edit
use Rattle.user_model.specs.declared.function.UserFunc.{UserFunc}
use Rattle.user_model.specs.declared.function.UserFunc.TheVariants.{Affine, AffineVec, Plain, PlainVec}
use Rattle.user_model.specs.declared.row.Row.{Row}

module _ (model : ModelValue) (valid : IsValid model) (r : Row) (rest : List Row)
    (whole : model.rows ≡ r ∷ rest) where
  abbrev others : ModelValue
  others = with_rows model rest

  this_valid : IsValidRow model.groups r
  this_valid =
      All-head (IsValidRow model.groups) r rest
      (subst (All (IsValidRow model.groups)) whole valid.parts.valid_rows)

  pub this_placed : IsPlaced model r.func
  this_placed = placed_function model r.func this_valid.stand

  -- ---- its variables are found by their names

  number_there : (at : Address) (h : HasVariableAt model at)
      → variable_named others (naming model at) ≡ Some h.var.number
  number_there at h =
      ap (variable_named others) h.name
      ∙ ap (option_map (λ v. v.number)) (found_variable model valid.consistent h.var h.there)

  address_there : (at : Address) → HasVariableAt model at
      → address_named others (naming model at) ≡ at
  address_there at h =
      ap (λ o. variable_address (unwrap_or o 0)) (number_there at h) ∙ h.address

  name_known : (at : Address) → HasVariableAt model at
      → unknown others (naming model at) ≡ false
  name_known at h = ap (λ o. not (is_some o)) (number_there at h)

  terms_known : (f : Function) → HasTerms model f
      → list_any (unknown others) (names_of (named_affine (naming model) f)) ≡ false
  terms_known f h =
      ap (list_any (unknown others))
      (map-map (λ t. t.variable) (named_term (naming model)) (terms_of f))
      ∙ none_made (λ t. naming model t.0) (HasVariable model) (unknown others)
      (λ t there. name_known t.0 there) (terms_of f) h

  names_known : (func : UserFunc) → IsPlaced model func
      → list_any (unknown others) (mentioned (named_function (naming model) func)) ≡ false
  names_known (Plain var) h = or_from _ _ (name_known var h) refl
  names_known (Affine f) h = terms_known f h
  names_known (PlainVec vars) h =
      none_made (naming model) (HasVariableAt model) (unknown others) name_known vars h
  names_known (AffineVec fs) h =
      list_any-flat_map (unknown others) names_of (map (named_affine (naming model)) fs)
      ∙ none_made (named_affine (naming model)) (HasTerms model)
      (λ f. list_any (unknown others) (names_of f)) terms_known fs h

  -- ---- its function is located as it was

  located_affine : (f : Function) → HasTerms model f
      → affine others (named_affine (naming model) f) ≡ f
  located_affine f h =
      ap (λ ts. gathered ts f.constant)
      (made_as (named_term (naming model)) (HasVariable model)
      (λ t. (address_named others t.variable, t.coefficient)) (λ t. t)
      (λ t there. ap (λ at. (at, t.1)) (address_there t.0 there)) (terms_of f) h
      ∙ map-id (terms_of f))
      ∙ gathered_is (terms_of f) f.constant (terms_rise f) ∙ function_of-terms f

  located_is : (func : UserFunc) → IsPlaced model func
      → located others (named_function (naming model) func) ≡ func
  located_is (Plain var) h = ap Plain (address_there var h)
  located_is (Affine f) h = ap Affine (located_affine f h)
  located_is (PlainVec vars) h =
      ap PlainVec (made_as (naming model) (HasVariableAt model) (address_named others) (λ at. at)
      address_there vars h ∙ map-id vars)
  located_is (AffineVec fs) h =
      ap AffineVec (made_as (named_affine (naming model)) (HasTerms model) (affine others)
      (λ f. f) located_affine fs h ∙ map-id fs)

  pub added : edited others (row_edit (naming model) r) ≡ add_row others r.name r.func r.set
  unfolding edited
  added = ap (λ f. add_row others r.name f r.set) (located_is r.func this_placed)

  -- ---- its name is free

  none_named : (rs : List Row) → All (λ s. r.name ≢ s.name) rs
      → list_any (λ s. bytes_eq s.name r.name) rs ≡ false
  none_named [] h = refl
  none_named (s ∷ rs) h =
      or_from _ _
      (other_name s.name r.name (λ e. All-head (λ s. r.name ≢ s.name) s rs h (sym e)))
      (none_named rs (All-tail (λ s. r.name ≢ s.name) s rs h))

  name_free : has_row_named others r.name ≡ false
  name_free =
      is_some-find (λ s. bytes_eq s.name r.name) rest
      ∙ none_named rest (AllPairs-head (λ r s. r.name ≢ s.name) r rest
      (subst (AllPairs {X = Row} (λ r s. r.name ≢ s.name)) whole valid.consistent.row_names))

  -- ---- its variable has no other such bound

  module _ (test : Set → Bool)
      (single : (n : ℕ) → bound_count test model.groups model.rows n ≤ 1) where
    abbrev bounds : ℕ → Row → Bool
    bounds n s = is_variable n s.func && test s.set

    no_more : (n : ℕ) → bounds n r ≡ true
        → count_by (bounds n) rest + cond (is_created_by test model.groups n) 1 0 ≤ 0
    no_more n this =
        let all = sum_by-cons (λ s. cond (bounds n s) 1 0) r rest in
        let one : 1 ≤ cond (bounds n r) 1 0 =
        subst (λ b. 1 ≤ cond b 1 0) (sym this) (omega arith) in
        let most : bound_count test model.groups (r ∷ rest) n ≤ 1 =
        subst (λ rs. bound_count test model.groups rs n ≤ 1) whole (single n) in
        omega (arith, most, all, one)

    unbound : (n : ℕ) → bounds n r ≡ true → has_bound test others n ≡ false
    unbound n this =
        let few = no_more n this in
        or_from _ _ (none_pass (bounds n) rest (omega (arith, few)))
        (none_there (is_created_by test model.groups n) (omega (arith, few)))

    bound_free : (func : UserFunc) → r.func ≡ func → IsPlaced model func
        → meets_bound_already_set test (has_bound test) others
        (edit.AddRow r.name (named_function (naming model) func) r.set)
        ≡ false
    bound_free (Plain at) e h =
        ap (λ o. test r.set && option_map_or (has_bound test others) o false) (number_there at h)
        ∙ unless _ _ (λ is. unbound h.var.number
        (and_from _ _ (ap (is_variable h.var.number) e
        ∙ (address_eq-Decides (variable_address h.var.number) at).1 h.address) is))
    bound_free (Affine f) e h = refl
    bound_free (PlainVec vars) e h = refl
    bound_free (AffineVec fs) e h = refl

  -- ---- no limit is passed

  size : named_components (named_function (naming model) r.func) ≡ components r.func
  size = function_size (naming model) [] r.func

  terms_fit : total_terms (add_row others r.name r.func r.set) ≤ ALL_TERMS
  terms_fit =
      let fits = valid.within.terms in
      let all : sum_by terms_in model.rows ≡ sum_by terms_in (r ∷ rest) =
      ap (sum_by terms_in) whole in
      let now = sum_by-append terms_in rest
      (record { id = model.next.row; name = r.name; func = r.func; set = r.set } ∷ []) in
      let first = sum_by-cons terms_in r rest in
      let one = sum_by-cons terms_in
      (record { id = model.next.row; name = r.name; func = r.func; set = r.set }) [] in
      omega (arith, fits, all, now, first, one)

  module _ (room : model.next.row ≤ LAST_NUMBER) where
    within_counts : AreCountsWithin (counts others (row_edit (naming model) r))
    within_counts =
        let few : All (λ n. n ≤ TERMS)
        (term_counts (located others (named_function (naming model) r.func))) =
        subst (λ f. All (λ n. n ≤ TERMS) (term_counts f)) (sym (located_is r.func this_placed))
        this_valid.terms in
        let limit = this_valid.limit in
        let rows = valid.within.rows in
        let total : length model.rows ≡ length (r ∷ rest) = ap length whole in
        let terms = terms_fit in
        let last = ap total_terms added in (
          omega (arith, limit, size),
          terms_within
              (term_counts (located others (named_function (naming model) r.func))) _ few
              (omega (arith, rows, total), (omega (arith, terms, last), (room, tt))),
        )

    passes : IsPassed others (row_edit (naming model) r)
    passes = record {
      known = or_from _ _ (names_known r.func this_placed) refl;
      free = name_free;
      shaped = same_shape _ _ (this_valid.shape ∙ sym (scalar_kept model r.func));
      dimension = ap (has_bad_dimension r.set) size
          ∙ good_dimension (components r.func) r.set this_valid.set;
      output = refl;
      interval = this_valid.set.uncrossed;
      lower = bound_free sets_lower valid.parts.lower r.func refl this_placed;
      upper = bound_free sets_upper valid.parts.upper r.func refl this_placed;
      of_type = refl;
      deletable = refl;
      counted = each_within (counts others (row_edit (naming model) r)) within_counts;
    }

    pub addition_accepted : first_refusal others (row_edit (naming model) r) ≡ None
    addition_accepted = accepted others (row_edit (naming model) r) passes
