-- What is read through a map is a native model, where the map and the solver's model belong
-- together.
use Rattle.std.specs.Prelude.{◌≡◌, ◌≢◌, ℕ, Bool, true, false, ◌&&◌, not, IsTrue, List, [], ◌∷◌, All, IsSome, Option, Some, None, option_and_then, unwrap_or, refl}
use Rattle.std.specs.FinMap as finite
use Rattle.std.specs.FinMap.{FinMap}
use Rattle.std.specs.FinMap.Entries.{find}
use Rattle.std.specs.List.{list_all}
use Rattle.std.specs.Option.{option_map, option_map_or}
use Rattle.std.specs.Ordering.{nat_cmp}
use Rattle.std.proofs.Common.{sym, ◌∙◌, ap, subst, true≢false}
use Rattle.std.proofs.lemmas.List.Elements.{All-cons, All-map, All-nil, All-weaker}
use Rattle.std.proofs.lemmas.Option.{none-some}
use Rattle.ratio_core.specs.Rational.{Rational, rational_eq, zero_ℚ}
use Rattle.ratio_core.specs.RationalLaws.{eq_rational_eq}
use Rattle.address_map.specs.AddressMap.{AddressMap}
use Rattle.address_map.specs.Places.{AreIndicesOneToOne, Indices}
use Rattle.aff_core.specs.Address.{Address, address_cmp}
use Rattle.aff_core.specs.Function.{terms_of, variable}
use Rattle.aff_core.specs.FunctionLaws.{coefficient-gathered, coefficient_in-terms_of}
use Rattle.aff_core.specs.KeyOrder.{address_order}
use Rattle.aff_core.specs.Terms.{is_nonzero}
use Rattle.equality_form.specs.FeasibleLaws.{by_row}
use Rattle.equality_form.specs.Native.{IsNativeModel, IsNativeRow, NamesVariables}
use Rattle.item_core.specs.declared.item.Body.{Body}
use Rattle.item_core.specs.Item.{functions_of}
use Rattle.leaf_model.specs.LeafModel.{LeafModel}
use Rattle.leaf_model.specs.ReadThrough.{address_in, named, named_terms, read_objective, read_row, read_through}
use Rattle.map_laws.specs.OptionLaws.{not_some}
use Rattle.solver_store.specs.SolverFunction.{SolverFunction}
use Rattle.solver_store.specs.SolverModel.{Leaves}
use Rattle.solver_store.specs.declared.leaf.LeafObjective.{LeafObjective}
use Rattle.solver_store.specs.declared.leaf.LeafObjective.TheVariants as objective
use Rattle.solver_store.specs.declared.leaf.LeafVar.{LeafVar}
use Rattle.std_form.specs.FormLaws.{IsNamedFunction, equations_named, equations_through, names_named, named_equation, objective_through}
use Rattle.std_form.specs.Indexed.{equations_of, objective_in}
use Rattle.std_form.specs.NameLaws.{IsTermIndexNamed, address_in_is, all_found, at_place, found_place, variable_named}
use Rattle.std_form.specs.Readable.{IsReadable, NamesExactly}
use Rattle.std_form.specs.ThroughLaws.{HasItsIndex, each_index, entries_through, get_through, leaves_with}

-- ---- nothing is named where nothing is

pub exact_empty : {X : Type 0} (indices : Indices) (leaves : FinMap nat_cmp X)
    → indices ≡ finite.empty → leaves ≡ finite.empty → NamesExactly indices leaves
exact_empty {X} indices leaves none unused = record {
  used = λ at i e. absurd
      (none-some i (sym (ap (λ m. finite.get m at) none ∙ finite.get-empty address_cmp at) ∙ e));
  named = λ i h. absurd
      (not_some (finite.get leaves i)
      (ap (λ m. finite.get m i) unused ∙ finite.get-empty nat_cmp i) h);
}

-- ---- terms aren't 0

nonzero : (ts : List (Address × Rational)) → IsTrue (list_all is_nonzero ts)
    → All (λ t. t.1 ≢ zero_ℚ) ts
nonzero [] h = All-nil (λ t. t.1 ≢ zero_ℚ)
nonzero (t ∷ ts) h = by_test (not (rational_eq t.1 zero_ℚ)) refl (λ k. nonzero ts k) h
  where
    by_test : (b : Bool) → not (rational_eq t.1 zero_ℚ) ≡ b
        → (IsTrue (list_all is_nonzero ts) → All (λ t. t.1 ≢ zero_ℚ) ts)
        → IsTrue (b && list_all is_nonzero ts) → All (λ t. t.1 ≢ zero_ℚ) (t ∷ ts)
    by_test true e rest h =
        All-cons (λ t. t.1 ≢ zero_ℚ) t ts
        (λ k. true≢false (sym e ∙ ap not (eq_rational_eq t.1 zero_ℚ k))) (rest h)
    by_test false e rest h = absurd (true≢false (sym h))

module _ (map : AddressMap) (leaves : Leaves) (one : AreIndicesOneToOne map.vars.indices)
    (readable : IsReadable map leaves) where
  -- the address has an index
  abbrev HasIndex : Address → Type 0
  HasIndex a = (i : ℕ) × (finite.get map.vars.indices a ≡ Some i)

  abbrev renamed : List (ℕ × Rational) → List (Address × Rational)
  renamed ts = named_terms map.vars.indices ts

  renamed_have : (ts : List (ℕ × Rational)) → All (IsTermIndexNamed map.vars.indices) ts
      → All (λ t. HasIndex t.0) (renamed ts)
  renamed_have ts h =
      All-map (λ t. HasIndex t.0) (λ t. (address_in map.vars.indices t.0, t.1)) ts
      (All-weaker (IsTermIndexNamed map.vars.indices) (λ t. HasIndex (address_in map.vars.indices t.0))
      (λ t n. (
        t.0,
        ap (finite.get map.vars.indices)
            (address_in_is map.vars.indices one n.0 t.0 n.1) ∙ n.1,
      )) ts h)

  named_have : (f : SolverFunction) → IsNamedFunction map leaves f
      → All (λ t. HasIndex t.0) (terms_of (named map.vars.indices f))
  named_have f n =
      All-weaker (λ t. (t.1 ≢ zero_ℚ)
      × (find address_cmp t.0 (terms_of (named map.vars.indices f)) ≡ Some t.1))
      (λ t. HasIndex t.0)
      each (terms_of (named map.vars.indices f))
      (λ k d h. (
        nonzero (terms_of (named map.vars.indices f)) (named map.vars.indices f).nonzero k
            d h,
        all_found (terms_of (named map.vars.indices f))
            (finite.entries_sorted (named map.vars.indices f).terms) k d h,
      ))
    where
      each : (t : Address × Rational)
          → (t.1 ≢ zero_ℚ) × (find address_cmp t.0 (terms_of (named map.vars.indices f)) ≡ Some t.1)
          → HasIndex t.0
      each t h = by_found (find address_cmp t.0 (renamed (terms_of f))) refl
        where
          is_term : unwrap_or (find address_cmp t.0 (renamed (terms_of f))) zero_ℚ ≡ t.1
          is_term =
              sym (coefficient-gathered address_order (renamed (terms_of f)) f.constant t.0)
              ∙ sym (coefficient_in-terms_of (named map.vars.indices f) t.0)
              ∙ ap (λ o. unwrap_or o zero_ℚ) h.1

          by_found : (o : Option Rational) → find address_cmp t.0 (renamed (terms_of f)) ≡ o
              → HasIndex t.0
          by_found None e = absurd (h.0 (sym is_term ∙ ap (λ o. unwrap_or o zero_ℚ) e))
          by_found (Some q) e =
              let place = found_place (renamed (terms_of f)) t.0 q e in
              at_place (λ t. HasIndex t.0) (renamed (terms_of f)) place.0 (t.0, q)
              (renamed_have (terms_of f) n) place.1

  module _ (at : Address) where
    through : LeafModel
    through = read_through map leaves at

    stands : (a : Address) → HasIndex a → IsSome (finite.get through.variables a)
    unfolding through
    stands a h =
        subst IsSome (sym (get_through leaves.vars (λ var. var) map.vars.indices a
        ∙ ap (option_and_then (λ i. option_map (λ var. var) (finite.get leaves.vars i))) h.1))
        (some_mapped (finite.get leaves.vars h.0) (readable.vars.used a h.0 h.1))
      where
        some_mapped : (o : Option LeafVar) → IsSome o → IsSome (option_map (λ var. var) o)
        some_mapped None k = k
        some_mapped (Some var) k = k

    names : (f : SolverFunction) → IsNamedFunction map leaves f
        → NamesVariables through (named map.vars.indices f)
    names f n =
        All-weaker (λ t. HasIndex t.0) (λ t. IsSome (finite.get through.variables t.0))
        (λ t h. stands t.0 h) (terms_of (named map.vars.indices f)) (named_have f n)

    names_objective : (o : Option LeafObjective) → IsNamedFunction map leaves (objective_in o)
        → All {X = Address
        × Body} (λ objective. All (NamesVariables through) (functions_of objective.1))
        (option_map_or (λ x. (at, read_objective map.vars.indices x) ∷ []) o [])
    names_objective None n =
        All-nil (λ objective. All (NamesVariables through) (functions_of objective.1))
    names_objective (Some (objective.Plain sense var)) n =
        All-cons (λ objective. All (NamesVariables through) (functions_of objective.1))
        (at, read_objective map.vars.indices (objective.Plain sense var)) []
        (All-cons (NamesVariables through) (variable (address_in map.vars.indices var)) []
        (subst (NamesVariables through) (variable_named map.vars.indices var)
        (names (variable var) n)) (All-nil (NamesVariables through)))
        (All-nil (λ objective. All (NamesVariables through) (functions_of objective.1)))
    names_objective (Some (objective.Affine sense func)) n =
        All-cons (λ objective. All (NamesVariables through) (functions_of objective.1))
        (at, read_objective map.vars.indices (objective.Affine sense func)) []
        (All-cons (NamesVariables through) (named map.vars.indices func) [] (names func n)
        (All-nil (NamesVariables through)))
        (All-nil (λ objective. All (NamesVariables through) (functions_of objective.1)))

    pub is_native : IsNativeModel (read_through map leaves at)
    unfolding through
    is_native = record {
      rows =
          subst (All (λ row. IsNativeRow row.1)) (sym (entries_through leaves.rows
          (read_row map.vars.indices) map.rows.indices))
          (All-map (λ row. IsNativeRow row.1) (λ l. (l.0, read_row map.vars.indices l.1.1))
          (leaves_with leaves.rows (finite.entries map.rows.indices))
          (All-weaker (HasItsIndex leaves.rows map.rows.indices)
          (λ l. IsNativeRow (read_row map.vars.indices l.1.1))
          (λ l h. (readable.each_row l.1.0 l.1.1 h.1).native)
          (leaves_with leaves.rows (finite.entries map.rows.indices))
          (each_index leaves.rows map.rows.indices)));
      row_names =
          by_row (λ e. NamesVariables (read_through map leaves at) e.function)
          (finite.entries (read_through map leaves at).rows)
          (subst (All (λ e. NamesVariables (read_through map leaves at) e.function))
          (sym (equations_through map leaves at))
          (All-map (λ e. NamesVariables (read_through map leaves at) e.function)
          (named_equation map.vars.indices) (equations_of map leaves)
          (All-weaker (λ e. IsNamedFunction map leaves e.function)
          (λ e. NamesVariables (read_through map leaves at) (named map.vars.indices e.function))
          (λ e n. names e.function n)
          (equations_of map leaves) (equations_named map leaves readable))));
      objective_names =
          subst (All (λ objective. All (NamesVariables (read_through map leaves at))
          (functions_of objective.1))) (sym (objective_through map leaves at))
          (names_objective leaves.objective (names_named map leaves readable
          (objective_in leaves.objective) readable.objective));
    }
