-- What is written by index is what is written of the model that is read through the map.
use Rattle.std.specs.Prelude.{◌≡◌, ℕ, List, [], ◌∷◌, ◌++◌, All, IsSome, Option, Some, None, codes, filter_map, find, unwrap_or, refl}
use Rattle.std.specs.Prelude as prelude
use Rattle.std.specs.FinMap as finite
use Rattle.std.specs.FinMap.{FinMap}
use Rattle.std.specs.List.{cons_option}
use Rattle.std.specs.Option.{option_map, option_map_or}
use Rattle.std.specs.Ordering.{nat_cmp}
use Rattle.std.proofs.Common.{sym, ◌∙◌, ap, ap₂, subst, true≢false}
use Rattle.std.proofs.lemmas.List.{append-nil}
use Rattle.std.proofs.lemmas.List.Elements.{All-cons, All-head, All-nil, All-tail, All-weaker}
use Rattle.ratio_core.specs.Rational.{Rational, one_ℚ}
use Rattle.address_map.specs.AddressMap.{AddressMap}
use Rattle.address_map.specs.Places.{Indices}
use Rattle.aff_core.specs.Address.{Address, root_address}
use Rattle.aff_core.specs.declared.root.Root.TheVariants.{Variable}
use Rattle.aff_core.specs.Function.{gathered, terms_of, variable}
use Rattle.aff_core.specs.FunctionLaws.{terms-variable}
use Rattle.equality_form.specs.Equations.{equations_for}
use Rattle.leaf_model.specs.ReadThrough.{address_in, named, read_objective, read_row, read_through}
use Rattle.report_core.specs.Words.{newline}
use Rattle.set_core.specs.declared.set.Set.{Set}
use Rattle.solver_store.specs.SolverFunction.{SolverFunction}
use Rattle.solver_store.specs.SolverModel.{Leaves}
use Rattle.solver_store.specs.declared.leaf.LeafObjective.{LeafObjective}
use Rattle.solver_store.specs.declared.leaf.LeafObjective.TheVariants as objective
use Rattle.solver_store.specs.declared.leaf.LeafRow.{LeafRow}
use Rattle.solver_store.specs.declared.leaf.LeafRow.TheVariants as row
use Rattle.solver_store.specs.declared.leaf.LeafVar.{LeafVar}
use Rattle.std_form.specs.FormLaws.{names_named, objective_through}
use Rattle.std_form.specs.Indexed.{objective_in}
use Rattle.std_form.specs.NameLaws.{IsEntry, IsIndexNamed, IsTermIndexNamed, NamesNamed, entries_found}
use Rattle.std_form.specs.Readable.{IsReadable, IsReadableRow, NamesExactly, NamesUsed}
use Rattle.std_form.specs.ThroughLaws.{HasItsIndex, each_index, entries_through, leaves_with}
use Rattle.user_model.specs.Model.{ModelValue}
use Rattle.bridged_report.specs.Addresses.{address_text}
use Rattle.bridged_report.specs.Functions.{components_text, function_text}
use Rattle.bridged_report.specs.Indexed.{address_of, function_in, function_text_in, index_text, objective_line_in, row_line_in, row_text_at, row_text_in, term_in, text_in, variable_line_in}
use Rattle.bridged_report.specs.Lines.{bridged_text, body_text, in_order, joined, objective_line, row_line, sense_text, variable_line, variable_text}
use Rattle.bridged_report.specs.Sets.{set_text}
use Rattle.bridged_report.proofs.Naming.{has_index, none_has}

-- ---- functions

module _ (indices : Indices) where
  named_is : (i : ℕ) → IsIndexNamed indices i → address_of indices i ≡ Some (address_in indices i)
  named_is i n = by_found (find (has_index indices i) (finite.entries indices)) refl
    where
      by_found : (o : Option (Address × ℕ)) → find (has_index indices i) (finite.entries indices)
          ≡ o → option_map (λ e. e.0) o ≡ Some (unwrap_or (option_map (λ e. e.0) o)
          (root_address Variable i))
      by_found (Some e) is = refl
      by_found None is = absurd (none_has indices i n.0 is n.1)

  named_terms : (ts : List (ℕ × Rational)) → All (IsTermIndexNamed indices) ts
      → filter_map (term_in indices) ts ≡ prelude.map (λ t. (address_in indices t.0, t.1)) ts
  named_terms [] n = refl
  named_terms (t ∷ ts) n =
      ap₂ (λ o us. cons_option (option_map (λ at. (at, t.1)) o) us)
      (named_is t.0 (All-head (IsTermIndexNamed indices) t ts n))
      (named_terms ts (All-tail (IsTermIndexNamed indices) t ts n))

  function_read : (f : SolverFunction) → NamesNamed indices f
      → function_in indices f ≡ named indices f
  function_read f n = ap (λ ts. gathered ts f.constant) (named_terms (terms_of f) n)

  module _ (model : ModelValue) where
    index_read : (i : ℕ) → IsIndexNamed indices i → index_text model indices i
        ≡ address_text model (address_in indices i)
    index_read i n = ap (λ o. option_map_or (address_text model) o []) (named_is i n)

    components_read : (fs : List SolverFunction) → All (NamesNamed indices) fs
        → prelude.map (function_text_in model indices) fs ≡ prelude.map (function_text model)
        (prelude.map (named indices) fs)
    components_read [] n = refl
    components_read (f ∷ fs) n =
        ap₂ ◌∷◌ (ap (function_text model) (function_read f (All-head (NamesNamed indices) f fs n)))
        (components_read fs (All-tail (NamesNamed indices) f fs n))

-- ---- what is readable has names

module _ (map : AddressMap) (leaves : Leaves) (readable : IsReadable map leaves) where
  abbrev vars : Indices
  vars = map.vars.indices

  variable_named : (var : ℕ) → NamesUsed map leaves (variable var) → IsIndexNamed vars var
  variable_named var h =
      All-head (IsTermIndexNamed vars) (var, one_ℚ) []
      (subst (All (IsTermIndexNamed vars)) (terms-variable nat_cmp var) (names_named map leaves readable
      (variable var) h))

  components_named : (set : Set) (fs : List SolverFunction)
      → All (λ e. NamesUsed map leaves e.function) (equations_for set fs) → All (NamesNamed vars) fs
  components_named set [] h = All-nil (NamesNamed vars)
  components_named set (f ∷ fs) h =
      All-cons (NamesNamed vars) f fs
      (names_named map leaves readable f (All-head (λ e. NamesUsed map leaves e.function)
      (record { function = f; set = set }) (equations_for set fs) h))
      (components_named set fs (All-tail (λ e. NamesUsed map leaves e.function)
      (record { function = f; set = set }) (equations_for set fs) h))

  module _ (model : ModelValue) where
    row_read : (r : LeafRow) → IsReadableRow map leaves r
        → row_text_in model vars r ≡ body_text model (read_row vars r)
    row_read (row.Plain var set) h =
        ap (λ t. set_text set ++ codes " : 1*" ++ t)
        (index_read vars model var (variable_named var
        (All-head (λ e. NamesUsed map leaves e.function)
        (record { function = variable var; set = set }) [] h.names)))
    row_read (row.Affine f set) h =
        ap (λ g. set_text set ++ codes " : " ++ function_text model g)
        (function_read vars f (names_named map leaves readable f
        (All-head (λ e. NamesUsed map leaves e.function)
        (record { function = f; set = set }) [] h.names)))
    row_read (row.AffineVec fs set) h =
        ap (λ ts. set_text set ++ codes " : " ++ components_text ts)
        (components_read vars model fs (components_named set fs h.names))

    -- the lines of entries whose indices are in use
    rows_read : (es : List (Address × ℕ)) → All (λ e. IsSome (finite.get leaves.rows e.1)) es
        → All (HasItsIndex leaves.rows map.rows.indices) (leaves_with leaves.rows es)
        → prelude.map (row_line_in model vars leaves) es ≡ prelude.map (row_line model)
        (prelude.map (λ l. (l.0, read_row vars l.1.1)) (leaves_with leaves.rows es))
    rows_read [] used h = refl
    rows_read (e ∷ es) used h =
        by_leaf (finite.get leaves.rows e.1)
        (All-head (λ e. IsSome (finite.get leaves.rows e.1)) e es used) h
        (rows_read es (All-tail (λ e. IsSome (finite.get leaves.rows e.1)) e es used))
      where
        by_leaf : (o : Option LeafRow) → IsSome o → All (HasItsIndex leaves.rows map.rows.indices)
            (cons_option (option_map (λ x. (e.0, (e.1, x))) o) (leaves_with leaves.rows es))
            → (All (HasItsIndex leaves.rows map.rows.indices) (leaves_with leaves.rows es)
            → prelude.map (row_line_in model vars leaves) es ≡ prelude.map (row_line model)
            (prelude.map (λ l. (l.0, read_row vars l.1.1)) (leaves_with leaves.rows es)))
            → (e.0, option_map_or (row_text_at model vars e.0) o []) ∷ prelude.map (row_line_in
            model vars leaves) es
            ≡ prelude.map (row_line model) (prelude.map (λ l. (l.0, read_row vars l.1.1))
            (cons_option (option_map (λ x. (e.0, (e.1, x))) o) (leaves_with leaves.rows es)))
        by_leaf None some h rest = absurd (true≢false (sym some))
        by_leaf (Some r) some h rest =
            let own = All-head (HasItsIndex leaves.rows map.rows.indices) (e.0, (e.1, r))
            (leaves_with leaves.rows es) h in
            ap₂ ◌∷◌ (ap (λ t. (
              e.0,
              codes "row " ++ address_text model e.0 ++ codes " " ++ t
                  ++ newline,
            )) (row_read r (readable.each_row e.1 r own.1)))
            (rest (All-tail (HasItsIndex leaves.rows map.rows.indices) (e.0, (e.1, r))
            (leaves_with leaves.rows es) h))

    variables_read : (es : List (Address × ℕ)) → All (λ e. IsSome (finite.get leaves.vars e.1)) es
        → prelude.map (variable_line_in model vars leaves) es ≡ prelude.map (variable_line model)
        (prelude.map (λ l. (l.0, l.1.1)) (leaves_with leaves.vars es))
    variables_read [] used = refl
    variables_read (e ∷ es) used =
        by_leaf (finite.get leaves.vars e.1)
        (All-head (λ e. IsSome (finite.get leaves.vars e.1)) e es used)
        (variables_read es (All-tail (λ e. IsSome (finite.get leaves.vars e.1)) e es used))
      where
        by_leaf : (o : Option LeafVar) → IsSome o
            → prelude.map (variable_line_in model vars leaves) es
            ≡ prelude.map (variable_line model) (prelude.map (λ l. (l.0, l.1.1))
            (leaves_with leaves.vars es))
            → (e.0, option_map_or (variable_text model e.0) o []) ∷ prelude.map (variable_line_in
            model vars leaves) es
            ≡ prelude.map (variable_line model) (prelude.map (λ l. (l.0, l.1.1))
            (cons_option (option_map (λ x. (e.0, (e.1, x))) o) (leaves_with leaves.vars es)))
        by_leaf None some rest = absurd (true≢false (sym some))
        by_leaf (Some var) some rest = ap (λ ls. (e.0, variable_text model e.0 var) ∷ ls) rest

    objective_read : (at : Address) (o : Option LeafObjective)
        → NamesUsed map leaves (objective_in o) → objective_line_in model vars o
        ≡ joined (prelude.map (objective_line model)
        (option_map_or (λ x. (at, read_objective vars x) ∷ []) o []))
    objective_read at None h = refl
    objective_read at (Some (objective.Plain sense var)) h =
        ap (λ t. sense_text sense ++ codes " 1*" ++ t ++ newline)
        (index_read vars model var (variable_named var h))
        ∙ sym (append-nil (sense_text sense ++ codes " 1*" ++ address_text model
        (address_in vars var) ++ newline))
    objective_read at (Some (objective.Affine sense f)) h =
        ap (λ g. sense_text sense ++ codes " " ++ function_text model g ++ newline)
        (function_read vars f (names_named map leaves readable f h))
        ∙ sym (append-nil (sense_text sense ++ codes " " ++ function_text model
        (named vars f) ++ newline))

-- ---- the text

used : {X : Type 0} (indices : Indices) (leaves : FinMap nat_cmp X) → NamesExactly indices leaves
    → All (λ e. IsSome (finite.get leaves e.1)) (finite.entries indices)
used indices leaves exactly =
    All-weaker (IsEntry indices) (λ e. IsSome (finite.get leaves e.1))
    (λ e h. exactly.used e.0 e.1 h) (finite.entries indices) (entries_found indices)

pub text_read : (model : ModelValue) (map : AddressMap) (leaves : Leaves) (at : Address)
    → IsReadable map leaves → text_in model map leaves
    ≡ bridged_text model (read_through map leaves at)
unfolding text_in bridged_text
text_read model map leaves at readable =
    let variables = variables_read map leaves readable model (finite.entries map.vars.indices)
    (used map.vars.indices leaves.vars readable.vars)
    ∙ sym (ap (prelude.map (variable_line model))
    (entries_through leaves.vars (λ var. var) map.vars.indices)) in
    let rows = rows_read map leaves readable model (finite.entries map.rows.indices)
    (used map.rows.indices leaves.rows readable.rows) (each_index leaves.rows map.rows.indices)
    ∙ sym (ap (prelude.map (row_line model)) (entries_through leaves.rows
    (read_row map.vars.indices) map.rows.indices)) in
    let objective = objective_read map leaves readable model at leaves.objective readable.objective
    ∙ sym (ap (λ es. joined (prelude.map (objective_line model) es))
    (objective_through map leaves at)) in
    λ i. joined (in_order (variables i ++ rows i)) ++ objective i
