-- A solver's model whose map names each of its leaves can be made into a form where it is native.
use Rattle.std.specs.Prelude.{◌≡◌, ℕ, Bool, true, false, cond, List, [], ◌∷◌, All, IfSome, IsSome, Option, Some, None, option_and_then, refl}
use Rattle.std.specs.FinMap as finite
use Rattle.std.specs.FinMap.{find}
use Rattle.std.specs.Option.{option_map}
use Rattle.std.specs.Ordering.{nat_cmp}
use Rattle.std.proofs.Common.{sym, ◌∙◌, ap, subst}
use Rattle.std.proofs.lemmas.List.Elements.{All-cons, All-head, All-map, All-nil, All-tail, All-weaker}
use Rattle.std.proofs.lemmas.Option.{none-some, same_Some}
use Rattle.ratio_core.specs.Rational.{one_ℚ, zero_ℚ}
use Rattle.address_map.specs.AddressMap.{AddressMap}
use Rattle.aff_core.specs.Address.{Address, address_cmp, address_eq, address_eq-Decides}
use Rattle.aff_core.specs.Function.{terms_of, variable}
use Rattle.aff_core.specs.FunctionLaws.{terms-constant_function, terms-variable}
use Rattle.equality_form.specs.Native.{IsNativeModel, IsNativeRow}
use Rattle.leaf_update.specs.Named.{NamesEach, ObjectiveNames, RowNames}
use Rattle.leaf_model.specs.ReadThrough.{read_row, read_through}
use Rattle.map_laws.specs.OptionLaws.{some_is}
use Rattle.solver_store.specs.SolverFunction.{SolverFunction}
use Rattle.solver_store.specs.SolverModel.{Leaves}
use Rattle.solver_store.specs.declared.leaf.LeafObjective.{LeafObjective}
use Rattle.solver_store.specs.declared.leaf.LeafObjective.TheVariants as objective
use Rattle.solver_store.specs.declared.leaf.LeafRow.{LeafRow}
use Rattle.solver_store.specs.declared.leaf.LeafRow.TheVariants as row
use Rattle.std_form.specs.Indexed.{SolverEquation, equations_in, objective_in}
use Rattle.std_form.specs.NameLaws.{IsIndexNamed, IsTermIndexNamed, NamesNamed}
use Rattle.std_form.specs.Readable.{IsReadable, NamesUsed}
use Rattle.std_form.specs.ThroughLaws.{get_through}

-- what is found among entries is one of them
pub found_passes : {X : Type 0} (P : Address × X → Type 0) (es : List (Address × X)) (v : Address)
    (x : X) → All P es → find address_cmp v es ≡ Some x → P (v, x)
found_passes P [] v x h e = absurd (none-some x e)
found_passes P (f ∷ es) v x h e =
    by (address_eq v f.0) refl e (found_passes P es v x (All-tail P f es h))
  where
    by : (b : Bool) → address_eq v f.0 ≡ b → cond b (Some f.1) (find address_cmp v es) ≡ Some x
        → (find address_cmp v es ≡ Some x → P (v, x)) → P (v, x)
    by true same is later =
        subst P (λ i. (sym ((address_eq-Decides v f.0).0 same) i, same_Some f.1 x is i))
        (All-head P f es h)
    by false other is later = later is

module _ (places : AddressMap) (leaves : Leaves) (names : NamesEach places leaves) where
  used_term : (i : ℕ) → IsIndexNamed places.vars.indices i → IsSome (finite.get leaves.vars i)
  used_term i n = names.vars.used n.0 i n.1

  used_function : (f : SolverFunction) → NamesNamed places.vars.indices f
      → NamesUsed places leaves f
  used_function f h =
      All-weaker (IsTermIndexNamed places.vars.indices) (λ t. IsSome (finite.get leaves.vars t.0))
      (λ t n. used_term t.0 n) (terms_of f) h

  used_variable : (var : ℕ) → IsIndexNamed places.vars.indices var
      → NamesUsed places leaves (variable var)
  used_variable var n =
      subst (All (λ t. IsSome (finite.get leaves.vars t.0))) (sym (terms-variable nat_cmp var))
      (All-cons (λ t. IsSome (finite.get leaves.vars t.0)) (var, one_ℚ) [] (used_term var n)
      (All-nil (λ t. IsSome (finite.get leaves.vars t.0))))

  abbrev UsesVariables : SolverEquation → Type 0
  UsesVariables e = NamesUsed places leaves e.function

  used_row : (r : LeafRow) → RowNames places.vars.indices r → All UsesVariables (equations_in r)
  used_row (row.Plain var set) n =
      All-cons UsesVariables (record { function = variable var; set = set }) []
      (used_variable var n) (All-nil UsesVariables)
  used_row (row.Affine func set) n =
      All-cons UsesVariables (record { function = func; set = set }) [] (used_function func n)
      (All-nil UsesVariables)
  used_row (row.AffineVec func set) n =
      All-map UsesVariables (λ f. record { function = f; set = set }) func
      (All-weaker (NamesNamed places.vars.indices)
      (λ f. UsesVariables (record { function = f; set = set })) used_function func n)

  used_objective : (o : Option LeafObjective) → IfSome o (ObjectiveNames places.vars.indices)
      → NamesUsed places leaves (objective_in o)
  used_objective None n =
      subst (All (λ t. IsSome (finite.get leaves.vars t.0)))
      (sym (terms-constant_function nat_cmp zero_ℚ))
      (All-nil (λ t. IsSome (finite.get leaves.vars t.0)))
  used_objective (Some (objective.Plain sense var)) n = used_variable var n
  used_objective (Some (objective.Affine sense func)) n = used_function func n

  -- a row at its address
  read_at : (i : ℕ) (r : LeafRow) → finite.get leaves.rows i ≡ Some r
      → (at : Address) → finite.get places.rows.indices at ≡ Some i → (a : Address)
      → finite.get (read_through places leaves a).rows at ≡ Some (read_row places.vars.indices r)
  read_at i r e at is a =
      get_through leaves.rows (read_row places.vars.indices) places.rows.indices at
      ∙ ap (option_and_then (λ j. option_map (read_row places.vars.indices)
      (finite.get leaves.rows j))) is
      ∙ ap (option_map (read_row places.vars.indices)) e

  pub readable : (at : Address) → IsNativeModel (read_through places leaves at)
      → IsReadable places leaves
  readable at native = record {
    vars = names.vars;
    rows = names.rows;
    each_row = λ i r e. record {
      native = row_native i r e (names.rows.named i (some_is (finite.get leaves.rows i) r e));
      names = used_row r (names.each_row i r e);
    };
    objective = used_objective leaves.objective names.objective;
  }
    where
      row_native : (i : ℕ) (r : LeafRow) → finite.get leaves.rows i ≡ Some r
          → (a : Address) × (finite.get places.rows.indices a ≡ Some i)
          → IsNativeRow (read_row places.vars.indices r)
      row_native i r e named =
          found_passes (λ e. IsNativeRow e.1) (finite.entries (read_through places leaves at).rows)
          named.0 (read_row places.vars.indices r) native.rows
          (sym (finite.get-entries (read_through places leaves at).rows named.0)
          ∙ read_at i r e named.0 named.1 at)
