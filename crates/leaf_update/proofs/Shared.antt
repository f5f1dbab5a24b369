-- Rows and objectives are read alike through two maps that share the addresses of what they name.
use Rattle.std.specs.Prelude.{◌≡◌, ℕ, true, cond, [], All, Some, None, slice_index_or, unwrap_or}
use Rattle.std.specs.Cmp.{nat_cmp_total}
use Rattle.std.specs.FinMap as finite
use Rattle.std.proofs.Common.{sym, ap, ◌∙◌}
use Rattle.std.proofs.lemmas.Cmp.{tied_itself}
use Rattle.std.proofs.lemmas.List.Elements.{All-head, All-weaker}
use Rattle.std.proofs.lemmas.List.Sums.{AllPass-from_list_all}
use Rattle.std.proofs.lemmas.Option.{none-some, same_Some}
use Rattle.address_map.specs.Places.{AreIndicesOneToOne, Indices}
use Rattle.aff_core.specs.Address.{Address, address_cmp, address_total}
use Rattle.aff_core.specs.Function.{coefficient, gathered, terms_of, variable}
use Rattle.aff_core.specs.FunctionLaws.{coefficient-variable_same}
use Rattle.aff_core.specs.KeyOrder.{address_order, other_key}
use Rattle.aff_core.specs.Terms.{is_nonzero}
use Rattle.bridge_face.specs.Law.{Miss}
use Rattle.item_core.specs.Item.{functions_of}
use Rattle.item_core.specs.declared.item.Body.TheVariants.{Plain, Affine, AffineVec, PlainObj, AffineObj}
use Rattle.leaf_update.specs.Named.{ObjectiveNames, RowNames}
use Rattle.leaf_model.specs.ReadThrough.{address_in, named, read_objective, read_row}
use Rattle.map_laws.specs.EachLaws.{all_both, all_from_map, map_same_on}
use Rattle.map_laws.specs.EntryLaws.{find_at}
use Rattle.ratio_core.specs.Rational.{Rational, zero_ℚ}
use Rattle.rational_laws.specs.Field.{one_not_zero}
use Rattle.rational_laws.specs.Tests.{nonzero_from_test}
use Rattle.solver_store.specs.SolverFunction.{SolverFunction}
use Rattle.solver_store.specs.declared.leaf.LeafObjective.{LeafObjective}
use Rattle.solver_store.specs.declared.leaf.LeafObjective.TheVariants as objective
use Rattle.solver_store.specs.declared.leaf.LeafRow.{LeafRow}
use Rattle.solver_store.specs.declared.leaf.LeafRow.TheVariants as row
use Rattle.std_form.specs.NameLaws.{IsIndexNamed, NamesNamed, address_in_is, coefficient_named}

-- ---- maps that share an index

module _ (one other : Indices) where
  -- an address has the index in both
  pub record Shares (i : ℕ) : Type 0 where
    pub at : Address
    pub first : finite.get one at ≡ Some i
    pub second : finite.get other at ≡ Some i

  abbrev pub SharesFunction : SolverFunction → Type 0
  SharesFunction f = All (λ t. Shares t.0) (terms_of f)

  abbrev pub SharesRow : LeafRow → Type 0
  SharesRow (row.Plain var set) = Shares var
  SharesRow (row.Affine func set) = SharesFunction func
  SharesRow (row.AffineVec func set) = All SharesFunction func

  abbrev pub SharesObjective : LeafObjective → Type 0
  SharesObjective (objective.Plain sense var) = Shares var
  SharesObjective (objective.Affine sense func) = SharesFunction func

  module _ (first : AreIndicesOneToOne one) (second : AreIndicesOneToOne other) where
    same_address : (i : ℕ) → Shares i → address_in one i ≡ address_in other i
    same_address i s =
        address_in_is one first s.at i s.first ∙ sym (address_in_is other second s.at i s.second)

    same_function : (f : SolverFunction) → SharesFunction f → named one f ≡ named other f
    same_function f h =
        ap (λ ts. gathered ts f.constant)
        (map_same_on (λ (t : ℕ × Rational). (address_in one t.0, t.1)) (λ t. (address_in other t.0, t.1)) (terms_of f)
        (All-weaker (λ t. Shares t.0)
        (λ t. ◌≡◌ {A = Address × Rational} (address_in one t.0, t.1) (address_in other t.0, t.1))
        (λ t s. ap (λ a. (a, t.1)) (same_address t.0 s)) (terms_of f) h))

    pub same_row : (r : LeafRow) → SharesRow r → read_row one r ≡ read_row other r
    same_row (row.Plain var set) h = ap (λ a. Plain a set) (same_address var h)
    same_row (row.Affine func set) h = ap (λ f. Affine f set) (same_function func h)
    same_row (row.AffineVec func set) h =
        ap (λ fs. AffineVec fs set)
        (map_same_on (named one) (named other) func
        (All-weaker SharesFunction (λ f. named one f ≡ named other f)
        (λ f k. same_function f k) func h))

    pub same_objective : (o : LeafObjective) → SharesObjective o
        → read_objective one o ≡ read_objective other o
    same_objective (objective.Plain sense var) h = ap (PlainObj sense) (same_address var h)
    same_objective (objective.Affine sense func) h = ap (AffineObj sense) (same_function func h)

  -- so all is named in both
  named_second : (i : ℕ) → Shares i → IsIndexNamed other i
  named_second i s = (s.at, s.second)

  function_named : (f : SolverFunction) → SharesFunction f → NamesNamed other f
  function_named f h =
      All-weaker (λ t. Shares t.0) (λ t. IsIndexNamed other t.0) (λ t s. named_second t.0 s) (terms_of f)
      h

  pub row_named : (r : LeafRow) → SharesRow r → RowNames other r
  row_named (row.Plain var set) h = named_second var h
  row_named (row.Affine func set) h = function_named func h
  row_named (row.AffineVec func set) h =
      All-weaker SharesFunction (NamesNamed other) (λ f k. function_named f k) func h

  pub objective_named : (o : LeafObjective) → SharesObjective o → ObjectiveNames other o
  objective_named (objective.Plain sense var) h = named_second var h
  objective_named (objective.Affine sense func) h = function_named func h

-- ---- one address more

module _ (indices : Indices) (at : Address) (i : ℕ) (absent : finite.get indices at ≡ None) where
  grown : (j : ℕ) → IsIndexNamed indices j → Shares indices (finite.insert indices at i) j
  grown j n = record {
    at = n.0;
    first = n.1;
    second = finite.get-insert address_total indices at i n.0
        ∙ ap (λ b. cond b (Some i) (finite.get indices n.0))
        (other_key address_order n.0 at (λ e. none-some j
        (sym absent ∙ ap (finite.get indices) (sym e) ∙ n.1)))
        ∙ n.1;
  }

  grown_function : (f : SolverFunction) → NamesNamed indices f
      → SharesFunction indices (finite.insert indices at i) f
  grown_function f h =
      All-weaker (λ t. IsIndexNamed indices t.0)
      (λ t. Shares indices (finite.insert indices at i) t.0) (λ t n. grown t.0 n) (terms_of f) h

  -- a row that was read before is read alike once an address is added
  pub grown_row : (r : LeafRow) → RowNames indices r
      → SharesRow indices (finite.insert indices at i) r
  grown_row (row.Plain var set) h = grown var h
  grown_row (row.Affine func set) h = grown_function func h
  grown_row (row.AffineVec func set) h =
      All-weaker (NamesNamed indices) (SharesFunction indices (finite.insert indices at i))
      (λ f k. grown_function f k) func h

  pub grown_objective : (o : LeafObjective) → ObjectiveNames indices o
      → SharesObjective indices (finite.insert indices at i) o
  grown_objective (objective.Plain sense var) h = grown var h
  grown_objective (objective.Affine sense func) h = grown_function func h

-- ---- one address less

terms_named : (f : SolverFunction)
    → All (λ t. ¬ (coefficient f t.0 ≡ zero_ℚ)) (terms_of f)
terms_named f =
    All-weaker (λ t. (coefficient f t.0 ≡ t.1) × (is_nonzero t ≡ true))
    (λ t. ¬ (coefficient f t.0 ≡ zero_ℚ))
    (λ t k e. nonzero_from_test t.1 k.1 (sym k.0 ∙ e)) (terms_of f)
    (all_both (λ t. coefficient f t.0 ≡ t.1) (λ t. is_nonzero t ≡ true) (terms_of f) each
    (AllPass-from_list_all is_nonzero (terms_of f) f.nonzero))
  where
    each : All (λ t. coefficient f t.0 ≡ t.1) (terms_of f)
    each = λ k d end.
        ap (λ o. unwrap_or o zero_ℚ)
        (finite.get-entries f.terms (slice_index_or (terms_of f) k d).0
        ∙ find_at nat_cmp_total (slice_index_or (terms_of f) k d).0 (terms_of f) k d
        (finite.entries_sorted f.terms) end
        (tied_itself nat_cmp_total (slice_index_or (terms_of f) k d).0))

module _ (indices : Indices) (one : AreIndicesOneToOne indices) (at : Address) (i : ℕ)
    (here : finite.get indices at ≡ Some i) where
  shrunk : (j : ℕ) → IsIndexNamed indices j → ¬ (j ≡ i)
      → Shares indices (finite.remove indices at) j
  shrunk j n other = record {
    at = n.0;
    first = n.1;
    second = finite.get-remove address_total indices at n.0
        ∙ ap (λ b. cond b None (finite.get indices n.0))
        (other_key address_order n.0 at (λ e. other
        (same_Some j i (sym n.1 ∙ ap (finite.get indices) e ∙ here))))
        ∙ n.1;
  }

  shrunk_function : (f : SolverFunction) → NamesNamed indices f
      → coefficient (named indices f) at ≡ zero_ℚ
      → SharesFunction indices (finite.remove indices at) f
  shrunk_function f h misses =
      All-weaker (λ t. IsIndexNamed indices t.0 × (¬ (coefficient f t.0 ≡ zero_ℚ)))
      (λ t. Shares indices (finite.remove indices at) t.0)
      (λ t k. shrunk t.0 k.0 (λ e. k.1 (ap (coefficient f) e
      ∙ sym (coefficient_named indices one f at i here h) ∙ misses)))
      (terms_of f)
      (all_both (λ t. IsIndexNamed indices t.0) (λ t. ¬ (coefficient f t.0 ≡ zero_ℚ)) (terms_of f) h
      (terms_named f))

  shrunk_variable : (var : ℕ) → IsIndexNamed indices var
      → coefficient (variable {R = address_cmp} (address_in indices var)) at ≡ zero_ℚ
      → Shares indices (finite.remove indices at) var
  shrunk_variable var n misses =
      shrunk var n (λ e. one_not_zero
      (sym (coefficient-variable_same address_order at)
      ∙ ap (λ a. coefficient (variable {R = address_cmp} a) at)
      (sym (ap (address_in indices) e ∙ address_in_is indices one at i here))
      ∙ misses))

  -- a row that doesn't name the variable is read alike once that is taken out
  pub shrunk_row : (r : LeafRow) → RowNames indices r → Miss (functions_of (read_row indices r)) at
      → SharesRow indices (finite.remove indices at) r
  shrunk_row (row.Plain var set) h miss =
      shrunk_variable var h (All-head (λ f. coefficient f at ≡ zero_ℚ) _ [] miss)
  shrunk_row (row.Affine func set) h miss =
      shrunk_function func h (All-head (λ f. coefficient f at ≡ zero_ℚ) _ [] miss)
  shrunk_row (row.AffineVec func set) h miss =
      All-weaker (λ f. NamesNamed indices f × (coefficient (named indices f) at ≡ zero_ℚ))
      (SharesFunction indices (finite.remove indices at))
      (λ f k. shrunk_function f k.0 k.1) func
      (all_both (NamesNamed indices) (λ f. coefficient (named indices f) at ≡ zero_ℚ) func h
      (all_from_map (λ f. coefficient f at ≡ zero_ℚ) (named indices) func miss))

  pub shrunk_objective : (o : LeafObjective) → ObjectiveNames indices o
      → Miss (functions_of (read_objective indices o)) at
      → SharesObjective indices (finite.remove indices at) o
  shrunk_objective (objective.Plain sense var) h miss =
      shrunk_variable var h (All-head (λ f. coefficient f at ≡ zero_ℚ) _ [] miss)
  shrunk_objective (objective.Affine sense func) h miss =
      shrunk_function func h (All-head (λ f. coefficient f at ≡ zero_ℚ) _ [] miss)
