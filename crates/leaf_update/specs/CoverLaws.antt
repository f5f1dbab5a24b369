-- The addresses of a map are exactly those at which leaves are read through it.
use Rattle.std.specs.Prelude.{◌≡◌, ◌||◌, ℕ, Bool, true, false, cond, [], ◌∷◌, IsSome, is_some, Option, Some, None, option_and_then, refl}
use Rattle.std.specs.FinMap as finite
use Rattle.std.specs.Option.{option_map, option_map_or}
use Rattle.std.proofs.Common.{ap, sym, ◌∙◌}
use Rattle.address_map.specs.AddressMap.{AddressMap}
use Rattle.address_map.specs.Places.{Indices, addresses}
use Rattle.aff_core.specs.Address.{Address, address_cmp, address_eq, address_total}
use Rattle.item_core.specs.declared.item.Body.{Body}
use Rattle.leaf_update.specs.Named.{NamesEach}
use Rattle.leaf_update.specs.Others.{among, objective_addresses}
use Rattle.leaf_update.specs.Puts.{rows_in, variables_in}
use Rattle.leaf_model.specs.ReadThrough.{read_objective, read_row, read_through}
use Rattle.map_laws.specs.OptionLaws.{not_some}
use Rattle.solver_store.specs.SolverModel.{Leaves}
use Rattle.solver_store.specs.declared.leaf.LeafObjective.{LeafObjective}
use Rattle.solver_store.specs.declared.leaf.LeafRow.{LeafRow}
use Rattle.solver_store.specs.declared.leaf.LeafVar.{LeafVar}
use Rattle.std_form.specs.ThroughLaws.{get_through}

-- an index stands exactly where a variable is read
pub read_where : (map : AddressMap) (leaves : Leaves) → NamesEach map leaves → (q : Address)
    → is_some (finite.get map.vars.indices q) ≡ is_some (finite.get (variables_in map leaves) q)
read_where map leaves names q =
    by (finite.get map.vars.indices q) refl
    ∙ sym (ap is_some (get_through leaves.vars (λ v. v) map.vars.indices q))
  where
    at_index : (i : ℕ) (o : Option LeafVar) → finite.get leaves.vars i ≡ o
        → IsSome (finite.get leaves.vars i) → is_some (Some i) ≡ is_some (option_map (λ v. v) o)
    at_index i None e h = absurd (not_some (finite.get leaves.vars i) e h)
    at_index i (Some x) e h = refl

    by : (o : Option ℕ) → finite.get map.vars.indices q ≡ o
        → is_some o
        ≡ is_some (option_and_then (λ j. option_map (λ v. v) (finite.get leaves.vars j)) o)
    by None e = refl
    by (Some i) e = at_index i (finite.get leaves.vars i) refl (names.vars.used q i e)

-- an index stands where a row is read
pub row_where : (map : AddressMap) (leaves : Leaves) → NamesEach map leaves → (q : Address)
    → is_some (finite.get map.rows.indices q) ≡ is_some (finite.get (rows_in map leaves) q)
row_where map leaves names q =
    by (finite.get map.rows.indices q) refl
    ∙ sym (ap is_some (get_through leaves.rows (read_row map.vars.indices) map.rows.indices q))
  where
    at_index : (i : ℕ) (o : Option LeafRow) → finite.get leaves.rows i ≡ o
        → IsSome (finite.get leaves.rows i)
        → is_some (Some i) ≡ is_some (option_map (read_row map.vars.indices) o)
    at_index i None e h = absurd (not_some (finite.get leaves.rows i) e h)
    at_index i (Some x) e h = refl

    by : (o : Option ℕ) → finite.get map.rows.indices q ≡ o
        → is_some o
        ≡ is_some (option_and_then (λ j. option_map (read_row map.vars.indices)
        (finite.get leaves.rows j)) o)
    by None e = refl
    by (Some i) e = at_index i (finite.get leaves.rows i) refl (names.rows.used q i e)

-- the addresses of indices, each of which has one
pub indices_among : (indices : Indices) (q : Address)
    → is_some (finite.get indices q) ≡ among (addresses indices) q
indices_among indices q = finite.contains_key-keys indices q

module _ (places : AddressMap) (leaves : Leaves) (at : Address) (names : NamesEach places leaves) where
  pub variables_cover : (q : Address)
      → is_some (finite.get (variables_in places leaves) q) ≡ among (addresses places.vars.indices) q
  variables_cover q = sym (read_where places leaves names q) ∙ indices_among places.vars.indices q

  pub rows_cover : (q : Address)
      → is_some (finite.get (rows_in places leaves) q) ≡ among (addresses places.rows.indices) q
  rows_cover q = sym (row_where places leaves names q) ∙ indices_among places.rows.indices q

  pub objective_covers : (q : Address)
      → is_some (finite.get (read_through places leaves at).objective q) ≡ among (objective_addresses leaves at) q
  objective_covers q = by leaves.objective
    where
      none : is_some (finite.get (finite.empty {X = Body} {R = address_cmp}) q) ≡ false
      none = ap is_some (finite.get-empty address_cmp q)

      same : (o : LeafObjective) (b : Bool)
          → is_some (cond b (Some (read_objective places.vars.indices o))
          (finite.get (finite.empty {R = address_cmp}) q)) ≡ (b || false)
      same o true = refl
      same o false = none

      by : (o : Option LeafObjective)
          → is_some (finite.get (option_map_or (λ p. finite.insert (finite.empty {R = address_cmp}) at
          (read_objective places.vars.indices p)) o finite.empty) q)
          ≡ among (option_map_or (λ p. at ∷ []) o []) q
      by None = none
      by (Some o) =
          ap is_some (finite.get-insert address_total finite.empty at
          (read_objective places.vars.indices o) q) ∙ same o (address_eq q at)
