-- How the solver's model is kept: in two slabs, an objective and a count.
use Rattle.std.specs.Prelude.{ℕ, ◌-◌}
use Rattle.std.specs.FinMap as finite
use Rattle.std.specs.FinMap.{FinMap}
use Rattle.std.specs.Ordering.{nat_cmp}
use Rattle.slab.specs.Slab.{Slab, entries, slab_len}
use Rattle.solver_store.specs.SolverModel.{Leaves, StoredLeaves}
use Rattle.solver_store.specs.declared.model.SolverModel.TheInside.{Inside}

-- the values by their keys
abbrev pub by_key : {X : Type 0} → Slab X → FinMap nat_cmp X
by_key s = finite.from_entries (entries s)

-- how many values more fit without memory
abbrev pub room : {X : Type 0} → Slab X → ℕ
room s = s.capacity - slab_len s

abbrev pub leaves_in : Inside → Leaves
leaves_in a = record {
  vars = by_key a.vars;
  rows = by_key a.rows;
  objective = a.objective;
  calls = a.calls;
}

abbrev pub stored_in : Inside → StoredLeaves
stored_in a = record {
  leaves = leaves_in a;
  spare_vars = room a.vars;
  spare_rows = room a.rows;
}
