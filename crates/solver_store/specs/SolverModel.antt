-- The solver's model, and what each call makes of it.
--     Leaves           variables and rows by index, an objective, and how many calls changed it
--     StoredLeaves     the same, and how many variables and rows can still be added without memory
--     no_leaves with_var with_row with_objective without_var without_row      what calls leave
use Rattle.std.specs.Prelude.{ℕ, ◌+◌, ◌-◌, ◌^◌, Option, None, IsSome, min, refl}
use Rattle.std.specs.Coded.{Coded, code_by, coded×, coded_ℕ, coded_option}
use Rattle.std.specs.FinMap as finite
use Rattle.std.specs.FinMap.{FinMap}
use Rattle.std.specs.Ordering.{nat_cmp}
use Rattle.solver_store.specs.declared.leaf.LeafVar.{LeafVar}
use Rattle.solver_store.specs.declared.leaf.LeafRow.{LeafRow}
use Rattle.solver_store.specs.declared.leaf.LeafObjective.{LeafObjective}
use Rattle.solver_store.specs.contracts.leaf.LeafVar as var
use Rattle.solver_store.specs.contracts.leaf.LeafRow as row
use Rattle.solver_store.specs.contracts.leaf.LeafObjective as objective

pub record Leaves : Type 0 where
  pub vars : FinMap nat_cmp LeafVar
  pub rows : FinMap nat_cmp LeafRow
  pub objective : Option LeafObjective
  pub calls : ℕ

pub record StoredLeaves : Type 0 where
  pub leaves : Leaves
  pub spare_vars : ℕ
  pub spare_rows : ℕ

abbrev pub leaves_code : Coded Leaves
leaves_code =
    code_by (FinMap nat_cmp LeafVar × (FinMap nat_cmp LeafRow × (Option LeafObjective × ℕ)))
    (coded× (finite.code coded_ℕ (var.the_row).coded)
    (coded× (finite.code coded_ℕ (row.the_row).coded)
    (coded× (coded_option (objective.the_row).coded) coded_ℕ)))
    (λ m. (m.vars, (m.rows, (m.objective, m.calls))))
    (λ p. record { vars = p.0; rows = p.1.0; objective = p.1.1.0; calls = p.1.1.1 }) (λ _. refl)

abbrev pub stored_code : Coded StoredLeaves
stored_code =
    code_by (Leaves × (ℕ × ℕ)) (coded× leaves_code (coded× coded_ℕ coded_ℕ))
    (λ s. (s.leaves, (s.spare_vars, s.spare_rows)))
    (λ p. record { leaves = p.0; spare_vars = p.1.0; spare_rows = p.1.1 }) (λ _. refl)

-- the index is in use
abbrev pub IsUsed : {X : Type 0} → FinMap nat_cmp X → ℕ → Type 0
IsUsed m i = IsSome (finite.get m i)

-- a call more, up to the greatest number of 64 bits
abbrev pub one_more : ℕ → ℕ
one_more calls = min (calls + 1) (2 ^ 64 - 1)

-- ---- what calls leave

-- no variable, no row and no objective
abbrev pub no_leaves : ℕ → Leaves
no_leaves calls = record {
  vars = finite.empty;
  rows = finite.empty;
  objective = None;
  calls = calls;
}

abbrev pub with_var : Leaves → ℕ → LeafVar → Leaves
with_var m i var = record m { vars = finite.insert m.vars i var; calls = one_more m.calls }

abbrev pub with_row : Leaves → ℕ → LeafRow → Leaves
with_row m i row = record m { rows = finite.insert m.rows i row; calls = one_more m.calls }

abbrev pub with_objective : Leaves → Option LeafObjective → Leaves
with_objective m objective = record m { objective = objective; calls = one_more m.calls }

abbrev pub without_var : Leaves → ℕ → Leaves
without_var m i = record m { vars = finite.remove m.vars i; calls = one_more m.calls }

abbrev pub without_row : Leaves → ℕ → Leaves
without_row m i = record m { rows = finite.remove m.rows i; calls = one_more m.calls }
