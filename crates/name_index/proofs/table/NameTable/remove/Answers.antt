use Rattle.std.proofs.Common.{sym, ◌∙◌}
use Rattle.name_index.proofs.TableLemmas.{none_at_absent, name_at_position, entry_at, remove_in_step, numbers-remove, one_to_one}
use Rattle.name_index.proofs.table.NameTable.remove.Goals as goal

pub returns-in_err-place-clause-value : goal.returns-in_err-place-clause-value
returns-in_err-place-clause-value c =
    rw (← c.self.view_is, c.from_residual.ensures) (none_at_absent _ _ c.self.invariant c.args.id
    (sym c.in_err-place.ensures.found))

pub returns-in_err-place-clause-one_to_one : goal.returns-in_err-place-clause-one_to_one
returns-in_err-place-clause-one_to_one c = one_to_one _ _ c.self.invariant

pub unwrap-name-requires : goal.unwrap-name-requires
unwrap-name-requires c =
    let entry = entry_at _ _ c.self.invariant c.in_ok-place.place c.args.id
    (sym c.in_ok-place.ensures.index) in
    rw (c.swap_remove_index.ensures.entry, entry.1)

pub invariant_of-self-2 : goal.invariant_of-self-2
invariant_of-self-2 c =
    remove_in_step _ _ c.self.invariant c.in_ok-place.place c.args.id c.unwrap-name.result _ _
    (sym c.in_ok-place.ensures.index)
    (rw c.unwrap-name.ensures at c.swap_remove_index.ensures.entries)
    c.swap_remove_full.ensures.keys c.swap_remove_index.ensures.unique
    c.swap_remove_full.ensures.unique

pub returns-clause-value : goal.returns-clause-value
returns-clause-value c =
    rw (← c.self.view_is)
    (name_at_position _ _ c.self.invariant c.in_ok-place.place _ _ c.args.id
    (sym c.in_ok-place.ensures.index)
    (sym c.swap_remove_index.ensures.entry ∙ c.unwrap-name.ensures))

pub returns-clause-removed : goal.returns-clause-removed
returns-clause-removed c =
    let updates = rw c.unwrap-name.ensures at c.swap_remove_index.ensures.updates in
    rw (← c.self.view_is) (numbers-remove _ _ c.unwrap-name.result.0 updates.0)

pub returns-clause-one_to_one : goal.returns-clause-one_to_one
returns-clause-one_to_one c = one_to_one _ _ (invariant_of-self-2 c)
