use Rattle.std.proofs.Common.{sym, ap, ◌∙◌}
use Rattle.std.specs.Option.{option_map}
use Rattle.std.specs.Map.Iter.{deref_pair}
use Rattle.name_index.proofs.TableLemmas.{none_at_absent, name_at_position, one_to_one}
use Rattle.name_index.proofs.table.NameTable.name.Goals as goal

pub returns-in_err-place-clause-value : goal.returns-in_err-place-clause-value
returns-in_err-place-clause-value c =
    rw (← c.self.view_is, c.from_residual.ensures) (none_at_absent _ _ c.self.invariant c.args.id
    (sym c.in_err-place.ensures.found))

pub returns-in_err-place-clause-one_to_one : goal.returns-in_err-place-clause-one_to_one
returns-in_err-place-clause-one_to_one c = rw (← c.self.view_is) (one_to_one _ _ c.self.invariant)

pub returns-clause-value : goal.returns-clause-value
returns-clause-value c =
    rw (← c.self.view_is)
    (name_at_position _ _ c.self.invariant c.in_ok-place.place _ _ c.args.id
    (sym c.in_ok-place.ensures.index)
    (sym c.get_index.ensures.entry ∙ ap (option_map deref_pair) c.unwrap.ensures))

pub returns-clause-one_to_one : goal.returns-clause-one_to_one
returns-clause-one_to_one c = rw (← c.self.view_is) (one_to_one _ _ c.self.invariant)
