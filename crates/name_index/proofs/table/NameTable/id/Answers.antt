use Rattle.std.proofs.Common.{sym, ◌∙◌}
use Rattle.name_index.proofs.TableLemmas.{get-numbers_of, one_to_one}
use Rattle.name_index.proofs.table.NameTable.id.Goals as goal

pub returns-clause-value : goal.returns-clause-value
returns-clause-value c =
    rw (← c.self.view_is) (c.copied.ensures ∙ c.get.ensures.value
    ∙ sym (get-numbers_of _ c.args.name.now))

pub returns-clause-one_to_one : goal.returns-clause-one_to_one
returns-clause-one_to_one c = rw (← c.self.view_is) (one_to_one _ _ c.self.invariant)
