use Rattle.std.proofs.Common.{◌≡◌, None, nat_eq, sym, ap, ◌∙◌}
use Rattle.std.specs.FinMap as map
use Rattle.std.specs.Str.{bytes_eq}
use Rattle.indexmap.specs.IndexSet.{insert_key}
use Rattle.indexmap.proofs.CallerLemmas.{insert_entry-new}
use Rattle.name_index.specs.NameTable.{IsNumberFree}
use Rattle.name_index.proofs.TableLemmas.{numbers_of, get-numbers_of, add_in_step, numbers-add, one_to_one}
use Rattle.name_index.proofs.table.NameTable.add.Goals as goal

pub returns-then-is_err-clause-one_to_one : goal.returns-then-is_err-clause-one_to_one
returns-then-is_err-clause-one_to_one c = one_to_one _ _ c.self.invariant

pub invariant_of-self-in-Ok : goal.invariant_of-self-in-Ok
invariant_of-self-in-Ok c =
    let es = c.self.inside.numbers.entries in
    let name_free : map.get (numbers_of es) c.args.name ≡ None =
    rw (← c.self.view_is) at c.requires.name_free in
    let id_free : IsNumberFree (numbers_of es) c.args.id = rw (← c.self.view_is) at c.requires.id_free in
    let absent = sym (get-numbers_of es c.args.name) ∙ name_free in
    let entries = c.in-Ok.ensures.entries ∙ insert_entry-new bytes_eq c.self.inside.numbers
    c.args.name c.args.id absent in
    let keys = rw c.unwrap.ensures at c.insert-in-Ok.ensures.keys in
    add_in_step es _ c.self.invariant c.args.name c.args.id _ _ id_free entries (keys
    ∙ ap (λ l. insert_key nat_eq l c.args.id) c.reserve.ensures.keys) c.insert.ensures.unique
    c.insert-in-Ok.ensures.unique

pub returns-in-Ok-clause-ok : goal.returns-in-Ok-clause-ok
returns-in-Ok-clause-ok c =
    let es = c.self.inside.numbers.entries in
    let name_free : map.get (numbers_of es) c.args.name ≡ None =
    rw (← c.self.view_is) at c.requires.name_free in
    let absent = sym (get-numbers_of es c.args.name) ∙ name_free in
    let entries = c.in-Ok.ensures.entries ∙ insert_entry-new bytes_eq c.self.inside.numbers
    c.args.name c.args.id absent in
    rw (← c.self.view_is) (numbers-add es _ c.args.name c.args.id name_free entries)

pub returns-in-Ok-clause-one_to_one : goal.returns-in-Ok-clause-one_to_one
returns-in-Ok-clause-one_to_one c = one_to_one _ _ (invariant_of-self-in-Ok c)

pub returns-in-Err-clause-one_to_one : goal.returns-in-Err-clause-one_to_one
returns-in-Err-clause-one_to_one c =
    rw c.in-Err.ensures.err (one_to_one _ _ c.self.invariant)
