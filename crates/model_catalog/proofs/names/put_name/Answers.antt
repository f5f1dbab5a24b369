use Rattle.std.proofs.Common.{◌≡◌, ◌==◌, ℕ, cond, None, Option, List, sym, subst}
use Rattle.std.specs.FinMap.{get}
use Rattle.model_catalog.specs.Names.{name_of}
use Rattle.model_catalog.proofs.TableNames.{free_of_none, name_of-insert}
use Rattle.model_catalog.proofs.names.put_name.Goals as goal

pub add-requires-clause-id_free : goal.add-requires-clause-id_free
add-requires-clause-id_free c = free_of_none c.args.table.now.numbers c.args.number c.requires.free

pub returns-clause-names : goal.returns-clause-names
returns-clause-names c =
    let free : get c.args.table.now.numbers c.in-Some.name ≡ None =
    rw c.in-Some.is at c.requires.new in
    subst (λ (o : Option (List ℕ)). (n : ℕ) → name_of c.add.new.self.numbers n ≡ cond
    (c.args.number == n) o (name_of c.args.table.now.numbers n)) (sym c.in-Some.is)
    (name_of-insert c.args.table.now.numbers c.add.new.self.numbers c.in-Some.name c.args.number
    c.add.ensures.one_to_one c.in-Ok.ensures.ok free c.requires.free c.requires.one_to_one)
