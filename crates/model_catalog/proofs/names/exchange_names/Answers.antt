use Rattle.std.proofs.Common.{map, sym, ap, subst, ◌∙◌}
use Rattle.numbered_list.specs.Numbered.{Rise}
use Rattle.model_catalog.specs.Names.{listed_number, name_of, put_aside, settled}
use Rattle.model_catalog.proofs.Found.{Rise-map}
use Rattle.model_catalog.proofs.NameLoops.{free_aside, renamed_aside, settled_aside}
use Rattle.model_catalog.proofs.names.exchange_names.Goals as goal

pub put_names-requires-clause-rising : goal.put_names-requires-clause-rising
put_names-requires-clause-rising c =
    subst (Rise listed_number) (sym c.take_names.ensures.listed)
    (Rise-map (put_aside (name_of c.args.table.now.numbers)) listed_number c.args.listed.now
    c.requires.rising)

pub put_names-requires-clause-free : goal.put_names-requires-clause-free
put_names-requires-clause-free c =
    free_aside (name_of c.args.table.now.numbers) (name_of c.take_names.new.table.numbers)
    c.args.listed.now c.take_names.ensures.listed c.take_names.ensures.names

pub put_names-requires-clause-distinct : goal.put_names-requires-clause-distinct
put_names-requires-clause-distinct c = λ n m name here there.
    let renamed = renamed_aside (name_of c.args.table.now.numbers)
    (name_of c.take_names.new.table.numbers) c.args.listed.now c.take_names.ensures.listed
    c.take_names.ensures.names in
    c.requires.distinct n m name (sym (renamed n) ∙ here) (sym (renamed m) ∙ there)

pub returns-clause-names : goal.returns-clause-names
returns-clause-names c = λ n.
    c.put_names.ensures.names n ∙ renamed_aside (name_of c.args.table.now.numbers)
    (name_of c.take_names.new.table.numbers) c.args.listed.now c.take_names.ensures.listed
    c.take_names.ensures.names n

pub returns-clause-listed : goal.returns-clause-listed
returns-clause-listed c =
    c.put_names.ensures.listed ∙ (ap (map settled) c.take_names.ensures.listed
    ∙ settled_aside (name_of c.args.table.now.numbers) c.args.listed.now)
