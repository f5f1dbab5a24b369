use Rattle.touched_items.specs.DifferenceLaws.{groups_listed, rows_listed}
use Rattle.lazy_bridge.proofs.Listing.{counted, differs, lists}
use Rattle.lazy_bridge.proofs.pushing.find_differing.Goals as goal

pub compare_listed-requires-clause-groups : goal.compare_listed-requires-clause-groups
compare_listed-requires-clause-groups c =
    groups_listed c.requires.0 c.args.undos.now c.args.reading.now.model c.requires.1
    c.in_ok-listed.listed
    (lists c.args.undos.now c.in_ok-listed.listed c.in_ok-listed.ensures.groups
    c.in_ok-listed.ensures.rows c.in_ok-listed.ensures.objective)

pub compare_listed-requires-clause-rows : goal.compare_listed-requires-clause-rows
compare_listed-requires-clause-rows c =
    rows_listed c.requires.0 c.args.undos.now c.args.reading.now.model c.requires.1
    c.in_ok-listed.listed
    (lists c.args.undos.now c.in_ok-listed.listed c.in_ok-listed.ensures.groups
    c.in_ok-listed.ensures.rows c.in_ok-listed.ensures.objective)

pub returns-clause-differs : goal.returns-clause-differs
returns-clause-differs c =
    differs c.args.undos.now c.in_ok-listed.listed
    (lists c.args.undos.now c.in_ok-listed.listed c.in_ok-listed.ensures.groups
    c.in_ok-listed.ensures.rows c.in_ok-listed.ensures.objective) c.args.reading.now.model
    c.compare_listed.result c.compare_listed.ensures.differing

pub returns-clause-reads : goal.returns-clause-reads
returns-clause-reads c =
    counted c.args.undos.now c.in_ok-listed.listed
    (lists c.args.undos.now c.in_ok-listed.listed c.in_ok-listed.ensures.groups
    c.in_ok-listed.ensures.rows c.in_ok-listed.ensures.objective)
    c.args.reading.now.reads c.compare_listed.new.reading.reads c.compare_listed.result
    c.compare_listed.ensures.reads
