use Rattle.std.proofs.Common.{ap, arith, length, subst}
use Rattle.certificates.specs.Good.{Good}
use Rattle.relaxation.proofs.KeptLemmas.{enough_for, not_unbounded, told_hopeless, told_least, told_shown}
use Rattle.relaxation.proofs.reading.relaxation_of.Goals as goal

pub slack_count-count-requires : goal.slack_count-count-requires
slack_count-count-requires c =
    let same = ap length c.rows-rows.ensures.value in
    let within = c.rows-rows.ensures.valid.within.rows in omega (arith, same, within)

pub least-requires-clause-size : goal.least-requires-clause-size
least-requires-clause-size c =
    let from = c.requires.from in
    let relaxed = c.args.relaxed.now.model in
    enough_for from.0 relaxed from.1 c.rows-rows.result.now.items c.slack_count-count.result
    c.rows-rows.ensures.value c.slack_count-count.ensures c.in-Optimal.x
    (subst (Good relaxed) c.in-Optimal.is c.requires.good).feasible.size

pub hopeless-requires : goal.hopeless-requires
hopeless-requires c =
    let from = c.requires.from in
    let relaxed = c.args.relaxed.now.model in
    enough_for from.0 relaxed from.1 c.rows-rows.result.now.items c.slack_count-count.result
    c.rows-rows.ensures.value c.slack_count-count.ensures c.in-Infeasible.vars
    (subst (Good relaxed) c.in-Infeasible.is c.requires.good).duals.each_variable

pub unreachable-requires : goal.unreachable-requires
unreachable-requires c =
    let from = c.requires.from in
    not_unbounded from.0 c.args.relaxed.now.model from.1 _ _
    (subst (Good c.args.relaxed.now.model) c.in-Unbounded.is c.requires.good)

pub returns-in-Optimal-clause-reads : goal.returns-in-Optimal-clause-reads
returns-in-Optimal-clause-reads c = λ model from.
    told_least model c.args.relaxed.now.model from c.rows-rows.result.now.items
    c.slack_count-count.result c.rows-rows.ensures.value c.slack_count-count.ensures c.args.certificate
    c.requires.good c.least.result c.in-Optimal.value c.in-Optimal.x _ _ c.in-Optimal.is
    c.least.ensures

pub returns-in-Optimal-clause-shows : goal.returns-in-Optimal-clause-shows
returns-in-Optimal-clause-shows c = λ model from.
    told_shown model c.args.relaxed.now.model from c.rows-rows.result.now.items
    c.slack_count-count.result c.rows-rows.ensures.value c.slack_count-count.ensures c.args.certificate
    c.requires.good c.least.result c.rows-rows.ensures.valid
    (told_least model c.args.relaxed.now.model from c.rows-rows.result.now.items
    c.slack_count-count.result c.rows-rows.ensures.value c.slack_count-count.ensures c.args.certificate
    c.requires.good c.least.result c.in-Optimal.value c.in-Optimal.x _ _ c.in-Optimal.is
    c.least.ensures)

pub returns-in-Infeasible-clause-reads : goal.returns-in-Infeasible-clause-reads
returns-in-Infeasible-clause-reads c = λ model from.
    told_hopeless model c.args.relaxed.now.model from c.rows-rows.result.now.items
    c.slack_count-count.result c.rows-rows.ensures.value c.slack_count-count.ensures c.args.certificate
    c.requires.good c.hopeless.result c.in-Infeasible.gap _ c.in-Infeasible.vars
    c.in-Infeasible.is c.hopeless.ensures

pub returns-in-Infeasible-clause-shows : goal.returns-in-Infeasible-clause-shows
returns-in-Infeasible-clause-shows c = λ model from.
    told_shown model c.args.relaxed.now.model from c.rows-rows.result.now.items
    c.slack_count-count.result c.rows-rows.ensures.value c.slack_count-count.ensures c.args.certificate
    c.requires.good c.hopeless.result c.rows-rows.ensures.valid
    (told_hopeless model c.args.relaxed.now.model from c.rows-rows.result.now.items
    c.slack_count-count.result c.rows-rows.ensures.value c.slack_count-count.ensures c.args.certificate
    c.requires.good c.hopeless.result c.in-Infeasible.gap _ c.in-Infeasible.vars
    c.in-Infeasible.is c.hopeless.ensures)
