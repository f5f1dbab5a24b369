use Rattle.sparse_board.proofs.row.Row.make_plan.Goals as goal

pub returns-in-Some-clause-planned : goal.returns-in-Some-clause-planned
returns-in-Some-clause-planned c = c.in-Some.ensures.planned

pub returns-clause-planned : goal.returns-clause-planned
returns-clause-planned c = c.open.ensures.ok
