-- Each line is answered and counted, and after the last the summary is written.
use Rattle.std.proofs.Common.{arith, sym, subst, refl, ◌∙◌}
use Rattle.edit_engine.specs.Held.{machine_of}
use Rattle.edit_engine.specs.Script.{Answered}
use Rattle.io_face.specs.Told.{told_by}
use Rattle.moi_run.specs.Generated.{GenerateOutcome, SummaryOutcome}
use Rattle.moi_run.proofs.Summaries.{ends_without_memory, no_fault_of_memory, no_usage_of_memory, script_loads_nothing, stands_first, stands_last, stands_next, takes_line, without_memory}
use Rattle.moi_run.proofs.generating.sum_up_answers.Goals as goal

pub answering-init : goal.answering-init
answering-init g c =
    let told = told_by (g.H.Shelf.files c.args.shelf.now) (g.H.Shelf.sure c.args.shelf.now) in
    record {
      stands = stands_first c.args.recipe c.new-lines.result
          (machine_of c.args.session.now told) c.new-tally.result c.new-lines.ensures
          c.new-tally.ensures;
      shelf = refl;
      output = refl;
      pivots = refl;
    }

-- ---- the last line was answered

pub returns-in-None-clause-outcome : goal.returns-in-None-clause-outcome
returns-in-None-clause-outcome g c =
    let told = told_by (g.H.Shelf.files c.args.shelf.now) (g.H.Shelf.sure c.args.shelf.now) in
    stands_last c.write_summary.result c.args.recipe c.answering.lines
    (machine_of c.args.session.now told) (machine_of c.answering.session told) c.answering.tally
    (g.O.Sink.written c.args.output.now) (g.O.Sink.written c.write_summary.new.output)
    c.answering.invariant.stands (sym c.in-None.is ∙ c.in-Ok.ensures.line)
    (subst (λ o. SummaryOutcome c.write_summary.result c.answering.tally (g.O.Sink.written o)
    (g.O.Sink.written c.write_summary.new.output)) c.answering.invariant.output
    c.write_summary.ensures.outcome)

-- ---- memory ran out

pub returns-in-Some-stop_of_answer-clause-outcome : goal.returns-in-Some-stop_of_answer-clause-outcome
returns-in-Some-stop_of_answer-clause-outcome g c =
    let took = takes_line c.args.recipe c.answering.lines c.next_line.new.self c.in-Some.line
    c.answering.invariant.stands.numbers (sym c.in-Some.is ∙ c.in-Ok.ensures.line)
    c.in-Ok.ensures.ok in
    let memory = ends_without_memory c.args.recipe c.answering.lines c.next_line.new.self _ _
    c.in-Some.line c.as_slice.result.now c.line-answer.result c.in-Some-stop_of_answer.stop
    c.from.result took c.as_slice.ensures c.line-answer.ensures.step
    c.in-Some-stop_of_answer.ensures c.from.ensures in
    let told = told_by (g.H.Shelf.files c.args.shelf.now) (g.H.Shelf.sure c.args.shelf.now) in
    subst (λ o. GenerateOutcome c.from.result c.args.recipe (machine_of c.args.session.now told)
    (machine_of c.line-answer.new.self told) (g.O.Sink.written c.args.output.now)
    (g.O.Sink.written o)) (sym c.answering.invariant.output)
    (without_memory c.from.result c.args.recipe (machine_of c.args.session.now told)
    (machine_of c.line-answer.new.self told) (g.O.Sink.written c.args.output.now) memory)

pub returns-in-Some-stop_of_answer-clause-unasked : goal.returns-in-Some-stop_of_answer-clause-unasked
returns-in-Some-stop_of_answer-clause-unasked g c =
    let took = takes_line c.args.recipe c.answering.lines c.next_line.new.self c.in-Some.line
    c.answering.invariant.stands.numbers (sym c.in-Some.is ∙ c.in-Ok.ensures.line)
    c.in-Ok.ensures.ok in
    let quiet = script_loads_nothing c.args.recipe c.answering.lines.next c.as_slice.result.now
    (c.as_slice.ensures ∙ took.line_is) in
    c.line-answer.ensures.unasked quiet ∙ c.answering.invariant.shelf

pub returns-in-Some-stop_of_answer-clause-write_fault : goal.returns-in-Some-stop_of_answer-clause-write_fault
returns-in-Some-stop_of_answer-clause-write_fault g c write =
    let took = takes_line c.args.recipe c.answering.lines c.next_line.new.self c.in-Some.line
    c.answering.invariant.stands.numbers (sym c.in-Some.is ∙ c.in-Ok.ensures.line)
    c.in-Ok.ensures.ok in
    let memory = ends_without_memory c.args.recipe c.answering.lines c.next_line.new.self _ _
    c.in-Some.line c.as_slice.result.now c.line-answer.result c.in-Some-stop_of_answer.stop
    c.from.result took c.as_slice.ensures c.line-answer.ensures.step
    c.in-Some-stop_of_answer.ensures c.from.ensures in
    absurd (no_fault_of_memory c.from.result memory write)

pub returns-in-Some-stop_of_answer-clause-not_usage : goal.returns-in-Some-stop_of_answer-clause-not_usage
returns-in-Some-stop_of_answer-clause-not_usage g c =
    let took = takes_line c.args.recipe c.answering.lines c.next_line.new.self c.in-Some.line
    c.answering.invariant.stands.numbers (sym c.in-Some.is ∙ c.in-Ok.ensures.line)
    c.in-Ok.ensures.ok in
    let memory = ends_without_memory c.args.recipe c.answering.lines c.next_line.new.self _ _
    c.in-Some.line c.as_slice.result.now c.line-answer.result c.in-Some-stop_of_answer.stop
    c.from.result took c.as_slice.ensures c.line-answer.ensures.step
    c.in-Some-stop_of_answer.ensures c.from.ensures in
    no_usage_of_memory c.from.result memory

-- ---- a line more

pub answering-preserved : goal.answering-preserved
answering-preserved g c =
    let told = told_by (g.H.Shelf.files c.args.shelf.now) (g.H.Shelf.sure c.args.shelf.now) in
    let took = takes_line c.args.recipe c.answering.lines c.next_line.new.self c.in-Some.line
    c.answering.invariant.stands.numbers (sym c.in-Some.is ∙ c.in-Ok.ensures.line)
    c.in-Ok.ensures.ok in
    let quiet = script_loads_nothing c.args.recipe c.answering.lines.next c.as_slice.result.now
    (c.as_slice.ensures ∙ took.line_is) in
    record {
      stands = stands_next c.args.recipe c.answering.lines c.next_line.new.self
          (machine_of c.args.session.now told) (machine_of c.answering.session told)
          (machine_of c.line-answer.new.self told) c.answering.tally c.add.new.self
          c.in-Some.line c.as_slice.result.now c.line-answer.result
          c.answering.invariant.stands took c.as_slice.ensures
          (subst (λ shelf. Answered (machine_of c.answering.session
          (told_by (g.H.Shelf.files shelf) (g.H.Shelf.sure shelf))) c.as_slice.result.now
          c.line-answer.result (machine_of c.line-answer.new.self
          (told_by (g.H.Shelf.files shelf) (g.H.Shelf.sure shelf))))
          c.answering.invariant.shelf c.line-answer.ensures.step)
          c.in-None-stop_of_answer.ensures c.add.ensures.counted c.add.ensures.refused
          c.add.ensures.calls;
      shelf = c.line-answer.ensures.unasked quiet ∙ c.answering.invariant.shelf;
      output = c.answering.invariant.output;
      pivots = c.line-answer.ensures.pivots ∙ c.answering.invariant.pivots;
    }

pub answering-smaller : goal.answering-smaller
answering-smaller g c =
    let took = takes_line c.args.recipe c.answering.lines c.next_line.new.self c.in-Some.line
    c.answering.invariant.stands.numbers (sym c.in-Some.is ∙ c.in-Ok.ensures.line)
    c.in-Ok.ensures.ok in
    omega (arith, took.low, took.moved)
