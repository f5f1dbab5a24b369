use Rattle.std.proofs.Common.{◌+◌, ◌++◌, [], ◌∷◌, append-nil, arith, map, subst, sym, take, ap, ◌∙◌}
use Rattle.std.proofs.lemmas.Grind.{flat_map-append}
use Rattle.std.proofs.lemmas.List.{map-append, take_all}
use Rattle.found_plan.specs.Marked.{TellsMarks, plain_in, plain_in_row}
use Rattle.found_plan.proofs.LoopSteps.{take_one}
use Rattle.found_plan.proofs.MarkSteps.{marks_both, marks_none}
use Rattle.found_plan.proofs.kinds.tell_rows.Goals as goal
use Rattle.user_model.specs.declared.row.Row.{Row}

pub loop-row-init : goal.loop-row-init
loop-row-init c = marks_none c.args.map.now c.args.kept.now

pub loop-row-preserved : goal.loop-row-preserved
loop-row-preserved c =
    let l = c.loop-row in
    let rows = c.args.rows.now in
    let row = c.row-item.result in
    let done = map (λ r. r.now) (take l.row-index rows) in
    subst (λ vs. TellsMarks c.args.map.now vs c.args.kept.now c.tell_row.new.kept)
    (sym (ap (λ rs. plain_in (map (λ r. r.now) rs))
    (take_one rows l.row-index row c.row-item.is c.loop-row-test.true)
    ∙ ap plain_in (map-append (λ r. r.now) (take l.row-index rows) (row ∷ []))
    ∙ flat_map-append (λ (r : Row). plain_in_row r.func) done (row.now ∷ [])
    ∙ ap (λ l. plain_in done ++ l) (append-nil (plain_in_row row.now.func))))
    (marks_both c.args.map.now (plain_in done) (plain_in_row row.now.func) c.args.kept.now l.kept
    c.tell_row.new.kept l.invariant c.in_ok-tell_row.ensures)

pub returns : goal.returns
returns c =
    let l = c.loop-row in
    subst (λ rs. TellsMarks c.args.map.now (plain_in (map (λ r. r.now) rs)) c.args.kept.now l.kept)
    (take_all l.row-index c.args.rows.now (omega arith)) l.invariant
