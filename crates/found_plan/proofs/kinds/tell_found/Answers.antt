use Rattle.std.proofs.Common.{◌++◌, [], ap, append-nil, map, subst, sym}
use Rattle.std.specs.Option.{option_copied, option_map_or}
use Rattle.std.proofs.lemmas.Result.{on_ok_weaker}
use Rattle.found_plan.specs.Marked.{TellsMarks, plain_in, plain_in_objective}
use Rattle.found_plan.proofs.MarkSteps.{marks_both}
use Rattle.found_plan.proofs.kinds.tell_found.Goals as goal

pub returns-in-None : goal.returns-in-None
returns-in-None c =
    let rows = map (λ r. r.now) c.args.rows.now in
    let places = c.args.map.now in
    subst (λ o. TellsMarks places (plain_in rows ++ option_map_or plain_in_objective o [])
    c.args.kept.now c.tell_rows.new.kept) (sym (ap option_copied c.in-None.is))
    (subst (λ vs. TellsMarks places vs c.args.kept.now c.tell_rows.new.kept)
    (sym (append-nil (plain_in rows))) c.in_ok-tell_rows.ensures)

pub returns-in-Some : goal.returns-in-Some
returns-in-Some c =
    let rows = map (λ r. r.now) c.args.rows.now in
    let places = c.args.map.now in
    on_ok_weaker c.tell_objective.result
    (λ h. subst (λ o. TellsMarks places (plain_in rows ++ option_map_or plain_in_objective o [])
    c.args.kept.now c.tell_objective.new.kept) (sym (ap option_copied c.in-Some.is))
    (marks_both places (plain_in rows) (plain_in_objective c.in-Some.objective.now)
    c.args.kept.now c.tell_rows.new.kept c.tell_objective.new.kept c.in_ok-tell_rows.ensures h))
    c.tell_objective.ensures
