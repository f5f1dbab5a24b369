-- What was checked is reported.
use Rattle.certificate_check.proofs.Judged.{judged_by_check, judged_by_overflow}
use Rattle.certificate_check.proofs.judging.judge.Goals as goal

pub returns-in-Ok : goal.returns-in-Ok
returns-in-Ok c =
    judged_by_check c.args.model.now.model c.groups.result.now.items c.rows.result.now.items
    c.objective.result.now c.args.certificate.now c.in-Ok.is_good c.yes_or_no.result c.requires
    c.groups.ensures.value c.rows.ensures.value c.objective.ensures.value c.in-Ok.ensures
    c.yes_or_no.ensures

pub returns-in-Err-Overflow : goal.returns-in-Err-Overflow
returns-in-Err-Overflow c =
    judged_by_overflow c.args.model.now.model c.groups.result.now.items c.rows.result.now.items
    c.objective.result.now c.args.certificate.now c.in-Err-Overflow.field-0 c.refusal.result
    c.in-Err-Overflow.field-0-is
    c.groups.ensures.value c.rows.ensures.value c.objective.ensures.value c.in-Err-Overflow.ensures
    c.refusal.ensures
