-- What is read has the right numbers of entries.
use Rattle.certificate_check.proofs.Judged.{entries_of}
use Rattle.certificate_check.proofs.judging.judge_text.Goals as goal

pub judge-judged-requires : goal.judge-judged-requires
judge-judged-requires c =
    entries_of c.in_ok-certificate.field-0 c.in-Some.certificate c.groups.result.now.items
    c.args.model.now.model.groups c.rows.result.now.items c.args.model.now.model.rows c.in-Some.is
    c.groups.ensures.value c.rows.ensures.value c.in_ok-certificate.ensures.entries
