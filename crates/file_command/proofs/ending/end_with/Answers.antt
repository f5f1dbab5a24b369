-- The text of the answer was written, or a prefix of it.
use Rattle.std.proofs.Common.{refl}
use Rattle.file_command.proofs.Ended.{wrote_answer, wrote_refusal}
use Rattle.file_command.proofs.ending.end_with.Goals as goal
use Rattle.report_core.specs.declared.answer.Answer.TheVariants.{Printed, Refused}

pub returns-in-Printed-clause-ends : goal.returns-in-Printed-clause-ends
returns-in-Printed-clause-ends g c =
    wrote_answer c.args.answer (Printed c.in-Printed.text) c.in-Printed.text c.as_slice.result.now
    c.in-Printed.is refl c.as_slice.ensures c.write_text.result _ _ refl c.write_text.ensures.ends

pub returns-in-Refused-clause-ends : goal.returns-in-Refused-clause-ends
returns-in-Refused-clause-ends g c =
    wrote_refusal c.args.answer (Refused c.in-Refused.text) c.in-Refused.text
    c.as_slice-in-Refused.result.now c.in-Refused.is refl c.as_slice-in-Refused.ensures
    c.write_text-in-Refused.result _ _ refl c.write_text-in-Refused.ensures.ends
