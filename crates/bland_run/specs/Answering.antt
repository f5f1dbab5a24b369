-- What a text is answered, by the form that it writes.
use Rattle.std.specs.Prelude.{◌≡◌, ℕ, ◌⊎◌, Bool, true, false, List, Option, Some, None, Ok, Err, codes}
use Rattle.simplex_core.specs.declared.answer.SolverAnswer.{SolverAnswer}
use Rattle.simplex_core.specs.declared.form.StdForm.{StdForm}
use Rattle.simplex_core.specs.Answer.{IsRightAnswer}
use Rattle.simplex_core.specs.StdForm.{equality_form}
use Rattle.simplex_form.specs.Form.{Form}
use Rattle.bland_run.specs.declared.answering.Reply.{Reply}
use Rattle.bland_run.specs.declared.fault.SmallFault.TheVariants.{Overflow}
use Rattle.bland_run.specs.Printing.{answer_text}
use Rattle.bland_run.specs.Small.{EndsTrail}

-- the right answer, read off the end of the trail, is what is said of its text
abbrev pub PrintsAnswer : Form → (List ℕ → Type 0) → Type 0
PrintsAnswer F wrote = (answer : SolverAnswer)
    × EndsTrail F (Ok answer) × IsRightAnswer F answer × wrote (answer_text answer)

-- the trail comes to numbers that exceed 128 bits, and that is printed
abbrev pub PrintsOverflow : Form → (List ℕ → Type 0) → Type 0
PrintsOverflow F wrote = (basis : List ℕ)
    × EndsTrail F (Err (Overflow basis)) × wrote (codes "refused 17 Overflow\n")

-- the answer to a form, or to a text that writes none, is a refusal or not; and what is said of its
-- text
abbrev pub AnswersForm : Option StdForm → Bool → (List ℕ → Type 0) → Type 0
AnswersForm None refused wrote = (refused ≡ true) × wrote (codes "refused 1 BadForm\n")
AnswersForm (Some form) refused wrote =
    ((refused ≡ false) × PrintsAnswer (equality_form form) wrote)
    ⊎ ((refused ≡ true) × PrintsOverflow (equality_form form) wrote)

abbrev pub IsReplyTo : Option StdForm → Reply → Type 0
IsReplyTo form reply = AnswersForm form reply.is_refusal (λ text. reply.text.items ≡ text)
