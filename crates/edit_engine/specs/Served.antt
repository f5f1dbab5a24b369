-- Lines with the answers that they get and the files that they ask for, one after another.
use Rattle.std.specs.Prelude.{ℕ, List, [], ◌∷◌, ◌++◌}
use Rattle.edit_engine.specs.Lines.{line_asks}
use Rattle.edit_engine.specs.Script.{Machine, Steps}
use Rattle.report_core.specs.declared.answer.Answer.{Answer}
use Rattle.report_core.specs.declared.answer.Answer.TheVariants.{Printed, Refused}

-- what an answer prints
abbrev pub text_of : Answer → List ℕ
text_of (Printed text) = text
text_of (Refused text) = text
text_of answer = []

-- from a machine the lines get these answers and ask for the files of these names, in turn; and
-- the machine that they leave
pub data Serves : Machine → List (List ℕ) → List Answer → List (List ℕ) → Machine → Type 0 where
  none : {s : Machine} → Serves s [] [] [] s
  next : {s middle new : Machine} {line : List ℕ} {lines : List (List ℕ)} {answer : Answer}
      {answers : List Answer} {asked : List (List ℕ)} → Steps s line answer middle
      → Serves middle lines answers asked new
      → Serves s (line ∷ lines) (answer ∷ answers) (line_asks s line ++ asked) new
