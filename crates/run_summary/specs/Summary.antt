-- The summary of the answers to a script: four lines, which say how many lines were answered, how
-- many of them were refused, the sum of the numbers after `ok`, and the first line of the last
-- answer.
use Rattle.std.specs.Prelude.{ℕ, ◌+◌, Bool, true, false, List, [], ◌∷◌, ◌++◌, codes, count_by, decimal, length, if◌then◌else◌}
use Rattle.std.specs.List.{sum_by}
use Rattle.report_core.specs.Words.{newline}
use Rattle.report_core.specs.declared.answer.Answer.{Answer}
use Rattle.report_core.specs.declared.answer.Answer.TheVariants.{Printed, Refused, Silent}
use Rattle.run_summary.specs.Calls.{calls_in, first_line}
use Rattle.run_summary.specs.declared.tally.Tally.{Tally}

-- ---- one answer

abbrev pub is_refusal : Answer → Bool
is_refusal (Refused text) = true
is_refusal answer = false

abbrev pub printed_of : Answer → List ℕ
printed_of (Printed text) = text
printed_of (Refused text) = text
printed_of answer = []

abbrev pub calls_of : Answer → ℕ
calls_of (Printed text) = calls_in text
calls_of answer = 0

-- ---- all answers

abbrev pub last_of : List Answer → Answer
last_of [] = Silent
last_of (answer ∷ []) = answer
last_of (first ∷ second ∷ answers) = last_of (second ∷ answers)

-- what the answers come to
abbrev pub tally_of : List Answer → Tally
tally_of answers = record {
  lines = length answers;
  refused = count_by is_refusal answers;
  calls = sum_by calls_of answers;
  last = last_of answers;
}

-- with one answer more
abbrev pub one_more : Tally → Answer → Tally
one_more tally answer = record {
  lines = tally.lines + 1;
  refused = tally.refused + (if is_refusal answer then 1 else 0);
  calls = tally.calls + calls_of answer;
  last = answer;
}

-- ---- the text

-- a word, a number and the end of a line
abbrev pub number_line : List ℕ → ℕ → List ℕ
number_line word n = word ++ decimal n ++ newline

unfoldable pub summary_text : Tally → List ℕ
summary_text tally =
    number_line (codes "lines ") tally.lines ++ number_line (codes "refused ") tally.refused
    ++ number_line (codes "calls ") tally.calls ++ (first_line (printed_of tally.last) ++ newline)
