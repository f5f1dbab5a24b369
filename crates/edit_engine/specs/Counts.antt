-- The numbers after `ok` in answers: at how many addresses an attached solver's model changes. No
-- line takes more calls of that model.
use Rattle.std.specs.Prelude.{ℕ, List, codes, drop, nat_eq, if◌then◌else◌}
use Rattle.std.specs.Char.{is_ascii_digit}
use Rattle.std.specs.List.{starts_with, take_while}
use Rattle.std.specs.Str.Parse.{digits_value}
use Rattle.lazy_bridge.specs.Few.{ChangesFew}
use Rattle.lazy_bridge.specs.Owned.{Owned}
use Rattle.report_core.specs.declared.answer.Answer.{Answer}
use Rattle.report_core.specs.declared.answer.Answer.TheVariants.{Memory, Printed}

-- the number that stands after `ok` in a printed text, and 0 where none does
unfoldable pub count_in : List ℕ → ℕ
count_in text =
    if starts_with nat_eq text (codes "ok ")
    then digits_value 10 (take_while is_ascii_digit (drop 3 text))
    else 0

abbrev pub count_of : Answer → ℕ
count_of (Printed text) = count_in text
count_of answer = 0

-- a line that is answered so calls the solver's model at most as often as the number after `ok`
-- says, and a leaf that stays keeps its index; nothing is said after running out of memory
abbrev pub TakesFew : Answer → Owned → Owned → Type 0
TakesFew Memory old new = Unit {0}
TakesFew answer old new = ChangesFew old (count_of answer) new
