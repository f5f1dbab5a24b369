-- The number after `ok` is read back.
use Rattle.std.specs.Prelude.{◌≡◌, ◌≢◌, ◌≤◌, ◌+◌, ◌-◌, ◌<◌, ◌^◌, ◌&&◌, ℕ, true, false, List, [], ◌∷◌, ◌++◌, Some, decimal, min, refl}
use Rattle.std.specs.Char.{is_ascii_digit}
use Rattle.std.specs.List.{list_all, take_while}
use Rattle.std.specs.Str.Parse.{digits_value}
use Rattle.std.proofs.Common.{ap, arith, rules, ◌∙◌}
use Rattle.std.proofs.lemmas.Bool.{and_parts, cond-true}
use Rattle.std.proofs.lemmas.Fmt.{decimal_is_IsNumeral}
use Rattle.std.proofs.lemmas.List.Sums.{take_while-cons}
use Rattle.std.proofs.lemmas.Str.Parse.{IsNumeralModel, numerals_by_value}
use Rattle.cache_layer.specs.CacheState.{CacheState, ChangesLeaves, HasLeaves}
use Rattle.report_core.specs.Replies.{done_text}
use Rattle.report_core.specs.Words.{newline}
use Rattle.lazy_bridge.specs.Few.{ChangesFew}
use Rattle.lazy_bridge.specs.Owned.{Owned}
use Rattle.report_core.specs.declared.answer.Answer.{Answer}
use Rattle.report_core.specs.declared.answer.Answer.TheVariants.{Memory, Printed, Quit, ReadFault, Refused, Silent, TooLong}
use Rattle.edit_engine.specs.Counts.{TakesFew, count_in, count_of}

own : IsNumeralModel (λ ds. list_all is_ascii_digit ds ≡ true) (digits_value 10)
own = numerals_by_value (λ ds. list_all is_ascii_digit ds ≡ true) (search rules)

-- digits before a newline are those in front
digits_in_front : (ds : List ℕ) → list_all is_ascii_digit ds ≡ true
    → take_while is_ascii_digit (ds ++ newline) ≡ ds
digits_in_front [] h = refl
digits_in_front (d ∷ ds) h =
    let both = and_parts (is_ascii_digit d) (list_all is_ascii_digit ds) h in
    take_while-cons is_ascii_digit d (ds ++ newline)
    ∙ (cond-true (is_ascii_digit d) (d ∷ take_while is_ascii_digit (ds ++ newline)) [] both.0
    ∙ ap (λ rest. d ∷ rest) (digits_in_front ds both.1))

pub count_done : (n : ℕ) → n < 2 ^ 64 → count_in (done_text (Some n)) ≡ n
unfolding count_in done_text
count_done n fits =
    let numeral = decimal_is_IsNumeral n fits in
    ap (digits_value 10) (digits_in_front (decimal n) (own.from (decimal n) numeral.0.1))
    ∙ numeral.1

-- the counts of changed addresses, and of leaves, are of 64 bits
pub changes_fit : (old new : CacheState) (n : ℕ) → ChangesLeaves old new n → n < 2 ^ 64
changes_fit old new n changes = omega (arith, changes.counts.2)

pub leaves_fit : (s : CacheState) (n : ℕ) → HasLeaves s n → n < 2 ^ 64
leaves_fit s n has = omega (arith, has.counts.2)

-- ---- calls

-- of a line that was answered
pub takes_calls : (answer : Answer) (old new : Owned) → TakesFew answer old new → answer ≢ Memory
    → (old.solver.leaves.calls ≤ new.solver.leaves.calls)
    × (new.solver.leaves.calls ≤ old.solver.leaves.calls + count_of answer)
takes_calls Silent old new few other = (few.rises, few.calls)
takes_calls (Printed text) old new few other = (few.rises, few.calls)
takes_calls (Refused text) old new few other = (few.rises, few.calls)
takes_calls Quit old new few other = (few.rises, few.calls)
takes_calls ReadFault old new few other = (few.rises, few.calls)
takes_calls TooLong old new few other = (few.rises, few.calls)
takes_calls Memory old new few other = absurd (other refl)

pub calls_stay : (old new : Owned) → ChangesFew old 0 new
    → new.solver.leaves.calls ≡ old.solver.leaves.calls
calls_stay old new few = omega (arith, few.rises, few.calls)
