-- How lines move a session's machine, by what the session says of each.
use Rattle.std.specs.Prelude.{◌≢◌, ℕ, Bool, List, [], ◌∷◌, ◌++◌, Option, flat_map, refl}
use Rattle.std.specs.List.{sum_by}
use Rattle.std.proofs.Common.{ap, arith, ◌∙◌}
use Rattle.std.proofs.lemmas.List.{flat_map_more}
use Rattle.std.proofs.lemmas.List.Sums.{sum_by-append}
use Rattle.edit_engine.specs.CountLaws.{takes_calls}
use Rattle.edit_engine.specs.Counts.{TakesFew, count_of}
use Rattle.edit_engine.specs.Held.{SessionValue, machine_of}
use Rattle.edit_engine.specs.Lines.{Prints, line_asks}
use Rattle.edit_engine.specs.Script.{Answered, Machine, Steps}
use Rattle.edit_engine.specs.Served.{text_of}
use Rattle.edit_engine.specs.ServedLaws.{Serves-append, Serves-none, Serves-one, printed_text}
use Rattle.io_face.specs.Shelf.{AsksFor}
use Rattle.io_face.specs.Told.{Told}
use Rattle.io_face.specs.ToldLaws.{asks_more, asks_none}
use Rattle.moi_run.specs.RunState.{IsStill, MovesByLine, MovesThrough, RunState, run_state_of}
use Rattle.report_core.specs.declared.answer.Answer.{Answer}
use Rattle.report_core.specs.declared.answer.Answer.TheVariants.{Memory, Printed, Quit, ReadFault, Refused, Silent, TooLong}

-- ---- one line

steps_of : (s new : Machine) (line : List ℕ) (answer : Answer) → Answered s line answer new
    → answer ≢ Memory → Steps s line answer new
steps_of s new line Silent answered other = answered
steps_of s new line (Printed text) answered other = answered
steps_of s new line (Refused text) answered other = answered
steps_of s new line Quit answered other = answered
steps_of s new line ReadFault answered other = answered
steps_of s new line TooLong answered other = answered
steps_of s new line Memory answered other = absurd (other refl)

pub moved : (old new : SessionValue) (told : Told) (asked asked' : Option (List (List ℕ))) (line : List ℕ)
    (answer : Answer) → Answered (machine_of old told) line answer (machine_of new told)
    → TakesFew answer old.cache.lazy new.cache.lazy
    → (answer ≢ Memory → AsksFor asked asked' (line_asks (machine_of old told) line))
    → answer ≢ Memory
    → MovesByLine (run_state_of old told asked) line answer (run_state_of new told asked')
moved old new told asked asked' line answer answered few asks other =
    let calls = takes_calls answer old.cache.lazy new.cache.lazy few other in
    record {
      steps = steps_of (machine_of old told) (machine_of new told) line answer answered other;
      rises = calls.0;
      few = calls.1;
      asks = asks other;
    }

-- ---- lines

pub through_none : (s : RunState) → MovesThrough s [] [] s
through_none s = record {
  answers = [];
  asked = [];
  serves = Serves-none;
  makes = refl;
  rises = omega arith;
  few = omega arith;
  asks = asks_none s.asked;
}

pub through_more : {s middle new : RunState} {lines : List (List ℕ)} {line text part : List ℕ}
    {answer : Answer} {was : Bool} → MovesThrough s lines text middle
    → MovesByLine middle line answer new → Prints answer part was
    → MovesThrough s (lines ++ line ∷ []) (text ++ part) new
through_more {s} {middle} {new} {lines} {line} {text} {part} {answer} {was} before moves prints =
    record {
      answers = before.answers ++ answer ∷ [];
      asked = before.asked ++ line_asks middle.machine line;
      serves = Serves-append before.serves (Serves-one moves.steps);
      makes =
          ap (λ t. t ++ part) before.makes
          ∙ (ap (λ t. flat_map text_of before.answers ++ t) (printed_text prints)
          ∙ flat_map_more text_of [] before.answers answer);
      rises = omega (arith, before.rises, moves.rises);
      few =
          omega (
            arith,
            before.few,
            moves.few,
            sum_by-append count_of before.answers (answer ∷ []),
          );
      asks =
          asks_more s.asked middle.asked new.asked before.asked
          (line_asks middle.machine line) before.asks moves.asks;
    }

pub still : (s : RunState) → IsStill s s
still s = record { machine = refl; calls = refl }
