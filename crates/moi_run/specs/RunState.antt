-- A session's machine with what lines do beside: how often its solver's model was called, and which
-- files were asked for, where the shelf tells them.
--
--     MovesByLine     a line was answered, by few calls, and its files were asked for
--     MovesThrough    so lines were, one after another, and their numbers after `ok` are added up
--     IsStill         the machine and the number of calls are as they were
use Rattle.std.specs.Prelude.{◌≡◌, ◌≤◌, ◌+◌, ℕ, List, Option, flat_map}
use Rattle.std.specs.List.{sum_by}
use Rattle.edit_engine.specs.Counts.{count_of}
use Rattle.edit_engine.specs.Held.{SessionValue, machine_of}
use Rattle.edit_engine.specs.Lines.{line_asks}
use Rattle.edit_engine.specs.Script.{Machine, Steps}
use Rattle.edit_engine.specs.Served.{Serves, text_of}
use Rattle.io_face.specs.Shelf.{AsksFor}
use Rattle.io_face.specs.Told.{Told}
use Rattle.report_core.specs.declared.answer.Answer.{Answer}

pub record RunState : Type 0 where
  pub machine : Machine
  pub calls : ℕ
  pub asked : Option (List (List ℕ))

abbrev pub run_state_of : SessionValue → Told → Option (List (List ℕ)) → RunState
run_state_of session shelf asked = record {
  machine = machine_of session shelf;
  calls = session.cache.lazy.solver.leaves.calls;
  asked = asked;
}

-- a line was answered; the solver's model was called at most as often as the number after `ok` in
-- the answer says, and the line's files were asked for
pub record MovesByLine (s : RunState) (line : List ℕ) (answer : Answer) (new : RunState) : Type 0 where
  pub steps : Steps s.machine line answer new.machine
  pub rises : s.calls ≤ new.calls
  pub few : new.calls ≤ s.calls + count_of answer
  pub asks : AsksFor s.asked new.asked (line_asks s.machine line)

-- the answers to lines make this text; the solver's model was called at most as often as the
-- numbers after `ok` in them say together, and the lines' files were asked for, in turn
pub record MovesThrough (s : RunState) (lines : List (List ℕ)) (text : List ℕ)
    (new : RunState) : Type 0 where
  pub answers : List Answer
  pub asked : List (List ℕ)
  pub serves : Serves s.machine lines answers asked new.machine
  pub makes : text ≡ flat_map text_of answers
  pub rises : s.calls ≤ new.calls
  pub few : new.calls ≤ s.calls + sum_by count_of answers
  pub asks : AsksFor s.asked new.asked asked

pub record IsStill (s new : RunState) : Type 0 where
  pub machine : new.machine ≡ s.machine
  pub calls : new.calls ≡ s.calls
