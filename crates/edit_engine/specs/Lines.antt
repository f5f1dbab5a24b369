-- Lines, one after another: which of them are heard, what they are answered, and the state that
-- they leave.
use Rattle.std.specs.Prelude.{ℕ, Bool, true, false, ◌||◌, List, [], ◌∷◌, ◌++◌, Option, None, Result, Ok, if◌then◌else◌}
use Rattle.cache_layer.specs.CacheState.{CacheState}
use Rattle.edit_engine.specs.Bare.{is_bare}
use Rattle.edit_engine.specs.Script.{Machine, Steps}
use Rattle.report_core.specs.declared.answer.Answer.{Answer}
use Rattle.report_core.specs.declared.answer.Answer.TheVariants.{Printed, Quit, Refused, Silent}
use Rattle.script_core.specs.Line.{line_said}
use Rattle.script_core.specs.declared.command.Command.{Command}
use Rattle.script_core.specs.declared.command.Command.TheVariants as line
use Rattle.script_core.specs.declared.fault.LineFault.{LineFault}
use Rattle.user_model.specs.declared.edit.Edit.{Edit}

abbrev pub is_quit : Result Command LineFault → Bool
is_quit (Ok line.Quit) = true
is_quit said = false

-- the line ends the run
unfoldable pub says_quit : List ℕ → Bool
says_quit line = is_quit (line_said line)

abbrev pub is_load : Result Command LineFault → Bool
is_load (Ok (line.Load name)) = true
is_load said = false

-- the line asks for a file
unfoldable pub says_load : List ℕ → Bool
says_load line = is_load (line_said line)

-- the files that a line `load` of this name asks for, by whether a solver is attached and whether
-- nothing stands in the model
abbrev pub load_asks : Bool → Bool → List ℕ → List (List ℕ)
load_asks false true name = name ∷ []
load_asks attached bare name = []

-- while a group of edits is open no file is asked for
abbrev pub asks_by : Option (List Edit) → CacheState → Result Command LineFault → List (List ℕ)
asks_by None s (Ok (line.Load name)) = load_asks s.attached (is_bare s.model) name
asks_by group s said = []

abbrev pub said_asks : Machine → Result Command LineFault → List (List ℕ)
said_asks m = asks_by m.group m.state

-- the names of the files that a line asks for
unfoldable pub line_asks : Machine → List ℕ → List (List ℕ)
line_asks m line = said_asks m (line_said line)

-- the lines up to their end, or through the first that ends the run
abbrev pub heard : List (List ℕ) → List (List ℕ)
heard [] = []
heard (line ∷ lines) = line ∷ (if says_quit line then [] else heard lines)

-- what an answer prints, and whether it is a refusal; the other answers stop the work
pub data Prints : Answer → List ℕ → Bool → Type 0 where
  silent : Prints Silent [] false
  accepted : {text : List ℕ} → Prints (Printed text) text false
  refusal : {text : List ℕ} → Prints (Refused text) text true
  quit : Prints Quit [] false

-- from a state the lines, one after another, are answered by a text; whether one of them was
-- refused; and the state that they leave
pub data Answers : Machine → List (List ℕ) → List ℕ → Bool → Machine → Type 0 where
  none : {s : Machine} → Answers s [] [] false s
  next : {s middle new : Machine} {line text more : List ℕ} {lines : List (List ℕ)}
      {answer : Answer} {was any : Bool} → Steps s line answer middle → Prints answer text was
      → Answers middle lines more any new
      → Answers s (line ∷ lines) (text ++ more) (was || any) new
