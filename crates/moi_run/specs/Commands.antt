-- What commands do.
--
--     lines_for, input_for    the lines that a command answers, and what it reads
--     start_for               the machine with which it begins
--     MayAskFor               the files that it asks for
use Rattle.std.specs.Prelude.{◌≡◌, ℕ, ◌⊎◌, List, [], ◌∷◌, ◌++◌, Any, Option, Some, None, Ok, Err, codes, option_map, IfSome, IsSome, IsTrue, String}
use Rattle.std.specs.declared.alloc.Global.{Global}
use Rattle.std.specs.Str.Lines.{lines}
use Rattle.command_words.specs.declared.words.Invocation.{Invocation}
use Rattle.command_words.specs.declared.words.Invocation.TheVariants.{Check, Generate, Plan, Run, Solve}
use Rattle.command_words.specs.declared.words.Setup.{Setup}
use Rattle.command_words.specs.Texts.{texts}
use Rattle.command_words.specs.Words.{command_of}
use Rattle.edit_engine.specs.Held.{set_up}
use Rattle.edit_engine.specs.Lines.{heard}
use Rattle.edit_engine.specs.Script.{Machine}
use Rattle.certificate_check.specs.Verdict.{MakesModel}
use Rattle.generated_script.specs.ScriptNumbers.{ScriptNumbers}
use Rattle.io_face.specs.Fault.{CountsNoFault}
use Rattle.io_face.specs.Shelf.{Gives}
use Rattle.io_face.specs.Told.{Told}
use Rattle.io_face.specs.declared.shelf.FetchFault.TheVariants.{Failed, TooLong}
use Rattle.item_core.specs.Table.{target_table}
use Rattle.item_core.specs.declared.table.Target.TheVariants.{Standard}
use Rattle.moi_run.specs.Input.{IsInputWithinLimits}
use Rattle.moi_run.specs.RunState.{RunState}
use Rattle.name_index.specs.Escape.{escaped}
use Rattle.script_core.specs.Line.{line_said}
use Rattle.script_core.specs.declared.command.Command.TheVariants as line

-- the command that the words say
abbrev pub said_by : List (String Global) → Option Invocation
said_by words = command_of (texts words)

-- ---- lines

-- the line that loads a file
abbrev pub load_line : List ℕ → List ℕ
load_line name = codes "load " ++ escaped name

-- the lines by which the model of a file is solved
abbrev pub solve_lines : List ℕ → List (List ℕ)
solve_lines model = load_line model ∷ codes "attach" ∷ codes "optimize" ∷ []

-- what the command reads, where it is known
abbrev pub input_for : Option Invocation → Option (List ℕ) → Option (List ℕ)
input_for (Some (Run setup)) left = left
input_for said left = None

-- the lines that the command answers, where they are known
abbrev pub lines_for : Option Invocation → Option (List ℕ) → Option (List (List ℕ))
lines_for (Some (Run setup)) left = option_map (λ bytes. heard (lines bytes)) left
lines_for (Some (Plan setup)) left = Some (codes "plan" ∷ [])
lines_for (Some (Solve setup model)) left = Some (solve_lines model)
lines_for (Some (Check model certificate)) left = None
lines_for (Some (Generate numbers)) left = None
lines_for None left = None

-- ---- what a session hears before its first line

-- of a generated script
abbrev pub generate_setup : Setup
generate_setup = record { target = Standard; pivots = 100000 }

abbrev pub setup_for : Option Invocation → Option Setup
setup_for (Some (Run setup)) = Some setup
setup_for (Some (Plan setup)) = Some setup
setup_for (Some (Solve setup model)) = Some setup
setup_for (Some (Check model certificate)) = None
setup_for (Some (Generate numbers)) = Some generate_setup
setup_for None = None

abbrev pub start_by : Option Setup → RunState → RunState
start_by None s = s
start_by (Some setup) s =
    record s { machine = set_up s.machine (target_table setup.target) setup.pivots }

-- the machine with which the command begins, by that of its session
abbrev pub start_for : Option Invocation → RunState → RunState
start_for said s = start_by (setup_for said) s

-- the machine with which a generated script begins, by that of its session
abbrev pub generate_start : Machine → Machine
generate_start s = set_up s (target_table generate_setup.target) generate_setup.pivots

-- ---- files

-- a line loads the file of this name
abbrev pub LoadsFile : List ℕ → List ℕ → Type 0
LoadsFile name text = line_said text ≡ Ok (line.Load name)

-- the command may ask for the file of this name: a line that it answers, where they are known, loads
-- it; or it is the model's that `check` names, or where that makes a model the certificate's
abbrev pub MayAskFor : Told → Option Invocation → Option (List ℕ) → List ℕ → Type 0
MayAskFor shelf (Some (Check model certificate)) left name =
    (name ≡ model) ⊎ ((name ≡ certificate) × MakesModel shelf model)
MayAskFor shelf (Some (Generate numbers)) left name = ⊥
MayAskFor shelf said left name = IfSome (lines_for said left) (Any (LoadsFile name))

-- it may ask for a file that the shelf, where it tells its files, doesn't have, or that is too long
abbrev pub AsksInVain : Option Invocation → Option (List ℕ) → Told → Type 0
AsksInVain said left shelf =
    (name : List ℕ) × MayAskFor shelf said left name × Gives shelf.files name (Err Failed)

abbrev pub AsksTooMuch : Option Invocation → Option (List ℕ) → Told → Type 0
AsksTooMuch said left shelf =
    (name : List ℕ) × MayAskFor shelf said left name × Gives shelf.files name (Err TooLong)

-- ---- counts of faults

-- a fault of the source or of the shelf, as far as the command uses them
abbrev pub HasReadFault : Option Invocation → Type 0 → Type 0 → Type 0
HasReadFault (Some (Run setup)) source shelf = source ⊎ shelf
HasReadFault (Some (Plan setup)) source shelf = ⊥
HasReadFault (Some (Solve setup model)) source shelf = shelf
HasReadFault (Some (Check model certificate)) source shelf = shelf
HasReadFault (Some (Generate numbers)) source shelf = ⊥
HasReadFault None source shelf = ⊥

-- ---- when it ends well

-- the source tells an input that is within the limits, and has no fault; or the command doesn't
-- read it
abbrev pub CanBeRead : Option Invocation → Option (List ℕ) → ℕ → ℕ → Type 0
CanBeRead (Some (Run setup)) left old new =
    IsSome left × IfSome left IsInputWithinLimits × CountsNoFault old new
CanBeRead (Some command) left old new = Unit {0}
CanBeRead None left old new = ⊥

-- the shelf tells its files, none that the command may ask for is too long, and the shelf has no
-- fault, or is sure and has each
pub record CanAllBeFetched (said : Option Invocation) (left : Option (List ℕ)) (shelf : Told)
    (old new : ℕ) : Type 0 where
  pub short : AsksTooMuch said left shelf → ⊥
  pub there : CountsNoFault old new ⊎ (IsTrue shelf.sure × (AsksInVain said left shelf → ⊥))

-- ---- commands of some kinds

-- but `run`, each command leaves the input
abbrev pub ReadsNothing : Option Invocation → Type 0
ReadsNothing (Some (Run setup)) = ⊥
ReadsNothing said = Unit {0}

-- `plan` and a generated script leave the shelf
abbrev pub FetchesNothing : Option Invocation → Type 0
FetchesNothing (Some (Plan setup)) = Unit {0}
FetchesNothing (Some (Generate numbers)) = Unit {0}
FetchesNothing said = ⊥

-- `check`, and what holds of its files
abbrev pub IfCheck : Option Invocation → (List ℕ → List ℕ → Type 0) → Type 0
IfCheck (Some (Check model certificate)) holds = holds model certificate
IfCheck said holds = Unit {0}

-- a generated script, and what holds of its numbers
abbrev pub IfGenerate : Option Invocation → (ScriptNumbers → Type 0) → Type 0
IfGenerate (Some (Generate numbers)) holds = holds numbers
IfGenerate said holds = Unit {0}
