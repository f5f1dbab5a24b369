-- What a line is read as.
use Rattle.std.specs.Prelude.{ℕ, Bool, List, [], ◌∷◌, Option, Some, None, bytes_eq, codes}
use Prim.Native.String.{String}
use Rattle.user_model.specs.declared.edit.Edit.{Edit}
use Rattle.script_core.specs.declared.command.Command.{Command}
use Rattle.script_core.specs.declared.command.Command.TheVariants as command
use Rattle.script_core.specs.declared.reading.LineReading.{LineReading}
use Rattle.script_core.specs.declared.reading.LineReading.TheVariants.{Says, Overflow}

-- the tokens of a line, or what is left of them
abbrev pub TokenList : Type 0
TokenList = List (List ℕ)

-- whether a token is this word
abbrev pub is : String → List ℕ → Bool
is word token = bytes_eq token (codes word)

abbrev pub says : Command → Option LineReading
says command = Some (Says command)

-- an edit of the model
abbrev pub makes : Edit → Option LineReading
makes edit = says (command.Edit edit)

-- the edit with a function whose sums fit
abbrev pub makes_with : {X : Type 0} → (X → Edit) → Option X → Option LineReading
makes_with edit (Some function) = makes (edit function)
makes_with edit None = Some Overflow

-- what nothing follows
abbrev pub alone : {X : Type 0} → X → TokenList → Option X
alone x [] = Some x
alone x (_ ∷ _) = None
