-- The line `plan`.
use Rattle.std.proofs.Common.{◌≡◌, false, [], ◌∷◌, refl}
use Rattle.std.specs.Prelude.{All, codes}
use Rattle.std.proofs.lemmas.List.Elements.{All-cons, All-nil}
use Rattle.edit_engine.specs.Lines.{says_load}
use Rattle.script_core.specs.Keyword.{keyword_of}
use Rattle.script_core.specs.Line.{form_of, line_form, line_said, reading_of}
use Rattle.script_tokens.specs.Tokens.{tokens_of}

-- it asks for no file
pub plan_loads_nothing : says_load (codes "plan") ≡ false
unfolding says_load line_said reading_of line_form form_of keyword_of tokens_of
plan_loads_nothing = refl

pub one_line : {X : Type 0} (P : X → Type 0) (x : X) → P x → All P (x ∷ [])
one_line P x h = All-cons P x [] h (All-nil P)
