-- The options among the words of a command.
use Rattle.std.specs.Prelude.{ℕ, ◌==◌, Bool, not, is_none, List, [], ◌∷◌, Option, Some, None, option_and_then, unwrap_or, bytes_eq, codes, nat_eq, if◌then◌else◌}
use Rattle.std.specs.List.{after_first, before_first, list_any, starts_with}
use Rattle.item_core.specs.declared.table.Target.{Target}
use Rattle.item_core.specs.declared.table.Target.TheVariants.{Standard}
use Rattle.command_words.specs.declared.options.Options.{Options}
use Rattle.command_words.specs.declared.words.Setup.{Setup}
use Rattle.script_tokens.specs.Number.{number_of}
use Rattle.script_tokens.specs.Table.{target_of}

abbrev pub Word : Type 0
Word = List ℕ

-- the word begins with `-`
abbrev pub is_option : Word → Bool
is_option word = starts_with nat_eq word (codes "-")

abbrev pub is_equals_sign : ℕ → Bool
is_equals_sign byte = byte == 61

-- the word is NAME=VALUE
abbrev pub is_joined : Word → Bool
is_joined word = list_any is_equals_sign word

-- ---- one option

abbrev pub no_options : Options
no_options = record { target = None; pivots = None }

abbrev pub with_target : Options → Target → Option Options
with_target options target =
    if is_none options.target then Some (record options { target = Some target }) else None

abbrev pub with_pivots : Options → ℕ → Option Options
with_pivots options pivots =
    if is_none options.pivots then Some (record options { pivots = Some pivots }) else None

-- the options and one more, by its name and its value
unfoldable pub with_option : Options → Word → Word → Option Options
with_option options name value =
    if bytes_eq name (codes "--target")
    then option_and_then (with_target options) (target_of value)
    else (if bytes_eq name (codes "--pivots")
    then option_and_then (with_pivots options) (number_of value)
    else None)

-- the options and the one in such a word
unfoldable pub with_joined : Options → Word → Option Options
with_joined options word =
    with_option options (before_first is_equals_sign word) (after_first is_equals_sign word)

-- ---- all options

unfoldable mutual
  -- the options given so far, and those that the words give; words of files are passed over
  pub options_from : Options → List Word → Option Options
  options_from options [] = Some options
  options_from options (word ∷ words) =
      if not (is_option word) then options_from options words
      else (if is_joined word
      then option_and_then (λ more. options_from more words) (with_joined options word)
      else options_with_value options word words)

  -- the same where the first word is the value of an option
  pub options_with_value : Options → Word → List Word → Option Options
  options_with_value options name [] = None
  options_with_value options name (value ∷ words) =
      option_and_then (λ more. options_from more words) (with_option options name value)

-- what the options come to
abbrev pub setup_by : Options → Setup
setup_by options = record {
  target = unwrap_or options.target Standard;
  pivots = unwrap_or options.pivots 100000;
}
