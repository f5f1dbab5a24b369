-- The words of a command, without the program's name:
--
--     run [--target T] [--pivots N]
--     plan [--target T]
--     solve MODEL [--target T] [--pivots N]
--     check MODEL CERTIFICATE
--     gen SEED VARS ROWS EDITS
--
-- T is `standard`, `rows`, `cone`, `all` or `less`, and N one to ten decimal digits of at most
-- 4,294,967,295. An option and its value are two words, or one with = between them. Each option
-- stands at most once. MODEL and CERTIFICATE are names of files, of 1 to 4,096 bytes, which don't
-- begin with `-`. Options and files stand in any order. The four numbers of `gen` are one to ten
-- decimal digits: SEED is at most 2,147,483,647, VARS 1 to 1,000, ROWS at most 1,000, and EDITS at
-- most 100,000, and 0 where ROWS is 0.
use Rattle.std.specs.Prelude.{◌&&◌, is_none, List, [], ◌∷◌, Option, Some, None, option_and_then, option_map, bytes_eq, codes, if◌then◌else◌}
use Rattle.command_words.specs.declared.options.Options.{Options}
use Rattle.command_words.specs.declared.words.Invocation.{Invocation}
use Rattle.command_words.specs.declared.words.Invocation.TheVariants.{Check, Generate, Plan, Run, Solve}
use Rattle.command_words.specs.Files.{files_of, has_name_length}
use Rattle.command_words.specs.Generate.{recipe_in}
use Rattle.command_words.specs.Options.{Word, no_options, options_from, setup_by}

abbrev pub without_files : Options → Word → Option Invocation
without_files options name =
    if bytes_eq name (codes "run") then Some (Run (setup_by options))
    else (if bytes_eq name (codes "plan") && is_none options.pivots
    then Some (Plan (setup_by options))
    else None)

abbrev pub with_model : Options → Word → Word → Option Invocation
with_model options name model =
    if bytes_eq name (codes "solve") && has_name_length model
    then Some (Solve (setup_by options) model)
    else None

abbrev pub with_both : Options → Word → Word → Word → Option Invocation
with_both options name model certificate =
    if (bytes_eq name (codes "check") && (is_none options.target && is_none options.pivots))
    && (has_name_length model && has_name_length certificate)
    then Some (Check model certificate)
    else None

-- what the command of a name is to do, by its options and its files
unfoldable pub command_named : Word → Options → List Word → Option Invocation
command_named name options [] = without_files options name
command_named name options (model ∷ []) = with_model options name model
command_named name options (model ∷ certificate ∷ []) = with_both options name model certificate
command_named name options (first ∷ second ∷ third ∷ more) = None

-- what the command of a name is to do, by the words that follow it, which give options and files
unfoldable pub command_given : Word → List Word → Option Invocation
command_given name words =
    option_and_then (λ options. command_named name options (files_of words))
    (options_from no_options words)

-- what the words say; nothing where they are of no command
unfoldable pub command_of : List Word → Option Invocation
command_of [] = None
command_of (name ∷ words) =
    if bytes_eq name (codes "gen") then option_map Generate (recipe_in words)
    else command_given name words
