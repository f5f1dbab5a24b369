-- Words that are read one after another.
use Rattle.std.proofs.Common.{◌≡◌, ◌≤◌, ◌⊎◌, inl, inr, List, [], ◌∷◌, ◌++◌, length, Option, None, Some, refl, sym, ap, append_assoc, arith, ◌∙◌}
use Rattle.std.specs.Prelude.{option_and_then}
use Rattle.command_words.specs.Files.{files_of}
use Rattle.command_words.specs.Options.{Word, no_options, options_from}
use Rattle.command_words.specs.Words.{command_given, command_named}
use Rattle.command_words.specs.declared.options.Options.{Options}

-- a word goes from those that are left to those that were taken
pub one_more : (done more left : List Word) (word : Word) → more ≡ done ++ word ∷ []
    → more ++ left ≡ done ++ word ∷ left
one_more done more left word e =
    ap (λ ws. ws ++ left) e ∙ append_assoc done (word ∷ []) left

-- no command takes three words of files
three_named : (name : Word) (options : Options) (files : List Word) → 3 ≤ length files
    → command_named name options files ≡ None
unfolding command_named
three_named name options [] many = absurd (omega arith)
three_named name options (first ∷ []) many = absurd (omega arith)
three_named name options (first ∷ second ∷ []) many = absurd (omega arith)
three_named name options (first ∷ second ∷ third ∷ more) many = refl

-- where the options are none or there are too many words of files, the words are of no command
pub none_given : (name : Word) (words : List Word)
    → (options_from no_options words ≡ None) ⊎ (3 ≤ length (files_of words))
    → None ≡ command_given name words
unfolding command_given
none_given name words (inl e) =
    sym (ap (option_and_then (λ options. command_named name options (files_of words))) e)
none_given name words (inr many) = sym (by (options_from no_options words))
  where
    by : (found : Option Options)
        → option_and_then (λ options. command_named name options (files_of words)) found ≡ None
    by None = refl
    by (Some options) = three_named name options (files_of words) many
