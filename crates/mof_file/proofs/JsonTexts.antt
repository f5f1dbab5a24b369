-- The JSON value of a text, by what a reader of JSON answers.
use Rattle.std.specs.Prelude.{◌≡◌, ℕ, true, false, List, Some, None, Ok, Err, refl}
use Rattle.std.proofs.Common.{ap, subst, sym, ◌∙◌}
use Rattle.std.proofs.lemmas.Bool.{cond-false, cond-true}
use Rattle.std.proofs.lemmas.Str.{IsUtf8-from_is_utf8, is_utf8-from_IsUtf8}
use Rattle.std.specs.Str.{IsUtf8, is_utf8}
use Rattle.serde_json.specs.Data.{Data}
use Rattle.serde_json.specs.Read.{read}
use Rattle.mof_text.specs.Rewritten.{rewritten}
use Rattle.mof_values.specs.declared.fault.MofFault.TheVariants.{NotJson}
use Rattle.mof_values.specs.Walked.{or_fault}
use Rattle.mof_file.specs.File.{json_of, whole}

json_of-read : (text : List ℕ) (d : Data) → IsUtf8 (rewritten text)
    → read (rewritten text) ≡ Some d → json_of text ≡ Some d
unfolding json_of
json_of-read text d utf8 e = cond-true _ _ _ (is_utf8-from_IsUtf8 (rewritten text) utf8) ∙ e

json_of-none : (text : List ℕ) → (IsUtf8 (rewritten text) → read (rewritten text) ≡ None)
    → json_of text ≡ None
unfolding json_of
json_of-none text refused =
    elim (is_utf8 (rewritten text)) as (λ t. is_utf8 (rewritten text) ≡ t → json_of text ≡ None) [
      | true ↦ λ t. cond-true _ _ _ t ∙ refused (IsUtf8-from_is_utf8 (rewritten text) t)
      | false ↦ λ t. cond-false _ _ _ t
    ] refl

pub told_read : (text exact : List ℕ) (d : Data) → exact ≡ rewritten text → IsUtf8 exact
    → read exact ≡ Some d → or_fault (NotJson whole) (json_of text) ≡ Ok d
told_read text exact d is utf8 e =
    ap (or_fault (NotJson whole)) (json_of-read text d (subst IsUtf8 is utf8)
    (ap read (sym is) ∙ e))

pub told_none : (text exact : List ℕ) → exact ≡ rewritten text → (IsUtf8 exact → read exact ≡ None)
    → or_fault (NotJson whole) (json_of text) ≡ Err (NotJson whole)
told_none text exact is refused =
    let P : List ℕ → Type 0 = λ bytes. IsUtf8 bytes → read bytes ≡ None in
    ap (or_fault (NotJson whole)) (json_of-none text (subst P is refused))

pub ruleset json_told = (told_read, told_none)
