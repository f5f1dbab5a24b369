-- A text with a newline behind it, as a line of output has it, says what it says without.
use Rattle.std.specs.Prelude.{◌≡◌, ℕ, Bool, true, false, ◌&&◌, not, ◌==◌, cond, List, [], ◌∷◌, ◌++◌, length, refl}
use Rattle.std.specs.Str.{IsUtf8}
use Rattle.std.proofs.Common.{ap, ap₂, append_assoc, sym, ◌∙◌}
use Rattle.std.proofs.lemmas.Str.{IsUtf8-append}
use Rattle.mof_text.proofs.TextLaws.{replaced-nil}
use Rattle.mof_text.specs.Numeral.{is_colon_next, is_json_number, is_long, is_white, magnitude_of, parts_of, replaced, replacement_of}
use Rattle.mof_text.specs.Rewritten.{BytePlace, after_in_string, after_other, is_run_byte, rewritten, rewritten_at}
use Rattle.mof_text.specs.Rewritten.BytePlace.{in_escape, in_string, outside}
use Rattle.serde_json.specs.Data.{Data}
use Rattle.mof_write.specs.Written.{IsTextOf}
use Rattle.mof_laws.specs.SameTokens.{as_line, same_read}

-- ---- numerals

colon_same : (cs : List ℕ) → is_colon_next (as_line cs) ≡ is_colon_next cs
colon_same [] = refl
colon_same (c ∷ cs) = ap (λ b. cond (is_white c) b (c == 58)) (colon_same cs)

replaced_same : (run cs : List ℕ) → replaced run (as_line cs) ≡ replaced run cs
unfolding replaced
replaced_same run cs =
    ap (λ b. cond (is_json_number (parts_of run) (length (magnitude_of run))
    && is_long run (parts_of run) && not b) (replacement_of run) run) (colon_same cs)

line_rewritten : (p : BytePlace) (xs : List ℕ)
    → rewritten_at p (as_line xs) ≡ as_line (rewritten_at p xs)
line_rewritten (outside run) [] =
    ap₂ (λ first rest. first ++ 10 ∷ rest) (replaced_same run []) (replaced-nil [])
line_rewritten (outside run) (c ∷ cs) =
    by (is_run_byte c) (line_rewritten (outside (run ++ c ∷ [])) cs)
    (line_rewritten (after_other c) cs)
  where
    by : (b : Bool)
        → rewritten_at (outside (run ++ c ∷ [])) (as_line cs)
        ≡ as_line (rewritten_at (outside (run ++ c ∷ [])) cs)
        → rewritten_at (after_other c) (as_line cs) ≡ as_line (rewritten_at (after_other c) cs)
        → cond b (rewritten_at (outside (run ++ c ∷ [])) (as_line cs))
        (replaced run (as_line (c ∷ cs)) ++ c ∷ rewritten_at (after_other c) (as_line cs))
        ≡ as_line (cond b (rewritten_at (outside (run ++ c ∷ [])) cs)
        (replaced run (c ∷ cs) ++ c ∷ rewritten_at (after_other c) cs))
    by true on off = on
    by false on off =
        ap₂ (λ first rest. first ++ c ∷ rest) (replaced_same run (c ∷ cs)) off
        ∙ sym (append_assoc (replaced run (c ∷ cs)) (c ∷ rewritten_at (after_other c) cs) (10 ∷ []))
line_rewritten in_string [] = refl
line_rewritten in_string (c ∷ cs) = ap (λ t. c ∷ t) (line_rewritten (after_in_string c) cs)
line_rewritten in_escape [] = refl
line_rewritten in_escape (c ∷ cs) = ap (λ t. c ∷ t) (line_rewritten in_string cs)

-- ---- texts

newline_utf8 : IsUtf8 (10 ∷ [])
unfolding lib.Utf8.encode
newline_utf8 = (10 ∷ [], (refl, refl))

-- a text of a value is one with a newline behind it too
pub line_too : (text : List ℕ) (d : Data) → IsTextOf text d → IsTextOf (as_line text) d
unfolding rewritten
line_too text d h = record {
  utf8 = IsUtf8-append text (10 ∷ []) h.utf8 newline_utf8;
  exact = line_rewritten (outside []) text ∙ ap as_line h.exact;
  value = same_read text ∙ h.value;
}
