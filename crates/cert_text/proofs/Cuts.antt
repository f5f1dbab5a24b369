-- What is printed, cut into its pieces.
use Rattle.std.proofs.Common.{◌≡◌, ℕ, Bool, false, List, [], ◌∷◌, ◌++◌, map, refl, ap, ◌∙◌, append_assoc, append-nil}
use Rattle.std.specs.List.{All, onto_first, slice_split}
use Rattle.std.proofs.lemmas.List.Elements.{All-head, All-tail}
use Rattle.std.proofs.lemmas.List.Splits.{slice_split-cons_no, slice_split_at}
use Rattle.ratio_core.specs.Rational.{Rational}
use Rattle.ratio_core.specs.Text.{text_of}
use Rattle.cert_text.specs.Text.{Line, numbers_text, text_of_lines}
use Rattle.cert_text.proofs.Bytes.{OnLine, is_newline, is_space, no_newlines, no_spaces, number_above}

joined_split : (p : ℕ → Bool) (bs rest first : List ℕ) (others : List (List ℕ))
    → All (λ b. p b ≡ false) bs → slice_split p rest ≡ first ∷ others
    → slice_split p (bs ++ rest) ≡ (bs ++ first) ∷ others
joined_split p [] rest first others h e = e
joined_split p (b ∷ bs) rest first others h e =
    slice_split-cons_no p b (bs ++ rest) (All-head (λ b. p b ≡ false) b bs h)
    ∙ ap (onto_first b) (joined_split p bs rest first others (All-tail (λ b. p b ≡ false) b bs h) e)

-- numbers, each after a space
pub numbers_split : (qs : List Rational) → slice_split is_space (numbers_text qs)
    ≡ [] ∷ map text_of qs
numbers_split [] = refl
numbers_split (q ∷ qs) =
    ap (λ words. [] ∷ words)
    (joined_split is_space (text_of q) (numbers_text qs) [] (map text_of qs)
    (no_spaces (text_of q) (number_above q)) (numbers_split qs)
    ∙ ap (λ word. word ∷ map text_of qs) (append-nil (text_of q)))

-- lines, each before a newline
pub lines_split : (lines : List Line) → All OnLine lines
    → slice_split is_newline (text_of_lines lines) ≡ lines ++ [] ∷ []
lines_split [] h = refl
lines_split (line ∷ lines) h =
    ap (slice_split is_newline) (append_assoc line (10 ∷ []) (text_of_lines lines))
    ∙ slice_split_at is_newline line 10 (text_of_lines lines)
    (no_newlines line (All-head OnLine line lines h)) refl
    ∙ ap (λ others. line ∷ others) (lines_split lines (All-tail OnLine line lines h))
