-- Lines at the beginning of a text.
use Rattle.std.proofs.Common.{◌≡◌, ℕ, ◌<◌, Bool, List, [], ◌∷◌, ◌++◌, length, refl, sym, ◌∙◌, ap, inl, inr, arith, eqb}
use Rattle.std.specs.Prelude.{map}
use Rattle.std.specs.List.{slice_split, onto_first}
use Rattle.std.specs.Str.Lines.{strip_carriage_return, lines, lines_of_parts}
use Rattle.std.proofs.lemmas.List.Splits.{slice_split_none, slice_split_at}
use Rattle.std.proofs.lemmas.Bool.{cases_Bool, ne_eqb, cond-false, cond-true}
use Rattle.line_reader.specs.Lines.{ended_parts, ended_lines, stripped_parts, IsUnended}

-- ---- the parts between newlines

parts-unended : (text : List ℕ) → IsUnended text
    → slice_split (λ b. eqb b 10) text ≡ text ∷ []
parts-unended text none = slice_split_none (λ b. eqb b 10) text none

parts-ended : (raw text : List ℕ) → IsUnended raw
    → slice_split (λ b. eqb b 10) (raw ++ 10 ∷ text) ≡ raw ∷ slice_split (λ b. eqb b 10) text
parts-ended raw text none = slice_split_at (λ b. eqb b 10) raw 10 text none refl

-- there is at least one part
parts-some : (p : ℕ → Bool) (text : List ℕ)
    → (part : List ℕ) × (more : List (List ℕ)) × (slice_split p text ≡ part ∷ more)
parts-some p [] = ([], [], refl)
parts-some p (b ∷ text) = elim (cases_Bool (p b)) [
  | inl passes ↦ ([], slice_split p text, cond-true _ _ _ passes)
  | inr fails ↦ (let r = parts-some p text in
      (b ∷ r.0, r.1, cond-false _ _ _ fails ∙ ap (onto_first b) r.2))
]

-- ---- the lines of a text with no newline, and of one that begins with a line and its newline

pub ended_lines-unended : (text : List ℕ) → IsUnended text → ended_lines text ≡ []
ended_lines-unended text none = ap ended_parts (parts-unended text none)

pub lines-unended : (text : List ℕ) → IsUnended text → 0 < length text → lines text ≡ text ∷ []
lines-unended text none some =
    ap lines_of_parts (parts-unended text none)
    ∙ cond-false _ _ _ (ne_eqb (length text) 0 (λ e. omega (arith, e, some)))

pub lines-ended : (raw text : List ℕ) → IsUnended raw
    → lines (raw ++ 10 ∷ text) ≡ strip_carriage_return raw ∷ lines text
lines-ended raw text none =
    let more = parts-some (λ b. eqb b 10) text in
    ap lines_of_parts (parts-ended raw text none ∙ ap (λ parts. raw ∷ parts) more.2)
    ∙ ap (λ parts. strip_carriage_return raw ∷ lines_of_parts parts) (sym more.2)

pub ended_lines-ended : (raw text : List ℕ) → IsUnended raw
    → ended_lines (raw ++ 10 ∷ text) ≡ strip_carriage_return raw ∷ ended_lines text
ended_lines-ended raw text none =
    let more = parts-some (λ b. eqb b 10) text in
    ap ended_parts (parts-ended raw text none ∙ ap (λ parts. raw ∷ parts) more.2)
    ∙ ap (λ parts. strip_carriage_return raw ∷ ended_parts parts) (sym more.2)

-- ---- the same of the stripped parts

pub stripped_parts-unended : (text : List ℕ) → IsUnended text
    → stripped_parts text ≡ strip_carriage_return text ∷ []
stripped_parts-unended text none = ap (map strip_carriage_return) (parts-unended text none)

pub stripped_parts-ended : (raw text : List ℕ) → IsUnended raw
    → stripped_parts (raw ++ 10 ∷ text) ≡ strip_carriage_return raw ∷ stripped_parts text
stripped_parts-ended raw text none = ap (map strip_carriage_return) (parts-ended raw text none)
