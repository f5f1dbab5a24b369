-- The lines of a file read one after the other.
use Rattle.std.specs.Prelude.{◌≡◌, ℕ, ◌+◌, Bool, true, false, List, [], ◌∷◌, Option, Some, None, length, refl, ◌==◌}
use Rattle.std.proofs.Common.{sym, ◌∙◌, ap, ap₂, inl, inr}
use Rattle.std.specs.List.{position_or_len, slice_split}
use Rattle.std.proofs.lemmas.Bool.{cases_lt}
use Rattle.std.proofs.lemmas.List.Splits.{slice_split_first, slice_split_none}
use Rattle.map_file.specs.declared.file.MapFile.{MapFile}
use Rattle.map_file.specs.declared.map_text.MapText.{MapText}
use Rattle.map_file.specs.declared.reader.Reader.{Reader}
use Rattle.map_file.specs.declared.use_text.UseText.{UseText}
use Rattle.map_file.specs.Lines.{Progress, ended, line_read, read_from, stopped}
use Rattle.map_file.specs.Progress.{MovesReader, progress_of}
use Rattle.script_tokens.specs.PieceLaws.{none_passes}

-- a text has a first piece
pub record HasFirst (pieces : List (List ℕ)) : Type 0 where
  pub first : List ℕ
  pub others : List (List ℕ)
  pub is : pieces ≡ first ∷ others

pub first_piece : (p : ℕ → Bool) (bs : List ℕ) → HasFirst (slice_split p bs)
first_piece p bs =
    elim (cases_lt (position_or_len p bs) (length bs)) [
      | inl lt ↦ record { first = _; others = _; is = slice_split_first p bs 0 lt }
      | inr ge ↦ record { first = _; others = _; is = slice_split_none p bs (none_passes p bs ge) }
    ]

abbrev file_of : List MapText → List UseText → Option ℕ → MapFile
file_of maps uses wrong = record { maps = maps; uses = uses; wrong = wrong }

-- what a line leads on to
abbrev led_on : ℕ → Progress → List (List ℕ) → Option Progress → MapFile
led_on number so_far rest (Some after) = read_from (number + 1) after rest
led_on number so_far rest None = stopped so_far (Some number)

two_pieces : (number : ℕ) (so_far : Progress) (line next : List ℕ) (rest : List (List ℕ))
    → read_from number so_far (line ∷ next ∷ rest)
    ≡ led_on number so_far (next ∷ rest) (line_read number so_far line)
unfolding read_from
two_pieces number so_far line next rest = by (line_read number so_far line)
  where
    by : (o : Option Progress)
        → elim o [
          | Some after ↦ read_from (number + 1) after (next ∷ rest)
          | None ↦ stopped so_far (Some number)
        ] ≡ led_on number so_far (next ∷ rest) o
    by (Some after) = refl
    by None = refl

module _ (number : ℕ) (so_far : Progress) (line : List ℕ) (pieces rest : List (List ℕ))
    (split : pieces ≡ line ∷ rest) (more : HasFirst rest) where
  whole : read_from number so_far pieces
      ≡ led_on number so_far rest (line_read number so_far line)
  whole =
      ap (read_from number so_far) (split ∙ ap (λ r. line ∷ r) more.is)
      ∙ two_pieces number so_far line more.first more.others
      ∙ ap (λ r. led_on number so_far r (line_read number so_far line)) (sym more.is)

  read_on : (after : Progress) → line_read number so_far line ≡ Some after
      → read_from number so_far pieces ≡ read_from (number + 1) after rest
  read_on after e = whole ∙ ap (led_on number so_far rest) e

  read_wrong : line_read number so_far line ≡ None
      → read_from number so_far pieces ≡ stopped so_far (Some number)
  read_wrong e = whole ∙ ap (led_on number so_far rest) e

module _ (number : ℕ) (old new : Reader) (line : List ℕ) (text after : List ℕ)
    (split : slice_split (λ b. b == 10) text ≡ line ∷ slice_split (λ b. b == 10) after) where
  -- a right line leads on
  pub right_line : MovesReader true old new (line_read number (progress_of old) line)
      → read_from (number + 1) (progress_of new) (slice_split (λ b. b == 10) after)
      ≡ read_from number (progress_of old) (slice_split (λ b. b == 10) text)
  right_line moves =
      sym (read_on number (progress_of old) line (slice_split (λ b. b == 10) text)
      (slice_split (λ b. b == 10) after) split (first_piece (λ b. b == 10) after)
      (progress_of new) moves.1)

  -- a wrong line ends what is read
  pub wrong_line : MovesReader false old new (line_read number (progress_of old) line)
      → stopped (progress_of new) (Some number)
      ≡ read_from number (progress_of old) (slice_split (λ b. b == 10) text)
  wrong_line moves =
      ap₂ (λ (ms : List MapText) (us : List UseText). file_of ms us (Some number)) moves.0 moves.1
      ∙ sym (read_wrong number (progress_of old) line (slice_split (λ b. b == 10) text)
      (slice_split (λ b. b == 10) after) split (first_piece (λ b. b == 10) after) moves.2)

pub read_last : (number : ℕ) (so_far : Progress) (last : List ℕ) (pieces : List (List ℕ))
    → pieces ≡ last ∷ [] → read_from number so_far pieces ≡ ended number so_far last
unfolding read_from
read_last number so_far last pieces e = ap (read_from number so_far) e ∙ one last
  where
    one : (last : List ℕ) → read_from number so_far (last ∷ []) ≡ ended number so_far last
    one last = refl
