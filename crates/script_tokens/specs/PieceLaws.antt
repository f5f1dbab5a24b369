-- The first piece of a text.
use Rattle.std.proofs.Common.{◌≡◌, ℕ, ◌<◌, ◌≤◌, Bool, false, not, inl, inr, List, [], ◌∷◌, length, sym, ap, ap₂, ◌∙◌, arith}
use Rattle.std.specs.List.{All, after_first, before_first, position_or_len, slice_split}
use Rattle.std.proofs.lemmas.Bool.{cases_lt, not-true}
use Rattle.std.proofs.lemmas.List.{length-take-le, take_all}
use Rattle.std.proofs.lemmas.List.Splits.{slice_split_first, slice_split_none}
use Rattle.std.proofs.lemmas.List.Sums.{prefix_len_passes}

pub none_passes : (p : ℕ → Bool) (bs : List ℕ) → length bs ≤ position_or_len p bs
    → All (λ b. p b ≡ false) bs
none_passes p bs h k d lt = not-true _ (prefix_len_passes (λ b. not (p b)) bs k d (omega arith))

-- a piece with a separator after it
pub cut_more : (p : ℕ → Bool) (bs before after : List ℕ) → before ≡ before_first p bs
    → after ≡ after_first p bs → length before < length bs
    → slice_split p bs ≡ before ∷ slice_split p after
cut_more p bs before after b a h =
    elim (cases_lt (position_or_len p bs) (length bs)) [
      | inl lt ↦ slice_split_first p bs 0 lt ∙ ap₂ (λ x y. x ∷ slice_split p y) (sym b) (sym a)
      | inr ge ↦
          let same : length before ≡ length bs = ap length (b ∙ take_all _ bs ge) in
          absurd (omega arith)
    ]

no_separator : (p : ℕ → Bool) (bs before : List ℕ) → before ≡ before_first p bs
    → length bs ≤ length before → length bs ≤ position_or_len p bs
no_separator p bs before b h =
    elim (cases_lt (position_or_len p bs) (length bs)) [
      | inl lt ↦
          let short : length before ≡ position_or_len p bs =
          ap length b ∙ length-take-le (position_or_len p bs) bs (omega arith) in
          absurd (omega arith)
      | inr ge ↦ ge
    ]

-- a text without a separator
pub uncut : (p : ℕ → Bool) (bs before : List ℕ) → before ≡ before_first p bs
    → length bs ≤ length before → slice_split p bs ≡ bs ∷ []
uncut p bs before b h =
    slice_split_none p bs (none_passes p bs (no_separator p bs before b h))

-- the last piece
pub cut_last : (p : ℕ → Bool) (bs before : List ℕ) → before ≡ before_first p bs
    → length bs ≤ length before → slice_split p bs ≡ before ∷ []
cut_last p bs before b h =
    uncut p bs before b h
    ∙ ap (λ x. x ∷ []) (sym (b ∙ take_all _ bs (no_separator p bs before b h)))
