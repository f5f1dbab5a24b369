-- A line and its tokens, from the first space on.
use Rattle.std.proofs.Common.{◌≡◌, ℕ, ◌≤◌, Bool, true, false, not, cond, eqb, inl, inr, List, [], ◌∷◌, length, filter, refl, sym, ap, ◌∙◌, arith}
use Rattle.std.specs.List.{slice_split, before_first, after_first, position_or_len, All}
use Rattle.std.proofs.lemmas.Bool.{cases_lt, not-true}
use Rattle.std.proofs.lemmas.Bool.Decides.{nat_tests}
use Rattle.std.proofs.lemmas.List.{take_all, drop_all}
use Rattle.std.proofs.lemmas.List.Splits.{slice_split_first, slice_split_none}
use Rattle.std.proofs.lemmas.List.Sums.{prefix_len_passes}
use Rattle.script_tokens.specs.Tokens.{tokens_of}

abbrev is_space : ℕ → Bool
is_space b = eqb b 32

abbrev is_token : List ℕ → Bool
is_token run = not (eqb (length run) 0)

turned : {X : Type 0} (b : Bool) (x y : X) → cond (not b) x y ≡ cond b y x
turned true x y = refl
turned false x y = refl

-- the tokens from a first run and what stands after its space
abbrev joined : List ℕ → List ℕ → List (List ℕ)
joined before after =
    cond (eqb (length before) 0) (filter is_token (slice_split is_space after))
    (before ∷ filter is_token (slice_split is_space after))

no_space : (bs : List ℕ) → length bs ≤ position_or_len is_space bs
    → All (λ b. is_space b ≡ false) bs
no_space bs h k d lt = not-true _ (prefix_len_passes (λ b. not (is_space b)) bs k d (omega arith))

filtered_first : (bs : List ℕ) → filter is_token (slice_split is_space bs)
    ≡ joined (before_first is_space bs) (after_first is_space bs)
filtered_first bs =
    elim (cases_lt (position_or_len is_space bs) (length bs)) [
      | inl lt ↦ ap (filter is_token) (slice_split_first is_space bs 0 lt)
          ∙ turned (eqb (length (before_first is_space bs)) 0) _ _
      | inr ge ↦
          let whole : before_first is_space bs ≡ bs = take_all _ bs ge in
          let nothing : after_first is_space bs ≡ [] = drop_all _ bs (omega arith) in
          ap (filter is_token) (slice_split_none is_space bs (no_space bs ge))
          ∙ turned (eqb (length bs) 0) _ _ ∙ sym (ap (λ b. joined b (after_first is_space bs))
          whole ∙ ap (joined bs) nothing)
    ]

joined_same : (bs before after : List ℕ) → before ≡ before_first is_space bs
    → after ≡ after_first is_space bs → joined before after ≡ joined (before_first is_space bs)
    (after_first is_space bs)
joined_same bs before after b a =
    ap (λ x. joined x after) b ∙ ap (joined (before_first is_space bs)) a

-- a run of no bytes is no token
pub tokens_of_spaced : (bs before after : List ℕ) → before ≡ before_first is_space bs
    → after ≡ after_first is_space bs → eqb (length before) 0 ≡ true
    → tokens_of bs ≡ tokens_of after
unfolding tokens_of
tokens_of_spaced bs before after b a h =
    filtered_first bs ∙ sym (joined_same bs before after b a)
    ∙ ap (λ t. cond t (filter is_token (slice_split is_space after))
    (before ∷ filter is_token (slice_split is_space after))) h

-- the first token, and those after its space
pub tokens_of_first : (bs before after : List ℕ) → before ≡ before_first is_space bs
    → after ≡ after_first is_space bs → eqb (length before) 0 ≡ false
    → tokens_of bs ≡ before ∷ tokens_of after
unfolding tokens_of
tokens_of_first bs before after b a h =
    filtered_first bs ∙ sym (joined_same bs before after b a)
    ∙ ap (λ t. cond t (filter is_token (slice_split is_space after))
    (before ∷ filter is_token (slice_split is_space after))) h

pub tokens_of_none : (bs : List ℕ) → eqb (length bs) 0 ≡ true → tokens_of bs ≡ []
unfolding tokens_of
tokens_of_none [] h = refl
tokens_of_none (b ∷ bs) h = absurd (grind (arith, nat_tests))
