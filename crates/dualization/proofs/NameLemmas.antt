-- The texts of names: how they are put together, and that they are short.
use Rattle.std.specs.Prelude.{◌≡◌, ℕ, zero, suc, ◌+◌, ◌≤◌, List, [], ◌∷◌, ◌++◌, length}
use Rattle.std.proofs.Common.{ap, append_assoc, arith, length-append, ◌∙◌}
use Rattle.name_index.specs.Name.{HasBadLength, HasNameLength}
use Rattle.dual_model.specs.DualOf.{part_name, part_names}

-- pieces appended one after another make the name of a part
pub part_text : (letter : ℕ) (a b t₁ t₂ t₃ t₄ : List ℕ) → t₁ ≡ [] ++ letter ∷ [] → t₂ ≡ t₁ ++ a
    → t₃ ≡ t₂ ++ 95 ∷ [] → t₄ ≡ t₃ ++ b → t₄ ≡ letter ∷ a ++ 95 ∷ b
part_text letter a b t₁ t₂ t₃ t₄ e₁ e₂ e₃ e₄ =
    e₄ ∙ ap (λ t. t ++ b) (e₃ ∙ ap (λ t. t ++ 95 ∷ []) (e₂ ∙ ap (λ t. t ++ a) e₁))
    ∙ append_assoc (letter ∷ a) (95 ∷ []) b

pub short_part : (letter : ℕ) (a b text : List ℕ) → text ≡ letter ∷ a ++ 95 ∷ b → length a ≤ 40
    → length b ≤ 40 → HasNameLength text
short_part letter a b text e short also =
    let long : length text ≡ suc (length a) + suc (length b) =
    ap length e ∙ length-append (letter ∷ a) (95 ∷ b) in
    (omega (arith, long), omega (arith, long, short, also))

pub short_row : (letter : ℕ) (a text : List ℕ) → text ≡ letter ∷ a → length a ≤ 40
    → HasNameLength text
short_row letter a text e short =
    let long : length text ≡ suc (length a) = ap length e in
    (omega (arith, long), omega (arith, long, short))

pub not_both : (text : List ℕ) → HasNameLength text → HasBadLength text → ⊥
not_both text good bad = omega (arith, good.0, good.1, bad)

-- one name more
pub names_more : (letter item i n : ℕ)
    → part_names letter item i (n + 1) ≡ part_names letter item i n ++ part_name letter item (i + n) ∷ []
names_more letter item i zero =
    let same : i ≡ i + 0 = omega arith in ap (λ k. part_name letter item k ∷ []) same
names_more letter item i (suc n) =
    let more : suc n + 1 ≡ suc (n + 1) = omega arith in
    let place : suc i + n ≡ i + suc n = omega arith in
    ap (part_names letter item i) more
    ∙ ap (λ t. part_name letter item i ∷ t) (names_more letter item (suc i) n
    ∙ ap (λ k. part_names letter item (suc i) n ++ part_name letter item k ∷ []) place)

pub ruleset names = (part_text, short_part, short_row, not_both, names_more)
