-- The name of a kind, word by word.
use Rattle.std.proofs.Common.{◌≡◌, ℕ, true, false, List, [], ◌∷◌, ◌++◌, length, eqb, refl, ◌∙◌, append_assoc, arith}
use Rattle.std.proofs.lemmas.Bool.Decides.{nat_tests}
use Rattle.item_core.specs.Kind.{joined}

pub joined_alone : (first second : List ℕ) → eqb (length second) 0 ≡ true
    → joined first second ≡ first
joined_alone first [] h = refl
joined_alone first (b ∷ second) h = absurd (grind (arith, nat_tests))

pub joined_both : (start first second : List ℕ) → eqb (length second) 0 ≡ false
    → ((start ++ first) ++ 58 ∷ []) ++ second ≡ start ++ joined first second
joined_both start first [] h = absurd (grind (arith, nat_tests))
joined_both start first (b ∷ second) h =
    append_assoc (start ++ first) (58 ∷ []) (b ∷ second)
    ∙ append_assoc start first (58 ∷ b ∷ second)
