-- The first of the items that are left passes a test, or is skipped.
use Rattle.std.specs.Prelude.{◌≡◌, Bool, true, false, cond, filter, List, ◌∷◌}
use Rattle.std.proofs.Common.{ap, ◌∙◌}

module _ {X : Type 0} (test : X → Bool) (left rest : List X) (x : X) (next : left ≡ x ∷ rest) where
  pub first_passes : test x ≡ true → filter test left ≡ x ∷ filter test rest
  first_passes is =
      ap (filter test) next ∙ ap (λ b. cond b (x ∷ filter test rest) (filter test rest)) is

  pub first_skipped : test x ≡ false → filter test left ≡ filter test rest
  first_skipped is =
      ap (filter test) next ∙ ap (λ b. cond b (x ∷ filter test rest) (filter test rest)) is
