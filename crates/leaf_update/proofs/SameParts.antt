-- Whether sets are the same.
use Rattle.std.specs.Prelude.{◌≡◌, ◌≢◌, ◌↔◌, Bool, true, false, IsTrue, MatchBool, refl}
use Rattle.std.proofs.Common.{sym, subst}
use Rattle.leaf_update.proofs.SameRows.{refused}
use Rattle.set_core.specs.declared.set.Set.{Set}
use Rattle.set_core.specs.SetLaws.{same_sets}
use Rattle.set_core.specs.contracts.set.SetPartialEq.TheImpl as sets

pub sets_same : (s t : Set) (r : Bool) → r ≡ (sets.ghosts).eq s t → IsTrue r ↔ (s ≡ t)
sets_same s t r is = by r (subst (λ b. MatchBool b (s ≡ t) (s ≢ t)) (sym is) (same_sets s t))
  where
    by : (b : Bool) → MatchBool b (s ≡ t) (s ≢ t) → IsTrue b ↔ (s ≡ t)
    by true e = (λ _. e, λ _. refl)
    by false n = refused n
