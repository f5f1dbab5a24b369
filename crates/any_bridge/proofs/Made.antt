-- Lists of bridges that were just made.
use Rattle.std.specs.Prelude.{◌≡◌, List, [], ◌∷◌, All, IsTrue, map, refl}
use Rattle.std.specs.FinMap as finite
use Rattle.std.proofs.Common.{ap, subst, sym, ◌∙◌}
use Rattle.std.proofs.lemmas.List.Elements.{All-cons, All-nil}
use Rattle.any_bridge.specs.States.{fresh, state_of_any}
use Rattle.bridge_set.specs.Bridges.{families_of, occur_once}
use Rattle.bridge_face.specs.BridgeState.{BridgeState}
use Rattle.item_core.specs.declared.family.Family.{Family}

families_of-fresh : (fs : List Family) → families_of (map fresh fs) ≡ fs
families_of-fresh [] = refl
families_of-fresh (f ∷ fs) = ap (λ gs. f ∷ gs) (families_of-fresh fs)

fresh_empty : (fs : List Family) → All (λ (s : BridgeState). s.kept ≡ finite.empty) (map fresh fs)
fresh_empty [] = All-nil (λ (s : BridgeState). s.kept ≡ finite.empty)
fresh_empty (f ∷ fs) =
    All-cons (λ (s : BridgeState). s.kept ≡ finite.empty) (fresh f) (map fresh fs) refl (fresh_empty fs)

module _ (fs : List Family) (bs : List BridgeState) (made : map state_of_any bs ≡ map fresh fs) where
  pub made_once : IsTrue (occur_once fs) → IsTrue (occur_once (families_of (map state_of_any bs)))
  made_once =
      subst (λ gs. IsTrue (occur_once gs)) (sym (ap families_of made ∙ families_of-fresh fs))

  pub made_empty : All (λ (s : BridgeState). s.kept ≡ finite.empty) (map state_of_any bs)
  made_empty =
      subst (All (λ (s : BridgeState). s.kept ≡ finite.empty)) (sym made) (fresh_empty fs)
