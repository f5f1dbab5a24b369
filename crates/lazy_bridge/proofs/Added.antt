-- A family more, where it isn't among families.
use Rattle.std.specs.Prelude.{◌≡◌, Bool, true, false, ◌&&◌, ◌||◌, not, List, [], ◌∷◌, ◌++◌, All, map, refl}
use Rattle.std.specs.FinMap as finite
use Rattle.std.specs.List.{list_any}
use Rattle.std.proofs.Common.{sym, ap, ap₂, subst, ◌∙◌, true≢false}
use Rattle.std.proofs.lemmas.List.{map-append}
use Rattle.std.proofs.lemmas.List.Elements.{All-append, All-cons, All-nil}
use Rattle.std.proofs.lemmas.Bool.{or_parts}
use Rattle.bridge_face.specs.BridgeState.{BridgeState}
use Rattle.bridge_set.specs.Bridges.{families_of, occur_once}
use Rattle.fresh_bridging.specs.TableLaws.{and_first, and_second, equal_family, family_itself}
use Rattle.item_core.specs.declared.family.Family.{Family}
use Rattle.item_core.specs.Edge.{family_eq}

other_way : (f g : Family) → family_eq f g ≡ false → family_eq g f ≡ false
other_way f g e = by (family_eq g f) refl
  where
    by : (b : Bool) → family_eq g f ≡ b → b ≡ false
    by false h = refl
    by true h =
        absurd (true≢false (sym (family_itself f) ∙ ap (family_eq f) (sym (equal_family g f h))
        ∙ e))

still_none : (g f : Family) (fs : List Family) → list_any (family_eq g) fs ≡ false
    → family_eq g f ≡ false → list_any (family_eq g) (fs ++ f ∷ []) ≡ false
still_none g f [] h e = ap (λ b. b || false) e
still_none g f (x ∷ fs) h e =
    let both = or_parts (family_eq g x) (list_any (family_eq g) fs) h in
    ap₂ ◌||◌ both.0 (still_none g f fs both.1 e)

pub one_more : (fs : List Family) (f : Family) → occur_once fs ≡ true
    → list_any (family_eq f) fs ≡ false → occur_once (fs ++ f ∷ []) ≡ true
one_more [] f h e = refl
one_more (g ∷ fs) f h e =
    let both = or_parts (family_eq f g) (list_any (family_eq f) fs) e in
    let first = and_first (not (list_any (family_eq g) fs)) (occur_once fs) h in
    let rest = and_second (not (list_any (family_eq g) fs)) (occur_once fs) h in
    ap₂ ◌&&◌
    (ap not (still_none g f fs (was_not (list_any (family_eq g) fs) first) (other_way f g both.0)))
    (one_more fs f rest both.1)
  where
    was_not : (b : Bool) → not b ≡ true → b ≡ false
    was_not true k = absurd (true≢false (sym k))
    was_not false k = refl

-- ---- a bridge more

module _ {B : Type 0} (state : B → BridgeState) where
  pub once_more : (old new : List B) (b : B) → new ≡ old ++ b ∷ []
      → occur_once (families_of (map state old)) ≡ true
      → list_any (family_eq (state b).family) (families_of (map state old)) ≡ false
      → occur_once (families_of (map state new)) ≡ true
  once_more old new b is once other =
      ap (λ bs. occur_once (families_of (map state bs))) is
      ∙ ap (λ ss. occur_once (families_of ss)) (map-append state old (b ∷ []))
      ∙ ap occur_once (map-append (λ (s : BridgeState). s.family) (map state old) (state b ∷ []))
      ∙ one_more (families_of (map state old)) (state b).family once other

  pub none_kept_more : (old new : List B) (b : B) → new ≡ old ++ b ∷ []
      → All (λ (s : BridgeState). s.kept ≡ finite.empty) (map state old)
      → (state b).kept ≡ finite.empty
      → All (λ (s : BridgeState). s.kept ≡ finite.empty) (map state new)
  none_kept_more old new b is all here =
      subst (λ bs. All (λ (s : BridgeState). s.kept ≡ finite.empty) (map state bs)) (sym is)
      (subst (All (λ (s : BridgeState). s.kept ≡ finite.empty)) (sym (map-append state old (b ∷ [])))
      (All-append (λ (s : BridgeState). s.kept ≡ finite.empty) (map state old) (state b ∷ []) all
      (All-cons (λ (s : BridgeState). s.kept ≡ finite.empty) (state b) [] here
      (All-nil (λ (s : BridgeState). s.kept ≡ finite.empty)))))
