-- Families among those of bridges.
use Rattle.std.specs.Prelude.{◌≡◌, ℕ, zero, suc, Bool, true, false, ◌||◌, not, cond, List, [], ◌∷◌, Some, All, IsTrue, map, slice_get, slice_set, refl}
use Rattle.std.specs.List.{list_any}
use Rattle.std.proofs.Common.{sym, ap, subst, ◌∙◌, true≢false}
use Rattle.std.proofs.lemmas.Bool.{not-true, or_parts, or_right}
use Rattle.std.proofs.lemmas.List.Elements.{All-head, All-tail}
use Rattle.std.proofs.lemmas.Option.{none-some, same_Some}
use Rattle.item_core.specs.declared.family.Family.{Family}
use Rattle.item_core.specs.Edge.{family_eq}
use Rattle.bridge_face.specs.BridgeState.{BridgeState}
use Rattle.fresh_bridging.specs.TableLaws.{and_first, and_second, equal_family, family_itself}
use Rattle.bridge_set.specs.Bridges.{IsChangedFor, at_family, families_of, occur_once}

-- of whatever has families
pub any_map : {A B : Type 0} (p : B → Bool) (f : A → B) (xs : List A)
    → list_any p (map f xs) ≡ list_any (λ x. p (f x)) xs
any_map p f [] = refl
any_map p f (x ∷ xs) = ap (λ b. p (f x) || b) (any_map p f xs)

pub any_at : (f : Family) (fs : List Family) (n : ℕ) → slice_get fs n ≡ Some f
    → list_any (family_eq f) fs ≡ true
any_at f [] n e = absurd (none-some f e)
any_at f (g ∷ fs) zero e =
    ap (λ b. b || list_any (family_eq f) fs) (ap (family_eq f) (same_Some g f e) ∙ family_itself f)
any_at f (g ∷ fs) (suc n) e =
    or_right (family_eq f g) (list_any (family_eq f) fs) (any_at f fs n e)

-- ---- where no family occurs twice

-- none of the others is of the family
untouched : (f : Family) (change : BridgeState → BridgeState) (ss : List BridgeState)
    → list_any (family_eq f) (families_of ss) ≡ false → map (at_family f change) ss ≡ ss
untouched f change [] e = refl
untouched f change (s ∷ ss) e =
    let others = or_parts (family_eq f s.family) (list_any (family_eq f) (families_of ss)) e in
    let rest = untouched f change ss others.1 in
    ap (λ b. cond b (change s) s ∷ map (at_family f change) ss) others.0 ∙ ap (λ ts. s ∷ ts) rest

-- one that isn't among families is none of them
apart : (t : Family) (fs : List Family) (n : ℕ) (f : Family) → list_any (family_eq t) fs ≡ false
    → slice_get fs n ≡ Some f → family_eq f t ≡ false
apart t fs n f e at = by (family_eq f t) refl
  where
    by : (b : Bool) → family_eq f t ≡ b → b ≡ false
    by false h = refl
    by true h =
        let same = equal_family f t h in
        absurd (true≢false (sym (any_at t fs n (at ∙ ap Some same)) ∙ e))

family_at : (ss : List BridgeState) (n : ℕ) (s : BridgeState) → slice_get ss n ≡ Some s
    → slice_get (families_of ss) n ≡ Some s.family
family_at [] n s e = absurd (none-some s e)
family_at (t ∷ ss) zero s e = ap (λ (x : BridgeState). Some x.family) (same_Some t s e)
family_at (t ∷ ss) (suc n) s e = family_at ss n s e

-- the change at a place is that of the family
pub at_place : (change : BridgeState → BridgeState) (ss : List BridgeState) (n : ℕ) (s : BridgeState)
    → IsTrue (occur_once (families_of ss)) → slice_get ss n ≡ Some s
    → slice_set ss n (change s) ≡ map (at_family s.family change) ss
at_place change [] n s once e = absurd (none-some s e)
at_place change (t ∷ ss) zero s once e =
    let same = same_Some t s e in
    let others = not-true (list_any (family_eq t.family) (families_of ss))
    (and_first (not (list_any (family_eq t.family) (families_of ss)))
    (occur_once (families_of ss)) once) in
    subst (λ (x : BridgeState). change x ∷ ss ≡ map (at_family x.family change) (t ∷ ss)) same
    (sym (ap (λ b. cond b (change t) t ∷ map (at_family t.family change) ss)
    (family_itself t.family)
    ∙ ap (λ ts. change t ∷ ts) (untouched t.family change ss others)))
at_place change (t ∷ ss) (suc n) s once e =
    let others = not-true (list_any (family_eq t.family) (families_of ss))
    (and_first (not (list_any (family_eq t.family) (families_of ss)))
    (occur_once (families_of ss)) once) in
    let other = apart t.family (families_of ss) n s.family others (family_at ss n s e) in
    ap (λ ts. t ∷ ts) (at_place change ss n s
    (and_second (not (list_any (family_eq t.family) (families_of ss)))
    (occur_once (families_of ss)) once) e)
    ∙ sym (ap (λ b. cond b (change t) t ∷ map (at_family s.family change) ss) other)

-- so what was changed for a family was changed at it
pub at_its_family : (change : BridgeState → BridgeState) (old new : List BridgeState) (f : Family)
    → IsTrue (occur_once (families_of old)) → IsChangedFor f change old new
    → new ≡ map (at_family f change) old
at_its_family change old new f once h =
    h.new_is
    ∙ at_place change old h.place h.was once h.at
    ∙ ap (λ g. map (at_family g change) old) h.of_family

-- ---- what all families have

pub among : (P : Family → Type 0) (f : Family) (fs : List Family) → All P fs
    → list_any (family_eq f) fs ≡ true → P f
among P f [] all e = absurd (true≢false (sym e))
among P f (g ∷ fs) all e =
    by (family_eq f g) refl e (among P f fs (All-tail P g fs all))
  where
    by : (b : Bool) → family_eq f g ≡ b → (b || list_any (family_eq f) fs) ≡ true
        → (list_any (family_eq f) fs ≡ true → P f) → P f
    by true same h later = subst P (sym (equal_family f g same)) (All-head P g fs all)
    by false other h later = later h
