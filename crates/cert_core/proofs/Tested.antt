-- Things tested one after the other, each where what it takes fits.
use Rattle.std.specs.Prelude.{◌≡◌, ◌↔◌, ◌&&◌, Bool, IsTrue, List, [], ◌∷◌, ◌++◌, All}
use Rattle.std.proofs.Common.{sym, subst}
use Rattle.std.proofs.lemmas.Bool.{and_from, and_parts}
use Rattle.map_laws.specs.EachLaws.{all_first, all_second}
use Rattle.std.proofs.lemmas.List.Elements.{All-append, All-cons, All-head, All-nil, All-tail}

pub iff_trans : (A B C : Type 0) → (A ↔ B) → (B ↔ C) → A ↔ C
iff_trans A B C f g = (λ a. g.0 (f.0 a), λ c. f.1 (g.1 c))

pub appended_tell : {X : Type 0} (F P : X → Type 0) (xs ys : List X) (a b now : Bool)
    → All F xs × (IsTrue a ↔ All P xs) → All F ys × (IsTrue b ↔ All P ys)
    → (IsTrue now ↔ (IsTrue a × IsTrue b)) → All F (xs ++ ys) × (IsTrue now ↔ All P (xs ++ ys))
appended_tell F P xs ys a b now front back both = (
  All-append F xs ys front.0 back.0,
  (
    λ t. let k = both.0 t in All-append P xs ys (front.1.0 k.0) (back.1.0 k.1),
    λ h. both.1 (front.1.1 (all_first P xs ys h), back.1.1 (all_second P xs ys h)),
  ),
)

module _ {X : Type 0} (F P : X → Type 0) where
  -- with what is left it is as with all: what is to fit, and what is to hold
  pub record TestedAsAll (so_far : Bool) (xs left : List X) : Type 0 where
    pub fits : All F left → All F xs
    pub only : All F xs → All F left
    pub holds : IsTrue so_far → All P left → All P xs
    pub each : All P xs → IsTrue so_far × All P left

  pub tested_step : (so_far b : Bool) (xs left rest : List X) (x : X)
      → TestedAsAll so_far xs left → left ≡ x ∷ rest → F x → (IsTrue b ↔ P x)
      → TestedAsAll (so_far && b) xs rest
  tested_step so_far b xs left rest x h next fits tells = record {
    fits = λ k. h.fits (subst (All F) (sym next) (All-cons F x rest fits k));
    only = λ k. All-tail F x rest (subst (All F) next (h.only k));
    holds = λ t k. let t = and_parts so_far b t in
        h.holds t.0 (subst (All P) (sym next) (All-cons P x rest (tells.0 t.1) k));
    each = λ k. let all = h.each k in
        let here : All P (x ∷ rest) = subst (All P) next all.1 in
        (and_from so_far b all.0 (tells.1 (All-head P x rest here)), All-tail P x rest here);
  }

  pub tested_refused : (so_far : Bool) (xs left rest : List X) (x : X) → TestedAsAll so_far xs left
      → left ≡ x ∷ rest → All F xs → F x
  tested_refused so_far xs left rest x h next k =
      All-head F x rest (subst (All F) next (h.only k))

  pub tested_end : (so_far : Bool) (xs left : List X) → TestedAsAll so_far xs left → left ≡ []
      → All F xs × (IsTrue so_far ↔ All P xs)
  tested_end so_far xs left h end = (
    h.fits (subst (All F) (sym end) (All-nil F)),
    (λ t. h.holds t (subst (All P) (sym end) (All-nil P)), λ k. (h.each k).0),
  )

-- ---- tests in a list

pub all_two : (a b : Bool) → All IsTrue (a ∷ b ∷ []) ↔ (IsTrue a × IsTrue b)
all_two a b = (
  λ h. let k = All-tail IsTrue a (b ∷ []) h in
      (All-head IsTrue a (b ∷ []) h, All-head IsTrue b [] k),
  λ p. All-cons IsTrue a (b ∷ []) p.0 (All-cons IsTrue b [] p.1 (All-nil IsTrue)),
)

pub all_three : (a b c : Bool) → All IsTrue (a ∷ b ∷ c ∷ []) ↔ (IsTrue a × IsTrue b × IsTrue c)
all_three a b c = (
  λ h. let k = (all_two b c).0 (All-tail IsTrue a (b ∷ c ∷ []) h) in
      (All-head IsTrue a (b ∷ c ∷ []) h, k.0, k.1),
  λ p. All-cons IsTrue a (b ∷ c ∷ []) p.0 ((all_two b c).1 (p.1, p.2)),
)

pub all_four : (a b c d : Bool)
    → All IsTrue (a ∷ b ∷ c ∷ d ∷ []) ↔ (IsTrue a × IsTrue b × IsTrue c × IsTrue d)
all_four a b c d = (
  λ h. let k = (all_three b c d).0 (All-tail IsTrue a (b ∷ c ∷ d ∷ []) h) in
      (All-head IsTrue a (b ∷ c ∷ d ∷ []) h, k.0, k.1, k.2),
  λ p. All-cons IsTrue a (b ∷ c ∷ d ∷ []) p.0 ((all_three b c d).1 (p.1, p.2, p.3)),
)

pub all_five : (a b c d e : Bool) → All IsTrue (a ∷ b ∷ c ∷ d ∷ e ∷ [])
    ↔ (IsTrue a × IsTrue b × IsTrue c × IsTrue d × IsTrue e)
all_five a b c d e = (
  λ h. let k = (all_four b c d e).0 (All-tail IsTrue a (b ∷ c ∷ d ∷ e ∷ []) h) in
      (All-head IsTrue a (b ∷ c ∷ d ∷ e ∷ []) h, k.0, k.1, k.2, k.3),
  λ p. All-cons IsTrue a (b ∷ c ∷ d ∷ e ∷ []) p.0 ((all_four b c d e).1 (p.1, p.2, p.3, p.4)),
)
