-- One thing after another: what is made so far, and the first that doesn't fit.
use Rattle.std.specs.Prelude.{◌≡◌, ◌+◌, ◌<◌, ◌≤◌, ℕ, List, [], ◌∷◌, ◌++◌, All, Result, Ok, Err, IsErrAnd, length, map, take, refl}
use Rattle.std.proofs.Common.{ap, drop, get_or, inl, inr, subst, sym, ◌∙◌}
use Rattle.std.proofs.Math.ListN.{drop_of_length-le}
use Rattle.std.proofs.lemmas.List.{take_all}
use Rattle.std.proofs.lemmas.List.Elements.{All-cons, All-nil}
use Rattle.map_laws.specs.LoopLaws.{map-take_more}
use Rattle.ratio_core.specs.declared.fault.NumberFault.{NumberFault}
use Rattle.ratio_core.specs.declared.fault.NumberFault.TheVariants as number
use Rattle.ratio_core.specs.Answers.{ExactWhere}
use Rattle.aff_core.specs.Address.{Address}
use Rattle.map_laws.specs.LoopLaws.{next_item}
use Rattle.adjoint_core.specs.Told.{FirstNot, TellsCarried, TellsCarriedAt, told_at}
use Rattle.adjoint_core.specs.declared.fault.BackFault.{BackFault}
use Rattle.adjoint_core.specs.declared.fault.BackFault.TheVariants.{Memory, Overflow}

-- ---- what is left, as all of it

module _ {X : Type 0} (P : X → Type 0) (place : X → Address) where
  pub record InOrder (all left : List X) : Type 0 where
    pub fits : All P left → All P all
    pub unfit : (at : Address) → FirstNot P place left at → FirstNot P place all at

  module _ (all left rest : List X) (x : X) (h : InOrder all left) (next : left ≡ x ∷ rest) where
    pub order_step : P x → InOrder all rest
    unfolding FirstNot
    order_step p = record {
      fits = λ k. h.fits (subst (All P) (sym next) (All-cons P x rest p k));
      unfit = λ at k.
          h.unfit at (subst (λ l. FirstNot P place l at) (sym next) (inr (p, k)));
    }

    pub order_refused : (at : Address) → ¬ (P x) × (place x ≡ at) → FirstNot P place all at
    unfolding FirstNot
    order_refused at n = h.unfit at (subst (λ l. FirstNot P place l at) (sym next) (inl n))

  pub order_end : (all left : List X) → InOrder all left → left ≡ [] → All P all
  order_end all left h none = h.fits (subst (All P) (sym none) (All-nil P))

  -- ---- with what is made of those that were gone through

  module _ {Y : Type 0} (f : X → Y) (all : List X) where
    pub record MadeInOrder (i : ℕ) (made : List Y) : Type 0 where
      pub order : InOrder all (drop i all)
      pub is : made ≡ map f (take i all)

    module _ (i : ℕ) (made : List Y) (h : MadeInOrder i made) (x : X) (here : x ≡ get_or all i x)
        (lt : i < length all) where
      pub made_step : (y : Y) (more : List Y) → P x → y ≡ f x → more ≡ made ++ y ∷ []
          → MadeInOrder (i + 1) more
      made_step y more p is pushed = record {
        order = order_step all (drop i all) (drop (i + 1) all) x h.order
            (next_item all all i x refl here lt) p;
        is =
            pushed
            ∙ ap (λ l. l ++ y ∷ []) h.is
            ∙ ap (λ z. map f (take i all) ++ z ∷ []) is
            ∙ sym (map-take_more f all i x here lt);
      }

      pub made_refused : (at : Address) → ¬ (P x) × (place x ≡ at) → FirstNot P place all at
      made_refused at n =
          order_refused all (drop i all) (drop (i + 1) all) x h.order
          (next_item all all i x refl here lt) at n

    pub made_end : (i : ℕ) (made : List Y) → MadeInOrder i made → length all ≤ i
        → All P all × (made ≡ map f all)
    made_end i made h le = (
      order_end all (drop i all) h.order (drop_of_length-le all le),
      h.is ∙ ap (map f) (take_all i all le),
    )

-- ---- answers handed on

by_fault : {T U : Type 0} (e : BackFault) (P Q : Type 0) (A : T → Type 0) (B : U → Type 0)
    (Told Other : Address → Type 0) → TellsCarried {T = U} (Err e) P B Told
    → ((at : Address) → Told at → Other at) → TellsCarried {T = T} (Err e) Q A Other
by_fault (Overflow at) P Q A B Told Other said leads = leads at said
by_fault Memory P Q A B Told Other said leads = tt

-- the fault of a step is that of the whole
pub told_on : {T U : Type 0} (r : Result T BackFault) (e : BackFault) (P Q : Type 0)
    (A : T → Type 0) (B : U → Type 0) (Told Other : Address → Type 0) → IsErrAnd r (λ x. x ≡ e)
    → TellsCarried {T = U} (Err e) P B Told → ((at : Address) → Told at → Other at) → TellsCarried r Q A Other
told_on (Ok x) e P Q A B Told Other is said leads = absurd is
told_on (Err x) e P Q A B Told Other is said leads =
    subst (λ y. TellsCarried (Err y) Q A Other) (sym is) (by_fault e P Q A B Told Other said leads)

-- the same answer for the same things
pub told_alike : {T : Type 0} (r : Result T BackFault) (P Q : Type 0) (A B : T → Type 0)
    (Told Other : Address → Type 0) → TellsCarried r P A Told → (P → Q) → ((x : T) → A x → B x)
    → ((at : Address) → Told at → Other at) → TellsCarried r Q B Other
told_alike (Ok x) P Q A B Told Other h fits each leads = (fits h.0, each x h.1)
told_alike (Err (Overflow at)) P Q A B Told Other h fits each leads = leads at h
told_alike (Err Memory) P Q A B Told Other h fits each leads = tt

-- ---- a fault of the layers below

pub told_err : {T U : Type 0} (e : NumberFault) (P : Type 0) (A : T → Type 0) (B : U → Type 0)
    (place : Address) (f : BackFault) → ExactWhere {T = U} (Err e) P B → f ≡ told_at place e
    → TellsCarriedAt {T = T} (Err f) P A place
told_err number.Overflow P A B place f h is =
    subst (λ g. TellsCarriedAt (Err g) P A place) (sym is) (h, refl)
told_err number.Memory P A B place f h is = subst (λ g. TellsCarriedAt (Err g) P A place) (sym is) tt
