-- Numbers made one after the other, each where what it takes fits.
use Rattle.std.specs.Prelude.{◌≡◌, ℕ, ◌<◌, ◌≤◌, List, All, map, take, length}
use Rattle.std.proofs.Common.{sym, ◌∙◌, ap, subst, get_or}
use Rattle.std.proofs.lemmas.List.{take_all}
use Rattle.std.proofs.lemmas.List.Elements.{All-get_or}
use Rattle.ratio_core.specs.Rational.{Rational}

module _ {X : Type 0} (F : X → Type 0) (f : X → Rational) (xs : List X) where
  -- those before a place fit, and their numbers are made
  pub record MadeSoFar (i : ℕ) (made : List Rational) : Type 0 where
    pub fits : All F (take i xs)
    pub is : made ≡ map f (take i xs)

  pub made_refused : (i : ℕ) (x : X) → x ≡ get_or xs i x → i < length xs → All F xs → F x
  made_refused i x at lt all = subst F (sym at) (All-get_or F xs i x lt all)

  pub made_all : (i : ℕ) (made : List Rational) → MadeSoFar i made → length xs ≤ i
      → All F xs × (made ≡ map f xs)
  made_all i made h le = (
    subst (All F) (take_all i xs le) h.fits,
    h.is ∙ ap (map f) (take_all i xs le),
  )
