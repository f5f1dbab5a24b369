-- Values made one after the other, each where what it takes fits.
use Rattle.std.specs.Prelude.{◌≡◌, ℕ, ◌+◌, ◌<◌, ◌≤◌, List, [], ◌∷◌, ◌++◌, All, map, take, length}
use Rattle.std.proofs.Common.{sym, ◌∙◌, ap, ap₂, subst, get_or}
use Rattle.std.proofs.lemmas.List.{take_all, take_more}
use Rattle.std.proofs.lemmas.List.Elements.{All-get_or, All-push}
use Rattle.map_laws.specs.LoopLaws.{map-take_more}

module _ {X Y : Type 0} (F : X → Type 0) (f : X → Y) (xs : List X) where
  -- those before a place fit, and their values are made
  pub record MadeSoFar (i : ℕ) (made : List Y) : Type 0 where
    pub fits : All F (take i xs)
    pub is : made ≡ map f (take i xs)

  -- one more is made
  pub made_more : (i : ℕ) (made next : List Y) (x : X) (y : Y) → MadeSoFar i made
      → x ≡ get_or xs i x → i < length xs → F x → y ≡ f x → next ≡ made ++ y ∷ []
      → MadeSoFar (i + 1) next
  made_more i made next x y h at lt fit is e = record {
    fits = subst (All F) (sym (take_more xs i x lt))
        (All-push F (take i xs) (get_or xs i x) h.fits (subst F at fit));
    is = e ∙ ap₂ (λ ys z. ys ++ z ∷ []) h.is is ∙ sym (map-take_more f xs i x at lt);
  }

  pub made_refused : (i : ℕ) (x : X) → x ≡ get_or xs i x → i < length xs → All F xs → F x
  made_refused i x at lt all = subst F (sym at) (All-get_or F xs i x lt all)

  pub made_all : (i : ℕ) (made : List Y) → MadeSoFar i made → length xs ≤ i
      → All F xs × (made ≡ map f xs)
  made_all i made h le = (
    subst (All F) (take_all i xs le) h.fits,
    h.is ∙ ap (map f) (take_all i xs le),
  )
