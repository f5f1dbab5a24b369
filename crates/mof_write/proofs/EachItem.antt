-- Loops that write a value for each item of a list: what is written grows by what the next item
-- gives, and what is said of each item is said of one more.
use Rattle.std.proofs.Common.{◌≡◌, ◌+◌, ◌<◌, ◌≤◌, ◌∙◌, ℕ, List, [], ◌∷◌, ◌++◌, ap, append_assoc, drop, get_or, length, map, subst, sym, take}
use Rattle.std.specs.Prelude.{All}
use Rattle.std.proofs.lemmas.List.{drop_more, map-append, take_all}
use Rattle.std.proofs.lemmas.List.Elements.{All-cons, All-more, All-nil}
use Rattle.serde_json.specs.Data.{Data}
use Rattle.serde_json.specs.View.{view}
use Rattle.serde_json.specs.declared.value.Value.{Value}

module _ {X : Type 0} (left rest : List X) (x : X) (next : left ≡ x ∷ rest) where
  -- F gives of the items left what G gives once x is written
  pub written_next : (F G : List X → List Data) (part old new all : List Data)
      → F (x ∷ rest) ≡ part ++ G rest → new ≡ old ++ part → old ++ F left ≡ all
      → new ++ G rest ≡ all
  written_next F G part old new all gives grown so_far =
      ap (λ u. u ++ G rest) grown
      ∙ append_assoc old part (G rest)
      ∙ ap (λ u. old ++ u) (sym gives)
      ∙ ap (λ ys. old ++ F ys) (sym next)
      ∙ so_far

  pub pushed_next : (f : X → Data) (old new : List Value) (v : Value) (all : List Data)
      → view v ≡ f x → new ≡ old ++ v ∷ [] → map view old ++ map f left ≡ all
      → map view new ++ map f rest ≡ all
  pushed_next f old new v all written pushed =
      written_next (map f) (map f) (view v ∷ []) (map view old) (map view new) all
      (ap (λ d. d ∷ map f rest) (sym written))
      (ap (map view) pushed ∙ map-append view old (v ∷ []))

  -- each of all is so where each of those left is
  pub fit_next : (P : X → Type 0) (all : List X) → (All P left → All P all) → P x → All P rest
      → All P all
  fit_next P all so_far holds others =
      so_far (subst (All P) (sym next) (All-cons P x rest holds others))

pub all_fit : {X : Type 0} (P : X → Type 0) (all left : List X) → left ≡ []
    → (All P left → All P all) → All P all
all_fit P all left end so_far = so_far (subst (All P) (sym end) (All-nil P))

-- the same by places
module _ {X : Type 0} (xs : List X) (i : ℕ) (x : X) (is : x ≡ get_or xs i x)
    (within : i < length xs) where
  next_at : drop i xs ≡ x ∷ drop (i + 1) xs
  next_at = drop_more xs i x within ∙ ap (λ y. y ∷ drop (i + 1) xs) (sym is)

  pub written_more : (F G : List X → List Data) (part old new all : List Data)
      → F (x ∷ drop (i + 1) xs) ≡ part ++ G (drop (i + 1) xs) → new ≡ old ++ part
      → old ++ F (drop i xs) ≡ all → new ++ G (drop (i + 1) xs) ≡ all
  written_more = written_next (drop i xs) (drop (i + 1) xs) x next_at

  pub pushed_more : (f : X → Data) (old new : List Value) (v : Value) (all : List Data)
      → view v ≡ f x → new ≡ old ++ v ∷ [] → map view old ++ map f (drop i xs) ≡ all
      → map view new ++ map f (drop (i + 1) xs) ≡ all
  pushed_more = pushed_next (drop i xs) (drop (i + 1) xs) x next_at

  pub one_more : (P : X → Type 0) → All P (take i xs) → P x → All P (take (i + 1) xs)
  one_more P so_far holds = All-more P xs i x within so_far (subst P is holds)

pub all_of : {X : Type 0} (P : X → Type 0) (xs : List X) (i : ℕ) → length xs ≤ i
    → All P (take i xs) → All P xs
all_of P xs i past = subst (All P) (take_all i xs past)
