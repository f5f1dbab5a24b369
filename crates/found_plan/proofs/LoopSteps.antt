-- Loops over a list: what is made so far and what is left make all.
use Rattle.std.specs.Prelude.{◌≡◌, ℕ, ◌+◌, ◌<◌, ◌≤◌, Bool, true, false, cond, List, [], ◌∷◌, ◌++◌, drop, get_or, length, take, refl}
use Rattle.std.proofs.Common.{ap, append_assoc, sym, ◌∙◌}
use Rattle.std.proofs.lemmas.List.{append-nil, drop_all, take_more}
use Rattle.map_laws.specs.LoopLaws.{next_item}

module _ {X Y : Type 0} (F : List X → List Y) (f : X → List Y)
    (cons : (x : X) (xs : List X) → F (x ∷ xs) ≡ f x ++ F xs) where
  -- one more was made
  pub one_left : (xs : List X) (i : ℕ) (x : X) (now new all : List Y) → x ≡ get_or xs i x
      → i < length xs → new ≡ now ++ f x → now ++ F (drop i xs) ≡ all
      → new ++ F (drop (i + 1) xs) ≡ all
  one_left xs i x now new all is lt made so_far =
      ap (λ l. l ++ F (drop (i + 1) xs)) made
      ∙ append_assoc now (f x) (F (drop (i + 1) xs))
      ∙ ap (λ l. now ++ l) (sym (cons x (drop (i + 1) xs)))
      ∙ ap (λ l. now ++ F l) (sym (next_item xs xs i x (λ j. xs) is lt))
      ∙ so_far

-- all was made
pub none_left : {X Y : Type 0} (F : List X → List Y) (xs : List X) (i : ℕ) (now all : List Y)
    → F [] ≡ [] → length xs ≤ i → now ++ F (drop i xs) ≡ all → now ≡ all
none_left F xs i now all nothing end so_far =
    sym (append-nil now) ∙ ap (λ l. now ++ l) (sym nothing)
    ∙ ap (λ l. now ++ F l) (sym (drop_all i xs end)) ∙ so_far

-- one more was taken
pub take_one : {X : Type 0} (xs : List X) (i : ℕ) (x : X) → x ≡ get_or xs i x → i < length xs
    → take (i + 1) xs ≡ take i xs ++ x ∷ []
take_one xs i x is lt = take_more xs i x lt ∙ ap (λ y. take i xs ++ y ∷ []) (sym is)

-- what a test keeps of one more
pub filter_cons : {X : Type 0} (b : Bool) (x : X) (rest : List X)
    → cond b (x ∷ rest) rest ≡ cond b (x ∷ []) [] ++ rest
filter_cons true x rest = refl
filter_cons false x rest = refl
