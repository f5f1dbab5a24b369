-- Loops by what is left of their items.
use Rattle.std.specs.Prelude.{◌≡◌, ℕ, ◌+◌, ◌<◌, Bool, true, false, ◌&&◌, List, [], ◌∷◌, ◌++◌, length, map}
use Rattle.std.proofs.Common.{ap, sym, ◌∙◌, append_assoc, take, get_or}
use Rattle.std.specs.List.{list_all}
use Rattle.std.proofs.lemmas.List.{append-nil, take_more}
use Rattle.fresh_bridging.specs.TableLaws.{and_first}

-- and is the last of those that were taken
pub taken_item : {X : Type 0} (xs : List X) (i : ℕ) (x : X) → x ≡ get_or xs i x → i < length xs
    → take (i + 1) xs ≡ take i xs ++ x ∷ []
taken_item xs i x is lt =
    take_more xs i x lt ∙ ap (λ y. take i xs ++ y ∷ []) (sym is)

-- ---- a list that is made item by item

pub pushed_next : {X Y : Type 0} (f : X → Y) (before after all : List Y)
    (left rest : List X) (x : X)
    → before ++ map f left ≡ all → left ≡ x ∷ rest → after ≡ before ++ f x ∷ []
    → after ++ map f rest ≡ all
pushed_next f before after all left rest x so_far next is =
    ap (λ l. l ++ map f rest) is ∙ append_assoc before (f x ∷ []) (map f rest)
    ∙ sym (ap (λ l. before ++ map f l) next) ∙ so_far

pub pushed_all : {X Y : Type 0} (f : X → Y) (made all : List Y) (left : List X)
    → made ++ map f left ≡ all → left ≡ [] → made ≡ all
pushed_all f made all left so_far none =
    sym (append-nil made) ∙ sym (ap (λ l. made ++ map f l) none) ∙ so_far

-- ---- a test of each item

module _ {X : Type 0} (p : X → Bool) (all : Bool) (left rest : List X) (x : X)
    (so_far : list_all p left ≡ all) (next : left ≡ x ∷ rest) where
  pub passed_next : p x ≡ true → list_all p rest ≡ all
  passed_next t =
      sym (ap (λ b. b && list_all p rest) t) ∙ sym (ap (list_all p) next) ∙ so_far

  pub failed_next : p x ≡ false → all ≡ false
  failed_next t =
      sym so_far ∙ ap (list_all p) next ∙ ap (λ b. b && list_all p rest) t

  -- all pass only where this one does
  pub needs_next : all ≡ true → p x ≡ true
  needs_next t = and_first (p x) (list_all p rest) (sym (ap (list_all p) next) ∙ so_far ∙ t)

pub passed_all : {X : Type 0} (p : X → Bool) (all : Bool) (left : List X)
    → list_all p left ≡ all → left ≡ [] → all ≡ true
passed_all p all left so_far none = sym so_far ∙ ap (list_all p) none
