-- A list gone through from the first item on, with a count of the items so far.
use Rattle.std.specs.Prelude.{◌≡◌, ℕ, ◌+◌, ◌<◌, ◌≤◌, List, [], ◌∷◌, length}
use Rattle.std.proofs.Common.{◌∙◌, ap, arith, drop, get_or, sym}
use Rattle.std.proofs.lemmas.List.{drop_more, length-drop}

-- what is known of the next item
pub record NextAt {X : Type 0} (all rest : List X) (i : ℕ) (x : X) : Type 0 where
  pub within : i < length all
  pub is : x ≡ get_or all i x
  pub rest_is : rest ≡ drop (i + 1) all

first_or : {X : Type 0} → X → List X → X
first_or d [] = d
first_or d (x ∷ xs) = x

others : {X : Type 0} → List X → List X
others [] = []
others (x ∷ xs) = xs

module _ {X : Type 0} (all left : List X) (i : ℕ) (so_far : left ≡ drop i all) where
  pub counted_next : (rest : List X) (x : X) → left ≡ x ∷ rest → NextAt all rest i x
  unfolding first_or others
  counted_next rest x next =
      let within : i < length all =
      omega (arith, length-drop i all, ap length so_far, ap length next) in
      let split : x ∷ rest ≡ get_or all i x ∷ drop (i + 1) all =
      sym next ∙ (so_far ∙ drop_more all i x within) in
      record {
        within = within;
        is = ap (first_or x) split;
        rest_is = ap others split;
      }

  pub counted_all : left ≡ [] → length all ≤ i
  counted_all end = omega (arith, length-drop i all, ap length so_far, ap length end)
