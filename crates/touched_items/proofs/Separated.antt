-- One more listed item, as it was and as it is read.
use Rattle.std.specs.Prelude.{◌≡◌, ◌≢◌, ◌<◌, ◌+◌, ◌++◌, ℕ, Bool, List, MatchBool, Option, get_or, length, map, take}
use Rattle.std.specs.Option.{option_map, option_to_list}
use Rattle.std.proofs.Common.{subst}
use Rattle.numbered_list.specs.Changes.{AreChanges}
use Rattle.numbered_list.specs.Numbered.{IsAt}
use Rattle.numbered_list.specs.declared.change.Change.{Change}
use Rattle.touched_items.specs.SideLaws.{AreSidesOf, next_separated}

module _ {X Item : Type 0} (number_of : X → ℕ) (item_of : X → Item) (now : ℕ → Option X)
    {B : Type 0} (read : B → Change X) (all : List B)
    (changes : AreChanges number_of (map read all)) (i : ℕ) (x : B) (is : x ≡ get_or all i x)
    (lt : i < length all) (before after before' after' : List X) (b : Bool)
    (own_now : IsAt number_of (read x).number (now (read x).number))
    (so_far : AreSidesOf number_of item_of now (map read (take i all)) before after) where
  pub one_separated : (was stands : Option X) → was ≡ (read x).content
      → stands ≡ now (read x).number
      → MatchBool b (option_map item_of was ≡ option_map item_of stands)
      (option_map item_of was ≢ option_map item_of stands)
      → MatchBool b (before' ≡ before) (before' ≡ before ++ option_to_list was)
      → MatchBool b (after' ≡ after) (after' ≡ after ++ option_to_list stands)
      → AreSidesOf number_of item_of now (map read (take (i + 1) all)) before' after'
  one_separated was stands e f test one other =
      next_separated number_of item_of now read all changes i x is lt before after before' after' b
      own_now so_far
      (subst (λ o. MatchBool b (option_map item_of (read x).content ≡ option_map item_of o)
      (option_map item_of (read x).content ≢ option_map item_of o)) f
      (subst (λ o. MatchBool b (option_map item_of o ≡ option_map item_of stands)
      (option_map item_of o ≢ option_map item_of stands)) e test))
      (subst (λ o. MatchBool b (before' ≡ before) (before' ≡ before ++ option_to_list o)) e one)
      (subst (λ o. MatchBool b (after' ≡ after) (after' ≡ after ++ option_to_list o)) f other)
