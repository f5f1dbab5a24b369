-- The first item that is left, and its entries.
use Rattle.std.specs.Prelude.{◌≡◌, List, [], ◌∷◌, ◌++◌}
use Rattle.std.proofs.Common.{sym, ap, ◌∙◌}
use Rattle.aff_core.specs.Address.{Address}
use Rattle.item_map.specs.ItemLists.{entries_of, of_items}
use Rattle.item_map.specs.declared.item_entries.ItemEntries.{ItemEntries}

module _ {X : Type 0} where
  -- none is left of the lists before
  pub past_one : (a rest : List X) → a ≡ [] → a ++ rest ≡ rest
  past_one a rest e = ap (λ l. l ++ rest) e

  pub first_of_one : (x : X) (a b rest : List X) → a ≡ x ∷ b → a ++ rest ≡ x ∷ (b ++ rest)
  first_of_one x a b rest e = ap (λ l. l ++ rest) e

module _ {V : Type 0} where
  -- the entries of the next item are taken up
  pub next_entries : (own : List (Address × V)) (left rest : List (ItemEntries V))
      (item : ItemEntries V) (all : List (Address × V)) → own ≡ [] → left ≡ item ∷ rest
      → own ++ of_items left ≡ all → entries_of item ++ of_items rest ≡ all
  next_entries own left rest item all none next so_far =
      sym (ap (λ l. l ++ of_items left) none ∙ ap of_items next) ∙ so_far

  pub first_entry : (own now : List (Address × V)) (e : Address × V)
      (left : List (ItemEntries V)) (all : List (Address × V)) → own ≡ e ∷ now
      → own ++ of_items left ≡ all → all ≡ e ∷ (now ++ of_items left)
  first_entry own now e left all first so_far =
      sym so_far ∙ ap (λ l. l ++ of_items left) first

  pub none_left : (own : List (Address × V)) (left : List (ItemEntries V))
      (all : List (Address × V)) → own ≡ [] → left ≡ [] → own ++ of_items left ≡ all → all ≡ []
  none_left own left all none empty so_far =
      sym so_far ∙ ap (λ l. l ++ of_items left) none ∙ ap of_items empty
