-- Items that are bridged one after another with the same expressions put in: some of them alone, and
-- several such lists joined. And where every number fits, none is reported to exceed 128 bits.
use Rattle.std.specs.Prelude.{◌≡◌, true, ◌&&◌, List, [], ◌∷◌, ◌++◌, Some, None, if◌then◌else◌, refl}
use Rattle.std.proofs.Common.{ap, ◌∙◌}
use Rattle.std.proofs.lemmas.Bool.{and_from}
use Rattle.fresh_bridging.specs.TableLaws.{and_first, and_second}
use Rattle.expansion.specs.Bridged.{EachBridged, EachBridgedIn, each, each_in, none, none_in}
use Rattle.expansion.specs.Read.{fits, fits_each, fits_in, unfit_each, unfit_in}
use Rattle.expansion.specs.Rules.{Rules}

-- items bridged with these expressions put in, and every number fits
pub record MadeIn {Item Entry : Type 0} (rules : Rules Item Entry) (inner : List Entry)
    (items : List Item) : Type 0 where
  pub trees : EachBridgedIn rules inner items
  pub made : fits_in trees ≡ true

module _ {Item Entry : Type 0} (rules : Rules Item Entry) (inner : List Entry) where
  first_tree : (item : Item) (items : List Item) (trees : EachBridgedIn rules inner (item ∷ items))
      → fits_in trees ≡ true → MadeIn rules inner (item ∷ [])
  unfolding fits_in
  first_tree item items (each_in first rest) fit = record {
    trees = each_in first none_in;
    made = and_from _ _ (and_first (rules.put_in_fits inner item && fits first) (fits_in rest) fit)
        refl;
  }

  other_trees : (item : Item) (items : List Item)
      (trees : EachBridgedIn rules inner (item ∷ items))
      → fits_in trees ≡ true → MadeIn rules inner items
  unfolding fits_in
  other_trees item items (each_in first rest) fit = record {
    trees = rest;
    made = and_second (rules.put_in_fits inner item && fits first) (fits_in rest) fit;
  }

  pub made_first : (item : Item) (items : List Item) → MadeIn rules inner (item ∷ items)
      → MadeIn rules inner (item ∷ [])
  made_first item items m = first_tree item items m.trees m.made

  pub made_others : (item : Item) (items : List Item) → MadeIn rules inner (item ∷ items)
      → MadeIn rules inner items
  made_others item items m = other_trees item items m.trees m.made

  joined : (some others : List Item) (trees : EachBridgedIn rules inner some)
      → fits_in trees ≡ true → MadeIn rules inner others → MadeIn rules inner (some ++ others)
  unfolding fits_in
  joined [] others none_in fit m = m
  joined (item ∷ some) others (each_in first rest) fit m =
      let more = joined some others rest
      (and_second (rules.put_in_fits inner item && fits first) (fits_in rest) fit) m in record {
        trees = each_in first more.trees;
        made = and_from _ _
            (and_first (rules.put_in_fits inner item && fits first) (fits_in rest) fit) more.made;
      }

  pub made_joined : (some others : List Item) → MadeIn rules inner some
      → MadeIn rules inner others → MadeIn rules inner (some ++ others)
  made_joined some others one two = joined some others one.trees one.made two

-- ---- where all fits

module _ {Item Entry : Type 0} {rules : Rules Item Entry} where
  pub none_unfit : {items : List Item} {entries : List Entry}
      (trees : EachBridged rules items entries)
      → fits_each trees ≡ true → unfit_each trees ≡ None
  unfolding fits_each unfit_each
  none_unfit none fit = refl
  none_unfit (each {item} first rest) fit =
      ap (λ b. if b then unfit_each rest else Some item) (and_first (fits first) (fits_each rest) fit)
      ∙ none_unfit rest (and_second (fits first) (fits_each rest) fit)

  pub none_unfit_in : {inner : List Entry} {items : List Item}
      (trees : EachBridgedIn rules inner items)
      → fits_in trees ≡ true → unfit_in trees ≡ None
  unfolding fits_in unfit_in
  none_unfit_in none_in fit = refl
  none_unfit_in (each_in {inner} {item} first rest) fit =
      ap (λ b. if b then unfit_in rest else Some item)
      (and_first (rules.put_in_fits inner item && fits first) (fits_in rest) fit)
      ∙ none_unfit_in rest
      (and_second (rules.put_in_fits inner item && fits first) (fits_in rest) fit)
