-- Items whose regions are apart: no address is in two of them.
use Rattle.std.specs.Prelude.{◌≡◌, ◌+◌, ℕ, List, [], ◌∷◌, ◌++◌, All, length, map}
use Rattle.std.specs.List.{range_with_len}
use Rattle.std.proofs.Common.{arith, ap, ◌∙◌}
use Rattle.std.proofs.lemmas.List.Elements.{All-cons, All-head, All-nil, All-tail, All-weaker}
use Rattle.bridge_face.specs.ComponentLaws.{below_child}
use Rattle.aff_core.specs.Address.{Address, child_of}
use Rattle.item_core.specs.declared.item.Item.{Item}
use Rattle.item_core.specs.Valid.{below}
use Rattle.map_laws.specs.EachLaws.{StandsFrom, all_both, all_first, all_second, cons_head, cons_tail, stand_from}
use Rattle.fresh_bridging.specs.OmitLaws.{IsBelow, IsBelowAt, apart}

abbrev pub AreRegionsApart : (Item → Address → Type 0) → List Item → Type 0
AreRegionsApart Of [] = Unit {0}
AreRegionsApart Of (x ∷ xs) = ((v : Address) → Of x v → All (λ y. ¬ (Of y v)) xs) × AreRegionsApart Of xs

module _ (Of : Item → Address → Type 0) where
  pub apart_first : (xs ys : List Item) → AreRegionsApart Of (xs ++ ys) → AreRegionsApart Of xs
  apart_first [] ys h = tt
  apart_first (x ∷ xs) ys h =
      (λ v o. all_first (λ y. ¬ (Of y v)) xs ys (h.0 v o), apart_first xs ys h.1)

  pub apart_second : (xs ys : List Item) → AreRegionsApart Of (xs ++ ys) → AreRegionsApart Of ys
  apart_second [] ys h = h
  apart_second (x ∷ xs) ys h = apart_second xs ys h.1

  abbrev pub AreRegionsBeside : List Item → List Item → Type 0
  AreRegionsBeside xs ys = All (λ x. (v : Address) → Of x v → All (λ y. ¬ (Of y v)) ys) xs

  pub apart_across : (xs ys : List Item) → AreRegionsApart Of (xs ++ ys) → AreRegionsBeside xs ys
  apart_across [] ys h = All-nil (λ x. (v : Address) → Of x v → All (λ y. ¬ (Of y v)) ys)
  apart_across (x ∷ xs) ys h =
      All-cons (λ x. (v : Address) → Of x v → All (λ y. ¬ (Of y v)) ys) x xs
      (λ v o. all_second (λ y. ¬ (Of y v)) xs ys (h.0 v o)) (apart_across xs ys h.1)

  -- lesser regions
  module _ (Less : Item → Address → Type 0) where
    abbrev pub IsLess : Item → Type 0
    IsLess x = (v : Address) → Less x v → Of x v

    none_less : (v : Address) (xs : List Item) → All IsLess xs → All (λ y. ¬ (Of y v)) xs
        → All (λ y. ¬ (Less y v)) xs
    none_less v xs less h =
        All-weaker (λ y. IsLess y × ¬ (Of y v)) (λ y. ¬ (Less y v)) (λ y k o. k.1 (k.0 v o)) xs
        (all_both IsLess (λ y. ¬ (Of y v)) xs less h)

    pub apart_less : (xs : List Item) → All IsLess xs → AreRegionsApart Of xs
        → AreRegionsApart Less xs
    apart_less [] less h = tt
    apart_less (x ∷ xs) less h = (
      λ v o. none_less v xs (All-tail IsLess x xs less) (h.0 v (All-head IsLess x xs less v o)),
      apart_less xs (All-tail IsLess x xs less) h.1,
    )

-- ---- at and below the children of an address

pub at_child : (at : Address) (j : ℕ) (child : Address) → child ≡ child_of at j → (v : Address)
    → IsBelow child v → IsBelowAt at j v
at_child at j child e v b = record {
  rest = b.rest;
  is = b.is ∙ ap (λ a. below a b.rest) e ∙ below_child at j b.rest;
}

abbrev pub AtOrBelow : Item → Address → Type 0
AtOrBelow c v = IsBelow c.at v

-- children at positions one after another are apart
pub apart_children : (at : Address) (xs : List Item) (low : ℕ)
    → map (λ c. c.at) xs ≡ map (child_of at) (range_with_len low (length xs))
    → AreRegionsApart AtOrBelow xs
apart_children at [] low e = tt
apart_children at (x ∷ xs) low e = (first, apart_children at xs (low + 1) rest)
  where
    rest : map (λ c. c.at) xs ≡ map (child_of at) (range_with_len (low + 1) (length xs))
    rest = cons_tail x.at (child_of at low) (map (λ c. c.at) xs)
        (map (child_of at) (range_with_len (low + 1) (length xs))) e

    here : x.at ≡ child_of at low
    here = cons_head x.at (child_of at low) (map (λ c. c.at) xs)
        (map (child_of at) (range_with_len (low + 1) (length xs))) e

    first : (v : Address) → AtOrBelow x v → All (λ y. ¬ (AtOrBelow y v)) xs
    first v b =
        All-weaker
        (StandsFrom (λ c. c.at) (child_of at) (low + 1) ((low + 1) + length xs))
        (λ y. ¬ (AtOrBelow y v))
        (λ y s k.
        let same : low ≡ s.place = apart at low s.place v (at_child at low x.at here v b)
        (at_child at s.place y.at s.is v k)
        in
        omega (arith, same, s.from))
        xs (stand_from (λ c. c.at) (child_of at) xs (low + 1) ((low + 1) + length xs) (omega arith)
        rest)
