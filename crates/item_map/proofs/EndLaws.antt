-- Items that are taken out one after the other, from the first number to the last.
use Rattle.std.specs.Prelude.{◌≡◌, ◌+◌, ◌<◌, ◌≤◌, ℕ, true, List, [], ◌∷◌, ◌++◌, All, None, nat_lt}
use Rattle.std.proofs.Common.{arith, sym, ap, subst, ◌∙◌}
use Rattle.std.proofs.lemmas.Bool.{ltb-true}
use Rattle.std.proofs.lemmas.List.Elements.{All-append, All-cons, All-nil, All-weaker, filter_passes}
use Rattle.map_laws.specs.PairLaws.{AllPairs-before}
use Rattle.numbered_list.specs.Numbered.{Rise, above, set_at}
use Rattle.numbered_list.specs.Laws.{Rise-head}
use Rattle.numbered_list.specs.SetLaws.{above-none, below-none}
use Rattle.item_map.specs.ItemLists.{AreBetween, item_number}
use Rattle.item_map.specs.declared.item_entries.ItemEntries.{ItemEntries}
use Rattle.item_map.proofs.ChangeLaws.{All-set_at}

module _ {V : Type 0} where
  -- the first of all and the last
  pub between_ends : (first last : ItemEntries V) (rest before items : List (ItemEntries V))
      → Rise item_number items → items ≡ first ∷ rest → items ≡ before ++ last ∷ []
      → AreBetween first.number last.number items
  between_ends first last rest before items rise begins ends = record { from = from; to = to }
    where
      from : All (λ item. first.number ≤ item.number) items
      from =
          subst (All (λ item. first.number ≤ item.number)) (sym begins)
          (All-cons (λ item. first.number ≤ item.number) first rest (omega arith)
          (All-weaker (λ item. first.number < item.number) (λ item. first.number ≤ item.number)
          (λ item lt. omega (arith, lt)) rest
          (Rise-head item_number first rest (subst (Rise item_number) begins rise))))

      to : All (λ item. item.number ≤ last.number) items
      to =
          subst (All (λ item. item.number ≤ last.number)) (sym ends)
          (All-append (λ item. item.number ≤ last.number) before (last ∷ [])
          (All-weaker (λ item. item.number < last.number) (λ item. item.number ≤ last.number)
          (λ item lt. omega (arith, lt)) before
          (AllPairs-before (λ x y. x.number < y.number) before last []
          (subst (Rise item_number) ends rise).rising))
          (All-cons (λ item. item.number ≤ last.number) last [] (omega arith)
          (All-nil (λ item. item.number ≤ last.number))))

  -- one is taken out
  pub one_past : (n last : ℕ) (items : List (ItemEntries V)) → AreBetween n last items
      → AreBetween (n + 1) last (set_at item_number n None items)
  unfolding set_at
  one_past n last items h = record {
    from = past;
    to = All-set_at item_number (λ item. item.number ≤ last) n None items tt h.to;
  }
    where
      past : All (λ item. n + 1 ≤ item.number) (set_at item_number n None items)
      past =
          subst (All (λ item. n + 1 ≤ item.number))
          (sym (ap (λ l. l ++ above item_number n items) (below-none item_number n items h.from)))
          (All-weaker (λ item. nat_lt n item.number ≡ true) (λ item. n + 1 ≤ item.number)
          (λ item e. omega (arith, ltb-true n item.number e)) (above item_number n items)
          (filter_passes (λ item. nat_lt n item.number) items))

  -- and then the last
  pub none_past : (n last : ℕ) (items : List (ItemEntries V)) → last ≤ n
      → AreBetween n last items → set_at item_number last None items ≡ []
  unfolding set_at
  none_past n last items le h =
      ap (λ l. l ++ above item_number last items)
      (below-none item_number last items
      (All-weaker (λ item. n ≤ item.number) (λ item. last ≤ item.number)
      (λ item from. omega (arith, le, from)) items h.from))
      ∙ above-none item_number last items h.to
