-- What contracts see of a list of numbered items: the items, and how many there can be without
-- memory.
use Rattle.std.specs.Prelude.{ℕ, Bool, List, is_some, refl}
use Rattle.std.specs.List.{filter_map}
use Rattle.std.specs.Coded.{Coded, code_by, coded×, coded_ℕ, coded_list}
use Rattle.numbered_list.specs.declared.change.Change.{Change}

pub record Listed (X : Type 0) : Type 0 where
  pub items : List X
  pub room : ℕ

abbrev pub listed_code : {X : Type 0} → Coded X → Coded (Listed X)
listed_code {X} code =
    code_by (List X × ℕ) (coded× (coded_list code) coded_ℕ) (λ l. (l.items, l.room))
    (λ p. record { items = p.0; room = p.1 }) (λ _. refl)

-- the items that stand at some places
abbrev pub present : {X : Type 0} → List (Change X) → List X
present places = filter_map (λ place. place.content) places

-- an item stands at the place
abbrev pub has_item : {X : Type 0} → Change X → Bool
has_item place = is_some place.content
