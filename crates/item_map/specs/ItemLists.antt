-- A map that is kept item by item: the items of each root in the order of their numbers, each with
-- its own entries.
--     own_entries      the entries of the item that an address is at or below
--     map_in           the map of all entries
--     AreRootsInOrder  in each list numbers rise, and each address is of its item
--     IsSetAt          another item stands at a number, or none
--     IsChangedAt      the item of an address has these entries, each other the same as before
--     HaveRoom         some more items fit, of whatever root
use Rattle.std.specs.Prelude.{◌≡◌, ◌≢◌, ℕ, ◌+◌, ◌<◌, ◌≤◌, ◌^◌, List, [], ◌++◌, Option, Some, None, All, IsNone, IsSome, length}
use Rattle.std.specs.FinMap as finite
use Rattle.std.specs.FinMap.{FinMap}
use Rattle.std.specs.List.{flat_map}
use Rattle.aff_core.specs.Address.{Address, address_cmp, root_address}
use Rattle.aff_core.specs.declared.root.Root.{Root}
use Rattle.aff_core.specs.declared.root.Root.TheVariants.{Variable, Group, Row, Objective}
use Rattle.numbered_list.specs.Listed.{Listed}
use Rattle.numbered_list.specs.Numbered.{IsAt, Rise, find, set_at}
use Rattle.item_map.specs.ItemAddresses.{item_of}
use Rattle.item_map.specs.declared.item_entries.ItemEntries.{ItemEntries}
use Rattle.item_map.specs.declared.roots.ByRoot.{ByRoot}

module _ {V : Type 0} where
  abbrev pub item_number : ItemEntries V → ℕ
  item_number item = item.number

  abbrev pub entries_of : ItemEntries V → List (Address × V)
  entries_of item = finite.entries item.entries

  abbrev pub of_items : List (ItemEntries V) → List (Address × V)
  of_items items = flat_map entries_of items

  -- no entries where there is no item
  abbrev pub entries_in : Option (ItemEntries V) → FinMap address_cmp V
  entries_in None = finite.empty
  entries_in (Some item) = item.entries

  abbrev pub list_of : ByRoot V → Root → Listed (ItemEntries V)
  list_of roots Variable = roots.variables.items
  list_of roots Group = roots.groups.items
  list_of roots Row = roots.rows.items
  list_of roots Objective = roots.objectives.items

  abbrev pub items_of : ByRoot V → Root → List (ItemEntries V)
  items_of roots root = (list_of roots root).items

  abbrev pub all_items : ByRoot V → List (ItemEntries V)
  all_items roots =
      items_of roots Variable
      ++ (items_of roots Group ++ (items_of roots Row ++ items_of roots Objective))

  abbrev pub map_in : ByRoot V → FinMap address_cmp V
  map_in roots = finite.from_sorted (of_items (all_items roots))

  abbrev pub own : ByRoot V → Address → Option (ItemEntries V)
  own roots at = find item_number at.number (items_of roots at.root)

  abbrev pub own_entries : ByRoot V → Address → FinMap address_cmp V
  own_entries roots at = entries_in (own roots at)

  -- each address is at or below the item's
  abbrev pub AreOfItem : Address → FinMap address_cmp V → Type 0
  AreOfItem item m = (at : Address) → IsSome (finite.get m at) → item_of at ≡ item

  pub record AreOf (root : Root) (list : Listed (ItemEntries V)) : Type 0 where
    pub rise : Rise item_number list.items
    pub own : All (λ item. AreOfItem (root_address root item.number) item.entries) list.items
    pub fits : length list.items ≤ list.room

  pub record AreRootsInOrder (roots : ByRoot V) : Type 0 where
    pub each : (root : Root) → AreOf root (list_of roots root)

  -- as many more items fit, of whatever root
  abbrev pub HaveRoom : ByRoot V → ℕ → Type 0
  HaveRoom roots more =
      (root : Root) → length (items_of roots root) + more ≤ (list_of roots root).room

  -- as many more fit of one root, and as many of each other
  pub record HaveRoomBeside (roots : ByRoot V) (root : Root) (here_more more : ℕ) : Type 0 where
    pub here : length (items_of roots root) + here_more ≤ (list_of roots root).room
    pub others :
        (r : Root) → r ≢ root → length (items_of roots r) + more ≤ (list_of roots r).room

  -- what is kept beside the items: a map of nothing, the count of all entries, and how many more
  -- entries need no place for an item
  pub record IsKept (roots : ByRoot V) (nothing : FinMap address_cmp V) (len spare : ℕ) : Type 0 where
    pub order : AreRootsInOrder roots
    pub empty : nothing ≡ finite.empty
    pub count : len ≡ finite.len (map_in roots)
    pub room : HaveRoom roots spare
    pub fits : len + spare < 2 ^ 64

  abbrev pub HasNone : ByRoot V → Type 0
  HasNone roots = (root : Root) → items_of roots root ≡ []

  -- all items are gone, and their room stays
  pub record IsEmptied (before after : ByRoot V) : Type 0 where
    pub none : HasNone after
    pub room : (root : Root) → (list_of before root).room ≤ (list_of after root).room

  -- no number is below the first or above the last
  pub record AreBetween (first last : ℕ) (items : List (ItemEntries V)) : Type 0 where
    pub from : All (λ item. first ≤ item.number) items
    pub to : All (λ item. item.number ≤ last) items

  -- an item can be put at the number, if none stands there, without memory
  abbrev pub HasRoomAt : ByRoot V → Root → ℕ → Type 0
  HasRoomAt roots root n =
      IsNone (find item_number n (items_of roots root))
      → length (items_of roots root) < (list_of roots root).room

  -- the same items, and no less room
  pub record IsRoomier (before after : ByRoot V) : Type 0 where
    pub same : (root : Root) → items_of after root ≡ items_of before root
    pub room : (root : Root) → (list_of before root).room ≤ (list_of after root).room

  pub record IsSetAt (root : Root) (n : ℕ) (new : Option (ItemEntries V)) (before after : ByRoot V)
      : Type 0 where
    pub here : items_of after root ≡ set_at item_number n new (items_of before root)
    pub room : (list_of before root).room ≤ (list_of after root).room
    pub others : (r : Root) → r ≢ root → list_of after r ≡ list_of before r

  pub record IsChangedAt (at : Address) (entries : FinMap address_cmp V) (before after : ByRoot V)
      : Type 0 where
    pub here : own_entries after at ≡ entries
    pub elsewhere :
        (v : Address) → item_of v ≢ item_of at → own_entries after v ≡ own_entries before v

  -- an item with these entries, if there are any
  pub record IsItemWith (n : ℕ) (m : FinMap address_cmp V) (item : Option (ItemEntries V))
      : Type 0 where
    pub at : IsAt item_number n item
    pub entries : entries_in item ≡ m
