-- One of the four lists changes: what that makes of all four.
use Rattle.std.specs.Prelude.{◌≡◌, ◌≢◌, ◌≤◌, ℕ, [], Option, refl}
use Rattle.aff_core.specs.declared.root.Root.{Root}
use Rattle.aff_core.specs.declared.root.Root.TheVariants.{Variable, Group, Row, Objective}
use Rattle.numbered_list.specs.Numbered.{set_at}
use Rattle.item_map.specs.ItemLists.{HasNone, IsSetAt, item_number, list_of}
use Rattle.item_map.specs.declared.item_entries.ItemEntries.{ItemEntries}
use Rattle.item_map.specs.declared.one_root.OneRoot.{OneRoot}
use Rattle.item_map.specs.declared.roots.ByRoot.{ByRoot}

module _ {V : Type 0} where
  pub none_each : (roots : ByRoot V) → roots.variables.items.items ≡ []
      → roots.groups.items.items ≡ [] → roots.rows.items.items ≡ []
      → roots.objectives.items.items ≡ [] → HasNone roots
  none_each roots v g r o Variable = v
  none_each roots v g r o Group = g
  none_each roots v g r o Row = r
  none_each roots v g r o Objective = o

  pub set_variables : (before : ByRoot V) (n : ℕ) (new : Option (ItemEntries V)) (one : OneRoot V)
      → one.items.items ≡ set_at item_number n new before.variables.items.items
      → before.variables.items.room ≤ one.items.room
      → IsSetAt Variable n new before (record before { variables = one })
  set_variables before n new one here room = record { here = here; room = room; others = others }
    where
      others : (r : Root) → r ≢ Variable
          → list_of (record before { variables = one }) r
          ≡ list_of before r
      others Variable ne = absurd (ne refl)
      others Group ne = refl
      others Row ne = refl
      others Objective ne = refl

  pub set_groups : (before : ByRoot V) (n : ℕ) (new : Option (ItemEntries V)) (one : OneRoot V)
      → one.items.items ≡ set_at item_number n new before.groups.items.items
      → before.groups.items.room ≤ one.items.room
      → IsSetAt Group n new before (record before { groups = one })
  set_groups before n new one here room = record { here = here; room = room; others = others }
    where
      others : (r : Root) → r ≢ Group
          → list_of (record before { groups = one }) r
          ≡ list_of before r
      others Variable ne = refl
      others Group ne = absurd (ne refl)
      others Row ne = refl
      others Objective ne = refl

  pub set_rows : (before : ByRoot V) (n : ℕ) (new : Option (ItemEntries V)) (one : OneRoot V)
      → one.items.items ≡ set_at item_number n new before.rows.items.items
      → before.rows.items.room ≤ one.items.room
      → IsSetAt Row n new before (record before { rows = one })
  set_rows before n new one here room = record { here = here; room = room; others = others }
    where
      others : (r : Root) → r ≢ Row
          → list_of (record before { rows = one }) r
          ≡ list_of before r
      others Variable ne = refl
      others Group ne = refl
      others Row ne = absurd (ne refl)
      others Objective ne = refl

  pub set_objectives : (before : ByRoot V) (n : ℕ) (new : Option (ItemEntries V)) (one : OneRoot V)
      → one.items.items ≡ set_at item_number n new before.objectives.items.items
      → before.objectives.items.room ≤ one.items.room
      → IsSetAt Objective n new before (record before { objectives = one })
  set_objectives before n new one here room = record { here = here; room = room; others = others }
    where
      others : (r : Root) → r ≢ Objective
          → list_of (record before { objectives = one }) r
          ≡ list_of before r
      others Variable ne = refl
      others Group ne = refl
      others Row ne = refl
      others Objective ne = absurd (ne refl)
