-- The room for the undos that are parked, as room is taken, the model changes and changes back.
use Rattle.std.proofs.Common.{◌≡◌, ℕ, ◌+◌, ◌≤◌, List, [], ◌∷◌, ◌++◌, length, sym, ap, ap₂, subst, ◌∙◌, arith}
use Rattle.std.specs.Prelude.{All, is_some}
use Rattle.std.proofs.lemmas.List.{length-map, same_from_push}
use Rattle.std.proofs.lemmas.List.Elements.{All-head, All-push, All-weaker}
use Rattle.std.proofs.lemmas.List.Sums.{count_by-le-length, sum_by_push}
use Rattle.map_laws.specs.EachLaws.{all_first, all_second}
use Rattle.numbered_list.specs.declared.change.Change.{Change}
use Rattle.numbered_list.specs.Numbered.{Rise}
use Rattle.numbered_list.specs.Changes.{AreChanges, added, olds, set_all}
use Rattle.numbered_list.specs.ChangeLaws.{AreChanges-olds, added-le, room_back}
use Rattle.user_model.specs.declared.undo.Undo.{Undo}
use Rattle.user_model.specs.Model.{ModelValue, variables}
use Rattle.user_model.specs.Edited.{group_number, row_number}
use Rattle.user_model.specs.Consistent.{IsConsistent}
use Rattle.user_model.specs.Undone.{before}
use Rattle.model_catalog.specs.declared.exchange.Exchange.{Exchange}
use Rattle.model_catalog.specs.declared.names.NameChange.{NameChange}
use Rattle.model_store.specs.declared.parked.Parked.{Parked}
use Rattle.model_store.specs.declared.parking.NameCounts.{NameCounts}
use Rattle.model_store.specs.declared.parking.Reserved.{Reserved}
use Rattle.model_plans.specs.declared.plan.EditPlan.{EditPlan}
use Rattle.model_catalog.specs.Catalog.{Catalog, CatalogRoom}
use Rattle.model_catalog.specs.Exchange.{HasRoomFor, IsExchange, KeepsRoom, contents, exchanged, standing}
use Rattle.model_catalog.specs.Names.{put_count}
use Rattle.model_catalog.specs.Named.{AreNameChanges, HasStandingNames}
use Rattle.model_store.specs.Rooms.{AreNamesCounted, HasLengths, IsParked, IsReserved, row_count, variable_count}
use Rattle.model_store.specs.declared.store.UserModel.TheInside.{Inside}
use Rattle.model_store.specs.Store.{HasParked, IsUndoEntry, StoredModel}
use Rattle.model_store.specs.Parking.{IsStoreSound, stored_of}

put-le : (listed : List NameChange) → put_count listed ≤ length listed
put-le listed = count_by-le-length (λ l. is_some l.name) listed

more_lengths : (parked : List Parked) (old new : CatalogRoom) → old.groups ≤ new.groups
    → old.rows ≤ new.rows → old.variables ≤ new.variables → All (HasLengths old) parked
    → All (HasLengths new) parked
more_lengths parked old new groups rows vars h =
    All-weaker (HasLengths old) (HasLengths new) (λ p l. record {
      groups = omega arith;
      rows = omega arith;
      variables = omega arith;
    }) parked h

-- ---- one entry more

module _ (plan : EditPlan) (names : NameCounts) (reserved : Reserved) (old new : Catalog)
    (with : Exchange) (parked : List Parked) (entry : Parked)
    (h : IsReserved plan names reserved old) where
  pub parked_more : IsParked parked names old.room → KeepsRoom plan.names old.room new.room
      → HasRoomFor with entry.names new → HasStandingNames old.model plan.names entry.names
      → entry.groups ≡ reserved.groups → entry.rows ≡ reserved.rows
      → entry.variables ≡ length (variables new.model) + put_count entry.names.variables.items
      → IsParked (parked ++ entry ∷ []) reserved.names new.room
  parked_more was keeps room lists groups rows vars =
      let vs : length entry.names.variables.items ≡ length plan.names.variables.items =
      ap length lists.variables ∙ length-map plan.names.variables.items _ in
      let rs : length entry.names.rows.items ≡ length plan.names.rows.items =
      ap length lists.rows ∙ length-map plan.names.rows.items _ in
      let all_vs = sum_by_push variable_count parked entry in
      let all_rs = sum_by_push row_count parked entry in
      let put_vs = put-le plan.names.variables.items in
      let put_rs = put-le plan.names.rows.items in
      record {
        lengths = All-push (HasLengths new.room) parked entry
            (more_lengths parked old.room new.room keeps.groups keeps.rows keeps.variables
            was.lengths) (record {
              groups = omega arith;
              rows = omega arith;
              variables = omega arith;
            });
        counted = record { variables = omega arith; rows = omega arith };
        variables = omega arith;
        rows = omega arith;
      }

-- the changes that take others back, and the room for them
module _ {X : Type 0} (number_of : X → ℕ) (cs us : List (Change X)) (xs : List X)
    (are : AreChanges number_of cs) (is : us ≡ olds number_of cs xs) where
  back_changes : AreChanges number_of us
  back_changes = subst (AreChanges number_of) (sym is) (AreChanges-olds number_of cs xs are)

  back_room : (ys : List X) (room : ℕ) → Rise number_of xs → ys ≡ set_all number_of cs xs
      → room ≡ length xs + length cs → length ys + added number_of us ys ≤ room
  back_room ys room rise after long =
      let back : length ys + added number_of us ys ≡ length xs + added number_of cs xs =
      ap₂ (λ u v. length v + added number_of u v) is after ∙ room_back number_of cs xs are rise in
      let more = added-le number_of cs xs in omega arith

-- the entry is that of the undo
pub entry_of : (plan : EditPlan) (names : NameCounts) (reserved : Reserved) (old new : Catalog)
    (entry : Parked) (undo : Undo) → IsReserved plan names reserved old → IsConsistent old.model
    → IsExchange plan.exchange → new.model ≡ exchanged plan.exchange old.model
    → undo ≡ standing old.model (contents plan.exchange) → before new.model undo ≡ old.model
    → AreNameChanges entry.names new.model old.model → entry.groups ≡ reserved.groups
    → entry.rows ≡ reserved.rows → entry.variables
    ≡ length (variables new.model) + put_count entry.names.variables.items
    → IsUndoEntry entry new.model undo
entry_of plan names reserved old new entry undo h c are after is back lists groups rows vars =
    let gs = plan.exchange.groups.items in
    let rs = plan.exchange.rows.items in
    let g = ap (λ (u : Undo). u.groups) is in
    let r = ap (λ (u : Undo). u.rows) is in
    record {
      group_changes = back_changes group_number gs undo.groups old.model.groups are.groups g;
      row_changes = back_changes row_number rs undo.rows old.model.rows are.rows r;
      names = subst (AreNameChanges entry.names new.model) (sym back) lists;
      groups = back_room group_number gs undo.groups old.model.groups are.groups g
          new.model.groups entry.groups c.groups_rise (ap (λ m. m.groups) after)
          (groups ∙ h.groups);
      rows = back_room row_number rs undo.rows old.model.rows are.rows r new.model.rows
          entry.rows c.rows_rise (ap (λ m. m.rows) after) (rows ∙ h.rows);
      variables = omega arith;
    }

-- ---- one entry less

-- the entry that is taken out is that of the undo
pub entry_taken : (a : Inside) (stored : StoredModel) (others left : List Parked) (entry : Parked)
    (undo : Undo) → stored_of a ≡ stored → HasParked others stored.parked stored.model undo
    → a.parked.items ≡ left ++ entry ∷ [] → IsUndoEntry entry a.catalog.model undo
entry_taken a stored others left entry undo view parked is =
    let h = subst (λ (s : StoredModel). HasParked others s.parked s.model undo) (sym view) parked in
    subst (λ p. IsUndoEntry p a.catalog.model undo)
    (same_from_push others left h.entry entry (sym h.last ∙ is)).1 h.is

module _ (a : Inside) (sound : IsStoreSound a) (others : List Parked) (entry : Parked)
    (last : a.parked.items ≡ others ++ entry ∷ []) where
  were_parked : IsParked (others ++ entry ∷ []) a.names a.catalog.room
  were_parked = subst (λ ps. IsParked ps a.names a.catalog.room) last sound.room

  pub entry_room : (with : Exchange) (undo : Undo) → contents with ≡ undo
      → IsUndoEntry entry a.catalog.model undo → HasRoomFor with entry.names a.catalog
  entry_room with undo is e =
      let l = All-head (HasLengths a.catalog.room) entry [] (all_second (HasLengths a.catalog.room)
      others (entry ∷ []) were_parked.lengths) in
      let f = subst (IsUndoEntry entry a.catalog.model) (sym is) e in
      record { groups = omega arith; rows = omega arith; variables = omega arith }

  pub parked_less : (left : NameCounts) (new : CatalogRoom) → AreNamesCounted others left
      → KeepsRoom entry.names a.catalog.room new → IsParked others left new
  parked_less left new c keeps =
      let h = were_parked in
      let all_vs = sum_by_push variable_count others entry in
      let all_rs = sum_by_push row_count others entry in
      let put_vs = put-le entry.names.variables.items in
      let put_rs = put-le entry.names.rows.items in
      record {
        lengths = more_lengths others a.catalog.room new keeps.groups keeps.rows keeps.variables
            (all_first (HasLengths a.catalog.room) others (entry ∷ []) h.lengths);
        counted = c;
        variables = omega arith;
        rows = omega arith;
      }

  -- nothing is put back
  pub parked_settled : (left : NameCounts) → AreNamesCounted others left
      → IsParked others left a.catalog.room
  parked_settled left c =
      parked_less left a.catalog.room c (record {
        groups = omega arith;
        rows = omega arith;
        variables = omega arith;
        variable_names = omega arith;
        row_names = omega arith;
      })

pub exchange_of : (with : Exchange) (undo : Undo) (entry : Parked) (model : ModelValue)
    → contents with ≡ undo → IsUndoEntry entry model undo → IsExchange with
exchange_of with undo entry model is e =
    let f = subst (IsUndoEntry entry model) (sym is) e in
    record { groups = f.group_changes; rows = f.row_changes }
