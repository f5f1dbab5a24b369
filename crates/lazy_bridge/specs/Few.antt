-- How little an accepted call does to what is held.
--     ChangesFew      calls of the solver's model, by the number that is answered, and indices
--     CanPush         what an edit is made on
--     IsPushedByFew   turns of the bridges and reads of the user's model, by what the edit touches
--     IsRetabledByFew     turns of the bridges, by what another table touches
use Rattle.std.specs.Prelude.{◌≤◌, ◌+◌, ◌*◌, ℕ, List}
use Rattle.bridge_set.specs.Turns.{turns_of}
use Rattle.fresh_bridging.specs.Touched.{IsInner, IsTouched}
use Rattle.lazy_bridge.specs.Owned.{IsBridgingOf, Owned}
use Rattle.leaf_update.specs.Splice.{KeepsIndices}
use Rattle.leaf_model.specs.LeafModel.{IsCountOf}
use Rattle.local_laws.specs.Unlisted.{LeadBackTo, entries_of}
use Rattle.user_model.specs.Model.{ModelValue}
use Rattle.user_model.specs.Valid.{IsValid}
use Rattle.user_model.specs.declared.undo.Undo.{Undo}

-- the count of calls of the solver's model doesn't fall, and rises by the answer at most; and a leaf
-- whose address is in its map before and after keeps its solver index
pub record ChangesFew (old : Owned) (changed : ℕ) (new : Owned) : Type 0 where
  pub rises : old.solver.leaves.calls ≤ new.solver.leaves.calls
  pub calls : new.solver.leaves.calls ≤ old.solver.leaves.calls + changed
  pub variables : KeepsIndices old.map.vars.indices new.map.vars.indices
  pub rows : KeepsIndices old.map.rows.indices new.map.rows.indices

-- the undos, the last first, lead back from a valid model to the one whose fresh bridging is held
pub record CanPush (old : Owned) (undos : List Undo) (after : ModelValue) : Type 0 where
  pub model : ModelValue
  pub stands : IsBridgingOf old model
  pub back : LeadBackTo model undos after
  pub valid : IsValid after

-- the bridges took two turns at most for each node below the user's items that the edit touches,
-- before and after; and the user's model was read twice at most for each entry of the undos and for
-- each of these items
pub record IsPushedByFew (old : Owned) (undos : List Undo) (after : ModelValue) (reads : ℕ)
    (new : Owned) (reads_after : ℕ) : Type 0 where
  pub model : ModelValue
  pub stood : IsBridgingOf old model
  pub back : LeadBackTo model undos after
  pub stands : IsBridgingOf new after
  pub inner : ℕ
  pub inner_is : IsInner stood.bridging stands.bridging inner
  pub turns : turns_of new.bridges.states ≤ turns_of old.bridges.states + 2 * inner
  pub touched : ℕ
  pub touched_is : IsCountOf (IsTouched stood.bridging stands.bridging) touched
  pub few_reads : reads_after ≤ reads + 2 * (entries_of undos + touched)

-- the bridges took two turns at most for each node below the user's items that another table touches,
-- before and after
pub record IsRetabledByFew (old : Owned) (model : ModelValue) (new : Owned) : Type 0 where
  pub stood : IsBridgingOf old model
  pub stands : IsBridgingOf new model
  pub inner : ℕ
  pub inner_is : IsInner stood.bridging stands.bridging inner
  pub turns : turns_of new.bridges.states ≤ turns_of old.bridges.states + 2 * inner
