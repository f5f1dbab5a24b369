-- Empty maps and solver's models, and bridges that keep nothing.
use Rattle.std.specs.Prelude.{◌≡◌, List, All, IfSome, map, refl}
use Rattle.std.specs.FinMap as finite
use Rattle.std.specs.Ordering.{nat_cmp}
use Rattle.std.proofs.Common.{sym, ap, subst, ◌∙◌}
use Rattle.std.proofs.lemmas.List.Elements.{All-map}
use Rattle.std.proofs.lemmas.Option.{none-some}
use Rattle.address_map.specs.AddressMap.{AddressMap}
use Rattle.bridge_face.specs.BridgeState.{BridgeState, all_gone}
use Rattle.leaf_update.specs.Named.{NamesEach, ObjectiveNames}
use Rattle.solver_store.specs.SolverModel.{Leaves, no_leaves}
use Rattle.std_form.specs.NativeLaws.{exact_empty}

-- an empty map names an empty model
pub names_none : (places : AddressMap) (leaves : Leaves) → leaves ≡ no_leaves leaves.calls
    → places.vars.indices ≡ finite.empty → places.rows.indices ≡ finite.empty
    → NamesEach places leaves
names_none places leaves none vars rows = record {
  vars = exact_empty places.vars.indices leaves.vars vars (ap (λ (l : Leaves). l.vars) none);
  rows = exact_empty places.rows.indices leaves.rows rows (ap (λ (l : Leaves). l.rows) none);
  each_row = λ i r e. absurd
      (none-some r (sym (ap (λ (l : Leaves). finite.get l.rows i) none
      ∙ finite.get-empty nat_cmp i) ∙ e));
  objective =
      subst (λ o. IfSome o (ObjectiveNames places.vars.indices))
      (sym (ap (λ (l : Leaves). l.objective) none)) tt;
}

pub its_calls : (leaves : Leaves) (calls : _) → leaves ≡ no_leaves calls
    → leaves ≡ no_leaves leaves.calls
its_calls leaves calls none = none ∙ ap no_leaves (sym (ap (λ (l : Leaves). l.calls) none))

pub none_kept : (states : List BridgeState) → All (λ (s : BridgeState). s.kept ≡ finite.empty)
    (map all_gone states)
none_kept states =
    All-map (λ (s : BridgeState). s.kept ≡ finite.empty) all_gone states (λ k d end. refl)
