-- Found items, taken one after another.
use Rattle.std.specs.Prelude.{◌≡◌, ℕ, Bool, cond, List, [], ◌∷◌, ◌++◌, Option, None, Result, Err, IsErrAnd, map, refl}
use Rattle.std.proofs.Common.{ap, sym, subst, ◌∙◌}
use Rattle.std.specs.Option.{option_map_or}
use Rattle.bridge_graph.specs.declared.Choice.{Choice}
use Rattle.aff_core.specs.Address.{Address}
use Rattle.bridge_plan.specs.AddsHeld.{AddsHeld}
use Rattle.bridge_plan.specs.KeptGroups.{keeps}
use Rattle.bridge_plan.specs.declared.plan.Plan.{Plan}
use Rattle.fresh_bridging.specs.Entries.{Entry}
use Rattle.fresh_bridging.specs.ModelImage.{group_item, objective_items, row_item}
use Rattle.item_core.specs.KindOf.{group_kind_of, kind_of_body}
use Rattle.item_core.specs.declared.kind.Kind.{Kind}
use Rattle.model_bridging.specs.Found.{found_others, kept_over}
use Rattle.model_bridging.specs.Kinds.{first_missing, kind_by, told}
use Rattle.model_bridging.specs.ModelHeld.{unfit_put}
use Rattle.model_bridging.specs.PlanOutcome.{KindsOutcome, PlanOutcome}
use Rattle.model_bridging.specs.Whole.{others_held}
use Rattle.model_bridging.specs.declared.fault.PushFault.{PushFault}
use Rattle.model_bridging.proofs.KindSteps.{answered_next, further_kinds, handed_first, row_kinds}
use Rattle.model_bridging.proofs.Telling.{Told, is_among}
use Rattle.user_model.specs.Model.{variable_address}
use Rattle.user_model.specs.declared.group.Group.{Group}
use Rattle.user_model.specs.declared.objective.Objective.{Objective}
use Rattle.user_model.specs.declared.row.Row.{Row}
use Rattle.item_core.specs.Kind.{kind_count}

-- ---- what groups tell

pub over_none : (choice : ℕ → Choice) (start : Told) (v : Address)
    → told start v ≡ kept_over choice (told start) [] v
unfolding kept_over
over_none choice start v = refl

-- one more group, before those that were told of
pub over_more : (choice : ℕ → Choice) (group : Group) (taken : List Group)
    (start now after : Told) (kept : Bool) → kept ≡ keeps choice (group_kind_of group.set)
    → ((v : Address) → told now v ≡ kept_over choice (told start) (map group_item taken) v)
    → ((v : Address) → told after v
    ≡ cond (is_among (map (λ x. variable_address x.number) group.vars) v) kept (told now v))
    → (v : Address)
    → told after v ≡ kept_over choice (told start) (map group_item (group ∷ taken)) v
unfolding kept_over kind_of_body
over_more choice group taken start now after kept is so_far said v =
    said v
    ∙ (ap (λ b. cond (is_among (map (λ x. variable_address x.number) group.vars) v) b (told now v))
    is
    ∙ ap (cond (is_among (map (λ x. variable_address x.number) group.vars) v)
    (keeps choice (group_kind_of group.set))) (so_far v))

-- ---- kinds of rows, and then of the objective

module _ (choice : ℕ → Choice) (kept : Address → Bool) (rows : List Row) (o : Option Objective)
  where
    abbrev last : List Kind
    last = map (λ i. kind_by kept i.body) (option_map_or objective_items o [])

    parts : map (λ i. kind_by kept i.body) (found_others rows o) ≡ row_kinds kept rows ++ last
    parts = further_kinds kept kept (λ v. refl) (map row_item rows)
        (option_map_or objective_items o [])

    pub rows_refuse : (T U : Type 0) (r : Result T PushFault) (f : PushFault)
        → IsErrAnd r (λ x. x ≡ f)
        → KindsOutcome {T = U} (Err f) (first_missing choice (row_kinds kept rows))
        → KindsOutcome r (first_missing choice (map (λ i. kind_by kept i.body) (found_others rows o)))
    rows_refuse T U r f is h =
        subst (λ ks. KindsOutcome r (first_missing choice ks)) (sym parts)
        (handed_first choice T U r f (row_kinds kept rows) last is h)

    pub others_answer : {T : Type 0} (r : Result T PushFault)
        → first_missing choice (row_kinds kept rows) ≡ None
        → KindsOutcome r (first_missing choice last)
        → KindsOutcome r (first_missing choice (map (λ i. kind_by kept i.body) (found_others rows o)))
    others_answer r none h =
        subst (λ ks. KindsOutcome r (first_missing choice ks)) (sym parts)
        (answered_next choice r (row_kinds kept rows) last none h)

-- ---- rows, and then the objective, planned

-- what is answered by one objective is by an equal one
pub as_copied : {T : Type 0} (r : Result T PushFault) (choice : ℕ → Choice) (inner : List Entry)
    (plan after : Plan) (rows : List Row) (o p : Option Objective) → p ≡ o
    → PlanOutcome r (unfit_put choice kind_count inner (found_others rows o))
    (λ _. AddsHeld plan after [] [] (others_held choice inner (found_others rows o)))
    → PlanOutcome r (unfit_put choice kind_count inner (found_others rows p))
    (λ _. AddsHeld plan after [] [] (others_held choice inner (found_others rows p)))
as_copied r choice inner plan after rows o p e h =
    subst (λ q. PlanOutcome r (unfit_put choice kind_count inner (found_others rows q))
    (λ _. AddsHeld plan after [] [] (others_held choice inner (found_others rows q)))) (sym e) h
