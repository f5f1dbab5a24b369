-- What stands for the variables that the found rows and the objective name is what stands for them by
-- the new bridging.
use Rattle.std.specs.Prelude.{◌≡◌, ◌++◌, Bool, true, false, List, [], ◌∷◌, All, Contains, flat_map, map, refl}
use Rattle.std.proofs.Common.{sym, ap, subst, ◌∙◌}
use Rattle.std.proofs.lemmas.List.{map-append}
use Rattle.std.proofs.lemmas.List.Elements.{All-append, All-cons, All-head, All-map, All-nil, All-weaker}
use Rattle.aff_core.specs.Address.{Address}
use Rattle.bridge_face.specs.Law.{Miss}
use Rattle.fresh_bridging.specs.ModelImage.{group_item, model_image, objective_items, row_item}
use Rattle.fresh_bridging.specs.ModelLaws.{objective_omits, row_omits}
use Rattle.item_core.specs.Item.{functions_of, variables_of}
use Rattle.item_core.specs.declared.item.Item.{Item}
use Rattle.local_laws.specs.MentionLaws.{contains_mapped, mapped_contains}
use Rattle.push_laws.specs.AgreeLaws.{own_variables as own_of}
use Rattle.push_laws.specs.ListLaws.{in_all, in_some}
use Rattle.touched_items.specs.Differences.{variables_in}
use Rattle.tree_laws.specs.UserLaws.{stands_in}
use Rattle.user_model.specs.Functions.{func_mentions}
use Rattle.user_model.specs.Model.{ModelValue, objective_mentions, variable_address}
use Rattle.user_model.specs.Valid.{IsValid, IsValidObjective, IsValidRow}
use Rattle.user_model.specs.declared.group.Group.{Group}
use Rattle.user_model.specs.declared.group.GroupVar.{GroupVar}
use Rattle.user_model.specs.declared.objective.Objective.{Objective}
use Rattle.user_model.specs.declared.objective.Objective.TheVariants as objective
use Rattle.user_model.specs.declared.row.Row.{Row}

-- ---- rows and the objective name the model's variables

-- what the item names stands
abbrev pub NamesStanding : List Group → Item → Type 0
NamesStanding groups i = (v : Address) → ¬ (Miss (functions_of i.body) v) → Contains (own_of groups) v

-- one of the two, by a test
by_test : {A B : Type 0} (b : Bool) → (b ≡ true → A) → (b ≡ false → B) → ¬ B → A
by_test true f g n = f refl
by_test false f g n = absurd (n (g refl))

row_stands : (groups : List Group) (r : Row) → IsValidRow groups r
    → NamesStanding groups (row_item r)
row_stands groups r valid v n =
    by_test (func_mentions v r.func) (λ t. stands_in groups v (valid.stand v t))
    (λ f. row_omits r.func r.set v f) n

objective_stands : (groups : List Group) (o : Objective) → IsValidObjective groups o
    → All (NamesStanding groups) (objective_items o)
objective_stands groups o valid =
    by o (λ v t. stands_in groups v (valid.stand v t)) (λ v f. objective_omits o v f)
  where
    Omits : Address → Item → Type 0
    Omits v i = Miss (functions_of i.body) v

    by : (o : Objective)
        → ((v : Address) → objective_mentions v o ≡ true → Contains (own_of groups) v)
        → ((v : Address) → objective_mentions v o ≡ false → All (Omits v) (objective_items o))
        → All (NamesStanding groups) (objective_items o)
    by objective.Feasibility f g = All-nil (NamesStanding groups)
    by (objective.Plain sense var) f g =
        All-cons (NamesStanding groups) _ []
        (λ v n. by_test (objective_mentions v (objective.Plain sense var)) (f v)
        (λ t. All-head (Omits v) _ [] (g v t)) n)
        (All-nil (NamesStanding groups))
    by (objective.Affine sense func) f g =
        All-cons (NamesStanding groups) _ []
        (λ v n. by_test (objective_mentions v (objective.Affine sense func)) (f v)
        (λ t. All-head (Omits v) _ [] (g v t)) n)
        (All-nil (NamesStanding groups))

pub others_stand : (model : ModelValue) → IsValid model
    → All (NamesStanding model.groups) (model_image model).others
others_stand model valid =
    All-append (NamesStanding model.groups) (map row_item model.rows)
    (objective_items model.objective)
    (All-map (NamesStanding model.groups) row_item model.rows
    (All-weaker (IsValidRow model.groups) (λ r. NamesStanding model.groups (row_item r))
    (λ r h. row_stands model.groups r h) model.rows valid.parts.valid_rows))
    (objective_stands model.groups model.objective valid.parts.valid_objective)

-- ---- the group of a variable

pub numbered_flat : (gs : List Group) → own_of gs ≡ variables_in gs
numbered_flat [] = refl
numbered_flat (g ∷ gs) =
    map-append (λ (v : GroupVar). variable_address v.number) g.vars
    (flat_map (λ (g : Group). g.vars) gs)
    ∙ ap (λ l. map (λ (v : GroupVar). variable_address v.number) g.vars ++ l) (numbered_flat gs)

-- a variable of groups is one of a group of these
pub own_group : (v : Address) (gs : List Group) → Contains (own_of gs) v
    → (g : Item) × Contains (map group_item gs) g × Contains (variables_of g.body) v
own_group v gs c =
    let r = in_some (λ (g : Group). map (λ (v : GroupVar). variable_address v.number) g.vars) gs v
    (subst (λ l. Contains l v) (numbered_flat gs) c) in
    (group_item r.0, mapped_contains group_item gs r.0 r.1, r.2)

-- and the other way round
pub group_own : (v : Address) (gs : List Group) (g : Item) → Contains (map group_item gs) g
    → Contains (variables_of g.body) v → Contains (own_of gs) v
group_own v gs g c own =
    let r = contains_mapped group_item gs g c in
    subst (λ l. Contains l v) (sym (numbered_flat gs))
    (in_all (λ (g : Group). map (λ (v : GroupVar). variable_address v.number) g.vars) gs r.0 v r.1
    (subst (λ (i : Item). Contains (variables_of i.body) v) (sym r.2) own))
