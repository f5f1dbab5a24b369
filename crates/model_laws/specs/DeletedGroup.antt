-- A deleted variable changes its own group alone.
use Rattle.std.specs.Prelude.{◌≡◌, ◌≢◌, ℕ, ◌<◌, ◌==◌, false, cond, List, [], ◌∷◌, ◌++◌, Option, Some, None, All, AllPairs, Contains, refl}
use Rattle.std.specs.List.{filter_map, cons_option}
use Rattle.std.specs.Option.{option_to_list}
use Rattle.std.proofs.Common.{arith, sym, ap, ap₂, subst, ◌∙◌}
use Rattle.std.proofs.lemmas.List.Elements.{All-weaker, filter_map-append}
use Rattle.std.proofs.lemmas.List.Folds.{list_any_none}
use Rattle.std.proofs.lemmas.Bool.{ne_eqb}
use Rattle.map_laws.specs.EachLaws.{all_first, all_second}
use Rattle.numbered_list.specs.Numbered.{Rise, find, set_at}
use Rattle.user_model.specs.declared.group.Group.{Group}
use Rattle.user_model.specs.declared.group.GroupVar.{GroupVar}
use Rattle.user_model.specs.Model.{has_variable}
use Rattle.user_model.specs.Edited.{group_number}
use Rattle.user_model.specs.Deletion.{group_without, unless_empty}
use Rattle.user_model.specs.Consistent.{variable_number}
use Rattle.model_laws.specs.Replaced.{set_at_around}
use Rattle.model_laws.specs.Variables.{others_above, others_below, vars_around, vars_in}
use Rattle.model_laws.specs.GroupWithout.{others}

-- a group that doesn't have the variable stays
pub group_unmentioned : (n : ℕ) (group : Group) → has_variable n group ≡ false
    → group_without n group ≡ Some group
group_unmentioned n group lacks =
    ap (λ b. cond b (unless_empty (λ left set. record group { vars = left; set = set }) group.set
    (others n group.vars)) (Some group)) lacks

-- groups without the variable stay
others_stay : (n : ℕ) (groups : List Group) → All (λ v. v.number ≢ n) (vars_in groups)
    → filter_map (group_without n) groups ≡ groups
others_stay n [] h = refl
others_stay n (g ∷ groups) h =
    let lacks : has_variable n g ≡ false = list_any_none (λ v. v.number == n) g.vars
    (All-weaker (λ v. v.number ≢ n) (λ v. (v.number == n) ≡ false)
    (λ v off. ne_eqb v.number n off) g.vars
    (all_first (λ v. v.number ≢ n) g.vars (vars_in groups) h)) in
    ap (λ o. cons_option o (filter_map (group_without n) groups)) (group_unmentioned n g lacks)
    ∙ ap (λ gs. g ∷ gs)
    (others_stay n groups (all_second (λ v. v.number ≢ n) g.vars (vars_in groups) h))

first_or_none : {X : Type 0} (o : Option X) (xs : List X)
    → cons_option o xs ≡ option_to_list o ++ xs
first_or_none None xs = refl
first_or_none (Some x) xs = refl

pub group_deleted : (n : ℕ) (group : Group) (groups : List Group) → Rise group_number groups
    → Rise variable_number (vars_in groups) → find group_number group.id groups ≡ Some group
    → (v : GroupVar) → Contains group.vars v → v.number ≡ n
    → set_at group_number group.id (group_without n group) groups
    ≡ filter_map (group_without n) groups
group_deleted n group groups rise vars_rise found v there at =
    set_at_around group_number (λ xs ys. Rise variable_number (vars_in xs)
    → ys ≡ filter_map (group_without n) xs) group.id (group_without n group) group groups rise
    found one vars_rise
  where
    one : (before after : List Group) → Rise variable_number (vars_in (before ++ (group ∷ after)))
        → before ++ (option_to_list (group_without n group) ++ after)
        ≡ filter_map (group_without n) (before ++ (group ∷ after))
    one before after h =
        let up : AllPairs (λ x y. variable_number x < variable_number y)
        (vars_in before ++ (group.vars ++ vars_in after)) =
        (subst (Rise variable_number) (vars_around before after group) h).rising in
        let low = others_below variable_number (vars_in before) group.vars (vars_in after) v there
        up in
        let high = others_above variable_number (vars_in before) group.vars (vars_in after) v there
        up in
        let first : filter_map (group_without n) before ≡ before = others_stay n before
        (All-weaker (λ u. u.number < v.number) (λ u. u.number ≢ n) (λ u lt e. omega arith)
        (vars_in before) low) in
        let last : filter_map (group_without n) after ≡ after = others_stay n after
        (All-weaker (λ w. v.number < w.number) (λ w. w.number ≢ n) (λ w lt e. omega arith)
        (vars_in after) high) in
        sym (filter_map-append (group_without n) before (group ∷ after)
        ∙ (ap₂ (λ xs ys. xs ++ cons_option (group_without n group) ys) first last
        ∙ ap (λ ys. before ++ ys) (first_or_none (group_without n group) after)))
