-- The bounds of a variable among rows and groups that are renumbered.
use Rattle.std.specs.Prelude.{◌≡◌, ℕ, ◌+◌, ◌≤◌, ◌==◌, Bool, true, false, ◌&&◌, ◌||◌, cond, List, [], ◌∷◌, ◌++◌, All, Contains, Option, Some, None, count_by, find, map, refl}
use Rattle.std.specs.List.{list_any}
use Rattle.std.specs.Option.{option_map, option_map_or}
use Rattle.std.specs.Ordering.{is_eq}
use Rattle.std.proofs.Common.{ap, arith, subst, sym, ◌∙◌}
use Rattle.std.proofs.lemmas.Bool.{or_from}
use Rattle.std.proofs.lemmas.List.Elements.{All-contains_itself}
use Rattle.std.proofs.lemmas.List.Sums.{sum_by-append, sum_by-cons}
use Rattle.aff_core.specs.Address.{address_eq}
use Rattle.set_core.specs.declared.set.Set.{Set}
use Rattle.user_model.specs.declared.function.UserFunc.{UserFunc}
use Rattle.user_model.specs.declared.function.UserFunc.TheVariants.{Plain, Affine, PlainVec, AffineVec}
use Rattle.user_model.specs.declared.group.Group.{Group}
use Rattle.user_model.specs.declared.group.GroupVar.{GroupVar}
use Rattle.user_model.specs.declared.row.Row.{Row}
use Rattle.user_model.specs.Consistent.{variable_number}
use Rattle.user_model.specs.Model.{ModelValue, has_variable, is_created, is_variable, variable_address, variables}
use Rattle.user_model.specs.SameUpToNumbers.{function_by_position, group_by_position, groups_by_position, position, row_by_position}
use Rattle.user_model.specs.Valid.{bound_count, is_created_by}
use Rattle.model_laws.specs.Located.{stands_in_joined}
use Rattle.mof_round_trip_laws.specs.Functions.{IsPlaced, placed_order}
use Rattle.user_model.specs.PositionLaws.{position_test}
use Rattle.mof_round_trip_laws.specs.Renumbered.{any_made, find_made, made_variable, numbers, placed_address}

-- ---- counts

pub none_there : (b : Bool) → cond b 1 0 ≤ 0 → b ≡ false
none_there true h = absurd (omega arith)
none_there false h = refl

pub none_pass : {X : Type 0} (p : X → Bool) (xs : List X) → count_by p xs ≤ 0 → list_any p xs ≡ false
none_pass p [] h = refl
none_pass p (x ∷ xs) h =
    let all = sum_by-cons (λ x. cond (p x) 1 0) x xs in
    or_from _ _ (none_there (p x) (omega (arith, all, h)))
    (none_pass p xs (omega (arith, all, h)))

-- ---- a bound of a variable

-- a row or the creation set bounds the variable
abbrev pub has_bound : (Set → Bool) → ModelValue → ℕ → Bool
has_bound test model n =
    list_any (λ r. is_variable n r.func && test r.set) model.rows || is_created test model n

module _ (model : ModelValue) where
  abbrev place : ℕ → ℕ
  place n = position (numbers model) n

  module _ (v : GroupVar) (there : Contains (variables model) v) where
    variable_kept : (func : UserFunc) → IsPlaced model func
        → is_variable (place v.number) (function_by_position (numbers model) func)
        ≡ is_variable v.number func
    variable_kept (Plain at) h =
        ap (address_eq (variable_address (place v.number))) (placed_address model at h)
        ∙ ap is_eq (placed_order model v h.var there h.there)
        ∙ ap (address_eq (variable_address v.number)) h.address
    variable_kept (Affine f) h = refl
    variable_kept (PlainVec vars) h = refl
    variable_kept (AffineVec fs) h = refl

    rows_kept : (test : Set → Bool) (rs : List Row) → All {X = Row} (λ r. IsPlaced model r.func) rs
        → list_any (λ r. is_variable (place v.number) r.func && test r.set)
        (map (row_by_position model) rs)
        ≡ list_any (λ r. is_variable v.number r.func && test r.set) rs
    rows_kept test rs h =
        any_made (row_by_position model) (λ r. IsPlaced model r.func)
        (λ r. is_variable (place v.number) r.func && test r.set)
        (λ r. is_variable v.number r.func && test r.set)
        (λ r placed. ap (λ b. b && test r.set) (variable_kept r.func placed)) rs h

    group_kept : (g : Group) → Contains model.groups g
        → has_variable (place v.number) (group_by_position model g) ≡ has_variable v.number g
    group_kept g inside =
        any_made (made_variable model) (Contains g.vars) (λ w. w.number == place v.number)
        (λ w. w.number == v.number)
        (λ w own. position_test variable_number (variables model) w v
        (stands_in_joined (λ g. g.vars) model.groups g w inside own) there)
        g.vars (All-contains_itself g.vars)

    created_kept : (test : Set → Bool) (other : ModelValue)
        → other.groups ≡ groups_by_position model
        → is_created test other (place v.number) ≡ is_created_by test model.groups v.number
    created_kept test other e =
        ap (λ gs. option_map_or (λ g. test g.set) (find (has_variable (place v.number)) gs) false) e
        ∙ ap (λ o. option_map_or (λ g. test g.set) o false)
        (find_made (group_by_position model) (Contains model.groups)
        (has_variable (place v.number)) (has_variable v.number) group_kept model.groups
        (All-contains_itself model.groups))
        ∙ set_kept (find (has_variable v.number) model.groups)
      where
        set_kept : (o : Option Group)
            → option_map_or (λ g. test g.set) (option_map (group_by_position model) o) false
            ≡ option_map_or (λ g. test g.set) o false
        set_kept None = refl
        set_kept (Some g) = refl

-- where a row bounds a variable, no other row before it and no creation set does
module _ (test : Set → Bool) (n : ℕ) (groups : List Group) (done : List Row) (r : Row)
    (rest : List Row) (single : bound_count test groups (done ++ r ∷ rest) n ≤ 1)
    (this : (is_variable n r.func && test r.set) ≡ true) where
  abbrev bounds : Row → Bool
  bounds r = is_variable n r.func && test r.set

  no_more : count_by bounds done + cond (is_created_by test groups n) 1 0 ≤ 0
  no_more =
      let all = sum_by-append (λ r. cond (bounds r) 1 0) done (r ∷ rest) in
      let first = sum_by-cons (λ r. cond (bounds r) 1 0) r rest in
      let one : 1 ≤ cond (bounds r) 1 0 =
      subst (λ b. 1 ≤ cond b 1 0) (sym this) (omega arith) in
      omega (arith, single, all, first, one)

  pub no_row_before : list_any (λ r. is_variable n r.func && test r.set) done ≡ false
  no_row_before = let few = no_more in none_pass bounds done (omega (arith, few))

  pub not_created : is_created_by test groups n ≡ false
  not_created = let few = no_more in none_there _ (omega (arith, few))

-- so a variable that a row bounds has no bound before
pub unbound : (model : ModelValue) (test : Set → Bool)
    (other : ModelValue) (v : GroupVar) → Contains (variables model) v
    → other.groups ≡ groups_by_position model → (done : List Row)
    → other.rows ≡ map (row_by_position model) done
    → All {X = Row} (λ r. IsPlaced model r.func) done
    → list_any (λ r. is_variable v.number r.func && test r.set) done ≡ false
    → is_created_by test model.groups v.number ≡ false
    → has_bound test other (position (numbers model) v.number) ≡ false
unbound model test other v there same_groups done same_rows placed none uncreated =
    or_from _ _
    (ap (list_any (λ r. is_variable (position (numbers model) v.number) r.func && test r.set))
    same_rows
    ∙ rows_kept model v there test done placed ∙ none)
    (created_kept model v there test other same_groups ∙ uncreated)
