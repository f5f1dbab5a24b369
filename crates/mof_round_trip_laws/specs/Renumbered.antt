-- A model with each number replaced by its position.
use Rattle.std.specs.Prelude.{◌≡◌, ℕ, Bool, true, false, ◌||◌, cond, List, [], ◌∷◌, ◌++◌, All, Contains, Some, find, flat_map, length, map, unwrap_or, bytes_eq, refl}
use Rattle.std.specs.List.{list_any}
use Rattle.std.specs.Option.{option_map}
use Rattle.std.proofs.Common.{ap, ap₂, subst, sym, ◌∙◌}
use Rattle.std.proofs.lemmas.Bool.{or_from}
use Rattle.std.proofs.lemmas.List.{map-append}
use Rattle.std.proofs.lemmas.List.Elements.{All-head, All-tail}
use Rattle.std.proofs.lemmas.Slice.Eq.{bytes_eq-Decides}
use Rattle.numbered_list.specs.Numbered.{Rise}
use Rattle.aff_core.specs.Address.{Address}
use Rattle.user_model.specs.declared.group.Group.{Group}
use Rattle.user_model.specs.declared.group.GroupVar.{GroupVar}
use Rattle.user_model.specs.Consistent.{IsConsistent, variable_number}
use Rattle.user_model.specs.Model.{ModelValue, address_named, variable_address, variable_named, variables}
use Rattle.user_model.specs.SameUpToNumbers.{address_by_position, group_by_position, groups_by_position, objective_by_position, position, rows_by_position, variable_by_position, variable_numbers}
use Rattle.model_laws.specs.Found.{found_passes, found_stands, is_some-find, one_passes, something}
use Rattle.mof_write.specs.Written.{naming}
use Rattle.mof_laws.specs.VariableLaws.{HasVariableAt, one_variable}
use Rattle.user_model.specs.PositionLaws.{placed_again}

-- the model with each number replaced by its position
abbrev pub renumbered : ModelValue → ModelValue
renumbered model = record {
  groups = groups_by_position model;
  rows = rows_by_position model;
  objective = objective_by_position (variable_numbers model) model.objective;
  next = record {
    group = length model.groups;
    variable = length (variables model);
    row = length model.rows;
  };
}

-- ---- items that are made of others

module _ {X Y : Type 0} (f : X → Y) (P : X → Type 0) where
  -- made of what was made, where each is as h makes it at once
  pub made_as : {Z : Type 0} (g : Y → Z) (h : X → Z) → ((x : X) → P x → g (f x) ≡ h x)
      → (xs : List X) → All P xs → map g (map f xs) ≡ map h xs
  made_as g h same [] all = refl
  made_as g h same (x ∷ xs) all =
      ap₂ ◌∷◌ (same x (All-head P x xs all)) (made_as g h same xs (All-tail P x xs all))

  module _ (test : Y → Bool) (passes : X → Bool)
      (same : (x : X) → P x → test (f x) ≡ passes x) where
    -- whether one passes
    pub any_made : (xs : List X) → All P xs → list_any test (map f xs) ≡ list_any passes xs
    any_made [] all = refl
    any_made (x ∷ xs) all =
        ap₂ ◌||◌ (same x (All-head P x xs all)) (any_made xs (All-tail P x xs all))

    -- the first that passes
    pub find_made : (xs : List X) → All P xs
        → find test (map f xs) ≡ option_map f (find passes xs)
    find_made [] all = refl
    find_made (x ∷ xs) all =
        ap₂ (λ b o. cond b (Some (f x)) o) (same x (All-head P x xs all))
        (find_made xs (All-tail P x xs all))
        ∙ over (passes x)
      where
        over : (b : Bool) → cond b (Some (f x)) (option_map f (find passes xs))
            ≡ option_map f (cond b (Some x) (find passes xs))
        over true = refl
        over false = refl

  -- none passes
  pub none_made : (test : Y → Bool) → ((x : X) → P x → test (f x) ≡ false) → (xs : List X)
      → All P xs → list_any test (map f xs) ≡ false
  none_made test fails [] all = refl
  none_made test fails (x ∷ xs) all =
      or_from _ _ (fails x (All-head P x xs all)) (none_made test fails xs (All-tail P x xs all))

module _ (model : ModelValue) where
  abbrev pub numbers : List ℕ
  numbers = variable_numbers model

  abbrev pub made_variable : GroupVar → GroupVar
  made_variable v = variable_by_position numbers v

  -- the variables of groups that are renumbered
  pub made_variables : (gs : List Group)
      → flat_map (λ g. g.vars) (map (group_by_position model) gs)
      ≡ map made_variable (flat_map (λ g. g.vars) gs)
  made_variables [] = refl
  made_variables (g ∷ gs) =
      ap (λ vs. map made_variable g.vars ++ vs) (made_variables gs)
      ∙ sym (map-append made_variable g.vars (flat_map (λ g. g.vars) gs))

  -- a variable's address is replaced by that of its position
  pub placed_address : (at : Address) (h : HasVariableAt model at)
      → address_by_position numbers at ≡ variable_address (position numbers h.var.number)
  placed_address at h = ap (λ a. variable_address (position numbers a.number)) (sym h.address)

  -- the other model has these variables, renumbered
  pub record HasRenumberedVariables (other : ModelValue) : Type 0 where
    pub made : variables other ≡ map made_variable (variables model)

module _ (model : ModelValue) (c : IsConsistent model) where
  -- a variable is found by its name
  pub found_variable : (v : GroupVar) → Contains (variables model) v
      → find (λ w. bytes_eq w.name v.name) (variables model) ≡ Some v
  found_variable v there =
      let test : GroupVar → Bool = λ w. bytes_eq w.name v.name in
      let some = something (find test (variables model))
      (is_some-find test (variables model)
      ∙ one_passes test (variables model) v there ((bytes_eq-Decides v.name v.name).1 refl)) in
      some.1 ∙ ap Some (one_variable (variables model) c.variable_names some.0 v
      (found_stands test (variables model) some.0 some.1) there
      ((bytes_eq-Decides some.0.name v.name).0
      (found_passes test (variables model) some.0 some.1)))

  module _ (other : ModelValue) (has : HasRenumberedVariables model other) where
    number_found : (v : GroupVar) → Contains (variables model) v
        → variable_named other v.name ≡ Some (position (numbers model) v.number)
    number_found v there =
        ap (λ vs. option_map (λ w. w.number) (find (λ w. bytes_eq w.name v.name) vs)) has.made
        ∙ ap (option_map (λ w. w.number))
        (find_made (made_variable model) (λ w. Unit {0}) (λ w. bytes_eq w.name v.name)
        (λ w. bytes_eq w.name v.name) (λ w all. refl) (variables model) (λ k d within. tt))
        ∙ ap (λ o. option_map (λ w. w.number) (option_map (made_variable model) o))
        (found_variable v there)

    -- the name at an address has the position there as its number
    pub number_of_name : (at : Address) (h : HasVariableAt model at)
        → variable_named other (naming model at) ≡ Some (position (numbers model) h.var.number)
    number_of_name at h = ap (variable_named other) h.name ∙ number_found h.var h.there

    -- so it names the address with that number
    pub address_of_name : (at : Address) (h : HasVariableAt model at)
        → address_named other (naming model at) ≡ address_by_position (numbers model) at
    address_of_name at h =
        ap (λ o. variable_address (unwrap_or o 0)) (number_of_name at h)
        ∙ sym (placed_address model at h)

  module _ (other : ModelValue) (d : IsConsistent other) (has : HasRenumberedVariables model other) where
    -- renumbered once more, a variable stays
    pub number_again : (v : GroupVar) → Contains (variables model) v
        → position (variable_numbers other) (position (numbers model) v.number)
        ≡ position (numbers model) v.number
    number_again v there =
        ap (λ vs. position (map variable_number vs) (position (numbers model) v.number)) has.made
        ∙ placed_again variable_number (made_variable model) (variables model) c.variables_rise
        (subst (Rise variable_number) has.made d.variables_rise) v there

    -- and so does an address
    pub address_again : (at : Address) (h : HasVariableAt model at)
        → address_by_position (variable_numbers other) (address_by_position (numbers model) at)
        ≡ address_by_position (numbers model) at
    address_again at h =
        ap (address_by_position (variable_numbers other)) (placed_address model at h)
        ∙ ap variable_address (number_again h.var h.there)
        ∙ sym (placed_address model at h)
