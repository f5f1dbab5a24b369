-- The variables of a valid model as a written file says them: each has a name of the file, and no
-- two addresses have one name.
use Rattle.std.specs.Prelude.{◌≡◌, ◌≢◌, ◌==◌, All, AllPairs, Contains, Bool, true, false, ◌||◌, List, [], ◌∷◌, bytes_eq, find, flat_map, slice_index_or, unwrap_or, refl}
use Rattle.std.specs.List.{list_any}
use Rattle.std.specs.Option.{option_map}
use Rattle.std.proofs.Common.{ap, arith, inl, inr, sym, ◌∙◌}
use Rattle.std.proofs.lemmas.Bool.{and_from, cases_order, eqb-true, false_from_ne_true}
use Rattle.std.proofs.lemmas.List.{get_or_default}
use Rattle.std.proofs.lemmas.List.Elements.{All-append, All-contains, All-head, All-tail}
use Rattle.std.proofs.lemmas.List.Folds.{Any-from_list_any}
use Rattle.std.proofs.lemmas.Slice.Eq.{bytes_eq-Decides}
use Rattle.aff_core.specs.Address.{Address, address_eq, address_eq-Decides}
use Rattle.name_index.specs.Name.{IsName}
use Rattle.name_index.proofs.NameLemmas.{is_name-from_IsName}
use Rattle.user_model.specs.declared.group.Group.{Group}
use Rattle.user_model.specs.declared.group.GroupVar.{GroupVar}
use Rattle.user_model.specs.Consistent.{IsConsistent}
use Rattle.user_model.specs.Model.{ModelValue, variable_address, variables}
use Rattle.user_model.specs.Valid.{Stands}
use Rattle.model_laws.specs.Found.{found_passes, found_stands, is_some-find, one_passes, something}
use Rattle.model_laws.specs.Variables.{group_found}
use Rattle.mof_file.specs.Functions.{is_known}
use Rattle.mof_write.specs.Written.{naming}
use Rattle.mof_laws.specs.FunctionLaws.{IsNameKnown}
use Rattle.mof_write.specs.Sayable.{HasName, VarsHaveNames}
use Rattle.mof_laws.specs.ReadBack.{var_names}

-- the variables of all groups have names
pub names_in : (gs : List Group) → All VarsHaveNames gs → All HasName (flat_map (λ g. g.vars) gs)
names_in [] h = λ k d within. absurd (omega arith)
names_in (g ∷ gs) h =
    All-append HasName g.vars (flat_map (λ g. g.vars) gs) (All-head VarsHaveNames g gs h)
    (names_in gs (All-tail VarsHaveNames g gs h))

-- a name that stands in a list
pub name_known : (vars : List GroupVar) (v : GroupVar) → Contains vars v → IsName v.name
    → is_known (var_names vars) v.name ≡ true
name_known vars v at is =
    and_from _ _ (is_name-from_IsName v.name is) (mapped_any vars
    ∙ one_passes (λ w. bytes_eq v.name w.name) vars v at
    ((bytes_eq-Decides v.name v.name).1 refl))
  where
    mapped_any : (ws : List GroupVar)
        → list_any (bytes_eq v.name) (var_names ws) ≡ list_any (λ w. bytes_eq v.name w.name) ws
    mapped_any [] = refl
    mapped_any (w ∷ ws) = ap (λ b. bytes_eq v.name w.name || b) (mapped_any ws)

-- variables of one name are one
pub one_variable : (vars : List GroupVar) → AllPairs {X = GroupVar} (λ v w. v.name ≢ w.name) vars
    → (v w : GroupVar) → Contains vars v → Contains vars w → v.name ≡ w.name → v ≡ w
one_variable vars apart v w here there same =
    elim (cases_order here.0 there.0) [
      | inl e ↦
          sym here.2 ∙ ap (λ k. slice_index_or vars k v) e
          ∙ get_or_default vars there.0 v w there.1 ∙ there.2
      | inr (inl below) ↦ absurd (apart here.0 there.0 v below there.1
          (ap (λ x. x.name) here.2 ∙ same
          ∙ ap (λ x. x.name) (sym there.2 ∙ get_or_default vars there.0 w v there.1)))
      | inr (inr above) ↦ absurd (apart there.0 here.0 w above here.1
          (ap (λ x. x.name) there.2 ∙ sym same
          ∙ ap (λ x. x.name) (sym here.2 ∙ get_or_default vars here.0 v w here.1)))
    ]

module _ (model : ModelValue) where
  abbrev stands_at : Address → GroupVar → Bool
  stands_at at v = address_eq (variable_address v.number) at

  -- the variable at an address
  pub record HasVariableAt (at : Address) : Type 0 where
    pub var : GroupVar
    pub there : Contains (variables model) var
    pub address : variable_address var.number ≡ at
    pub name : naming model at ≡ var.name

  pub variable_there : (at : Address) → Stands model.groups at → HasVariableAt at
  variable_there at s =
      let any = Any-from_list_any (λ v. v.number == s.number) (variables model)
      (sym (group_found s.number model.groups) ∙ s.group) in
      let same : address_eq (variable_address any.1.number) at ≡ true =
      (address_eq-Decides (variable_address any.1.number) at).1
      (ap variable_address (eqb-true any.1.number s.number any.4) ∙ sym s.address) in
      let some = something (find (stands_at at) (variables model))
      (is_some-find (stands_at at) (variables model)
      ∙ one_passes (stands_at at) (variables model) any.1 (any.0, any.2, any.3) same) in
      record {
        var = some.0;
        there = found_stands (stands_at at) (variables model) some.0 some.1;
        address = (address_eq-Decides (variable_address some.0.number) at).0
            (found_passes (stands_at at) (variables model) some.0 some.1);
        name = ap (λ o. unwrap_or (option_map (λ v. v.name) o) []) some.1;
      }

  pub named_at : (at : Address) → All HasName (variables model)
      → HasVariableAt at → IsNameKnown (naming model) (var_names (variables model)) at
  named_at at names h =
      ap (is_known (var_names (variables model))) h.name
      ∙ name_known (variables model) h.var h.there
      (All-contains HasName (variables model) h.var names h.there)

  pub other_name : (one other : Address) → IsConsistent model → HasVariableAt one
      → HasVariableAt other
      → one ≢ other → bytes_eq (naming model other) (naming model one) ≡ false
  other_name one other c h g apart =
      false_from_ne_true _ (λ e. apart
      (sym h.address
      ∙ ap (λ v. variable_address v.number)
      (one_variable (variables model) c.variable_names h.var g.var h.there g.there
      (sym h.name ∙ sym ((bytes_eq-Decides (naming model other) (naming model one)).0 e) ∙ g.name))
      ∙ g.address))
