-- The variable at an address.
use Rattle.std.proofs.Common.{◌≡◌, ℕ, ◌==◌, cond, List, [], ◌∷◌, Option, Some, None, refl, sym, ap, ◌∙◌, arith}
use Rattle.std.specs.List as list
use Rattle.std.specs.Option.{option_and_then, option_map}
use Rattle.std.proofs.lemmas.Bool.Decides.{nat_tests}
use Rattle.numbered_list.specs.Numbered.{find}
use Rattle.aff_core.specs.Address.{Address, address_eq}
use Rattle.user_model.specs.declared.group.GroupVar.{GroupVar}
use Rattle.user_model.specs.Model.{ModelValue, name_at, variable_address, variables}
use Rattle.user_model.specs.Consistent.{variable_number}
use Rattle.model_catalog.specs.Index.{is_number}
use Rattle.model_catalog.specs.Named.{variable_name}

either_way : (m n : ℕ) → (m == n) ≡ (n == m)
either_way m n = grind (arith, nat_tests)

-- the name of the variable whose address it is, and none where it is no variable's
pub name_found : (model : ModelValue) (at : Address) (number : Option ℕ)
    → ((n : ℕ) → address_eq (variable_address n) at ≡ is_number number n)
    → option_and_then (variable_name model) number ≡ name_at model at
name_found model at None is = sym (ap (option_map (λ v. v.name)) (none (variables model)))
  where
    none : (vars : List GroupVar) → list.find (λ v. address_eq (variable_address v.number) at) vars
        ≡ None
    none [] = refl
    none (v ∷ vars) =
        ap (λ b. cond b (Some v) (list.find (λ v. address_eq (variable_address v.number) at) vars))
        (is v.number) ∙ none vars
name_found model at (Some number) is = ap (option_map (λ v. v.name)) (same (variables model))
  where
    same : (vars : List GroupVar) → find variable_number number vars
        ≡ list.find (λ v. address_eq (variable_address v.number) at) vars
    same [] = refl
    same (v ∷ vars) =
        ap (λ b. cond b (Some v) (find variable_number number vars)) (either_way v.number number
        ∙ sym (is v.number))
        ∙ ap (λ o. cond (address_eq (variable_address v.number) at) (Some v) o) (same vars)
