-- Groups without a variable: the variables that are left, in their order.
use Rattle.std.specs.Prelude.{◌≡◌, ◌≢◌, ℕ, ◌==◌, true, false, ◌||◌, not, cond, List, [], ◌∷◌, ◌++◌, Option, Some, None, All, filter, refl}
use Rattle.std.specs.List.{filter_map, cons_option, list_any}
use Rattle.std.specs.Option.{option_map_or}
use Rattle.std.proofs.Common.{sym, ap, ap₂, inl, inr, ◌∙◌}
use Rattle.std.proofs.lemmas.Bool.{cases_Bool, cases_eq, eq-eqb, ne_eqb}
use Rattle.std.proofs.lemmas.List.Elements.{All-head, All-tail, filter-append}
use Rattle.set_core.specs.declared.set.Set.{Set}
use Rattle.numbered_list.specs.Numbered.{IsAt}
use Rattle.numbered_list.specs.Laws.{KeepsNumbers}
use Rattle.user_model.specs.declared.group.Group.{Group}
use Rattle.user_model.specs.declared.group.GroupVar.{GroupVar}
use Rattle.user_model.specs.Model.{has_variable}
use Rattle.user_model.specs.Edited.{group_number}
use Rattle.user_model.specs.Deletion.{group_without, unless_empty}
use Rattle.model_laws.specs.Variables.{vars_in}
use Rattle.model_laws.specs.Found.{none_pass}
use Rattle.model_laws.specs.RowWithout.{unless_empty_all}

-- the variables of other numbers than n
abbrev pub others : ℕ → List GroupVar → List GroupVar
others n vars = filter (λ v. not (v.number == n)) vars

abbrev remade : Group → List GroupVar → Set → Group
remade group left set = record group { vars = left; set = set }

pub group_keeps_number : (n : ℕ) → KeepsNumbers group_number (group_without n)
group_keeps_number n = record { keeps = one }
  where
    one : (group : Group) → IsAt group_number group.id (group_without n group)
    one group =
        elim (has_variable n group) as (λ b. IsAt group_number group.id
        (cond b (unless_empty (remade group) group.set (others n group.vars)) (Some group))) [
          | true ↦ unless_empty_all (λ g. g.id ≡ group.id) (remade group) group.set
              (others n group.vars) (λ left set. refl)
          | false ↦ refl
        ]

-- the variables of a group that may not be there
abbrev vars_of : Option Group → List GroupVar
vars_of group = option_map_or (λ g. g.vars) group []

vars_remade : (group : Group) (set : Set) (xs : List GroupVar)
    → vars_of (unless_empty (remade group) set xs) ≡ xs
vars_remade group set [] = refl
vars_remade group set (x ∷ xs) = refl

others_all : (n : ℕ) (vars : List GroupVar) → All (λ v. (v.number == n) ≡ false) vars
    → others n vars ≡ vars
others_all n [] h = refl
others_all n (v ∷ vars) h =
    ap (λ b. cond (not b) (v ∷ others n vars) (others n vars))
    (All-head (λ v. (v.number == n) ≡ false) v vars h)
    ∙ ap (λ vs. v ∷ vs) (others_all n vars (All-tail (λ v. (v.number == n) ≡ false) v vars h))

vars_group_without : (n : ℕ) (group : Group) → vars_of (group_without n group) ≡ others n group.vars
vars_group_without n group =
    elim (cases_Bool (has_variable n group)) [
      | inl has ↦ ap (λ b. vars_of (cond b (unless_empty (remade group) group.set
          (others n group.vars)) (Some group))) has
          ∙ vars_remade group group.set (others n group.vars)
      | inr lacks ↦ ap (λ b. vars_of (cond b (unless_empty (remade group) group.set
          (others n group.vars)) (Some group))) lacks
          ∙ sym (others_all n group.vars (none_pass (λ v. v.number == n) group.vars lacks))
    ]

vars_cons_option : (o : Option Group) (groups : List Group)
    → vars_in (cons_option o groups) ≡ vars_of o ++ vars_in groups
vars_cons_option None groups = refl
vars_cons_option (Some g) groups = refl

-- the variables that are left
pub vars_without : (n : ℕ) (groups : List Group)
    → vars_in (filter_map (group_without n) groups) ≡ others n (vars_in groups)
vars_without n [] = refl
vars_without n (g ∷ groups) =
    vars_cons_option (group_without n g) (filter_map (group_without n) groups)
    ∙ (ap₂ (λ xs ys. xs ++ ys) (vars_group_without n g) (vars_without n groups)
    ∙ sym (filter-append (λ v. not (v.number == n)) g.vars (vars_in groups)))

-- another variable stands as before
pub others_stand : (m n : ℕ) (vars : List GroupVar) → m ≢ n
    → list_any (λ v. v.number == m) (others n vars) ≡ list_any (λ v. v.number == m) vars
others_stand m n [] ne = refl
others_stand m n (v ∷ vars) ne =
    elim (cases_eq v.number n) [
      | inl e ↦
          ap (λ b. list_any (λ v. v.number == m) (cond (not b) (v ∷ others n vars) (others n vars)))
          (eq-eqb v.number n e)
          ∙ (others_stand m n vars ne
          ∙ sym (ap (λ b. b || list_any (λ v. v.number == m) vars)
          (ne_eqb v.number m (λ at. ne (sym at ∙ e)))))
      | inr off ↦
          ap (λ b. list_any (λ v. v.number == m) (cond (not b) (v ∷ others n vars) (others n vars)))
          (ne_eqb v.number n off)
          ∙ ap (λ b. (v.number == m) || b) (others_stand m n vars ne)
    ]
