-- A row, a group and an objective without a variable differ from what they were exactly where they
-- mention it.
use Rattle.std.specs.Prelude.{◌≡◌, ◌≢◌, ℕ, ◌==◌, Bool, true, false, ◌||◌, not, cond, List, [], ◌∷◌, Some, None, IfSome, filter, is_some, map, unwrap_or, refl}
use Rattle.std.specs.List.{list_any}
use Rattle.std.specs.FinMap as finite
use Rattle.std.proofs.Common.{sym, ap, ap₂, subst, inl, inr, ◌∙◌}
use Rattle.std.proofs.lemmas.Bool.{both_ways, cases_Bool, not-true, or_parts}
use Rattle.std.proofs.lemmas.List.Elements.{filter_passes, All-weaker}
use Rattle.std.proofs.lemmas.List.Folds.{list_any_none}
use Rattle.map_laws.specs.OptionLaws.{none_of}
use Rattle.ratio_core.specs.Rational.{zero_ℚ}
use Rattle.aff_core.specs.Address.{Address, address_eq, address_eq-Decides, address_total}
use Rattle.aff_core.specs.Function.{Function}
use Rattle.aff_core.specs.FunctionLaws.{same_coefficient}
use Rattle.aff_core.specs.KeyOrder.{address_order}
use Rattle.set_core.specs.declared.set.Set.{Set}
use Rattle.user_model.specs.declared.function.UserFunc.{UserFunc}
use Rattle.user_model.specs.declared.function.UserFunc.TheVariants.{Plain, Affine, PlainVec, AffineVec}
use Rattle.user_model.specs.declared.group.Group.{Group}
use Rattle.user_model.specs.declared.group.GroupVar.{GroupVar}
use Rattle.user_model.specs.declared.objective.Objective.{Objective}
use Rattle.user_model.specs.declared.objective.Objective.TheVariants as objective
use Rattle.user_model.specs.declared.row.Row.{Row}
use Rattle.user_model.specs.Functions.{func_mentions, has_term}
use Rattle.user_model.specs.Model.{has_variable, objective_mentions, row_mentions}
use Rattle.user_model.specs.Deletion.{group_without, objective_without, row_without, unless_empty, without_address, without_term}
use Rattle.model_laws.specs.RowWithout.{row_of}
use Rattle.model_laws.specs.GroupWithout.{others}
use Rattle.model_laws.specs.Terms.{terms_left}

-- ---- a function without a term

pub without_unmentioned : (at : Address) (f : Function) → has_term at f ≡ false
    → without_term at f ≡ f
without_unmentioned at f e = same_coefficient address_order f at zero_ℚ
    (ap (λ o. unwrap_or o zero_ℚ) (none_of (finite.get f.terms at) e))

pub without_mentions_none : (at : Address) (f : Function) → has_term at (without_term at f) ≡ false
without_mentions_none at f =
    ap (λ m. is_some (finite.get m at)) (terms_left at f)
    ∙ (ap is_some (finite.get-remove address_total f.terms at at)
    ∙ ap (λ b. is_some (cond b None (finite.get f.terms at))) ((address_eq-Decides at at).1 refl))

all_unmentioned : (at : Address) (fs : List Function) → list_any (has_term at) fs ≡ false
    → map (without_term at) fs ≡ fs
all_unmentioned at [] e = refl
all_unmentioned at (f ∷ fs) e =
    let parts = or_parts (has_term at f) (list_any (has_term at) fs) e in
    ap₂ (λ g gs. g ∷ gs) (without_unmentioned at f parts.0) (all_unmentioned at fs parts.1)

all_mention_none : (at : Address) (fs : List Function)
    → list_any (has_term at) (map (without_term at) fs) ≡ false
all_mention_none at [] = refl
all_mention_none at (f ∷ fs) =
    ap₂ (λ a b. a || b) (without_mentions_none at f) (all_mention_none at fs)

-- ---- the items that fail a test

pub failing_none : {X : Type 0} (p : X → Bool) (xs : List X)
    → list_any p (filter (λ x. not (p x)) xs) ≡ false
failing_none p xs = list_any_none p (filter (λ x. not (p x)) xs)
    (All-weaker (λ x. not (p x) ≡ true) (λ x. p x ≡ false) (λ x e. not-true (p x) e)
    (filter (λ x. not (p x)) xs) (filter_passes (λ x. not (p x)) xs))

-- ---- rows

stays : (at : Address) (id : ℕ) (name : List ℕ) (func : UserFunc) (set : Set)
    → func_mentions at func ≡ false
    → row_without at (row_of id name func set) ≡ Some (row_of id name func set)
stays at id name (Plain var) set e = ap (λ b. cond b None (Some (row_of id name (Plain var) set))) e
stays at id name (Affine f) set e =
    ap (λ g. Some (row_of id name (Affine g) set)) (without_unmentioned at f e)
stays at id name (PlainVec vars) set e =
    ap (λ b. cond b (unless_empty (λ left s. row_of id name (PlainVec left) s) set
    (without_address at vars)) (Some (row_of id name (PlainVec vars) set))) e
stays at id name (AffineVec fs) set e =
    ap (λ gs. Some (row_of id name (AffineVec gs) set)) (all_unmentioned at fs e)

-- a row that doesn't mention the variable stays
pub row_unmentioned : (at : Address) (row : Row) → row_mentions at row ≡ false
    → row_without at row ≡ Some row
row_unmentioned at row e = stays at row.id row.name row.func row.set e

mentions_none : (at : Address) (id : ℕ) (name : List ℕ) (func : UserFunc) (set : Set)
    → IfSome (row_without at (row_of id name func set)) (λ left. row_mentions at left ≡ false)
mentions_none at id name (Plain var) set =
    elim (cases_Bool (address_eq at var)) [
      | inl same ↦ subst (λ b. IfSome (cond b None (Some (row_of id name (Plain var) set)))
          (λ left. row_mentions at left ≡ false)) (sym same) tt
      | inr other ↦ subst (λ b. IfSome (cond b None (Some (row_of id name (Plain var) set)))
          (λ left. row_mentions at left ≡ false)) (sym other) other
    ]
mentions_none at id name (Affine f) set = without_mentions_none at f
mentions_none at id name (PlainVec vars) set =
    elim (cases_Bool (list_any (address_eq at) vars)) [
      | inl has ↦ subst (λ b. IfSome (cond b (unless_empty
          (λ left s. row_of id name (PlainVec left) s) set (without_address at vars))
          (Some (row_of id name (PlainVec vars) set))) (λ left. row_mentions at left ≡ false))
          (sym has) (shrunk (without_address at vars) (failing_none (address_eq at) vars))
      | inr lacks ↦ subst (λ b. IfSome (cond b (unless_empty
          (λ left s. row_of id name (PlainVec left) s) set (without_address at vars))
          (Some (row_of id name (PlainVec vars) set))) (λ left. row_mentions at left ≡ false))
          (sym lacks) lacks
    ]
  where
    shrunk : (left : List Address) → list_any (address_eq at) left ≡ false
        → IfSome (unless_empty (λ left s. row_of id name (PlainVec left) s) set left)
        (λ left. row_mentions at left ≡ false)
    shrunk [] e = tt
    shrunk (x ∷ xs) e = e
mentions_none at id name (AffineVec fs) set = all_mention_none at fs

-- what is left of a row doesn't mention the variable
pub row_left_mentions_none : (at : Address) (row : Row)
    → IfSome (row_without at row) (λ left. row_mentions at left ≡ false)
row_left_mentions_none at row = mentions_none at row.id row.name row.func row.set

-- a row that mentions the variable changes
pub row_changes_where_mentioned : (at : Address) (row : Row) → row_mentions at row ≡ true
    → row_without at row ≢ Some row
row_changes_where_mentioned at row e same =
    both_ways (row_mentions at row) (subst (λ o. IfSome o (λ left. row_mentions at left ≡ false))
    same (row_left_mentions_none at row)) e

-- ---- groups

pub group_left_has_none : (n : ℕ) (group : Group)
    → IfSome (group_without n group) (λ left. has_variable n left ≡ false)
group_left_has_none n group =
    elim (cases_Bool (has_variable n group)) [
      | inl has ↦ subst (λ b. IfSome (cond b (unless_empty
          (λ left set. record group { vars = left; set = set }) group.set (others n group.vars))
          (Some group)) (λ left. has_variable n left ≡ false)) (sym has)
          (shrunk (others n group.vars) (failing_none (λ v. v.number == n) group.vars))
      | inr lacks ↦ subst (λ b. IfSome (cond b (unless_empty
          (λ left set. record group { vars = left; set = set }) group.set (others n group.vars))
          (Some group)) (λ left. has_variable n left ≡ false)) (sym lacks) lacks
    ]
  where
    shrunk : (left : List GroupVar) → list_any (λ v. v.number == n) left ≡ false
        → IfSome (unless_empty (λ left set. record group { vars = left; set = set }) group.set left)
        (λ left. has_variable n left ≡ false)
    shrunk [] e = tt
    shrunk (x ∷ xs) e = e

-- a group that has the variable changes
pub group_changes_where_mentioned : (n : ℕ) (group : Group) → has_variable n group ≡ true
    → group_without n group ≢ Some group
group_changes_where_mentioned n group e same =
    both_ways (has_variable n group) (subst (λ o. IfSome o (λ left. has_variable n left ≡ false))
    same (group_left_has_none n group)) e

-- ---- objectives

pub objective_unmentioned : (at : Address) (o : Objective) → objective_mentions at o ≡ false
    → objective_without at o ≡ o
objective_unmentioned at objective.Feasibility e = refl
objective_unmentioned at (objective.Plain sense var) e =
    ap (λ b. cond b objective.Feasibility (objective.Plain sense var)) e
objective_unmentioned at (objective.Affine sense f) e =
    ap (objective.Affine sense) (without_unmentioned at f e)

pub objective_left_mentions_none : (at : Address) (o : Objective)
    → objective_mentions at (objective_without at o) ≡ false
objective_left_mentions_none at objective.Feasibility = refl
objective_left_mentions_none at (objective.Plain sense var) =
    elim (cases_Bool (address_eq at var)) [
      | inl same ↦ ap (λ b. objective_mentions at (cond b objective.Feasibility
          (objective.Plain sense var))) same
      | inr other ↦ ap (λ b. objective_mentions at (cond b objective.Feasibility
          (objective.Plain sense var))) other ∙ other
    ]
objective_left_mentions_none at (objective.Affine sense f) = without_mentions_none at f

-- an objective that mentions the variable changes
pub objective_changes_where_mentioned : (at : Address) (o : Objective)
    → objective_mentions at o ≡ true → objective_without at o ≢ o
objective_changes_where_mentioned at o e same = both_ways (objective_mentions at o)
    (ap (objective_mentions at) (sym same) ∙ objective_left_mentions_none at o) e
