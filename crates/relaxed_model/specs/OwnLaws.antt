-- The rows and groups of a valid model are of variables whose numbers are below the next one, so no
-- slack is among them.
use Rattle.std.specs.Prelude.{◌≡◌, ℕ, ◌<◌, ◌==◌, true, ◌||◌, List, [], ◌∷◌, Option, Some, None, All, is_some, unwrap_or, refl}
use Rattle.std.specs.FinMap as finite
use Rattle.std.specs.List.{list_any}
use Rattle.std.proofs.Common.{ap, arith, inl, inr, subst, sym, true≢false, ◌∙◌}
use Rattle.std.proofs.lemmas.Bool.{cases_Bool, or_left, or_right}
use Rattle.std.proofs.lemmas.Bool.Decides.{nat_tests}
use Rattle.std.proofs.lemmas.List.Elements.{All-cons, All-head, All-nil, All-tail, All-weaker}
use Rattle.map_laws.specs.EachLaws.{all_first, all_second}
use Rattle.ratio_core.specs.Rational.{Rational, zero_ℚ}
use Rattle.aff_core.specs.Address.{Address, address_cmp, address_eq}
use Rattle.aff_core.specs.Function.{Function, coefficient, variable}
use Rattle.aff_core.specs.FunctionLaws.{coefficient-variable_other}
use Rattle.aff_core.specs.KeyOrder.{address_order, same_key, same_or_other}
use Rattle.user_model.specs.declared.function.UserFunc.{UserFunc}
use Rattle.user_model.specs.declared.function.UserFunc.TheVariants.{Plain, Affine, PlainVec, AffineVec}
use Rattle.user_model.specs.declared.group.Group.{Group}
use Rattle.user_model.specs.declared.group.GroupVar.{GroupVar}
use Rattle.user_model.specs.declared.row.Row.{Row}
use Rattle.user_model.specs.Functions.{func_mentions, has_term, is_scalar_affine, is_scalar_function}
use Rattle.user_model.specs.Model.{ModelValue}
use Rattle.user_model.specs.Valid.{IsValid, IsValidRow, Stands}
use Rattle.certificates.specs.Points.{address_of, addresses_of, functions_of, functions_of_group, variables_at, variables_of}
use Rattle.model_laws.specs.Variables.{group_found}
use Rattle.relaxed_model.specs.FunctionLaws.{HasVariablesBelow}
use Rattle.relaxed_model.specs.RowLaws.{IsOwnRow}

-- ---- variables that stand

abbrev pub IsNumberedBelow : ℕ → GroupVar → Type 0
IsNumberedBelow n v = v.number < n

at_number : (k m n : ℕ) → k < n → (k == m) ≡ true → m < n
at_number k m n h e = grind (arith, nat_tests)

number_there : (m n : ℕ) (vars : List GroupVar) → All (IsNumberedBelow n) vars
    → list_any (λ (v : GroupVar). v.number == m) vars ≡ true → m < n
number_there m n [] below e = absurd (true≢false (sym e))
number_there m n (v ∷ vars) below e =
    elim (cases_Bool (v.number == m)) [
      | inl same ↦ at_number v.number m n (All-head (IsNumberedBelow n) v vars below) same
      | inr other ↦
          number_there m n vars (All-tail (IsNumberedBelow n) v vars below)
          (sym (ap (λ b. b || list_any (λ (v : GroupVar). v.number == m) vars) other) ∙ e)
    ]

pub stands_below : (n : ℕ) (groups : List Group) → All (IsNumberedBelow n) (variables_of groups)
    → (at : Address) → Stands groups at → at.number < n
stands_below n groups below at stands =
    subst (λ (a : Address). a.number < n) (sym stands.address)
    (number_there stands.number n (variables_of groups) below
    (sym (group_found stands.number groups) ∙ stands.group))

-- ---- functions of variables that stand

term_there : (f : Function) (v : Address) → ¬ (coefficient f v ≡ zero_ℚ) → has_term v f ≡ true
term_there f v some = by (finite.get f.terms v) some
  where
    by : (o : Option Rational) → ¬ (unwrap_or o zero_ℚ ≡ zero_ℚ) → is_some o ≡ true
    by None some = absurd (some refl)
    by (Some q) some = refl

pub variable_below : (n : ℕ) (u : Address) → u.number < n → HasVariablesBelow n (variable {R = address_cmp} u)
variable_below n u h v some =
    same_or_other address_order (v.number < n) v u
    (λ e. subst (λ (a : Address). a.number < n) (sym e) h)
    (λ other. absurd (some (coefficient-variable_other address_order u v other)))

variables_below : (n : ℕ) (vars : List Address)
    → ((at : Address) → list_any (address_eq at) vars ≡ true → at.number < n)
    → All {X = Function} (HasVariablesBelow n) (variables_at vars)
variables_below n [] h = All-nil (HasVariablesBelow n)
variables_below n (u ∷ us) h =
    All-cons (HasVariablesBelow n) (variable u) (variables_at us)
    (variable_below n u (h u (or_left (address_eq u u) (list_any (address_eq u) us)
    (same_key address_order u))))
    (variables_below n us
    (λ at e. h at (or_right (address_eq at u) (list_any (address_eq at) us) e)))

functions_below : (n : ℕ) (fs : List Function)
    → ((at : Address) → list_any (has_term at) fs ≡ true → at.number < n)
    → All {X = Function} (HasVariablesBelow n) fs
functions_below n [] h = All-nil (HasVariablesBelow n)
functions_below n (f ∷ fs) h =
    All-cons (HasVariablesBelow n) f fs
    (λ v some. h v (or_left (has_term v f) (list_any (has_term v) fs) (term_there f v some)))
    (functions_below n fs
    (λ at e. h at (or_right (has_term at f) (list_any (has_term at) fs) e)))

mentioned_below : (n : ℕ) (func : UserFunc)
    → ((at : Address) → func_mentions at func ≡ true → at.number < n)
    → All {X = Function} (HasVariablesBelow n) (functions_of func)
mentioned_below n (Plain var) h =
    All-cons (HasVariablesBelow n) (variable var) []
    (variable_below n var (h var (same_key address_order var))) (All-nil (HasVariablesBelow n))
mentioned_below n (Affine f) h =
    All-cons (HasVariablesBelow n) f [] (λ v some. h v (term_there f v some)) (All-nil (HasVariablesBelow n))
mentioned_below n (PlainVec vars) h = variables_below n vars h
mentioned_below n (AffineVec fs) h = functions_below n fs h

scalar_function : (func : UserFunc) → is_scalar_affine func ≡ true
    → is_scalar_function func ≡ true
scalar_function (Plain var) e = refl
scalar_function (Affine f) e = refl
scalar_function (PlainVec vars) e = e
scalar_function (AffineVec fs) e = e

own_row : (n : ℕ) (groups : List Group) → All (IsNumberedBelow n) (variables_of groups) → (r : Row)
    → IsValidRow groups r → IsOwnRow n r
own_row n groups below r valid = record {
  below = mentioned_below n r.func
      (λ at e. stands_below n groups below at (valid.stand at e));
  uncrossed = valid.set.uncrossed;
  scalar = λ soft. valid.shape ∙ scalar_function r.func soft;
}

pub own_rows : (model : ModelValue) → IsValid model
    → All (IsOwnRow model.next.variable) model.rows
own_rows model valid =
    All-weaker (IsValidRow model.groups) (IsOwnRow model.next.variable)
    (own_row model.next.variable model.groups valid.consistent.given_variables) model.rows
    valid.parts.valid_rows

-- ---- groups

members_below : (n : ℕ) (vars : List GroupVar) → All (IsNumberedBelow n) vars
    → All {X = Function} (HasVariablesBelow n) (variables_at (addresses_of vars))
members_below n [] below = All-nil (HasVariablesBelow n)
members_below n (v ∷ vars) below =
    All-cons (HasVariablesBelow n) (variable (address_of v)) (variables_at (addresses_of vars))
    (variable_below n (address_of v) (All-head (IsNumberedBelow n) v vars below))
    (members_below n vars (All-tail (IsNumberedBelow n) v vars below))

-- a group whose variables are numbered below n
abbrev pub IsOwnGroup : ℕ → Group → Type 0
IsOwnGroup n g = All {X = Function} (HasVariablesBelow n) (functions_of_group g)

pub own_groups : (n : ℕ) (groups : List Group) → All (IsNumberedBelow n) (variables_of groups)
    → All (IsOwnGroup n) groups
own_groups n [] below = All-nil (IsOwnGroup n)
own_groups n (g ∷ groups) below =
    All-cons (IsOwnGroup n) g groups
    (members_below n g.vars (all_first (IsNumberedBelow n) g.vars (variables_of groups) below))
    (own_groups n groups (all_second (IsNumberedBelow n) g.vars (variables_of groups) below))
