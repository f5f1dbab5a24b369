-- Functions read at a point and along a ray: of variables, and from another start.
use Rattle.std.specs.Prelude.{◌≡◌, List, [], ◌∷◌, ◌↔◌, map, All, Bool, IsTrue, Result, refl}
use Rattle.std.proofs.Common.{sym, ◌∙◌, ap, subst}
use Rattle.ratio_core.specs.Rational.{Rational, one_ℚ, zero_ℚ, ◌*ℚ◌, ◌+ℚ◌}
use Rattle.rational_laws.specs.Field.{*ℚ-zero}
use Rattle.ratio_core.specs.Folds.{sum_from}
use Rattle.ratio_core.specs.declared.fault.NumberFault.{NumberFault}
use Rattle.ratio_core.specs.Answers.{ExactWhere}
use Rattle.ratio_core.specs.AnsweredLaws.{exact_as}
use Rattle.rational_laws.specs.Sums.{fold_ℚ, sum_ℚ}
use Rattle.aff_core.specs.Address.{Address, address_cmp}
use Rattle.aff_core.specs.Function.{Function, coefficient, constant_function, evaluated, terms_of, variable}
use Rattle.aff_core.specs.FunctionLaws.{constant-constant_function, constant-variable, terms-constant_function, terms-variable}
use Rattle.aff_core.specs.FunctionLists.{evaluations}
use Rattle.aff_core.specs.Points.{unit}
use Rattle.aff_core.specs.Terms.{linear}
use Rattle.linear_laws.specs.ListLaws.{evaluated_constant_function, evaluations_variables, slope_constant_function}
use Rattle.linear_laws.specs.SlopeLaws.{coefficient_by_unit}
use Rattle.set_core.specs.declared.set.Set.{Set}
use Rattle.set_core.specs.Membership.{In, MembershipFits}
use Rattle.set_core.specs.Mirrored.{multiplied}
use Rattle.certificates.specs.Points.{variables_at}
use Rattle.cert_core.specs.Answers.{TellsWhereFits}
use Rattle.cert_core.specs.Folds.{AddUp, EvaluationFits, FitIn, products_at}
use Rattle.cert_core.specs.Holding.{FunctionsHold}

-- ---- variables

pub constant_of_variable : (v : Address) → (variable {R = address_cmp} v).constant ≡ zero_ℚ
constant_of_variable v = constant-variable address_cmp v

-- ---- constant functions

pub constant_of_constant : (k : Rational)
    → (constant_function {R = address_cmp} k).constant ≡ k
constant_of_constant k = constant-constant_function address_cmp k

pub ruleset constants_of = (constant_of_constant, constant_of_variable)

pub coefficient_of_constant : (k : Rational) (u : Address)
    → coefficient (constant_function {R = address_cmp} k) u ≡ zero_ℚ
coefficient_of_constant k u =
    sym (coefficient_by_unit (constant_function k) u) ∙ slope_constant_function k (unit u)

-- of an objective that isn't there nothing is read
pub nothing_read : (one : Rational) (x : Address → Rational)
    → EvaluationFits one (constant_function zero_ℚ) x
    × (zero_ℚ ≡ evaluated {R = address_cmp} one (constant_function zero_ℚ) x)
unfolding AddUp
nothing_read one x = (
  subst (λ ts. AddUp (one *ℚ (constant_function {R = address_cmp} zero_ℚ).constant)
      (products_at ts x)) (sym (terms-constant_function address_cmp zero_ℚ)) tt,
  sym (evaluated_constant_function one zero_ℚ x ∙ *ℚ-zero one),
)

-- ---- from a start

-- a number and products added to it
pub with_products : (start : Rational) (ts : List (Address × Rational)) (x : Address → Rational)
    → sum_from start (products_at ts x) ≡ start +ℚ linear ts x
unfolding linear
with_products start ts x = fold_ℚ start (products_at ts x) ∙ ap (λ s. start +ℚ s) (sums ts)
  where
    sums : (ts : List (Address × Rational)) → sum_ℚ (products_at ts x) ≡ linear ts x
    sums [] = refl
    sums (t ∷ ts) = ap (λ s. t.1 *ℚ x t.0 +ℚ s) (sums ts)

abbrev Read : Result Rational NumberFault → Rational → List (Address × Rational)
    → (Address → Rational) → Type 0
Read r start ts x = ExactWhere r (AddUp start (products_at ts x)) (λ q. q ≡ start +ℚ linear ts x)

-- a function's terms added to its constant, times `one`
pub read_from : (r : Result Rational NumberFault) (one start : Rational) (f : Function)
    (ts : List (Address × Rational)) (x : Address → Rational) → ts ≡ terms_of f
    → start ≡ one *ℚ f.constant → Read r start ts x
    → ExactWhere r (EvaluationFits one f x) (λ q. q ≡ evaluated one f x)
read_from r one start f ts x same e h =
    subst (λ s. Read r s (terms_of f) x) e (subst (λ l. Read r start l x) same h)

pub read_variable : (r : Result Rational NumberFault) (one start k : Rational) (v : Address)
    (x : Address → Rational) → start ≡ zero_ℚ → k ≡ one_ℚ → Read r start ((v, k) ∷ []) x
    → ExactWhere r (EvaluationFits one (variable v) x)
    (λ q. q ≡ evaluated {R = address_cmp} one (variable v) x)
read_variable r one start k v x zero_is one_is h =
    read_from r one start (variable v) ((v, k) ∷ []) x
    (ap (λ q. (v, q) ∷ []) one_is ∙ sym (terms-variable address_cmp v))
    (zero_is ∙ sym (ap (λ q. one *ℚ q) (constant-variable address_cmp v) ∙ *ℚ-zero one)) h

-- ---- in a set

pub told_in : (r : Result Bool NumberFault) (fits : Type 0) (s t : Set) (v : List Rational) → t ≡ s
    → TellsWhereFits r fits (In s v) → TellsWhereFits r fits (In t v)
told_in r fits s t v same = subst (λ s. TellsWhereFits r fits (In s v)) (sym same)

-- functions that were read, in their set
pub hold_in : (r : Result Bool NumberFault) (one : Rational) (set : Set) (fs : List Function)
    (x : Address → Rational) (v : List Rational) → All (λ f. EvaluationFits one f x) fs
    → v ≡ evaluations one fs x → TellsWhereFits r (MembershipFits set v) (In (multiplied one set) v)
    → TellsWhereFits r (FitIn one set fs x) (FunctionsHold one set fs x)
hold_in r one set fs x v fit is said =
    exact_as r (MembershipFits set (evaluations one fs x)) (FitIn one set fs x)
    (λ holds. IsTrue holds ↔ FunctionsHold one set fs x)
    (λ holds. IsTrue holds ↔ FunctionsHold one set fs x)
    (λ m. record { functions = fit; membership = m })
    (λ f. f.membership) (λ _ h. h)
    (subst (λ l. TellsWhereFits r (MembershipFits set l) (In (multiplied one set) l)) is said)

-- a group's variables, in its set
pub variables_in_set : (r : Result Bool NumberFault) (one : Rational) (set : Set)
    (us : List Address) (x : Address → Rational) (v : List Rational) → v ≡ map x us
    → TellsWhereFits r (MembershipFits set v) (In (multiplied one set) v)
    → TellsWhereFits r (MembershipFits set (evaluations one (variables_at us) x))
    (FunctionsHold one set (variables_at us) x)
variables_in_set r one set us x v is said =
    subst (λ l. TellsWhereFits r (MembershipFits set l) (In (multiplied one set) l))
    (is ∙ sym (evaluations_variables one us x)) said

pub variables_membership : (one : Rational) (set : Set) (us : List Address)
    (x : Address → Rational) (v : List Rational) → v ≡ map x us
    → MembershipFits set (evaluations one (variables_at us) x) → MembershipFits set v
variables_membership one set us x v is fits =
    subst (MembershipFits set) (sym (is ∙ sym (evaluations_variables one us x))) fits
