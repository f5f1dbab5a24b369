-- What holds of lists holds of a model's own, where they are equal.
use Rattle.std.specs.Prelude.{◌≡◌, List, All, map}
use Rattle.std.proofs.Common.{subst, subst₂, ◌∙◌}
use Rattle.ratio_core.specs.Rational.{Rational, one_ℚ, zero_ℚ}
use Rattle.aff_core.specs.Address.{Address}
use Rattle.aff_core.specs.Function.{Function, evaluated}
use Rattle.bridge_face.specs.BridgeState.{BridgeState}
use Rattle.cert_core.specs.Folds.{EvaluationFits, ObjectiveValueFits}
use Rattle.certificates.specs.Points.{at_point, objective_function, objective_value}
use Rattle.linear_laws.specs.EvaluationLaws.{evaluated_slope, evaluated_value}
use Rattle.user_model.specs.Model.{ModelValue}
use Rattle.user_model.specs.declared.objective.Objective.{Objective}
use Rattle.user_model.specs.declared.row.Row.{Row}
use Rattle.adjoint_core.specs.CarriedBack.{point, ray, users}
use Rattle.adjoint_core.specs.Walk.{RowDualFits, row_dual}

-- what is carried comes first, so that a search for the equations knows their left sides
pub move2 : {A B : Type 0} (P : A → B → Type 0) {a c : A} {b d : B} → P a b → a ≡ c → b ≡ d → P c d
move2 P h e k = subst₂ P e k h

pub move3 : {A B C : Type 0} (P : A → B → C → Type 0) {a d : A} {b e : B} {c f : C} → P a b c
    → a ≡ d → b ≡ e → c ≡ f → P d e f
move3 P {a} {d} {b} {e} {c} {f} h k l m =
    subst (λ z. P d e z) m (subst (λ y. P d y c) l (subst (λ x. P x b c) k h))

pub move4 : {A B C D : Type 0} (P : A → B → C → D → Type 0) {a e : A} {b f : B} {c g : C} {d h : D}
    → P a b c d → a ≡ e → b ≡ f → c ≡ g → d ≡ h → P e f g h
move4 P {a} {e} {b} {f} {c} {g} {d} {h} p k l m n =
    subst (λ w. P e f g w) n
    (subst (λ z. P e f z d) m (subst (λ y. P e y c d) l (subst (λ x. P x b c d) k p)))

-- ---- what calls tell of a model's rows and variables

abbrev pub RowsTold : List BridgeState → (Address → List Rational) → List (List Rational) → List Row
    → Type 0
RowsTold states leaf duals rows =
    All (RowDualFits states leaf) rows × (duals ≡ map (row_dual states leaf) rows)

abbrev pub ValuesTold : (Address → Function) → List Rational → List Address
    → (Address → Rational) → Type 0
ValuesTold f values us p =
    All (λ v. EvaluationFits one_ℚ (f v) p) us × (values ≡ map (λ v. evaluated one_ℚ (f v) p) us)

-- ---- values

module _ (m : ModelValue) (f : Address → Function) (x : Address → Rational) where
  pub point_is : map (λ v. evaluated one_ℚ (f v) x) (users m) ≡ point m f x
  point_is = λ i. map (λ v. evaluated_value (f v) x i) (users m)

  pub ray_is : map (λ v. evaluated zero_ℚ (f v) x) (users m) ≡ ray m f x
  ray_is = λ i. map (λ v. evaluated_slope (f v) x i) (users m)

-- ---- the objective's value

pub objective_read : (m : ModelValue) (x : List Rational) (q : Rational) (p : Address → Rational)
    (o : Objective) → p ≡ at_point m x → o ≡ m.objective
    → EvaluationFits one_ℚ (objective_function o) p
    × (q ≡ evaluated one_ℚ (objective_function o) p)
    → ObjectiveValueFits m one_ℚ x × (q ≡ objective_value m x)
objective_read m x q p o e k h =
    let here = subst₂ (λ (y : Address → Rational) (b : Objective).
    EvaluationFits one_ℚ (objective_function b) y
    × (q ≡ evaluated one_ℚ (objective_function b) y)) e k h in
    (here.0, here.1 ∙ evaluated_value (objective_function m.objective) (at_point m x))
