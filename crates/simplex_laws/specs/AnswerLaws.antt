-- Why the answers are what they are called: an optimal point costs least, an infeasible form has no
-- feasible point, and along an unbounded form's ray every point is feasible and costs less.
use Rattle.std.specs.Prelude.{◌≡◌, ℕ}
use Rattle.std.proofs.Common.{sym, ◌∙◌, ap, subst}
use Rattle.ratio_core.specs.Rational.{Rational, zero_ℚ, ◌*ℚ◌, ◌+ℚ◌, ◌≤ℚ◌}
use Rattle.rational_laws.specs.Field.{*ℚ-+ℚ, *ℚ-zero, *ℚ_assoc, *ℚ_comm, +ℚ-zero}
use Rattle.rational_laws.specs.Order.{nonneg_add, nonneg_mul, nonpos_mul, not_‹ℚ_from_≤ℚ, ≤ℚ-*ℚ}
use Rattle.simplex_form.specs.BoundedSums.{sum_to}
use Rattle.simplex_form.specs.Form.{Form, IsFormFeasible, IsFormInfeasible, IsFormOptimal, IsFormUnbounded, cost_at, left_side, weighted}
use Rattle.simplex_laws.specs.BoundedSumLaws.{sum_to-*ℚ, sum_to-+ℚ, sum_to-≤ℚ, sum_to_nonpos, sum_to_same}
use Rattle.simplex_laws.specs.PivotLaws.{products_regrouped}

-- the multipliers make of the right sides what they make of each column, times the feasible point
pub weighted_by_point : (F : Form) (y z : ℕ → Rational) → IsFormFeasible F z
    → weighted F y F.right ≡ sum_to F.reals (λ j. weighted F y (λ i. F.matrix i j) *ℚ z j)
weighted_by_point F y z h =
    sum_to_same F.rows (λ i. y i *ℚ F.right i) (λ i. y i *ℚ left_side F z i)
    (λ i b. ap (λ x. y i *ℚ x) (sym (h.meets i b)))
    ∙ products_regrouped F.rows F.reals y F.matrix z

-- no feasible point costs less than an optimal one
pub optimal-least : (F : Form) (x y z : ℕ → Rational) → IsFormOptimal F x y → IsFormFeasible F z
    → cost_at F x ≤ℚ cost_at F z
optimal-least F x y z best h =
    subst (λ c. c ≤ℚ cost_at F z) (sym (weighted_by_point F y z h) ∙ best.equal)
    (sum_to-≤ℚ F.reals (λ j. weighted F y (λ i. F.matrix i j) *ℚ z j) (λ j. F.costs j *ℚ z j)
    (λ j b. ≤ℚ-*ℚ (weighted F y (λ i. F.matrix i j)) (F.costs j) (z j) (best.reduced j b)
    (h.nonneg j b)))

-- an infeasible form has no feasible point
pub infeasible-none : (F : Form) (y z : ℕ → Rational) → IsFormInfeasible F y
    → ¬ (IsFormFeasible F z)
infeasible-none F y z farkas h =
    not_‹ℚ_from_≤ℚ (weighted F y F.right) zero_ℚ
    (subst (λ c. c ≤ℚ zero_ℚ) (sym (weighted_by_point F y z h))
    (sum_to_nonpos F.reals (λ j. weighted F y (λ i. F.matrix i j) *ℚ z j)
    (λ j b. nonpos_times (weighted F y (λ i. F.matrix i j)) (z j) (farkas.nonpos j b)
    (h.nonneg j b))))
    farkas.above
  where
    nonpos_times : (p q : Rational) → p ≤ℚ zero_ℚ → zero_ℚ ≤ℚ q → (p *ℚ q) ≤ℚ zero_ℚ
    nonpos_times p q h k = subst (λ c. c ≤ℚ zero_ℚ) (*ℚ_comm q p) (nonpos_mul q p k h)

-- a point further along a ray
abbrev pub further : (ℕ → Rational) → Rational → (ℕ → Rational) → ℕ → Rational
further x t d j = x j +ℚ t *ℚ d j

further_sum : (n : ℕ) (f x d : ℕ → Rational) (t : Rational)
    → sum_to n (λ j. f j *ℚ further x t d j)
    ≡ sum_to n (λ j. f j *ℚ x j) +ℚ t *ℚ sum_to n (λ j. f j *ℚ d j)
further_sum n f x d t =
    sum_to_same n (λ j. f j *ℚ further x t d j) (λ j. f j *ℚ x j +ℚ t *ℚ (f j *ℚ d j))
    (λ j _. *ℚ-+ℚ (f j) (x j) (t *ℚ d j) ∙ ap (λ c. f j *ℚ x j +ℚ c) (inner (f j) t (d j)))
    ∙ sum_to-+ℚ n (λ j. f j *ℚ x j) (λ j. t *ℚ (f j *ℚ d j))
    ∙ ap (λ c. sum_to n (λ j. f j *ℚ x j) +ℚ c) (sum_to-*ℚ n t (λ j. f j *ℚ d j))
  where
    inner : (f t d : Rational) → f *ℚ (t *ℚ d) ≡ t *ℚ (f *ℚ d)
    inner f t d = sym (*ℚ_assoc f t d) ∙ ap (λ c. c *ℚ d) (*ℚ_comm f t) ∙ *ℚ_assoc t f d

-- each point along the ray is feasible
pub unbounded-feasible : (F : Form) (x d : ℕ → Rational) (t : Rational) → IsFormUnbounded F x d
    → zero_ℚ ≤ℚ t → IsFormFeasible F (further x t d)
unbounded-feasible F x d t u h = record {
  nonneg = λ j b. nonneg_add (x j) (t *ℚ d j) (u.feasible.nonneg j b)
      (nonneg_mul t (d j) h (u.nonneg j b));
  meets = λ i b. further_sum F.reals (F.matrix i) x d t
      ∙ ap (λ c. left_side F x i +ℚ t *ℚ c) (u.stays i b)
      ∙ ap (λ c. left_side F x i +ℚ c) (*ℚ-zero t) ∙ +ℚ-zero (left_side F x i)
      ∙ u.feasible.meets i b;
}

-- and costs what the ray's start costs and t times what the ray does, which is below 0
pub unbounded-cost : (F : Form) (x d : ℕ → Rational) (t : Rational)
    → cost_at F (further x t d) ≡ cost_at F x +ℚ t *ℚ cost_at F d
unbounded-cost F x d t = further_sum F.reals F.costs x d t
