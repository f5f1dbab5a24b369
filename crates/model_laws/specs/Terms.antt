-- How many terms a function has after a change.
use Rattle.std.specs.Prelude.{◌≡◌, ℕ, zero, suc, ◌-◌, ◌≤◌, Bool, true, false, cond, List, [], ◌∷◌, map, sum, length, refl}
use Rattle.std.specs.FinMap as finite
use Rattle.std.proofs.Common.{arith, sym, ap, subst, ◌∙◌}
use Rattle.std.proofs.lemmas.List.Sums.{sum_by-cons}
use Rattle.ratio_core.specs.Rational.{Rational, zero_ℚ}
use Rattle.ratio_core.specs.RationalLaws.{eq_rational_eq}
use Rattle.aff_core.specs.Address.{Address, address_total}
use Rattle.aff_core.specs.Function.{Function}
use Rattle.aff_core.specs.FunctionLaws.{terms-with_coefficient}
use Rattle.aff_core.specs.KeyOrder.{address_order}
use Rattle.user_model.specs.declared.function.UserFunc.{UserFunc}
use Rattle.user_model.specs.declared.function.UserFunc.TheVariants.{Plain, Affine, PlainVec, AffineVec}
use Rattle.user_model.specs.declared.objective.Objective.{Objective}
use Rattle.user_model.specs.declared.objective.Objective.TheVariants as objective
use Rattle.user_model.specs.Functions.{all_terms, term_count}
use Rattle.user_model.specs.Model.{objective_terms}
use Rattle.user_model.specs.Edited.{changed_at, on_affine, on_output, on_objective, with_constant}
use Rattle.user_model.specs.Deletion.{without_term}

one_less : (b : Bool) (n : ℕ) → cond b (n - 1) n ≤ n
one_less true n = omega arith
one_less false n = omega arith

-- the terms that are left without one address
pub terms_left : (at : Address) (f : Function)
    → (without_term at f).terms ≡ finite.remove f.terms at
terms_left at f =
    terms-with_coefficient address_order f at zero_ℚ
    ∙ ap (λ b. cond b (finite.remove f.terms at) (finite.insert f.terms at zero_ℚ))
    (eq_rational_eq zero_ℚ zero_ℚ refl)

-- they are no more
pub terms_without : (at : Address) (f : Function) → term_count (without_term at f) ≤ term_count f
terms_without at f =
    subst (λ m. length (finite.entries m) ≤ term_count f) (sym (terms_left at f)) less
  where
    less : length (finite.entries (finite.remove f.terms at)) ≤ length (finite.entries f.terms)
    less =
        subst (λ n. n ≤ length (finite.entries f.terms))
        (finite.len-entries (finite.remove f.terms at))
        (subst (λ n. finite.len (finite.remove f.terms at) ≤ n) (finite.len-entries f.terms)
        (subst (λ n. n ≤ finite.len f.terms) (sym (finite.len-remove address_total f.terms at))
        (one_less (finite.contains_key f.terms at) (finite.len f.terms))))

-- a change of a function that adds no term adds none where the function stands
pub record AddsNone (h : Function → Function) : Type 0 where
  pub adds : (f : Function) → term_count (h f) ≤ term_count f

pub constant_adds_none : (value : Rational) → AddsNone (λ f. with_constant f value)
constant_adds_none value = record { adds = λ f. omega arith }

pub without_adds_none : (at : Address) → AddsNone (without_term at)
without_adds_none at = record { adds = terms_without at }

module _ (h : Function → Function) (less : AddsNone h) where
  pub map_terms : (fs : List Function) → sum (map term_count (map h fs)) ≤ sum (map term_count fs)
  map_terms [] = omega arith
  map_terms (f ∷ fs) =
      omega (
        arith,
        map_terms fs,
        less.adds f,
        sum_by-cons (λ x. x) (term_count (h f))
            (map term_count (map h fs)),
        sum_by-cons (λ x. x) (term_count f) (map term_count fs),
      )

  pub changed_terms : (i : ℕ) (fs : List Function)
      → sum (map term_count (changed_at i h fs)) ≤ sum (map term_count fs)
  changed_terms i [] = omega arith
  changed_terms zero (f ∷ fs) = omega (
    arith,
    less.adds f,
    sum_by-cons (λ x. x) (term_count (h f))
        (map term_count fs),
    sum_by-cons (λ x. x) (term_count f) (map term_count fs),
  )
  changed_terms (suc i) (f ∷ fs) =
      omega (
        arith,
        changed_terms i fs,
        sum_by-cons (λ x. x) (term_count f)
            (map term_count (changed_at i h fs)),
        sum_by-cons (λ x. x) (term_count f)
            (map term_count fs),
      )

  pub affine_terms : (func : UserFunc) → all_terms (on_affine h func) ≤ all_terms func
  affine_terms (Plain var) = omega arith
  affine_terms (Affine f) = omega (
    arith,
    less.adds f,
    sum_by-cons (λ x. x) (term_count (h f)) [],
    sum_by-cons (λ x. x) (term_count f) [],
  )
  affine_terms (PlainVec vars) = omega arith
  affine_terms (AffineVec fs) = omega arith

  pub output_terms : (output : ℕ) (func : UserFunc)
      → all_terms (on_output output h func) ≤ all_terms func
  output_terms output (AffineVec fs) = changed_terms (output - 1) fs
  output_terms output _ = omega arith

  pub objective_change_terms : (o : Objective)
      → objective_terms (on_objective h o) ≤ objective_terms o
  objective_change_terms objective.Feasibility = omega arith
  objective_change_terms (objective.Plain sense var) = omega arith
  objective_change_terms (objective.Affine sense f) = less.adds f
