-- Whether what is folded in a sum, a substitution or an image fits, as tests.
use Rattle.std.specs.Prelude.{Bool, true, ◌&&◌, List, [], ◌∷◌, All, Option, Some, None, refl}
use Rattle.std.specs.Bool.{Decides}
use Rattle.std.specs.FinMap as finite
use Rattle.std.specs.FinMap.{FinMap}
use Rattle.std.specs.List.{list_all}
use Rattle.std.proofs.lemmas.Bool.Decides.{Decides-and, Decides-by_and, Decides-like}
use Rattle.std.specs.declared.cmp.Ordering.{Ordering}
use Rattle.ratio_core.specs.Rational.{Rational, Fits, fits, sum_fits, ◌+ℚ◌, ◌*ℚ◌}
use Rattle.ratio_core.specs.RationalLaws.{fits_Decides, sum_fits_Decides}
use Rattle.aff_core.specs.Arithmetic.{MeetsFit, PlusFits, SubstitutionFits, TermsFit, added_at, substituted}
use Rattle.aff_core.specs.Function.{FunctionOver, terms_of}
use Rattle.aff_core.specs.Terms.{StepFits, TimesFit, ValueFits}

-- ---- terms

abbrev pub meets_fit : Option Rational → Rational → Bool
meets_fit None q = true
meets_fit (Some p) q = sum_fits p q

abbrev pub step_fits : Rational → Rational → Rational → Bool
step_fits sum a b = fits (a *ℚ b) && sum_fits sum (a *ℚ b)

unfoldable pub value_fits : {K : Type 0} → Rational → List (K × Rational) → (K → Rational) → Bool
value_fits sum [] x = true
value_fits sum (t ∷ ts) x = step_fits sum t.1 (x t.0) && value_fits (sum +ℚ (t.1 *ℚ x t.0)) ts x

abbrev pub times_fit : {K : Type 0} → Rational → List (K × Rational) → Bool
times_fit c ts = list_all (λ t. fits (c *ℚ t.1)) ts

module _ {K : Type 0} {R : K → K → Ordering} where
  unfoldable pub terms_fit : FinMap R Rational → List (K × Rational) → Bool
  terms_fit m [] = true
  terms_fit m (t ∷ ts) = meets_fit (finite.get m t.0) t.1 && terms_fit (added_at m t.0 t.1) ts

  -- ---- functions

  abbrev pub plus_fits : FunctionOver R → FunctionOver R → Bool
  plus_fits f g = sum_fits f.constant g.constant && terms_fit f.terms (terms_of g)

  abbrev pub substitution_fits : (K → FunctionOver R) → FunctionOver R → Bool
  substitution_fits e f =
      value_fits f.constant (terms_of f) (λ u. (e u).constant)
      && (list_all (λ t. times_fit t.1 (terms_of (e t.0))) (terms_of f)
      && terms_fit (finite.empty {R = R}) (substituted e (terms_of f)))

-- ---- each test decides what it tests

pub Decides-all : {X : Type 0} (p : X → Bool) (P : X → Type 0) → ((x : X) → Decides (p x) (P x))
    → (xs : List X) → Decides (list_all p xs) (All P xs)
Decides-all p P each xs = Decides-by_and p P (list_all p) each refl (λ _ _. refl) xs

pub meets_fit_Decides : (o : Option Rational) (q : Rational)
    → Decides (meets_fit o q) (MeetsFit o q)
meets_fit_Decides None q = (λ _. tt, λ _. refl)
meets_fit_Decides (Some p) q = sum_fits_Decides p q

step_fits_Decides : (sum a b : Rational) → Decides (step_fits sum a b) (StepFits sum a b)
step_fits_Decides sum a b =
    Decides-like (step_fits sum a b) (λ h. record { product = h.0; total = h.1 })
    (λ h. (h.product, h.total))
    (Decides-and (fits (a *ℚ b)) (sum_fits sum (a *ℚ b)) (fits_Decides (a *ℚ b))
    (sum_fits_Decides sum (a *ℚ b)))

pub value_fits_Decides : {K : Type 0} (sum : Rational) (ts : List (K × Rational)) (x : K → Rational)
    → Decides (value_fits sum ts x) (ValueFits sum ts x)
unfolding value_fits ValueFits
value_fits_Decides sum [] x = (λ _. tt, λ _. refl)
value_fits_Decides sum (t ∷ ts) x =
    Decides-and (step_fits sum t.1 (x t.0)) (value_fits (sum +ℚ (t.1 *ℚ x t.0)) ts x)
    (step_fits_Decides sum t.1 (x t.0)) (value_fits_Decides (sum +ℚ (t.1 *ℚ x t.0)) ts x)

pub times_fit_Decides : {K : Type 0} (c : Rational) (ts : List (K × Rational))
    → Decides (times_fit c ts) (TimesFit c ts)
times_fit_Decides c ts =
    Decides-all (λ t. fits (c *ℚ t.1)) (λ t. Fits (c *ℚ t.1)) (λ t. fits_Decides (c *ℚ t.1)) ts

module _ {K : Type 0} {R : K → K → Ordering} where
  pub terms_fit_Decides : (m : FinMap R Rational) (ts : List (K × Rational))
      → Decides (terms_fit m ts) (TermsFit m ts)
  unfolding terms_fit TermsFit
  terms_fit_Decides m [] = (λ _. tt, λ _. refl)
  terms_fit_Decides m (t ∷ ts) =
      Decides-and (meets_fit (finite.get m t.0) t.1) (terms_fit (added_at m t.0 t.1) ts)
      (meets_fit_Decides (finite.get m t.0) t.1) (terms_fit_Decides (added_at m t.0 t.1) ts)

  pub plus_fits_Decides : (f g : FunctionOver R) → Decides (plus_fits f g) (PlusFits f g)
  plus_fits_Decides f g =
      Decides-like (plus_fits f g) (λ h. record { constant = h.0; terms = h.1 })
      (λ h. (h.constant, h.terms))
      (Decides-and (sum_fits f.constant g.constant) (terms_fit f.terms (terms_of g))
      (sum_fits_Decides f.constant g.constant) (terms_fit_Decides f.terms (terms_of g)))

  pub substitution_fits_Decides : (e : K → FunctionOver R) (f : FunctionOver R)
      → Decides (substitution_fits e f) (SubstitutionFits e f)
  substitution_fits_Decides e f =
      let value = value_fits f.constant (terms_of f) (λ u. (e u).constant) in
      let products = list_all (λ t. times_fit t.1 (terms_of (e t.0))) (terms_of f) in
      let sums = terms_fit (finite.empty {R = R}) (substituted e (terms_of f)) in
      Decides-like (substitution_fits e f)
      (λ h. record { constant = h.0; products = h.1.0; sums = h.1.1 })
      (λ h. (h.constant, (h.products, h.sums)))
      (Decides-and value (products
      && sums) (value_fits_Decides f.constant (terms_of f) (λ u. (e u).constant))
      (Decides-and products sums
      (Decides-all (λ t. times_fit t.1 (terms_of (e t.0))) (λ t. TimesFit t.1 (terms_of (e t.0)))
      (λ t. times_fit_Decides t.1 (terms_of (e t.0))) (terms_of f))
      (terms_fit_Decides (finite.empty {R = R}) (substituted e (terms_of f)))))
