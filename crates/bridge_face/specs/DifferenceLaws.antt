-- Lists of differences of functions: their numbers are the differences of the functions' numbers.
use Rattle.std.specs.Prelude.{◌≡◌, List, [], ◌∷◌, map, All, length, refl, cond}
use Rattle.std.proofs.Common.{sym, ap, ap₂, ◌∙◌, arith}
use Rattle.std.proofs.lemmas.List.{length-map}
use Rattle.std.proofs.lemmas.Simd.{map-map}
use Rattle.std.proofs.lemmas.List.Elements.{All-cons, All-head, All-nil, All-tail}
use Rattle.std.specs.List.{zip}
use Rattle.ratio_core.specs.Rational.{Rational, neg_ℚ, zero_ℚ, ◌+ℚ◌, ◌-ℚ◌, one_ℚ}
use Rattle.rational_laws.specs.Dot.{dot, minus, plus}
use Rattle.rational_laws.specs.DotLaws.{dot-minus}
use Rattle.rational_laws.specs.Field.{neg_ℚ-zero, zero-+ℚ, +ℚ-zero}
use Rattle.aff_core.specs.Address.{Address, address_cmp, address_eq}
use Rattle.aff_core.specs.Arithmetic.{sum_of}
use Rattle.aff_core.specs.ArithmeticLaws.{coefficient-sum_of, constant-sum_of, is_sum}
use Rattle.aff_core.specs.Function.{Function, coefficient, evaluated, negated, variable, with_coefficient}
use Rattle.aff_core.specs.FunctionLaws.{coefficient-negated, constant-negated, is_negated, coefficient-variable_other, coefficient-variable_same, coefficient-with, constant-with, same_coefficients, constant-variable}
use Rattle.aff_core.specs.KeyOrder.{address_order, other_key, same_key, same_or_other}
use Rattle.item_core.specs.Valid.{NamesNothingBelow, below}
use Rattle.linear_laws.specs.EvaluationLaws.{evaluated_sum}
use Rattle.linear_laws.specs.ListLaws.{evaluated_negated}
use Rattle.bridge_face.specs.ImageOf.{differences, sums}
use Rattle.bridge_face.specs.Images.{difference}
use Rattle.bridge_face.specs.ComponentLaws.{dot_missed, variables, weighed}
use Rattle.bridge_face.specs.Law.{Miss}
use Rattle.aff_core.specs.FunctionLists.{coefficients}
use Rattle.rational_laws.specs.Dot as numbers

-- ---- of two functions

pub coefficient-difference : (f g : Function) (v : Address)
    → coefficient (difference f g) v ≡ coefficient f v -ℚ coefficient g v
coefficient-difference f g v =
    coefficient-sum_of address_order f (negated g) v
    ∙ ap (λ q. coefficient f v +ℚ q) (coefficient-negated address_order g v)

pub constant-difference : (f g : Function)
    → (difference f g).constant ≡ f.constant -ℚ g.constant
constant-difference f g =
    constant-sum_of address_order f (negated g)
    ∙ ap (λ q. f.constant +ℚ q) (constant-negated address_order g)

pub evaluated-sum : (one : Rational) (f g : Function) (x : Address → Rational)
    → evaluated one (sum_of f g) x ≡ evaluated one f x +ℚ evaluated one g x
evaluated-sum one f g x =
    evaluated_sum one f g (sum_of f g) (is_sum address_order f g (sum_of f g) refl) x

pub evaluated-negated : (one : Rational) (f : Function) (x : Address → Rational)
    → evaluated one (negated f) x ≡ neg_ℚ (evaluated one f x)
evaluated-negated one f x =
    evaluated_negated one f (negated f) (is_negated address_order f (negated f) refl) x

pub evaluated-difference : (one : Rational) (f g : Function) (x : Address → Rational)
    → evaluated one (difference f g) x ≡ evaluated one f x -ℚ evaluated one g x
evaluated-difference one f g x =
    evaluated-sum one f (negated g) x
    ∙ ap (λ q. evaluated one f x +ℚ q) (evaluated-negated one g x)

-- where a function doesn't name a variable, the difference from it has one coefficient more
pub difference-variable : (f : Function) (v : Address) → coefficient f v ≡ zero_ℚ
    → with_coefficient f v (neg_ℚ one_ℚ) ≡ difference f (variable v)
difference-variable f v absent =
    same_coefficients address_order (with_coefficient f v (neg_ℚ one_ℚ)) (difference f (variable v))
    each
    (constant-with address_order f v (neg_ℚ one_ℚ)
    ∙ sym (constant-difference f (variable v)
    ∙ ap (λ q. f.constant -ℚ q) (constant-variable address_cmp v)
    ∙ ap (λ q. f.constant +ℚ q) neg_ℚ-zero ∙ +ℚ-zero f.constant))
  where
    each : (u : Address)
        → coefficient (with_coefficient f v (neg_ℚ one_ℚ)) u
        ≡ coefficient (difference f (variable v)) u
    each u =
        same_or_other address_order (coefficient (with_coefficient f v (neg_ℚ one_ℚ)) u
        ≡ coefficient (difference f (variable v)) u) u v
        (λ e.
        coefficient-with address_order f v (neg_ℚ one_ℚ) u
        ∙ ap (λ b. cond b (neg_ℚ one_ℚ) (coefficient f u))
        (ap (λ w. address_eq w v) e ∙ same_key address_order v)
        ∙ sym (coefficient-difference f (variable v) u
        ∙ ap₂ (λ p q. p -ℚ q) (ap (coefficient f) e ∙ absent)
        (ap (coefficient (variable v)) e ∙ coefficient-variable_same address_order v)
        ∙ zero-+ℚ (neg_ℚ one_ℚ)))
        (λ other.
        coefficient-with address_order f v (neg_ℚ one_ℚ) u
        ∙ ap (λ b. cond b (neg_ℚ one_ℚ) (coefficient f u)) (other_key address_order u v other)
        ∙ sym (coefficient-difference f (variable v) u
        ∙ ap (λ q. coefficient f u -ℚ q) (coefficient-variable_other address_order v u other)
        ∙ ap (λ q. coefficient f u +ℚ q) neg_ℚ-zero ∙ +ℚ-zero (coefficient f u)))

-- and so the difference to it
pub variable-difference : (v : Address) (f : Function) → coefficient f v ≡ zero_ℚ
    → with_coefficient (negated f) v one_ℚ ≡ difference (variable v) f
variable-difference v f absent =
    same_coefficients address_order (with_coefficient (negated f) v one_ℚ)
    (difference (variable v) f) each
    (constant-with address_order (negated f) v one_ℚ ∙ constant-negated address_order f
    ∙ sym (constant-difference (variable v) f
    ∙ ap (λ q. q -ℚ f.constant) (constant-variable address_cmp v)
    ∙ zero-+ℚ (neg_ℚ f.constant)))
  where
    each : (u : Address)
        → coefficient (with_coefficient (negated f) v one_ℚ) u
        ≡ coefficient (difference (variable v) f) u
    each u =
        same_or_other address_order (coefficient (with_coefficient (negated f) v one_ℚ) u
        ≡ coefficient (difference (variable v) f) u) u v
        (λ e.
        coefficient-with address_order (negated f) v one_ℚ u
        ∙ ap (λ b. cond b one_ℚ (coefficient (negated f) u))
        (ap (λ w. address_eq w v) e ∙ same_key address_order v)
        ∙ sym (coefficient-difference (variable v) f u
        ∙ ap₂ (λ p q. p -ℚ q) (ap (coefficient (variable v)) e
        ∙ coefficient-variable_same address_order v) (ap (coefficient f) e ∙ absent)
        ∙ ap (λ q. one_ℚ +ℚ q) neg_ℚ-zero ∙ +ℚ-zero one_ℚ))
        (λ other.
        coefficient-with address_order (negated f) v one_ℚ u
        ∙ ap (λ b. cond b one_ℚ (coefficient (negated f) u)) (other_key address_order u v other)
        ∙ coefficient-negated address_order f u
        ∙ sym (coefficient-difference (variable v) f u
        ∙ ap (λ q. q -ℚ coefficient f u) (coefficient-variable_other address_order v u other)
        ∙ zero-+ℚ (neg_ℚ (coefficient f u))))

-- ---- of lists

-- a number of functions that goes along with differences, or with sums
abbrev pub Subtracts : (Function → Rational) → Type 0
Subtracts g = (f h : Function) → g (difference f h) ≡ g f -ℚ g h

abbrev pub IsAdditive : (Function → Rational) → Type 0
IsAdditive g = (f h : Function) → g (sum_of f h) ≡ g f +ℚ g h

-- what is made of the functions at equal places: `differences` and `sums` are such lists
abbrev pub paired : (Function → Function → Function) → List Function → List Function → List Function
paired op fs hs = map (λ p. op p.0 p.1) (zip fs hs)

module _ (op : Function → Function → Function) where
  -- a number of each of them, by the numbers of the two
  numbers-paired : (g left right : Function → Rational)
      → ((f h : Function) → g (op f h) ≡ left f +ℚ right h) → (fs hs : List Function)
      → map g (paired op fs hs) ≡ plus (map left fs) (map right hs)
  numbers-paired g left right s [] hs = refl
  numbers-paired g left right s (f ∷ fs) [] = refl
  numbers-paired g left right s (f ∷ fs) (h ∷ hs) =
      ap₂ ◌∷◌ (s f h) (numbers-paired g left right s fs hs)

  -- what two functions have, and what is made of them
  pub all_paired : (P : Function → Type 0) → ((f h : Function) → P f → P h → P (op f h))
      → (fs hs : List Function) → All P fs → All P hs → All P (paired op fs hs)
  all_paired P s [] hs p q = All-nil P
  all_paired P s (f ∷ fs) [] p q = All-nil P
  all_paired P s (f ∷ fs) (h ∷ hs) p q =
      All-cons P (op f h) (paired op fs hs) (s f h (All-head P f fs p) (All-head P h hs q))
      (all_paired P s fs hs (All-tail P f fs p) (All-tail P h hs q))

  pub length-paired : (fs hs : List Function) → length fs ≡ length hs
      → length (paired op fs hs) ≡ length fs
  length-paired [] hs e = refl
  length-paired (f ∷ fs) [] e = absurd (omega (arith, e))
  length-paired (f ∷ fs) (h ∷ hs) e =
      let rest = length-paired fs hs (omega (arith, e)) in omega (arith, rest)

pub length-differences : (fs hs : List Function) → length fs ≡ length hs
    → length (differences fs hs) ≡ length fs
length-differences fs hs e = length-paired difference fs hs e

pub length-sums : (fs hs : List Function) → length fs ≡ length hs
    → length (sums fs hs) ≡ length fs
length-sums fs hs e = length-paired sum_of fs hs e

pub numbers-differences : (g : Function → Rational) → Subtracts g → (fs hs : List Function)
    → map g (differences fs hs) ≡ minus (map g fs) (map g hs)
numbers-differences g s fs hs =
    numbers-paired difference g g (λ h. neg_ℚ (g h)) s fs hs
    ∙ ap (plus (map g fs)) (sym (map-map neg_ℚ g hs))

pub numbers-sums : (g : Function → Rational) → IsAdditive g → (fs hs : List Function)
    → map g (sums fs hs) ≡ plus (map g fs) (map g hs)
numbers-sums g s fs hs = numbers-paired sum_of g g g s fs hs

-- ---- what neither names

pub missed-difference : (v : Address) (f h : Function)
    → coefficient f v ≡ zero_ℚ → coefficient h v ≡ zero_ℚ
    → coefficient (difference f h) v ≡ zero_ℚ
missed-difference v f h e k =
    coefficient-difference f h v ∙ ap₂ (λ p q. p -ℚ q) e k ∙ zero-+ℚ (neg_ℚ zero_ℚ) ∙ neg_ℚ-zero

pub missed-sum : (v : Address) (f h : Function)
    → coefficient f v ≡ zero_ℚ → coefficient h v ≡ zero_ℚ
    → coefficient (sum_of f h) v ≡ zero_ℚ
missed-sum v f h e k =
    coefficient-sum_of address_order f h v ∙ ap₂ ◌+ℚ◌ e k ∙ zero-+ℚ zero_ℚ

pub missed-negated : (v : Address) (f : Function)
    → coefficient f v ≡ zero_ℚ → coefficient (negated f) v ≡ zero_ℚ
missed-negated v f e = coefficient-negated address_order f v ∙ ap neg_ℚ e ∙ neg_ℚ-zero

pub unnamed-difference : (at : Address) (f h : Function)
    → NamesNothingBelow at f → NamesNothingBelow at h → NamesNothingBelow at (difference f h)
unnamed-difference at f h p q rest = missed-difference (below at rest) f h (p rest) (q rest)

pub unnamed-sum : (at : Address) (f h : Function)
    → NamesNothingBelow at f → NamesNothingBelow at h → NamesNothingBelow at (sum_of f h)
unnamed-sum at f h p q rest = missed-sum (below at rest) f h (p rest) (q rest)

-- ---- products with a list

module _ (w : List Rational) (fs hs : List Function) (e : length fs ≡ length hs) where
  pub dot-differences : (g : Function → Rational) → Subtracts g
      → dot w (map g (differences fs hs)) ≡ dot w (map g fs) -ℚ dot w (map g hs)
  dot-differences g s =
      ap (dot w) (numbers-differences g s fs hs)
      ∙ dot-minus w (map g fs) (map g hs) (length-map fs g ∙ e ∙ sym (length-map hs g))

  -- at variables that the first functions don't name
  pub weighed-differences : (vs : List Address) → All (λ v. Miss fs v) vs
      → weighed w (differences fs hs) vs ≡ numbers.negated (weighed w hs vs)
  weighed-differences [] m = refl
  weighed-differences (v ∷ vs) m =
      ap₂ ◌∷◌
      (dot-differences (λ f. coefficient f v) (λ f g. coefficient-difference f g v)
      ∙ ap (λ q. q
      -ℚ dot w (coefficients hs v)) (dot_missed w fs v (All-head (λ v. Miss fs v) v vs m))
      ∙ zero-+ℚ (neg_ℚ (dot w (coefficients hs v))))
      (weighed-differences vs (All-tail (λ v. Miss fs v) v vs m))

  -- at a variable that the second functions don't name
  pub dot-differences_missed : (v : Address) → Miss hs v
      → dot w (coefficients (differences fs hs) v) ≡ dot w (coefficients fs v)
  dot-differences_missed v m =
      dot-differences (λ f. coefficient f v) (λ f g. coefficient-difference f g v)
      ∙ ap (λ q. dot w (coefficients fs v) -ℚ q) (dot_missed w hs v m)
      ∙ ap (λ q. dot w (coefficients fs v) +ℚ q) neg_ℚ-zero ∙ +ℚ-zero (dot w (coefficients fs v))

-- ---- functions less variables

-- each function less the variable at its place
abbrev pub less : Function × Address → Function
less p = difference p.0 (variable p.1)

pub less_each : (fs : List Function) (vs : List Address)
    → map less (zip fs vs) ≡ differences fs (variables vs)
less_each [] vs = refl
less_each (f ∷ fs) [] = refl
less_each (f ∷ fs) (v ∷ vs) = ap (λ gs. difference f (variable v) ∷ gs) (less_each fs vs)
