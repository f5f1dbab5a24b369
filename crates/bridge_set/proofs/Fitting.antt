-- That an image fits, as the test of it says.
use Rattle.std.specs.Prelude.{ℕ, ◌&&◌, List, [], ◌∷◌, length, refl}
use Rattle.std.specs.Bool.{Decides}
use Rattle.std.specs.List.{list_all, zip}
use Rattle.std.proofs.lemmas.Bool.Decides.{Decides-and, Decides-like}
use Rattle.ratio_core.specs.Rational.{neg_ℚ}
use Rattle.ratio_core.specs.RationalLaws.{sum_fits_Decides}
use Rattle.aff_core.specs.Arithmetic.{PlusFits}
use Rattle.aff_core.specs.Function.{Function, negated}
use Rattle.item_core.specs.declared.family.Family.{Family}
use Rattle.item_core.specs.declared.family.Family.TheVariants as family
use Rattle.item_core.specs.declared.item.Item.{Item}
use Rattle.item_core.specs.Edge.{family_of}
use Rattle.item_core.specs.Item.{functions_of, set_of}
use Rattle.bridge_face.specs.ImageOf.{DifferencesFit, EachSumFits, FitsBy, ImageFits, inner_functions, negations}
use Rattle.bridge_face.specs.Images.{difference, function_of_body, number_in, rest_of}
use Rattle.fresh_bridging.specs.FitTests.{Decides-all, plus_fits, plus_fits_Decides}
use Rattle.fresh_bridging.specs.TheRules.{differences_fit, each_sum_fits, edge_at, fits_by, image_fits}

differences_Decides : (t : Function) (ss : List Function)
    → Decides (differences_fit t ss) (DifferencesFit t ss)
unfolding differences_fit DifferencesFit
differences_Decides t [] = (λ _. tt, λ _. refl)
differences_Decides t (s ∷ ss) =
    Decides-and (plus_fits t (negated s)) (differences_fit (difference t s) ss)
    (plus_fits_Decides t (negated s)) (differences_Decides (difference t s) ss)

each_Decides : (fs gs : List Function) → Decides (each_sum_fits fs gs) (EachSumFits fs gs)
each_Decides fs gs =
    Decides-all (λ p. plus_fits p.0 p.1) (λ p. PlusFits p.0 p.1) (λ p. plus_fits_Decides p.0 p.1)
    (zip fs gs)

by_Decides : (f : Family) (item : Item) → Decides (fits_by f item) (FitsBy f item)
unfolding fits_by FitsBy
by_Decides family.Vectorize item =
    sum_fits_Decides (function_of_body item.body).constant (neg_ℚ (number_in (set_of item.body)))
by_Decides family.NormInfinity item =
    let t = function_of_body item.body in
    let xs = rest_of (functions_of item.body) in
    Decides-and (list_all (λ x. plus_fits t (negated x)) xs) (list_all (λ x. plus_fits t x) xs)
    (Decides-all (λ x. plus_fits t (negated x)) (λ x. PlusFits t (negated x))
    (λ x. plus_fits_Decides t (negated x)) xs)
    (Decides-all (λ x. plus_fits t x) (λ x. PlusFits t x) (λ x. plus_fits_Decides t x) xs)
by_Decides family.NormOne item =
    let t = function_of_body item.body in
    let xs = rest_of (functions_of item.body) in
    let ss = inner_functions item (length xs) in
    let sums = Decides-and (each_sum_fits ss (negations xs)) (each_sum_fits ss xs)
    (each_Decides ss (negations xs)) (each_Decides ss xs) in
    Decides-like (fits_by family.NormOne item) (λ h. (h.0, h.1.0, h.1.1))
    (λ h. (h.0, (h.1, h.2)))
    (Decides-and (differences_fit t ss) (each_sum_fits ss (negations xs) && each_sum_fits ss xs)
    (differences_Decides t ss) sums)
by_Decides _ item = (λ _. tt, λ _. refl)

pub image_fits_Decides : (edge : ℕ) (item : Item)
    → Decides (image_fits edge item) (ImageFits (edge_at edge) item)
image_fits_Decides edge item = by_Decides (family_of (edge_at edge)) item
