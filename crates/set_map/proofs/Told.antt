-- What a map's calls answer, by the lists that they were given.
use Rattle.std.specs.Prelude.{◌≡◌, IfOk, List, Result, Ok, Err, length}
use Rattle.std.proofs.Common.{sym, ◌∙◌, ap, ap₂, subst}
use Rattle.ratio_core.specs.Answers.{ExactWhere}
use Rattle.ratio_core.specs.AnsweredLaws.{exact_as}
use Rattle.ratio_core.specs.Rational.{Rational}
use Rattle.ratio_core.specs.declared.fault.NumberFault.{NumberFault}
use Rattle.aff_core.specs.Function.{Function}
use Rattle.set_core.specs.declared.set.Set.{Set}
use Rattle.set_map.specs.CombinationLaws.{is_mapped}
use Rattle.set_map.specs.Combinations.{IsMapped, mapped}
use Rattle.set_map.specs.Fitting.{AppliedFits, MappedFits}
use Rattle.set_map.specs.Kept.{IsMatrixKept}
use Rattle.set_map.specs.MappedSet.{CarriesBack, seen_through}
use Rattle.set_map.specs.MappedSetLaws.{carries_back}
use Rattle.set_map.specs.Matrices.{AreInverse, ArePair, Matrix, applied, transposed}

pub told_mapped : (m rows : Matrix) (f fs : List Function)
    (r : Result (List Function) NumberFault) → rows ≡ m → fs ≡ f
    → ExactWhere r (MappedFits rows fs) (λ gs. gs ≡ mapped rows fs)
    → ExactWhere r (MappedFits m f) (IsMapped m f)
told_mapped m rows f fs r a b said =
    exact_as r (MappedFits rows fs) (MappedFits m f) (λ gs. gs ≡ mapped rows fs) (IsMapped m f)
    (λ h. subst (λ n. MappedFits n f) a (subst (MappedFits rows) b h))
    (λ h. subst (MappedFits rows) (sym b) (subst (λ n. MappedFits n f) (sym a) h))
    (λ gs e. is_mapped m f gs (e ∙ ap₂ mapped a b)) said

-- the law of what is carried back
pub told_back : (m rows columns across : Matrix) (y ys : List Rational)
    (r : Result (List Rational) NumberFault) → m ≡ rows → IsMatrixKept rows columns → across ≡ columns
    → ys ≡ y → length y ≡ length m
    → ExactWhere r (AppliedFits across ys) (λ w. w ≡ applied across ys)
    → IfOk r (λ w. (inverse : Matrix) (set : Set) (fs : List Function) → ArePair m inverse
    → AreInverse m inverse → length fs ≡ length m
    → CarriesBack (seen_through m inverse set) fs y w)
told_back m rows columns across y ys (Ok w) view kept slice same size said =
    λ inverse set fs pair are e.
    carries_back m inverse set fs y w
    pair.first pair.second are e size
    (said.1 ∙ ap₂ applied (slice ∙ kept.columns ∙ ap transposed (sym view)) same)
told_back m rows columns across y ys (Err e) view kept slice same size said = tt
