-- The adjoint law of a map, and that the dual of a mapped set is exactly what has no negative product with
-- a vector of the set.
use Rattle.std.specs.Prelude.{◌≡◌, ◌↔◌, ℕ, false, List, length}
use Rattle.std.proofs.Common.{sym, ◌∙◌, ap, subst}
use Rattle.std.proofs.lemmas.List.{length-map}
use Rattle.ratio_core.specs.Rational.{Rational, zero_ℚ, ◌≤ℚ◌}
use Rattle.rational_laws.specs.Dot.{dot}
use Rattle.aff_core.specs.Address.{Address}
use Rattle.aff_core.specs.Function.{Function}
use Rattle.aff_core.specs.FunctionLists.{coefficients, constants}
use Rattle.set_core.specs.declared.set.Set.{Set}
use Rattle.set_core.specs.Membership.{Dual, In}
use Rattle.set_core.specs.Shapes.{IsSetOf, is_scalar}
use Rattle.set_laws.specs.Cones.{dual_exactly, dual_from_products}
use Rattle.set_map.specs.CombinationLaws.{coefficients-mapped, combined_alike, constants-mapped}
use Rattle.set_map.specs.Combinations.{mapped}
use Rattle.set_map.specs.MappedSet.{CarriesBack, DualMapped, MappedSet, WeighsMapped, seen_through}
use Rattle.set_map.specs.MatrixLaws.{length-transposed, transpose_adjoint, undoes, undone}
use Rattle.set_map.specs.Matrices.{AreInverse, ArePair, IsSquare, Matrix, applied, transposed}

-- ---- duals of the mapped functions give duals of the functions

pub carries_back : (m inverse : Matrix) (cone : Set) (fs : List Function) (y w : List Rational)
    → IsSquare (length m) m → IsSquare (length m) inverse → AreInverse m inverse
    → length fs ≡ length m → length y ≡ length m → w ≡ applied (transposed m) y
    → CarriesBack (seen_through m inverse cone) fs y w
carries_back m inverse cone fs y w s t are e k is = record {
  size = ap length is ∙ length-transposed m y ∙ sym e;
  same = combined_alike w y fs (mapped m fs) each constant;
  adjoint = each;
  constants = constant;
  dual = λ d. subst (Dual cone) (sym (ap (applied (transposed inverse)) is
      ∙ undone (length m) m inverse y s t are.right k)) d;
}
  where
    weighed : (u : List Rational) → dot w u ≡ dot y (applied m u)
    weighed u = ap (λ v. dot v u) is ∙ transpose_adjoint (length m) m y u s k

    each : (v : Address) → dot w (coefficients fs v) ≡ dot y (coefficients (mapped m fs) v)
    each v = weighed (coefficients fs v) ∙ ap (dot y) (sym (coefficients-mapped m fs v))

    constant : dot w (constants fs) ≡ dot y (constants (mapped m fs))
    constant = weighed (constants fs) ∙ ap (dot y) (sym (constants-mapped m fs))

-- ---- the dual of a mapped cone

module _ (s : MappedSet) (pair : ArePair s.matrix s.inverse) (are : AreInverse s.matrix s.inverse)
    (cone : is_scalar s.cone ≡ false) (w : List Rational) (e : length w ≡ length s.matrix) where
  abbrev dimension : ℕ
  dimension = length s.matrix

  -- what the cone's vectors are weighed by
  abbrev brought : List Rational
  brought = applied (transposed s.inverse) w

  long : length brought ≡ dimension
  long = length-transposed s.inverse w ∙ pair.second.rows

  -- it weighs M v as w weighs v, since N M v is v
  pub dual_weighs : IsSetOf dimension s.cone → DualMapped s w → WeighsMapped s w
  dual_weighs of dual v k inside =
      subst (λ q. zero_ℚ ≤ℚ q)
      (transpose_adjoint dimension s.inverse w (applied s.matrix v) pair.second e
      ∙ ap (dot w) (undoes dimension s.inverse s.matrix v pair.second pair.first are.left (k ∙ e)))
      ((dual_exactly dimension s.cone brought of cone long).0 dual (applied s.matrix v)
      (length-map s.matrix (λ row. dot row v) ∙ sym long) inside)

  -- each vector u of the cone is M N u
  pub weighs_dual : WeighsMapped s w → DualMapped s w
  weighs_dual weighs =
      dual_from_products s.cone brought cone
      (λ u k inside.
      subst (λ q. zero_ℚ ≤ℚ q) (sym (transpose_adjoint dimension s.inverse w u pair.second e))
      (weighs (applied s.inverse u)
      (length-map s.inverse (λ row. dot row u) ∙ pair.second.rows ∙ sym e)
      (subst (In s.cone)
      (sym (undoes dimension s.matrix s.inverse u pair.first pair.second are.right (k ∙ long))) inside)))

  pub dual_mapped : IsSetOf dimension s.cone → DualMapped s w ↔ WeighsMapped s w
  dual_mapped of = (dual_weighs of, weighs_dual)
