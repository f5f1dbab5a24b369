-- The least product of a vector of the dual set with the vectors of a set.
--     IsLeastProduct n set w low    it is least, and it is reached
--     LowIsLeast                    the law
use Rattle.std.specs.Prelude.{◌≡◌, ℕ, List, length}
use Rattle.ratio_core.specs.Rational.{Rational, ◌≤ℚ◌}
use Rattle.rational_laws.specs.Dot.{dot}
use Rattle.set_core.specs.Membership.{Dual, In, low_of}
use Rattle.set_core.specs.Shapes.{IsSetOf}
use Rattle.set_core.specs.declared.set.Set.{Set}
use Rattle.set_laws.specs.Least.{Reaches, low_least, low_reached}

-- no vector of n numbers in the set has a lower product with w, and one has this
pub record IsLeastProduct (n : ℕ) (set : Set) (w : List Rational) (low : Rational) : Type 0 where
  pub least : (v : List Rational) → length v ≡ n → In set v → low ≤ℚ dot w v
  pub reached : Reaches n set w low

-- of each set that a valid item may have, none of which is empty
abbrev pub LowIsLeast : Type 0
LowIsLeast =
    (n : ℕ) (set : Set) → IsSetOf n set → (w : List Rational) → length w ≡ n → Dual set w
    → IsLeastProduct n set w (low_of set w)

pub low_is_least : (n : ℕ) (set : Set) → IsSetOf n set → (w : List Rational) → length w ≡ n
    → Dual set w → IsLeastProduct n set w (low_of set w)
low_is_least n set of w long dual = record {
  least = λ v size inside. low_least n set w v of long size inside dual;
  reached = low_reached n w long set of;
}
