-- The set of the negated vectors, and the set with its numbers multiplied.
use Rattle.ratio_core.specs.Rational.{Rational, ◌*ℚ◌, neg_ℚ}
use Rattle.set_core.specs.declared.set.Set.{Set}
use Rattle.set_core.specs.declared.set.Set.TheVariants.{LessThan, GreaterThan, EqualTo, Interval, Nonnegatives, Nonpositives}

-- the set of the negated vectors; for a norm cone there is none, and it stays
abbrev pub mirrored : Set → Set
mirrored (LessThan u) = GreaterThan (neg_ℚ u)
mirrored (GreaterThan l) = LessThan (neg_ℚ l)
mirrored (EqualTo a) = EqualTo (neg_ℚ a)
mirrored (Interval l u) = Interval (neg_ℚ u) (neg_ℚ l)
mirrored (Nonnegatives n) = Nonpositives n
mirrored (Nonpositives n) = Nonnegatives n
mirrored set = set

-- the set with each of its numbers multiplied: by 1 it is the set, by 0 its recession set
abbrev pub multiplied : Rational → Set → Set
multiplied t (LessThan u) = LessThan (t *ℚ u)
multiplied t (GreaterThan l) = GreaterThan (t *ℚ l)
multiplied t (EqualTo a) = EqualTo (t *ℚ a)
multiplied t (Interval l u) = Interval (t *ℚ l) (t *ℚ u)
multiplied t set = set
