-- Where the term of an address stands among those of an affine function.
use Rattle.std.specs.Prelude.{◌≡◌, ℕ, ◌+◌, ◌<◌, ◌≤◌, ◌∷◌, ◌++◌, take, drop, length, slice_index_or, Some, None}
use Rattle.std.specs.FinMap.{get, entries, insert}
use Rattle.ratio_core.specs.Rational.{Rational}
use Rattle.aff_core.specs.Address.{Address}
use Rattle.aff_core.specs.Function.{Function, terms_of}

-- the term at place n is that of the address
pub record IsTermPlace (f : Function) (at : Address) (n : ℕ) : Type 0 where
  pub in_range : n < length (terms_of f)
  pub found : (d : Address × Rational) → get f.terms at ≡ Some (slice_index_or (terms_of f) n d).1

pub record IsAbsent (f : Function) (at : Address) : Type 0 where
  pub absent : get f.terms at ≡ None

-- the address has this many terms, one or none, from this place on: before them stand those of the
-- addresses below it, after them those of the addresses above it
pub record IsSpanOf (f : Function) (at : Address) (from count : ℕ) : Type 0 where
  pub in_range : from + count ≤ length (terms_of f)
  pub given : (q : Rational)
      → entries (insert f.terms at q)
      ≡ take from (terms_of f) ++ (at, q) ∷ drop (from + count) (terms_of f)
