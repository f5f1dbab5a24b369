-- How a list is kept.
use Rattle.std.specs.Prelude.{List}
use Rattle.ratio_core.specs.Rational.{Rational}
use Rattle.sparse_ratios.specs.declared.ratios.SparseRatios.TheInside.{Inside}
use Rattle.sparse_ratios.specs.Terms.{AreTerms, HaveNoZeros, numbers_of}

abbrev pub numbers_in : Inside → List Rational
numbers_in a = numbers_of a.len a.terms.items

pub record AreTermsKept (a : Inside) : Type 0 where
  pub terms : AreTerms 0 a.len a.terms.items
  pub nonzero : HaveNoZeros a.terms.items
