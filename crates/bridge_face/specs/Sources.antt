-- Bodies by their kinds: from the kind to what the body is.
use Rattle.std.specs.Prelude.{ℕ, List}
use Rattle.std.proofs.Common.{true≢false, sym}
use Rattle.ratio_core.specs.Rational.{Rational}
use Rattle.aff_core.specs.Address.{Address}
use Rattle.aff_core.specs.Function.{Function}
use Rattle.aff_core.specs.declared.sense.Sense.TheVariants.{Min, Max}
use Rattle.set_core.specs.declared.set.Set.TheVariants.{LessThan, GreaterThan, EqualTo, Interval, Reals, Zeros, Nonnegatives, Nonpositives, NormInfinityCone, NormOneCone}
use Rattle.item_core.specs.declared.item.Body.{Body}
use Rattle.item_core.specs.declared.item.Body.TheVariants as body
use Rattle.item_core.specs.declared.kind.Kind.{Kind}
use Rattle.item_core.specs.declared.kind.Kind.TheVariants as kind
use Rattle.item_core.specs.KindOf.{kind_of_body}
use Rattle.item_core.specs.Valid.{FitsItsFunction}

pub data OfKind : Kind → Body → Type 0 where
  plain_less_than : {var : Address} {u : Rational}
      → OfKind kind.PlainLessThan (body.Plain var (LessThan u))
  plain_greater_than : {var : Address} {l : Rational}
      → OfKind kind.PlainGreaterThan (body.Plain var (GreaterThan l))
  plain_equal_to : {var : Address} {a : Rational}
      → OfKind kind.PlainEqualTo (body.Plain var (EqualTo a))
  plain_interval : {var : Address} {l : Rational} {u : Rational}
      → OfKind kind.PlainInterval (body.Plain var (Interval l u))
  affine_less_than : {func : Function} {u : Rational}
      → OfKind kind.AffineLessThan (body.Affine func (LessThan u))
  affine_greater_than : {func : Function} {l : Rational}
      → OfKind kind.AffineGreaterThan (body.Affine func (GreaterThan l))
  affine_equal_to : {func : Function} {a : Rational}
      → OfKind kind.AffineEqualTo (body.Affine func (EqualTo a))
  affine_interval : {func : Function} {l : Rational} {u : Rational}
      → OfKind kind.AffineInterval (body.Affine func (Interval l u))
  vplain_reals : {vars : List Address} {n : ℕ}
      → OfKind kind.VplainReals (body.PlainVec vars (Reals n))
  vplain_zeros : {vars : List Address} {n : ℕ}
      → OfKind kind.VplainZeros (body.PlainVec vars (Zeros n))
  vplain_nonnegatives : {vars : List Address} {n : ℕ}
      → OfKind kind.VplainNonnegatives (body.PlainVec vars (Nonnegatives n))
  vplain_nonpositives : {vars : List Address} {n : ℕ}
      → OfKind kind.VplainNonpositives (body.PlainVec vars (Nonpositives n))
  vplain_norm_infinity_cone : {vars : List Address} {n : ℕ}
      → OfKind kind.VplainNormInfinityCone (body.PlainVec vars (NormInfinityCone n))
  vplain_norm_one_cone : {vars : List Address} {n : ℕ}
      → OfKind kind.VplainNormOneCone (body.PlainVec vars (NormOneCone n))
  vaffine_reals : {funcs : List Function} {n : ℕ}
      → OfKind kind.VaffineReals (body.AffineVec funcs (Reals n))
  vaffine_zeros : {funcs : List Function} {n : ℕ}
      → OfKind kind.VaffineZeros (body.AffineVec funcs (Zeros n))
  vaffine_nonnegatives : {funcs : List Function} {n : ℕ}
      → OfKind kind.VaffineNonnegatives (body.AffineVec funcs (Nonnegatives n))
  vaffine_nonpositives : {funcs : List Function} {n : ℕ}
      → OfKind kind.VaffineNonpositives (body.AffineVec funcs (Nonpositives n))
  vaffine_norm_infinity_cone : {funcs : List Function} {n : ℕ}
      → OfKind kind.VaffineNormInfinityCone (body.AffineVec funcs (NormInfinityCone n))
  vaffine_norm_one_cone : {funcs : List Function} {n : ℕ}
      → OfKind kind.VaffineNormOneCone (body.AffineVec funcs (NormOneCone n))
  group_less_than : {vars : List Address} {u : Rational}
      → OfKind kind.GroupLessThan (body.Group (LessThan u) vars)
  group_greater_than : {vars : List Address} {l : Rational}
      → OfKind kind.GroupGreaterThan (body.Group (GreaterThan l) vars)
  group_equal_to : {vars : List Address} {a : Rational}
      → OfKind kind.GroupEqualTo (body.Group (EqualTo a) vars)
  group_interval : {vars : List Address} {l : Rational} {u : Rational}
      → OfKind kind.GroupInterval (body.Group (Interval l u) vars)
  group_reals : {vars : List Address} {n : ℕ} → OfKind kind.GroupReals (body.Group (Reals n) vars)
  group_zeros : {vars : List Address} {n : ℕ} → OfKind kind.GroupZeros (body.Group (Zeros n) vars)
  group_nonnegatives : {vars : List Address} {n : ℕ}
      → OfKind kind.GroupNonnegatives (body.Group (Nonnegatives n) vars)
  group_nonpositives : {vars : List Address} {n : ℕ}
      → OfKind kind.GroupNonpositives (body.Group (Nonpositives n) vars)
  group_norm_infinity_cone : {vars : List Address} {n : ℕ}
      → OfKind kind.GroupNormInfinityCone (body.Group (NormInfinityCone n) vars)
  group_norm_one_cone : {vars : List Address} {n : ℕ}
      → OfKind kind.GroupNormOneCone (body.Group (NormOneCone n) vars)
  free : {vars : List Address} → OfKind kind.Free (body.Free vars)
  min_plain : {var : Address} → OfKind kind.MinPlain (body.PlainObj Min var)
  min_affine : {func : Function} → OfKind kind.MinAffine (body.AffineObj Min func)
  max_plain : {var : Address} → OfKind kind.MaxPlain (body.PlainObj Max var)
  max_affine : {func : Function} → OfKind kind.MaxAffine (body.AffineObj Max func)

pub of_kind : (b : Body) → FitsItsFunction b → OfKind (kind_of_body b) b
unfolding kind_of_body
of_kind (body.Plain var (LessThan u)) h = plain_less_than
of_kind (body.Plain var (GreaterThan l)) h = plain_greater_than
of_kind (body.Plain var (EqualTo a)) h = plain_equal_to
of_kind (body.Plain var (Interval l u)) h = plain_interval
of_kind (body.Affine func (LessThan u)) h = affine_less_than
of_kind (body.Affine func (GreaterThan l)) h = affine_greater_than
of_kind (body.Affine func (EqualTo a)) h = affine_equal_to
of_kind (body.Affine func (Interval l u)) h = affine_interval
of_kind (body.PlainVec vars (Reals n)) h = vplain_reals
of_kind (body.PlainVec vars (Zeros n)) h = vplain_zeros
of_kind (body.PlainVec vars (Nonnegatives n)) h = vplain_nonnegatives
of_kind (body.PlainVec vars (Nonpositives n)) h = vplain_nonpositives
of_kind (body.PlainVec vars (NormInfinityCone n)) h = vplain_norm_infinity_cone
of_kind (body.PlainVec vars (NormOneCone n)) h = vplain_norm_one_cone
of_kind (body.AffineVec funcs (Reals n)) h = vaffine_reals
of_kind (body.AffineVec funcs (Zeros n)) h = vaffine_zeros
of_kind (body.AffineVec funcs (Nonnegatives n)) h = vaffine_nonnegatives
of_kind (body.AffineVec funcs (Nonpositives n)) h = vaffine_nonpositives
of_kind (body.AffineVec funcs (NormInfinityCone n)) h = vaffine_norm_infinity_cone
of_kind (body.AffineVec funcs (NormOneCone n)) h = vaffine_norm_one_cone
of_kind (body.Group (LessThan u) vars) h = group_less_than
of_kind (body.Group (GreaterThan l) vars) h = group_greater_than
of_kind (body.Group (EqualTo a) vars) h = group_equal_to
of_kind (body.Group (Interval l u) vars) h = group_interval
of_kind (body.Group (Reals n) vars) h = group_reals
of_kind (body.Group (Zeros n) vars) h = group_zeros
of_kind (body.Group (Nonnegatives n) vars) h = group_nonnegatives
of_kind (body.Group (Nonpositives n) vars) h = group_nonpositives
of_kind (body.Group (NormInfinityCone n) vars) h = group_norm_infinity_cone
of_kind (body.Group (NormOneCone n) vars) h = group_norm_one_cone
of_kind (body.Free vars) h = free
of_kind (body.PlainObj Min var) h = min_plain
of_kind (body.PlainObj Max var) h = max_plain
of_kind (body.AffineObj Min func) h = min_affine
of_kind (body.AffineObj Max func) h = max_affine
of_kind (body.Plain var _) h = absurd (true≢false (sym h))
of_kind (body.Affine func _) h = absurd (true≢false (sym h))
of_kind (body.PlainVec vars _) h = absurd (true≢false h)
of_kind (body.AffineVec funcs _) h = absurd (true≢false h)
