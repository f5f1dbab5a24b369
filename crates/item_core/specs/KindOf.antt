-- The kind of an item as it stands.
use Rattle.item_core.specs.declared.item.Body.{Body}
use Rattle.item_core.specs.declared.item.Body.TheVariants.{Group, Free, Plain, Affine, PlainVec, AffineVec, PlainObj, AffineObj}
use Rattle.item_core.specs.declared.kind.Kind.{Kind}
use Rattle.item_core.specs.declared.kind.Kind.TheVariants as kind
use Rattle.aff_core.specs.declared.sense.Sense.TheVariants.{Min, Max}
use Rattle.set_core.specs.declared.set.Set.{Set}
use Rattle.set_core.specs.declared.set.Set.TheVariants.{LessThan, GreaterThan, EqualTo, Interval, Reals, Zeros, Nonnegatives, Nonpositives, NormInfinityCone, NormOneCone}

-- the kind of variables created in the set
abbrev pub group_kind_of : Set → Kind
group_kind_of (LessThan b) = kind.GroupLessThan
group_kind_of (GreaterThan b) = kind.GroupGreaterThan
group_kind_of (EqualTo b) = kind.GroupEqualTo
group_kind_of (Interval l u) = kind.GroupInterval
group_kind_of (Reals n) = kind.GroupReals
group_kind_of (Zeros n) = kind.GroupZeros
group_kind_of (Nonnegatives n) = kind.GroupNonnegatives
group_kind_of (Nonpositives n) = kind.GroupNonpositives
group_kind_of (NormInfinityCone n) = kind.GroupNormInfinityCone
group_kind_of (NormOneCone n) = kind.GroupNormOneCone

-- the kind of plain variables in the set
abbrev pub plain_kind_of : Set → Kind
plain_kind_of (LessThan b) = kind.PlainLessThan
plain_kind_of (GreaterThan b) = kind.PlainGreaterThan
plain_kind_of (EqualTo b) = kind.PlainEqualTo
plain_kind_of (Interval l u) = kind.PlainInterval
plain_kind_of (Reals n) = kind.VplainReals
plain_kind_of (Zeros n) = kind.VplainZeros
plain_kind_of (Nonnegatives n) = kind.VplainNonnegatives
plain_kind_of (Nonpositives n) = kind.VplainNonpositives
plain_kind_of (NormInfinityCone n) = kind.VplainNormInfinityCone
plain_kind_of (NormOneCone n) = kind.VplainNormOneCone

-- the kind of affine functions in the set
abbrev pub affine_kind_of : Set → Kind
affine_kind_of (LessThan b) = kind.AffineLessThan
affine_kind_of (GreaterThan b) = kind.AffineGreaterThan
affine_kind_of (EqualTo b) = kind.AffineEqualTo
affine_kind_of (Interval l u) = kind.AffineInterval
affine_kind_of (Reals n) = kind.VaffineReals
affine_kind_of (Zeros n) = kind.VaffineZeros
affine_kind_of (Nonnegatives n) = kind.VaffineNonnegatives
affine_kind_of (Nonpositives n) = kind.VaffineNonpositives
affine_kind_of (NormInfinityCone n) = kind.VaffineNormInfinityCone
affine_kind_of (NormOneCone n) = kind.VaffineNormOneCone

unfoldable pub kind_of_body : Body → Kind
kind_of_body (Group set vars) = group_kind_of set
kind_of_body (Free vars) = kind.Free
kind_of_body (Plain var set) = plain_kind_of set
kind_of_body (Affine func set) = affine_kind_of set
kind_of_body (PlainVec vars set) = plain_kind_of set
kind_of_body (AffineVec func set) = affine_kind_of set
kind_of_body (PlainObj Min var) = kind.MinPlain
kind_of_body (PlainObj Max var) = kind.MaxPlain
kind_of_body (AffineObj Min func) = kind.MinAffine
kind_of_body (AffineObj Max func) = kind.MaxAffine
