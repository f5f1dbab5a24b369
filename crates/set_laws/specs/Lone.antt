-- In a norm cone of one number low_of isn't least: `DominatesEach` says nothing of a number alone,
-- so 1 is in the dual and -1 in the cone.
use Rattle.std.specs.Prelude.{◌≡◌, List, [], ◌∷◌, length, refl}
use Rattle.std.proofs.Common.{◌∙◌, subst}
use Rattle.std.proofs.lemmas.List.Elements.{All-nil}
use Rattle.ratio_core.specs.Rational.{Rational, abs_ℚ, neg_ℚ, one_ℚ, zero_ℚ, ◌≤ℚ◌, ◌‹ℚ◌}
use Rattle.rational_laws.specs.Dot.{dot}
use Rattle.rational_laws.specs.Field.{+ℚ-zero, neg_ℚ-zero, one-*ℚ}
use Rattle.rational_laws.specs.Order.{neg_ℚ-‹ℚ, not_‹ℚ_from_≤ℚ, zero_‹ℚ_one, ≤ℚ_from_‹ℚ}
use Rattle.set_core.specs.declared.set.Set.TheVariants.{NormInfinityCone}
use Rattle.set_core.specs.Membership.{Dual, In, low_of}
use Rattle.set_laws.specs.Norms.{norm_dominated}

below_zero : neg_ℚ one_ℚ ‹ℚ zero_ℚ
below_zero = subst (λ x. neg_ℚ one_ℚ ‹ℚ x) neg_ℚ-zero (neg_ℚ-‹ℚ zero_ℚ one_ℚ zero_‹ℚ_one)

pub lone_lower : ¬ ((w v : List Rational) → length w ≡ 1 → length v ≡ 1 → In (NormInfinityCone 1) v
    → Dual (NormInfinityCone 1) w → low_of (NormInfinityCone 1) w ≤ℚ dot w v)
lone_lower h =
    not_‹ℚ_from_≤ℚ zero_ℚ (neg_ℚ one_ℚ)
    (subst (λ x. zero_ℚ ≤ℚ x) (+ℚ-zero _ ∙ one-*ℚ (neg_ℚ one_ℚ))
    (h (one_ℚ ∷ []) (neg_ℚ one_ℚ ∷ []) refl refl (All-nil (λ q. abs_ℚ q ≤ℚ neg_ℚ one_ℚ))
    (norm_dominated one_ℚ [] (≤ℚ_from_‹ℚ zero_ℚ one_ℚ zero_‹ℚ_one))))
    below_zero
