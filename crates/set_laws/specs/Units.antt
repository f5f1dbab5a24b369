-- What has a nonnegative product with each vector of one kind: the kind's vectors of one number,
-- and those of signs, say it.
use Rattle.std.specs.Prelude.{◌≡◌, ◌⊎◌, ℕ, zero, suc, List, [], ◌∷◌, length, map, All, refl}
use Rattle.std.proofs.Common.{sym, ◌∙◌, ap, ap₂, subst, inl, inr}
use Rattle.std.proofs.lemmas.List.Elements.{All-cons, All-nil}
use Rattle.ratio_core.specs.Rational.{Rational, abs_ℚ, neg_ℚ, one_ℚ, zero_ℚ, ◌*ℚ◌, ◌+ℚ◌, ◌≤ℚ◌}
use Rattle.rational_laws.specs.Dot.{dot}
use Rattle.rational_laws.specs.DotLaws.{dot_behind, dot_front}
use Rattle.rational_laws.specs.Field.{*ℚ-neg_ℚ, *ℚ-one, +ℚ-zero, neg_ℚ-neg_ℚ, neg_ℚ-sum, neg_ℚ-zero, zero-+ℚ}
use Rattle.rational_laws.specs.Order.{abs_ℚ-neg_ℚ, abs_ℚ_nonneg, abs_ℚ_nonpos, zero_‹ℚ_one, ≤ℚ_antisymm, ≤ℚ_from_nonneg, ≤ℚ_from_≡, ≤ℚ_from_‹ℚ, ≤ℚ_refl, ≤ℚ_total}
use Rattle.set_core.specs.Vectors.{DominatesEach, DominatesSum}
use Rattle.set_laws.specs.Least.{length-zeros, norm_zeros, zeros}
use Rattle.set_laws.specs.Norms.{abs_zero, norm, norm_dominated}

pub one_nonneg : zero_ℚ ≤ℚ one_ℚ
one_nonneg = ≤ℚ_from_‹ℚ zero_ℚ one_ℚ zero_‹ℚ_one

abs_one : abs_ℚ one_ℚ ≡ one_ℚ
abs_one = abs_ℚ_nonneg one_ℚ one_nonneg

-- ---- cones whose numbers are each of one kind

-- P holds of 0 and t, so the vectors with t at one place are in the cone
unit_products : (P : Rational → Type 0) (t : Rational) → P zero_ℚ → P t → (w : List Rational)
    → ((v : List Rational) → length v ≡ length w → All P v → zero_ℚ ≤ℚ dot w v)
    → All (λ p. zero_ℚ ≤ℚ (p *ℚ t)) w
unit_products P t z k [] h = All-nil (λ p. zero_ℚ ≤ℚ (p *ℚ t))
unit_products P t z k (p ∷ w) h =
    All-cons (λ p. zero_ℚ ≤ℚ (p *ℚ t)) p w
    (subst (λ x. zero_ℚ ≤ℚ x) (dot_front p t w (length w))
    (h (t ∷ zeros (length w)) (ap suc (length-zeros (length w)))
    (All-cons P t (zeros (length w)) k (zeros_all (length w)))))
    (unit_products P t z k w (λ v e a. subst (λ x. zero_ℚ ≤ℚ x) (dot_behind p w v)
    (h (zero_ℚ ∷ v) (ap suc e) (All-cons P zero_ℚ v z a))))
  where
    zeros_all : (n : ℕ) → All P (zeros n)
    zeros_all zero = All-nil P
    zeros_all (suc n) = All-cons P zero_ℚ (zeros n) z (zeros_all n)

times_one : (p : Rational) → zero_ℚ ≤ℚ (p *ℚ one_ℚ) → zero_ℚ ≤ℚ p
times_one p h = subst (λ x. zero_ℚ ≤ℚ x) (*ℚ-one p) h

times_neg_one : (p : Rational) → p *ℚ neg_ℚ one_ℚ ≡ neg_ℚ p
times_neg_one p = *ℚ-neg_ℚ p one_ℚ ∙ ap neg_ℚ (*ℚ-one p)

below_zero : (p : Rational) → zero_ℚ ≤ℚ (p *ℚ neg_ℚ one_ℚ) → p ≤ℚ zero_ℚ
below_zero p h =
    ≤ℚ_from_nonneg p zero_ℚ (subst (λ x. zero_ℚ ≤ℚ x) (times_neg_one p ∙ sym (zero-+ℚ (neg_ℚ p))) h)

pub nonneg_units : (P : Rational → Type 0) → P zero_ℚ → P one_ℚ → (w : List Rational)
    → ((v : List Rational) → length v ≡ length w → All P v → zero_ℚ ≤ℚ dot w v)
    → All (λ p. zero_ℚ ≤ℚ p) w
nonneg_units P z k w h = λ i d b. times_one _ (unit_products P one_ℚ z k w h i d b)

pub nonpos_units : (P : Rational → Type 0) → P zero_ℚ → P (neg_ℚ one_ℚ) → (w : List Rational)
    → ((v : List Rational) → length v ≡ length w → All P v → zero_ℚ ≤ℚ dot w v)
    → All (λ p. p ≤ℚ zero_ℚ) w
nonpos_units P z k w h = λ i d b. below_zero _ (unit_products P (neg_ℚ one_ℚ) z k w h i d b)

pub zero_units : (w : List Rational)
    → ((v : List Rational) → length v ≡ length w → zero_ℚ ≤ℚ dot w v) → All (λ p. p ≡ zero_ℚ) w
zero_units w h =
    λ i d b. ≤ℚ_antisymm _ zero_ℚ (nonpos_units (λ x. Unit {0}) tt tt w (λ v e a. h v e) i d b)
    (nonneg_units (λ x. Unit {0}) tt tt w (λ v e a. h v e) i d b)

-- ---- the norm cones

-- 1 with the sign that q doesn't have
abbrev against_by : (q : Rational) → (zero_ℚ ≤ℚ q) ⊎ (q ≤ℚ zero_ℚ) → Rational
against_by q (inl h) = neg_ℚ one_ℚ
against_by q (inr h) = one_ℚ

abbrev against : Rational → Rational
against q = against_by q (≤ℚ_total zero_ℚ q)

abs_against : (q : Rational) → abs_ℚ (against q) ≡ one_ℚ
abs_against q = by_sign (≤ℚ_total zero_ℚ q)
  where
    by_sign : (c : (zero_ℚ ≤ℚ q) ⊎ (q ≤ℚ zero_ℚ)) → abs_ℚ (against_by q c) ≡ one_ℚ
    by_sign (inl h) = abs_ℚ-neg_ℚ one_ℚ ∙ abs_one
    by_sign (inr h) = abs_one

times_against : (q : Rational) → q *ℚ against q ≡ neg_ℚ (abs_ℚ q)
times_against q = by_sign (≤ℚ_total zero_ℚ q)
  where
    by_sign : (c : (zero_ℚ ≤ℚ q) ⊎ (q ≤ℚ zero_ℚ)) → q *ℚ against_by q c ≡ neg_ℚ (abs_ℚ q)
    by_sign (inl h) = times_neg_one q ∙ ap neg_ℚ (sym (abs_ℚ_nonneg q h))
    by_sign (inr h) = *ℚ-one q ∙ sym (neg_ℚ-neg_ℚ q) ∙ ap neg_ℚ (sym (abs_ℚ_nonpos q h))

dot_against : (w : List Rational) → dot w (map against w) ≡ neg_ℚ (norm w)
dot_against [] = sym neg_ℚ-zero
dot_against (q ∷ w) = ap₂ ◌+ℚ◌ (times_against q) (dot_against w)
    ∙ sym (neg_ℚ-sum (abs_ℚ q) (norm w))

length_against : (w : List Rational) → length (map against w) ≡ length w
length_against [] = refl
length_against (q ∷ w) = ap suc (length_against w)

against_within : (w : List Rational) → All (λ q. abs_ℚ q ≤ℚ one_ℚ) (map against w)
against_within [] = All-nil (λ q. abs_ℚ q ≤ℚ one_ℚ)
against_within (q ∷ w) = All-cons (λ q. abs_ℚ q ≤ℚ one_ℚ) (against q) (map against w)
    (≤ℚ_from_≡ (abs_ℚ (against q)) one_ℚ (abs_against q)) (against_within w)

pub sum_dominated : (w : List Rational)
    → ((v : List Rational) → length v ≡ length w → DominatesEach v → zero_ℚ ≤ℚ dot w v)
    → DominatesSum w
sum_dominated [] h = ≤ℚ_refl zero_ℚ
sum_dominated (p ∷ w) h =
    norm_dominated p w (≤ℚ_from_nonneg (norm w) p
    (subst (λ x. zero_ℚ ≤ℚ x) (ap₂ ◌+ℚ◌ (*ℚ-one p) (dot_against w))
    (h (one_ℚ ∷ map against w) (ap suc (length_against w)) (against_within w))))

-- the vectors v that may follow 1 in the cone of sums
within_products : (p : Rational) (w : List Rational)
    → ((v : List Rational) → length v ≡ length w → norm v ≤ℚ one_ℚ → zero_ℚ ≤ℚ (p +ℚ dot w v))
    → All (λ q. abs_ℚ q ≤ℚ p) w
within_products p [] h = All-nil (λ q. abs_ℚ q ≤ℚ p)
within_products p (q ∷ w) h =
    All-cons (λ q. abs_ℚ q ≤ℚ p) q w
    (≤ℚ_from_nonneg (abs_ℚ q) p (subst (λ x. zero_ℚ ≤ℚ (p +ℚ x))
    (dot_front q (against q) w (length w) ∙ times_against q)
    (h (against q ∷ zeros (length w)) (ap suc (length-zeros (length w)))
    (≤ℚ_from_≡ _ one_ℚ (ap₂ ◌+ℚ◌ (abs_against q) (norm_zeros (length w)) ∙ +ℚ-zero one_ℚ)))))
    (within_products p w (λ v e s. subst (λ x. zero_ℚ ≤ℚ (p +ℚ x)) (dot_behind q w v)
    (h (zero_ℚ ∷ v) (ap suc e) (subst (λ x. x ≤ℚ one_ℚ)
    (sym (ap (λ x. x +ℚ norm v) abs_zero ∙ zero-+ℚ (norm v))) s))))

pub each_dominated : (w : List Rational)
    → ((v : List Rational) → length v ≡ length w → DominatesSum v → zero_ℚ ≤ℚ dot w v)
    → DominatesEach w
each_dominated [] h = All-nil (λ q. abs_ℚ q ≤ℚ zero_ℚ)
each_dominated (p ∷ w) h =
    within_products p w (λ v e s. subst (λ x. zero_ℚ ≤ℚ (x +ℚ dot w v)) (*ℚ-one p)
    (h (one_ℚ ∷ v) (ap suc e) (norm_dominated one_ℚ v s)))
