-- Weak duality, for points and rays at once: where duals hold and the functions are in their sets,
-- the gap times `one` is at most the pull. So a point's value is at least the duals' objective, a
-- ray leads nowhere below, and a gap above 0 of rows without a pull leaves no point.
use Rattle.std.specs.Prelude.{◌≡◌, List, [], ◌∷◌, length, refl}
use Rattle.std.proofs.Common.{sym, subst}
use Rattle.std.proofs.lemmas.List.{length-map}
use Rattle.std.proofs.lemmas.List.Elements.{All-head, All-tail}
use Rattle.ratio_core.specs.Rational.{Rational, neg_ℚ, one_ℚ, zero_ℚ, ◌*ℚ◌, ◌+ℚ◌, ◌-ℚ◌, ◌≤ℚ◌, ◌‹ℚ◌}
use Rattle.rational_laws.specs.Dot.{dot}
use Rattle.rational_laws.specs.Field.{*ℚ-+ℚ, *ℚ-zero, one-*ℚ}
use Rattle.rational_laws.specs.Order.{not_‹ℚ_from_≤ℚ, zero_‹ℚ_one, ≤ℚ-+ℚ, ≤ℚ-+ℚ_left, ≤ℚ-+ℚ_right, ≤ℚ_from_‹ℚ, ≤ℚ_refl}
use Rattle.rational_laws.specs.Ring.{as_expression, by_ring, ring₄}
use Rattle.aff_core.specs.Address.{Address}
use Rattle.aff_core.specs.Function.{Function, coefficient, evaluated, slope, value_of}
use Rattle.aff_core.specs.FunctionLists.{constants, evaluations}
use Rattle.linear_laws.specs.ListLaws.{dot_evaluations}
use Rattle.set_core.specs.Membership.{low_of}
use Rattle.set_core.specs.Mirrored.{multiplied}
use Rattle.set_laws.specs.Least.{low_least}
use Rattle.set_laws.specs.Multiples.{dual_of-multiplied, low_multiplied, multiplied_set}
use Rattle.dual_laws.specs.Held.{AllHold, DualsHold, DualRow, Holds, IsHeld, adjoint, gap, gap_of, pull, pull_of}
use Rattle.dual_laws.specs.PullLaws.{pull_is_slope, pull_none}

one_nonneg : zero_ℚ ≤ℚ one_ℚ
one_nonneg = ≤ℚ_from_‹ℚ zero_ℚ one_ℚ zero_‹ℚ_one

module _ (one : Rational) (a : zero_ℚ ≤ℚ one) (x : Address → Rational) where
  moved : (o l k s : Rational) → (o *ℚ l) ≤ℚ (o *ℚ k +ℚ s) → (o *ℚ (l -ℚ k)) ≤ℚ s
  moved o l k s h =
      subst (λ q. (o *ℚ (l -ℚ k)) ≤ℚ q) (right o l k s)
      (subst (λ q. q ≤ℚ ((o *ℚ k +ℚ s) -ℚ o *ℚ k)) (left o l k s)
      (≤ℚ-+ℚ_right (o *ℚ l) (o *ℚ k +ℚ s) (neg_ℚ (o *ℚ k)) h))
    where
      left : (o l k s : Rational) → o *ℚ l -ℚ o *ℚ k ≡ o *ℚ (l -ℚ k)
      left = ring₄ _ (λ ρ. simp as_expression (by_ring ρ _ _ refl))

      right : (o l k s : Rational) → (o *ℚ k +ℚ s) -ℚ o *ℚ k ≡ s
      right = ring₄ _ (λ ρ. simp as_expression (by_ring ρ _ _ refl))

  pub gap_below : (h : DualRow) → IsHeld h → Holds one h x → (one *ℚ gap_of h) ≤ℚ pull_of h x
  gap_below h d i =
      moved one (low_of h.set h.duals) (dot h.duals (constants h.functions)) (pull_of h x)
      (subst (λ q. q ≤ℚ (one *ℚ dot h.duals (constants h.functions) +ℚ pull_of h x))
      (low_multiplied one h.set h.duals)
      (subst (λ q. low_of (multiplied one h.set) h.duals ≤ℚ q)
      (dot_evaluations h.duals one h.functions x)
      (low_least (length h.functions) (multiplied one h.set) h.duals (evaluations one h.functions x)
      (multiplied_set one a (length h.functions) h.set d.set) d.size
      (length-map h.functions (λ f. evaluated one f x)) i
      (dual_of-multiplied one h.set h.duals d.dual))))

  pub gaps_below : (hs : List DualRow) → DualsHold hs → AllHold one hs x → (one *ℚ gap hs) ≤ℚ pull hs x
  gaps_below [] d i = subst (λ q. q ≤ℚ zero_ℚ) (sym (*ℚ-zero one)) (≤ℚ_refl zero_ℚ)
  gaps_below (h ∷ hs) d i =
      subst (λ q. q ≤ℚ (pull_of h x +ℚ pull hs x)) (sym (*ℚ-+ℚ one (gap_of h) (gap hs)))
      (≤ℚ-+ℚ (one *ℚ gap_of h) (pull_of h x) (one *ℚ gap hs) (pull hs x)
      (gap_below h (All-head IsHeld h hs d) (All-head (λ h. Holds one h x) h hs i))
      (gaps_below hs (All-tail IsHeld h hs d) (All-tail (λ h. Holds one h x) h hs i)))

  -- where the adjoint is a function's coefficients, its slope is at least the gap times `one`
  pub weak_duality : (hs : List DualRow) (f : Function) → DualsHold hs
      → ((v : Address) → adjoint hs v ≡ coefficient f v) → AllHold one hs x
      → (one *ℚ gap hs) ≤ℚ slope f x
  weak_duality hs f d e i =
      subst (λ q. (one *ℚ gap hs) ≤ℚ q) (pull_is_slope hs f e x) (gaps_below hs d i)

-- the value at a point is at least the duals' objective
pub value_above_duals : (hs : List DualRow) (f : Function) (x : Address → Rational) → DualsHold hs
    → ((v : Address) → adjoint hs v ≡ coefficient f v) → AllHold one_ℚ hs x
    → (f.constant +ℚ gap hs) ≤ℚ value_of f x
unfolding value_of
value_above_duals hs f x d e i =
    ≤ℚ-+ℚ_left (gap hs) (slope f x) f.constant
    (subst (λ q. q ≤ℚ slope f x) (one-*ℚ (gap hs)) (weak_duality one_ℚ one_nonneg x hs f d e i))

-- a gap above 0 where every adjoint is 0 is a proof that no point is in all sets
pub no_point : (hs : List DualRow) (x : Address → Rational) → DualsHold hs
    → ((v : Address) → adjoint hs v ≡ zero_ℚ) → zero_ℚ ‹ℚ gap hs → ¬ (AllHold one_ℚ hs x)
no_point hs x d e g i =
    not_‹ℚ_from_≤ℚ (gap hs) zero_ℚ
    (subst (λ q. q ≤ℚ zero_ℚ) (one-*ℚ (gap hs)) (subst (λ q. (one_ℚ *ℚ gap hs) ≤ℚ q)
    (pull_none hs e x) (gaps_below one_ℚ one_nonneg x hs d i))) g
