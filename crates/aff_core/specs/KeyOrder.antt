-- Orders of keys in which only equal keys tie.
use Rattle.std.specs.Prelude.{◌≡◌, Bool, true, false}
use Rattle.std.proofs.Common.{ap, subst, sym, ◌∙◌, true≢false}
use Rattle.std.specs.Bool.{Decides}
use Rattle.std.specs.Cmp.{IsTotalOrder, Equal-is, tied_itself}
use Rattle.std.specs.FinMap.{IsAntisymmetric}
use Rattle.std.specs.Ordering.{eq_by_cmp, is_eq}
use Rattle.std.specs.declared.cmp.Ordering.{Ordering}
use Rattle.std.specs.declared.cmp.Ordering.TheVariants.{Equal}
use Rattle.std.proofs.lemmas.Bool.{false_from_ne_true}
use Rattle.aff_core.specs.Address.{address_cmp, address_total, exact_addresses}

pub record IsKeyOrder {K : Type 0} (R : K → K → Ordering) : Type 0 where
  pub total : IsTotalOrder R
  pub exact : IsAntisymmetric R

pub address_order : IsKeyOrder address_cmp
address_order = record { total = address_total; exact = exact_addresses }

module _ {K : Type 0} {R : K → K → Ordering} (o : IsKeyOrder R) where
  -- so a test by the order is one of equality
  pub key_eq-Decides : (a b : K) → Decides (eq_by_cmp R a b) (a ≡ b)
  key_eq-Decides a b = (
    λ e. o.exact a b ((Equal-is (R a b)).0 e),
    λ e. ap is_eq
        (subst (λ c. R a c ≡ Equal) e (tied_itself o.total a)),
  )

  pub same_key : (a : K) → eq_by_cmp R a a ≡ true
  same_key a = (key_eq-Decides a a).1 (λ i. a)

  pub other_key : (a b : K) → ¬ (a ≡ b) → eq_by_cmp R a b ≡ false
  other_key a b n = by (eq_by_cmp R a b) (λ i. eq_by_cmp R a b)
    where
      by : (t : Bool) → eq_by_cmp R a b ≡ t → t ≡ false
      by true e = absurd (n ((key_eq-Decides a b).0 e))
      by false e = λ i. false

  -- keys that are apart are so either way
  pub either_way : (a b : K) → eq_by_cmp R a b ≡ false → eq_by_cmp R b a ≡ false
  either_way a b e = false_from_ne_true (eq_by_cmp R b a)
      (λ k. true≢false (sym ((key_eq-Decides a b).1 (sym ((key_eq-Decides b a).0 k))) ∙ e))

  -- a fact by whether two keys are equal
  pub same_or_other : (C : Type 0) (a b : K) → (a ≡ b → C) → (¬ (a ≡ b) → C) → C
  same_or_other C a b same other = by (eq_by_cmp R a b) (λ i. eq_by_cmp R a b)
    where
      by : (t : Bool) → eq_by_cmp R a b ≡ t → C
      by true e = same ((key_eq-Decides a b).0 e)
      by false e = other (λ k. true≢false (sym ((key_eq-Decides a b).1 k) ∙ e))
