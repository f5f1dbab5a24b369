-- At how many addresses a map differs from what it was at the start, as one address after another
-- is set or taken out.
use Rattle.std.specs.Prelude.{◌≡◌, ◌↔◌, ◌⊎◌, ℕ, zero, suc, ◌+◌, false, List, [], ◌∷◌, Contains, refl}
use Rattle.std.specs.FinMap as finite
use Rattle.std.specs.FinMap.{FinMap}
use Rattle.std.specs.List.{AllByRecursion, IsDistinct}
use Rattle.std.proofs.Common.{inl, inr, sym, ◌∙◌, ap, subst, arith}
use Rattle.std.proofs.lemmas.Map.Keys.{IsDistinct-cons}
use Rattle.map_laws.specs.EachLaws.{contains_here, contains_later}
use Rattle.aff_core.specs.Address.{Address, address_cmp, address_eq}
use Rattle.aff_core.specs.KeyOrder.{address_order, other_key, same_or_other}
use Rattle.leaf_model.specs.LeafModel.{Differ, IsCountOf}
use Rattle.leaf_update.specs.Steps.{CountsMore}

pub contains_first : (k v : Address) (ks : List Address) → Contains (k ∷ ks) v → (v ≡ k) ⊎ Contains ks v
contains_first k v ks (zero, inside, is) = inl (sym is)
contains_first k v ks (suc i, inside, is) = inr (i, omega (arith, inside), is)

apart_from : (k : Address) (ks : List Address) → ¬ (Contains ks k)
    → AllByRecursion (λ y. address_eq k y ≡ false) ks
apart_from k [] n = tt
apart_from k (y ∷ ks) n = (
  other_key address_order k y (λ e. n (subst (Contains (y ∷ ks)) (sym e) (contains_here y ks))),
  apart_from k ks (λ c. n (contains_later y k ks c)),
)

count_same : {P Q : Address → Type 0} (n : ℕ) → ((q : Address) → P q ↔ Q q) → IsCountOf P n
    → IsCountOf Q n
count_same n same counts = record {
  addresses = counts.addresses;
  distinct = counts.distinct;
  each = λ q. (λ c. (same q).0 ((counts.each q).0 c), λ h. (counts.each q).1 ((same q).1 h));
  count = counts.count;
}

count_more : {P Q : Address → Type 0} (n : ℕ) (at : Address) → ¬ (P at)
    → ((q : Address) → (Q q) ↔ (P q ⊎ (q ≡ at))) → IsCountOf P n → IsCountOf Q (n + 1)
count_more {P} {Q} n at out more counts = record {
  addresses = at ∷ counts.addresses;
  distinct = IsDistinct-cons address_eq at counts.addresses (apart_from at counts.addresses
      (λ c. out ((counts.each at).0 c))) counts.distinct;
  each = λ q. (
    λ c. (more q).1 (from q (contains_first at q counts.addresses c)),
    λ h. to q ((more q).0 h),
  );
  count = omega (arith, counts.count);
}
  where
    from : (q : Address) → (q ≡ at) ⊎ Contains counts.addresses q → P q ⊎ (q ≡ at)
    from q (inl e) = inr e
    from q (inr c) = inl ((counts.each q).0 c)

    to : (q : Address) → P q ⊎ (q ≡ at) → Contains (at ∷ counts.addresses) q
    to q (inl h) = contains_later at q counts.addresses ((counts.each q).1 h)
    to q (inr e) =
        subst (Contains (at ∷ counts.addresses)) (sym e) (contains_here at counts.addresses)

-- at the start nothing differs
pub counts_none : {X : Type 0} (start : FinMap address_cmp X) → IsCountOf (Differ start start) 0
unfolding IsDistinct
counts_none start = record {
  addresses = [];
  distinct = tt;
  each = λ q. (λ c. absurd (omega (arith, c.1)), λ d. absurd (d refl));
  count = refl;
}

-- what is set, or taken out, at an address where the map is still as at the start
module _ {X : Type 0} (start m n : FinMap address_cmp X) (at : Address)
    (as_was : finite.get m at ≡ finite.get start at)
    (beside : (q : Address) → ¬ (q ≡ at) → finite.get n q ≡ finite.get m q) where
  pub counts_same : finite.get n at ≡ finite.get m at → CountsMore start m n 0
  counts_same here k counts =
      count_zero (count_same k each counts)
    where
      there : (q : Address) → finite.get n q ≡ finite.get m q
      there q = same_or_other address_order _ q at
          (λ e. ap (finite.get n) e ∙ here ∙ ap (finite.get m) (sym e)) (beside q)

      each : (q : Address) → Differ start m q ↔ Differ start n q
      each q = (λ d e. d (e ∙ there q), λ d e. d (e ∙ sym (there q)))

      count_zero : IsCountOf (Differ start n) k → IsCountOf (Differ start n) (k + 0)
      count_zero c = subst (IsCountOf (Differ start n)) (omega arith) c

  pub counts_one : ¬ (finite.get n at ≡ finite.get m at) → CountsMore start m n 1
  counts_one other k counts =
      count_more k at (λ d. d (sym as_was)) each counts
    where
      differs : (q : Address) → q ≡ at → Differ start n q
      differs q e d =
          other (ap (finite.get n) (sym e) ∙ sym d ∙ ap (finite.get start) e ∙ sym as_was)

      each : (q : Address) → Differ start n q ↔ (Differ start m q ⊎ (q ≡ at))
      each q = (
        λ d. same_or_other address_order _ q at (λ e. inr e) (λ k. inl (λ e. d (e ∙ sym (beside q k)))),
        back,
      )
        where
          back : Differ start m q ⊎ (q ≡ at) → Differ start n q
          back (inl d) = same_or_other address_order _ q at (differs q) (λ k e. d (e ∙ beside q k))
          back (inr e) = differs q e
