-- Addresses that stand once: the keys of finite maps, what is listed at them, and slopes over them.
use Rattle.std.specs.Prelude.{◌≡◌, Bool, true, false, T, cond, List, [], ◌∷◌, IsSome, Some, length, map, refl}
use Rattle.std.specs.FinMap as finite
use Rattle.std.specs.FinMap.{FinMap, is_sorted}
use Rattle.std.specs.FinMap.Entries.{below_all, find}
use Rattle.std.specs.List.{AllByRecursion, IsDistinct}
use Rattle.std.proofs.Common.{sym, ◌∙◌, ap, ap₂, arith, subst, true≢false}
use Rattle.std.proofs.lemmas.Map.Keys.{IsDistinct-cons, IsDistinct-head, IsDistinct-tail}
use Rattle.std.specs.Cmp.{eq_by_cmp_equiv}
use Rattle.std.specs.Ordering.{is_eq}
use Rattle.ratio_core.specs.Rational.{one_ℚ, zero_ℚ, ◌+ℚ◌}
use Rattle.rational_laws.specs.Field.{+ℚ-zero, zero-+ℚ}
use Rattle.aff_core.specs.Address.{Address, address_cmp, address_eq, address_eq-Decides, address_total}
use Rattle.aff_core.specs.KeyOrder.{address_order, same_key}
use Rattle.aff_core.specs.Points.{unit}
use Rattle.linear_laws.specs.SupportLaws.{count}
use Rattle.linear_laws.specs.UnitLaws.{unit_other, unit_same}
use Rattle.map_laws.specs.OptionLaws.{not_some}
use Rattle.map_laws.specs.TestLaws.{first, is_less, second}
use Rattle.equality_form.specs.ReadBack.{listed_at}

-- ---- keys are distinct

below_apart : {X : Type 0} (a : Address) (es : List (Address × X)) → T (below_all address_cmp a es)
    → AllByRecursion (λ u. address_eq a u ≡ false) (map (λ e. e.0) es)
below_apart a [] h = tt
below_apart a (e ∷ es) h = (ap is_eq (is_less _ (first _ _ h)), below_apart a es (second _ _ h))

distinct_keys : {X : Type 0} (es : List (Address × X)) → T (is_sorted address_cmp es)
    → IsDistinct address_eq (map (λ e. e.0) es)
unfolding IsDistinct
distinct_keys [] h = tt
distinct_keys (e ∷ es) h =
    IsDistinct-cons address_eq e.0 (map (λ x. x.0) es) (below_apart e.0 es (first _ _ h))
    (distinct_keys es (second _ _ h))

pub keys_distinct : {X : Type 0} (m : FinMap address_cmp X) → IsDistinct address_eq (finite.keys m)
keys_distinct m = distinct_keys (finite.entries m) (finite.entries_sorted m)

-- ---- what is listed at distinct addresses

module _ {X : Type 0} (none : X) where
  past_first : (a : Address) (x : X) (us vs : List Address) (xs : List X)
      → AllByRecursion (λ u. address_eq a u ≡ false) us
      → map (listed_at none (a ∷ vs) (x ∷ xs)) us ≡ map (listed_at none vs xs) us
  past_first a x [] vs xs apart = refl
  past_first a x (u ∷ us) vs xs apart =
      ap₂ (λ y ys. y
      ∷ ys) (ap (λ b. cond b x (listed_at none vs xs u))
      ((eq_by_cmp_equiv address_total).symm u a ∙ apart.0)) (past_first a x us vs xs apart.1)

  pub listed : (us : List Address) (xs : List X) → IsDistinct address_eq us → length xs ≡ length us
      → map (listed_at none us xs) us ≡ xs
  listed [] [] d n = refl
  listed [] (x ∷ xs) d n = absurd (omega (arith, n))
  listed (a ∷ us) [] d n = absurd (omega (arith, n))
  listed (a ∷ us) (x ∷ xs) d n =
      ap₂ (λ y ys. y ∷ ys) (ap (λ b. cond b x (listed_at none us xs a)) (same_key address_order a))
      (past_first a x us us xs (IsDistinct-head _ a us d)
      ∙ listed us xs (IsDistinct-tail _ a us d) (omega (arith, n)))

-- ---- a key stands once

module _ {X : Type 0} where
  count_absent : (w : Address) (es : List (Address × X)) → T (below_all address_cmp w es)
      → count (map (λ e. e.0) es) w ≡ zero_ℚ
  count_absent w [] h = refl
  count_absent w (e ∷ es) h =
      ap₂ ◌+ℚ◌ (unit_other e.0 w (λ k. true≢false (sym ((address_eq-Decides w e.0).1 (sym k))
      ∙ ap is_eq (is_less _ (first _ _ h))))) (count_absent w es (second _ _ h))
      ∙ +ℚ-zero zero_ℚ

  count_found : (w : Address) (es : List (Address × X)) → T (is_sorted address_cmp es)
      → IsSome (find address_cmp w es) → count (map (λ e. e.0) es) w ≡ one_ℚ
  count_found w [] h k = absurd (not_some (find {X = X} address_cmp w []) refl k)
  count_found w (e ∷ es) h k = by_test (count_found w es (second _ _ h)) (address_eq w e.0) refl k
    where
      by_test : (IsSome (find address_cmp w es) → count (map (λ e. e.0) es) w ≡ one_ℚ) → (b : Bool)
          → address_eq w e.0 ≡ b → IsSome (cond b (Some e.1) (find address_cmp w es))
          → unit e.0 w +ℚ count (map (λ e. e.0) es) w ≡ one_ℚ
      by_test rest true t k =
          let same = (address_eq-Decides w e.0).0 t in
          ap₂ ◌+ℚ◌ (ap (λ u. unit u w) (sym same) ∙ unit_same w)
          (count_absent w es (subst (λ u. T (below_all address_cmp u es)) (sym same)
          (first _ _ h)))
          ∙ +ℚ-zero one_ℚ
      by_test rest false t k =
          ap₂ ◌+ℚ◌ (unit_other e.0 w (λ s. true≢false (sym ((address_eq-Decides w e.0).1 (sym s))
          ∙ t))) (rest k)
          ∙ zero-+ℚ one_ℚ

  pub key_once : (m : FinMap address_cmp X) (w : Address) → IsSome (finite.get m w)
      → count (finite.keys m) w ≡ one_ℚ
  key_once m w h = count_found w (finite.entries m) (finite.entries_sorted m)
      (subst IsSome (finite.get-entries m w) h)
