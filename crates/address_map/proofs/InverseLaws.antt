-- Two partial functions that lead back to each other: one more pair, and one less.
use Rattle.std.specs.Prelude.{◌≡◌, ◌≢◌, ℕ, Bool, true, false, cond, Option, Some, None, nat_eq, refl}
use Rattle.std.proofs.Common.{arith, sym, ap, ◌∙◌}
use Rattle.std.proofs.lemmas.Bool.Decides.{nat_tests}
use Rattle.std.proofs.lemmas.Option.{none-some, same_Some}
use Rattle.std.proofs.lemmas.Bool.{eqb-true, ne_eqb}
use Rattle.std.specs.FinMap as finite
use Rattle.std.specs.Ordering.{eq_by_cmp}
use Rattle.aff_core.specs.Address.{Address, address_cmp, address_total}
use Rattle.aff_core.specs.KeyOrder.{address_order, other_key, same_key, same_or_other}
use Rattle.address_map.specs.KeptPlaces.{AreInverseMaps}
use Rattle.address_map.specs.Places.{AreIndicesOneToOne, Indices, IsIndexFree}

index_itself : (i : ℕ) → nat_eq i i ≡ true
index_itself i = grind (arith, nat_tests)

module _ (m : Indices) (back : ℕ → Option Address) (inverse : AreInverseMaps (finite.get m) back) where
  pub one_to_one : AreIndicesOneToOne m
  one_to_one one other i e k =
      same_Some one other (sym (inverse.leads one i e) ∙ inverse.leads other i k)

  -- an index that no address has leads nowhere
  pub leads_nowhere : (i : ℕ) → IsIndexFree m i → back i ≡ None
  leads_nowhere i free = by (back i) refl
    where
      by : (o : Option Address) → back i ≡ o → o ≡ None
      by None e = refl
      by (Some at) e = absurd (free at (inverse.returns at i e))

  -- one more pair, both new
  pub inverse_put : (at : Address) (i : ℕ) (after : ℕ → Option Address) → finite.get m at ≡ None
      → IsIndexFree m i → ((j : ℕ) → after j ≡ cond (nat_eq i j) (Some at) (back j))
      → AreInverseMaps (finite.get (finite.insert m at i)) after
  inverse_put at i after at_free i_free put = record { leads = leads; returns = returns }
    where
      leads : (q : Address) (j : ℕ) → finite.get (finite.insert m at i) q ≡ Some j
          → after j ≡ Some q
      leads q j e = same_or_other address_order _ q at here there
        where
          got : cond (eq_by_cmp address_cmp q at) (Some i) (finite.get m q) ≡ Some j
          got = sym (finite.get-insert address_total m at i q) ∙ e

          here : q ≡ at → after j ≡ Some q
          here s =
              let tied : eq_by_cmp address_cmp q at ≡ true =
              ap (λ x. eq_by_cmp address_cmp x at) s ∙ same_key address_order at in
              let index : i ≡ j =
              same_Some i j (sym (ap (λ b. cond b (Some i) (finite.get m q)) tied) ∙ got) in
              put j ∙ ap (λ b. cond b (Some at) (back j)) (ap (λ x. nat_eq i x) (sym index)
              ∙ index_itself i) ∙ ap Some (sym s)

          there : ¬ (q ≡ at) → after j ≡ Some q
          there n =
              let old : finite.get m q ≡ Some j =
              sym (ap (λ b. cond b (Some i) (finite.get m q))
              (other_key address_order q at n)) ∙ got in
              let apart : i ≢ j = λ s. i_free q (old ∙ ap Some (sym s)) in
              put j ∙ ap (λ b. cond b (Some at) (back j)) (ne_eqb i j apart) ∙ inverse.leads q j old

      returns : (q : Address) (j : ℕ) → after j ≡ Some q
          → finite.get (finite.insert m at i) q ≡ Some j
      returns q j e = by (nat_eq i j) refl
        where
          by : (b : Bool) → nat_eq i j ≡ b → finite.get (finite.insert m at i) q ≡ Some j
          by true t =
              let key : at ≡ q = same_Some at q (sym (put j ∙ ap (λ b. cond b (Some at) (back j)) t)
              ∙ e) in
              finite.get-insert address_total m at i q
              ∙ ap (λ b. cond b (Some i) (finite.get m q)) (ap (λ x. eq_by_cmp address_cmp x at)
              (sym key) ∙ same_key address_order at)
              ∙ ap Some (eqb-true i j t)
          by false t =
              let old : finite.get m q ≡ Some j =
              inverse.returns q j (sym (put j ∙ ap (λ b. cond b (Some at) (back j)) t) ∙ e) in
              let apart : ¬ (q ≡ at) =
              λ s. none-some j (sym at_free ∙ (ap (finite.get m) (sym s) ∙ old)) in
              finite.get-insert address_total m at i q ∙ ap (λ b. cond b (Some i) (finite.get m q))
              (other_key address_order q at apart) ∙ old

  -- one pair less
  pub inverse_removed : (at : Address) (i : ℕ) (after : ℕ → Option Address)
      → finite.get m at ≡ Some i → ((j : ℕ) → after j ≡ cond (nat_eq i j) None (back j))
      → AreInverseMaps (finite.get (finite.remove m at)) after
  inverse_removed at i after has taken = record { leads = leads; returns = returns }
    where
      leads : (q : Address) (j : ℕ) → finite.get (finite.remove m at) q ≡ Some j → after j ≡ Some q
      leads q j e = same_or_other address_order _ q at here there
        where
          got : cond (eq_by_cmp address_cmp q at) None (finite.get m q) ≡ Some j
          got = sym (finite.get-remove address_total m at q) ∙ e

          here : q ≡ at → after j ≡ Some q
          here s =
              let tied : eq_by_cmp address_cmp q at ≡ true =
              ap (λ x. eq_by_cmp address_cmp x at) s ∙ same_key address_order at in
              absurd (none-some j (sym (ap (λ b. cond b None (finite.get m q)) tied) ∙ got))

          there : ¬ (q ≡ at) → after j ≡ Some q
          there n =
              let old : finite.get m q ≡ Some j =
              sym (ap (λ b. cond b None (finite.get m q))
              (other_key address_order q at n)) ∙ got in
              let apart : i ≢ j = λ s. n (one_to_one q at j old (has ∙ ap Some s)) in
              taken j ∙ ap (λ b. cond b None (back j)) (ne_eqb i j apart) ∙ inverse.leads q j old

      returns : (q : Address) (j : ℕ) → after j ≡ Some q
          → finite.get (finite.remove m at) q ≡ Some j
      returns q j e = by (nat_eq i j) refl
        where
          by : (b : Bool) → nat_eq i j ≡ b → finite.get (finite.remove m at) q ≡ Some j
          by true t = absurd (none-some q (sym (taken j ∙ ap (λ b. cond b None (back j)) t) ∙ e))
          by false t =
              let old : finite.get m q ≡ Some j =
              inverse.returns q j (sym (taken j ∙ ap (λ b. cond b None (back j)) t) ∙ e) in
              let apart : ¬ (q ≡ at) = λ s.
              let same : i ≡ j = same_Some i j (sym has ∙ (ap (finite.get m) (sym s) ∙ old)) in
              let both : true ≡ false =
              sym (ap (λ x. nat_eq i x) (sym same) ∙ index_itself i) ∙ t in cc in
              finite.get-remove address_total m at q ∙ ap (λ b. cond b None (finite.get m q))
              (other_key address_order q at apart) ∙ old

-- nothing leads nowhere
pub inverse_empty : (m : Indices) (back : ℕ → Option Address) → m ≡ finite.empty
    → ((i : ℕ) → back i ≡ None) → AreInverseMaps (finite.get m) back
inverse_empty m back none nowhere = record {
  leads = λ at i e. absurd (none-some i (sym (ap (λ x. finite.get x at) none
      ∙ finite.get-empty address_cmp at) ∙ e));
  returns = λ at i e. absurd (none-some at (sym (nowhere i) ∙ e));
}
