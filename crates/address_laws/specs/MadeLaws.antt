-- A map that is made of entries with distinct keys has exactly these.
use Rattle.std.specs.Prelude.{◌≡◌, Bool, true, false, cond, List, [], ◌∷◌, Option, Some, None, refl}
use Rattle.std.specs.BTreeMap.{is_at}
use Rattle.std.specs.FinMap.{FinMap, entries, entries-insert, find, from_entries, get-entries}
use Rattle.std.specs.FinMap.Entries.{by_order, put}
use Rattle.std.specs.List.{IsDistinct}
use Rattle.std.specs.List.Sorted.{IsPermutation}
use Rattle.std.specs.Map.{keys_of, lookup}
use Rattle.std.specs.Ordering.{is_eq}
use Rattle.std.specs.declared.cmp.Ordering.{Ordering}
use Rattle.std.specs.declared.cmp.Ordering.TheVariants.{Less, Equal, Greater}
use Rattle.std.proofs.Common.{sym, ap, subst, ◌∙◌}
use Rattle.std.proofs.lemmas.List.Elements.{All-head, All-tail}
use Rattle.std.proofs.lemmas.List.Sorted.{IsPermutation-cons, IsPermutation-middle, IsPermutation-refl, IsPermutation-sym, IsPermutation-trans}
use Rattle.ratio_core.specs.Rational.{Rational, ◌+ℚ◌}
use Rattle.rational_laws.specs.Field.{+ℚ_left_comm}
use Rattle.rational_laws.specs.Sums.{sum_by_ℚ}
use Rattle.aff_core.specs.Address.{Address, address_cmp, address_eq, address_eq-Decides, address_total}
use Rattle.map_laws.specs.MadeLaws.{entries_empty, get_made}
use Rattle.address_laws.specs.Apart.{Avoids, Distinct, is_distinct}

-- the keys are distinct, and the entries are those of the map, which has them in their order
pub record HasExactly {X : Type 0} (m : FinMap address_cmp X)
    (es : List (Address × X)) : Type 0 where
  pub keys : IsDistinct address_eq (keys_of es)
  pub entries : IsPermutation es (entries m)

module _ {X : Type 0} where
  pub absent : (es : List (Address × X)) (q : Address) → Avoids (keys_of es) q
      → lookup (is_at (address_cmp q)) es ≡ None
  absent [] q h = refl
  absent (e ∷ es) q h =
      by (address_eq q e.0) refl (absent es q (All-tail (λ k. ¬ (k ≡ q)) e.0 (keys_of es) h))
    where
      by : (b : Bool) → address_eq q e.0 ≡ b → lookup (is_at (address_cmp q)) es ≡ None
          → lookup (is_at (address_cmp q)) (e ∷ es) ≡ None
      by true is rest =
          absurd (All-head (λ k. ¬ (k ≡ q)) e.0 (keys_of es) h
          (sym ((address_eq-Decides q e.0).0 is)))
      by false is rest =
          ap (λ b. cond b (Some e.1) (lookup (is_at (address_cmp q)) es)) is ∙ rest

  not_found : (es : List (Address × X)) (q : Address) → Avoids (keys_of es) q
      → find address_cmp q (entries (from_entries {R = address_cmp} es)) ≡ None
  not_found es q h =
      sym (get-entries (from_entries es) q) ∙ get_made address_total es q ∙ absent es q h

  -- ---- an entry that is put where nothing stands

  none_here : {C : Type 0} (x : X) (o : Option X) → Some x ≡ None → C
  none_here x o e = cc

  put_permuted : (k : Address) (v : X) (es : List (Address × X)) → find address_cmp k es ≡ None
      → IsPermutation ((k, v) ∷ es) (put address_cmp k v es)
  put_permuted k v [] h = IsPermutation-refl ((k, v) ∷ [])
  put_permuted k v (e ∷ es) h = by (address_cmp k e.0) refl (put_permuted k v es)
    where
      by : (o : Ordering) → address_cmp k e.0 ≡ o
          → (find address_cmp k es ≡ None → IsPermutation ((k, v) ∷ es) (put address_cmp k v es))
          → IsPermutation ((k, v) ∷ e ∷ es)
          (by_order o ((k, v) ∷ e ∷ es) ((e.0, v) ∷ es) (e ∷ put address_cmp k v es))
      by Less is later = IsPermutation-refl ((k, v) ∷ e ∷ es)
      by Equal is later =
          none_here e.1 None
          (sym (ap (λ o. cond (is_eq o) (Some e.1) (find address_cmp k es)) is) ∙ h)
      by Greater is later =
          IsPermutation-trans ((k, v) ∷ e ∷ es) (e ∷ (k, v) ∷ es) (e ∷ put address_cmp k v es)
          (IsPermutation-sym (e ∷ (k, v) ∷ es) ((k, v) ∷ e ∷ es)
          (IsPermutation-middle (e ∷ []) (k, v) es))
          (IsPermutation-cons e ((k, v) ∷ es) (put address_cmp k v es)
          (later (sym (ap (λ o. cond (is_eq o) (Some e.1) (find address_cmp k es)) is) ∙ h)))

  put_summed : (f : Address × X → Rational) (k : Address) (v : X) (es : List (Address × X))
      → find address_cmp k es ≡ None
      → sum_by_ℚ f (put address_cmp k v es) ≡ f (k, v) +ℚ sum_by_ℚ f es
  put_summed f k v [] h = refl
  put_summed f k v (e ∷ es) h = by (address_cmp k e.0) refl (put_summed f k v es)
    where
      by : (o : Ordering) → address_cmp k e.0 ≡ o
          → (find address_cmp k es ≡ None
          → sum_by_ℚ f (put address_cmp k v es) ≡ f (k, v) +ℚ sum_by_ℚ f es)
          → sum_by_ℚ f (by_order o ((k, v) ∷ e ∷ es) ((e.0, v) ∷ es) (e ∷ put address_cmp k v es))
          ≡ f (k, v) +ℚ sum_by_ℚ f (e ∷ es)
      by Less is later = refl
      by Equal is later =
          none_here e.1 None
          (sym (ap (λ o. cond (is_eq o) (Some e.1) (find address_cmp k es)) is) ∙ h)
      by Greater is later =
          ap (λ q. f e +ℚ q)
          (later (sym (ap (λ o. cond (is_eq o) (Some e.1) (find address_cmp k es)) is) ∙ h))
          ∙ +ℚ_left_comm (f e) (f (k, v)) (sum_by_ℚ f es)

  -- ---- all of them

  made_permuted : (es : List (Address × X)) → Distinct (keys_of es)
      → IsPermutation es (entries (from_entries {R = address_cmp} es))
  made_permuted [] d =
      subst (IsPermutation []) (sym (entries_empty address_cmp)) (IsPermutation-refl [])
  made_permuted (e ∷ es) d =
      subst (IsPermutation (e ∷ es))
      (sym (entries-insert address_total (from_entries es) e.0 e.1))
      (IsPermutation-trans (e ∷ es) (e ∷ entries (from_entries {R = address_cmp} es))
      (put address_cmp e.0 e.1 (entries (from_entries {R = address_cmp} es)))
      (IsPermutation-cons e es (entries (from_entries {R = address_cmp} es))
      (made_permuted es d.1))
      (put_permuted e.0 e.1 (entries (from_entries {R = address_cmp} es))
      (not_found es e.0 d.0)))

  pub made_exactly : (es : List (Address × X)) → Distinct (keys_of es)
      → HasExactly (from_entries {R = address_cmp} es) es
  made_exactly es d =
      record { keys = is_distinct (keys_of es) d; entries = made_permuted es d }

  -- a sum over the map's entries is that over the list
  pub made_summed : (f : Address × X → Rational) (es : List (Address × X)) → Distinct (keys_of es)
      → sum_by_ℚ f (entries (from_entries {R = address_cmp} es)) ≡ sum_by_ℚ f es
  made_summed f [] d = ap (sum_by_ℚ f) (entries_empty address_cmp)
  made_summed f (e ∷ es) d =
      ap (sum_by_ℚ f) (entries-insert address_total (from_entries es) e.0 e.1)
      ∙ put_summed f e.0 e.1 (entries (from_entries {R = address_cmp} es))
      (not_found es e.0 d.0)
      ∙ ap (λ q. f e +ℚ q) (made_summed f es d.1)
