-- Finite maps made of the entries of a `BTreeMap`: what its calls leave, said of the map.
use Rattle.std.specs.Prelude.{◌≡◌, Bool, true, false, cond, is_some, map, List, [], ◌∷◌, Some, None, refl}
use Rattle.std.specs.Cmp.{IsTotalOrder, eq_by_cmp_equiv}
use Rattle.std.specs.FinMap.{IsAntisymmetric, from_entries, find, get, insert, remove, get-from_entries, get-insert, get-remove, same_map, entries, empty, len-entries, len-empty, entries-insert, FinMap, from_sorted, entries_sorted, entries-from_sorted, same_entries_map}
use Rattle.std.specs.FinMap.Entries.{put, by_order}
use Rattle.std.specs.List.{AllByRecursion}
use Rattle.std.specs.List.Sorted.{IsStrictlySortedBy}
use Rattle.std.specs.BTreeMap.{is_at}
use Rattle.std.specs.Map.{lookup}
use Rattle.std.specs.declared.cmp.Ordering.{Ordering}
use Rattle.std.specs.declared.cmp.Ordering.TheVariants.{Less}
use Rattle.std.proofs.Common.{ap, sym, ◌∙◌}
use Rattle.std.proofs.lemmas.List.{nil_from_length}
use Rattle.map_laws.specs.OptionLaws.{none_of}
use Rattle.map_laws.specs.TestLaws.{is_equal}

pub entries_empty : {K X : Type 0} (R : K → K → Ordering)
    → entries (empty {K = K} {X = X} {R = R}) ≡ []
entries_empty {X = X} R = nil_from_length _ (sym (len-entries empty) ∙ len-empty R X)

module _ {K X : Type 0} {R : K → K → Ordering} (total : IsTotalOrder R) where
  find_looked_up : (es : List (K × X)) (q : K) → find R q es ≡ lookup (is_at (R q)) es
  find_looked_up [] q = refl
  find_looked_up (e ∷ es) q = ap (cond (is_at (R q) e.0) (Some e.1)) (find_looked_up es q)

  -- what the map has at a key is what the entries have there
  pub get_made : (es : List (K × X)) (q : K)
      → get (from_entries {R = R} es) q ≡ lookup (is_at (R q)) es
  get_made es q = get-from_entries total es q ∙ find_looked_up es q

  put_first : (e : K × X) (es : List (K × X))
      → AllByRecursion (λ y. R e.0 y ≡ Less) (map (λ f. f.0) es) → put R e.0 e.1 es ≡ e ∷ es
  put_first e [] h = refl
  put_first e (f ∷ fs) h =
      ap (λ o. by_order o (e ∷ f ∷ fs) ((f.0, e.1) ∷ fs) (f ∷ put R e.0 e.1 fs)) h.0

  -- entries whose keys rise are those of the map
  pub entries_made : (es : List (K × X)) → IsStrictlySortedBy R (map (λ e. e.0) es)
      → entries (from_entries {R = R} es) ≡ es
  unfolding IsStrictlySortedBy
  entries_made [] h = entries_empty R
  entries_made (e ∷ es) h = entries-insert total (from_entries es) e.0 e.1
      ∙ (ap (put R e.0 e.1) (entries_made es h.1) ∙ put_first e es h.0)

  -- a map is that of its entries
  pub from_sorted-entries : (m : FinMap R X) → from_sorted (entries m) ≡ m
  from_sorted-entries m = same_entries_map (from_sorted (entries m)) m
      (entries-from_sorted R (entries m) (entries_sorted m))

  -- entries that differ by what stands at one key make maps that differ there
  pub one_given : IsAntisymmetric R → (es fs : List (K × X)) (k : K) (v : X)
      → ((q : K) → lookup (is_at (R q)) fs
      ≡ cond (is_at (R k) q) (Some v) (lookup (is_at (R q)) es))
      → from_entries {R = R} fs ≡ insert (from_entries es) k v
  one_given exact es fs k v h = same_map total exact _ _ (λ q.
      get_made fs q ∙ h q
      ∙ ap (λ b. cond b (Some v) (lookup (is_at (R q)) es)) ((eq_by_cmp_equiv total).symm k q)
      ∙ sym (get-insert total (from_entries es) k v q
      ∙ ap (cond (is_at (R q) k) (Some v)) (get_made es q)))

  pub one_removed : IsAntisymmetric R → (es fs : List (K × X)) (k : K)
      → ((q : K) → lookup (is_at (R q)) fs ≡ cond (is_at (R k) q) None (lookup (is_at (R q)) es))
      → from_entries {R = R} fs ≡ remove (from_entries es) k
  one_removed exact es fs k h = same_map total exact _ _ (λ q.
      get_made fs q ∙ h q
      ∙ ap (λ b. cond b None (lookup (is_at (R q)) es)) ((eq_by_cmp_equiv total).symm k q)
      ∙ sym (get-remove total (from_entries es) k q
      ∙ ap (cond (is_at (R q) k) None) (get_made es q)))

  -- an entry that is put in and taken out again leaves the map as it was
  pub put_back : IsAntisymmetric R → (es fs gs : List (K × X)) (k : K) (v : X)
      → is_some (lookup (is_at (R k)) es) ≡ false
      → ((q : K) → lookup (is_at (R q)) fs
      ≡ cond (is_at (R k) q) (Some v) (lookup (is_at (R q)) es))
      → ((q : K) → lookup (is_at (R q)) gs ≡ cond (is_at (R k) q) None (lookup (is_at (R q)) fs))
      → from_entries {R = R} gs ≡ from_entries es
  put_back exact es fs gs k v free put taken = same_map total exact _ _ (λ q.
      get_made gs q ∙ taken q ∙ at_key (is_at (R k) q) q refl ∙ sym (get_made es q))
    where
      at_key : (b : Bool) → (q : K) → is_at (R k) q ≡ b
          → cond b None (lookup (is_at (R q)) fs) ≡ lookup (is_at (R q)) es
      at_key true q e = sym (none_of _ free)
          ∙ ap (λ x. lookup (is_at (R x)) es) (exact k q (is_equal (R k q) e))
      at_key false q e = put q ∙ ap (λ b. cond b (Some v) (lookup (is_at (R q)) es)) e
