-- Lists of entries with distinct keys: in another order, and how many they are.
use Rattle.std.specs.Prelude.{◌≡◌, true, false, T, All, List, [], ◌∷◌, Option, Some, None, map, refl}
use Rattle.std.specs.Cmp.{eq_by_cmp_equiv, tied_itself}
use Rattle.std.specs.FinMap as finite
use Rattle.std.specs.FinMap.{FinMap, is_sorted}
use Rattle.std.specs.FinMap.Entries.{below_all}
use Rattle.std.specs.List.{AllByRecursion, IsDistinct}
use Rattle.std.specs.List.Sorted.{IsPermutation}
use Rattle.std.specs.Map.{lookup}
use Rattle.std.specs.Ordering.{eq_by_cmp, is_eq}
use Rattle.std.specs.declared.cmp.Ordering.{Ordering}
use Rattle.std.specs.declared.cmp.Ordering.TheVariants.{Less, Equal}
use Rattle.std.proofs.Common.{sym, ◌∙◌, ap, subst}
use Rattle.std.proofs.lemmas.List.{map-id}
use Rattle.std.proofs.lemmas.List.Elements.{All-head, All-tail}
use Rattle.std.proofs.lemmas.List.Sorted.{Contains-permutation, IsPermutation-map, IsPermutation-sym}
use Rattle.std.proofs.lemmas.Map.Keys.{IsDistinct-IsPermutation, IsDistinct-cons}
use Rattle.std.proofs.lemmas.Map.Views.{Contains-from_lookup, lookup-from_Contains}
use Rattle.std.proofs.lemmas.Option.{none-some}
use Rattle.aff_core.specs.KeyOrder.{IsKeyOrder, key_eq-Decides}
use Rattle.aff_core.specs.Rising.{HasDistinctKeys}
use Rattle.map_laws.specs.MadeLaws.{get_made}
use Rattle.map_laws.specs.TestLaws.{first, is_less, second}

-- ---- keys that rise are distinct

pub less_differs : {K : Type 0} {R : K → K → Ordering} → IsKeyOrder R → (a b : K) → R a b ≡ Less
    → ¬ (a ≡ b)
less_differs {R = R} o a b less e =
    let both : Less ≡ Equal = sym less ∙ ap (R a) (sym e) ∙ tied_itself o.total a in cc

-- also as others stand for them, where no two keys have the same
module _ {J K X : Type 0} (R : J → J → Ordering) (S : K → K → Ordering) (f : J → K)
    (P : J × X → Type 0) (apart : (t u : J × X) → P t → P u → R t.0 u.0 ≡ Less
    → eq_by_cmp S (f t.0) (f u.0) ≡ false) where
  abbrev renamed : List (J × X) → List (K × X)
  renamed ts = map (λ t. (f t.0, t.1)) ts

  below_apart : (t : J × X) (ts : List (J × X)) → T (below_all R t.0 ts) → P t → All P ts
      → AllByRecursion (λ y. eq_by_cmp S (f t.0) y ≡ false) (map (λ e. e.0) (renamed ts))
  below_apart t [] h own all = tt
  below_apart t (u ∷ ts) h own all = (
    apart t u own (All-head P u ts all) (is_less _ (first _ _ h)),
    below_apart t ts (second _ _ h) own (All-tail P u ts all),
  )

  pub renamed_distinct : (ts : List (J × X)) → T (is_sorted R ts) → All P ts
      → HasDistinctKeys S (renamed ts)
  unfolding IsDistinct
  renamed_distinct [] h all = tt
  renamed_distinct (t ∷ ts) h all =
      IsDistinct-cons (eq_by_cmp S) (f t.0) (map (λ e. e.0) (renamed ts))
      (below_apart t ts (first _ _ h) (All-head P t ts all) (All-tail P t ts all))
      (renamed_distinct ts (second _ _ h) (All-tail P t ts all))

pub rising_distinct : {K X : Type 0} (R : K → K → Ordering) (es : List (K × X))
    → T (is_sorted R es) → HasDistinctKeys R es
rising_distinct R es h =
    subst (HasDistinctKeys R) (map-id es)
    (renamed_distinct R R (λ k. k) (λ _. Unit {0}) (λ t u _ _ less. ap is_eq less) es h
    (λ _ _ _. tt))

-- ---- in another order

module _ {K X : Type 0} {R : K → K → Ordering} (o : IsKeyOrder R) (xs ys : List (K × X))
    (permuted : IsPermutation xs ys) (distinct : HasDistinctKeys R xs) where
  pub permuted_distinct : HasDistinctKeys R ys
  permuted_distinct =
      IsDistinct-IsPermutation (eq_by_cmp R) (eq_by_cmp_equiv o.total).symm (map (λ e. e.0) xs)
      (map (λ e. e.0) ys) (IsPermutation-map (λ e. e.0) xs ys permuted) distinct

  tells_apart : (x y : K) → eq_by_cmp R x y ≡ true → x ≡ y
  tells_apart x y e = (key_eq-Decides o x y).0 e

  found_in : (q : K) (v : X) → lookup (eq_by_cmp R q) xs ≡ Some v
      → lookup (eq_by_cmp R q) ys ≡ Some v
  found_in q v e =
      lookup-from_Contains (eq_by_cmp_equiv o.total) q v ys permuted_distinct
      (Contains-permutation xs ys (q, v) permuted (Contains-from_lookup tells_apart q v xs e))

  found_back : (q : K) (v : X) → lookup (eq_by_cmp R q) ys ≡ Some v
      → lookup (eq_by_cmp R q) xs ≡ Some v
  found_back q v e =
      lookup-from_Contains (eq_by_cmp_equiv o.total) q v xs distinct
      (Contains-permutation ys xs (q, v) (IsPermutation-sym xs ys permuted)
      (Contains-from_lookup tells_apart q v ys e))

  same_lookup : (q : K) → lookup (eq_by_cmp R q) xs ≡ lookup (eq_by_cmp R q) ys
  same_lookup q = by (lookup (eq_by_cmp R q) xs) (lookup (eq_by_cmp R q) ys) refl refl
    where
      by : (a b : Option X) → lookup (eq_by_cmp R q) xs ≡ a → lookup (eq_by_cmp R q) ys ≡ b → a ≡ b
      by (Some v) b e k = sym (found_in q v e) ∙ k
      by None None e k = refl
      by None (Some v) e k = absurd (none-some v (sym e ∙ found_back q v k))

  -- they make the same map
  pub same_made : finite.from_entries {R = R} xs ≡ finite.from_entries ys
  same_made =
      finite.same_map o.total o.exact _ _ (λ q. get_made o.total xs q ∙ same_lookup q
      ∙ sym (get_made o.total ys q))

-- a map is made of its entries
pub made_of_entries : {K X : Type 0} {R : K → K → Ordering} (o : IsKeyOrder R) (m : FinMap R X)
    → finite.from_entries (finite.entries m) ≡ m
made_of_entries o m =
    finite.same_map o.total o.exact _ _ (λ q. finite.get-from_entries o.total (finite.entries m) q
    ∙ sym (finite.get-entries m q))
