-- Maps under other keys in the same order: what is found, put in and made under the new keys is
-- what was under the old.
use Rattle.std.specs.Prelude.{◌≡◌, ◌&&◌, cond, T, List, [], ◌∷◌, Some, length, map, refl}
use Rattle.std.proofs.Common.{ap, ap₂, subst, sym, ◌∙◌}
use Rattle.std.proofs.lemmas.List.{length-map, nil_from_length}
use Rattle.std.specs.Cmp.{IsTotalOrder}
use Rattle.std.specs.FinMap as finite
use Rattle.std.specs.FinMap.{FinMap, find, is_sorted, put}
use Rattle.std.specs.FinMap.Entries.{below_all, by_order}
use Rattle.std.specs.Ordering.{is_eq, is_lt}
use Rattle.std.specs.declared.cmp.Ordering.{Ordering}
use Rattle.std.specs.declared.cmp.Ordering.TheVariants.{Less, Equal, Greater}

-- the new keys compare as the old do
abbrev pub KeepsOrder : {K : Type 0} → (K → K → Ordering) → (K → K) → Type 0
KeepsOrder {K} R σ = (a b : K) → R (σ a) (σ b) ≡ R a b

-- ---- entries

abbrev pub renamed_entries : {K X : Type 0} → (K → K) → List (K × X) → List (K × X)
renamed_entries σ es = map (λ e. (σ e.0, e.1)) es

module _ {K X : Type 0} (R : K → K → Ordering) (σ : K → K) (keeps : KeepsOrder R σ) where
  below_renamed : (k : K) (es : List (K × X))
      → below_all R (σ k) (renamed_entries σ es) ≡ below_all R k es
  below_renamed k [] = refl
  below_renamed k (e ∷ es) = ap₂ (λ a b. a && b) (ap is_lt (keeps k e.0)) (below_renamed k es)

  pub sorted-renamed : (es : List (K × X)) → is_sorted R (renamed_entries σ es) ≡ is_sorted R es
  sorted-renamed [] = refl
  sorted-renamed (e ∷ es) = ap₂ (λ a b. a && b) (below_renamed e.0 es) (sorted-renamed es)

  pub find-renamed : (q : K) (es : List (K × X)) → find R (σ q) (renamed_entries σ es) ≡ find R q es
  find-renamed q [] = refl
  find-renamed q (e ∷ es) =
      ap₂ (λ r o. cond (is_eq r) (Some e.1) o) (keeps q e.0) (find-renamed q es)

-- each value is another too
abbrev pub moved_entries : {K X Y : Type 0} → (K → K) → (X → Y) → List (K × X) → List (K × Y)
moved_entries σ h es = map (λ e. (σ e.0, h e.1)) es

module _ {K X Y : Type 0} (R : K → K → Ordering) (σ : K → K) (keeps : KeepsOrder R σ)
    (h : X → Y) where
  over_order : (r : Ordering) (a b c : List (K × X))
      → by_order r (moved_entries σ h a) (moved_entries σ h b) (moved_entries σ h c)
      ≡ moved_entries σ h (by_order r a b c)
  over_order Less a b c = refl
  over_order Equal a b c = refl
  over_order Greater a b c = refl

  put-moved : (k : K) (x : X) (es : List (K × X))
      → put R (σ k) (h x) (moved_entries σ h es) ≡ moved_entries σ h (put R k x es)
  put-moved k x [] = refl
  put-moved k x (e ∷ es) =
      ap₂ (λ r l. by_order r (moved_entries σ h ((k, x) ∷ e ∷ es))
      (moved_entries σ h ((e.0, x) ∷ es)) ((σ e.0, h e.1) ∷ l)) (keeps k e.0) (put-moved k x es)
      ∙ over_order (R k e.0) ((k, x) ∷ e ∷ es) ((e.0, x) ∷ es) (e ∷ put R k x es)

  empty_entries : {Z : Type 0} → finite.entries (finite.empty {X = Z} {R = R}) ≡ []
  empty_entries {Z} =
      nil_from_length (finite.entries (finite.empty {X = Z} {R = R}))
      (sym (finite.len-entries (finite.empty {X = Z} {R = R})) ∙ finite.len-empty R Z)

  -- the entries of a map that is made
  pub made-moved : IsTotalOrder R → (es : List (K × X))
      → finite.entries (finite.from_entries {R = R} (moved_entries σ h es))
      ≡ moved_entries σ h (finite.entries (finite.from_entries {R = R} es))
  made-moved o [] = empty_entries ∙ ap (moved_entries σ h) (sym empty_entries)
  made-moved o (e ∷ es) =
      finite.entries-insert o (finite.from_entries (moved_entries σ h es)) (σ e.0) (h e.1)
      ∙ ap (put R (σ e.0) (h e.1)) (made-moved o es)
      ∙ put-moved e.0 e.1 (finite.entries (finite.from_entries {R = R} es))
      ∙ ap (moved_entries σ h)
      (sym (finite.entries-insert o (finite.from_entries {R = R} es) e.0 e.1))

-- ---- maps

abbrev pub renamed_map : {K X : Type 0} {R : K → K → Ordering} → (K → K) → FinMap R X → FinMap R X
renamed_map σ m = finite.from_sorted (renamed_entries σ (finite.entries m))

module _ {K X : Type 0} {R : K → K → Ordering} (σ : K → K) (keeps : KeepsOrder R σ) where
  pub entries-renamed : (m : FinMap R X)
      → finite.entries (renamed_map σ m) ≡ renamed_entries σ (finite.entries m)
  entries-renamed m =
      finite.entries-from_sorted R (renamed_entries σ (finite.entries m))
      (subst T (sym (sorted-renamed R σ keeps (finite.entries m))) (finite.entries_sorted m))

  pub get-renamed : (m : FinMap R X) (q : K) → finite.get (renamed_map σ m) (σ q) ≡ finite.get m q
  get-renamed m q =
      finite.get-entries (renamed_map σ m) (σ q)
      ∙ ap (find R (σ q)) (entries-renamed m)
      ∙ find-renamed R σ keeps q (finite.entries m)
      ∙ sym (finite.get-entries m q)

  pub empty-renamed : renamed_map σ (finite.empty {X = X} {R = R}) ≡ finite.empty
  empty-renamed =
      let none : FinMap R X = finite.empty in
      finite.empty_of_len (renamed_map σ none)
      (finite.len-entries (renamed_map σ none)
      ∙ ap length (entries-renamed none)
      ∙ length-map (finite.entries none) (λ e. (σ e.0, e.1))
      ∙ sym (finite.len-entries none)
      ∙ finite.len-empty R X)

  pub insert-renamed : IsTotalOrder R → (m : FinMap R X) (k : K) (x : X)
      → finite.insert (renamed_map σ m) (σ k) x ≡ renamed_map σ (finite.insert m k x)
  insert-renamed o m k x =
      finite.same_entries_map _ _
      (finite.entries-insert o (renamed_map σ m) (σ k) x
      ∙ ap (put R (σ k) x) (entries-renamed m)
      ∙ put-moved R σ keeps (λ y. y) k x (finite.entries m)
      ∙ ap (renamed_entries σ) (sym (finite.entries-insert o m k x))
      ∙ sym (entries-renamed (finite.insert m k x)))
