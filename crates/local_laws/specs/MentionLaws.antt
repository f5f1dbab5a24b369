-- The index of mentions: at each variable the rows, and the objective, that name it. With it a
-- search finds exactly what a change touches, where the table stays.
use Rattle.std.specs.Prelude.{◌≡◌, ◌≢◌, ◌⊎◌, ◌↔◌, zero, suc, Bool, true, false, cond, List, [], ◌∷◌, All, Contains, flat_map, map, slice_index_or, unwrap_or, Option, Some, None, refl}
use Rattle.std.specs.FinMap as finite
use Rattle.std.specs.FinMap.{find}
use Rattle.std.proofs.Common.{inl, inr, arith, sym, ap, subst, ◌∙◌}
use Rattle.std.proofs.lemmas.Cmp.{tied_itself}
use Rattle.std.proofs.lemmas.List.Elements.{All-cons, All-contains, All-head, All-nil, All-tail, All-weaker, Contains-append_cases, Contains-append_left, Contains-append_right}
use Rattle.std.proofs.lemmas.List.Sums.{AllPass-from_list_all}
use Rattle.std.proofs.lemmas.Option.{none-some, same_Some}
use Rattle.map_laws.specs.EachLaws.{all_both, contains_here, contains_later}
use Rattle.map_laws.specs.EntryLaws.{find_at}
use Rattle.aff_core.specs.Address.{Address, address_cmp, address_eq, address_eq-Decides, address_total}
use Rattle.aff_core.specs.Function.{Function, coefficient, terms_of}
use Rattle.aff_core.specs.Terms.{is_nonzero}
use Rattle.bridge_face.specs.Law.{Miss}
use Rattle.fresh_bridging.specs.FreshBridging.{FreshBridging, expression_of}
use Rattle.fresh_bridging.specs.TheRules.{Setting}
use Rattle.fresh_bridging.specs.Touched.{IsTouched, differs, item_at, named}
use Rattle.item_core.specs.Item.{functions_of, is_group}
use Rattle.item_core.specs.declared.item.Body.{Body}
use Rattle.item_core.specs.declared.item.Item.{Item}
use Rattle.rational_laws.specs.Tests.{nonzero_from_test}
use Rattle.ratio_core.specs.Rational.{Rational, zero_ℚ}
use Rattle.user_model.specs.Model.{ModelValue}
use Rattle.local_laws.specs.FoundLaws.{expression_stays, unfound_group_stays, unfound_stays}
use Rattle.local_laws.specs.Held.{HasOwn}
use Rattle.local_laws.specs.LookedLaws.{contains_or_not}
use Rattle.local_laws.specs.Sound.{IsValidUnder}
use Rattle.local_laws.specs.Stays.{StaysAt}

-- ---- what an item names can be listed

abbrev pub names_in : Function → List Address
names_in f = map (λ t. t.0) (terms_of f)

abbrev pub names_of : Body → List Address
names_of body = flat_map names_in (functions_of body)

pub contains_mapped : {A B : Type 0} (f : A → B) (xs : List A) (y : B) → Contains (map f xs) y
    → (x : A) × Contains xs x × (f x ≡ y)
contains_mapped f [] y c = absurd (omega (arith, c.1))
contains_mapped f (x ∷ xs) y (zero, inside, is) = (x, contains_here x xs, is)
contains_mapped f (x ∷ xs) y (suc i, inside, is) =
    let r = contains_mapped f xs y (i, omega (arith, inside), is) in
    (r.0, contains_later x r.0 xs r.1, r.2)

pub mapped_contains : {A B : Type 0} (f : A → B) (xs : List A) (x : A) → Contains xs x
    → Contains (map f xs) (f x)
mapped_contains f [] x c = absurd (omega (arith, c.1))
mapped_contains f (y ∷ xs) x (zero, inside, is) =
    subst (Contains (f y ∷ map f xs)) (ap f is) (contains_here (f y) (map f xs))
mapped_contains f (y ∷ xs) x (suc i, inside, is) =
    contains_later (f y) (f x) (map f xs) (mapped_contains f xs x (i, omega (arith, inside), is))

-- each term of a function has its coefficient, which isn't 0
terms_there : (f : Function) → All (λ t. ¬ (coefficient f t.0 ≡ zero_ℚ)) (terms_of f)
terms_there f =
    All-weaker (λ t. (coefficient f t.0 ≡ t.1) × (is_nonzero t ≡ true))
    (λ t. ¬ (coefficient f t.0 ≡ zero_ℚ))
    (λ t k e. nonzero_from_test t.1 k.1 (sym k.0 ∙ e)) (terms_of f)
    (all_both (λ t. coefficient f t.0 ≡ t.1) (λ t. is_nonzero t ≡ true) (terms_of f) each
    (AllPass-from_list_all is_nonzero (terms_of f) f.nonzero))
  where
    each : All (λ t. coefficient f t.0 ≡ t.1) (terms_of f)
    each = λ k d end.
        ap (λ o. unwrap_or o zero_ℚ)
        (finite.get-entries f.terms (slice_index_or (terms_of f) k d).0
        ∙ find_at address_total (slice_index_or (terms_of f) k d).0 (terms_of f) k d
        (finite.entries_sorted f.terms) end
        (tied_itself address_total (slice_index_or (terms_of f) k d).0))

-- what isn't among the names has the coefficient 0
nothing_found : (v : Address) (ts : List (Address × Rational)) → ¬ (Contains (map (λ t. t.0) ts) v)
    → find address_cmp v ts ≡ None
nothing_found v [] n = refl
nothing_found v (t ∷ ts) n = by (address_eq v t.0) refl
    (nothing_found v ts (λ c. n (contains_later t.0 v (map (λ t. t.0) ts) c)))
  where
    by : (b : Bool) → address_eq v t.0 ≡ b → find address_cmp v ts ≡ None
        → cond (address_eq v t.0) (Some t.1) (find address_cmp v ts) ≡ None
    by true e later =
        absurd (n (subst (Contains (map (λ t. t.0) (t ∷ ts)))
        (sym ((address_eq-Decides v t.0).0 e)) (contains_here t.0 (map (λ t. t.0) ts))))
    by false e later = ap (λ b. cond b (Some t.1) (find address_cmp v ts)) e ∙ later

pub not_named : (f : Function) (v : Address) → ¬ (Contains (names_in f) v)
    → coefficient f v ≡ zero_ℚ
not_named f v n =
    ap (λ o. unwrap_or o zero_ℚ) (finite.get-entries f.terms v ∙ nothing_found v (terms_of f) n)

pub is_named : (f : Function) (v : Address) → Contains (names_in f) v
    → ¬ (coefficient f v ≡ zero_ℚ)
is_named f v c =
    let t = contains_mapped (λ (t : Address × Rational). t.0) (terms_of f) v c in
    subst (λ k. ¬ (coefficient f k ≡ zero_ℚ)) t.2
    (All-contains (λ t. ¬ (coefficient f t.0 ≡ zero_ℚ)) (terms_of f) t.0 (terms_there f) t.1)

-- the variables that functions name are exactly those listed
pub names_listed : (fs : List Function) (v : Address)
    → Contains (flat_map names_in fs) v ↔ (¬ (Miss fs v))
names_listed fs v = (
  to fs,
  from fs (contains_or_not (flat_map names_in fs) v),
)
  where
    to : (fs : List Function) → Contains (flat_map names_in fs) v → ¬ (Miss fs v)
    to [] c m = absurd (omega (arith, c.1))
    to (f ∷ fs) c m = by (Contains-append_cases (names_in f) (flat_map names_in fs) v c)
        (λ k. to fs k (All-tail (λ f. coefficient f v ≡ zero_ℚ) f fs m))
      where
        by : Contains (names_in f) v ⊎ Contains (flat_map names_in fs) v
            → (Contains (flat_map names_in fs) v → ⊥) → ⊥
        by (inl k) later = is_named f v k (All-head (λ f. coefficient f v ≡ zero_ℚ) f fs m)
        by (inr k) later = later k

    misses : (fs : List Function) → ¬ (Contains (flat_map names_in fs) v) → Miss fs v
    misses [] n = All-nil (λ f. coefficient f v ≡ zero_ℚ)
    misses (f ∷ fs) n =
        All-cons (λ f. coefficient f v ≡ zero_ℚ) f fs
        (not_named f v (λ k. n (Contains-append_left (names_in f) (flat_map names_in fs) v k)))
        (misses fs (λ k. n (Contains-append_right (names_in f) (flat_map names_in fs) v k)))

    from : (fs : List Function)
        → Contains (flat_map names_in fs) v ⊎ (¬ (Contains (flat_map names_in fs) v))
        → ¬ (Miss fs v) → Contains (flat_map names_in fs) v
    from fs (inl c) n = c
    from fs (inr k) n = absurd (n (misses fs k))

-- ---- the index

-- a row or the objective names the variable
abbrev pub OtherMentions : ModelValue → Address → Address → Type 0
OtherMentions model at var =
    (item : Item) × (item_at model at ≡ Some item) × (is_group item.body ≡ false)
    × (¬ (Miss (functions_of item.body) var))

-- at each variable there are noted exactly the rows, and the objective, that name it
abbrev pub NotesMentions : ModelValue → (Address → List Address) → Type 0
NotesMentions model noted = (var at : Address) → Contains (noted var) at ↔ OtherMentions model at var

-- what of the pairs changes: those of items whose content differs alone
pub pairs_stay : (model after : ModelValue) (at var : Address)
    → item_at model at ≡ item_at after at → OtherMentions model at var → OtherMentions after at var
pairs_stay model after at var same (item, is, other, names) = (item, sym same ∙ is, other, names)

-- those of these items go, and those that they have now are noted
pub record IsNotedAnew (after : ModelValue) (differing : List Address)
    (noted noted_after : Address → List Address) : Type 0 where
  pub outside :
      (var at : Address) → ¬ (Contains differing at)
      → Contains (noted_after var) at ↔ Contains (noted var) at
  pub inside :
      (var at : Address) → Contains differing at
      → Contains (noted_after var) at ↔ OtherMentions after at var

pub index_changed : (model after : ModelValue) (differing : List Address)
    (noted noted_after : Address → List Address)
    → ((at : Address) → ¬ (Contains differing at) → item_at model at ≡ item_at after at)
    → NotesMentions model noted → IsNotedAnew after differing noted noted_after
    → NotesMentions after noted_after
index_changed model after differing noted noted_after same index anew var at =
    by (contains_or_not differing at)
  where
    by : Contains differing at ⊎ (¬ (Contains differing at))
        → Contains (noted_after var) at ↔ OtherMentions after at var
    by (inl c) = anew.inside var at c
    by (inr n) = (
      λ c. pairs_stay model after at var (same at n) ((index var at).0 ((anew.outside var at n).0 c)),
      λ m. (anew.outside var at n).1 ((index var at).1
          (pairs_stay after model at var (sym (same at n)) m)),
    )

-- ---- the search

-- a variable's group, before and after, is none of those that differ
pub record IsBesideGroups (model after : ModelValue) (differing : List Address)
    (v : Address) : Type 0 where
  pub before :
      (at : Address) (item : Item) → Contains differing at → item_at model at ≡ Some item
      → is_group item.body ≡ true → ¬ (HasOwn v item)
  pub behind :
      (at : Address) (item : Item) → Contains differing at → item_at after at ≡ Some item
      → is_group item.body ≡ true → ¬ (HasOwn v item)

module _ {setting : Setting} {model after : ModelValue} (sound : IsValidUnder setting model)
    (sound_after : IsValidUnder setting after)
    (old : FreshBridging setting model) (new : FreshBridging setting after)
    (differing : List Address)
    (same : (at : Address) → ¬ (Contains differing at) → item_at model at ≡ item_at after at)
  where
    -- then it has the expression that it had
    pub beside_expression : (v : Address) → IsBesideGroups model after differing v
        → expression_of old v ≡ expression_of new v
    beside_expression v beside =
        expression_stays sound sound_after old new v (record {
          before = λ at item is group own. among at item is group own
              (λ c. beside.before at item c is group own) (contains_or_not differing at);
          behind = λ at item is group own. behind at item is group own (contains_or_not differing at);
        })
      where
        among : (at : Address) (item : Item) → item_at model at ≡ Some item
            → is_group item.body ≡ true → HasOwn v item → (Contains differing at → ⊥)
            → Contains differing at ⊎ (¬ (Contains differing at)) → StaysAt old new at
        among at item is group own out (inl c) = absurd (out c)
        among at item is group own out (inr n) =
            unfound_group_stays sound.costly old new at item (same at n) is group

        behind : (at : Address) (item : Item) → item_at after at ≡ Some item
            → is_group item.body ≡ true → HasOwn v item
            → Contains differing at ⊎ (¬ (Contains differing at)) → StaysAt old new at
        behind at item is group own (inl c) = absurd (beside.behind at item c is group own)
        behind at item is group own (inr n) =
            unfound_group_stays sound.costly old new at item (same at n) (same at n ∙ is) group

    -- what a search takes: items whose content differs, and those that the old index notes at
    -- variables whose expression differs
    pub record IsSearched (noted : Address → List Address) (vars found : List Address) : Type 0 where
      pub differ : All (λ at. item_at model at ≢ item_at after at) differing
      pub index : NotesMentions model noted
      pub changed : All (λ v. expression_of old v ≢ expression_of new v) vars
      -- each other variable of a group that differs has the expression that it had
      pub compared :
          (v : Address) → ¬ (Contains vars v)
          → (expression_of old v ≡ expression_of new v) ⊎ IsBesideGroups model after differing v
      pub found_are :
          (at : Address)
          → Contains found at
          ↔ (Contains differing at ⊎ ((v : Address) × Contains vars v × Contains (noted v) at))

    module _ (noted : Address → List Address) (vars found : List Address)
        (searched : IsSearched noted vars found) where
      pub found_touched : (at : Address) → Contains found at → IsTouched old new at
      found_touched at c = by ((searched.found_are at).0 c)
        where
          by : Contains differing at ⊎ ((v : Address) × Contains vars v × Contains (noted v) at)
              → IsTouched old new at
          by (inl d) =
              differs (All-contains (λ at. item_at model at ≢ item_at after at) differing at
              searched.differ d)
          by (inr (v, k, n)) =
              let m = (searched.index v at).0 n in
              named v (inl (m.0, m.1, m.3))
              (All-contains (λ v. expression_of old v ≢ expression_of new v) vars v searched.changed
              k)

      expression_same : (v : Address) → ¬ (Contains vars v) → expression_of old v ≡ expression_of new v
      expression_same v n = by (searched.compared v n)
        where
          by : (expression_of old v ≡ expression_of new v) ⊎ IsBesideGroups model after differing v
              → expression_of old v ≡ expression_of new v
          by (inl e) = e
          by (inr b) = beside_expression v b

      pub unfound_stays_whole : (at : Address) → ¬ (Contains found at) → StaysAt old new at
      unfound_stays_whole at out = by (item_at model at) refl
        where
          alike : item_at model at ≡ item_at after at
          alike = same at (λ d. out ((searched.found_are at).1 (inl d)))

          by : (o : Option Item) → item_at model at ≡ o → StaysAt old new at
          by None e =
              unfound_stays sound.costly old new at alike
              (λ v m. absurd (none-some m.0 (sym e ∙ m.1)))
          by (Some item) e = sort (is_group item.body) refl
            where
              sort : (b : Bool) → is_group item.body ≡ b → StaysAt old new at
              sort true g = unfound_group_stays sound.costly old new at item alike e g
              sort false g =
                  unfound_stays sound.costly old new at alike
                  (λ v m. expression_same v (λ k. out ((searched.found_are at).1
                  (inr (
                    v,
                    k,
                    (searched.index v at).1 (
                      m.0,
                      m.1,
                      subst (λ (i : Item). is_group i.body ≡ false) (same_Some item m.0 (sym e ∙ m.1)) g,
                      m.2,
                    ),
                  )))))

      -- so it finds exactly what is touched
      pub touched_exactly : (at : Address)
          → (Contains found at → IsTouched old new at) × (¬ (Contains found at) → StaysAt old new at)
      touched_exactly at = (found_touched at, unfound_stays_whole at)
