-- The leaf model of a fresh bridging is one that a solver may have: its rows are native, and they
-- and its objective name only leaf variables.
use Rattle.std.specs.Prelude.{◌≡◌, ◌⊎◌, true, List, [], ◌∷◌, ◌++◌, All, Contains, IsSome, flat_map, slice_index_or, unwrap_or}
use Rattle.std.specs.Cmp.{eq_by_cmp_equiv}
use Rattle.std.specs.FinMap as finite
use Rattle.std.specs.Map.{keys_of}
use Rattle.std.proofs.Common.{inl, inr, sym, ap, subst, ◌∙◌, true≢false}
use Rattle.std.proofs.lemmas.Cmp.{tied_itself}
use Rattle.std.proofs.lemmas.List.Elements.{All-append, All-cons, All-head, All-nil, All-tail, All-weaker}
use Rattle.std.proofs.lemmas.List.Sorted.{All-permutation}
use Rattle.std.proofs.lemmas.List.Sums.{AllPass-from_list_all}
use Rattle.std.proofs.lemmas.Map.Views.{IsSome-lookup_from_Contains}
use Rattle.rational_laws.specs.Tests.{zero_test}
use Rattle.bridge_graph.specs.Hypergraph.{IsCostly}
use Rattle.expansion.specs.Read.{leaves_in, leaves_of_each, model_leaves}
use Rattle.map_laws.specs.EntryLaws.{find_at}
use Rattle.map_laws.specs.MadeLaws.{get_made}
use Rattle.ratio_core.specs.Rational.{Rational, zero_ℚ}
use Rattle.set_core.specs.declared.set.Set.{Set}
use Rattle.set_core.specs.declared.set.Set.TheVariants as set
use Rattle.aff_core.specs.Address.{Address, address_total}
use Rattle.aff_core.specs.Function.{Function, coefficient, terms_of}
use Rattle.aff_core.specs.Terms.{is_nonzero}
use Rattle.equality_form.specs.Native.{HasEquations, IsNativeModel, IsNativeRow, NamesVariables}
use Rattle.item_core.specs.declared.item.Body.{Body}
use Rattle.item_core.specs.declared.item.Body.TheVariants.{Plain, Affine, PlainVec, AffineVec, PlainObj, AffineObj}
use Rattle.item_core.specs.declared.item.Item.{Item}
use Rattle.item_core.specs.Item.{functions_of}
use Rattle.item_core.specs.Kind.{is_native}
use Rattle.item_core.specs.KindOf.{affine_kind_of, kind_of_body, plain_kind_of}
use Rattle.fresh_bridging.specs.CanLaws.{AreLawful}
use Rattle.map_laws.specs.EachLaws.{all_both, all_first, all_second}
use Rattle.fresh_bridging.specs.Entries.{put_in}
use Rattle.fresh_bridging.specs.FreshBridging.{FreshBridging, leaves_of}
use Rattle.fresh_bridging.specs.Leaves.{leaf_objectives, leaf_rows, leaf_variables}
use Rattle.fresh_bridging.specs.ModelImage.{model_image}
use Rattle.fresh_bridging.specs.ModelLaws.{IsFurther, further}
use Rattle.fresh_bridging.specs.TheRules.{Setting, graph_of}
use Rattle.user_model.specs.Model.{ModelValue}
use Rattle.user_model.specs.Valid.{IsValid}
use Rattle.address_laws.specs.Apart.{Avoids, in_or_not}
use Rattle.address_laws.specs.DistinctLaws.{each_apart}
use Rattle.address_laws.specs.ImageLaws.{Misses}
use Rattle.address_laws.specs.Keys.{own}
use Rattle.address_laws.specs.LeafKeys.{keys_of-flat_map, same_flat_map, variable_keys}
use Rattle.tree_laws.specs.LeafLaws.{IsLeaf, SupportsNativeKinds, is_leaf_kind}
use Rattle.tree_laws.specs.LookupLaws.{Missed, components}
use Rattle.tree_laws.specs.CarriedLaws.{group_keys, keys_are, other_keys, others_miss, same_components}
use Rattle.tree_laws.specs.PrimalLaws.{all_leaves, groups_there, native_leaves, others_there}
use Rattle.tree_laws.specs.SeenLaws.{leaves_in_miss, leaves_of_each_miss, omit_each, put_in_misses}

-- ---- native rows

plain_equations : (s : Set) → is_leaf_kind (plain_kind_of s) ≡ true → HasEquations s
unfolding is_native
plain_equations (set.Interval l u) k = absurd (true≢false (sym k))
plain_equations (set.Reals n) k = absurd (true≢false (sym k))
plain_equations (set.NormInfinityCone n) k = absurd (true≢false (sym k))
plain_equations (set.NormOneCone n) k = absurd (true≢false (sym k))
plain_equations _ k = tt

affine_equations : (s : Set) → is_leaf_kind (affine_kind_of s) ≡ true → HasEquations s
unfolding is_native
affine_equations (set.Interval l u) k = absurd (true≢false (sym k))
affine_equations (set.Reals n) k = absurd (true≢false (sym k))
affine_equations (set.NormInfinityCone n) k = absurd (true≢false (sym k))
affine_equations (set.NormOneCone n) k = absurd (true≢false (sym k))
affine_equations _ k = tt

abbrev IsNativeEntry : Address × Body → Type 0
IsNativeEntry e = IsNativeRow e.1

one_row : (at : Address) (b : Body) → IsNativeRow b → All IsNativeEntry ((at, b) ∷ [])
one_row at b h = All-cons IsNativeEntry (at, b) [] h (All-nil IsNativeEntry)

native_row : (i : Item) → IsLeaf i → All IsNativeEntry (leaf_rows i)
unfolding kind_of_body
native_row i = by i.body
  where
    by : (b : Body) → IsLeaf (record { at = i.at; body = b })
        → All IsNativeEntry (leaf_rows (record { at = i.at; body = b }))
    by (Plain var s) l =
        one_row i.at (Plain var s)
        (record { set = plain_equations s l.native; dimension = l.valid.set.dimension })
    by (Affine func s) l =
        one_row i.at (Affine func s)
        (record { set = affine_equations s l.native; dimension = l.valid.set.dimension })
    by (PlainVec vars s) l =
        one_row i.at (PlainVec vars s)
        (record { set = plain_equations s l.native; dimension = l.valid.set.dimension })
    by (AffineVec funcs s) l =
        one_row i.at (AffineVec funcs s)
        (record { set = affine_equations s l.native; dimension = l.valid.set.dimension })
    by _ l = All-nil IsNativeEntry

native_rows : (items : List Item) → All IsLeaf items → All IsNativeEntry (flat_map leaf_rows items)
native_rows [] l = All-nil IsNativeEntry
native_rows (i ∷ items) l =
    All-append IsNativeEntry (leaf_rows i) (flat_map leaf_rows items)
    (native_row i (All-head IsLeaf i items l)) (native_rows items (All-tail IsLeaf i items l))

-- ---- terms

-- each term is the function's coefficient, which isn't 0
terms_seen : (f : Function) (keys : List Address)
    → ((v : Address) → Avoids keys v → coefficient f v ≡ zero_ℚ)
    → All (λ t. Contains keys t.0) (terms_of f)
terms_seen f keys h =
    All-weaker (λ t. (coefficient f t.0 ≡ t.1) × (is_nonzero t ≡ true)) (λ t. Contains keys t.0)
    (λ t k. by t k (in_or_not keys t.0)) (terms_of f)
    (all_both (λ t. coefficient f t.0 ≡ t.1) (λ t. is_nonzero t ≡ true) (terms_of f) each
    (AllPass-from_list_all is_nonzero (terms_of f) f.nonzero))
  where
    each : All (λ t. coefficient f t.0 ≡ t.1) (terms_of f)
    each = λ k d end.
        ap (λ o. unwrap_or o zero_ℚ)
        (finite.get-entries f.terms (slice_index_or (terms_of f) k d).0
        ∙ find_at address_total (slice_index_or (terms_of f) k d).0 (terms_of f) k d
        (finite.entries_sorted f.terms) end
        (tied_itself address_total (slice_index_or (terms_of f) k d).0))

    by : (t : Address × Rational) → (coefficient f t.0 ≡ t.1) × (is_nonzero t ≡ true)
        → Contains keys t.0 ⊎ Avoids keys t.0 → Contains keys t.0
    by t k (inl c) = c
    by t k (inr n) =
        absurd (true≢false (sym k.1 ∙ zero_test t.1 (sym k.0 ∙ h t.0 n)))

module _ (setting : Setting) (costly : IsCostly (graph_of setting)) (lawful : AreLawful setting)
    (native : SupportsNativeKinds setting) (model : ModelValue) (valid : IsValid model)
    (bridging : FreshBridging setting model) where
  abbrev pub leaves_here : List Item
  leaves_here = all_leaves setting costly lawful native model valid bridging

  abbrev first_keys : List Address
  first_keys = group_keys setting costly lawful native model valid bridging

  abbrev second_keys : List Address
  second_keys = other_keys setting costly lawful native model valid bridging

  further_miss : (v : Address) → Avoids (first_keys ++ second_keys) v
      → All (λ c. Misses v (put_in bridging.made.entries c)) (model_image model).others
  further_miss v h =
      All-weaker (λ c. All (Missed bridging.made.entries v) (functions_of c.body) × IsFurther c)
      (λ c. Misses v (put_in bridging.made.entries c))
      (λ c k. put_in_misses setting costly bridging.choice bridging.chosen lawful
      bridging.made.entries c v k.1.no_group
      (omit_each setting costly bridging.choice bridging.chosen lawful bridging.made.groups
      (groups_there setting costly lawful native model valid bridging) v
      (all_first (λ k. ¬ (k ≡ v)) first_keys second_keys h)) k.0)
      (model_image model).others
      (all_both (λ c. All (Missed bridging.made.entries v) (functions_of c.body)) IsFurther
      (model_image model).others (by (in_or_not (components bridging.made.entries) v))
      (further model valid))
    where
      by :
          Contains (components bridging.made.entries) v
          ⊎ Avoids (components bridging.made.entries) v
          → All (λ c. All (Missed bridging.made.entries v) (functions_of c.body))
          (model_image model).others
      by (inl c) = λ k d end. λ j g ends. inr c
      by (inr out) =
          All-weaker (Misses v) (λ c. All (Missed bridging.made.entries v) (functions_of c.body))
          (λ c m. All-weaker (λ f. coefficient f v ≡ zero_ℚ) (Missed bridging.made.entries v)
          (λ f z. inl z) (functions_of c.body) m)
          (model_image model).others
          (others_miss setting costly lawful native model valid bridging v
          (subst (λ l. Avoids l v)
          (same_components setting costly lawful native model valid bridging) out))

  -- leaves mention leaf variables alone
  pub leaves_seen : (v : Address) → Avoids (first_keys ++ second_keys) v
      → All (Misses v) leaves_here
  leaves_seen v h =
      All-append (Misses v) (leaves_of_each bridging.made.groups) (leaves_in bridging.made.others)
      (leaves_of_each_miss setting costly bridging.choice bridging.chosen lawful
      bridging.made.groups (groups_there setting costly lawful native model valid bridging) v
      (all_first (λ k. ¬ (k ≡ v)) first_keys second_keys h))
      (leaves_in_miss setting costly bridging.choice bridging.chosen lawful bridging.made.others
      (others_there setting costly lawful native model valid bridging) v (further_miss v h)
      (all_second (λ k. ¬ (k ≡ v)) first_keys second_keys h))

  abbrev pub NamesLeafVariables : Function → Type 0
  NamesLeafVariables f = NamesVariables (leaves_of bridging) f

  abbrev pub LeafNames : Item → Type 0
  LeafNames leaf = All NamesLeafVariables (functions_of leaf.body)

  -- a leaf variable stands in the leaf model
  stands : (v : Address) → Contains (first_keys ++ second_keys) v
      → IsSome (finite.get (leaves_of bridging).variables v)
  unfolding model_leaves
  stands v c =
      subst IsSome (sym (get_made address_total (flat_map leaf_variables leaves_here) v))
      (IsSome-lookup_from_Contains (eq_by_cmp_equiv address_total) v
      (flat_map leaf_variables leaves_here)
      (subst (λ l. Contains l v)
      (keys_are setting costly lawful native model valid bridging
      ∙ same_flat_map own (λ i. keys_of (leaf_variables i)) leaves_here
      (λ i. sym (variable_keys i))
      ∙ sym (keys_of-flat_map leaf_variables leaves_here)) c))

  pub leaves_name : All LeafNames leaves_here
  leaves_name = λ k d end j g ends.
      All-weaker (λ t. Contains (first_keys ++ second_keys) t.0)
      (λ t. IsSome (finite.get (leaves_of bridging).variables t.0)) (λ t c. stands t.0 c)
      (terms_of (slice_index_or (functions_of (slice_index_or leaves_here k d).body) j g))
      (terms_seen (slice_index_or (functions_of (slice_index_or leaves_here k d).body) j g)
      (first_keys ++ second_keys) (λ v h. leaves_seen v h k d end j g ends))

  abbrev EntryNames : Address × Body → Type 0
  EntryNames e = All NamesLeafVariables (functions_of e.1)

  one_entry : (e : Address × Body) → EntryNames e → All EntryNames (e ∷ [])
  one_entry e h = All-cons EntryNames e [] h (All-nil EntryNames)

  rows_name_one : (i : Item) → LeafNames i → All EntryNames (leaf_rows i)
  rows_name_one i = by i.body
    where
      by : (b : Body) → LeafNames (record { at = i.at; body = b })
          → All EntryNames (leaf_rows (record { at = i.at; body = b }))
      by (Plain var s) h = one_entry (i.at, Plain var s) h
      by (Affine func s) h = one_entry (i.at, Affine func s) h
      by (PlainVec vars s) h = one_entry (i.at, PlainVec vars s) h
      by (AffineVec funcs s) h = one_entry (i.at, AffineVec funcs s) h
      by _ h = All-nil EntryNames

  objectives_name_one : (i : Item) → LeafNames i → All EntryNames (leaf_objectives i)
  objectives_name_one i = by i.body
    where
      by : (b : Body) → LeafNames (record { at = i.at; body = b })
          → All EntryNames (leaf_objectives (record { at = i.at; body = b }))
      by (PlainObj sense var) h = one_entry (i.at, PlainObj sense var) h
      by (AffineObj sense func) h = one_entry (i.at, AffineObj sense func) h
      by _ h = All-nil EntryNames

  all_name : (f : Item → List (Address × Body)) (items : List Item)
      → ((i : Item) → LeafNames i → All EntryNames (f i))
      → All LeafNames items → All EntryNames (flat_map f items)
  all_name f [] one h = All-nil EntryNames
  all_name f (i ∷ items) one h =
      All-append EntryNames (f i) (flat_map f items) (one i (All-head LeafNames i items h))
      (all_name f items one (All-tail LeafNames i items h))

  pub native_model : IsNativeModel (leaves_of bridging)
  unfolding model_leaves
  native_model =
      let apart = each_apart setting costly lawful model valid bridging in
      record {
        rows =
            All-permutation IsNativeEntry (flat_map leaf_rows leaves_here)
            (finite.entries (leaves_of bridging).rows) apart.rows.entries
            (native_rows leaves_here
            (native_leaves setting costly lawful native model valid bridging));
        row_names =
            All-permutation EntryNames (flat_map leaf_rows leaves_here)
            (finite.entries (leaves_of bridging).rows) apart.rows.entries
            (all_name leaf_rows leaves_here rows_name_one leaves_name);
        objective_names =
            All-permutation EntryNames (flat_map leaf_objectives leaves_here)
            (finite.entries (leaves_of bridging).objective) apart.objective.entries
            (all_name leaf_objectives leaves_here objectives_name_one leaves_name);
      }
