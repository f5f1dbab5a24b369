-- Leaves put as the whole of a solver's model: all others go.
use Rattle.std.specs.Prelude.{◌≡◌, ◌≤◌, ℕ, zero, suc, Bool, true, false, cond, not, List, [], ◌∷◌, All, AllPairs, Contains, IsSome, is_some, Option, Some, None, filter, flat_map, length, refl}
use Rattle.std.specs.BTreeMap.{is_at}
use Rattle.std.specs.FinMap as finite
use Rattle.std.specs.FinMap.{FinMap}
use Rattle.std.specs.List.{IsDistinct}
use Rattle.std.specs.Map.{lookup}
use Rattle.std.specs.Option.{option_or}
use Rattle.std.proofs.Common.{arith, sym, ◌∙◌, ap, subst, true≢false}
use Rattle.std.proofs.lemmas.List.Elements.{All-contains, All-contains_itself, All-filter, All-weaker, filter_passes}
use Rattle.std.proofs.lemmas.List.Kept.{AllPairs-filter}
use Rattle.address_map.specs.AddressMap.{AddressMap}
use Rattle.address_map.specs.Places.{Indices, addresses}
use Rattle.aff_core.specs.Address.{Address, address_cmp, address_total, exact_addresses}
use Rattle.aff_core.specs.Rising.{HasDistinctKeys}
use Rattle.fresh_bridging.specs.Leaves.{leaf_model_of, leaf_objectives, leaf_rows, leaf_variables}
use Rattle.item_core.specs.declared.item.Body.{Body}
use Rattle.item_core.specs.declared.item.Item.{Item}
use Rattle.leaf_update.specs.CoverLaws.{objective_covers, rows_cover, variables_cover}
use Rattle.leaf_update.specs.Leaves.{AreLeaves, NamesLeaves}
use Rattle.leaf_update.specs.LeavesLaws.{among_contained, contains_among, entries_apart, has_one, keys_apart, looked_among, names_own}
use Rattle.leaf_update.specs.Named.{NamesEach}
use Rattle.leaf_update.specs.Objective.{HasOneAddress}
use Rattle.leaf_update.specs.Others.{among, objective_addresses, others, others_in}
use Rattle.leaf_update.specs.Splice.{ArePutBeside, Gone, IsChangedTo, IsSplice, NamesOwn, keys_of, spliced, spliced_model, without_all}
use Rattle.leaf_update.specs.SplicedLaws.{get_put_all, get_without, none_without}
use Rattle.leaf_update.proofs.KeyLaws.{rising_distinct}
use Rattle.leaf_model.specs.LeafModel.{LeafModel}
use Rattle.leaf_model.specs.ReadThrough.{read_through}
use Rattle.map_laws.specs.EachLaws.{all_from_map, contains_later}
use Rattle.map_laws.specs.MadeLaws.{get_made}
use Rattle.solver_store.specs.SolverModel.{Leaves, StoredLeaves}

-- ---- keys

contains_filtered : {A : Type 0} (p : A → Bool) (xs : List A) (x : A) → Contains xs x → p x ≡ true
    → Contains (filter p xs) x
contains_filtered p [] x c t = absurd (omega (arith, c.1))
contains_filtered p (y ∷ ys) x (zero, inside, is) t = here (p y) (ap p is ∙ t)
  where
    here : (b : Bool) → b ≡ true → Contains (cond b (y ∷ filter p ys) (filter p ys)) x
    here true e = (0, omega arith, is)
    here false e = absurd (true≢false (sym e))
contains_filtered p (y ∷ ys) x (suc k, inside, is) t =
    later (p y) (contains_filtered p ys x (k, omega (arith, inside), is) t)
  where
    later : (b : Bool) → Contains (filter p ys) x → Contains (cond b (y ∷ filter p ys) (filter p ys)) x
    later true c = contains_later y x (filter p ys) c
    later false c = c

-- the addresses of indices are apart
indices_apart : (indices : Indices) → AllPairs (λ a b. ¬ (b ≡ a)) (addresses indices)
indices_apart indices =
    keys_apart (finite.entries indices)
    (rising_distinct address_cmp (finite.entries indices) (finite.entries_sorted indices))

-- ---- one map

module _ {X : Type 0} (m : FinMap address_cmp X) (es : List (Address × X)) (all : List Address)
    (covers : (q : Address) → is_some (finite.get m q) ≡ among all q) where
  abbrev gone : List Address
  gone = others (keys_of es) all

  -- what isn't put goes
  none_left : (q : Address) → among (keys_of es) q ≡ false
      → finite.get (without_all m gone) q ≡ None
  none_left q absent = by (finite.get m q) refl
    where
      by : (o : Option X) → finite.get m q ≡ o → finite.get (without_all m gone) q ≡ None
      by None e = none_without q m gone e
      by (Some x) e =
          get_without q m gone
          (contains_filtered (λ at. not (among (keys_of es) at)) all q
          (contains_among q all (sym (covers q) ∙ ap is_some e)) (ap not absent))

  pub all_replaced : HasDistinctKeys address_cmp es → spliced m gone es ≡ finite.from_entries es
  all_replaced distinct = finite.same_map address_total exact_addresses _ _ (λ q.
      get_put_all q (without_all m gone) es (entries_apart es distinct)
      ∙ by q (lookup (is_at (address_cmp q)) es) refl
      ∙ sym (get_made address_total es q))
    where
      by : (q : Address) (o : Option X) → lookup (is_at (address_cmp q)) es ≡ o
          → option_or (lookup (is_at (address_cmp q)) es) (finite.get (without_all m gone) q)
          ≡ lookup (is_at (address_cmp q)) es
      by q None e =
          ap (λ o. option_or o (finite.get (without_all m gone) q)) e
          ∙ none_left q (sym (looked_among q es) ∙ ap is_some e) ∙ sym e
      by q (Some x) e =
          ap (λ o. option_or o (finite.get (without_all m gone) q)) e ∙ sym e

  pub gone_there : All (λ at. IsSome (finite.get m at)) gone
  gone_there =
      All-filter (λ at. not (among (keys_of es) at)) (λ at. IsSome (finite.get m at)) all
      (All-weaker (Contains all) (λ at. IsSome (finite.get m at))
      (λ at c. covers at ∙ among_contained at all c) all (All-contains_itself all))

  pub all_beside : ArePutBeside gone es
  all_beside =
      All-weaker (λ e. Contains (keys_of es) e.0) (λ e. ¬ (Contains gone e.0))
      (λ e c k. true≢false (sym (All-contains (λ at. not (among (keys_of es) at) ≡ true) gone e.0
      (filter_passes (λ at. not (among (keys_of es) at)) all) k)
      ∙ ap not (among_contained e.0 (keys_of es) c))) es
      (all_from_map (Contains (keys_of es)) (λ e. e.0) es (All-contains_itself (keys_of es)))

one_distinct : (os : List (Address × Body)) → length os ≤ 1 → HasDistinctKeys address_cmp os
unfolding IsDistinct
one_distinct [] h = tt
one_distinct (o ∷ []) h = (tt, tt)
one_distinct (o ∷ p ∷ os) h = absurd (omega (arith, h))

-- ---- the whole

module _ (places : AddressMap) (leaves : Leaves) (at : Address) (put : List Item)
    (names : NamesEach places leaves) (are : AreLeaves put) where
  abbrev model : LeafModel
  model = read_through places leaves at

  abbrev all_gone : Gone
  all_gone = others_in places leaves at put

  replaced : spliced_model model all_gone put ≡ leaf_model_of put
  replaced = λ i. record {
    variables = all_replaced model.variables (flat_map leaf_variables put)
        (addresses places.vars.indices) (variables_cover places leaves at names) are.variables i;
    rows = all_replaced model.rows (flat_map leaf_rows put) (addresses places.rows.indices)
        (rows_cover places leaves at names) are.rows i;
    objective = all_replaced model.objective (flat_map leaf_objectives put)
        (objective_addresses leaves at) (objective_covers places leaves at names)
        (one_distinct (flat_map leaf_objectives put) are.objective) i;
  }

  pub is_splice : IsSplice model all_gone put
  is_splice = record {
    forms = are.forms;
    leaves_name = subst (λ m. All (NamesLeaves m) put) (sym replaced) are.names;
    variables = keys_apart (flat_map leaf_variables put) are.variables;
    rows = keys_apart (flat_map leaf_rows put) are.rows;
    objective = are.objective;
    variables_beside = all_beside model.variables (flat_map leaf_variables put)
        (addresses places.vars.indices) (variables_cover places leaves at names);
    rows_beside = all_beside model.rows (flat_map leaf_rows put) (addresses places.rows.indices)
        (rows_cover places leaves at names);
    objective_beside = all_beside model.objective (flat_map leaf_objectives put)
        (objective_addresses leaves at) (objective_covers places leaves at names);
    gone_variables = gone_there model.variables (flat_map leaf_variables put)
        (addresses places.vars.indices) (variables_cover places leaves at names);
    gone_rows = gone_there model.rows (flat_map leaf_rows put) (addresses places.rows.indices)
        (rows_cover places leaves at names);
    gone_objective = gone_there model.objective (flat_map leaf_objectives put)
        (objective_addresses leaves at) (objective_covers places leaves at names);
    variables_apart = AllPairs-filter (λ a b. ¬ (b ≡ a))
        (λ q. not (among (keys_of (flat_map leaf_variables put)) q))
        (addresses places.vars.indices) (indices_apart places.vars.indices);
    rows_apart = AllPairs-filter (λ a b. ¬ (b ≡ a))
        (λ q. not (among (keys_of (flat_map leaf_rows put)) q))
        (addresses places.rows.indices) (indices_apart places.rows.indices);
    names = subst NamesOwn (sym replaced) (names_own put are);
    one = subst (λ (m : LeafModel). HasOneAddress m.objective) (sym replaced) (has_one put are);
  }

  -- so what is spliced is the leaves
  pub changed_to : (old new : StoredLeaves) (map : AddressMap) (after : Address) (going : Gone) (n : ℕ)
      → going ≡ all_gone
      → IsChangedTo (spliced_model model going put) old places at n new map after
      → IsChangedTo (leaf_model_of put) old places at n new map after
  changed_to old new map after going n all h =
      subst (λ m. IsChangedTo m old places at n new map after)
      (ap (λ g. spliced_model model g put) all ∙ replaced) h
