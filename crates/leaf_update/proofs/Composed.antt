-- Leaves changed in place: variables set, rows set, the objective changed, rows taken out, and
-- variables taken out at last.
use Rattle.std.specs.Prelude.{◌≡◌, ◌+◌, ℕ, zero, suc, List, [], ◌∷◌, All, Contains, IsSome, is_some, Option, Some, None, flat_map, length, refl}
use Rattle.std.specs.FinMap as finite
use Rattle.std.specs.FinMap.{FinMap}
use Rattle.std.specs.Option.{option_map, option_map_or}
use Rattle.std.proofs.Common.{arith, sym, ◌∙◌, ap, ap₂, subst}
use Rattle.std.proofs.lemmas.List.Elements.{All-contains, All-weaker, All-contains_itself}
use Rattle.std.proofs.lemmas.Option.{same_Some}
use Rattle.address_map.specs.AddressMap.{AddressMap}
use Rattle.address_map.specs.Places.{Indices}
use Rattle.aff_core.specs.Address.{Address, address_cmp}
use Rattle.aff_core.specs.Function.{Function, terms_of}
use Rattle.aff_core.specs.KeyOrder.{address_order, same_or_other}
use Rattle.equality_form.specs.Native.{NamesVariables}
use Rattle.fresh_bridging.specs.Leaves.{leaf_objectives, leaf_rows, leaf_variables}
use Rattle.item_core.specs.Item.{functions_of}
use Rattle.item_core.specs.declared.item.Body.{Body}
use Rattle.item_core.specs.declared.item.Item.{Item}
use Rattle.leaf_update.specs.Leaves.{NamesLeaves}
use Rattle.leaf_update.specs.Named.{HasIndices, IsIndexed, NamesEach}
use Rattle.leaf_update.specs.Puts.{objectives_in, put_all, rows_in, variables_in}
use Rattle.leaf_model.specs.LeafModel.{Differ, IsChangeCount, IsCountOf, LeafModel}
use Rattle.leaf_model.specs.ReadThrough.{by_address, read_objective, read_row, read_through}
use Rattle.map_laws.specs.EachLaws.{cons_head, all_both, contains_here, contains_later}
use Rattle.map_laws.specs.OptionLaws.{not_some}
use Rattle.solver_store.specs.SolverModel.{Leaves, StoredLeaves}
use Rattle.solver_store.specs.declared.leaf.LeafObjective.{LeafObjective}
use Rattle.solver_store.specs.declared.leaf.LeafVar.{LeafVar}
use Rattle.leaf_update.specs.Steps.{CallsAtMost, rest_of}
use Rattle.leaf_update.specs.CoverLaws.{read_where, row_where}
use Rattle.leaf_update.proofs.Counted.{counts_none}
use Rattle.leaf_update.specs.Phases.{AreDroppable, BodiesMiss, ChangesAtKeys, CountsAt, DropsRows, HasDropped, SetsRows, SetsVariables}
use Rattle.leaf_update.proofs.Dropping.{own_miss}
use Rattle.leaf_update.specs.Objective.{CanChange, ChangesObjective, objective_held}
use Rattle.leaf_update.proofs.ObjectiveSteps.{read_objective_is}
use Rattle.leaf_update.proofs.PhaseSteps.{spliced_after}
use Rattle.leaf_update.specs.Splice.{ArePutBeside, Gone, IsSplice, IsSplicedInto, KeepsIndices, keys_of, spliced, spliced_model, without_all}
use Rattle.leaf_update.specs.SplicedLaws.{get_beside, get_gone, get_put, get_without}

-- ---- what goes is no key of what is put

contains_key : {X : Type 0} (k : Address) (es : List (Address × X)) → Contains (keys_of es) k
    → (e : Address × X) × Contains es e × (e.0 ≡ k)
contains_key k [] c = absurd (omega (arith, c.1))
contains_key k (e ∷ es) (zero, inside, is) = (e, contains_here e es, is)
contains_key k (e ∷ es) (suc i, inside, is) =
    let r = contains_key k es (i, omega (arith, inside), is) in
    (r.0, contains_later e r.0 es r.1, r.2)

pub no_key_gone : {X : Type 0} (gone : List Address) (es : List (Address × X)) (q : Address)
    → ArePutBeside gone es → Contains gone q → ¬ (Contains (keys_of es) q)
no_key_gone gone es q beside c k =
    let r = contains_key q es k in
    All-contains (λ e. ¬ (Contains gone e.0)) es r.0 beside r.1
    (subst (Contains gone) (sym r.2) c)

-- all of which pass what each that is contained does
all_by : {A : Type 0} (P : A → Type 0) (xs : List A) → ((x : A) → Contains xs x → P x) → All P xs
all_by {A} P xs h = All-weaker (Contains xs) P h xs (All-contains_itself xs)

module _ {X : Type 0} (m n : FinMap address_cmp X) (es : List (Address × X)) (gone : List Address)
    (set : n ≡ put_all m es) (c : ℕ) (changes : ChangesAtKeys m n (keys_of es) c)
    (beside : ArePutBeside gone es) where
  -- what goes is still as it was
  pub gone_as_was : All (λ at. finite.get n at ≡ finite.get m at) gone
  gone_as_was = all_by (λ at. finite.get n at ≡ finite.get m at) gone
      (λ q k. changes.outside q (no_key_gone gone es q beside k))

  pub gone_still : All (λ at. IsSome (finite.get m at)) gone
      → All (λ at. IsSome (finite.get n at)) gone
  gone_still h =
      All-weaker (λ at. (finite.get n at ≡ finite.get m at) × IsSome (finite.get m at))
      (λ at. IsSome (finite.get n at)) (λ q p. subst IsSome (sym p.0) p.1) gone
      (all_both (λ at. finite.get n at ≡ finite.get m at) (λ at. IsSome (finite.get m at)) gone
      gone_as_was h)

  module _ (o : FinMap address_cmp X) (dropped : o ≡ without_all n gone) where
    pub is_spliced : o ≡ spliced m gone es
    is_spliced = dropped ∙ ap (λ k. without_all k gone) set ∙ spliced_after m gone es beside

    pub gone_none : (q : Address) → Contains gone q → finite.get o q ≡ None
    gone_none q k = ap (λ x. finite.get x q) dropped ∙ get_without q n gone k

  -- in the end nothing stands that didn't before the last step
  pub stood_before : (q : Address) → IsSome (finite.get (spliced m gone es) q)
      → IsSome (finite.get n q)
  stood_before q h =
      kept n gone (subst (λ x. IsSome (finite.get x q))
      (sym (ap (λ k. without_all k gone) set ∙ spliced_after m gone es beside)) h)
    where
      removed : (k : FinMap address_cmp X) (at : Address)
          → IsSome (finite.get (finite.remove k at) q) → IsSome (finite.get k q)
      removed k at s = same_or_other address_order (IsSome (finite.get k q)) q at
          (λ e. absurd (not_some (finite.get (finite.remove k at) q)
          (ap (finite.get (finite.remove k at)) e ∙ get_gone address_order k at) s))
          (λ other. subst IsSome (get_beside address_order k at q other) s)

      kept : (k : FinMap address_cmp X) (gone : List Address)
          → IsSome (finite.get (without_all k gone) q) → IsSome (finite.get k q)
      kept k [] s = s
      kept k (at ∷ gone) s = removed k at (kept (finite.remove k at) gone s)

-- ---- all that leaves name has an index once variables are set

module _ (model : LeafModel) (indices : Indices)
    (there : (q : Address) → IsSome (finite.get model.variables q) → IsSome (finite.get indices q))
  where
    indexed : (f : Function) → NamesVariables model f → IsIndexed indices f
    indexed f h =
        All-weaker (λ t. IsSome (finite.get model.variables t.0))
        (λ t. IsSome (finite.get indices t.0)) (λ t k. there t.0 k) (terms_of f) h

    pub all_indexed : (leaves : List Item) → All (NamesLeaves model) leaves
        → All (HasIndices indices) leaves
    all_indexed leaves h =
        All-weaker (NamesLeaves model) (HasIndices indices)
        (λ leaf k. All-weaker (NamesVariables model) (IsIndexed indices) indexed
        (functions_of leaf.body) k) leaves h

one_none : (b : Body) → ¬ (b ∷ [] ≡ [])
one_none b e = absurd (omega (arith, ap length e))

from_zero : {P : Address → Type 0} (c : ℕ) → IsCountOf P (0 + c) → IsCountOf P c
from_zero {P} c h = subst (IsCountOf P) (none_more c) h
  where
    none_more : (c : ℕ) → 0 + c ≡ c
    none_more c = omega arith

-- ---- the whole

module _ (start : AddressMap) (l0 : Leaves) (at0 : Address) (gone : Gone) (leaves : List Item)
    (names : NamesEach start l0)
    (splice : IsSplice (read_through start l0 at0) gone leaves) where
  abbrev vs : List (Address × LeafVar)
  vs = flat_map leaf_variables leaves

  abbrev rs : List (Address × Body)
  rs = flat_map leaf_rows leaves

  abbrev os : List (Address × Body)
  os = flat_map leaf_objectives leaves

  abbrev goal_model : LeafModel
  goal_model = spliced_model (read_through start l0 at0) gone leaves

  module _ (m1 : AddressMap) (l1 : Leaves) (c1 : ℕ) (first : SetsVariables start l0 vs c1 m1 l1) where
    pub rows_indexed : All (HasIndices m1.vars.indices) leaves
    rows_indexed =
        all_indexed goal_model m1.vars.indices
        (λ q h. read_where m1 l1 first.beside.named q
        ∙ stood_before (variables_in start l0) (variables_in m1 l1) vs gone.variables first.set c1
        first.changes splice.variables_beside q h)
        leaves splice.leaves_name

    module _ (m2 : AddressMap) (l2 : Leaves) (c2 : ℕ) (second : SetsRows m1 l1 rs c2 m2 l2) where
      pub objective_indexed : All (HasIndices m2.vars.indices) leaves
      objective_indexed =
          subst (λ (p : _). All (HasIndices p.indices) leaves) (sym second.beside.var_places)
          rows_indexed

      -- the objective is as it was
      objective_kept : (at : Address) → (read_through m2 l2 at).objective
          ≡ (read_through start l0 at).objective
      objective_kept at =
          (λ j. option_map_or (λ o. finite.insert finite.empty at
          (read_objective (second.beside.var_places j).indices o))
          (second.beside.objective j) finite.empty)
          ∙ objectives_alike at l1.objective l0.objective first.beside.objective
        where
          objectives_alike : (at : Address) (o p : Option LeafObjective)
              → option_map_or (λ o. read_objective m1.vars.indices o ∷ []) o []
              ≡ option_map_or (λ o. read_objective start.vars.indices o ∷ []) p []
              → option_map_or (λ o. finite.insert finite.empty at
              (read_objective m1.vars.indices o)) o finite.empty
              ≡ option_map_or (λ o. finite.insert finite.empty at
              (read_objective start.vars.indices o)) p (finite.empty {R = address_cmp})
          objectives_alike at None None e = refl
          objectives_alike at (Some a) (Some b) e =
              ap (finite.insert finite.empty at) (cons_head _ _ [] [] e)
          objectives_alike at (Some a) None e = absurd (one_none _ e)
          objectives_alike at None (Some b) e = absurd (one_none _ (sym e))

      pub can_change : CanChange (read_through m2 l2 at0).objective gone.objective os
      can_change = subst (λ m. CanChange m gone.objective os) (sym (objective_kept at0)) (record {
        there = splice.gone_objective;
        one = splice.one;
      })

      module _ (l3 : Leaves) (c3 : ℕ) (at3 : Address)
          (third : ChangesObjective m2 l2 at0 gone.objective os c3 l3 at3) where
        rows_now : rows_in m2 l3 ≡ rows_in m2 l2
        rows_now = ap (λ m. by_address (read_row m2.vars.indices) m2.rows.indices m) third.rows

        pub rows_there : All (λ at. IsSome (finite.get m2.rows.indices at)) gone.rows
        rows_there =
            All-weaker (λ at. IsSome (finite.get (rows_in m2 l2) at))
            (λ at. IsSome (finite.get m2.rows.indices at))
            (λ q h. row_where m2 l2 second.beside.named q ∙ h) gone.rows
            (gone_still (rows_in m1 l1) (rows_in m2 l2) rs gone.rows second.set c2 second.changes
            splice.rows_beside
            (subst (λ m. All (λ at. IsSome (finite.get m at)) gone.rows) (sym first.beside.rows)
            splice.gone_rows))

        module _ (m4 : AddressMap) (l4 : Leaves) (c4 : ℕ)
            (fourth : DropsRows m2 l3 gone.rows c4 m4 l4) where
          variables_four : variables_in m4 l4 ≡ variables_in m1 l1
          variables_four =
              ap₂ (λ (p : _) v. by_address (λ x. x) p.indices v) fourth.beside.var_places
              (fourth.beside.vars ∙ third.vars)
              ∙ ap₂ (λ (p : _) v. by_address (λ x. x) p.indices v) second.beside.var_places
              second.beside.vars

          rows_four : rows_in m4 l4 ≡ goal_model.rows
          rows_four =
              fourth.dropped ∙ ap (λ m. without_all m gone.rows) (rows_now ∙ second.set)
              ∙ spliced_after (rows_in m1 l1) gone.rows rs splice.rows_beside
              ∙ ap (λ m. spliced m gone.rows rs) first.beside.rows

          objective_four : (read_through m4 l4 at3).objective ≡ goal_model.objective
          objective_four =
              (λ j. option_map_or (λ o. finite.insert finite.empty at3
              (read_objective (fourth.beside.var_places j).indices o))
              (fourth.beside.objective j) finite.empty)
              ∙ third.spliced_is ∙ ap (λ m. spliced m gone.objective os) (objective_kept at0)

          pub droppable : AreDroppable m4 l4 gone.variables
          droppable = record {
            there =
                All-weaker (λ at. IsSome (finite.get (variables_in m1 l1) at))
                (λ at. IsSome (finite.get m4.vars.indices at))
                (λ q h. read_where m4 l4 fourth.beside.named q
                ∙ ap (λ m. is_some (finite.get m q)) variables_four ∙ h) gone.variables
                (gone_still (variables_in start l0) (variables_in m1 l1) vs gone.variables first.set
                c1 first.changes splice.variables_beside splice.gone_variables);
            apart = splice.variables_apart;
            nobody = all_by (BodiesMiss (rows_in m4 l4) (objectives_in m4 l4)) gone.variables
                (λ q k. subst (λ m. BodiesMiss m (objectives_in m4 l4) q) (sym rows_four)
                (own_miss goal_model (objectives_in m4 l4) q splice.names stand
                (gone_none (variables_in start l0) (variables_in m1 l1) vs gone.variables first.set
                c1 first.changes splice.variables_beside goal_model.variables
                (sym (ap (λ m. without_all m gone.variables) first.set
                ∙ spliced_after (variables_in start l0) gone.variables vs splice.variables_beside))
                q k)));
          }
            where
              stand : (b : Body) → Contains (objectives_in m4 l4) b
                  → (a : Address) × (finite.get goal_model.objective a ≡ Some b)
              stand b c = (
                at3,
                ap (λ m. finite.get m at3) (sym objective_four ∙ read_objective_is m4 l4 at3)
                    ∙ by l4.objective c,
              )
                where
                  only : (x y : Body) → Contains (x ∷ []) y → x ≡ y
                  only x y (zero, inside, is) = is
                  only x y (suc i, inside, is) = absurd (omega (arith, inside))

                  by : (o : Option LeafObjective)
                      → Contains (option_map_or (λ o. read_objective m4.vars.indices o ∷ []) o []) b
                      → finite.get (objective_held at3
                      (option_map (read_objective m4.vars.indices) o)) at3 ≡ Some b
                  by None c = absurd (omega (arith, c.1))
                  by (Some o) c =
                      get_put address_order finite.empty at3 (read_objective m4.vars.indices o)
                      ∙ ap Some (only (read_objective m4.vars.indices o) b c)

          module _ (m5 : AddressMap) (l5 : Leaves) (c5 : ℕ)
              (fifth : HasDropped m4 l4 c5 m5 l5)
              (left : variables_in m5 l5 ≡ without_all (variables_in m4 l4) gone.variables)
              (counts : CountsAt (variables_in m4 l4) (variables_in m5 l5) gone.variables c5)
            where
              variables_five : variables_in m5 l5 ≡ goal_model.variables
              variables_five =
                  left ∙ ap (λ m. without_all m gone.variables) (variables_four ∙ first.set)
                  ∙ spliced_after (variables_in start l0) gone.variables vs splice.variables_beside

              objective_five : (read_through m5 l5 at3).objective ≡ goal_model.objective
              objective_five = same_objectives l5.objective l4.objective fifth.beside.objective
                  ∙ objective_four
                where
                  same_objectives : (o p : Option LeafObjective)
                      → option_map_or (λ o. read_objective m5.vars.indices o ∷ []) o []
                      ≡ option_map_or (λ o. read_objective m4.vars.indices o ∷ []) p []
                      → option_map_or (λ o. finite.insert finite.empty at3
                      (read_objective m5.vars.indices o)) o finite.empty
                      ≡ option_map_or (λ o. finite.insert finite.empty at3
                      (read_objective m4.vars.indices o)) p (finite.empty {R = address_cmp})
                  same_objectives None None e = refl
                  same_objectives (Some a) (Some b) e =
                      ap (finite.insert finite.empty at3) (cons_head _ _ [] [] e)
                  same_objectives (Some a) None e = absurd (one_none _ e)
                  same_objectives None (Some b) e = absurd (one_none _ (sym e))

              rows_five : rows_in m5 l5 ≡ goal_model.rows
              rows_five = fifth.beside.rows ∙ rows_four

              pub through : read_through m5 l5 at3 ≡ goal_model
              through = λ i. record {
                variables = variables_five i;
                rows = rows_five i;
                objective = objective_five i;
              }

              variables_count : IsCountOf (Differ (variables_in start l0) (variables_in m5 l5))
                  (c1 + c5)
              variables_count =
                  counts (variables_in start l0)
                  (subst (λ m. All (λ at. finite.get m at ≡ finite.get (variables_in start l0) at)
                  gone.variables) (sym variables_four)
                  (gone_as_was (variables_in start l0) (variables_in m1 l1) vs gone.variables first.set
                  c1 first.changes splice.variables_beside)) c1
                  (subst (λ m. IsCountOf (Differ (variables_in start l0) m) c1) (sym variables_four)
                  (from_zero c1 (first.changes.counts (variables_in start l0)
                  (all_by (λ at. finite.get (variables_in start l0) at
                  ≡ finite.get (variables_in start l0) at) (keys_of vs) (λ q k. refl)) 0
                  (counts_none (variables_in start l0)))))

              rows_count : IsCountOf (Differ (rows_in start l0) (rows_in m5 l5)) (c2 + c4)
              rows_count =
                  subst (λ (p : FinMap address_cmp Body × FinMap address_cmp Body).
                  IsCountOf (Differ p.0 p.1) (c2 + c4))
                  (λ i. (first.beside.rows i, sym fifth.beside.rows i))
                  (fourth.changes.counts (rows_in m1 l1)
                  (subst (λ m. All (λ at. finite.get m at ≡ finite.get (rows_in m1 l1) at) gone.rows)
                  (sym rows_now)
                  (gone_as_was (rows_in m1 l1) (rows_in m2 l2) rs gone.rows second.set c2
                  second.changes splice.rows_beside)) c2
                  (subst (λ m. IsCountOf (Differ (rows_in m1 l1) m) c2) (sym rows_now)
                  (from_zero c2 (second.changes.counts (rows_in m1 l1)
                  (all_by (λ at. finite.get (rows_in m1 l1) at ≡ finite.get (rows_in m1 l1) at)
                  (keys_of rs) (λ q k. refl)) 0
                  (counts_none (rows_in m1 l1))))))

              objective_count :
                  IsCountOf (Differ (read_through start l0 at0).objective
                  (read_through m5 l5 at3).objective) c3
              objective_count =
                  subst (λ (p : FinMap address_cmp Body × FinMap address_cmp Body).
                  IsCountOf (Differ p.0 p.1) c3)
                  (λ i. (
                    objective_kept at0 i,
                    (third.spliced_is ∙ ap (λ m. spliced m gone.objective os) (objective_kept at0)
                        ∙ sym objective_five) i,
                  ))
                  third.counts

              pub changed : IsChangeCount (read_through start l0 at0) (read_through m5 l5 at3)
                  (c1 + c2 + c3 + c4 + c5)
              changed = record {
                variables = c1 + c5;
                rows = c2 + c4;
                objective = c3;
                variables_are = variables_count;
                rows_are = rows_count;
                objective_is = objective_count;
                all = omega arith;
              }

              pub keeps_vars : KeepsIndices start.vars.indices m5.vars.indices
              keeps_vars at i j e f =
                  same_Some i j (sym (first.extends at i e)
                  ∙ ap (λ (p : _). finite.get p.indices at)
                  (sym second.beside.var_places ∙ sym fourth.beside.var_places)
                  ∙ fifth.extends at j f)

              pub keeps_rows : KeepsIndices start.rows.indices m5.rows.indices
              keeps_rows at i j e f =
                  same_Some i j (sym (second.extends at i
                  (ap (λ (p : _). finite.get p.indices at) first.beside.row_places ∙ e))
                  ∙ fourth.extends at j
                  (ap (λ (p : _). finite.get p.indices at) (sym fifth.beside.row_places) ∙ f))

              pub rest_kept : rest_of m5 ≡ rest_of start
              rest_kept = fifth.beside.rest ∙ fourth.beside.rest ∙ second.beside.rest
                  ∙ first.beside.rest

              pub all_calls : CallsAtMost l0 l5 (c1 + c2 + c3 + c4 + c5)
              all_calls = record {
                rises = omega (
                  arith,
                  first.calls.rises,
                  second.calls.rises,
                  third.calls.rises,
                  fourth.calls.rises,
                  fifth.calls.rises,
                );
                bound = omega (
                  arith,
                  first.calls.bound,
                  second.calls.bound,
                  third.calls.bound,
                  fourth.calls.bound,
                  fifth.calls.bound,
                );
              }

pub spliced_into : (start : AddressMap) (s0 : StoredLeaves) (at0 : Address) (gone : Gone)
    (leaves : List Item) (names : NamesEach start s0.leaves)
    (splice : IsSplice (read_through start s0.leaves at0) gone leaves)
    (m1 : AddressMap) (l1 : Leaves) (c1 : ℕ)
    → (first : SetsVariables start s0.leaves (flat_map leaf_variables leaves) c1 m1 l1)
    → (m2 : AddressMap) (l2 : Leaves) (c2 : ℕ)
    → (second : SetsRows m1 l1 (flat_map leaf_rows leaves) c2 m2 l2)
    → (l3 : Leaves) (c3 : ℕ) (at3 : Address)
    → (third : ChangesObjective m2 l2 at0 gone.objective (flat_map leaf_objectives leaves) c3 l3 at3)
    → (m4 : AddressMap) (l4 : Leaves) (c4 : ℕ)
    → (fourth : DropsRows m2 l3 gone.rows c4 m4 l4)
    → (m5 : AddressMap) (s5 : StoredLeaves) (c5 : ℕ)
    → (fifth : HasDropped m4 l4 c5 m5 s5.leaves)
    → (left : variables_in m5 s5.leaves ≡ without_all (variables_in m4 l4) gone.variables)
    → (counts : CountsAt (variables_in m4 l4) (variables_in m5 s5.leaves) gone.variables c5)
    → IsSplicedInto s0 start at0 gone leaves (c1 + c2 + c3 + c4 + c5) s5 m5 at3
spliced_into start s0 at0 gone leaves names splice m1 l1 c1 first m2 l2 c2 second l3 c3 at3 third m4 l4
    c4 fourth m5 s5 c5 fifth left counts = record {
      through = through start s0.leaves at0 gone leaves names splice m1 l1 c1 first m2 l2 c2 second l3 c3 at3 third m4 l4 c4
          fourth m5 s5.leaves c5 fifth left counts;
      named = fifth.beside.named;
      exprs = λ i. (rest_kept start s0.leaves at0 gone leaves names splice m1 l1 c1 first m2 l2 c2 second l3 c3 at3 third m4 l4 c4
          fourth m5 s5.leaves c5 fifth left counts i).0;
      vars = keeps_vars start s0.leaves at0 gone leaves names splice m1 l1 c1 first m2 l2 c2 second l3 c3 at3 third m4 l4 c4
          fourth m5 s5.leaves c5 fifth left counts;
      rows = keeps_rows start s0.leaves at0 gone leaves names splice m1 l1 c1 first m2 l2 c2 second l3 c3 at3 third m4 l4 c4
          fourth m5 s5.leaves c5 fifth left counts;
      counted = changed start s0.leaves at0 gone leaves names splice m1 l1 c1 first m2 l2 c2 second l3 c3 at3 third m4 l4 c4
          fourth m5 s5.leaves c5 fifth left counts;
      rises = (all_calls start s0.leaves at0 gone leaves names splice m1 l1 c1 first m2 l2 c2 second l3 c3 at3 third m4 l4 c4
          fourth m5 s5.leaves c5 fifth left counts).rises;
      calls = (all_calls start s0.leaves at0 gone leaves names splice m1 l1 c1 first m2 l2 c2 second l3 c3 at3 third m4 l4 c4
          fourth m5 s5.leaves c5 fifth left counts).bound;
    }
