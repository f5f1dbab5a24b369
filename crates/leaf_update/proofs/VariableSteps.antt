-- A leaf variable that is added, changed, or taken out: rows and the objective are read as before,
-- and no other address changes.
use Rattle.std.specs.Prelude.{◌≡◌, ℕ, ◌+◌, ◌≤◌, ◌-◌, ◌^◌, IfSome, [], ◌∷◌, Option, Some, None, option_and_then, refl}
use Rattle.std.specs.FinMap as finite
use Rattle.std.specs.FinMap.{FinMap}
use Rattle.std.specs.Option.{option_map, option_map_or}
use Rattle.std.specs.Ordering.{nat_cmp}
use Rattle.std.proofs.Common.{arith, sym, ◌∙◌, ap, ap₂, subst}
use Rattle.std.proofs.lemmas.Option.{none-some}
use Rattle.address_map.specs.AddressMap.{AddressMap}
use Rattle.address_map.specs.Places.{AreIndicesOneToOne, Indices, Places}
use Rattle.aff_core.specs.Address.{Address, address_cmp, address_total, exact_addresses}
use Rattle.aff_core.specs.KeyOrder.{address_order, same_or_other}
use Rattle.bridge_face.specs.Law.{Miss}
use Rattle.item_core.specs.Item.{functions_of}
use Rattle.leaf_update.specs.Named.{NamesEach, ObjectiveNames}
use Rattle.leaf_update.specs.Puts.{objectives_in, rows_in, variables_in}
use Rattle.leaf_model.specs.ReadThrough.{by_address, read_objective, read_row}
use Rattle.map_laws.specs.OptionLaws.{not_some}
use Rattle.solver_store.specs.SolverModel.{Leaves, one_more, with_var, without_var}
use Rattle.solver_store.specs.declared.leaf.LeafObjective.{LeafObjective}
use Rattle.solver_store.specs.declared.leaf.LeafRow.{LeafRow}
use Rattle.solver_store.specs.declared.leaf.LeafVar.{LeafVar}
use Rattle.std_form.specs.Readable.{NamesExactly}
use Rattle.std_form.specs.ThroughLaws.{get_through}
use Rattle.leaf_update.proofs.Added.{exact_more, through_more}
use Rattle.leaf_update.specs.Steps.{CountsFrom, DropsVariable, NobodyNames, SetsVariable, StaysBeside, rest_of}
use Rattle.leaf_update.proofs.Counted.{counts_one, counts_same}
use Rattle.leaf_update.proofs.Shared.{SharesObjective, grown_objective, grown_row, objective_named, shrunk_objective, shrunk_row}
use Rattle.leaf_update.proofs.KeptNamed.{KeepsNamed, names_kept, objective_kept, rows_kept}
use Rattle.leaf_update.proofs.Through.{exact_changed, exact_removed, one_removed, through_changed, through_removed}
use Rattle.leaf_update.specs.SplicedLaws.{get_beside, get_gone, get_past, get_put}

-- ---- counts

module _ {X : Type 0} (m : FinMap address_cmp X) (at : Address) where
  pub set_counts : (x : X) (n : FinMap address_cmp X) → n ≡ finite.insert m at x
      → ¬ (finite.get m at ≡ Some x) → CountsFrom m n at 1
  set_counts x n e other start as_was =
      counts_one start m n at as_was
      (λ q k. ap (λ o. finite.get o q) e ∙ get_past address_order m at x q k)
      (λ same. other (sym same ∙ ap (λ o. finite.get o at) e ∙ get_put address_order m at x))

  pub same_counts : CountsFrom m m at 0
  same_counts start as_was = counts_same start m m at as_was (λ q k. refl) refl

  pub gone_counts : (x : X) (n : FinMap address_cmp X) → n ≡ finite.remove m at
      → finite.get m at ≡ Some x → CountsFrom m n at 1
  gone_counts x n e here start as_was =
      counts_one start m n at as_was
      (λ q k. ap (λ o. finite.get o q) e ∙ get_beside address_order m at q k)
      (λ same. none-some x (sym (ap (λ o. finite.get o at) e ∙ get_gone address_order m at)
      ∙ same ∙ here))

pub one_call : (calls : ℕ) (after : ℕ) → calls ≤ 2 ^ 64 - 1 → after ≡ one_more calls
    → (calls ≤ after) × (after ≤ calls + 1)
one_call calls after h e = (omega (arith, h, e), omega (arith, h, e))

-- ---- other indices of variables

module _ (old : AddressMap) (leaves : Leaves) (names : NamesEach old leaves)
    (one : AreIndicesOneToOne old.vars.indices) (new : AddressMap) (after : Leaves)
    (other : AreIndicesOneToOne new.vars.indices)
    (row_places : new.rows ≡ old.rows) (rest : rest_of new ≡ rest_of old)
    (rows : after.rows ≡ leaves.rows) (objective : after.objective ≡ leaves.objective)
    (exact : NamesExactly new.vars.indices after.vars)
    (keeps : KeepsNamed old.vars.indices new.vars.indices leaves) where
  stays_beside : StaysBeside old leaves new after
  stays_beside = record {
    named = record {
      vars = exact;
      rows = subst (λ (p : Places × FinMap nat_cmp LeafRow). NamesExactly p.0.indices p.1)
          (λ j. (sym row_places j, sym rows j)) names.rows;
      each_row = λ i r e. names_kept old leaves new.vars.indices one other keeps i r
          (ap (λ m. finite.get m i) (sym rows) ∙ e);
      objective = subst (λ o. IfSome o (ObjectiveNames new.vars.indices)) (sym objective)
          (objective_names leaves.objective keeps.objective);
    };
    rows = (λ j. by_address (read_row new.vars.indices) (row_places j).indices (rows j))
        ∙ rows_kept old leaves new.vars.indices one other keeps;
    objective = ap (λ o. option_map_or (λ o. read_objective new.vars.indices o ∷ []) o []) objective
        ∙ same_objectives leaves.objective refl;
    row_places = row_places;
    rest = rest;
  }
    where
      objective_names : (o : Option LeafObjective)
          → IfSome o (SharesObjective old.vars.indices new.vars.indices)
          → IfSome o (ObjectiveNames new.vars.indices)
      objective_names None h = h
      objective_names (Some o) h = objective_named old.vars.indices new.vars.indices o h

      same_objectives : (o : Option LeafObjective) → leaves.objective ≡ o
          → option_map_or (λ o. read_objective new.vars.indices o ∷ []) o []
          ≡ option_map_or (λ o. read_objective old.vars.indices o ∷ []) o []
      same_objectives None e = refl
      same_objectives (Some o) e =
          ap (λ b. b ∷ []) (objective_kept old leaves new.vars.indices one other keeps o e)

-- ---- added

module _ (old : AddressMap) (leaves : Leaves) (names : NamesEach old leaves)
    (one : AreIndicesOneToOne old.vars.indices) (at : Address) (var : LeafVar) (i : ℕ)
    (absent : finite.get old.vars.indices at ≡ None) (unused : finite.get leaves.vars i ≡ None)
    (few : leaves.calls ≤ 2 ^ 64 - 1)
    (new : AddressMap) (after : Leaves) (added : after ≡ with_var leaves i var)
    (put : new.vars.indices ≡ finite.insert old.vars.indices at i)
    (other : AreIndicesOneToOne new.vars.indices)
    (row_places : new.rows ≡ old.rows) (rest : rest_of new ≡ rest_of old) where
  pub variable_added : SetsVariable old leaves at var 1 new after
  variable_added = record {
    beside = stays_beside old leaves names one new after other row_places rest
        (ap (λ l. l.rows) added) (ap (λ l. l.objective) added) exact keeps;
    set = set_is;
    extends = λ q j e. ap (λ m. finite.get m q) put
        ∙ get_past address_order old.vars.indices at i q
        (λ s. none-some j (sym absent ∙ ap (finite.get old.vars.indices) (sym s) ∙ e)) ∙ e;
    calls =
        let c = one_call leaves.calls after.calls few (ap (λ l. l.calls) added) in
        record { rises = c.0; bound = c.1 };
    counts = set_counts (variables_in old leaves) at var (variables_in new after) set_is
        (λ e. none-some var (sym nothing ∙ e));
  }
    where
      nothing : finite.get (variables_in old leaves) at ≡ None
      nothing =
          get_through leaves.vars (λ v. v) old.vars.indices at
          ∙ ap (option_and_then (λ j. option_map (λ v. v) (finite.get leaves.vars j))) absent

      exact : NamesExactly new.vars.indices after.vars
      exact =
          subst (λ (p : Indices × Leaves). NamesExactly p.0 p.1.vars)
          (λ j. (sym put j, sym added j))
          (exact_more old.vars.indices leaves.vars names.vars at i var absent unused)

      keeps : KeepsNamed old.vars.indices new.vars.indices leaves
      keeps =
          subst (λ m. KeepsNamed old.vars.indices m leaves) (sym put) (record {
            rows = λ k r e. grown_row old.vars.indices at i absent r (names.each_row k r e);
            objective = each leaves.objective names.objective;
          })
        where
          each : (o : Option LeafObjective) → IfSome o (ObjectiveNames old.vars.indices)
              → IfSome o (SharesObjective old.vars.indices (finite.insert old.vars.indices at i))
          each None h = h
          each (Some o) h = grown_objective old.vars.indices at i absent o h

      set_is : variables_in new after ≡ finite.insert (variables_in old leaves) at var
      set_is =
          ap₂ (by_address (λ v. v)) put (ap (λ (l : Leaves). l.vars) added)
          ∙ through_more old.vars.indices leaves.vars names.vars at i var absent unused (λ v. v)

-- ---- taken out

module _ (old : AddressMap) (leaves : Leaves) (names : NamesEach old leaves)
    (one : AreIndicesOneToOne old.vars.indices) (at : Address) (i : ℕ)
    (here : finite.get old.vars.indices at ≡ Some i) (nobody : NobodyNames old leaves at)
    (few : leaves.calls ≤ 2 ^ 64 - 1)
    (new : AddressMap) (after : Leaves) (removed : after ≡ without_var leaves i)
    (put : new.vars.indices ≡ finite.remove old.vars.indices at)
    (row_places : new.rows ≡ old.rows) (rest : rest_of new ≡ rest_of old) where
  pub variable_dropped : DropsVariable old leaves at 1 new after
  variable_dropped = record {
    beside = stays_beside old leaves names one new after
        (subst AreIndicesOneToOne (sym put)
        (one_removed old.vars.indices leaves.vars names.vars one at i here)) row_places rest
        (ap (λ l. l.rows) removed) (ap (λ l. l.objective) removed) exact keeps;
    dropped = dropped_is;
    extends = λ q j e. same_or_other address_order _ q at
        (λ s. absurd (none-some j (sym (ap (finite.get new.vars.indices) s
        ∙ ap (λ m. finite.get m at) put ∙ get_gone address_order old.vars.indices at) ∙ e)))
        (λ n. sym (get_beside address_order old.vars.indices at q n)
        ∙ ap (λ m. finite.get m q) (sym put) ∙ e);
    calls =
        let c = one_call leaves.calls after.calls few (ap (λ l. l.calls) removed) in
        record { rises = c.0; bound = c.1 };
    counts = λ start as_was k.
        gone_by (finite.get leaves.vars i) refl start as_was k;
  }
    where
      exact : NamesExactly new.vars.indices after.vars
      exact =
          subst (λ (p : Indices × Leaves). NamesExactly p.0 p.1.vars)
          (λ j. (sym put j, sym removed j))
          (exact_removed old.vars.indices leaves.vars names.vars one at i here)

      keeps : KeepsNamed old.vars.indices new.vars.indices leaves
      keeps =
          subst (λ m. KeepsNamed old.vars.indices m leaves) (sym put) (record {
            rows = λ k r e. shrunk_row old.vars.indices one at i here r (names.each_row k r e)
                (nobody.rows k r e);
            objective = each leaves.objective names.objective nobody.objective;
          })
        where
          each : (o : Option LeafObjective) → IfSome o (ObjectiveNames old.vars.indices)
              → IfSome o (λ o. Miss (functions_of (read_objective old.vars.indices o)) at)
              → IfSome o (SharesObjective old.vars.indices (finite.remove old.vars.indices at))
          each None h m = h
          each (Some o) h m = shrunk_objective old.vars.indices one at i here o h m

      dropped_is : variables_in new after ≡ finite.remove (variables_in old leaves) at
      dropped_is =
          ap₂ (by_address (λ v. v)) put (ap (λ (l : Leaves). l.vars) removed)
          ∙ through_removed old.vars.indices leaves.vars names.vars one at i here (λ v. v)

      gone_by : (o : Option LeafVar) → finite.get leaves.vars i ≡ o
          → CountsFrom (variables_in old leaves) (variables_in new after) at 1
      gone_by None e = absurd (not_some (finite.get leaves.vars i) e (names.vars.used at i here))
      gone_by (Some x) e =
          gone_counts (variables_in old leaves) at x (variables_in new after) dropped_is
          (get_through leaves.vars (λ v. v) old.vars.indices at
          ∙ ap (option_and_then (λ j. option_map (λ v. v) (finite.get leaves.vars j))) here
          ∙ ap (option_map (λ v. v)) e)

-- ---- changed, or as it is

module _ (old : AddressMap) (leaves : Leaves) (names : NamesEach old leaves)
    (one : AreIndicesOneToOne old.vars.indices) (at : Address) (var : LeafVar) (i : ℕ)
    (here : finite.get old.vars.indices at ≡ Some i) where
  found_at : (o : Option LeafVar) → finite.get leaves.vars i ≡ o
      → finite.get (variables_in old leaves) at ≡ o
  found_at o e =
      get_through leaves.vars (λ v. v) old.vars.indices at
      ∙ ap (option_and_then (λ j. option_map (λ v. v) (finite.get leaves.vars j))) here
      ∙ ap (option_map (λ v. v)) e ∙ by o
    where
      by : (o : Option LeafVar) → option_map (λ v. v) o ≡ o
      by None = refl
      by (Some x) = refl

  pub variable_same : finite.get leaves.vars i ≡ Some var → SetsVariable old leaves at var 0 old leaves
  variable_same e = record {
    beside = record {
      named = names;
      rows = refl;
      objective = refl;
      row_places = refl;
      rest = refl;
    };
    set = finite.same_map address_total exact_addresses _ _ (λ q.
        same_or_other address_order _ q at
        (λ s. ap (finite.get (variables_in old leaves)) s ∙ found_at (Some var) e
        ∙ sym (ap (finite.get (finite.insert (variables_in old leaves) at var)) s
        ∙ get_put address_order (variables_in old leaves) at var))
        (λ n. sym (get_past address_order (variables_in old leaves) at var q n)));
    extends = λ q j e. e;
    calls = record { rises = omega arith; bound = omega arith };
    counts = same_counts (variables_in old leaves) at;
  }

  module _ (differs : ¬ (finite.get leaves.vars i ≡ Some var)) (few : leaves.calls ≤ 2 ^ 64 - 1)
      (after : Leaves) (changed : after ≡ with_var leaves i var) where
    pub variable_changed : SetsVariable old leaves at var 1 old after
    variable_changed = record {
      beside = record {
        named = record {
          vars = subst (λ (l : Leaves). NamesExactly old.vars.indices l.vars) (sym changed)
              (exact_changed old.vars.indices leaves.vars names.vars one at i here var);
          rows = subst (λ (l : Leaves). NamesExactly old.rows.indices l.rows) (sym changed)
              names.rows;
          each_row = λ k r e. names.each_row k r
              (ap (λ (l : Leaves). finite.get l.rows k) (sym changed) ∙ e);
          objective = subst (λ (l : Leaves). IfSome l.objective (ObjectiveNames old.vars.indices))
              (sym changed) names.objective;
        };
        rows = ap (λ (l : Leaves). rows_in old l) changed;
        objective = ap (λ (l : Leaves). objectives_in old l) changed;
        row_places = refl;
        rest = refl;
      };
      set = set_is;
      extends = λ q j e. e;
      calls =
          let c = one_call leaves.calls after.calls few (ap (λ l. l.calls) changed) in
          record { rises = c.0; bound = c.1 };
      counts = set_counts (variables_in old leaves) at var (variables_in old after) set_is
          (λ e. differs (some_of (finite.get leaves.vars i) refl e));
    }
      where
        set_is : variables_in old after ≡ finite.insert (variables_in old leaves) at var
        set_is =
            ap (λ (l : Leaves). variables_in old l) changed
            ∙ through_changed old.vars.indices leaves.vars names.vars one at i here (λ v. v) var

        some_of : (o : Option LeafVar) → finite.get leaves.vars i ≡ o
            → finite.get (variables_in old leaves) at ≡ Some var
            → finite.get leaves.vars i ≡ Some var
        some_of o e f = e ∙ sym (found_at o e) ∙ f
