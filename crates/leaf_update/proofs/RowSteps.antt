-- A leaf row that is added, changed, or taken out: variables and the objective stay.
use Rattle.std.specs.Prelude.{Bool, true, false, IsTrue, MatchBool, ◌↔◌, [], ◌∷◌, ◌≡◌, ◌≢◌, ℕ, ◌≤◌, ◌-◌, ◌^◌, IfSome, List, Option, Some, None, option_and_then, refl}
use Rattle.std.specs.FinMap as finite
use Rattle.std.specs.FinMap.{FinMap}
use Rattle.std.specs.Option.{option_map}
use Rattle.std.specs.Ordering.{nat_cmp}
use Rattle.std.proofs.Common.{arith, sym, ◌∙◌, ap, subst}
use Rattle.std.proofs.lemmas.Option.{none-some, same_Some}
use Rattle.address_map.specs.AddressMap.{AddressMap}
use Rattle.address_map.specs.Places.{AreIndicesOneToOne, Indices, Places}
use Rattle.aff_core.specs.Address.{Address, address_total, exact_addresses}
use Rattle.aff_core.specs.KeyOrder.{address_order, same_or_other}
use Rattle.item_core.specs.declared.item.Body.{Body}
use Rattle.leaf_update.specs.Named.{NamesEach, ObjectiveNames, RowNames}
use Rattle.leaf_update.specs.Puts.{row_at, rows_in}
use Rattle.map_laws.specs.EachLaws.{cons_head}
use Rattle.leaf_model.specs.ReadThrough.{by_address, read_row}
use Rattle.map_laws.specs.OptionLaws.{not_some}
use Rattle.solver_store.specs.SolverModel.{Leaves, with_row, without_row}
use Rattle.solver_store.specs.declared.leaf.LeafObjective.{LeafObjective}
use Rattle.solver_store.specs.declared.leaf.LeafRow.{LeafRow}
use Rattle.solver_store.specs.declared.leaf.LeafVar.{LeafVar}
use Rattle.std_form.specs.NameLaws.{index_order}
use Rattle.std_form.specs.Readable.{NamesExactly}
use Rattle.std_form.specs.ThroughLaws.{get_through}
use Rattle.leaf_update.proofs.Added.{exact_more, through_more}
use Rattle.leaf_update.proofs.Through.{exact_changed, exact_removed, through_changed, through_removed}
use Rattle.leaf_update.specs.SplicedLaws.{get_beside, get_gone, get_past, get_put}
use Rattle.leaf_update.specs.Steps.{CountsFrom, DropsRow, SetsRow, rest_of}
use Rattle.leaf_update.proofs.VariableSteps.{gone_counts, one_call, same_counts, set_counts}

module _ (old : AddressMap) (leaves : Leaves) (names : NamesEach old leaves)
    (few : leaves.calls ≤ 2 ^ 64 - 1) (new : AddressMap) (after : Leaves)
    (var_places : new.vars ≡ old.vars) (rest : rest_of new ≡ rest_of old) where
  -- every row names variables still, where each is an old one or the new one
  each_named : (i : ℕ) (row : LeafRow) → RowNames old.vars.indices row → (j : ℕ) (r : LeafRow)
      → finite.get (finite.insert leaves.rows i row) j ≡ Some r → RowNames old.vars.indices r
  each_named i row own j r e = same_or_other index_order (RowNames old.vars.indices r) j i
      (λ s. subst (RowNames old.vars.indices) (same_Some row r
      (sym (get_put index_order leaves.rows i row)
      ∙ ap (finite.get (finite.insert leaves.rows i row)) (sym s) ∙ e)) own)
      (λ n. names.each_row j r (sym (get_past index_order leaves.rows i row j n) ∙ e))

  each_left : (i j : ℕ) (r : LeafRow)
      → finite.get (finite.remove leaves.rows i) j ≡ Some r → RowNames old.vars.indices r
  each_left i j r e = same_or_other index_order (RowNames old.vars.indices r) j i
      (λ s. absurd (none-some r (sym (ap (finite.get (finite.remove leaves.rows i)) s
      ∙ get_gone index_order leaves.rows i) ∙ e)))
      (λ n. names.each_row j r (sym (get_beside index_order leaves.rows i j n) ∙ e))

  names_by : (rows : FinMap nat_cmp LeafRow) → after.vars ≡ leaves.vars → after.rows ≡ rows
      → after.objective ≡ leaves.objective → NamesExactly new.rows.indices rows
      → ((j : ℕ) (r : LeafRow) → finite.get rows j ≡ Some r → RowNames old.vars.indices r)
      → NamesEach new after
  names_by rows v r o exact each = record {
    vars = subst (λ (p : Places × FinMap nat_cmp LeafVar). NamesExactly p.0.indices p.1)
        (λ j. (sym var_places j, sym v j)) names.vars;
    rows = subst (NamesExactly new.rows.indices) (sym r) exact;
    each_row = λ j x e. subst (λ (p : Places). RowNames p.indices x) (sym var_places)
        (each j x (ap (λ m. finite.get m j) (sym r) ∙ e));
    objective = subst (λ (p : Places × Option LeafObjective). IfSome p.1 (ObjectiveNames
        p.0.indices)) (λ j. (sym var_places j, sym o j)) names.objective;
  }

  module _ (at : Address) (i : ℕ) (row : LeafRow) (own : RowNames old.vars.indices row)
      (is : after ≡ with_row leaves i row) where
    module _ (absent : finite.get old.rows.indices at ≡ None)
        (unused : finite.get leaves.rows i ≡ None)
        (put : new.rows.indices ≡ finite.insert old.rows.indices at i) where
      set_more : rows_in new after
          ≡ finite.insert (rows_in old leaves) at (read_row old.vars.indices row)
      set_more =
          (λ j. by_address (read_row (var_places j).indices) (put j) (is j).rows)
          ∙ through_more old.rows.indices leaves.rows names.rows at i row absent unused
          (read_row old.vars.indices)

      nothing : finite.get (rows_in old leaves) at ≡ None
      nothing =
          get_through leaves.rows (read_row old.vars.indices) old.rows.indices at
          ∙ ap (option_and_then (λ j. option_map (read_row old.vars.indices)
          (finite.get leaves.rows j))) absent

      pub row_added : SetsRow old leaves at (read_row old.vars.indices row) 1 new after
      row_added = record {
        beside = record {
          named = names_by (finite.insert leaves.rows i row) (ap (λ l. l.vars) is)
              (ap (λ l. l.rows) is) (ap (λ l. l.objective) is)
              (subst (λ m. NamesExactly m (finite.insert leaves.rows i row)) (sym put)
              (exact_more old.rows.indices leaves.rows names.rows at i row absent unused))
              (each_named i row own);
          var_places = var_places;
          vars = ap (λ l. l.vars) is;
          objective = ap (λ l. l.objective) is;
          rest = rest;
        };
        set = set_more;
        extends = λ q j e. ap (λ m. finite.get m q) put
            ∙ get_past address_order old.rows.indices at i q
            (λ s. none-some j (sym absent ∙ ap (finite.get old.rows.indices) (sym s) ∙ e)) ∙ e;
        calls =
            let c = one_call leaves.calls after.calls few (ap (λ l. l.calls) is) in
            record { rises = c.0; bound = c.1 };
        counts = set_counts (rows_in old leaves) at (read_row old.vars.indices row)
            (rows_in new after) set_more (λ e. none-some _ (sym nothing ∙ e));
      }

    module _ (one : AreIndicesOneToOne old.rows.indices) (here : finite.get old.rows.indices at ≡ Some i)
        (same_places : new.rows ≡ old.rows)
        (differs : ¬ (finite.get (rows_in old leaves) at ≡ Some (read_row old.vars.indices row)))
      where
        set_again : rows_in new after
            ≡ finite.insert (rows_in old leaves) at (read_row old.vars.indices row)
        set_again =
            (λ j. by_address (read_row (var_places j).indices) (same_places j).indices (is j).rows)
            ∙ through_changed old.rows.indices leaves.rows names.rows one at i here
            (read_row old.vars.indices) row

        pub row_changed : SetsRow old leaves at (read_row old.vars.indices row) 1 new after
        row_changed = record {
          beside = record {
            named = names_by (finite.insert leaves.rows i row) (ap (λ l. l.vars) is)
                (ap (λ l. l.rows) is) (ap (λ l. l.objective) is)
                (subst (λ (p : Places). NamesExactly p.indices (finite.insert leaves.rows i row))
                (sym same_places)
                (exact_changed old.rows.indices leaves.rows names.rows one at i here row))
                (each_named i row own);
            var_places = var_places;
            vars = ap (λ l. l.vars) is;
            objective = ap (λ l. l.objective) is;
            rest = rest;
          };
          set = set_again;
          extends = λ q j e. ap (λ (p : Places). finite.get p.indices q) same_places ∙ e;
          calls =
              let c = one_call leaves.calls after.calls few (ap (λ l. l.calls) is) in
              record { rises = c.0; bound = c.1 };
          counts = set_counts (rows_in old leaves) at (read_row old.vars.indices row)
              (rows_in new after) set_again differs;
        }

  module _ (at : Address) (i : ℕ) (one : AreIndicesOneToOne old.rows.indices)
      (here : finite.get old.rows.indices at ≡ Some i)
      (is : after ≡ without_row leaves i)
      (put : new.rows.indices ≡ finite.remove old.rows.indices at) where
    dropped_is : rows_in new after ≡ finite.remove (rows_in old leaves) at
    dropped_is =
        (λ j. by_address (read_row (var_places j).indices) (put j) (is j).rows)
        ∙ through_removed old.rows.indices leaves.rows names.rows one at i here
        (read_row old.vars.indices)

    counted : (o : Option LeafRow) → finite.get leaves.rows i ≡ o
        → CountsFrom (rows_in old leaves) (rows_in new after) at 1
    counted None e = absurd (not_some (finite.get leaves.rows i) e (names.rows.used at i here))
    counted (Some x) e =
        gone_counts (rows_in old leaves) at (read_row old.vars.indices x) (rows_in new after)
        dropped_is
        (get_through leaves.rows (read_row old.vars.indices) old.rows.indices at
        ∙ ap (option_and_then (λ j. option_map (read_row old.vars.indices)
        (finite.get leaves.rows j))) here
        ∙ ap (option_map (read_row old.vars.indices)) e)

    pub row_dropped : DropsRow old leaves at 1 new after
    row_dropped = record {
      beside = record {
        named = names_by (finite.remove leaves.rows i) (ap (λ l. l.vars) is) (ap (λ l. l.rows) is)
            (ap (λ l. l.objective) is)
            (subst (λ m. NamesExactly m (finite.remove leaves.rows i)) (sym put)
            (exact_removed old.rows.indices leaves.rows names.rows one at i here))
            (each_left i);
        var_places = var_places;
        vars = ap (λ l. l.vars) is;
        objective = ap (λ l. l.objective) is;
        rest = rest;
      };
      dropped = dropped_is;
      extends = λ q j e. same_or_other address_order _ q at
          (λ s. absurd (none-some j (sym (ap (finite.get new.rows.indices) s
          ∙ ap (λ m. finite.get m at) put ∙ get_gone address_order old.rows.indices at) ∙ e)))
          (λ n. sym (get_beside address_order old.rows.indices at q n)
          ∙ ap (λ m. finite.get m q) (sym put) ∙ e);
      calls =
          let c = one_call leaves.calls after.calls few (ap (λ l. l.calls) is) in
          record { rises = c.0; bound = c.1 };
      counts = counted (finite.get leaves.rows i) refl;
    }

-- a row that is there as it is to be
pub row_same : (old : AddressMap) (leaves : Leaves) → NamesEach old leaves → (at : Address)
    (body : Body) → finite.get (rows_in old leaves) at ≡ Some body
    → SetsRow old leaves at body 0 old leaves
row_same old leaves names at body e = record {
  beside = record {
    named = names;
    var_places = refl;
    vars = refl;
    objective = refl;
    rest = refl;
  };
  set = finite.same_map address_total exact_addresses _ _ (λ q.
      same_or_other address_order _ q at
      (λ s. ap (finite.get (rows_in old leaves)) s ∙ e
      ∙ sym (ap (finite.get (finite.insert (rows_in old leaves) at body)) s
      ∙ get_put address_order (rows_in old leaves) at body))
      (λ n. sym (get_past address_order (rows_in old leaves) at body q n)));
  extends = λ q j e. e;
  calls = record { rises = omega arith; bound = omega arith };
  counts = same_counts (rows_in old leaves) at;
}

-- the row that is made of a leaf is read as the leaf's body
pub body_of : (indices : Indices) (at : Address) (body : Body) (o : Option LeafRow) (row : LeafRow)
    (es : List (Address × Body)) → row_at indices at o ≡ es → es ≡ (at, body) ∷ [] → o ≡ Some row
    → read_row indices row ≡ body
body_of indices at body o row es made is some =
    ap (λ (p : Address × Body). p.1)
    (cons_head (at, read_row indices row) (at, body) [] []
    (subst (λ p. row_at indices at p ≡ es) some made ∙ is))

pub names_of : (P : LeafRow → Type 0) (o : Option LeafRow) (row : LeafRow) → o ≡ Some row
    → IfSome o P → P row
names_of P o row is h = subst (λ p. IfSome p P) is h

pub found_row : (old : AddressMap) (leaves : Leaves) (at : Address) (i : ℕ) (row : LeafRow)
    → finite.get old.rows.indices at ≡ Some i → finite.get leaves.rows i ≡ Some row
    → finite.get (rows_in old leaves) at ≡ Some (read_row old.vars.indices row)
found_row old leaves at i row here is =
    get_through leaves.rows (read_row old.vars.indices) old.rows.indices at
    ∙ ap (option_and_then (λ j. option_map (read_row old.vars.indices)
    (finite.get leaves.rows j))) here
    ∙ ap (option_map (read_row old.vars.indices)) is

pub matched : (r : Bool) (a b : Body) (found : Option Body) → found ≡ Some a
    → MatchBool r (a ≡ b) (a ≢ b) → IsTrue r ↔ (found ≡ Some b)
matched true a b found is h = (λ t. is ∙ ap Some h, λ e. refl)
matched false a b found is h = (λ t. cc, λ e. absurd (h (same_Some a b (sym is ∙ e))))
