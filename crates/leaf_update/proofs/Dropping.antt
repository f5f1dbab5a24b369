-- Leaf variables taken out one after another, none of which rows or the objective name.
use Rattle.std.specs.Prelude.{◌≡◌, ℕ, suc, ◌+◌, List, [], ◌∷◌, All, Contains, IfSome, IsSome, is_some, Option, Some, None, option_and_then, unwrap_or, refl}
use Rattle.std.specs.FinMap as finite
use Rattle.std.specs.FinMap.{FinMap}
use Rattle.std.specs.Option.{option_map, option_map_or}
use Rattle.std.proofs.Common.{arith, sym, ◌∙◌, ap, subst}
use Rattle.std.proofs.lemmas.List.Elements.{All-cons, All-head, All-nil, All-tail, All-weaker}
use Rattle.address_map.specs.AddressMap.{AddressMap}
use Rattle.aff_core.specs.Address.{Address, address_cmp}
use Rattle.aff_core.specs.Function.{Function, coefficient, terms_of}
use Rattle.aff_core.specs.KeyOrder.{address_order}
use Rattle.bridge_face.specs.Law.{Miss}
use Rattle.equality_form.specs.Native.{NamesVariables}
use Rattle.item_core.specs.Item.{functions_of}
use Rattle.item_core.specs.declared.item.Body.{Body}
use Rattle.leaf_update.specs.CoverLaws.{read_where}
use Rattle.leaf_update.specs.Named.{NamesEach}
use Rattle.leaf_update.specs.Puts.{objectives_in, rows_in, variables_in}
use Rattle.leaf_model.specs.LeafModel.{Differ, IsCountOf, LeafModel}
use Rattle.map_laws.specs.EachLaws.{all_both}
use Rattle.map_laws.specs.PairLaws.{AllPairs-head, AllPairs-tail}
use Rattle.leaf_model.specs.ReadThrough.{read_objective, read_row}
use Rattle.map_laws.specs.OptionLaws.{not_some, some_is}
use Rattle.ratio_core.specs.Rational.{Rational, zero_ℚ}
use Rattle.leaf_update.specs.ReadableLaws.{found_passes}
use Rattle.solver_store.specs.SolverModel.{Leaves}
use Rattle.solver_store.specs.declared.leaf.LeafObjective.{LeafObjective}
use Rattle.solver_store.specs.declared.leaf.LeafVar.{LeafVar}
use Rattle.std_form.specs.ThroughLaws.{get_through}
use Rattle.leaf_update.specs.Steps.{DropsVariable, NobodyNames}
use Rattle.leaf_update.specs.Splice.{NamesOwn, without_all}
use Rattle.leaf_update.specs.SplicedLaws.{get_beside}
use Rattle.leaf_update.specs.Phases.{AreDroppable, BodiesMiss, CountsAt, HasDropped}

-- ---- what names only variables that stand misses each other

misses_by_names : (variables : FinMap address_cmp LeafVar) (at : Address)
    → finite.get variables at ≡ None → (f : Function)
    → All (λ t. IsSome (finite.get variables t.0)) (terms_of f) → coefficient f at ≡ zero_ℚ
misses_by_names variables at none f h =
    ap (λ o. unwrap_or o zero_ℚ) (finite.get-entries f.terms at ∙ by (finite.find address_cmp at (terms_of f)) refl)
  where
    by : (o : Option Rational) → finite.find address_cmp at (terms_of f) ≡ o → o ≡ None
    by None e = refl
    by (Some q) e =
        absurd (not_some (finite.get variables at) none
        (found_passes (λ t. IsSome (finite.get variables t.0)) (terms_of f) at q h e))

-- as in a model that names its own variables alone, of which this is none
pub own_miss : (model : LeafModel) (objectives : List Body) (at : Address) → NamesOwn model
    → ((b : Body) → Contains objectives b → (a : Address) × (finite.get model.objective a ≡ Some b))
    → finite.get model.variables at ≡ None → BodiesMiss model.rows objectives at
own_miss model objectives at own stand none = record {
  row = λ a b e. body_misses b (own.rows a b e);
  objective = each objectives (λ b c. c);
}
  where
    body_misses : (b : Body) → All (NamesVariables model) (functions_of b)
        → Miss (functions_of b) at
    body_misses b h =
        All-weaker (NamesVariables model) (λ f. coefficient f at ≡ zero_ℚ)
        (λ f k. misses_by_names model.variables at none f k) (functions_of b) h

    each : (bs : List Body) → ((b : Body) → Contains bs b → Contains objectives b)
        → All (λ b. Miss (functions_of b) at) bs
    each [] h = All-nil (λ b. Miss (functions_of b) at)
    each (b ∷ bs) h =
        let is = stand b (h b (0, omega arith, refl)) in
        All-cons (λ b. Miss (functions_of b) at) b bs
        (body_misses b (own.objective is.0 b is.1))
        (each bs (λ c k. h c (suc k.0, omega (arith, k.1), k.2)))

-- so by index nobody names it
pub nobody_names : (map : AddressMap) (leaves : Leaves) → NamesEach map leaves → (at : Address)
    → BodiesMiss (rows_in map leaves) (objectives_in map leaves) at → NobodyNames map leaves at
nobody_names map leaves names at miss = record {
  rows = λ i r e.
      let named = names.rows.named i (some_is (finite.get leaves.rows i) r e) in
      miss.row named.0 (read_row map.vars.indices r)
      (get_through leaves.rows (read_row map.vars.indices) map.rows.indices named.0
      ∙ ap (option_and_then (λ j. option_map (read_row map.vars.indices)
      (finite.get leaves.rows j))) named.1
      ∙ ap (option_map (read_row map.vars.indices)) e);
  objective = by leaves.objective miss.objective;
}
  where
    by : (o : Option LeafObjective)
        → All (λ b. Miss (functions_of b) at)
        (option_map_or (λ o. read_objective map.vars.indices o ∷ []) o [])
        → IfSome o (λ o. Miss (functions_of (read_objective map.vars.indices o)) at)
    by None h = tt
    by (Some o) h =
        All-head (λ b. Miss (functions_of b) at) (read_objective map.vars.indices o) [] h

-- ---- a loop over those that go

pub dropped_none : (map : AddressMap) (leaves : Leaves) → NamesEach map leaves
    → HasDropped map leaves 0 map leaves
dropped_none map leaves names = record {
  beside = record {
    named = names;
    rows = refl;
    objective = refl;
    row_places = refl;
    rest = refl;
  };
  extends = λ at i e. e;
  calls = record { rises = omega arith; bound = omega arith };
}

module _ (old : AddressMap) (leaves : Leaves) (n : ℕ) (mid : AddressMap) (between : Leaves)
    (at : Address) (new : AddressMap) (after : Leaves)
    (done : HasDropped old leaves n mid between)
    (step : DropsVariable mid between at 1 new after) where
  pub dropped_more : HasDropped old leaves (n + 1) new after
  dropped_more = record {
    beside = record {
      named = step.beside.named;
      rows = step.beside.rows ∙ done.beside.rows;
      objective = step.beside.objective ∙ done.beside.objective;
      row_places = step.beside.row_places ∙ done.beside.row_places;
      rest = step.beside.rest ∙ done.beside.rest;
    };
    extends = λ q i e. done.extends q i (step.extends q i e);
    calls = record {
      rises = omega (arith, step.calls.rises, done.calls.rises);
      bound = omega (arith, step.calls.bound, done.calls.bound);
    };
  }

-- an address that stands in a map through which another is taken out stands still
still_there : (m : FinMap address_cmp LeafVar) (n : FinMap address_cmp LeafVar) (at q : Address)
    → n ≡ finite.remove m at → ¬ (q ≡ at) → finite.get n q ≡ finite.get m q
still_there m n at q e k = ap (λ o. finite.get o q) e ∙ get_beside address_order m at q k

module _ (map : AddressMap) (leaves : Leaves) (names : NamesEach map leaves) (at : Address)
    (gone : List Address) (are : AreDroppable map leaves (at ∷ gone)) (new : AddressMap)
    (after : Leaves) (step : DropsVariable map leaves at 1 new after) where
  others : All (λ q. ¬ (q ≡ at)) gone
  others = AllPairs-head (λ a b. ¬ (b ≡ a)) at gone are.apart

  pub left_droppable : AreDroppable new after gone
  left_droppable = record {
    there =
        All-weaker (λ q. IsSome (finite.get map.vars.indices q) × (¬ (q ≡ at)))
        (λ q. IsSome (finite.get new.vars.indices q))
        (λ q k. read_where new after step.beside.named q
        ∙ ap is_some (still_there (variables_in map leaves) (variables_in new after) at q
        step.dropped k.1)
        ∙ sym (read_where map leaves names q) ∙ k.0)
        gone
        (all_both (λ q. IsSome (finite.get map.vars.indices q)) (λ q. ¬ (q ≡ at)) gone
        (All-tail (λ q. IsSome (finite.get map.vars.indices q)) at gone are.there) others);
    apart = AllPairs-tail (λ a b. ¬ (b ≡ a)) at gone are.apart;
    nobody =
        subst (λ (p : FinMap address_cmp Body × List Body). All (BodiesMiss p.0 p.1) gone)
        (λ i. (sym step.beside.rows i, sym step.beside.objective i))
        (All-tail (BodiesMiss (rows_in map leaves) (objectives_in map leaves)) at gone are.nobody);
  }

  pub left_gone : without_all (variables_in new after) gone
      ≡ without_all (variables_in map leaves) (at ∷ gone)
  left_gone = ap (λ m. without_all m gone) step.dropped

  -- counts of the rest, and of this one
  pub counts_gone : (whole : FinMap address_cmp LeafVar) (c : ℕ)
      → CountsAt (variables_in new after) whole gone c
      → CountsAt (variables_in map leaves) whole (at ∷ gone) (c + 1)
  counts_gone whole c rest start as_was k counts =
      subst (Count whole start) (omega arith)
      (rest start later (k + 1) (step.counts start
      (All-head (λ q. finite.get (variables_in map leaves) q ≡ finite.get start q) at gone as_was)
      k counts))
    where
      Count : FinMap address_cmp LeafVar → FinMap address_cmp LeafVar → ℕ → Type 0
      Count whole start n = IsCountOf (Differ start whole) n

      later : All (λ q. finite.get (variables_in new after) q ≡ finite.get start q) gone
      later =
          All-weaker (λ q. (finite.get (variables_in map leaves) q ≡ finite.get start q)
          × (¬ (q ≡ at)))
          (λ q. finite.get (variables_in new after) q ≡ finite.get start q)
          (λ q h. still_there (variables_in map leaves) (variables_in new after) at q step.dropped
          h.1 ∙ h.0) gone
          (all_both (λ q. finite.get (variables_in map leaves) q ≡ finite.get start q)
          (λ q. ¬ (q ≡ at)) gone
          (All-tail (λ q. finite.get (variables_in map leaves) q ≡ finite.get start q) at gone
          as_was) others)

pub counts_as : (m n : FinMap address_cmp LeafVar) (gone : List Address) (c d : ℕ) → c ≡ d
    → CountsAt m n gone c → CountsAt m n gone d
counts_as m n gone c d e h = subst (CountsAt m n gone) e h

-- with none left, nothing more differs
pub counts_nothing : (m : FinMap address_cmp LeafVar) → CountsAt m m [] 0
counts_nothing m start as_was k counts =
    subst (λ n. IsCountOf (Differ start m) n) (zero_more k) counts
  where
    zero_more : (k : ℕ) → k ≡ k + 0
    zero_more k = omega arith
