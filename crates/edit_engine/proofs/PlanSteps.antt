-- A list of choices that is written kind by kind.
use Rattle.std.specs.Prelude.{◌≡◌, ◌+◌, ◌<◌, ◌≤◌, ◌⊎◌, ℕ, List, Option, length, slice_index_or, slice_set}
use Rattle.std.proofs.Common.{arith, inl, inr, sym, subst}
use Rattle.std.proofs.lemmas.Bool.{cases_lt}
use Rattle.std.proofs.lemmas.Grind.{get_or-set_at}
use Rattle.std.proofs.lemmas.List.{get_or-set_other, get_or_default}
use Rattle.bridge_graph.specs.Hypergraph.{Hypergraph}
use Rattle.bridge_graph.specs.declared.Choice.{Choice}
use Rattle.item_core.specs.declared.kind.Kind.{Kind}
use Rattle.edit_engine.specs.Script.{IsChosen}

pub chosen_more : (graph : Hypergraph) (kinds : List Kind) (choices : List (Choice × Option ℕ))
    (n : ℕ) (e : Kind) (choice : Choice × Option ℕ) → n < length kinds
    → length choices ≡ length kinds → IsChosen graph (slice_index_or kinds n e, choice)
    → ((k : ℕ) (d : Kind × (Choice × Option ℕ)) → k < n
    → IsChosen graph (slice_index_or kinds k d.0, slice_index_or choices k d.1))
    → (k : ℕ) (d : Kind × (Choice × Option ℕ)) → k < n + 1
    → IsChosen graph (slice_index_or kinds k d.0, slice_index_or (slice_set choices n choice) k d.1)
chosen_more graph kinds choices n e choice lt long this before k d below = by (cases_lt k n)
  where
    by : (k < n) ⊎ (n ≤ k) → IsChosen graph
        (slice_index_or kinds k d.0, slice_index_or (slice_set choices n choice) k d.1)
    by (inl less) =
        subst (λ (c : Choice × Option ℕ). IsChosen graph (slice_index_or kinds k d.0, c))
        (sym (get_or-set_other choices n k choice d.1 (omega arith))) (before k d less)
    by (inr more) =
        let same : k ≡ n = omega arith in
        subst (λ (c : Choice × Option ℕ). IsChosen graph (slice_index_or kinds k d.0, c))
        (sym (get_or-set_at choices n k choice d.1 same (omega arith)))
        (subst (λ (i : ℕ). IsChosen graph (slice_index_or kinds i d.0, choice)) (sym same)
        (subst (λ (kind : Kind). IsChosen graph (kind, choice)) (get_or_default kinds n e d.0 lt)
        this))
