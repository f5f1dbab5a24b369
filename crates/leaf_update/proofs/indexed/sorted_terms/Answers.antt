use Rattle.std.proofs.Common.{rules, subst}
use Rattle.std.specs.FinMap as finite
use Rattle.std.specs.List.Sorted.{IsNonDecreasingBy, IsPermutation}
use Rattle.std.proofs.lemmas.List.Sorted.{IsNonDecreasingBy-from_sort_by_key}
use Rattle.aff_core.specs.Function.{terms_of}
use Rattle.leaf_update.specs.Named.{indexed_terms}
use Rattle.leaf_update.proofs.IndexLaws.{indexed_distinct, indices_rise}
use Rattle.leaf_update.proofs.KeyLaws.{permuted_distinct}
use Rattle.std_form.specs.NameLaws.{index_order}
use Rattle.leaf_update.proofs.indexed.sorted_terms.Goals as goal

pub returns-clause-rising : goal.returns-clause-rising
returns-clause-rising c =
    let indices = c.args.map.now.vars.indices in
    let f = c.args.func.now in
    let ys = c.sort_unstable_by_key.new.self.items in
    let order : IsNonDecreasingBy (λ t. t.0) c.sort_unstable_by_key.new.self.items =
    IsNonDecreasingBy-from_sort_by_key (λ t. t.0) _ c.sort_unstable_by_key.ensures.sorted
    (λ a r f' k. search rules) in
    let permuted : IsPermutation (indexed_terms c.args.map.now.vars.indices
    (terms_of c.args.func.now)) c.sort_unstable_by_key.new.self.items =
    subst (λ xs. IsPermutation xs c.sort_unstable_by_key.new.self.items) c.in_ok-terms.ensures
    c.sort_unstable_by_key.ensures.permutation in
    indices_rise ys order
    (permuted_distinct index_order (indexed_terms indices (terms_of f)) ys permuted
    (indexed_distinct indices c.var_at-one_to_one.ensures.one_to_one (terms_of f)
    (finite.entries_sorted f.terms) c.requires))
