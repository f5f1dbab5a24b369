use Rattle.std.proofs.Common.{length, rules, subst}
use Rattle.std.specs.List.Sorted.{IsBinarySearchResult, IsSearchInRange}
use Rattle.std.specs.Ordering.{nat_cmp}
use Rattle.std.proofs.lemmas.Fn.{always_returns_same}
use Rattle.sparse_board.specs.declared.entry.Entry.{Entry}
use Rattle.sparse_board.proofs.RowSteps.{searched_in}
use Rattle.sparse_board.proofs.sparse_row.SparseRow.place_of.Goals as goal

pub returns-clause-position : goal.returns-clause-position
returns-clause-position c =
    let entries = c.args.self.now.entries.items in
    let r = c.binary_search_by_key.result in
    searched_in entries c.args.column r
    (subst (λ l. IsSearchInRange r (length l)) c.deref.ensures.value
    c.binary_search_by_key.ensures.bound)
    (subst (λ l. IsBinarySearchResult (λ (e : Entry). nat_cmp e.column c.args.column) l r)
    c.deref.ensures.value
    (c.binary_search_by_key.ensures.position (λ (e : Entry). e.column)
    (always_returns_same _ _ _ (λ a r f called. search rules))))
