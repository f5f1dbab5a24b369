use Rattle.std.specs.Prelude.{◌≡◌, ◌+◌, length, slice_index_or}
use Rattle.std.proofs.Common.{sym, ap, subst, ◌∙◌}
use Rattle.std.specs.List.Sorted.{IsBinarySearchResult, IsNonDecreasingBy, IsPartitionPoint, IsSearchInRange}
use Rattle.std.specs.Ordering.{ordering_index}
use Rattle.std.specs.Prelude.{Ok, Err}
use Rattle.std.specs.declared.cmp.Ordering.TheVariants.{Less, Greater}
use Rattle.aff_core.specs.Address.{address_cmp}
use Rattle.item_map.specs.Forks.{items_in, items_of}
use Rattle.item_map.proofs.AroundLaws.{found_after, parted_after, searched_before}
use Rattle.item_map.proofs.ranked.Ranked+tuple2+Address+V.+place.Goals as goal

pub returns-in-Greater-clause-place : goal.returns-in-Greater-clause-place
returns-in-Greater-clause-place g t c =
    let fork = c.in-Some.fork.value in
    let is : c.args.self.now ≡ items_of fork =
    sym c.self.view_is ∙ ap items_in c.in-Some.is in
    let same = c.deref-in-Greater.ensures in
    searched_before (λ e. address_cmp e.0 c.args.at.now) fork.before fork.item fork.after is
    (ap (λ f. address_cmp f.item.0 c.args.at.now) (sym c.deref.ensures) ∙ sym c.in-Greater.ensures)
    c.place.result
    (subst (λ f. IsSearchInRange c.place.result (length f.before)) same c.place.ensures.range)
    (subst (λ f. IsBinarySearchResult (λ e. address_cmp e.0 c.args.at.now) f.before
    c.place.result) same c.place.ensures.place)

pub returns-in-Ok-clause-place : goal.returns-in-Ok-clause-place
returns-in-Ok-clause-place g t c d =
    let fork = c.in-Some.fork.value in
    let is : c.args.self.now ≡ items_of fork =
    sym c.self.view_is ∙ ap items_in c.in-Some.is in
    let count : c.len-passed.result ≡ length fork.before =
    c.len-passed.ensures ∙ ap (λ f. length f.before) c.deref-in-Less.ensures in
    ap (λ k. address_cmp (slice_index_or c.args.self.now (k + 1 + c.in-Ok.n) d).0 c.args.at.now)
    count
    ∙ found_after (λ e. address_cmp e.0 c.args.at.now) fork.before fork.item fork.after is c.in-Ok.n
    (subst (λ f. IsBinarySearchResult (λ e. address_cmp e.0 c.args.at.now) f.after (Ok c.in-Ok.n))
    c.deref-in-Less-2.ensures c.in-Ok.ensures.place) d

pub returns-in-Err-clause-place : goal.returns-in-Err-clause-place
returns-in-Err-clause-place g t c =
    let fork = c.in-Some.fork.value in
    let is : c.args.self.now ≡ items_of fork =
    sym c.self.view_is ∙ ap items_in c.in-Some.is in
    let count : c.len-passed.result ≡ length fork.before =
    c.len-passed.ensures ∙ ap (λ f. length f.before) c.deref-in-Less.ensures in
    subst (λ k. IsNonDecreasingBy (λ e. ordering_index (address_cmp e.0 c.args.at.now))
    c.args.self.now → IsPartitionPoint (λ e. address_cmp e.0 c.args.at.now ≡ Less)
    (λ e. address_cmp e.0 c.args.at.now ≡ Greater) c.args.self.now (k + 1 + c.in-Err.n)) (sym count)
    (parted_after (λ e. address_cmp e.0 c.args.at.now) fork.before fork.item fork.after is
    (ap (λ f. address_cmp f.item.0 c.args.at.now) (sym c.deref.ensures) ∙ sym c.in-Less.ensures)
    c.in-Err.n
    (subst (λ f. IsBinarySearchResult (λ e. address_cmp e.0 c.args.at.now) f.after (Err c.in-Err.n))
    c.deref-in-Less-2.ensures c.in-Err.ensures.place))
