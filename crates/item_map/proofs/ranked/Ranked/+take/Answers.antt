use Rattle.std.specs.Prelude.{◌≡◌, ◌-◌, ◌∷◌, ◌++◌, Some, length, slice_get}
use Rattle.std.proofs.Common.{arith, sym, ap, ◌∙◌}
use Rattle.std.specs.List.{remove}
use Rattle.std.specs.Cmp.{ranked}
use Rattle.std.specs.declared.cmp.Ordering.TheVariants.{Less, Equal, Greater}
use Rattle.item_map.specs.Forks.{items_in, items_of}
use Rattle.item_map.proofs.AroundLaws.{got_before, got_here, got_after, removed_after, removed_here}
use Rattle.item_map.proofs.ranked.Ranked.+take.Goals as goal

pub returns-in-Less-clause-item : goal.returns-in-Less-clause-item
returns-in-Less-clause-item g t c =
    let fork = c.in-Some.fork.value in
    let is : c.args.self.now ≡ items_of fork =
    sym c.self.view_is ∙ ap items_in (sym c.take.ensures.value ∙ c.in-Some.is) in
    let count : c.len-before.result ≡ length fork.before =
    c.len-before.ensures ∙ ap (λ f. length f.before) c.deref.ensures in
    c.take-taken.ensures.item ∙ ap (λ f. slice_get f.before c.args.n) c.deref_mut.ensures.value
    ∙ got_before fork.before fork.item fork.after is
    c.args.n (omega (arith, count, ranked c.args.n c.len-before.result Less (c.in-Less.ensures)))

pub returns-in-Equal-clause-item : goal.returns-in-Equal-clause-item
returns-in-Equal-clause-item g t c =
    let fork = c.in-Some.fork.value in
    let is : c.args.self.now ≡ items_of fork =
    sym c.self.view_is ∙ ap items_in (sym c.take.ensures.value ∙ c.in-Some.is) in
    let count : c.len-before.result ≡ length fork.before =
    c.len-before.ensures ∙ ap (λ f. length f.before) c.deref.ensures in
    ap Some (c.take_beside.ensures.item ∙ ap (λ f. f.item) c.deref_mut-in-Equal.ensures.value)
    ∙ got_here fork.before fork.item fork.after is
    c.args.n (omega (arith, count, ranked c.args.n c.len-before.result Equal (c.in-Equal.ensures)))

pub returns-in-Equal-clause-taken : goal.returns-in-Equal-clause-taken
returns-in-Equal-clause-taken g t c =
    let fork = c.in-Some.fork.value in
    let is : c.args.self.now ≡ items_of fork =
    sym c.self.view_is ∙ ap items_in (sym c.take.ensures.value ∙ c.in-Some.is) in
    let count : c.len-before.result ≡ length fork.before =
    c.len-before.ensures ∙ ap (λ f. length f.before) c.deref.ensures in
    c.take_beside-in-Equal.view_is ∙ c.take_beside.ensures.items
    ∙ ap (λ f. f.before ++ f.after) c.deref_mut-in-Equal.ensures.value
    ∙ removed_here fork.before fork.item fork.after is
    c.args.n (omega (arith, count, ranked c.args.n c.len-before.result Equal (c.in-Equal.ensures)))

pub returns-in-Greater-clause-item : goal.returns-in-Greater-clause-item
returns-in-Greater-clause-item g t c =
    let fork = c.in-Some.fork.value in
    let is : c.args.self.now ≡ items_of fork =
    sym c.self.view_is ∙ ap items_in (sym c.take.ensures.value ∙ c.in-Some.is) in
    let count : c.len-before.result ≡ length fork.before =
    c.len-before.ensures ∙ ap (λ f. length f.before) c.deref.ensures in
    c.take-taken-in-Greater.ensures.item
    ∙ (λ i. slice_get (c.deref_mut-in-Greater.ensures.value i).after (c.args.n - count i - 1))
    ∙ got_after fork.before fork.item fork.after is
    c.args.n (omega (arith, count, ranked c.args.n c.len-before.result Greater (c.in-Greater.ensures)))

pub returns-in-Greater-clause-taken : goal.returns-in-Greater-clause-taken
returns-in-Greater-clause-taken g t c =
    let fork = c.in-Some.fork.value in
    let is : c.args.self.now ≡ items_of fork =
    sym c.self.view_is ∙ ap items_in (sym c.take.ensures.value ∙ c.in-Some.is) in
    let count : c.len-before.result ≡ length fork.before =
    c.len-before.ensures ∙ ap (λ f. length f.before) c.deref.ensures in
    c.balanced-in-Greater.ensures.items
    ∙ ap (λ a. c.deref_mut-in-Greater.result.now.before ++ c.deref_mut-in-Greater.result.now.item
    ∷ a) c.take-taken-in-Greater.ensures.taken
    ∙ (λ i. (c.deref_mut-in-Greater.ensures.value i).before
    ++ (c.deref_mut-in-Greater.ensures.value i).item
    ∷ remove (c.deref_mut-in-Greater.ensures.value i).after (c.args.n - count i - 1))
    ∙ removed_after fork.before fork.item fork.after is
    c.args.n (omega (arith, count, ranked c.args.n c.len-before.result Greater (c.in-Greater.ensures)))
