use Rattle.std.specs.Prelude.{◌≡◌, ◌-◌, ◌∷◌, ◌++◌, length}
use Rattle.std.proofs.Common.{arith, sym, ap, ◌∙◌}
use Rattle.std.specs.List.{insert}
use Rattle.item_map.specs.Forks.{items_in, items_of}
use Rattle.item_map.proofs.AroundLaws.{inserted_after, inserted_before}
use Rattle.item_map.proofs.ranked.Ranked.+insert.Goals as goal
use Rattle.item_map.proofs.ranked.Ranked.+insert.Goals.{then-n-before, else-n-before}

pub returns : goal.returns
returns g t c =
    let fork = c.in-Some.fork.value in
    let is : c.args.self.now ≡ items_of fork =
    sym c.self.view_is ∙ ap items_in (sym c.take.ensures.value ∙ c.in-Some.is) in
    let count : c.len-before.result ≡ length fork.before =
    c.len-before.ensures ∙ ap (λ f. length f.before) c.deref.ensures in
    elim c.if-n-before.branch [
      | then-n-before w ↦
          c.balanced.ensures.items ∙ ap (λ f. items_of f.value) w.fork-is
          ∙ ap (λ b. b ++ w.deref_mut.result.now.item
          ∷ w.deref_mut.result.now.after) w.insert.ensures
          ∙ ap (λ f. insert f.before c.args.n c.args.room.value.item ++ f.item ∷ f.after)
          w.deref_mut.ensures.value
          ∙ inserted_before fork.before fork.item fork.after is c.args.n c.args.room.value.item
          (omega (arith, w.if-n-before.true, count))
      | else-n-before w ↦
          c.balanced.ensures.items ∙ ap (λ f. items_of f.value) w.fork-is
          ∙ ap (λ a. w.deref_mut-else-n-before.result.now.before
          ++ w.deref_mut-else-n-before.result.now.item ∷ a) w.insert-else-n-before.ensures
          ∙ (λ i. (w.deref_mut-else-n-before.ensures.value i).before
          ++ (w.deref_mut-else-n-before.ensures.value i).item
          ∷ insert (w.deref_mut-else-n-before.ensures.value i).after (c.args.n - count i - 1)
          c.args.room.value.item)
          ∙ inserted_after fork.before fork.item fork.after is c.args.n c.args.room.value.item
          (omega (arith, w.if-n-before.false, count))
    ]
