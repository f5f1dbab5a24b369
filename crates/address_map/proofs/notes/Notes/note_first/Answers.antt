use Rattle.std.specs.Prelude.{◌≡◌, ◌+◌, ◌<◌, ◌^◌}
use Rattle.std.proofs.Common.{ap, subst, sym, lit<, ◌∙◌}
use Rattle.std.specs.FinMap as finite
use Rattle.item_map.specs.CountLaws.{none_counted}
use Rattle.address_map.specs.Noted.{IsNotedAt, noted_in, with_item}
use Rattle.address_map.proofs.NotedLaws.{empty_misses, none_noted, put_noted}
use Rattle.address_map.proofs.notes.Notes.note_first.Goals as goal
use Rattle.address_map.proofs.notes.Notes.note_first.Goals.{After-insert, in-Ok, in-Err+in-Some-1, in-Err+in-None-1}

only : (c : After-insert) → c.insert.new.self
    ≡ with_item (noted_in c.args.self.now c.args.var) c.args.room.value.item.0
only c =
    c.insert.ensures
    ∙ ap (λ s. with_item s c.args.room.value.item.0)
    (c.new-items.ensures ∙ sym (none_noted c.args.self.now c.args.var c.requires))

pub insert-requires-clause-free : goal.insert-requires-clause-free
insert-requires-clause-free c =
    empty_misses c.new-items.result c.args.room.value.item.0 c.new-items.ensures

pub insert-requires-clause-fits : goal.insert-requires-clause-fits
insert-requires-clause-fits c =
    subst (λ k. k + 1 < 2 ^ 64) (sym (none_counted c.new-items.result c.new-items.ensures)) (lit< tt)

pub returns-clause-ok : goal.returns-clause-ok
returns-clause-ok c =
    let m = c.args.self.now in
    let var = c.args.var in
    let items = with_item (noted_in m var) c.args.room.value.item.0 in
    let same = only (goal.at.returns-clause-ok c).After-insert in
    elim c.match-put_new.branch [
      | in-Ok w ↦ rw w.result-is (subst (λ n. IsNotedAt m n var items)
          (sym (w.in-Ok.ensures.ok ∙ (λ i. finite.insert (c.self.view_is i) var (same i))))
          (put_noted m var items))
      | in-Err+in-Some-1 w ↦ rw w.result-is tt
      | in-Err+in-None-1 w ↦ rw w.result-is tt
    ]
