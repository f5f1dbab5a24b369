use Rattle.std.proofs.Common.{sym, ap, subst, ◌∙◌}
use Rattle.std.specs.FinMap as finite
use Rattle.item_map.specs.CountLaws.{empty_from_count}
use Rattle.address_map.specs.Noted.{IsNotedAt}
use Rattle.address_map.proofs.NotedLaws.{put_noted, taken_noted}
use Rattle.address_map.proofs.notes.Notes.put_items.Goals as goal

pub returns-then-len-eq0 : goal.returns-then-len-eq0
returns-then-len-eq0 c =
    let m = c.args.self.now in
    let var = c.args.var.now in
    subst (λ n. IsNotedAt m n var c.args.items)
    (sym (c.remove.ensures.removed ∙ ap (λ m. finite.remove m var) c.self.view_is))
    (subst (IsNotedAt m (finite.remove m var) var)
    (sym (empty_from_count c.args.items (sym c.len.ensures ∙ c.if-len-eq0.true)))
    (taken_noted m var))

pub returns : goal.returns
returns c =
    let m = c.args.self.now in
    let var = c.args.var.now in
    subst (λ n. IsNotedAt m n var c.args.items)
    (sym (c.replace.ensures.after ∙ ap (λ m. finite.insert m var c.args.items) c.self.view_is))
    (put_noted m var c.args.items)
