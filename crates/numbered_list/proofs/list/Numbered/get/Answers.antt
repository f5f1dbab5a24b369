use Rattle.std.proofs.Common.{None, ◌≡◌, ◌∙◌, ap, subst}
use Rattle.numbered_list.specs.Numbered.{find}
use Rattle.numbered_list.specs.Changes.{changed_number}
use Rattle.numbered_list.specs.ListedLaws.{content_found, nothing_found}
use Rattle.numbered_list.specs.PlaceLaws.{taken_out}
use Rattle.numbered_list.proofs.list.Numbered.get.Goals as goal

pub returns-in-Ok : goal.returns-in-Ok
returns-in-Ok g c =
    let cs = c.self.inside.places.items in
    c.as_ref.ensures.value
    ∙ (content_found g.X.HasNumber.number_of c.args.number c.index.result.now cs c.self.invariant.0
    (taken_out changed_number c.args.number c.index.result.now cs _ c.in-Ok.place c.in-Ok.ensures
    c.deref.ensures.value c.index.ensures)
    ∙ ap (λ l. find g.X.HasNumber.number_of c.args.number l.items) c.self.view_is)

pub returns-in-Err : goal.returns-in-Err
returns-in-Err g c =
    nothing_found g.X.HasNumber.number_of c.args.number c.self.inside.places.items
    c.self.invariant.0 (subst (λ ys. find changed_number c.args.number ys ≡ None)
    c.deref.ensures.value c.in-Err.ensures.absent)
    ∙ ap (λ l. find g.X.HasNumber.number_of c.args.number l.items) c.self.view_is
