use Rattle.std.proofs.Common.{None, Some, ◌≡◌, ◌∙◌, ap, get_or, is_some, refl, subst, sym}
use Rattle.numbered_list.specs.Numbered.{IsAt, find, set_at}
use Rattle.numbered_list.specs.Changes.{AreChanges, change_to, changed_number}
use Rattle.numbered_list.specs.Listed.{present}
use Rattle.numbered_list.specs.ListedLaws.{AreChanges-given, Rise-present, content_found, nothing_found, present-given}
use Rattle.numbered_list.specs.PlaceLaws.{after_replacing, taken_out}
use Rattle.numbered_list.specs.SetLaws.{set_at_found}
use Rattle.numbered_list.proofs.places.exchange_content.Goals as goal

pub returns-in-Ok-clause-before : goal.returns-in-Ok-clause-before
returns-in-Ok-clause-before g c =
    let cs = c.args.places.now.items in
    content_found g.X.HasNumber.number_of c.args.number c.replace.result cs c.requires.are
    (taken_out changed_number c.args.number c.replace.result cs _ c.in-Ok.place c.in-Ok.ensures
    c.deref.ensures.value (c.replace.ensures.value
    ∙ (c.index_mut.ensures.value ∙ ap (get_or cs c.in-Ok.place) (sym c.replace.ensures.value))))

pub returns-in-Ok-clause-after : goal.returns-in-Ok-clause-after
returns-in-Ok-clause-after g c =
    let cs = c.args.places.now.items in
    let change = change_to c.args.number c.args.new in
    ap present (after_replacing changed_number c.args.number (Some change) change
    c.replace.new.dest cs _ c.in-Ok.place c.in-Ok.ensures c.deref.ensures.value
    c.replace.ensures.after refl)
    ∙ present-given g.X.HasNumber.number_of c.args.number c.args.new cs c.requires.own
    c.requires.are

pub returns-in-Ok-clause-are : goal.returns-in-Ok-clause-are
returns-in-Ok-clause-are g c =
    let cs = c.args.places.now.items in
    let change = change_to c.args.number c.args.new in
    subst (AreChanges g.X.HasNumber.number_of) (sym (after_replacing changed_number c.args.number
    (Some change) change c.replace.new.dest cs _ c.in-Ok.place c.in-Ok.ensures
    c.deref.ensures.value c.replace.ensures.after refl))
    (AreChanges-given g.X.HasNumber.number_of c.args.number c.args.new cs c.requires.own
    c.requires.are)

pub returns-in_default-new-clause-before : goal.returns-in_default-new-clause-before
returns-in_default-new-clause-before g c =
    nothing_found g.X.HasNumber.number_of c.args.number c.args.places.now.items c.requires.are
    (subst (λ ys. find changed_number c.args.number ys ≡ None) c.deref.ensures.value
    c.in_default.ensures.absent)

pub returns-in_default-new-clause-after : goal.returns-in_default-new-clause-after
returns-in_default-new-clause-after g c =
    let number_of = g.X.HasNumber.number_of in
    let cs = c.args.places.now.items in
    let none = nothing_found number_of c.args.number cs c.requires.are
    (subst (λ ys. find changed_number c.args.number ys ≡ None) c.deref.ensures.value
    c.in_default.ensures.absent) in
    sym (ap (λ o. set_at number_of c.args.number o (present cs)) (c.in_default-new.is ∙ none)
    ∙ set_at_found number_of c.args.number (present cs) (Rise-present number_of cs c.requires.are))

pub make_room-requires-clause-room : goal.make_room-requires-clause-room
make_room-requires-clause-room g c =
    let none = nothing_found g.X.HasNumber.number_of c.args.number c.args.places.now.items
    c.requires.are (subst (λ ys. find changed_number c.args.number ys ≡ None)
    c.deref.ensures.value c.in_default.ensures.absent) in
    c.requires.room (ap is_some c.in-Some.is) (ap is_some (sym none))

pub returns-clause-before : goal.returns-clause-before
returns-clause-before g c =
    nothing_found g.X.HasNumber.number_of c.args.number c.args.places.now.items c.requires.are
    (subst (λ ys. find changed_number c.args.number ys ≡ None) c.deref.ensures.value
    c.in_default.ensures.absent)

pub returns-clause-after : goal.returns-clause-after
returns-clause-after g c =
    let number_of = g.X.HasNumber.number_of in
    let n = c.args.number in
    let new = Some c.in-Some.item in
    ap present c.insert_new.ensures.after
    ∙ (present-given number_of n new c.make_room.new.places.items
    (subst (IsAt number_of n) c.in-Some.is c.requires.own) c.make_room.ensures.are
    ∙ (ap (set_at number_of n new) c.make_room.ensures.items
    ∙ ap (λ o. set_at number_of n o (present c.args.places.now.items)) (sym c.in-Some.is)))

pub returns-clause-are : goal.returns-clause-are
returns-clause-are g c =
    let number_of = g.X.HasNumber.number_of in
    let n = c.args.number in
    subst (AreChanges number_of) (sym c.insert_new.ensures.after)
    (AreChanges-given number_of n (Some c.in-Some.item) c.make_room.new.places.items
    (subst (IsAt number_of n) c.in-Some.is c.requires.own) c.make_room.ensures.are)
