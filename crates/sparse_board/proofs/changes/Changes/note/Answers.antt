use Rattle.std.proofs.Common.{◌∙◌, ap, length, subst, sym}
use Rattle.std.proofs.lemmas.List.{with_items_is}
use Rattle.sparse_board.specs.Changes.{ListsChanges}
use Rattle.sparse_board.proofs.changes.Changes.note.Goals as goal

pub note_changes-noted-requires-clause-room : goal.note_changes-noted-requires-clause-room
note_changes-noted-requires-clause-room c = ap length c.deref_mut.ensures.value ∙ c.requires.room

pub returns-clause-room : goal.returns-clause-room
returns-clause-room c =
    ap length (with_items_is c.args.self.now.rows c.note_changes-noted.new.listed
    (c.note_changes-noted.auto.listed ∙ c.deref_mut.ensures.len))
    ∙ c.note_changes-noted.auto.listed ∙ ap length c.deref_mut.ensures.value

pub returns-clause-lists : goal.returns-clause-lists
returns-clause-lists c =
    subst (λ items. ListsChanges c.args.rows.now c.args.r c.args.q items
    c.note_changes-noted.result.count)
    (sym (with_items_is c.args.self.now.rows c.note_changes-noted.new.listed
    (c.note_changes-noted.auto.listed ∙ c.deref_mut.ensures.len)))
    c.note_changes-noted.ensures.lists
