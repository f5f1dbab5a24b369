use Rattle.std.proofs.Common.{◌++◌, ap, subst, ◌∙◌}
use Rattle.std.specs.Prelude.{map}
use Rattle.std.proofs.lemmas.Result.{IfOk-weaker}
use Rattle.touched_items.specs.FirstChanges.{AreFirst}
use Rattle.touched_items.specs.FirstLaws.{change_in}
use Rattle.touched_items.proofs.Loops.{all_undos, one_undo}
use Rattle.touched_items.proofs.listed.list_groups.Goals as goal

pub loop-undo-preserved : goal.loop-undo-preserved
loop-undo-preserved c =
    let l = c.loop-undo in
    let old = map change_in l.changes.items in
    one_undo (λ u. u.groups) c.args.undos.now l.undo-index c.undo-item.result old
    (map change_in c.list_changes.new.list.items) c.undo-item.is c.loop-undo-test.true
    (c.in_ok-list_changes.ensures ∙ ap (λ cs. old ++ cs) c.as_slice.ensures) l.invariant

pub returns : goal.returns
returns c =
    let l = c.loop-undo in
    IfOk-weaker c.first_of_each.result _ _
    (λ list h. subst (λ cs. AreFirst cs (map change_in list.items))
    (all_undos (λ u. u.groups) c.args.undos.now l.undo-index (map change_in l.changes.items)
    c.loop-undo-test.false l.invariant) h)
    c.first_of_each.ensures
