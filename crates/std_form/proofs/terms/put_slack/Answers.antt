use Rattle.std.proofs.Common.{ap, map, subst, ◌+◌, ◌≡◌, ◌∙◌}
use Rattle.std.proofs.lemmas.Result.{IfOk-weaker}
use Rattle.sparse_lists.specs.Across.{GrowBy}
use Rattle.equality_form.specs.Columns.{slack_at}
use Rattle.equality_form.specs.EqualityForm.{unit_at}
use Rattle.equality_form.specs.Equations.{flipped}
use Rattle.std_form.proofs.Gathering.{slack_grows}
use Rattle.std_form.proofs.terms.put_slack.Goals as goal

pub returns : goal.returns
returns c =
    IfOk-weaker c.next.result _ _ (λ next e flip f.
    subst (λ o. GrowBy c.args.place next
    (λ b. map (flipped (flip b)) (unit_at (slack_at c.args.i o) b)) c.args.rows.now
    c.put_across.new.lists) c.in-Some.ensures
    (slack_grows c.args.rows.now c.put_across.new.lists c.args.place next c.args.i c.args.negated
    c.in-Some.taken_off c.flipped-number.result flip f
    (c.flipped-number.ensures ∙ ap (flipped c.in-Some.taken_off) c.one.ensures)
    c.in_ok-put_across.ensures e)) c.next.ensures
