use Rattle.std.proofs.Common.{ap, false, map, refl, slice_index_or, subst, sym, take, ◌+◌, ◌<◌, ◌≡◌, ◌∙◌}
use Rattle.std.proofs.lemmas.List.{get_or-map, length-map, take_all}
use Rattle.sparse_lists.specs.Across.{GrowBy}
use Rattle.sparse_lists.specs.GrowthLaws.{grow_none}
use Rattle.equality_form.specs.Columns.{slack_at, slacks_from}
use Rattle.equality_form.specs.EqualityForm.{unit_at}
use Rattle.equality_form.specs.Equations.{flipped, is_flipped, slack_of}
use Rattle.std_form.specs.Borrowed.{equation_in}
use Rattle.std_form.specs.declared.equation.Equation.{Equation}
use Rattle.std_form.proofs.Gathering.{slacks_more}
use Rattle.std_form.proofs.Steps.{flip_at}
use Rattle.std_form.proofs.terms.put_slacks.Goals as goal

pub loop-i-init : goal.loop-i-init
loop-i-init c = record {
  low = c.requires.low;
  grown = λ flip h. grow_none c.args.rows.now c.args.parts c.requires.low;
}

pub put_slack-requires : goal.put_slack-requires
put_slack-requires c = record { low = c.loop-i.invariant.low }

pub loop-i-preserved : goal.loop-i-preserved
loop-i-preserved c =
    let i = c.loop-i.i in
    let es = c.args.equations.now in
    let item = c.index-equations-i.result in
    record {
      low = (c.in_ok-place.ensures (λ k. slice_index_or c.args.flips.now i false) refl).low;
      grown = λ flip h. slacks_more equation_in es i item c.loop-i-test.true c.args.rows.now
          c.loop-i.rows c.put_slack.new.rows flip c.args.parts c.loop-i.place c.in_ok-place.place
          (c.loop-i.invariant.grown flip h)
          (subst (λ (e : Equation). GrowBy c.loop-i.place c.in_ok-place.place
          (λ r. map (flipped (flip r)) (unit_at (slack_at i (slack_of e.set.now)) r))
          c.loop-i.rows c.put_slack.new.rows) c.index-equations-i.is
          (c.in_ok-place.ensures flip
          (h i (equation_in item) (subst (λ n. i < n) (sym (length-map es equation_in))
          c.loop-i-test.true)
          ∙ ap is_flipped (get_or-map equation_in es i item (equation_in item) c.loop-i-test.true)
          ∙ sym (flip_at equation_in es i item c.loop-i-test.true c.args.flips.now false
          c.requires.flips))));
    }

pub returns-clause-grown : goal.returns-clause-grown
returns-clause-grown c = λ flip h.
    subst (λ es. GrowBy c.args.parts c.loop-i.place
    (λ r. map (flipped (flip r)) (unit_at (slacks_from 0 (map equation_in es)) r))
    c.args.rows.now c.loop-i.rows)
    (take_all c.loop-i.i c.args.equations.now c.loop-i-test.false)
    (c.loop-i.invariant.grown flip h)

pub returns-clause-low : goal.returns-clause-low
returns-clause-low c = c.loop-i.invariant.low
