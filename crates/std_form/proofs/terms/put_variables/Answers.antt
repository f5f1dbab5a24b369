use Rattle.std.proofs.Common.{ap, subst, take, [], ◌+◌, ◌≡◌, ◌∙◌}
use Rattle.std.specs.Prelude.{flat_map}
use Rattle.std.proofs.lemmas.List.{get_or_default, take_all}
use Rattle.sparse_lists.specs.Across.{GrowBy}
use Rattle.sparse_lists.specs.GrowthLaws.{grow_none}
use Rattle.tableau_core.specs.Row.{cell}
use Rattle.std_form.specs.Gathered.{cells_at}
use Rattle.std_form.proofs.Gathering.{variables_more}
use Rattle.std_form.proofs.terms.put_variables.Goals as goal

pub loop-i-init : goal.loop-i-init
loop-i-init c = grow_none c.args.rows.now 0 c.requires.low

pub put_variable-requires-clause-low : goal.put_variable-requires-clause-low
put_variable-requires-clause-low c = c.loop-i.invariant.low

pub loop-i-preserved : goal.loop-i-preserved
loop-i-preserved c =
    variables_more c.args.columns.now c.args.rows.now c.loop-i.rows c.put_variable.new.rows
    c.args.variables.now c.loop-i.i-index _ c.loop-i-test.true c.terms.result.now
    (λ k. c.terms.ensures.numbers k
    ∙ ap (λ l. cell l k) (c.index-columns-i.is
    ∙ get_or_default c.args.columns.now _ c.index-columns-i.result []
    (c.requires.indices c.loop-i.i-index _ c.loop-i-test.true)))
    0 c.loop-i.place c.in_ok-place.place c.loop-i.invariant c.in_ok-place.ensures

pub returns : goal.returns
returns c =
    subst (λ vs. GrowBy 0 c.loop-i.place (λ b. flat_map (cells_at c.args.columns.now b) vs)
    c.args.rows.now c.loop-i.rows)
    (take_all c.loop-i.i-index c.args.variables.now c.loop-i-test.false) c.loop-i.invariant
