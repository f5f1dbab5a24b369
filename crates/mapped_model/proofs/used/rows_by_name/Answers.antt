use Rattle.std.proofs.Common.{Some, ap, cond, ◌∙◌}
use Rattle.std.specs.Option.{option_copied}
use Rattle.std.specs.Prelude.{bytes_eq}
use Rattle.indexmap.specs.IndexMap.{get}
use Rattle.mapped_model.proofs.Filling.{all_filled, one_filled}
use Rattle.mapped_model.proofs.UsedSteps.{copied_put}
use Rattle.mapped_model.proofs.used.rows_by_name.Goals as goal

pub loop-row-preserved : goal.loop-row-preserved
loop-row-preserved c =
    let r = c.in-Some.row in
    one_filled c.args.rows.now.items c.loop-row.row-iterator c.next.new.self r.now
    (λ name. option_copied (get bytes_eq c.loop-row.found name))
    (λ name. option_copied (get bytes_eq c.insert.new.self name)) c.in-Some.ensures.steps
    (λ name. ap option_copied (c.in_ok-insert.ensures.updates.0 name)
    ∙ copied_put (bytes_eq c.in_ok-copy.field-0 name) r (get bytes_eq c.loop-row.found name)
    ∙ ap (λ n. cond (bytes_eq n name) (Some r.now)
    (option_copied (get bytes_eq c.loop-row.found name))) c.in_ok-copy.ensures)
    c.loop-row.invariant

pub returns : goal.returns
returns c =
    all_filled c.args.rows.now.items c.loop-row.row-iterator
    (λ name. option_copied (get bytes_eq c.loop-row.found name)) c.in-None.ensures.steps.0
    c.loop-row.invariant
