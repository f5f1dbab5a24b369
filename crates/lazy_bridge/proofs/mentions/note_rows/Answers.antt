use Rattle.std.proofs.Common.{◌&&◌, ◌∙◌, subst, true}
use Rattle.aff_core.specs.Address.{Address, address_eq}
use Rattle.user_model.specs.Functions.{func_mentions}
use Rattle.lazy_bridge.specs.Mentioned.{NotesPairs, row_names}
use Rattle.lazy_bridge.proofs.Noting.{noting_done, noting_more}
use Rattle.lazy_bridge.proofs.mentions.note_rows.Goals as goal

pub loop-row-preserved : goal.loop-row-preserved
loop-row-preserved c =
    let l = c.loop-row in
    let noted = c.note_func.ensures in (
      noting_more row_names true c.args.rows.now.items l.row-iterator c.next.new.self c.in-Some.row.now
          c.args.map.now.noted l.map.noted c.note_func.new.map.noted l.invariant.0
          c.in-Some.ensures.steps
          (subst (λ (a : Address). NotesPairs (λ v at. address_eq at a
          && func_mentions v c.in-Some.row.now.func) true l.map.noted c.note_func.new.map.noted)
          c.root.ensures c.in_ok-note_func.ensures.noted),
      noted.vars ∙ l.invariant.1,
      noted.rows ∙ l.invariant.2,
      noted.exprs ∙ l.invariant.3,
      noted.kept ∙ l.invariant.4,
    )

pub returns-clause-noted : goal.returns-clause-noted
returns-clause-noted c =
    let l = c.loop-row in
    noting_done row_names true c.args.rows.now.items l.row-iterator c.args.map.now.noted
    l.map.noted l.invariant.0 c.in-None.ensures.steps.0
