use Rattle.std.proofs.Common.{◌+◌, ◌&&◌, ◌∙◌, ap, arith, drop, map, subst}
use Rattle.std.proofs.lemmas.List.{drop_all}
use Rattle.aff_core.specs.Address.{Address, address_eq}
use Rattle.map_laws.specs.LoopLaws.{next_item}
use Rattle.user_model.specs.Functions.{func_mentions}
use Rattle.lazy_bridge.specs.Mentioned.{NotesPairs, row_names}
use Rattle.lazy_bridge.proofs.Noting.{noting_done, noting_more}
use Rattle.lazy_bridge.proofs.mentions.note_found.Goals as goal

pub loop-row-preserved : goal.loop-row-preserved
loop-row-preserved c =
    let all = c.args.rows.now in
    let l = c.loop-row in
    let row = c.row-item.result in
    let noted = c.note_func.ensures in (
      noting_more row_names c.args.noted (map (λ r. r.now) all)
          (map (λ r. r.now) (drop l.row-index all)) (map (λ r. r.now) (drop (l.row-index + 1) all))
          row.now c.args.map.now.noted l.map.noted c.note_func.new.map.noted l.invariant.0
          (ap (map (λ r. r.now)) (next_item all all l.row-index row (λ i. all) c.row-item.is
          c.loop-row-test.true))
          (subst (λ (a : Address). NotesPairs (λ v at. address_eq at a
          && func_mentions v row.now.func) c.args.noted l.map.noted c.note_func.new.map.noted)
          c.root.ensures c.in_ok-note_func.ensures.noted),
      noted.vars ∙ l.invariant.1,
      noted.rows ∙ l.invariant.2,
      noted.exprs ∙ l.invariant.3,
      noted.kept ∙ l.invariant.4,
    )

pub returns-clause-noted : goal.returns-clause-noted
returns-clause-noted c =
    let all = c.args.rows.now in
    let l = c.loop-row in
    noting_done row_names c.args.noted (map (λ r. r.now) all)
    (map (λ r. r.now) (drop l.row-index all)) c.args.map.now.noted l.map.noted l.invariant.0
    (ap (map (λ r. r.now)) (drop_all l.row-index all (omega (arith, c.loop-row-test.false))))
