use Rattle.std.proofs.Common.{◌∙◌, arith}
use Rattle.numbered_list.specs.ExchangeLaws.{one_more, done}
use Rattle.user_model.specs.Edited.{row_number}
use Rattle.model_catalog.proofs.RowLoop.{counts_now, counts_after}
use Rattle.model_catalog.proofs.index.exchange_rows.Goals as goal

pub exchange_row-requires-clause-counts : goal.exchange_row-requires-clause-counts
exchange_row-requires-clause-counts c =
    counts_now c.loop-change.rows.items c.args.kept.now.items c.loop-change.kept.items
    c.loop-change.invariant.0.entries

pub loop-change-preserved : goal.loop-change-preserved
loop-change-preserved c = (
  record {
    rows =
        one_more row_number c.args.rows.now.items c.loop-change.rows.items
        c.exchange_row.new.rows.items c.args.changes.now c.loop-change.changes
        c.loop-change.change-index c.loop-change.rows.room c.exchange_row.new.rows.room
        c.args.rows.now.room c.change-item.result c.take.result c.exchange_row.result
        c.loop-change.invariant.0.rows (omega arith) c.take.ensures.value
        c.exchange_row.ensures.before c.exchange_row.ensures.after
        c.exchange_row.ensures.capacity;
    rising = c.exchange_row.ensures.kept;
    entries = counts_after c.loop-change.rows.items c.exchange_row.new.rows.items
        c.args.kept.now.items c.loop-change.kept.items c.exchange_row.new.kept.items
        c.loop-change.invariant.0.entries c.exchange_row.ensures.entries;
    count = c.exchange_row.ensures.count ∙ c.loop-change.invariant.0.count;
  },
  omega (arith, c.loop-change.invariant.1, c.exchange_row.ensures.kept_room),
)

pub returns-clause-changes : goal.returns-clause-changes
returns-clause-changes c =
    (done row_number c.args.rows.now.items c.loop-change.rows.items c.args.changes.now
    c.loop-change.changes c.loop-change.change-index c.loop-change.rows.room
    c.args.rows.now.room c.loop-change.invariant.0.rows (omega arith)
    c.requires.rising c.requires.changes c.requires.room).are

pub returns-clause-room : goal.returns-clause-room
returns-clause-room c =
    (done row_number c.args.rows.now.items c.loop-change.rows.items c.args.changes.now
    c.loop-change.changes c.loop-change.change-index c.loop-change.rows.room
    c.args.rows.now.room c.loop-change.invariant.0.rows (omega arith)
    c.requires.rising c.requires.changes c.requires.room).room
