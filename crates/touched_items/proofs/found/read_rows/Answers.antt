use Rattle.std.proofs.Common.{arith, sym, ap, ◌∙◌}
use Rattle.std.specs.Option.{option_copied}
use Rattle.touched_items.specs.Search.{is_row, row_at}
use Rattle.touched_items.proofs.Loops.{counted_more, row_missing, row_pushed}
use Rattle.touched_items.proofs.found.read_rows.Goals as goal
use Rattle.touched_items.proofs.found.read_rows.Goals.{in-Some+in_ok-push, in_default}

pub loop-at-preserved : goal.loop-at-preserved
loop-at-preserved c =
    let h = row_at c.args.reading.now.model in
    let x = c.at-item.result in
    let l = c.loop-at in
    record {
      rows = elim c.match-read_row.branch [
        | in-Some+in_ok-push w ↦ rw w.rows-is (row_pushed h c.args.addresses.now l.at-index x
            c.at-item.is c.loop-at-test.true l.rows.items l.invariant.rows w.push.new.self.items
            w.in-Some.row
            (sym (ap option_copied w.in-Some.is) ∙ c.read_row.ensures.row
            ∙ ap (λ m. row_at m x) l.invariant.model)
            w.in_ok-push.ensures.items)
        | in_default w ↦ rw w.rows-is (row_missing h c.args.addresses.now l.at-index x
            c.at-item.is c.loop-at-test.true l.rows.items l.invariant.rows
            (sym (ap option_copied w.in_default.is) ∙ c.read_row.ensures.row
            ∙ ap (λ m. row_at m x) l.invariant.model))
      ];
      model = c.read_row.ensures.model ∙ l.invariant.model;
      reads = omega (
        arith,
        c.read_row.ensures.reads,
        l.invariant.reads,
        counted_more is_row c.args.addresses.now l.at-index x c.at-item.is c.loop-at-test.true,
      );
    }
