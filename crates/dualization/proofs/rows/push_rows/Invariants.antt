use Rattle.std.specs.Prelude.{◌≡◌, ◌+◌, ◌++◌, ◌≤◌, drop}
use Rattle.dual_model.specs.GroupRowLaws.{own_total}
use Rattle.dualization.proofs.RowLemmas.{edits_from}
use Rattle.dualization.proofs.rows.push_rows.Given as goal

abbrev pub invariant-loop-i : goal.invariant-loop-i
invariant-loop-i l =
    record {
      whole : l.edits.items
          ++ edits_from l.names l.model.model 0 (l.i + 1) l.next l.group-iterator
          ≡ l.fn.edits.items
          ++ edits_from l.names l.model.model 0 1 l.own l.model.model.groups;
      rest : l.group-iterator ≡ drop l.i l.model.model.groups;
      size : l.next + own_total l.group-iterator ≡ l.own + own_total l.model.model.groups;
      low : l.own ≤ l.next;
    }
