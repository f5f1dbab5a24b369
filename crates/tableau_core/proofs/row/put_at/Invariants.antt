use Rattle.tableau_core.specs.Row.{AllFit, IsPutAt, cell}
use Rattle.tableau_core.proofs.row.put_at.Given as goal

abbrev pub invariant-loop-i : goal.invariant-loop-i
invariant-loop-i l = record {
  put : IsPutAt l.places l.i (cell l.next) l.initial.row l.row;
  all_fit : AllFit l.row;
}
