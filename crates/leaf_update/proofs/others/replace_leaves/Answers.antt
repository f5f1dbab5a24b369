use Rattle.std.proofs.Common.{sym, subst}
use Rattle.std.proofs.lemmas.Result.{IfOk-weaker}
use Rattle.leaf_update.specs.Splice.{IsSplice, gone_in}
use Rattle.leaf_model.specs.ReadThrough.{read_through}
use Rattle.leaf_update.proofs.OtherLaws.{changed_to, is_splice}
use Rattle.leaf_update.proofs.others.replace_leaves.Goals as goal

pub change_leaves-requires-clause-splice : goal.change_leaves-requires-clause-splice
change_leaves-requires-clause-splice c =
    let solver = c.args.solver.now.leaves in
    let map = c.args.map.now in
    let at = c.args.objective_at.now in
    subst (λ g. IsSplice (read_through map solver at) g c.args.leaves.now)
    (sym c.in_ok-gone.ensures)
    (is_splice map solver at c.args.leaves.now c.requires.named c.requires.leaves)

pub returns : goal.returns
returns c = record {
  replaced = IfOk-weaker c.change_leaves.result _ _
      (λ n h. changed_to c.args.map.now c.args.solver.now.leaves c.args.objective_at.now
      c.args.leaves.now c.requires.named c.requires.leaves c.args.solver.now
      c.change_leaves.new.solver c.change_leaves.new.map c.change_leaves.new.objective_at
      (gone_in c.in_ok-gone.gone) n c.in_ok-gone.ensures h)
      c.change_leaves.ensures.spliced;
}
