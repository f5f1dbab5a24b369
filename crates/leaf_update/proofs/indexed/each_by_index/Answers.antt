use Rattle.std.proofs.Common.{sym, subst}
use Rattle.std.specs.Prelude.{All}
use Rattle.std.proofs.lemmas.List.Elements.{All-push}
use Rattle.leaf_model.specs.ReadThrough.{named}
use Rattle.std_form.specs.NameLaws.{NamesNamed}
use Rattle.leaf_update.proofs.SameRows.{pushed_same}
use Rattle.leaf_update.proofs.indexed.each_by_index.Goals as goal

pub loop-func-preserved : goal.loop-func-preserved
loop-func-preserved c =
    let l = c.loop-func in
    let indices = c.args.places.now.vars.indices in
    let made = c.in_ok-by_index.field-0 in
    let w = c.in_ok-by_index.ensures in
    record {
      same = pushed_same (named indices) c.args.funcs.now l.func-index c.func-item.result made
          l.made.items c.push.new.self.items c.func-item.is c.loop-func-test.true l.invariant.same
          w.same c.in_ok-push.ensures.items;
      names = subst (All (NamesNamed c.args.places.now.vars.indices))
          (sym c.in_ok-push.ensures.items) (All-push (NamesNamed c.args.places.now.vars.indices)
          c.loop-func.made.items made l.invariant.names w.names);
    }

pub returns-clause-names : goal.returns-clause-names
returns-clause-names c =
    subst (All (NamesNamed c.args.places.now.vars.indices)) (sym c.from_vec.ensures)
    c.loop-func.invariant.names
