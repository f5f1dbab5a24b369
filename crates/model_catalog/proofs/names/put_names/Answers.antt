use Rattle.std.proofs.Common.{arith, ◌∙◌, sym, subst, None, ◌≡◌}
use Rattle.std.specs.Prelude.{IfSome}
use Rattle.std.specs.FinMap.{get}
use Rattle.model_catalog.proofs.NameLoops.{ArePut, next_put, put_more}
use Rattle.model_catalog.proofs.names.put_names.Goals as goal

pub put_name-requires : goal.put_name-requires
put_name-requires c =
    let put : ArePut c.args.table.now.numbers c.args.listed.now c.args.table.now.spare =
    record {
      rising = c.requires.rising;
      free = c.requires.free;
      distinct = c.requires.distinct;
      room = c.requires.room;
    } in
    let next = next_put c.args.table.now.numbers c.loop-item.table.numbers c.args.listed.now
    c.loop-item.listed c.loop-item.item-index c.args.table.now.spare c.loop-item.table.spare
    c.item-item.result put c.loop-item.invariant (omega arith) in
    record {
      one_to_one = c.loop-item.invariant.one_to_one;
      free = next.free;
      new = subst (λ o. IfSome o (λ name. get c.loop-item.table.numbers name ≡ None))
          (sym c.replace.ensures.value) next.new;
      room = λ some. next.room (rw c.replace.ensures.value at some);
    }

pub loop-item-preserved : goal.loop-item-preserved
loop-item-preserved c =
    put_more c.args.table.now.numbers c.loop-item.table.numbers c.put_name.new.table.numbers
    c.args.listed.now c.loop-item.listed c.loop-item.item-index c.args.table.now.spare
    c.loop-item.table.spare c.put_name.new.table.spare c.item-item.result c.replace.new.dest
    c.take-old.new.self c.replace.result
    c.loop-item.invariant (omega arith) (c.replace.ensures.after ∙ c.take-old.ensures.value)
    c.take-old.ensures.after c.replace.ensures.value c.put_name.ensures.names
    c.put_name.ensures.spare c.put_name.ensures.one_to_one
