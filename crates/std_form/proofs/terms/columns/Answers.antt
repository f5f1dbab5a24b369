use Rattle.std.proofs.Common.{ap, arith, false, length, map, slice_index_or, subst, sym, take, ◌+◌, ◌≡◌, ◌≤◌, ◌∙◌}
use Rattle.std.proofs.lemmas.List.{take_all, with_items_is}
use Rattle.sparse_lists.specs.Across.{ArePutAcross, list_at}
use Rattle.aff_core.specs.Function.{coefficient}
use Rattle.equality_form.specs.Equations.{flipped}
use Rattle.std_form.specs.Borrowed.{equation_in, function_in}
use Rattle.std_form.specs.Gathered.{AreColumns}
use Rattle.std_form.specs.declared.equation.Equation.{Equation}
use Rattle.std_form.proofs.Gathering.{columns_more, columns_none}
use Rattle.std_form.proofs.Steps.{flip_at}
use Rattle.std_form.proofs.terms.columns.Goals as goal

pub loop-i-init : goal.loop-i-init
loop-i-init c = record {
  count = c.in_ok-columns.ensures.count;
  low = λ b. subst (λ l. length l ≤ 0) (sym (c.in_ok-columns.ensures.empty b)) (omega arith);
  columns = columns_none c.in_ok-columns.columns.items c.in_ok-columns.ensures.empty;
}

pub put_function-requires : goal.put_function-requires
put_function-requires c = record {
  low = λ b. subst (λ ls. length (list_at ls b) ≤ c.loop-i.i) (sym c.deref_mut.ensures.value)
      (c.loop-i.invariant.low b);
}

pub loop-i-preserved : goal.loop-i-preserved
loop-i-preserved c =
    let i = c.loop-i.i in
    let es = c.args.equations.now in
    let item = c.index-equations-i.result in
    let flip = slice_index_or c.args.flips.now i false in
    let put = c.in_ok-put_function.ensures in
    let next = with_items_is c.loop-i.columns c.put_function.new.columns
    (c.put_function.auto.columns ∙ c.deref_mut.ensures.len) in
    record {
      count = ap length next ∙ put.long ∙ ap length c.deref_mut.ensures.value
          ∙ c.loop-i.invariant.count;
      low = λ b. subst (λ ls. length (list_at ls b) ≤ i + 1) (sym next) (put.low b);
      columns = subst (AreColumns (map equation_in (take (i + 1) es))) (sym next)
          (columns_more equation_in es i item c.loop-i-test.true flip c.deref_mut.result.now
          c.put_function.new.columns
          (flip_at equation_in es i item c.loop-i-test.true c.args.flips.now false c.requires)
          (subst (AreColumns (map equation_in (take i es))) (sym c.deref_mut.ensures.value)
          c.loop-i.invariant.columns)
          (subst (λ (e : Equation). ArePutAcross i
          (λ b. flipped flip (coefficient (function_in e.function) b)) c.deref_mut.result.now
          c.put_function.new.columns) c.index-equations-i.is put));
    }

pub returns-clause-count : goal.returns-clause-count
returns-clause-count c = c.loop-i.invariant.count

pub returns-clause-columns : goal.returns-clause-columns
returns-clause-columns c =
    subst (λ es. AreColumns (map equation_in es) c.loop-i.columns.items)
    (take_all c.loop-i.i c.args.equations.now c.loop-i-test.false) c.loop-i.invariant.columns
