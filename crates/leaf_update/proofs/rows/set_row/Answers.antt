use Rattle.std.proofs.Common.{arith, sym, ap, subst, ◌∙◌, refl, true≢false}
use Rattle.fresh_bridging.specs.Leaves.{leaf_rows}
use Rattle.leaf_update.specs.Named.{RowNames}
use Rattle.std.specs.Prelude.{Some}
use Rattle.leaf_update.proofs.rows.set_row.Goals as goal
use Rattle.leaf_update.specs.Steps.{SetsRow}
use Rattle.leaf_update.proofs.RowSteps.{body_of, names_of, row_added, row_changed, row_same}

pub returns-in_default-row_index : goal.returns-in_default-row_index
returns-in_default-row_index c =
    let m = c.args.map.now in
    let s = c.args.solver.now.leaves in
    let item = c.args.leaf.now in
    let row = c.in-Some.row in
    let body = body_of m.vars.indices item.at item.body c.in_ok-row.field-0 row (leaf_rows item)
    c.in_ok-row.ensures.row c.requires.row c.in-Some.is in
    let own = names_of (RowNames m.vars.indices) c.in_ok-row.field-0 row c.in-Some.is
    c.in_ok-row.ensures.names in
    record {
      set =
          subst (λ b. SetsRow m s item.at b 1 c.put_row.new.self c.add_row.new.self.leaves) body
          (row_added m s c.requires.named
          (omega (arith, c.calls-few.ensures, c.calls-few.type_inv))
          c.put_row.new.self c.add_row.new.self.leaves c.in_ok-put_row.ensures.vars
          (λ j. (c.in_ok-put_row.ensures.exprs j, (c.in_ok-put_row.ensures.noted j, c.in_ok-put_row.ensures.kept j))) item.at c.in_ok-i.i row own c.in_ok-i.ensures.ok
          (sym c.in_default-row_index.ensures.value) c.in_ok-i.ensures.free
          c.in_ok-put_row.ensures.ok);
      few = omega arith;
    }

pub is_same-requires-clause-names : goal.is_same-requires-clause-names
is_same-requires-clause-names c =
    names_of (RowNames c.args.map.now.vars.indices) c.in_ok-row.field-0 c.in-Some.row c.in-Some.is
    c.in_ok-row.ensures.names

pub returns-then-is_same : goal.returns-then-is_same
returns-then-is_same c =
    let m = c.args.map.now in
    let item = c.args.leaf.now in
    let body = body_of m.vars.indices item.at item.body c.in_ok-row.field-0 c.in-Some.row
    (leaf_rows item) c.in_ok-row.ensures.row c.requires.row c.in-Some.is in
    record {
      set =
          row_same m c.args.solver.now.leaves c.requires.named item.at item.body
          (c.is_same.ensures.0 c.if-is_same.true ∙ ap Some body);
      few = omega arith;
    }

pub returns : goal.returns
returns c =
    let m = c.args.map.now in
    let s = c.args.solver.now.leaves in
    let item = c.args.leaf.now in
    let row = c.in-Some.row in
    let i = c.in-Some-row_index.i in
    let body = body_of m.vars.indices item.at item.body c.in_ok-row.field-0 row (leaf_rows item)
    c.in_ok-row.ensures.row c.requires.row c.in-Some.is in
    let own = names_of (RowNames m.vars.indices) c.in_ok-row.field-0 row c.in-Some.is
    c.in_ok-row.ensures.names in
    record {
      set =
          subst (λ b. SetsRow m s item.at b 1 m c.change_row.new.self.leaves) body
          (row_changed m s c.requires.named
          (omega (arith, c.calls-few.ensures, c.calls-few.type_inv))
          m c.change_row.new.self.leaves refl refl item.at i row own c.change_row.ensures.changed
          c.row_at-one_to_one.ensures.one_to_one (sym c.in-Some-row_index.ensures.value) refl
          (λ e. true≢false (sym (c.is_same.ensures.1 e) ∙ c.if-is_same.false)));
      few = omega arith;
    }
