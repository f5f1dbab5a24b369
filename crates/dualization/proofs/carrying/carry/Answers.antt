use Rattle.std.specs.Prelude.{length}
use Rattle.std.proofs.Common.{◌∙◌, ap, ap₂, arith, subst, sym}
use Rattle.cert_core.specs.Checked.{HasRowDuals}
use Rattle.dual_model.specs.Carried.{carried_rows}
use Rattle.dual_model.specs.Duality.{holds_duals}
use Rattle.dual_model.specs.RowPartLaws.{total_parts}
use Rattle.dualization.proofs.CarryLemmas.{carried_sizes}
use Rattle.dualization.proofs.EditLemmas.{size_is}
use Rattle.dualization.proofs.ValidLemmas.{row_sets}
use Rattle.dualization.proofs.carrying.carry.Goals as goal

pub carried_rows-requires : goal.carried_rows-requires
carried_rows-requires c =
    let m = c.args.model.now.model in
    omega (
      arith,
      ap total_parts c.rows.ensures.value,
      size_is m c.rows.ensures.valid,
      c.requires,
      ap length c.as_slice.ensures,
    )

pub returns-in_err-rows-clause-holds : goal.returns-in_err-rows-clause-holds
returns-in_err-rows-clause-holds c = holds_duals c.args.model.now.model c.rows.ensures.valid

pub carried_variables-requires : goal.carried_variables-requires
carried_variables-requires c =
    let m = c.args.model.now.model in
    let made = c.deref.ensures.value ∙ c.in_ok-rows.ensures.1
    ∙ ap₂ carried_rows c.rows.ensures.value c.as_slice.ensures in
    subst (HasRowDuals m.rows) (sym made)
    (carried_sizes m.rows c.args.x.now (row_sets m c.rows.ensures.valid)
    (omega (arith, size_is m c.rows.ensures.valid, c.requires)))

pub returns-in_err-vars-clause-holds : goal.returns-in_err-vars-clause-holds
returns-in_err-vars-clause-holds c = holds_duals c.args.model.now.model c.rows.ensures.valid

pub returns-clause-holds : goal.returns-clause-holds
returns-clause-holds c = holds_duals c.args.model.now.model c.rows.ensures.valid
