use Rattle.std.proofs.Common.{arith, Some, sym, ap, ◌∙◌}
use Rattle.std.specs.Prelude.{slice_get}
use Rattle.std.proofs.lemmas.Option.{slice_get-get_or}
use Rattle.model_laws.specs.Needed.{known_component}
use Rattle.model_plans.proofs.located.affines.Goals as goal

pub affine-requires-clause-known : goal.affine-requires-clause-known
affine-requires-clause-known c =
    let i = c.loop-func.func-index in
    let func = c.func-item.result in
    let funcs = c.as_slice-func-items.result.now in
    let at = slice_get-get_or funcs i func (omega arith) ∙ ap Some (sym c.func-item.is) in
    known_component c.args.model.now.model c.args.funcs.now i func c.requires.known
    (ap (λ fs. slice_get fs i) (sym c.as_slice-func-items.ensures) ∙ at)
