use Rattle.std.proofs.Common.{arith, Some, sym, ap, ◌∙◌}
use Rattle.std.specs.Prelude.{slice_get}
use Rattle.std.proofs.lemmas.Option.{slice_get-get_or}
use Rattle.model_plans.proofs.Loops.{numbered_pushed}
use Rattle.model_plans.proofs.groups.numbered_vars.Goals as goal

pub loop-name-preserved : goal.loop-name-preserved
loop-name-preserved c =
    let i = c.loop-name.name-index in
    let name = c.name-item.result in
    let names = c.as_slice-name-items.result.now in
    let at = slice_get-get_or names i name (omega arith) ∙ ap Some (sym c.name-item.is) in (
      omega (arith, c.loop-name.invariant.0),
      numbered_pushed c.args.first c.args.names.now i name c.loop-name.vars.items
          c.push.new.self.items _ (sym (ap (λ ns. slice_get ns i)
          (sym c.as_slice-name-items.ensures) ∙ at)) c.loop-name.invariant.1 c.loop-name.invariant.0
          c.in_ok-copy.ensures c.in_ok-push.ensures.items,
    )
