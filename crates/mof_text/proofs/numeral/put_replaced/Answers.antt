use Rattle.std.proofs.Common.{◌++◌, ◌∙◌, ap, refl, sym}
use Rattle.mof_text.proofs.NumberLaws.{run_left, run_replaced}
use Rattle.mof_text.proofs.numeral.put_replaced.Goals as goal

pub returns-then-not-is_replaced : goal.returns-then-not-is_replaced
returns-then-not-is_replaced c = (
  refl,
  run_left c.args.run.now c.args.rest.now c.magnitude-magnitude.ensures c.scan-numeral.ensures.parts
      refl (sym c.is_replaced.ensures ∙ c.if-not-is_replaced.true),
)

pub returns : goal.returns
returns c =
    c.in_ok-put_number.ensures
    ∙ ap (λ t. c.args.exact.now.items ++ (c.args.before.now ++ t))
    (run_replaced c.args.run.now c.args.rest.now c.magnitude-magnitude.ensures
    c.scan-numeral.ensures.parts refl
    c.starts_with_minus.result c.exact_number.result c.starts_with_minus.ensures
    (sym c.is_replaced.ensures ∙ c.if-not-is_replaced.false) c.exact_number.ensures)
