use Rattle.std.proofs.Common.{◌∙◌, ◌++◌, flat_map, ap, sym}
use Rattle.std.proofs.lemmas.List.{append-nil}
use Rattle.std.proofs.lemmas.Result.{on_ok_weaker}
use Rattle.report_core.specs.Words.{spaced}
use Rattle.bridged_report.proofs.Pushes.{constant_texts_zero, constant_texts_other, pushed_constant}
use Rattle.bridged_report.proofs.functions.push_further_constant.Goals as goal

pub returns-then-is_zero : goal.returns-then-is_zero
returns-then-is_zero c =
    sym (ap (λ ts. c.args.draft.now ++ flat_map spaced ts)
    (constant_texts_zero _ (c.is_zero.ensures.0 c.if-is_zero.true)) ∙ append-nil _)

pub returns : goal.returns
returns c =
    on_ok_weaker c.push_ratio.result (λ e. e ∙ pushed_constant c.args.draft.now c.args.constant.now
    c.in_ok-push.ensures (constant_texts_other c.args.constant.now c.is_zero.result
    c.if-is_zero.false c.is_zero.ensures)) c.push_ratio.ensures
