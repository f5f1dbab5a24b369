use Rattle.std.proofs.Common.{◌++◌, ap, codes, ◌∙◌}
use Rattle.std.proofs.lemmas.Result.{on_ok_weaker}
use Rattle.cert_text.specs.Text.{text_of_lines, variable_lines}
use Rattle.certificates.specs.Points.{variables_of}
use Rattle.relax_command.proofs.Lines.{all_lines}
use Rattle.relax_command.specs.Text.{violation_lines}
use Rattle.relaxed_model.specs.Relaxed.{soft_rows}
use Rattle.relax_command.proofs.printing.push_least.Goals as goal

pub returns : goal.returns
returns c =
    let model = c.args.relaxed.now.model in
    let x = c.args.x.now in
    let violations = c.args.violations.now in
    on_ok_weaker c.push_violations.result
    (λ e. all_lines (codes "relaxed ") c.args.total.now
    (variable_lines (codes "primal ") (variables_of model.groups) x)
    (violation_lines (soft_rows model.rows) violations) c.args.draft.now c.push.new.self
    c.push_ratio.new.self c.push-2.new.self c.push_numbers.new.draft c.push_violations.new.draft
    c.in_ok-push.ensures c.in_ok-push_ratio.ensures c.in_ok-push-2.ensures
    (c.in_ok-push_numbers.ensures ∙ ap (λ gs. c.push-2.new.self
    ++ text_of_lines (variable_lines (codes "primal ") (variables_of gs) x))
    c.groups.ensures.value)
    (e ∙ ap (λ rs. c.push_numbers.new.draft ++ text_of_lines (violation_lines (soft_rows rs) violations))
    c.rows.ensures.value))
    c.push_violations.ensures
