use Rattle.std.proofs.Common.{◌++◌, ap, codes, ◌∙◌}
use Rattle.std.proofs.lemmas.Result.{on_ok_weaker}
use Rattle.cert_text.specs.Text.{certificate_text, row_lines, text_of_lines, variable_lines}
use Rattle.certificates.specs.Points.{variables_of}
use Rattle.relax_command.proofs.Lines.{all_lines}
use Rattle.relaxed_model.specs.Relaxed.{hard_rows}
use Rattle.relax_command.proofs.printing.push_hopeless.Goals as goal

pub returns : goal.returns
unfolding certificate_text
returns c =
    let model = c.args.relaxed.now.model in
    let duals = c.args.duals.now in
    let vars = c.args.vars.now in
    on_ok_weaker c.push_numbers.result
    (λ e. all_lines (codes "infeasible ") c.args.gap.now
    (row_lines (hard_rows model.rows) duals)
    (variable_lines (codes "dual var ") (variables_of model.groups) vars) c.args.draft.now
    c.push.new.self c.push_ratio.new.self c.push-2.new.self c.push_duals.new.draft
    c.push_numbers.new.draft c.in_ok-push.ensures c.in_ok-push_ratio.ensures
    c.in_ok-push-2.ensures
    (c.in_ok-push_duals.ensures ∙ ap (λ rs. c.push-2.new.self
    ++ text_of_lines (row_lines (hard_rows rs) duals)) c.rows.ensures.value)
    (e ∙ ap (λ gs. c.push_duals.new.draft
    ++ text_of_lines (variable_lines (codes "dual var ") (variables_of gs) vars))
    c.groups.ensures.value))
    c.push_numbers.ensures
