use Rattle.std.proofs.lemmas.Result.{on_ok_weaker}
use Rattle.certificates.specs.Points.{variables_of}
use Rattle.cert_text.proofs.Printed.{both_ok, infeasible_text}
use Rattle.cert_text.proofs.ReadBack.{infeasible_read}
use Rattle.cert_text.proofs.printing.push_infeasible.Goals as goal

pub returns-clause-value : goal.returns-clause-value
returns-clause-value c =
    on_ok_weaker c.push_duals.result
    (infeasible_text (variables_of c.args.groups.now.items) c.args.rows.now.items c.args.duals.now.rows.now
    c.args.duals.now.vars.now
    c.args.gap.now c.args.text.now.items c.push_number_line.new.text.items
    c.push_duals.new.text.items c.in_ok-push_number_line.ensures.value)
    c.push_duals.ensures.value

pub returns-clause-reads_back : goal.returns-clause-reads_back
returns-clause-reads_back c =
    both_ok c.push_duals.result _ _ _
    (λ r w objective next entries. infeasible_read (variables_of c.args.groups.now.items) c.args.rows.now.items
    c.args.duals.now.rows.now c.args.duals.now.vars.now
    entries.0 entries.1 r w c.args.gap.now c.in_ok-push_number_line.ensures.reads)
    c.push_duals.ensures.rows_read c.push_duals.ensures.variables_read
