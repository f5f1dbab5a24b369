use Rattle.std.proofs.lemmas.Result.{on_ok_weaker}
use Rattle.certificates.specs.Points.{variables_of}
use Rattle.cert_text.proofs.Printed.{both_ok, optimal_text}
use Rattle.cert_text.proofs.ReadBack.{optimal_read}
use Rattle.cert_text.proofs.printing.push_optimal.Goals as goal

pub returns-clause-value : goal.returns-clause-value
returns-clause-value c =
    on_ok_weaker c.push_duals.result
    (optimal_text (variables_of c.args.groups.now.items) c.args.rows.now.items c.args.duals.now.rows.now
    c.args.duals.now.vars.now
    c.args.value.now c.args.x.now c.args.text.now.items c.push_number_line.new.text.items
    c.push_numbers.new.text.items c.push_duals.new.text.items
    c.in_ok-push_number_line.ensures.value c.in_ok-push_numbers.ensures.value)
    c.push_duals.ensures.value

pub returns-clause-reads_back : goal.returns-clause-reads_back
returns-clause-reads_back c =
    both_ok c.push_duals.result _ _ _
    (λ r w objective next entries. optimal_read (variables_of c.args.groups.now.items) c.args.rows.now.items
    c.args.duals.now.rows.now c.args.duals.now.vars.now
    entries.1 entries.2 r w c.args.value.now c.args.x.now entries.0
    c.in_ok-push_number_line.ensures.reads c.in_ok-push_numbers.ensures.reads)
    c.push_duals.ensures.rows_read c.push_duals.ensures.variables_read
