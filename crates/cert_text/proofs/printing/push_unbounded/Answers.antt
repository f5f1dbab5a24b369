use Rattle.std.proofs.lemmas.Result.{on_ok_weaker}
use Rattle.certificates.specs.Points.{variables_of}
use Rattle.cert_text.proofs.Printed.{unbounded_text}
use Rattle.cert_text.proofs.ReadBack.{unbounded_read}
use Rattle.cert_text.proofs.printing.push_unbounded.Goals as goal

pub returns-clause-value : goal.returns-clause-value
returns-clause-value c =
    on_ok_weaker c.push_numbers-2.result
    (unbounded_text (variables_of c.args.groups.now.items) c.args.rows.now.items c.args.x.now c.args.d.now
    c.args.text.now.items c.push.new.text.items c.push_numbers.new.text.items
    c.push_numbers-2.new.text.items
    c.in_ok-push.ensures c.in_ok-push_numbers.ensures.value)
    c.push_numbers-2.ensures.value

pub returns-clause-reads_back : goal.returns-clause-reads_back
returns-clause-reads_back c =
    on_ok_weaker c.push_numbers-2.result
    (λ reads objective next entries. unbounded_read (variables_of c.args.groups.now.items) c.args.rows.now.items
    c.args.x.now c.args.d.now
    entries.0 entries.1 c.in_ok-push_numbers.ensures.reads reads)
    c.push_numbers-2.ensures.reads
