use Rattle.std.proofs.Common.{◌≡◌, subst}
use Rattle.std.specs.Result.{OnOk}
use Rattle.certificates.specs.declared.certificate.Certificate.TheVariants as certificate
use Rattle.cert_text.specs.ReadsBack.{ReadsBack}
use Rattle.cert_text.proofs.printing.push_certificate.Goals as goal

pub returns-in-Optimal-clause-reads_back : goal.returns-in-Optimal-clause-reads_back
returns-in-Optimal-clause-reads_back c =
    let same : certificate.Optimal c.in-Optimal.value c.as_slice-in-Optimal-2.result.now
    c.as_slice.result.now c.as_slice-in-Optimal.result.now ≡ c.args.certificate.now = cc in
    subst (λ d. OnOk c.push_optimal.result (ReadsBack c.args.groups.now.items c.args.rows.now.items d)) same
    c.push_optimal.ensures.reads_back

pub returns-in-Infeasible-clause-reads_back : goal.returns-in-Infeasible-clause-reads_back
returns-in-Infeasible-clause-reads_back c =
    let same : certificate.Infeasible c.in-Infeasible.gap c.as_slice-in-Infeasible.result.now
    c.as_slice-in-Infeasible-2.result.now ≡ c.args.certificate.now = cc in
    subst (λ d. OnOk c.push_infeasible.result (ReadsBack c.args.groups.now.items c.args.rows.now.items d)) same
    c.push_infeasible.ensures.reads_back

pub returns-in-Unbounded-clause-reads_back : goal.returns-in-Unbounded-clause-reads_back
returns-in-Unbounded-clause-reads_back c =
    let same : certificate.Unbounded c.as_slice-in-Unbounded.result.now
    c.as_slice-in-Unbounded-2.result.now ≡ c.args.certificate.now = cc in
    subst (λ d. OnOk c.push_unbounded.result (ReadsBack c.args.groups.now.items c.args.rows.now.items d)) same
    c.push_unbounded.ensures.reads_back
