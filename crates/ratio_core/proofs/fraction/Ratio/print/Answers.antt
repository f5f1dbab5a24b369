use Rattle.std.proofs.Common.{◌++◌, ◌∙◌, ap}
use Rattle.ratio_core.specs.TextLaws.{kept_reads_back}
use Rattle.ratio_core.proofs.Printed.{appended}
use Rattle.ratio_core.proofs.fraction.Ratio.print.Goals as goal

pub returns-clause-ok : goal.returns-clause-ok
returns-clause-ok c =
    c.in_ok-extend_from_slice.ensures.items
    ∙ ap (λ t. c.args.out.now.items ++ t)
    (appended c.args.self.now c.is_negative.result c.size.result c.over.result
    c.put_denominator-end.result c.put_numerator-start.result
    c.put_denominator-end.new.text c.put_numerator-start.new.text
    c.put_numerator-start.array_long c.is_negative.ensures c.size.ensures.value c.over.ensures.value
    c.put_denominator-end.ensures.written c.put_numerator-start.ensures.written)

pub returns-clause-reads_back : goal.returns-clause-reads_back
returns-clause-reads_back c =
    kept_reads_back c.args.self.now c.size.result c.over.result c.size.ensures.value
    c.over.ensures.value c.size.ensures.fits c.over.ensures.fits

pub returns-in_err-extend_from_slice-clause-reads_back :
    goal.returns-in_err-extend_from_slice-clause-reads_back
returns-in_err-extend_from_slice-clause-reads_back c =
    kept_reads_back c.args.self.now c.size.result c.over.result c.size.ensures.value
    c.over.ensures.value c.size.ensures.fits c.over.ensures.fits
