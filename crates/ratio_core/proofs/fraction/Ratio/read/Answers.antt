use Rattle.std.proofs.Common.{◌≡◌, ◌∙◌, ap, eqb-true, slice_index, sym, true}
use Rattle.ratio_core.specs.Text.{denominator_of, numerator_of, rational_from}
use Rattle.ratio_core.specs.TextLaws.{minus_read, plain_read}
use Rattle.ratio_core.proofs.Literals.{empty_start, rest_is}
use Rattle.ratio_core.proofs.fraction.Ratio.read.Goals as goal
use Rattle.ratio_core.proofs.fraction.Ratio.read.Goals.{else-not-is_empty-via-then-not-is_empty+else-text-eq45, else-not-is_empty-via-else-not-is_empty}

pub returns-then-text-eq45 : goal.returns-then-text-eq45
returns-then-text-eq45 c =
    c.read_fraction.ensures
    ∙ ap (λ digits. rational_from true (numerator_of digits) (denominator_of digits))
    (rest_is c.args.text.now 1)
    ∙ minus_read c.args.text.now c.if-text-eq45.true

pub returns-else-not-is_empty : goal.returns-else-not-is_empty
returns-else-not-is_empty c =
    let unsigned : ¬ (slice_index c.args.text.now 0 ≡ 45) =
    elim c.else-not-is_empty.branch [
      | else-not-is_empty-via-then-not-is_empty+else-text-eq45 w ↦ w.if-text-eq45.false
      | else-not-is_empty-via-else-not-is_empty w ↦ empty_start c.args.text.now
          (eqb-true _ _ (sym c.is_empty.ensures ∙ w.if-not-is_empty.false))
    ] in
    c.read_fraction-else-not-is_empty.ensures ∙ plain_read c.args.text.now unsigned
