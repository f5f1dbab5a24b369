use Rattle.std.proofs.Common.{arith, inl, inr, eqb-true, sym, ◌∙◌, ◌<◌, ◌≡◌, length}
use Rattle.std.proofs.lemmas.Bool.{eqb-false}
use Rattle.ratio_core.proofs.Digits.{part_of_empty, part_read, part_refused}
use Rattle.ratio_core.proofs.text.read_part.Goals as goal
use Rattle.ratio_core.proofs.text.read_part.Goals.{then-not-is_ascii_digit-via-then-not-is_ascii_digit, then-not-is_ascii_digit-via-else-not-is_ascii_digit+then-value}

pub returns-then-is_empty-clause-value : goal.returns-then-is_empty-clause-value
returns-then-is_empty-clause-value c =
    sym (part_of_empty c.args.text.now (eqb-true _ _ (sym c.is_empty.ensures ∙ c.if-is_empty.true)))

pub returns-then-not-is_ascii_digit-clause-value :
    goal.returns-then-not-is_ascii_digit-clause-value
returns-then-not-is_ascii_digit-clause-value c =
    let some : ¬ (length c.args.text.now ≡ 0) =
    eqb-false _ _ (sym c.is_empty.ensures ∙ c.if-is_empty.false) in
    let within : c.loop-byte.byte-index < length c.args.text.now = omega arith in
    part_refused c.args.text.now _ _ some c.loop-byte.invariant.same within
    (elim c.then-not-is_ascii_digit.branch [
      | then-not-is_ascii_digit-via-then-not-is_ascii_digit w ↦ inl
          (sym c.is_ascii_digit.ensures.value ∙ w.if-not-is_ascii_digit.true)
      | then-not-is_ascii_digit-via-else-not-is_ascii_digit+then-value w ↦ inr (omega arith)
    ])

pub returns-then-value-gt-GREATEST_PART-clause-value : goal.returns-then-value-gt-GREATEST_PART-clause-value
returns-then-value-gt-GREATEST_PART-clause-value c =
    let some : ¬ (length c.args.text.now ≡ 0) =
    eqb-false _ _ (sym c.is_empty.ensures ∙ c.if-is_empty.false) in
    let within : c.loop-byte.byte-index < length c.args.text.now = omega arith in
    part_refused c.args.text.now _ _ some c.loop-byte.invariant.same within (inr (omega arith))

pub returns-clause-value : goal.returns-clause-value
returns-clause-value c =
    let some : ¬ (length c.args.text.now ≡ 0) =
    eqb-false _ _ (sym c.is_empty.ensures ∙ c.if-is_empty.false) in
    part_read c.args.text.now _ _ some c.loop-byte.invariant.same (omega arith)
