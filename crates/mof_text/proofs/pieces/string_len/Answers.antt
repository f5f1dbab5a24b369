use Rattle.std.proofs.Common.{◌≡◌, ◌-◌, ◌<◌, ◌++◌, ap, arith, drop, length, length-drop, subst, take}
use Rattle.std.proofs.lemmas.List.{take_rest}
use Rattle.mof_text.proofs.TextLaws.{quoted_on, stepped, string_end}
use Rattle.mof_text.proofs.pieces.string_len.Goals as goal

pub loop-place-preserved : goal.loop-place-preserved
loop-place-preserved c =
    let inside : c.loop-place.place < length c.args.text.now = omega arith in
    let rest : take (length c.args.text.now - c.loop-place.place)
    (drop c.loop-place.place c.args.text.now)
    ≡ drop c.loop-place.place c.args.text.now = take_rest c.args.text.now c.loop-place.place in (
      omega (
        arith,
        c.step_len-place.ensures.within,
        ap length rest,
        length-drop c.loop-place.place c.args.text.now,
      ),
      stepped c.args.text.now c.loop-place.place inside c.loop-place.invariant.1
          c.step_len-place.result
          (subst (λ s. quoted_on s ≡ take c.step_len-place.result s ++ quoted_on
          (drop c.step_len-place.result s)) rest c.step_len-place.ensures.kept),
    )

pub returns-clause-kept : goal.returns-clause-kept
returns-clause-kept c =
    string_end c.args.text.now c.loop-place.place (omega arith) c.loop-place.invariant.1
