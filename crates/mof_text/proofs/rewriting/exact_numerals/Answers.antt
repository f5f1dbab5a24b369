use Rattle.std.proofs.Common.{◌≡◌, ◌-◌, ◌≤◌, ◌++◌, ◌∙◌, ap, arith, drop, length, length-drop, refl, subst, sym, take}
use Rattle.std.proofs.lemmas.List.{take_rest}
use Rattle.std.proofs.lemmas.Slice.{pushed}
use Rattle.mof_text.proofs.TextLaws.{IsRewrittenSoFar, onward, rewritten_end, rewritten_kept, rewritten_start, run_kept, run_taken}
use Rattle.mof_text.proofs.rewriting.exact_numerals.Goals as goal

pub loop-place-init : goal.loop-place-init
loop-place-init c =
    subst (λ t. IsRewrittenSoFar c.args.text.now t 0 0) (sym c.in_ok-exact.ensures.items)
    (rewritten_start c.args.text.now)

pub loop-place-preserved-then-is_replaced : goal.loop-place-preserved-then-is_replaced
loop-place-preserved-then-is_replaced c =
    run_taken c.args.text.now c.loop-place.exact.items c.put_replaced.new.exact.items
    c.loop-place.copied c.loop-place.place c.run_len.result c.loop-place.invariant
    c.run_len.ensures.within c.run_len.ensures.value c.in_ok-is_replaced.is_replaced
    c.if-is_replaced.true c.in_ok-is_replaced.ensures

pub loop-place-preserved-else-is_replaced : goal.loop-place-preserved-else-is_replaced
loop-place-preserved-else-is_replaced c =
    run_kept c.args.text.now c.loop-place.exact.items c.put_replaced.new.exact.items
    c.loop-place.copied c.loop-place.place c.run_len.result c.loop-place.invariant
    c.run_len.ensures.within c.run_len.ensures.value c.in_ok-is_replaced.is_replaced
    c.if-is_replaced.false c.in_ok-is_replaced.ensures

pub loop-place-preserved : goal.loop-place-preserved
loop-place-preserved c =
    let rest : take (length c.args.text.now - c.loop-place.place)
    (drop c.loop-place.place c.args.text.now)
    ≡ drop c.loop-place.place c.args.text.now = take_rest c.args.text.now c.loop-place.place in
    let within : c.other_len-place.result ≤ length c.args.text.now - c.loop-place.place =
    omega (
      arith,
      c.other_len-place.ensures.within,
      ap length rest,
      length-drop c.loop-place.place c.args.text.now,
    ) in
    rewritten_kept c.args.text.now c.loop-place.exact.items c.loop-place.copied c.loop-place.place
    c.loop-place.invariant c.other_len-place.result within
    (subst (λ s. onward s ≡ take c.other_len-place.result s ++ onward
    (drop c.other_len-place.result s)) rest c.other_len-place.ensures.kept)

pub returns : goal.returns
returns c =
    pushed {was = c.loop-place.exact.items} {xs = c.loop-place.exact.items}
    (take (length c.args.text.now - c.loop-place.copied)
    (drop c.loop-place.copied c.args.text.now)) refl c.in_ok-extend_from_slice.was
    c.extend_from_slice.ensures.items
    ∙ rewritten_end c.args.text.now c.loop-place.exact.items c.loop-place.copied c.loop-place.place
    c.loop-place.invariant (omega arith)
