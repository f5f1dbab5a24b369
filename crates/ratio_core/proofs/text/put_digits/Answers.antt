use Rattle.std.proofs.Common.{◌∙◌, ◌≡◌, ◌+◌, ◌-◌, ◌%◌, ◌^◌, ◌<◌, subst, ap, arith, drop, false, length-set}
use Rattle.std.specs.Fmt.{digits_onto}
use Rattle.ratio_core.proofs.Printed.{decimal_onto, digit_last, digit_more, digit_room}
use Rattle.ratio_core.proofs.text.put_digits.Goals as goal

pub returns-then-rest-eq0-clause-written : goal.returns-then-rest-eq0-clause-written
returns-then-rest-eq0-clause-written c =
    let i = c.loop-rest.invariant in
    digit_last c.loop-rest.text _ c.loop-rest.start c.args.end c.loop-rest.rest i.within i.room
    i.below (omega arith) (omega arith) i.written c.if-rest-eq0.true

pub loop-rest-init : goal.loop-rest-init
loop-rest-init c =
    let power : 39 ≡ c.args.end + 39 - c.args.end = omega arith in
    let fuel : c.args.end + 64 - c.args.end ≡ 64 = omega arith in
    let digits : c.args.n < 10 ^ 39 = omega (arith, c.requires.size_fits) in
    record {
      within = omega arith;
      room = omega arith;
      below = subst (λ k. c.args.n < 10 ^ k) power digits;
      length = c.told-text;
      written = ap (λ k. digits_onto k 10 false c.args.n (drop c.args.end c.args.text.now)) fuel
          ∙ decimal_onto c.args.n (drop c.args.end c.args.text.now);
    }

pub loop-rest-preserved : goal.loop-rest-preserved
loop-rest-preserved c =
    let i = c.loop-rest.invariant in
    let room = digit_room c.loop-rest.text _ c.loop-rest.start c.args.end c.loop-rest.rest i.within
    i.room i.below (omega arith) (omega arith) i.written c.if-rest-eq0.false in
    record {
      within = omega arith;
      room = room.0;
      below = room.1;
      length = length-set c.loop-rest.text (c.loop-rest.start - 1) (48 + c.loop-rest.rest % 10)
          ∙ i.length;
      written = digit_more c.loop-rest.text _ c.loop-rest.start c.args.end c.loop-rest.rest i.within
          i.room i.below (omega arith) (omega arith) i.written c.if-rest-eq0.false;
    }
