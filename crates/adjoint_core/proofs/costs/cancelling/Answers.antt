use Rattle.std.specs.Prelude.{◌<◌, ◌≤◌, ◌≡◌, length, refl}
use Rattle.std.proofs.Common.{arith, ◌∙◌, ap, get_or, subst}
use Rattle.ratio_core.specs.Folds.{sum_from}
use Rattle.ratio_core.specs.Rational.{neg_ℚ, zero_ℚ}
use Rattle.certificates.specs.Duals.{rows_with}
use Rattle.cert_core.specs.Folds.{AddUp, adjoint_parts}
use Rattle.cert_core.proofs.Parts.{adjoint_is}
use Rattle.dual_laws.specs.Held.{adjoint}
use Rattle.adjoint_core.proofs.Halving.{far_gone, far_there}
use Rattle.adjoint_core.proofs.InOrder.{made_refused, made_step}
use Rattle.adjoint_core.proofs.costs.cancelling.Goals as goal

pub returns-in_default : goal.returns-in_default
returns-in_default c =
    let hs = rows_with c.args.duals.now c.args.rows.now.items in
    let us = c.args.users.now in
    let i = c.loop-i.i in
    let x = c.user-item.result in
    let sums = c.in_ok-sums.sums.items in
    let all = c.addresses-user-items.ensures.value in
    let here = subst (λ l. x ≡ get_or l i x) all c.user-item.is in
    let lt = subst (λ l. i < length l) all c.loop-i-test.true in
    let none : length sums ≤ i =
    subst (λ l. length l ≤ i) c.deref.ensures.value c.in_default.ensures.lookup.3 in
    made_refused (λ v. AddUp zero_ℚ (adjoint_parts hs v)) (λ v. v) (λ v. neg_ℚ (adjoint hs v)) us i
    c.loop-i.vars.items c.loop-i.invariant.0 x here lt x (
      far_gone (λ v. AddUp zero_ℚ (adjoint_parts hs v)) (λ v. sum_from zero_ℚ (adjoint_parts hs v))
          us sums i x c.in_ok-sums.ensures none c.loop-i.invariant.1 here lt,
      refl,
    )

pub loop-i-preserved : goal.loop-i-preserved
loop-i-preserved c =
    let hs = rows_with c.args.duals.now c.args.rows.now.items in
    let us = c.args.users.now in
    let i = c.loop-i.i in
    let x = c.user-item.result in
    let sums = c.in_ok-sums.sums.items in
    let all = c.addresses-user-items.ensures.value in
    let here = subst (λ l. x ≡ get_or l i x) all c.user-item.is in
    let lt = subst (λ l. i < length l) all c.loop-i-test.true in
    let below : i < length sums =
    subst (λ l. i < length l) c.deref.ensures.value c.in-Some.ensures.lookup.3.0 in
    let there : c.in-Some.sum.now ≡ get_or sums i c.in-Some.sum.now =
    subst (λ l. c.in-Some.sum.now ≡ get_or l i c.in-Some.sum.now) c.deref.ensures.value
    c.in-Some.ensures.lookup.1 in
    let far = far_there (λ v. AddUp zero_ℚ (adjoint_parts hs v))
    (λ v. sum_from zero_ℚ (adjoint_parts hs v)) us sums i x c.in-Some.sum.now c.in_ok-sums.ensures
    below there here lt in (
      made_step (λ v. AddUp zero_ℚ (adjoint_parts hs v)) (λ v. v) (λ v. neg_ℚ (adjoint hs v)) us i
          c.loop-i.vars.items c.loop-i.invariant.0 x here lt c.neg.result
          c.push.new.self.items far.0
          (c.neg.ensures ∙ ap neg_ℚ (far.1 ∙ adjoint_is hs x)) c.in_ok-push.ensures.items,
      omega (arith, below),
    )
