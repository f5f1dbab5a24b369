use Rattle.std.specs.Prelude.{◌+◌, false, IsNone, map}
use Rattle.std.proofs.Common.{◌∙◌, ap, drop, refl, subst, sym}
use Rattle.std.proofs.Math.ListN.{drop_of_length-le}
use Rattle.bridge_face.specs.BridgeState.{found}
use Rattle.map_laws.specs.LoopLaws.{next_item}
use Rattle.adjoint_core.specs.Walk.{kept_at}
use Rattle.adjoint_core.proofs.WalkSteps.{first_kept, passed_by}
use Rattle.adjoint_core.proofs.rows.find_keeper.Goals as goal

pub returns-in-Some : goal.returns-in-Some
unfolding kept_at
returns-in-Some g c =
    let state = g.B.Bridge.state in
    let bs = c.args.bridges.now in
    let i = c.loop-bridge.bridge-index in
    let b = c.bridge-item.result in
    let at = c.args.at.now in
    let told = sym c.child_rows.ensures ∙ c.in-Some.is in (
      sym c.loop-bridge.invariant
          ∙ ap (λ l. kept_at (map state l) at) (next_item bs bs i b refl c.bridge-item.is
          c.loop-bridge-test.true)
          ∙ first_kept (found (state b) at) (kept_at (map state (drop (i + 1) bs)) at)
          c.in-Some.rows told,
      told,
    )

pub loop-bridge-preserved : goal.loop-bridge-preserved
unfolding kept_at
loop-bridge-preserved g c =
    let state = g.B.Bridge.state in
    let bs = c.args.bridges.now in
    let i = c.loop-bridge.bridge-index in
    let b = c.bridge-item.result in
    let at = c.args.at.now in
    sym (passed_by (found (state b) at) (kept_at (map state (drop (i + 1) bs)) at)
    (λ rows k. c.in_default.not-Some rows (c.child_rows.ensures ∙ k)))
    ∙ sym (ap (λ l. kept_at (map state l) at)
    (next_item bs bs i b refl c.bridge-item.is c.loop-bridge-test.true))
    ∙ c.loop-bridge.invariant

pub returns : goal.returns
unfolding kept_at
returns g c =
    let state = g.B.Bridge.state in
    subst IsNone
    (sym (ap (λ l. kept_at (map state l) c.args.at.now)
    (drop_of_length-le c.args.bridges.now c.loop-bridge-test.false))
    ∙ c.loop-bridge.invariant) (λ i. false)
