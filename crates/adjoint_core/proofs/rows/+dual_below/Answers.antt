use Rattle.std.specs.Prelude.{◌-◌, ◌<◌, ◌≡◌, IfSome, length, map}
use Rattle.std.proofs.Common.{◌∙◌, ap, arith, get_or, rules, subst, sym}
use Rattle.map_laws.specs.OptionLaws.{none_of}
use Rattle.aff_core.specs.Address.{Address}
use Rattle.bridge_face.specs.BridgeState.{IsCarriedBack, found}
use Rattle.bridge_face.specs.declared.child_rows.ChildRows.{ChildRows}
use Rattle.adjoint_core.specs.Read.{duals_by}
use Rattle.adjoint_core.specs.Walk.{DualBelowFits, IsRowWithin, dual_at, kept_at, places_of}
use Rattle.adjoint_core.proofs.InOrder.{made_end, made_step}
use Rattle.adjoint_core.proofs.WalkSteps.{back_told, child_refused, child_within, kept_of_rows, leaf_answer, opened, place_count, place_there, some_level, takes_made}
use Rattle.adjoint_core.proofs.rows.+dual_below.Goals as goal

pub returns-in_default : goal.returns-in_default
returns-in_default g t c =
    let states = map g.B.Bridge.state c.args.bridges.now in
    let leaf = duals_by c.args.places.now c.args.y.now in
    let read = leaf_answer states leaf c.args.levels c.args.at.now c.requires
    (none_of (kept_at states c.args.at.now) c.in_default.ensures) in
    (read.0, c.in_ok-leaf_dual.ensures ∙ read.1)

pub overflow_add-keeper : goal.overflow_add-keeper
overflow_add-keeper g t c =
    let states = map g.B.Bridge.state c.args.bridges.now in
    let leaf = duals_by c.args.places.now c.args.y.now in
    let keeper = c.in-Some.keeper in
    let k = kept_of_rows (found (g.B.Bridge.state keeper.bridge.now) c.args.at.now) keeper.rows
    c.in-Some.ensures.1 in
    let o = opened states leaf c.args.levels c.args.at.now k.0 keeper.rows c.requires
    (c.in-Some.ensures.0 ∙ k.1) k.2 in
    let first = ap (λ (r : ChildRows). r.first) k.2 in
    let count = ap (λ (r : ChildRows). r.count) k.2 in
    omega (arith, o.places, first, count, c.loop-n-test.true)

pub child-child-requires : goal.child-child-requires
child-child-requires g t c =
    let states = map g.B.Bridge.state c.args.bridges.now in
    let leaf = duals_by c.args.places.now c.args.y.now in
    let keeper = c.in-Some.keeper in
    let k = kept_of_rows (found (g.B.Bridge.state keeper.bridge.now) c.args.at.now) keeper.rows
    c.in-Some.ensures.1 in
    (opened states leaf c.args.levels c.args.at.now k.0 keeper.rows c.requires
    (c.in-Some.ensures.0 ∙ k.1) k.2).depth

pub overflow_sub-levels : goal.overflow_sub-levels
overflow_sub-levels g t c =
    some_level (map g.B.Bridge.state c.args.bridges.now) (duals_by c.args.places.now c.args.y.now)
    c.args.levels c.args.at.now c.requires

pub dual_below-requires : goal.dual_below-requires
dual_below-requires g t c =
    let states = map g.B.Bridge.state c.args.bridges.now in
    let leaf = duals_by c.args.places.now c.args.y.now in
    let at = c.args.at.now in
    let keeper = c.in-Some.keeper in
    let i = c.loop-n.n in
    let v = c.child-child.result in
    let k = kept_of_rows (found (g.B.Bridge.state keeper.bridge.now) at) keeper.rows
    c.in-Some.ensures.1 in
    let o = opened states leaf c.args.levels at k.0 keeper.rows c.requires
    (c.in-Some.ensures.0 ∙ k.1) k.2 in
    let here : v ≡ get_or (places_of at keeper.rows) i v =
    subst (λ (u : Address). u ≡ get_or (places_of at keeper.rows) i u) (sym c.child-child.ensures)
    (place_there at keeper.rows i c.loop-n-test.true) in
    let lt : i < length (places_of at keeper.rows) =
    omega (arith, place_count at keeper.rows, c.loop-n-test.true) in
    let within : IsRowWithin states leaf (c.args.levels - 1) v =
    child_within states leaf c.args.levels at k.0 (places_of at keeper.rows) o i v here lt in
    let some = some_level states leaf c.args.levels at c.requires in
    search (rules, arith)

pub returns-in_err-dual_below : goal.returns-in_err-dual_below
returns-in_err-dual_below g t c =
    let states = map g.B.Bridge.state c.args.bridges.now in
    let leaf = duals_by c.args.places.now c.args.y.now in
    let at = c.args.at.now in
    let keeper = c.in-Some.keeper in
    let i = c.loop-n.n in
    let v = c.child-child.result in
    let k = kept_of_rows (found (g.B.Bridge.state keeper.bridge.now) at) keeper.rows
    c.in-Some.ensures.1 in
    let o = opened states leaf c.args.levels at k.0 keeper.rows c.requires
    (c.in-Some.ensures.0 ∙ k.1) k.2 in
    let here : v ≡ get_or (places_of at keeper.rows) i v =
    subst (λ (u : Address). u ≡ get_or (places_of at keeper.rows) i u) (sym c.child-child.ensures)
    (place_there at keeper.rows i c.loop-n-test.true) in
    let lt : i < length (places_of at keeper.rows) =
    omega (arith, place_count at keeper.rows, c.loop-n-test.true) in
    child_refused states leaf c.args.levels at k.0 (places_of at keeper.rows) o
    c.from_residual-in_err-dual_below.result c.in_err-dual_below.field-0.0 i v _ _ here lt
    c.from_residual-in_err-dual_below.ensures.1 c.in_err-dual_below.ensures

pub loop-n-preserved : goal.loop-n-preserved
loop-n-preserved g t c =
    let states = map g.B.Bridge.state c.args.bridges.now in
    let leaf = duals_by c.args.places.now c.args.y.now in
    let at = c.args.at.now in
    let keeper = c.in-Some.keeper in
    let i = c.loop-n.n in
    let v = c.child-child.result in
    let here : v ≡ get_or (places_of at keeper.rows) i v =
    subst (λ (u : Address). u ≡ get_or (places_of at keeper.rows) i u) (sym c.child-child.ensures)
    (place_there at keeper.rows i c.loop-n-test.true) in
    let lt : i < length (places_of at keeper.rows) =
    omega (arith, place_count at keeper.rows, c.loop-n-test.true) in
    made_step (DualBelowFits states leaf (c.args.levels - 1)) (λ v. v)
    (dual_at states leaf (c.args.levels - 1)) (places_of at keeper.rows) i c.loop-n.duals.items
    c.loop-n.invariant v here lt c.in_ok-dual_below.field-0 c.push.new.self.items
    c.in_ok-dual_below.ensures.0 c.in_ok-dual_below.ensures.1 c.in_ok-push.ensures.items

pub back-requires : goal.back-requires
back-requires g t c =
    let states = map g.B.Bridge.state c.args.bridges.now in
    let leaf = duals_by c.args.places.now c.args.y.now in
    let at = c.args.at.now in
    let keeper = c.in-Some.keeper in
    let ps = places_of at keeper.rows in
    let k = kept_of_rows (found (g.B.Bridge.state keeper.bridge.now) at) keeper.rows
    c.in-Some.ensures.1 in
    let o = opened states leaf c.args.levels at k.0 keeper.rows c.requires
    (c.in-Some.ensures.0 ∙ k.1) k.2 in
    let all = made_end (DualBelowFits states leaf (c.args.levels - 1)) (λ v. v)
    (dual_at states leaf (c.args.levels - 1)) ps c.loop-n.n c.loop-n.duals.items
    c.loop-n.invariant (omega (arith, place_count at keeper.rows, c.loop-n-test.false)) in
    takes_made states leaf c.args.levels at k.0 ps o
    (found (g.B.Bridge.state keeper.bridge.now) at) c.deref.result.now k.1
    (c.deref.ensures.value ∙ all.1)

pub returns : goal.returns
returns g t c =
    let states = map g.B.Bridge.state c.args.bridges.now in
    let leaf = duals_by c.args.places.now c.args.y.now in
    let at = c.args.at.now in
    let keeper = c.in-Some.keeper in
    let ps = places_of at keeper.rows in
    let k = kept_of_rows (found (g.B.Bridge.state keeper.bridge.now) at) keeper.rows
    c.in-Some.ensures.1 in
    let o = opened states leaf c.args.levels at k.0 keeper.rows c.requires
    (c.in-Some.ensures.0 ∙ k.1) k.2 in
    let all = made_end (DualBelowFits states leaf (c.args.levels - 1)) (λ v. v)
    (dual_at states leaf (c.args.levels - 1)) ps c.loop-n.n c.loop-n.duals.items
    c.loop-n.invariant (omega (arith, place_count at keeper.rows, c.loop-n-test.false)) in
    back_told states leaf c.args.levels at k.0 ps o c.back.result c.deref.result.now all.0
    (c.deref.ensures.value ∙ all.1)
    (subst (λ p. IfSome p (IsCarriedBack c.back.result c.deref.result.now)) k.1 c.back.ensures)
