use Rattle.std.proofs.Common.{arith, ap, ◌∙◌}
use Rattle.item_map.proofs.ChangeLaws.{roomier_kept, roomier_map, roomier_room}
use Rattle.item_map.proofs.map.ItemMap.reserve.Goals as goal

pub invariant_of-self : goal.invariant_of-self
invariant_of-self g c =
    let a = c.self.inside.roots in
    let b = c.reserve.new.self in
    roomier_kept a b c.reserve.ensures.same c.self.inside.nothing c.self.inside.len c.self.inside.spare
    c.self.inside.spare c.self.invariant
    (roomier_room a b c.reserve.ensures.same c.self.inside.spare c.self.invariant.room)
    c.self.invariant.fits

pub returns-in_err-reserve-clause-same : goal.returns-in_err-reserve-clause-same
returns-in_err-reserve-clause-same g c =
    roomier_map c.self.inside.roots c.reserve.new.self c.reserve.ensures.same
    ∙ ap (λ m. m.entries) c.self.view_is

pub invariant_of-self-2 : goal.invariant_of-self-2
invariant_of-self-2 g c =
    roomier_kept c.self.inside.roots c.reserve.new.self c.reserve.ensures.same c.self.inside.nothing
    c.self.inside.len c.self.inside.spare c.args.more c.self.invariant c.in_ok-reserve.ensures.ok
    (omega (arith, c.if-self-more.false, c.self.ranges))

pub returns-clause-same : goal.returns-clause-same
returns-clause-same g c =
    roomier_map c.self.inside.roots c.reserve.new.self c.reserve.ensures.same
    ∙ ap (λ m. m.entries) c.self.view_is
