use Rattle.std.proofs.Common.{◌∙◌, ◌-◌, ◌/◌, ap, arith, length}
use Rattle.std.specs.Prelude.{◌+◌}
use Rattle.bridge_face.specs.BackOf.{size}
use Rattle.bridge_face.specs.FamilyLaws.{dual_count, image_is, length-tail, only}
use Rattle.bridge_face.specs.ImageOf.{norm_one}
use Rattle.bridges_norm.specs.NormOneLaws.{back_made, dual_long, rule}
use Rattle.bridges_norm.proofs.Loops.{even, halves}
use Rattle.bridges_norm.proofs.norm_one.NormOneRewriting.back.Goals as goal

pub bounds-duals-0 : goal.bounds-duals-0
bounds-duals-0 c =
    let one = dual_count c.args._kept.now.edge c.args._kept.now.item
    (norm_one c.args._kept.now.item) (image_is rule c.args._kept.now.edge c.requires.own
    c.args._kept.now.item) c.args.duals.now c.requires.duals in
    omega (arith, one)

pub first_number-requires : goal.first_number-requires
first_number-requires c =
    let long = ap length c.as_slice-numbers.ensures ∙ dual_long c.args._kept.now.edge c.requires.own
    c.args._kept.now.item c.requires.suits c.args.duals.now c.index-duals-0.result
    c.requires.duals (only c.args.duals.now c.index-duals-0.result
    (dual_count c.args._kept.now.edge c.args._kept.now.item (norm_one c.args._kept.now.item)
    (image_is rule c.args._kept.now.edge c.requires.own c.args._kept.now.item) c.args.duals.now
    c.requires.duals) c.index-duals-0.is) in
    omega (arith, long)

pub across_behind-requires : goal.across_behind-requires
across_behind-requires c =
    even (length c.other_numbers.result.now) (size c.args._kept.now.item - 1)
    (ap length c.other_numbers.ensures ∙ length-tail c.as_slice-numbers.result.now
    ((size c.args._kept.now.item - 1) + (size c.args._kept.now.item - 1))
    (ap length c.as_slice-numbers.ensures ∙ dual_long c.args._kept.now.edge c.requires.own
    c.args._kept.now.item c.requires.suits c.args.duals.now c.index-duals-0.result
    c.requires.duals (only c.args.duals.now c.index-duals-0.result
    (dual_count c.args._kept.now.edge c.args._kept.now.item (norm_one c.args._kept.now.item)
    (image_is rule c.args._kept.now.edge c.requires.own c.args._kept.now.item) c.args.duals.now
    c.requires.duals) c.index-duals-0.is)))

pub returns : goal.returns
returns c =
    back_made c.args._kept.now.edge c.requires.own c.args._kept.now.item c.args.duals.now
    c.index-duals-0.result c.as_slice-numbers.result.now c.other_numbers.result.now
    (length c.other_numbers.result.now / 2) c.first_number.result c.across_behind.result
    (only c.args.duals.now c.index-duals-0.result
    (dual_count c.args._kept.now.edge c.args._kept.now.item (norm_one c.args._kept.now.item)
    (image_is rule c.args._kept.now.edge c.requires.own c.args._kept.now.item) c.args.duals.now
    c.requires.duals) c.index-duals-0.is) c.as_slice-numbers.ensures c.first_number.ensures
    c.other_numbers.ensures (halves (length c.other_numbers.result.now)
    (size c.args._kept.now.item - 1) (ap length c.other_numbers.ensures
    ∙ length-tail c.as_slice-numbers.result.now
    ((size c.args._kept.now.item - 1) + (size c.args._kept.now.item - 1))
    (ap length c.as_slice-numbers.ensures ∙ dual_long c.args._kept.now.edge c.requires.own
    c.args._kept.now.item c.requires.suits c.args.duals.now c.index-duals-0.result
    c.requires.duals (only c.args.duals.now c.index-duals-0.result
    (dual_count c.args._kept.now.edge c.args._kept.now.item (norm_one c.args._kept.now.item)
    (image_is rule c.args._kept.now.edge c.requires.own c.args._kept.now.item) c.args.duals.now
    c.requires.duals) c.index-duals-0.is)))) c.across_behind.ensures
