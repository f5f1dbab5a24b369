use Rattle.std.proofs.Common.{Err, ◌∙◌}
use Rattle.mapped_model.proofs.Pairs.{lines_enough, not_fit, not_inverse, pair_as, read_right, told_bad}
use Rattle.mapped_model.proofs.maps.map_of.Goals as goal
use Rattle.set_map.specs.Answers.{ReadsMatrix}
use Rattle.set_map.specs.declared.fault.MapFault.TheVariants.{NotInverse, Overflow}

pub matrix-requires : goal.matrix-requires
matrix-requires c = lines_enough c.args.text.now c.requires

pub inverse-requires : goal.inverse-requires
inverse-requires c = lines_enough c.args.text.now c.requires

pub read-requires : goal.read-requires
read-requires c =
    pair_as c.args.text.now c.matrix.result.now c.inverse.result.now c.requires c.matrix.ensures
    c.inverse.ensures

pub returns-in-Ok : goal.returns-in-Ok
returns-in-Ok c = (
  read_right c.args.text.now c.matrix.result.now c.inverse.result.now c.matrix.ensures
      c.inverse.ensures c.in-Ok.ensures.1 c.in-Ok.ensures.2,
  c.in-Ok.ensures.0 ∙ c.matrix.ensures,
)

pub returns-in-Err-NotInverse : goal.returns-in-Err-NotInverse
returns-in-Err-NotInverse c =
    let bad : ReadsMatrix c.matrix.result.now c.inverse.result.now (Err NotInverse) =
    rw c.in-Err-NotInverse.field-0-is at c.in-Err-NotInverse.ensures in
    told_bad c.args.text.now c.bad_map.result
    (not_inverse c.args.text.now c.matrix.result.now c.inverse.result.now c.matrix.ensures
    c.inverse.ensures bad.1)
    c.bad_map.ensures

pub returns-in-Err-Overflow : goal.returns-in-Err-Overflow
returns-in-Err-Overflow c =
    let bad : ReadsMatrix c.matrix.result.now c.inverse.result.now (Err Overflow) =
    rw c.in-Err-Overflow.field-0-is at c.in-Err-Overflow.ensures in
    told_bad c.args.text.now c.bad_map-in-Err-Overflow.result
    (not_fit c.args.text.now c.matrix.result.now c.inverse.result.now c.matrix.ensures
    c.inverse.ensures bad)
    c.bad_map-in-Err-Overflow.ensures
