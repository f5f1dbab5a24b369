use Rattle.std.proofs.Common.{length}
use Rattle.mapped_model.proofs.EditSteps.{affine_vector, mapped_is, size_of, unmapped}
use Rattle.mapped_model.proofs.edits.mapped_function.Goals as goal

pub unreachable-requires : goal.unreachable-requires
unreachable-requires c =
    affine_vector c.args.row.now.func c.requires.vector c.in_default.not-AffineVec

pub forward-requires : goal.forward-requires
forward-requires c =
    size_of c.args.map.now c.args.row.now c.in-AffineVec.fs c.in-AffineVec.is
    (length c.args.map.now) c.requires.size

pub returns-in-Ok : goal.returns-in-Ok
returns-in-Ok c =
    mapped_is c.args.map.now c.args.row.now c.in-AffineVec.fs c.in-AffineVec.is c.in-Ok.mapped
    c.in-Ok.ensures.0 c.in-Ok.ensures.1

pub returns-in-Err-Overflow : goal.returns-in-Err-Overflow
returns-in-Err-Overflow c =
    let unfit = rw c.in-Err-Overflow.field-0-is at c.in-Err-Overflow.ensures in
    unmapped c.args.map.now c.args.row.now c.in-AffineVec.fs c.in-AffineVec.is unfit
