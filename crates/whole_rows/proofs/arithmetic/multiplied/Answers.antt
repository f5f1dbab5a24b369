use Rattle.whole_rows.proofs.BitLaws.{multiplied_bits}
use Rattle.whole_rows.proofs.arithmetic.multiplied.Goals as goal

pub returns : goal.returns
returns c =
    multiplied_bits c.args.number c.args.over c.ranges.number c.requires.over c.requires.fits
