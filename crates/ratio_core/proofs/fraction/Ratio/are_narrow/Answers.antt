use Rattle.ratio_core.proofs.NarrowLaws.{narrow_by_bits}
use Rattle.ratio_core.proofs.fraction.Ratio.are_narrow.Goals as goal

pub returns : goal.returns
returns c =
    narrow_by_bits c.args.self.now c.args.other.now _ _ _ _ c.size.ensures.value
    c.size-2.ensures.value c.over.ensures.value c.over-2.ensures.value
