use Rattle.std.proofs.Common.{◌∙◌}
use Rattle.set_map.proofs.Told.{told_mapped}
use Rattle.set_map.proofs.mapping.SetMap.forward.Goals as goal

pub returns : goal.returns
returns c =
    told_mapped c.args.self.now c.as_slice.result.now c.args.f.now c.as_slice-2.result.now
    c.mapped.result (c.as_slice.ensures ∙ c.self.view_is) c.as_slice-2.ensures
    c.mapped.ensures
