use Rattle.std.proofs.Common.{◌++◌, ap, ◌∙◌}
use Rattle.leaf_update.proofs.OtherSteps.{leaf_keys}
use Rattle.leaf_update.proofs.others.add_variables.Goals as goal

pub returns-in_ok-extend_from_slice : goal.returns-in_ok-extend_from_slice
returns-in_ok-extend_from_slice c =
    c.in_ok-extend_from_slice.ensures.items
    ∙ ap (λ vs. c.args.put.now.items ++ vs)
    (c.as_slice.ensures ∙ leaf_keys c.args.leaf.now c.in-Group.vars c.in-Group.is)
