use Rattle.std.proofs.Common.{◌∙◌, ap, pos}
use Rattle.std.proofs.lemmas.Int.{to_z_pos}
use Rattle.ratio_core.proofs.Kept.{kept_den, kept_fits}
use mir.Syntax.{w128}
use Rattle.ratio_core.proofs.fraction.Ratio.den.Goals as goal

pub returns-clause-value : goal.returns-clause-value
returns-clause-value c =
    to_z_pos w128 _ c.self.invariant.den ∙ ap pos (kept_den _ _ _ c.self.view_is c.self.invariant)

pub returns-clause-fits : goal.returns-clause-fits
returns-clause-fits c = kept_fits _ _ _ c.self.view_is c.self.invariant
