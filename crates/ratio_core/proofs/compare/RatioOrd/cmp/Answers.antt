use Rattle.std.proofs.Common.{◌∙◌, ap₂, sym, to_z-of_z}
use Rattle.std.specs.Ordering.{int_cmp}
use mir.Syntax.{w128}
use Rattle.ratio_core.proofs.Crossed.{cmp_of_numerators}
use Rattle.ratio_core.proofs.compare.RatioOrd.cmp.Goals as goal

pub returns-then-over : goal.returns-then-over
returns-then-over c =
    c.cmp_numerators.ensures
    ∙ ap₂ int_cmp
    (to_z-of_z {w = w128} (record { sfits = c.num.type_inv }) ∙ c.num.ensures.value)
    (to_z-of_z {w = w128} (record {
      sfits = c.num-then-over.type_inv;
    }) ∙ c.num-then-over.ensures.value)
    ∙ cmp_of_numerators c.args.self.now c.args.other.now (sym c.over.ensures.value ∙ c.if-over.true
    ∙ c.over-2.ensures.value)
