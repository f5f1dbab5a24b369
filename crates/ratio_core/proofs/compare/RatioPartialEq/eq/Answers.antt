use Rattle.std.proofs.Common.{◌∙◌, ap, ap₂, eqb, ne_eqb, of_z, sym, to_z, to_z-of_z, ◌≡◌}
use Rattle.ratio_core.proofs.Compared.{eq_by_den, not_eq_by_num}
use Rattle.ratio_core.proofs.compare.RatioPartialEq.eq.Goals as goal
use mir.Syntax.{w128}

pub returns-then-num : goal.returns-then-num
returns-then-num c =
    let first : c.num.result ≡ c.num-2.result =
    sym (to_z-of_z {w = w128} (record { sfits = c.num.type_inv })) ∙ ap (to_z w128)
    c.if-num.true ∙ to_z-of_z {w = w128} (record { sfits = c.num-2.type_inv }) in
    ap₂ eqb c.over.ensures.value c.over-then-num.ensures.value
    ∙ eq_by_den c.args.self.now c.args.other.now (sym c.num.ensures.value ∙ first
    ∙ c.num-2.ensures.value)

pub returns-else-num : goal.returns-else-num
returns-else-num c =
    ne_eqb _ _ c.if-num.false
    ∙ not_eq_by_num c.args.self.now c.args.other.now
    (λ e. c.if-num.false (ap (of_z w128) (c.num.ensures.value ∙ e ∙ sym c.num-2.ensures.value)))
