use Rattle.std.proofs.Common.{◌∙◌, ◌∷◌, ◌/◌, ap, ap₂, subst, sym, arith, length}
use Rattle.std.proofs.lemmas.List.{length-drop, length-take-le}
use Rattle.std.specs.Prelude.{◌≡◌}
use Rattle.ratio_core.specs.AnsweredLaws.{exact_as}
use Rattle.rational_laws.specs.Dot.{minus, negated}
use Rattle.bridge_face.specs.BackOf.{AcrossFits, SumsFit, across}
use Rattle.bridges_norm.proofs.duals.across_behind.Goals as goal

pub behind-requires : goal.behind-requires
behind-requires c =
    let half = length c.args.numbers.now / 2 in
    let high = ap length c.from.ensures ∙ length-drop half c.args.numbers.now in
    let low = ap length c.until.ensures ∙ length-take-le half c.args.numbers.now
    (omega (arith, c.requires)) in
    omega (arith, c.requires, high, low)

pub returns : goal.returns
returns c =
    let half = length c.args.numbers.now / 2 in
    let same = ap₂ (λ h l. SumsFit h (negated l)) c.from.ensures c.until.ensures in
    exact_as c.behind.result (SumsFit c.from.result.now (negated c.until.result.now))
    (AcrossFits half c.args.numbers.now)
    (λ d. d ≡ c.args.first ∷ minus c.from.result.now c.until.result.now)
    (λ d. d ≡ c.args.first ∷ across half c.args.numbers.now)
    (λ h. subst (λ T. T) same h) (λ h. subst (λ T. T) (sym same) h)
    (λ d e. e ∙ ap (λ ds. c.args.first ∷ ds) (ap₂ minus c.from.ensures c.until.ensures))
    c.behind.ensures
