use Rattle.std.proofs.Common.{FitsSigned, ap, pos, rules, sym, to_z, unsigned_abs, ◌≡◌, ◌∙◌}
use Rattle.std.proofs.lemmas.Int.{to_z-of_z}
use Rattle.std.proofs.lemmas.Option.{IfSome_then}
use mir.Syntax.{w128}
use Rattle.sparse_board.proofs.WholeStartSteps.{whole_is}
use Rattle.sparse_board.proofs.starting.whole.Goals as goal

pub returns : goal.returns
returns c =
    let fits : FitsSigned w128 c.den.result = search rules in
    let one : c.den.result ≡ pos 1 =
    sym (to_z-of_z w128 c.den.result fits) ∙ ap (to_z w128) c.if-den-ne1.false in
    IfSome_then c.over_denominator.result c.over_denominator.ensures (λ n e. (
      whole_is c.args.value.now n (ap unsigned_abs (sym c.den.ensures.value ∙ one)) e.0,
      e.1,
    ))
