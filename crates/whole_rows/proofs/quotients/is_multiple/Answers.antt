use Rattle.std.proofs.Common.{subst}
use Rattle.std.proofs.Math.Nat.{dvd-mul_left}
use Rattle.std.specs.Int.{◌∣◌}
use Rattle.whole_rows.proofs.quotients.is_multiple.Goals as goal

pub returns : goal.returns
returns c t =
    subst (λ n. c.args.by ∣ n) (c.is_product.ensures t)
    (dvd-mul_left c.args.by c.guess_of.result)
