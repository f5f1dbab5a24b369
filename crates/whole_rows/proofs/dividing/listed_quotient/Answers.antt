use Rattle.std.proofs.Common.{subst₂, sym, unsigned_abs, w64}
use Rattle.std.proofs.lemmas.Int.{to_z-of_z}
use Rattle.std.specs.Int.{◌∣◌}
use Rattle.whole_rows.proofs.dividing.listed_quotient.Goals as goal

pub quotient-requires-clause-exact : goal.quotient-requires-clause-exact
quotient-requires-clause-exact c =
    subst₂ (λ x y. unsigned_abs x ∣ unsigned_abs y)
    (sym (to_z-of_z w64 c.args.by c.ranges.by)) (sym (to_z-of_z w64 c.args.a c.ranges.a))
    c.requires.exact
