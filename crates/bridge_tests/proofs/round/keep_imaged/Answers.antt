use Rattle.std.proofs.Common.{IsSomeAnd, refl, subst, sym, ◌≡◌}
use Rattle.bridge_tests.proofs.round.keep_imaged.Goals as goal

pub back-requires : goal.back-requires
back-requires g c = record {
  item = c.args.item;
  kept = c.in_ok-hold.ensures;
  suits = c.requires.suits;
  no_group = c.is_row-row.ensures.group c.if-row.true;
  no_objective = c.is_row-row.ensures.objective c.if-row.true;
  image_is = c.requires.image;
}

pub returns : goal.returns
returns g c =
    subst (λ o. IsSomeAnd o (λ kept. kept.edge ≡ c.args.edge)) (sym c.in_ok-hold.ensures) refl
