use Rattle.std.specs.Prelude.{None, cond, length}
use Rattle.std.proofs.Common.{arith, ap, ◌∙◌}
use Rattle.std.specs.FinMap as finite
use Rattle.aff_core.specs.Address.{address_total}
use Rattle.aff_core.specs.KeyOrder.{address_order, same_key}
use Rattle.item_map.specs.CountLaws.{counted}
use Rattle.item_map.proofs.ChangeLaws.{one_less, some_there}
use Rattle.item_map.proofs.GapLaws.{inserted_again}
use Rattle.item_map.proofs.ordered.Ordered.replace.Goals as goal

pub insert-requires-clause-free : goal.insert-requires-clause-free
insert-requires-clause-free g c =
    let m = c.args.self.now in
    let at = c.args.at.now in
    ap (λ e. finite.get c.take.new.self e.0) c.replace-before.ensures.after
    ∙ ap (λ n. finite.get n at) c.take.ensures.taken
    ∙ finite.get-remove address_total m at at
    ∙ ap (λ b. cond b None (finite.get m at)) (same_key address_order at)

pub insert-requires-clause-fits : goal.insert-requires-clause-fits
insert-requires-clause-fits g c =
    let m = c.args.self.now in
    let at = c.args.at.now in
    omega (
      arith,
      ap (λ n. length (finite.keys n)) c.take.ensures.taken,
      counted (finite.remove m at),
      one_less m at c.requires,
      some_there m at c.requires,
      counted m,
      c.len-len.ensures,
      c.len-len.type_inv,
    )

pub returns-clause-after : goal.returns-clause-after
returns-clause-after g c =
    c.insert.ensures
    ∙ (λ i. finite.insert (c.take.ensures.taken i) (c.replace-before.ensures.after i).0
    (c.replace-before.ensures.after i).1)
    ∙ inserted_again c.args.self.now c.args.at.now c.args.value
