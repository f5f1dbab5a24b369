use Rattle.std.proofs.Common.{arith, rules}
use Rattle.std.proofs.lemmas.Fn.{always_returns_same}
use Rattle.numbered_list.specs.PlaceLaws.{past_last, searched}
use Rattle.numbered_list.proofs.search.place_of.Goals as goal

pub returns-then-number : goal.returns-then-number
returns-then-number g c =
    let lt = c.if-number.true in
    past_last g.X.HasNumber.number_of c.args.number c.args.items.now c.last-item.result c.requires
    c.last-item.is (omega (arith, lt, c.number.ensures))

pub returns : goal.returns
returns g c =
    let number_of = g.X.HasNumber.number_of in
    let by_number = c.binary_search_by_key.ensures.position number_of
    (always_returns_same _ _ _ (λ a r f called. search rules)) in
    searched number_of c.args.number c.args.items.now _ c.requires
    c.binary_search_by_key.ensures.bound by_number
