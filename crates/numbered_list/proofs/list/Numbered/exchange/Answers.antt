use Rattle.std.proofs.Common.{◌+◌, ◌∙◌, ap, arith, cond, is_some, length, subst, sym}
use Rattle.numbered_list.specs.Listed.{present}
use Rattle.numbered_list.specs.ListedLaws.{Rise-present, counted_is, length-present, some_there}
use Rattle.numbered_list.specs.Numbered.{find}
use Rattle.numbered_list.specs.SetLaws.{length-set_at}
use Rattle.numbered_list.proofs.list.Numbered.exchange.Goals as goal

pub counted-self-inside-requires-clause-fits : goal.counted-self-inside-requires-clause-fits
counted-self-inside-requires-clause-fits g c =
    omega (
      arith,
      c.self.inside.places.ok.0,
      c.self.inside.places.ok.1,
      c.self.inside.places.small,
      c.self.invariant.1,
      length-present c.self.inside.places.items,
    )

pub invariant_of-self : goal.invariant_of-self
invariant_of-self g c =
    let number_of = g.X.HasNumber.number_of in
    let cs = c.self.inside.places.items in
    let after = length-set_at number_of c.args.number c.args.new (present cs)
    (Rise-present number_of cs c.self.invariant.0) in (
      c.exchange_content-old.ensures.are,
      counted_is c.args.new (find number_of c.args.number (present cs)) c.is_some-comes.result
          c.is_some.result (length (present cs)) _ c.counted-self-inside.result
          c.is_some-comes.ensures (c.is_some.ensures
          ∙ ap is_some c.exchange_content-old.ensures.before) after
          (c.counted-self-inside.ensures
          ∙ ap (λ k. k + cond c.is_some-comes.result 1 0) c.self.invariant.1)
          ∙ ap length (sym c.exchange_content-old.ensures.after),
    )

pub returns-clause-rising : goal.returns-clause-rising
returns-clause-rising g c =
    Rise-present g.X.HasNumber.number_of c.exchange_content-old.new.places.items
    c.exchange_content-old.ensures.are
