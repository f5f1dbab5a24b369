use Rattle.std.specs.Prelude.{◌≡◌, IsSome}
use Rattle.std.proofs.Common.{sym, ap, subst, ◌∙◌}
use Rattle.std.specs.FinMap as finite
use Rattle.address_map.specs.Noted.{IsNotedAt}
use Rattle.address_map.proofs.NotedLaws.{found_noted, put_noted, still_there}
use Rattle.address_map.proofs.notes.Notes.take_items.Goals as goal
use Rattle.address_map.proofs.notes.Notes.take_items.Goals.{After-replace}

now : (c : After-replace) → c.replace.new.self.entries
    ≡ finite.insert c.args.self.now c.args.var.now finite.empty
now c =
    c.replace.ensures.after
    ∙ (λ i. finite.insert (c.self.view_is i) c.args.var.now (c.new.ensures i))

pub returns-clause-items : goal.returns-clause-items
returns-clause-items c =
    sym (found_noted c.args.self.now c.args.var.now c.replace.result
    (sym (c.replace.ensures.before
    ∙ ap (λ m. finite.get m c.args.var.now) c.self.view_is)))

pub returns-clause-taken : goal.returns-clause-taken
returns-clause-taken c =
    subst (λ n. IsNotedAt c.args.self.now n c.args.var.now finite.empty)
    (sym (now (goal.at.returns-clause-taken c).After-replace))
    (put_noted c.args.self.now c.args.var.now finite.empty)

pub returns-clause-there : goal.returns-clause-there
returns-clause-there c =
    subst (λ n. IsSome (finite.get n c.args.var.now))
    (sym (now (goal.at.returns-clause-there c).After-replace))
    (still_there c.args.self.now c.args.var.now finite.empty)
