use Rattle.std.specs.Prelude.{◌≡◌, ◌++◌, OnOk}
use Rattle.std.proofs.Common.{sym, ap, subst, ◌∙◌, append-nil}
use Rattle.std.specs.Option.{option_copied}
use Rattle.touched_items.proofs.Loops.{noted_here, nothing_noted}
use Rattle.touched_items.proofs.found.list_noted.Goals as goal

pub returns-in-Some : goal.returns-in-Some
returns-in-Some c =
    subst (λ l. OnOk c.list_set.result (c.list_set.new.list.items ≡ c.args.list.now.items ++ l))
    (sym (noted_here c.args.map.now.noted c.args.var.now c.in-Some.items.now
    (sym c.noted.ensures ∙ ap option_copied c.in-Some.is)))
    c.list_set.ensures

pub returns-in-None : goal.returns-in-None
returns-in-None c =
    sym (append-nil c.args.list.now.items)
    ∙ ap (λ l. c.args.list.now.items ++ l)
    (sym (nothing_noted c.args.map.now.noted c.args.var.now
    (sym c.noted.ensures ∙ ap option_copied c.in-None.is)))
