use Rattle.std.proofs.Common.{◌≡◌, ℕ, Option, sym, ap, subst}
use Rattle.std.specs.Option.{option_copied, option_map}
use Rattle.numbered_list.specs.Numbered.{find}
use Rattle.user_model.specs.declared.row.Row.{Row}
use Rattle.model_catalog.specs.Index.{counted, variable_number}
use Rattle.model_catalog.proofs.Counts.{missing_counted}
use Rattle.model_catalog.proofs.index.bounds_of.Goals as goal

pub returns-in_default : goal.returns-in_default
returns-in_default c =
    subst (λ (o : Option Row). (n : ℕ) → option_map (counted o)
    (find variable_number n c.args.kept.now.items) ≡ find variable_number n c.args.kept.now.items)
    (sym (ap option_copied c.in_ok-row.was))
    (missing_counted c.in_ok-row.row.now c.in_ok-number.number c.args.kept.now.items
    c.in_ok-number.ensures (sym c.in_default.ensures))
