use Rattle.std.proofs.Common.{Some, ap, sym, ◌∙◌}
use Rattle.std.specs.Option.{option_map}
use Rattle.std.specs.Str.{bytes_eq}
use Rattle.indexmap.specs.IndexMap.{insert_entry}
use Rattle.named_aff.proofs.Linear.{with_term_entries}
use Rattle.named_aff.specs.Entries.{terms_in}
use Rattle.named_aff.proofs.sum.add_term.Goals as goal

pub returns-in_default : goal.returns-in_default
returns-in_default c =
    with_term_entries c.args.coefficients.now.entries c.args.term
    ∙ ap (option_map (λ q. terms_in (insert_entry bytes_eq c.args.coefficients.now.entries
    c.args.term.variable q)))
    (sym c.in_default.ensures)

pub returns : goal.returns
returns c =
    with_term_entries c.args.coefficients.now.entries c.args.term
    ∙ ap (option_map (λ q. terms_in (insert_entry bytes_eq c.args.coefficients.now.entries
    c.args.term.variable q)))
    (sym c.in-Some.ensures)
    ∙ ap (λ es. Some (terms_in es)) (sym c.in_ok-insert.ensures.entries)
