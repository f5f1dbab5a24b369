use Rattle.std.proofs.Common.{◌+◌, ◌<◌, ◌∷◌, ◌++◌, ap, arith, drop, length, sym, ◌∙◌}
use Rattle.std.proofs.lemmas.List.{drop_more}
use Rattle.std.specs.Str.{bytes_eq}
use Rattle.indexmap.specs.IndexMap.{insert_entry}
use Rattle.named_aff.proofs.Apart.{inserted_next}
use Rattle.named_aff.specs.Entries.{terms_in}
use Rattle.named_aff.proofs.sum.coefficients_of.Goals as goal

pub loop-term-preserved : goal.loop-term-preserved
loop-term-preserved c =
    let within : c.loop-term.term-index < length c.args.terms.now = omega arith in
    let more = drop (c.loop-term.term-index + 1) c.args.terms.now in
    ap (λ es. terms_in es ++ more) c.in_ok-insert.ensures.entries
    ∙ ap (λ name. terms_in (insert_entry bytes_eq c.loop-term.coefficients.entries name
    c.term-item.result.coefficient) ++ more) c.in_ok-copy.ensures
    ∙ inserted_next c.loop-term.coefficients.entries c.term-item.result more c.args.terms.now
    (ap (λ t. terms_in c.loop-term.coefficients.entries ++ t ∷ more) c.term-item.is
    ∙ ap (λ ts. terms_in c.loop-term.coefficients.entries ++ ts)
    (sym (drop_more c.args.terms.now c.loop-term.term-index c.term-item.result within))
    ∙ c.loop-term.invariant) c.requires
