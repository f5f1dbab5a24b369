use Rattle.std.proofs.Common.{ap, arith, length, sym, ◌∙◌}
use Rattle.std.specs.List.{list_any}
use Rattle.aff_core.specs.Address.{address_eq}
use Rattle.lazy_bridge.proofs.Names.{keys_name}
use Rattle.lazy_bridge.proofs.Noting.{terms_name}
use Rattle.lazy_bridge.proofs.alike.terms_alike.Goals as goal

pub returns-then-term_count : goal.returns-then-term_count
returns-then-term_count c = λ t v.
    let ts = c.terms.result.now in
    let us = c.terms-then-term_count.result.now in
    let of_ts = c.terms.ensures.all in
    let of_us = c.terms-then-term_count.ensures.all in
    sym (ap (list_any (λ x. address_eq v x.0)) of_ts ∙ terms_name c.args.one.now v)
    ∙ keys_name ts us
    (omega (
      arith,
      ap length of_ts,
      ap length of_us,
      c.term_count.ensures,
      c.term_count-2.ensures,
      c.if-term_count.true,
    )) (sym c.keys_alike.ensures ∙ t) v
    ∙ ap (list_any (λ x. address_eq v x.0)) of_us ∙ terms_name c.args.other.now v
