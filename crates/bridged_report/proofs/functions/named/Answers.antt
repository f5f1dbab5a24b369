use Rattle.std.proofs.Common.{◌∙◌, ap, sym, subst}
use Rattle.std.specs.Prelude.{filter_map}
use Rattle.aff_core.specs.Address.{address_cmp}
use Rattle.aff_core.specs.Function.{terms_of}
use Rattle.aff_core.specs.Rising.{HasDistinctKeys}
use Rattle.bridged_report.specs.Indexed.{term_in}
use Rattle.bridged_report.proofs.Naming.{distinct_terms}
use Rattle.bridged_report.proofs.functions.named.Goals as goal

pub gather-requires : goal.gather-requires
gather-requires c =
    let indices = c.args.places.now.vars.indices in
    subst (HasDistinctKeys address_cmp) (sym (c.deref.ensures.value
    ∙ (c.in_ok-terms.ensures ∙ ap (filter_map (term_in indices)) c.terms.ensures.all)))
    (distinct_terms indices (terms_of c.args.func.now) c.terms.ensures.rising)
