use Rattle.std.proofs.Common.{◌≡◌, ap, ap₂, sym, subst, ◌∙◌}
use Rattle.aff_core.specs.Function.{function_of}
use Rattle.leaf_model.specs.ReadThrough.{named}
use Rattle.std_form.specs.NameLaws.{NamesNamed}
use Rattle.leaf_update.proofs.IndexLaws.{names_made, read_again}
use Rattle.leaf_update.proofs.indexed.by_index.Goals as goal

pub returns-clause-same : goal.returns-clause-same
returns-clause-same c =
    let indices = c.args.map.now.vars.indices in
    let w = c.in_ok-terms.ensures in
    let made : c.in_ok-made.made ≡ function_of c.in_ok-terms.terms.items c.args.func.now.constant =
    c.in_ok-made.ensures ∙ ap₂ function_of c.as_slice.ensures.value c.constant.ensures in
    ap (named indices) made ∙ read_again indices w.one_to_one c.args.func.now c.requires
    c.in_ok-terms.terms.items w.permutation w.rising

pub returns-clause-names : goal.returns-clause-names
returns-clause-names c =
    let indices = c.args.map.now.vars.indices in
    let w = c.in_ok-terms.ensures in
    let made : c.in_ok-made.made ≡ function_of c.in_ok-terms.terms.items c.args.func.now.constant =
    c.in_ok-made.ensures ∙ ap₂ function_of c.as_slice.ensures.value c.constant.ensures in
    subst (NamesNamed indices) (sym made) (names_made indices w.one_to_one c.args.func.now
    c.requires c.in_ok-terms.terms.items w.permutation w.rising)
