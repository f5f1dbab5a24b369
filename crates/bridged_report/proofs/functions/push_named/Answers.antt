use Rattle.std.proofs.Common.{◌∙◌, ◌++◌, ap, sym}
use Rattle.std.proofs.lemmas.List.{nil_from_length}
use Rattle.std.proofs.lemmas.Result.{on_ok_weaker}
use Rattle.ratio_core.specs.Text.{text_of}
use Rattle.bridged_report.proofs.Pushes.{function_text_alone, pushed_function}
use Rattle.bridged_report.proofs.functions.push_named.Goals as goal

pub returns-in-None : goal.returns-in-None
returns-in-None c =
    let text = function_text_alone c.args.model.now.model c.args.function.now
    (sym c.terms.ensures.all ∙ nil_from_length _ c.in-None.ensures.cases) in
    on_ok_weaker c.push_ratio.result (λ e. e ∙ ap (λ q. c.args.draft.now ++ text_of q)
    c.constant-constant.ensures ∙ ap (λ t. c.args.draft.now ++ t) (sym text))
    c.push_ratio.ensures

pub returns-in_ok-push_further_terms-in-Some : goal.returns-in_ok-push_further_terms-in-Some
returns-in_ok-push_further_terms-in-Some c =
    let first = c.in-Some.first.now in
    on_ok_weaker c.push_further_constant.result (λ last. pushed_function c.args.model.now.model
    c.args.function.now first c.in-Some.rest.now c.constant-constant.result c.args.draft.now
    (sym c.terms.ensures.all ∙ c.in-Some.ensures.cases.0) c.constant-constant.ensures
    c.in_ok-push_term-in-Some.ensures c.in_ok-push_further_terms-in-Some.ensures last)
    c.push_further_constant.ensures
