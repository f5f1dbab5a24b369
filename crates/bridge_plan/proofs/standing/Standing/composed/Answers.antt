use Rattle.std.proofs.Common.{◌≡◌, ap, ◌∙◌}
use Rattle.std.specs.Prelude.{IsTrue}
use Rattle.std.specs.FinMap as finite
use Rattle.std.proofs.lemmas.List.Elements.{All-weaker}
use Rattle.aff_core.specs.Arithmetic.{expression_at}
use Rattle.aff_core.specs.Function.{terms_of}
use Rattle.fresh_bridging.specs.Entries.{function_in}
use Rattle.bridge_plan.proofs.Agreeing.{exact_alike}
use Rattle.bridge_plan.proofs.Made.{made_for}
use Rattle.bridge_plan.proofs.standing.Standing.composed.Goals as goal

pub returns-clause-answer : goal.returns-clause-answer
returns-clause-answer c =
    let es = c.self.inside.expressions in
    let m = c.make_functions.new.functions in
    let f = c.args.func.now in
    exact_alike (expression_at m) (function_in c.args.self.now) f c.substitute.result
    (All-weaker (λ t. IsTrue (finite.contains_key m t.0))
    (λ t. expression_at m t.0 ≡ function_in c.args.self.now t.0)
    (λ t h. made_for m es t.0 c.in_ok-make_functions.ensures.stand h
    ∙ ap (λ e. function_in e t.0) c.self.view_is) (terms_of f)
    c.in_ok-make_functions.ensures.each)
    c.substitute.ensures
