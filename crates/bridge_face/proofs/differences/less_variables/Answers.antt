use Rattle.std.proofs.Common.{◌++◌, ◌∷◌, ◌≡◌, ◌<◌, [], arith, sym, ap, subst, ◌∙◌, map, length}
use Rattle.std.proofs.lemmas.List.Elements.{All-get_or}
use Rattle.ratio_core.specs.Rational.{zero_ℚ}
use Rattle.aff_core.specs.Function.{coefficient}
use Rattle.bridge_face.specs.DifferenceLaws.{less, less_each}
use Rattle.bridge_face.specs.Law.{Miss}
use Rattle.bridge_face.specs.ZippedLaws.{zipped_all, zipped_more}
use Rattle.bridge_face.proofs.differences.less_variables.Goals as goal

pub less_variable-requires : goal.less_variable-requires
less_variable-requires c =
    let there : c.loop-n.n < length c.args.vars.now =
    omega (arith, c.loop-n-test.true, c.requires.count) in
    subst (λ f. coefficient f c.index-vars-n.result ≡ zero_ℚ) (sym c.index-funcs-n.is)
    (All-get_or (λ f. coefficient f c.index-vars-n.result ≡ zero_ℚ) c.args.funcs.now c.loop-n.n
    c.index-funcs-n.result c.loop-n-test.true
    (subst (λ v. Miss c.args.funcs.now v) (sym c.index-vars-n.is)
    (All-get_or (λ v. Miss c.args.funcs.now v) c.args.vars.now c.loop-n.n c.index-vars-n.result
    there c.requires.unnamed)))

pub loop-n-preserved : goal.loop-n-preserved
loop-n-preserved c =
    c.in_ok-push.ensures.items
    ∙ ap (λ f. c.loop-n.less.items ++ f ∷ []) c.in_ok-less_variable.ensures
    ∙ zipped_more c.loop-n.n c.args.funcs.now c.args.vars.now c.requires.count
    c.index-funcs-n.result c.index-vars-n.result c.loop-n-test.true c.index-funcs-n.is
    c.index-vars-n.is less c.loop-n.less.items c.loop-n.invariant

pub returns : goal.returns
returns c =
    c.from_vec.ensures ∙ c.loop-n.invariant
    ∙ ap (map less) (zipped_all c.loop-n.n c.args.funcs.now c.args.vars.now c.requires.count
    (omega arith))
    ∙ less_each c.args.funcs.now c.args.vars.now
