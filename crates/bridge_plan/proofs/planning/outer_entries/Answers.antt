use Rattle.std.proofs.Common.{◌≡◌, ◌++◌, ◌+◌, ap, sym, subst, ◌∙◌, drop}
use Rattle.std.specs.Prelude.{true}
use Rattle.std.specs.List.{list_all}
use Rattle.std.proofs.lemmas.List.{drop_all}
use Rattle.map_laws.specs.LoopLaws.{next_item}
use Rattle.item_core.specs.Item.{variables_of}
use Rattle.fresh_bridging.specs.Entries.{put_into, put_into_fits}
use Rattle.bridge_plan.proofs.Left.{passed_all, passed_next}
use Rattle.bridge_plan.proofs.Outer.{all_outer, outer, with_component, without_component}
use Rattle.bridge_plan.proofs.planning.outer_entries.Goals.{in-Some+in_ok-push, in_default+in-Bridged-1, in_default+in-Kept-1}
use Rattle.bridge_plan.proofs.planning.outer_entries.Goals as goal

pub loop-i-preserved : goal.loop-i-preserved
loop-i-preserved c =
    let inner = c.args.standing.now in
    let vars = variables_of c.args.body.now in
    let exprs = c.args.exprs.now in
    let l = c.loop-i in
    let x = c.index-exprs-i.result in
    let rest = drop (l.i + 1) exprs in
    let next = next_item exprs exprs l.i x (λ i. exprs) c.index-exprs-i.is c.loop-i-test.true in
    let made = c.in_ok-expression.expression in
    let fits : put_into_fits inner x ≡ true =
    subst (λ s. put_into_fits s x ≡ true) l.invariant.2 c.in_ok-expression.ensures.answer.0 in
    let is : made ≡ put_into inner x =
    c.in_ok-expression.ensures.answer.1 ∙ ap (λ s. put_into s x) l.invariant.2 in (
      passed_next (put_into_fits inner) (list_all (put_into_fits inner) exprs) (drop l.i exprs) rest
          x l.invariant.0 next fits,
      elim c.match-variable_at.branch [
        | in-Some+in_ok-push w ↦ with_component inner vars exprs l.entries.items _ l.i x rest
            l.invariant.1 next w.in-Some.component made c.match-variable_at.entries.items
            (sym c.variable_at.ensures ∙ w.in-Some.is) is (ap (λ e. e.items) w.entries-is
            ∙ w.in_ok-push.ensures.items)
        | in_default+in-Bridged-1 w ↦ ap (λ e. e.items ++ outer inner (drop (l.i + 1) vars) rest)
            w.entries-is ∙ without_component inner vars exprs l.entries.items _ l.i x rest
            l.invariant.1 next (sym c.variable_at.ensures ∙ w.in_default.is)
        | in_default+in-Kept-1 w ↦ ap (λ e. e.items ++ outer inner (drop (l.i + 1) vars) rest)
            w.entries-is ∙ without_component inner vars exprs l.entries.items _ l.i x rest
            l.invariant.1 next (sym c.variable_at.ensures ∙ w.in_default.is)
      ],
      c.put_into.ensures.same ∙ l.invariant.2,
    )

pub returns-clause-answer : goal.returns-clause-answer
returns-clause-answer c =
    let inner = c.args.standing.now in
    let exprs = c.args.exprs.now in
    let l = c.loop-i in
    let none = drop_all l.i exprs c.loop-i-test.false in (
      passed_all (put_into_fits inner) (list_all (put_into_fits inner) exprs) (drop l.i exprs)
          l.invariant.0 none,
      all_outer inner (variables_of c.args.body.now) exprs l.i l.entries.items _ l.invariant.1 none,
    )
