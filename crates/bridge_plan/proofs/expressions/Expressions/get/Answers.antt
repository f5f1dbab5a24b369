use Rattle.std.proofs.Common.{◌≡◌, ◌≤◌, ◌<◌, ap, get_or, length, of_calls, rules, subst, sym, ◌∙◌}
use Rattle.std.specs.Prelude.{not}
use Rattle.std.proofs.lemmas.Fn.{always_returns_same}
use Rattle.fresh_bridging.specs.Entries.{expression_in}
use Rattle.bridge_plan.specs.Stands.{AreByComponent}
use Rattle.bridge_plan.proofs.SortedEntries.{found_next, found_none, is_at, is_before, partitioned, past_all}
use Rattle.bridge_plan.proofs.expressions.Expressions.get.Goals as goal

pub returns-in_default : goal.returns-in_default
returns-in_default c =
    let v = c.args.var.now in
    let es = c.deref.result.now in
    let i = c.partition_point-first.result in
    let sorted = subst AreByComponent (sym c.deref.ensures.value) c.self.invariant in
    let point = c.partition_point-first.ensures.partitioned (is_before v)
    (always_returns_same _ _ _ (λ a r f k. search (rules, of_calls))) (partitioned es v sorted) in
    let same = c.deref-2.ensures.value ∙ sym c.deref.ensures.value in
    let seen = ap (λ es. expression_in es v) (sym (c.deref.ensures.value ∙ c.self.view_is)) in
    seen
    ∙ past_all es v sorted i point (subst (λ l. length l ≤ i) same c.in_default.ensures.lookup.3)

pub returns-then-ne : goal.returns-then-ne
returns-then-ne c =
    let v = c.args.var.now in
    let es = c.deref.result.now in
    let i = c.partition_point-first.result in
    let sorted = subst AreByComponent (sym c.deref.ensures.value) c.self.invariant in
    let point = c.partition_point-first.ensures.partitioned (is_before v)
    (always_returns_same _ _ _ (λ a r f k. search (rules, of_calls))) (partitioned es v sorted) in
    let same = c.deref-2.ensures.value ∙ sym c.deref.ensures.value in
    let seen = ap (λ es. expression_in es v) (sym (c.deref.ensures.value ∙ c.self.view_is)) in
    let e = c.in-Some.entry.now in
    let test = c.ne.ensures ∙ ap (λ x. not (is_at v x)) c.entry.view_is in
    seen ∙ found_none es v sorted i point e
    (subst (λ l. i < length l) same c.in-Some.ensures.lookup.3.0)
    (subst (λ l. e ≡ get_or l i e) same c.in-Some.ensures.lookup.1) c.ne.result test c.if-ne.true

pub returns : goal.returns
returns c =
    let v = c.args.var.now in
    let es = c.deref.result.now in
    let i = c.partition_point-first.result in
    let sorted = subst AreByComponent (sym c.deref.ensures.value) c.self.invariant in
    let point = c.partition_point-first.ensures.partitioned (is_before v)
    (always_returns_same _ _ _ (λ a r f k. search (rules, of_calls))) (partitioned es v sorted) in
    let same = c.deref-2.ensures.value ∙ sym c.deref.ensures.value in
    let seen = ap (λ es. expression_in es v) (sym (c.deref.ensures.value ∙ c.self.view_is)) in
    let e = c.in-Some.entry.now in
    let test = c.ne.ensures ∙ ap (λ x. not (is_at v x)) c.entry.view_is in
    seen ∙ found_next es v sorted i point e
    (subst (λ l. i < length l) same c.in-Some.ensures.lookup.3.0)
    (subst (λ l. e ≡ get_or l i e) same c.in-Some.ensures.lookup.1) c.ne.result test c.if-ne.false
    ∙ ap (λ x. x.expression) (sym c.entry.view_is)
