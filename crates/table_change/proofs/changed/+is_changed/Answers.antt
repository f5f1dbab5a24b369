use Rattle.std.proofs.Common.{true, ◌||◌, ◌-◌, ap, sym, ◌∙◌}
use Rattle.std.specs.List.{list_any}
use Rattle.bridge_set.specs.Bridges.{choice_in}
use Rattle.item_core.specs.Edge.{kinds_in}
use Rattle.item_core.specs.declared.edge.Children.{Children}
use Rattle.table_change.specs.ChangedKinds.{is_changed}
use Rattle.table_change.proofs.ChangedSteps.{as_below_by, first_so, next_so, of_one, of_three, of_two, on_no_level, otherwise_by}
use Rattle.table_change.proofs.changed.+is_changed.Goals as goal

pub returns-then-levels-eq0 : goal.returns-then-levels-eq0
returns-then-levels-eq0 t c =
    on_no_level (choice_in c.args.choices.now) (choice_in c.args.others.now) c.args.kind c.args.levels
    c.if-levels-eq0.true

pub returns-then-not-same_choice : goal.returns-then-not-same_choice
returns-then-not-same_choice t c =
    otherwise_by (choice_in c.args.choices.now) (choice_in c.args.others.now) c.args.kind
    c.choice_of-choice.result c.choice_of.result c.choice_of-choice.ensures c.choice_of.ensures
    c.args.levels c.if-levels-eq0.false c.same_choice.result c.same_choice.ensures
    c.if-not-same_choice.true

pub returns-in-None : goal.returns-in-None
returns-in-None t c =
    sym (as_below_by (choice_in c.args.choices.now) (choice_in c.args.others.now) c.args.kind
    c.choice_of-choice.result c.choice_of.result c.choice_of-choice.ensures c.choice_of.ensures
    c.args.levels c.if-levels-eq0.false c.same_choice.result c.same_choice.ensures
    c.if-not-same_choice.false c.led_to.result c.led_to.ensures
    ∙ ap (λ (ch : Children). list_any (is_changed (choice_in c.args.choices.now) (choice_in c.args.others.now) (c.args.levels - 1)) (kinds_in ch)) c.in-None.is)

pub returns-in-One : goal.returns-in-One
returns-in-One t c =
    c.is_changed.ensures
    ∙ sym (of_one (is_changed (choice_in c.args.choices.now) (choice_in c.args.others.now) (c.args.levels - 1))
    c.led_to.result c.in-One.only c.in-One.is)
    ∙ sym (as_below_by (choice_in c.args.choices.now) (choice_in c.args.others.now) c.args.kind
    c.choice_of-choice.result c.choice_of.result c.choice_of-choice.ensures c.choice_of.ensures
    c.args.levels c.if-levels-eq0.false c.same_choice.result c.same_choice.ensures
    c.if-not-same_choice.false c.led_to.result c.led_to.ensures)

pub returns-then-is_changed : goal.returns-then-is_changed
returns-then-is_changed t c =
    let p = (is_changed (choice_in c.args.choices.now) (choice_in c.args.others.now) (c.args.levels - 1)) in
    first_so c.is_changed-in-Two.result (p c.in-Two.first) (p c.in-Two.last)
    c.is_changed-in-Two.ensures c.if-is_changed.true
    ∙ sym (of_two p c.led_to.result c.in-Two.first c.in-Two.last c.in-Two.is)
    ∙ sym (as_below_by (choice_in c.args.choices.now) (choice_in c.args.others.now) c.args.kind
    c.choice_of-choice.result c.choice_of.result c.choice_of-choice.ensures c.choice_of.ensures
    c.args.levels c.if-levels-eq0.false c.same_choice.result c.same_choice.ensures
    c.if-not-same_choice.false c.led_to.result c.led_to.ensures)

pub returns-else-is_changed : goal.returns-else-is_changed
returns-else-is_changed t c =
    let p = (is_changed (choice_in c.args.choices.now) (choice_in c.args.others.now) (c.args.levels - 1)) in
    next_so c.is_changed-in-Two.result c.is_changed-in-Two-2.result (p c.in-Two.first)
    (p c.in-Two.last) c.is_changed-in-Two.ensures c.if-is_changed.false
    c.is_changed-in-Two-2.ensures
    ∙ sym (of_two p c.led_to.result c.in-Two.first c.in-Two.last c.in-Two.is)
    ∙ sym (as_below_by (choice_in c.args.choices.now) (choice_in c.args.others.now) c.args.kind
    c.choice_of-choice.result c.choice_of.result c.choice_of-choice.ensures c.choice_of.ensures
    c.args.levels c.if-levels-eq0.false c.same_choice.result c.same_choice.ensures
    c.if-not-same_choice.false c.led_to.result c.led_to.ensures)

pub returns-then-is_changed-2 : goal.returns-then-is_changed-2
returns-then-is_changed-2 t c =
    let p = (is_changed (choice_in c.args.choices.now) (choice_in c.args.others.now) (c.args.levels - 1)) in
    first_so c.is_changed-in-Three.result (p c.in-Three.first)
    (p c.in-Three.second || p c.in-Three.last) c.is_changed-in-Three.ensures c.if-is_changed-2.true
    ∙ sym (of_three p c.led_to.result c.in-Three.first c.in-Three.second c.in-Three.last
    c.in-Three.is)
    ∙ sym (as_below_by (choice_in c.args.choices.now) (choice_in c.args.others.now) c.args.kind
    c.choice_of-choice.result c.choice_of.result c.choice_of-choice.ensures c.choice_of.ensures
    c.args.levels c.if-levels-eq0.false c.same_choice.result c.same_choice.ensures
    c.if-not-same_choice.false c.led_to.result c.led_to.ensures)

pub returns-then-is_changed-3 : goal.returns-then-is_changed-3
returns-then-is_changed-3 t c =
    let p = (is_changed (choice_in c.args.choices.now) (choice_in c.args.others.now) (c.args.levels - 1)) in
    next_so c.is_changed-in-Three.result true (p c.in-Three.first)
    (p c.in-Three.second || p c.in-Three.last) c.is_changed-in-Three.ensures c.if-is_changed-2.false
    (first_so c.is_changed-in-Three-2.result (p c.in-Three.second) (p c.in-Three.last)
    c.is_changed-in-Three-2.ensures c.if-is_changed-3.true)
    ∙ sym (of_three p c.led_to.result c.in-Three.first c.in-Three.second c.in-Three.last
    c.in-Three.is)
    ∙ sym (as_below_by (choice_in c.args.choices.now) (choice_in c.args.others.now) c.args.kind
    c.choice_of-choice.result c.choice_of.result c.choice_of-choice.ensures c.choice_of.ensures
    c.args.levels c.if-levels-eq0.false c.same_choice.result c.same_choice.ensures
    c.if-not-same_choice.false c.led_to.result c.led_to.ensures)

pub returns-else-is_changed-3 : goal.returns-else-is_changed-3
returns-else-is_changed-3 t c =
    let p = (is_changed (choice_in c.args.choices.now) (choice_in c.args.others.now) (c.args.levels - 1)) in
    next_so c.is_changed-in-Three.result c.is_changed-in-Three-3.result (p c.in-Three.first)
    (p c.in-Three.second || p c.in-Three.last) c.is_changed-in-Three.ensures c.if-is_changed-2.false
    (next_so c.is_changed-in-Three-2.result c.is_changed-in-Three-3.result
    (p c.in-Three.second) (p c.in-Three.last) c.is_changed-in-Three-2.ensures
    c.if-is_changed-3.false c.is_changed-in-Three-3.ensures)
    ∙ sym (of_three p c.led_to.result c.in-Three.first c.in-Three.second c.in-Three.last
    c.in-Three.is)
    ∙ sym (as_below_by (choice_in c.args.choices.now) (choice_in c.args.others.now) c.args.kind
    c.choice_of-choice.result c.choice_of.result c.choice_of-choice.ensures c.choice_of.ensures
    c.args.levels c.if-levels-eq0.false c.same_choice.result c.same_choice.ensures
    c.if-not-same_choice.false c.led_to.result c.led_to.ensures)
