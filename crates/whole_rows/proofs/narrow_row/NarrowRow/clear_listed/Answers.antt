use Rattle.std.proofs.Common.{◌≡◌, ◌∙◌, ap, length, refl, subst, sym}
use Rattle.std.proofs.lemmas.List.{with_items_is}
use Rattle.whole_rows.specs.Listed.{AreZeros, ListsNonzeros}
use Rattle.whole_rows.specs.Rows.{width_of}
use Rattle.whole_rows.proofs.ClearingSteps.{zeros_covered, zeros_within}
use Rattle.whole_rows.proofs.CoverSteps.{long_kept}
use Rattle.whole_rows.proofs.narrow_row.NarrowRow.clear_listed.Goals as goal
use Rattle.whole_rows.proofs.narrow_row.NarrowRow.clear_listed.Goals.{After-clear_columns}

long_lem : (c : After-clear_columns) → length c.clear_columns.new.numbers ≡ width_of c.args.self.now
long_lem c = c.clear_columns.auto.numbers ∙ ap length c.deref_mut.ensures.value

pub clear_columns-requires : goal.clear_columns-requires
clear_columns-requires c =
    subst (ListsNonzeros c.args.columns.now) (sym c.deref_mut.ensures.value) c.requires

pub invariant_of-self-clause-within : goal.invariant_of-self-clause-within
invariant_of-self-clause-within c =
    zeros_within c.args.self.now _ (subst (λ l. AreZeros l)
    (sym (with_items_is c.args.self.now.numbers c.clear_columns.new.numbers
    (c.clear_columns.auto.numbers ∙ c.deref_mut.ensures.len))) c.clear_columns.ensures)

pub invariant_of-self-clause-covers : goal.invariant_of-self-clause-covers
invariant_of-self-clause-covers c =
    let row = c.args.self.now in
    let items_are = with_items_is row.numbers c.clear_columns.new.numbers
    (c.clear_columns.auto.numbers ∙ c.deref_mut.ensures.len) in
    zeros_covered row.marks.items row.numbers.items _ row.covers
    (ap length items_are ∙ long_lem (goal.at.invariant_of-self-clause-covers c).After-clear_columns)
    (subst (λ l. AreZeros l) (sym items_are) c.clear_columns.ensures)

pub invariant_of-self-clause-marks_long : goal.invariant_of-self-clause-marks_long
invariant_of-self-clause-marks_long c =
    let row = c.args.self.now in
    long_kept row _ _ refl (ap length (with_items_is row.numbers c.clear_columns.new.numbers
    (c.clear_columns.auto.numbers ∙ c.deref_mut.ensures.len))
    ∙ long_lem (goal.at.invariant_of-self-clause-marks_long c).After-clear_columns)

pub returns-clause-zeros : goal.returns-clause-zeros
returns-clause-zeros c =
    subst (λ l. AreZeros l) (sym (with_items_is c.args.self.now.numbers c.clear_columns.new.numbers
    (c.clear_columns.auto.numbers ∙ c.deref_mut.ensures.len))) c.clear_columns.ensures
