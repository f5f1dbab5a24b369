use Rattle.std.proofs.Common.{◌∙◌, ◌<◌, ◌≤◌, FitsSigned, ap, length, rules, of_z, subst, subst₂, sym, to_z, unsigned_abs, w64}
use Rattle.std.proofs.lemmas.Int.{to_z-of_z}
use Rattle.std.proofs.lemmas.List.{with_items_is}
use Rattle.whole_rows.specs.ColumnMarks.{MarksCover}
use Rattle.whole_rows.specs.Numerators.{AreNumeratorsWithin}
use Rattle.whole_rows.proofs.CoverSteps.{copied_numerators, long_kept}
use Rattle.whole_rows.proofs.DivisionSteps.{from_item}
use Rattle.whole_rows.specs.Rows.{numerator_of}
use Rattle.whole_rows.proofs.narrow_row.NarrowRow.copy.Goals as goal

pub invariant_of-self-clause-within : goal.invariant_of-self-clause-within
invariant_of-self-clause-within c =
    let row = c.args.row.now in
    let side = to_z w64 (of_z w64 c.numerator-self.result) in
    let side_fits : FitsSigned w64 c.numerator-self.result = search rules in
    subst (λ xs. AreNumeratorsWithin row.bound xs side)
    (sym (with_items_is c.args.self.now.numbers c.copy_marked.new.numbers
    (c.copy_marked.auto.numbers ∙ c.deref_mut.ensures.len)))
    (record {
      sizes = from_item (λ z. unsigned_abs z ≤ row.bound) c.copy_marked.new.numbers side
          (λ j b. subst (λ z. unsigned_abs z ≤ row.bound)
          (sym (c.copy_marked.ensures.made.made j (subst (λ n. j < n) c.copy_marked.auto.numbers b)))
          (row.within.sizes j))
          (subst (λ z. unsigned_abs z ≤ row.bound)
          (sym (to_z-of_z w64 c.numerator-self.result side_fits ∙ c.numerator-self.ensures))
          (row.within.sizes c.len.result));
    })

pub invariant_of-self-clause-covers : goal.invariant_of-self-clause-covers
invariant_of-self-clause-covers c =
    subst₂ MarksCover
    (sym (with_items_is c.args.self.now.marks c.copy_marked.new.marks
    (c.copy_marked.auto.marks ∙ c.deref_mut-2.ensures.len)))
    (sym (with_items_is c.args.self.now.numbers c.copy_marked.new.numbers
    (c.copy_marked.auto.numbers ∙ c.deref_mut.ensures.len)))
    c.copy_marked.ensures.covers

pub invariant_of-self-clause-marks_long : goal.invariant_of-self-clause-marks_long
invariant_of-self-clause-marks_long c =
    let row = c.args.self.now in
    long_kept row _ _ (ap length (with_items_is row.marks c.copy_marked.new.marks
    (c.copy_marked.auto.marks ∙ c.deref_mut-2.ensures.len))
    ∙ c.copy_marked.auto.marks ∙ ap length c.deref_mut-2.ensures.value)
    (ap length (with_items_is row.numbers c.copy_marked.new.numbers
    (c.copy_marked.auto.numbers ∙ c.deref_mut.ensures.len))
    ∙ c.copy_marked.auto.numbers ∙ ap length c.deref_mut.ensures.value)

pub returns-clause-numerators : goal.returns-clause-numerators
returns-clause-numerators c = λ j b.
    let row = c.args.self.now in
    let side_fits : FitsSigned w64 c.numerator-self.result = search rules in
    copied_numerators c.args.row.now c.deref_mut.result.now c.copy_marked.new.numbers _
    (to_z w64 (of_z w64 c.numerator-self.result))
    (with_items_is row.numbers c.copy_marked.new.numbers
    (c.copy_marked.auto.numbers ∙ c.deref_mut.ensures.len))
    c.copy_marked.ensures.made
    (to_z-of_z w64 c.numerator-self.result side_fits ∙ c.numerator-self.ensures
    ∙ ap (numerator_of c.args.row.now) (c.len.ensures ∙ row.numbers.ok.0 ∙ sym (ap length c.deref_mut.ensures.value)))
    j (subst (λ n. j ≤ n) (sym (ap length c.deref_mut.ensures.value)) b)
