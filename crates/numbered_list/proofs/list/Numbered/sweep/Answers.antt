use Rattle.std.proofs.Common.{ℕ, List, ◌∙◌, ap, ap₂, arith, length, subst, sym}
use Rattle.numbered_list.specs.Changes.{AreChanges}
use Rattle.numbered_list.specs.Listed.{Listed, has_item, present}
use Rattle.numbered_list.specs.ListedLaws.{AreChanges-filter, length-present, present-swept}
use Rattle.numbered_list.proofs.list.Numbered.sweep.Goals as goal

pub overflow_sub-len : goal.overflow_sub-len
overflow_sub-len g c =
    omega (
      arith,
      c.len.ensures,
      c.self.inside.places.ok.0,
      c.self.invariant.1,
      length-present c.self.inside.places.items,
    )

pub invariant_of-self : goal.invariant_of-self
invariant_of-self g c =
    let cs = c.self.inside.places.items in (
      subst (AreChanges g.X.HasNumber.number_of) (sym c.sweep_places.ensures.after)
          (AreChanges-filter g.X.HasNumber.number_of has_item cs c.self.invariant.0),
      c.self.invariant.1
          ∙ ap length (sym (ap present c.sweep_places.ensures.after ∙ present-swept cs)),
    )

pub returns-then-len-self : goal.returns-then-len-self
returns-then-len-self g c =
    let made : List g.row.X.Denot → ℕ → Listed g.row.X.Denot =
    λ xs n. record { items = xs; room = n } in
    ap₂ made (ap present c.sweep_places.ensures.after
    ∙ present-swept c.self.inside.places.items) c.sweep_places.ensures.capacity
    ∙ c.self.view_is
