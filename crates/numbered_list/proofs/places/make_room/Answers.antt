use Rattle.std.proofs.Common.{◌∙◌, ap, arith, length, subst, sym}
use Rattle.numbered_list.specs.Changes.{AreChanges, changed_number}
use Rattle.numbered_list.specs.Listed.{has_item, present}
use Rattle.numbered_list.specs.Numbered.{find}
use Rattle.numbered_list.specs.ListedLaws.{AreChanges-filter, length-swept, none-swept, present-swept}
use Rattle.numbered_list.proofs.places.make_room.Goals as goal

pub returns-then-len-capacity-clause-items : goal.returns-then-len-capacity-clause-items
returns-then-len-capacity-clause-items g c =
    ap present c.sweep_places.ensures.after ∙ present-swept c.args.places.now.items

pub returns-then-len-capacity-clause-are : goal.returns-then-len-capacity-clause-are
returns-then-len-capacity-clause-are g c =
    subst (AreChanges g.X.HasNumber.number_of) (sym c.sweep_places.ensures.after)
    (AreChanges-filter g.X.HasNumber.number_of has_item c.args.places.now.items c.requires.are)

pub returns-then-len-capacity-clause-room : goal.returns-then-len-capacity-clause-room
returns-then-len-capacity-clause-room g c =
    omega (
      arith,
      c.sweep_places.new.places.ok.0,
      ap length c.sweep_places.ensures.after,
      length-swept c.args.places.now.items,
      c.sweep_places.ensures.capacity,
      c.requires.room,
    )

pub returns-then-len-capacity-clause-none : goal.returns-then-len-capacity-clause-none
returns-then-len-capacity-clause-none g c = λ n none.
    ap (find changed_number n) c.sweep_places.ensures.after
    ∙ none-swept has_item n c.args.places.now.items none
