use Rattle.std.specs.Prelude.{◌≡◌, ◌≤◌, ◌<◌, ◌+◌, ◌^◌, length}
use Rattle.std.proofs.Common.{sym, ap, subst, ◌∙◌}
use Rattle.std.proofs.lemmas.Option.{none-some}
use Rattle.std.specs.List.{insert}
use Rattle.std.proofs.lemmas.List.{length-map}
use Rattle.std.specs.FinMap as finite
use Rattle.item_map.proofs.GapLaws.{entries_kept, made_map, made_rise}
use Rattle.item_map.proofs.ordered.Ordered.insert.Goals as goal
use Rattle.item_map.proofs.ordered.Ordered.insert.Goals.{After-insert}

pub unreachable-requires : goal.unreachable-requires
unreachable-requires g c =
    none-some _ (sym (ap (λ f. finite.get c.args.self.now f.item.0) c.deref.ensures
    ∙ c.requires.free) ∙ c.in_default.ensures.found c.args.room.value.item)

pub insert-requires : goal.insert-requires
insert-requires g c =
    let mine : c.self.inside.entries ≡ finite.entries c.args.self.now =
    sym (entries_kept c.self.inside.entries c.self.invariant) ∙ ap finite.entries c.self.view_is in
    record {
      in_range = subst (λ es. c.in-Err.n ≤ length es) (sym mine) c.in-Err.ensures.in_range;
      fits = subst (λ k. k + 1 < 2 ^ 64)
          (length-map (finite.entries c.args.self.now) (λ e. e.0) ∙ ap length (sym mine))
          c.requires.fits;
    }

inserted : (g : _) (c : After-insert g) → c.insert.new.self
    ≡ finite.entries (finite.insert c.args.self.now c.args.room.value.item.0 c.args.room.value.item.1)
inserted g c =
    let m = c.args.self.now in
    let entry = c.args.room.value.item in
    let mine : c.self.inside.entries ≡ finite.entries c.args.self.now =
    sym (entries_kept c.self.inside.entries c.self.invariant) ∙ ap finite.entries c.self.view_is in
    c.insert.ensures ∙ ap (λ es. insert es c.in-Err.n entry) mine
    ∙ ap (λ f. insert (finite.entries m) c.in-Err.n (f.item.0, entry.1)) (sym c.deref.ensures)
    ∙ sym (c.in-Err.ensures.given entry.1)
    ∙ ap (λ f. finite.entries (finite.insert m f.item.0 entry.1)) c.deref.ensures

pub invariant_of-self : goal.invariant_of-self
invariant_of-self g c =
    made_rise (finite.insert c.args.self.now c.args.room.value.item.0 c.args.room.value.item.1) _
    (inserted g (goal.at.invariant_of-self g c).After-insert)

pub returns : goal.returns
returns g c =
    made_map (finite.insert c.args.self.now c.args.room.value.item.0 c.args.room.value.item.1) _
    (inserted g (goal.at.returns g c).After-insert)
