use Rattle.std.specs.Prelude.{◌≡◌, None, is_some}
use Rattle.std.proofs.Common.{sym, ap, subst, ◌∙◌}
use Rattle.std.specs.Option.{option_copied}
use Rattle.std.specs.FinMap as finite
use Rattle.address_map.specs.Noted.{IsNotedAt, noted_in, without_item}
use Rattle.address_map.proofs.NotedLaws.{empty_misses, none_noted, noted_then, unnoted}
use Rattle.address_map.proofs.notes.Notes.unnote.Goals as goal
use Rattle.address_map.proofs.notes.Notes.unnote.Goals.{In_default}

missing : (c : In_default) → finite.get (noted_in c.args.self.now c.args.var.now) c.args.item.now ≡ None
missing c =
    let m = c.args.self.now in
    let var = c.args.var.now in
    empty_misses (noted_in m var) c.args.item.now
    (none_noted m var (sym (ap (λ n. finite.get n var) c.self.view_is) ∙ sym c.get.ensures
    ∙ ap option_copied c.in_default.is))

pub returns-in_default-clause-there : goal.returns-in_default-clause-there
returns-in_default-clause-there c =
    sym (ap is_some (missing (goal.at.returns-in_default-clause-there c).In_default))

pub returns-in_default-clause-taken : goal.returns-in_default-clause-taken
returns-in_default-clause-taken c =
    unnoted c.args.self.now c.args.var.now c.args.item.now
    (missing (goal.at.returns-in_default-clause-taken c).In_default)

pub take_items-items-requires : goal.take_items-items-requires
take_items-items-requires c = record {
  there = ap is_some (sym (ap (λ n. finite.get n c.args.var.now) c.self.view_is)
      ∙ sym c.get.ensures ∙ ap option_copied c.in-Some.is);
}

pub returns-clause-there : goal.returns-clause-there
returns-clause-there c =
    c.is_some-was_there.ensures
    ∙ ap is_some (c.remove.ensures.value
    ∙ ap (λ s. finite.get s c.args.item.now) c.take_items-items.ensures.items)

pub returns-clause-taken : goal.returns-clause-taken
returns-clause-taken c =
    let var = c.args.var.now in
    let item = c.args.item.now in
    let same = c.remove.ensures.removed ∙ ap (λ s. without_item s item) c.take_items-items.ensures.items
    in
    noted_then c.args.self.now c.take_items-items.new.self c.put_items.new.self var finite.empty
    (without_item (noted_in c.args.self.now var) item) c.take_items-items.ensures.taken
    (subst (IsNotedAt c.take_items-items.new.self c.put_items.new.self var) same
    c.put_items.ensures)
