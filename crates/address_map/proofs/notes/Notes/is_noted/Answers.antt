use Rattle.std.specs.Prelude.{◌≡◌, None, is_some}
use Rattle.std.proofs.Common.{sym, ap, ◌∙◌}
use Rattle.std.specs.FinMap as finite
use Rattle.std.specs.Option.{option_copied}
use Rattle.address_map.specs.Noted.{noted_in}
use Rattle.address_map.proofs.NotedLaws.{empty_misses, none_noted}
use Rattle.address_map.proofs.notes.Notes.is_noted.Goals as goal
use Rattle.address_map.proofs.notes.Notes.is_noted.Goals.{In-None}

missing : (c : In-None) → finite.get (noted_in c.args.self.now c.args.var.now) c.args.item.now ≡ None
missing c =
    let m = c.args.self.now in
    let var = c.args.var.now in
    empty_misses (noted_in m var) c.args.item.now
    (none_noted m var (sym (ap (λ n. finite.get n var) c.self.view_is) ∙ sym c.get.ensures
    ∙ ap option_copied c.in-None.is))

pub returns-in-None-clause-there : goal.returns-in-None-clause-there
returns-in-None-clause-there c =
    sym (ap is_some (missing (goal.at.returns-in-None-clause-there c).In-None))

pub returns-in-None-clause-free : goal.returns-in-None-clause-free
returns-in-None-clause-free c = λ so. missing (goal.at.returns-in-None-clause-free c).In-None
