use Rattle.std.proofs.Common.{sym, ap, ◌∙◌}
use Rattle.std.specs.FinMap as finite
use Rattle.aff_core.specs.Address.{address_total, exact_addresses}
use Rattle.map_laws.specs.MadeLaws.{get_made, one_given}
use Rattle.aff_core.proofs.by_address.ByAddress.put.Goals as goal
use Rattle.aff_core.proofs.by_address.ByAddress.put.Goals.{in-Ok, in-Err}

pub returns-clause-before : goal.returns-clause-before
returns-clause-before g c = elim c.match-insert.branch [
  | in-Ok w ↦ rw w.result-is (w.in-Ok.ensures.old
      ∙ sym (get_made address_total c.self.inside.entries.entries c.args.at)
      ∙ ap (λ m. finite.get m c.args.at) c.self.view_is)
  | in-Err w ↦ rw w.result-is tt
]

pub returns-clause-ok : goal.returns-clause-ok
returns-clause-ok g c = elim c.match-insert.branch [
  | in-Ok w ↦ rw w.result-is (one_given address_total exact_addresses c.self.inside.entries.entries
      c.insert.new.self.entries c.args.at c.args.value w.in-Ok.ensures.updates.0
      ∙ ap (λ m. finite.insert m c.args.at c.args.value) c.self.view_is)
  | in-Err w ↦ rw w.result-is tt
]
