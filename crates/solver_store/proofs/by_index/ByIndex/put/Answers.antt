use Rattle.std.proofs.Common.{sym, ap, ◌∙◌}
use Rattle.std.specs.FinMap as finite
use Rattle.std.specs.Cmp.{nat_cmp_total}
use Rattle.std.specs.FinMap.{nat_cmp-IsAntisymmetric}
use Rattle.map_laws.specs.MadeLaws.{get_made, one_given}
use Rattle.solver_store.proofs.by_index.ByIndex.put.Goals as goal
use Rattle.solver_store.proofs.by_index.ByIndex.put.Goals.{in-Ok, in-Err}

pub returns-clause-before : goal.returns-clause-before
returns-clause-before g c = elim c.match-insert.branch [
  | in-Ok w ↦ rw w.result-is (w.in-Ok.ensures.old
      ∙ sym (get_made nat_cmp_total c.self.inside.entries.entries c.args.i)
      ∙ ap (λ m. finite.get m c.args.i) c.self.view_is)
  | in-Err w ↦ rw w.result-is tt
]

pub returns-clause-ok : goal.returns-clause-ok
returns-clause-ok g c = elim c.match-insert.branch [
  | in-Ok w ↦ rw w.result-is (one_given nat_cmp_total nat_cmp-IsAntisymmetric
      c.self.inside.entries.entries c.insert.new.self.entries c.args.i c.args.value
      w.in-Ok.ensures.updates.0 ∙ ap (λ m. finite.insert m c.args.i c.args.value) c.self.view_is)
  | in-Err w ↦ rw w.result-is tt
]
