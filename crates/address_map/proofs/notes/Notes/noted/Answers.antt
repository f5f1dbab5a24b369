use Rattle.std.proofs.Common.{ap, ◌∙◌}
use Rattle.std.specs.FinMap as finite
use Rattle.address_map.proofs.notes.Notes.noted.Goals as goal

pub returns : goal.returns
returns c = c.get.ensures ∙ ap (λ m. finite.get m c.args.var.now) c.self.view_is
