use Rattle.mapped_model.proofs.Pairs.{AreRead}
use Rattle.mapped_model.proofs.maps.set_maps.Given as goal

abbrev pub invariant-loop-text : goal.invariant-loop-text
invariant-loop-text l = AreRead l.file.maps l.text-index l.maps.items
