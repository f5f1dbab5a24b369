use Rattle.std.proofs.Common.{◌∙◌}
use Rattle.map_file.proofs.PlaceSteps.{place_found}
use Rattle.map_file.proofs.reader.Reader.place.Goals as goal

pub returns-clause-within : goal.returns-clause-within
returns-clause-within c =
    place_found c.args.self.now.maps c.in_ok-name.name.now c.copied.result
    (c.copied.ensures ∙ c.get.ensures.value ∙ c.requires.places c.in_ok-name.name.now)
