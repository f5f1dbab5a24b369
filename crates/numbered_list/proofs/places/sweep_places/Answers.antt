use Rattle.std.proofs.Common.{rules}
use Rattle.std.proofs.lemmas.List.Elements.{filter_from_retain}
use Rattle.numbered_list.specs.Listed.{has_item}
use Rattle.numbered_list.proofs.places.sweep_places.Goals as goal

pub returns-clause-after : goal.returns-clause-after
returns-clause-after g c =
    filter_from_retain _ has_item (λ f x b f' called. search rules) _ _ _
    c.retain.ensures.filtered
