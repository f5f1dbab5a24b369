use Rattle.std.proofs.Common.{◌∙◌}
use Rattle.model_catalog.proofs.Counts.{still_counted, recounted_after}
use Rattle.model_catalog.proofs.index.exchange_row.Goals as goal

pub discount_bounds-requires-clause-counted : goal.discount_bounds-requires-clause-counted
discount_bounds-requires-clause-counted c =
    still_counted c.args.number c.requires.rising c.exchange-old.ensures.after
    (c.as_ref-2.ensures.value ∙ c.exchange-old.ensures.before) c.as_ref.ensures.value
    c.args.kept.now.items c.count_bounds.new.kept.items c.requires.counts c.count_bounds.ensures.entries

pub returns-clause-entries : goal.returns-clause-entries
returns-clause-entries c =
    recounted_after c.args.number c.requires.rising c.exchange-old.ensures.after
    (c.as_ref-2.ensures.value ∙ c.exchange-old.ensures.before) c.as_ref.ensures.value
    c.args.kept.now.items c.count_bounds.new.kept.items c.discount_bounds.new.kept.items c.requires.counts
    c.count_bounds.ensures.entries c.discount_bounds.ensures.entries
