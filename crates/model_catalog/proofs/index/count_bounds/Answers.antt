use Rattle.std.proofs.Common.{sym, refl}
use Rattle.model_catalog.proofs.Counts.{bounds_counted, bounds_length, bounds_room}
use Rattle.model_catalog.proofs.index.count_bounds.Goals as goal

pub returns-in_default-clause-entries : goal.returns-in_default-clause-entries
returns-in_default-clause-entries c = λ n. sym (c.in_default.ensures n)

pub exchange-requires-clause-room : goal.exchange-requires-clause-room
exchange-requires-clause-room c = λ some none. bounds_room c.in-Some.ensures none

pub returns-clause-count : goal.returns-clause-count
returns-clause-count c =
    bounds_length c.in-Some.ensures _ c.exchange.ensures.after c.requires.rising

pub returns-clause-entries : goal.returns-clause-entries
returns-clause-entries c =
    bounds_counted c.in-Some.ensures _ c.exchange.ensures.after refl refl refl refl
