use Rattle.std.proofs.Common.{refl}
use Rattle.model_catalog.proofs.Counts.{bounds_discounted, bounds_fit, bounds_length, bounds_room}
use Rattle.model_catalog.proofs.index.discount_bounds.Goals as goal

pub overflow_sub-less : goal.overflow_sub-less
overflow_sub-less c = (bounds_fit c.in-Some.ensures c.requires.counted).0

pub overflow_sub-less-2 : goal.overflow_sub-less-2
overflow_sub-less-2 c = (bounds_fit c.in-Some.ensures c.requires.counted).1

pub exchange-requires-clause-room : goal.exchange-requires-clause-room
exchange-requires-clause-room c = λ some none. bounds_room c.in-Some.ensures none

pub returns-clause-count : goal.returns-clause-count
returns-clause-count c =
    bounds_length c.in-Some.ensures _ c.exchange.ensures.after c.requires.rising

pub returns-clause-entries : goal.returns-clause-entries
returns-clause-entries c =
    bounds_discounted c.in-Some.ensures c.requires.counted _ c.exchange.ensures.after refl refl
    refl refl
