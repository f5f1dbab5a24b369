use Rattle.std.proofs.Common.{rules}
use Rattle.std.specs.Ordering.{is_lt}
use Rattle.std.proofs.lemmas.Fn.{always_returns_same}
use Rattle.aff_core.proofs.Rising.{rise_decided}
use Rattle.aff_core.proofs.terms.rise_strictly.Goals as goal

pub returns : goal.returns
returns g c =
    rise_decided g.met.K.Ord.total c.args.terms.now c.is_sorted_by.result
    (c.is_sorted_by.ensures.cases (λ s t. is_lt (g.K.Ord.cmp s.0 t.0))
    (always_returns_same _ _ _ (λ a r f called. search rules)))
