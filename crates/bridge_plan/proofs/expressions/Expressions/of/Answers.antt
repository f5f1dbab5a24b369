use Rattle.std.proofs.Common.{rules}
use Rattle.std.proofs.lemmas.Fn.{always_returns_same}
use Rattle.bridge_plan.proofs.SortedEntries.{found_alike}
use Rattle.bridge_plan.proofs.expressions.Expressions.of.Goals as goal

pub invariant_of-result : goal.invariant_of-result
invariant_of-result c =
    c.in_ok-sort_by_key.ensures.sorted (λ e. e.component)
    (always_returns_same _ _ _ (λ a r f k. search rules))

pub returns : goal.returns
returns c =
    found_alike c.args.entries.items c.sort_by_key.new.self.items
    (c.sort_by_key.ensures.stable (λ e. e.component)
    (always_returns_same _ _ _ (λ a r f k. search rules)))
