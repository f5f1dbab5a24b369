use Rattle.std.proofs.Common.{refl, arith, ◌≡◌, ◌+◌, ◌-◌, ℕ}
use Rattle.std.proofs.lemmas.Iterator.{YieldsList-from_range}
use Rattle.std.proofs.lemmas.Iterator.Adapters.{fact_from_collect}
use Rattle.std.proofs.lemmas.Result.{IfOk-weaker}
use Rattle.tableau_core.proofs.start.start_basis.Goals as goal

count_lem : (c m : ℕ) → c + m - c ≡ m
count_lem c m = omega arith

pub returns : goal.returns
returns c =
    IfOk-weaker c.collect.result _ _ (λ v h. h.0)
    (fact_from_collect _ c.collect.result c.collect.ensures.ran (YieldsList-from_range c.args.c
    (c.args.c + c.args.m) c.args.m refl (count_lem c.args.c c.args.m)))
