use Rattle.std.proofs.Common.{ap, subst, sym, ◌∙◌}
use Rattle.std.specs.List.Sorted.{IsSorted}
use Rattle.aff_core.specs.Address.{address_cmp}
use Rattle.leaf_update.specs.Others.{among}
use Rattle.leaf_update.proofs.OtherSteps.{searched}
use Rattle.leaf_update.proofs.sorted.SortedAddresses.contains.Goals as goal

pub returns : goal.returns
returns c =
    c.is_ok.ensures.value
    ∙ searched c.deref.result.now c.args.at.now c.binary_search.result
    (subst (IsSorted address_cmp) (sym c.deref.ensures.value) c.self.invariant)
    c.binary_search.ensures.bound c.binary_search.ensures.position
    ∙ ap (λ us. among us c.args.at.now) (c.deref.ensures.value ∙ c.self.view_is)
