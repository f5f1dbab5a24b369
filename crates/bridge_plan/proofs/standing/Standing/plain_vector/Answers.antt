use Rattle.std.proofs.Common.{ap, sym, ◌∙◌, map}
use Rattle.std.specs.List.{list_all}
use Rattle.item_core.specs.declared.item.Body.TheVariants.{AffineVec}
use Rattle.fresh_bridging.specs.Entries.{expression_in, is_kept}
use Rattle.bridge_plan.proofs.KeptLists.{none_given, not_all_kept}
use Rattle.bridge_plan.proofs.standing.Standing.plain_vector.Goals as goal

pub returns : goal.returns
returns c =
    let e = expression_in c.args.self.now in
    let vars = c.args.vars.now in
    ap (λ fs. AffineVec fs c.args.set) c.in_ok-functions.ensures
    ∙ sym (not_all_kept (list_all is_kept (map e vars)) e vars c.args.set
    (none_given c.in_ok-vars.field-0 e vars c.in_ok-vars.ensures c.in_default.is))
