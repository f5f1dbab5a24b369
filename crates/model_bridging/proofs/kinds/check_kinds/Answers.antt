use Rattle.std.proofs.Common.{◌++◌, sym, subst, map}
use Rattle.fresh_bridging.specs.ModelImage.{group_item, objective_items, row_item}
use Rattle.model_bridging.specs.Kinds.{first_missing, is_kept_by, kind_by, kinds_as_they_stand, told}
use Rattle.model_bridging.specs.PlanOutcome.{KindsOutcome}
use Rattle.model_bridging.proofs.KindSteps.{answered_next, further_kinds, handed_first, row_kinds}
use Rattle.model_bridging.proofs.kinds.check_kinds.Goals as goal

pub returns-in_err-check_groups : goal.returns-in_err-check_groups
returns-in_err-check_groups g c =
    let choice = (g.R.Rewriter.means c.args.rewriter.now).choice in
    let items = map group_item c.args.groups.now.items in
    let others = map row_item c.args.rows.now.items ++ objective_items c.args.objective.now in
    handed_first choice (Unit {0}) (Unit {0}) c.from_residual.result c.in_err-check_groups.field-0.0
    (kinds_as_they_stand items) (map (λ i. kind_by (is_kept_by choice items) i.body) others)
    c.from_residual.ensures.1 c.in_err-check_groups.ensures

pub returns-in_err-check_rows : goal.returns-in_err-check_rows
returns-in_err-check_rows g c =
    let choice = (g.R.Rewriter.means c.args.rewriter.now).choice in
    let items = map group_item c.args.groups.now.items in
    let rows = c.args.rows.now.items in
    let last = objective_items c.args.objective.now in
    let by_told = told c.in_ok-kept.kept in
    let r = c.from_residual-in_err-check_rows.result in
    answered_next choice r (kinds_as_they_stand items)
    (map (λ i. kind_by (is_kept_by choice items) i.body) (map row_item rows ++ last))
    c.in_ok-check_groups.ensures
    (subst (λ ks. KindsOutcome r (first_missing choice ks))
    (sym (further_kinds (is_kept_by choice items) by_told c.in_ok-kept.ensures
    (map row_item rows) last))
    (handed_first choice (Unit {0}) (Unit {0}) r c.in_err-check_rows.field-0.0
    (row_kinds by_told rows) (map (λ i. kind_by by_told i.body) last)
    c.from_residual-in_err-check_rows.ensures.1 c.in_err-check_rows.ensures))

pub returns : goal.returns
returns g c =
    let choice = (g.R.Rewriter.means c.args.rewriter.now).choice in
    let items = map group_item c.args.groups.now.items in
    let rows = c.args.rows.now.items in
    let last = objective_items c.args.objective.now in
    let by_told = told c.in_ok-kept.kept in
    let r = c.check_objective.result in
    answered_next choice r (kinds_as_they_stand items)
    (map (λ i. kind_by (is_kept_by choice items) i.body) (map row_item rows ++ last))
    c.in_ok-check_groups.ensures
    (subst (λ ks. KindsOutcome r (first_missing choice ks))
    (sym (further_kinds (is_kept_by choice items) by_told c.in_ok-kept.ensures
    (map row_item rows) last))
    (answered_next choice r (row_kinds by_told rows) (map (λ i. kind_by by_told i.body) last)
    c.in_ok-check_rows.ensures c.check_objective.ensures))
