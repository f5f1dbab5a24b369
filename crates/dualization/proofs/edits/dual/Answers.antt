use Rattle.std.proofs.Common.{◌∙◌, ap, subst, sym}
use Rattle.dual_model.specs.Duality.{holds_duals}
use Rattle.dualization.specs.Fitting.{after_moves, moves, start_sums}
use Rattle.dualization.specs.Rows.{IsObjectiveOf}
use Rattle.user_model.specs.Model.{empty_model}
use Rattle.limit_laws.specs.Leads.{all_edited}
use Rattle.limit_laws.specs.Limits.{LimitsAlone}
use Rattle.dualization.proofs.LimitLemmas.{limits_of_dual}
use Rattle.dualization.proofs.MovedLemmas.{all_moved}
use Rattle.dualization.proofs.WholeLemmas.{edits_make}
use Rattle.dualization.proofs.ValidLemmas.{group_sets, row_sets, variables_apart}
use Rattle.dualization.proofs.edits.dual.Goals as goal

pub returns-in_err-start-clause-holds : goal.returns-in_err-start-clause-holds
returns-in_err-start-clause-holds c = holds_duals c.args.model.now.model c.rows-rows.ensures.valid

pub returns-in_err-sums-clause-holds : goal.returns-in_err-sums-clause-holds
returns-in_err-sums-clause-holds c = holds_duals c.args.model.now.model c.rows-rows.ensures.valid

pub edits_with-requires : goal.edits_with-requires
edits_with-requires c =
    let m = c.args.model.now.model in
    let valid = c.rows-rows.ensures.valid in
    let rs = c.rows-rows.ensures.value in
    let o = c.objective-objective.ensures.value in
    let gs = c.groups.ensures.value in
    let is = c.in_ok-sums.ensures.1
    ∙ ap (after_moves c.rows-rows.result.now.items c.objective-objective.result.now
    (moves c.groups.result.now.items)) c.in_ok-start.ensures.1
    ∙ (λ i. after_moves (rs i) (o i) (moves (gs i)) (start_sums (rs i) (o i))) in
    subst (IsObjectiveOf m) (sym is)
    (all_moved m (row_sets m valid) (group_sets m valid) (variables_apart m valid))

pub returns-in_err-edits_with-clause-holds : goal.returns-in_err-edits_with-clause-holds
returns-in_err-edits_with-clause-holds c =
    holds_duals c.args.model.now.model c.rows-rows.ensures.valid

pub returns-clause-holds : goal.returns-clause-holds
returns-clause-holds c = holds_duals c.args.model.now.model c.rows-rows.ensures.valid

pub returns-clause-made : goal.returns-clause-made
returns-clause-made c =
    ap (all_edited empty_model) (c.from_vec.ensures ∙ c.in_ok-edits_with.ensures)
    ∙ edits_make c.args.model.now.model c.rows-rows.ensures.valid

pub returns-clause-limits : goal.returns-clause-limits
returns-clause-limits c =
    subst (LimitsAlone empty_model) (sym (c.from_vec.ensures ∙ c.in_ok-edits_with.ensures))
    (limits_of_dual c.args.model.now.model c.rows-rows.ensures.valid)
