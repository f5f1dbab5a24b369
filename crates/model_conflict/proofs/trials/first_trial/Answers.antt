use Rattle.std.proofs.Common.{subst, sym}
use Rattle.model_conflict.proofs.Tried.{bridging_here, first_in, stands_in, trial_here, valid_first, valid_in}
use Rattle.model_conflict.proofs.trials.first_trial.Goals as goal
use Rattle.user_model.specs.Valid.{IsValidRow}

pub first_row-row-requires : goal.first_row-row-requires
first_row-row-requires g c =
    first_in c.args.cache.now.user c.model-user.result.now c.model-user.ensures.value
    c.requires.first

pub trial_of-requires : goal.trial_of-requires
trial_of-requires g c =
    let first = first_in c.args.cache.now.user c.model-user.result.now c.model-user.ensures.value
    c.requires.first in
    subst (IsValidRow c.model-user.result.now.model.groups)
    (sym (c.first_row-row.ensures.is first.0 first.1 first.2))
    (valid_first c.model-user.result.now.model c.first_row-row.ensures.valid first.0 first.1
    first.2.whole)

pub returns-clause-trial : goal.returns-clause-trial
returns-clause-trial g c = λ row rest first.
    trial_here c.args.cache.now.user c.model-user.result.now row c.first_row-row.result.now
    c.trial_of.result c.model-user.ensures.value
    (c.first_row-row.ensures.is row rest
    (stands_in c.args.cache.now.user c.model-user.result.now row rest c.model-user.ensures.value
    first))
    c.trial_of.ensures

pub returns-clause-stands : goal.returns-clause-stands
returns-clause-stands g c =
    bridging_here c.args.cache.now c.requires.attached c.attached-stands.ensures.stands

pub returns-clause-valid : goal.returns-clause-valid
returns-clause-valid g c =
    valid_in c.args.cache.now.user c.model-user.result.now c.model-user.ensures.value
    c.first_row-row.ensures.valid
