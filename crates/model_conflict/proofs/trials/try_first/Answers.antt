use Rattle.std.proofs.Common.{◌≡◌, refl, subst, sym, Ok, Err}
use Rattle.cache_layer.specs.Cached.{state_of}
use Rattle.model_conflict.proofs.Tried.{again_tried, fault_tried, on_ok, out_tried, still_attached, still_bare}
use Rattle.model_conflict.proofs.Trying.{IsReady, adds, deletes, stands_again, stands_without, state_again, state_without}
use Rattle.model_conflict.proofs.trials.try_first.Goals as goal
use Rattle.model_conflict.specs.Optima.{TellsOptimum}
use Rattle.model_conflict.specs.Steps.{Tries}
use Rattle.model_conflict.specs.Walk.{with_rows}

pub first_trial-requires : goal.first_trial-requires
first_trial-requires g c =
    record { attached = c.requires.can.attached; first = c.requires.first }

pub returns-in_default : goal.returns-in_default
returns-in_default g c = λ row rest first. tt

pub make-requires : goal.make-requires
make-requires g c =
    let s = state_of c.args.cache.now in
    let row = c.requires.first.0 in
    let rest = c.requires.first.1 in
    let ready : IsReady s row rest c.in-Ok.trial = record {
      valid = c.in-Ok.ensures.valid;
      can = c.requires.can;
      stands = c.in-Ok.ensures.stands;
      first = c.requires.first.2;
      is = c.in-Ok.ensures.trial row rest c.requires.first.2;
    } in record {
      attached = c.requires.can.attached;
      accepted = deletes s row rest c.in-Ok.trial ready;
      bridged = stands_without s row rest c.in-Ok.trial ready;
    }

pub returns-in-Err : goal.returns-in-Err
returns-in-Err g c = λ row rest first.
    subst (λ w. Tries (state_of c.args.cache.now) c.args.pivots row rest c.args.walked.now (Err w)
    (state_of c.make.new.cache) c.args.walked.now) (sym c.in-Err.ensures.err) tt

pub optimize-requires : goal.optimize-requires
optimize-requires g c =
    let s = state_of c.args.cache.now in
    let row = c.requires.first.0 in
    let rest = c.requires.first.1 in
    let trial = c.in-Ok.trial in
    let ready : IsReady s row rest trial = record {
      valid = c.in-Ok.ensures.valid;
      can = c.requires.can;
      stands = c.in-Ok.ensures.stands;
      first = c.requires.first.2;
      is = c.in-Ok.ensures.trial row rest c.requires.first.2;
    } in
    let now = state_of c.make.new.cache in
    let is_now : now ≡ with_rows s rest =
    state_without s row rest trial ready now c.in-Ok-make.ensures.ok in record {
      attached = still_attached s row rest now is_now c.requires.can.attached;
      bare = still_bare s row rest now is_now c.requires.can.bare;
    }

pub returns-in-Err-optimize : goal.returns-in-Err-optimize
returns-in-Err-optimize g c = λ row rest first.
    let s = state_of c.args.cache.now in
    let trial = c.in-Ok.trial in
    let ready : IsReady s row rest trial = record {
      valid = c.in-Ok.ensures.valid;
      can = c.requires.can;
      stands = c.in-Ok.ensures.stands;
      first = first;
      is = c.in-Ok.ensures.trial row rest first;
    } in
    let now = state_of c.make.new.cache in
    fault_tried s row rest now
    (state_without s row rest trial ready now c.in-Ok-make.ensures.ok) c.args.pivots
    c.args.walked.now c.in-Err-optimize.fault now c.args.walked.now c.in-Err-optimize.ensures

pub returns-in-Infeasible : goal.returns-in-Infeasible
returns-in-Infeasible g c = λ row rest first.
    let s = state_of c.args.cache.now in
    let trial = c.in-Ok.trial in
    let ready : IsReady s row rest trial = record {
      valid = c.in-Ok.ensures.valid;
      can = c.requires.can;
      stands = c.in-Ok.ensures.stands;
      first = first;
      is = c.in-Ok.ensures.trial row rest first;
    } in
    let now = state_of c.make.new.cache in
    out_tried s row rest now (state_without s row rest trial ready now c.in-Ok-make.ensures.ok)
    c.args.pivots c.args.walked.now c.in-Infeasible.duals _
    (subst (λ o. TellsOptimum now c.args.pivots (Ok o)) c.in-Infeasible.is c.in-Ok-optimize.ensures) refl

pub add_again-requires : goal.add_again-requires
add_again-requires g c =
    let s = state_of c.args.cache.now in
    let row = c.requires.first.0 in
    let rest = c.requires.first.1 in
    let trial = c.in-Ok.trial in
    let ready : IsReady s row rest trial = record {
      valid = c.in-Ok.ensures.valid;
      can = c.requires.can;
      stands = c.in-Ok.ensures.stands;
      first = c.requires.first.2;
      is = c.in-Ok.ensures.trial row rest c.requires.first.2;
    } in
    let now = state_of c.make.new.cache in
    let is_now : now ≡ with_rows s rest =
    state_without s row rest trial ready now c.in-Ok-make.ensures.ok in record {
      attached = still_attached s row rest now is_now c.requires.can.attached;
      accepted = adds s row rest trial ready now is_now;
      bridged = stands_again s row rest trial ready now is_now;
    }

pub returns-in-Point : goal.returns-in-Point
returns-in-Point g c = λ row rest first.
    let s = state_of c.args.cache.now in
    let trial = c.in-Ok.trial in
    let is = c.in-Ok.ensures.trial row rest first in
    let ready : IsReady s row rest trial = record {
      valid = c.in-Ok.ensures.valid;
      can = c.requires.can;
      stands = c.in-Ok.ensures.stands;
      first = first;
      is = is;
    } in
    let now = state_of c.make.new.cache in
    let new = state_of c.add_again.new.cache in
    let is_now : now ≡ with_rows s rest =
    state_without s row rest trial ready now c.in-Ok-make.ensures.ok in
    again_tried s row rest now is_now c.args.pivots c.args.walked.now c.in-Point.x trial.name
    c.add_again.result new c.add_again.new.walked
    (subst (λ o. TellsOptimum now c.args.pivots (Ok o)) c.in-Point.is c.in-Ok-optimize.ensures) is.name
    (on_ok c.add_again.result (λ e. state_again s row rest trial ready now is_now new e)
    c.add_again.ensures.state)
    c.add_again.ensures.noted c.add_again.ensures.err
