use Rattle.std.proofs.Common.{IfOk, Ok, refl, subst, sym, ◌≡◌}
use Rattle.edit_engine.specs.Script.{edits_after}
use Rattle.edit_engine.proofs.FewTold.{few_stays}
use Rattle.edit_engine.proofs.Grouped.{abandon_keeps, commit_keeps, held_more, never_fetches, refused_keeps}
use Rattle.edit_engine.proofs.groups.obey_in_group.Goals as goal
use Rattle.report_core.specs.declared.answer.Answer.TheVariants.{Quit, Silent}
use Rattle.report_core.specs.declared.refused.Refused.TheVariants.{GroupOpen}
use Rattle.script_core.specs.declared.command.Command.{Command}

-- ---- what is held

pub returns-in-Edit-clause-edits : goal.returns-in-Edit-clause-edits
returns-in-Edit-clause-edits g c =
    subst (λ (k : Command). IfOk c.hold.result (λ answer. c.hold.new.edits
    ≡ edits_after c.args.edits.now answer k)) (sym c.in-Edit.is)
    (held_more c.hold.result c.args.edits.now c.hold.new.edits c.in-Edit.edit
    c.hold.ensures.edits c.hold.ensures.answer)

pub returns-in-Commit-clause-edits : goal.returns-in-Commit-clause-edits
returns-in-Commit-clause-edits g c =
    subst (λ (k : Command). IfOk c.commit.result (λ answer. c.args.edits.now
    ≡ edits_after c.args.edits.now answer k)) (sym c.in-Commit.is)
    (commit_keeps c.commit.result c.args.edits.now)

pub returns-in-Abandon-clause-edits : goal.returns-in-Abandon-clause-edits
returns-in-Abandon-clause-edits g c =
    subst (λ (k : Command). IfOk c.done.result (λ answer. c.args.edits.now
    ≡ edits_after c.args.edits.now answer k)) (sym c.in-Abandon.is)
    (abandon_keeps c.done.result c.args.edits.now)

pub returns-in-Begin-clause-edits : goal.returns-in-Begin-clause-edits
returns-in-Begin-clause-edits g c =
    refused_keeps c.refuse.result c.args.edits.now c.args.command GroupOpen c.refuse.ensures

pub returns-in-Cost-clause-edits : goal.returns-in-Cost-clause-edits
returns-in-Cost-clause-edits g c =
    refused_keeps c.refuse-in-Cost.result c.args.edits.now c.args.command GroupOpen c.refuse-in-Cost.ensures

pub returns-in-Optimize-clause-edits : goal.returns-in-Optimize-clause-edits
returns-in-Optimize-clause-edits g c =
    refused_keeps c.refuse-in-Optimize.result c.args.edits.now c.args.command GroupOpen c.refuse-in-Optimize.ensures

pub returns-clause-edits : goal.returns-clause-edits
returns-clause-edits g c =
    refused_keeps c.refuse-in-Load.result c.args.edits.now c.args.command GroupOpen c.refuse-in-Load.ensures

-- ---- no file is asked for

pub returns-in-Begin-clause-unread : goal.returns-in-Begin-clause-unread
returns-in-Begin-clause-unread g c = λ on. never_fetches c.refuse.result GroupOpen c.refuse.ensures

pub returns-in-Cost-clause-unread : goal.returns-in-Cost-clause-unread
returns-in-Cost-clause-unread g c = λ on. never_fetches c.refuse-in-Cost.result GroupOpen c.refuse-in-Cost.ensures

pub returns-in-Optimize-clause-unread : goal.returns-in-Optimize-clause-unread
returns-in-Optimize-clause-unread g c = λ on. never_fetches c.refuse-in-Optimize.result GroupOpen c.refuse-in-Optimize.ensures

pub returns-clause-unread : goal.returns-clause-unread
returns-clause-unread g c = λ on. never_fetches c.refuse-in-Load.result GroupOpen c.refuse-in-Load.ensures

-- ---- the solver's model is not called but by a commit

pub returns-in-Silent-clause-few : goal.returns-in-Silent-clause-few
returns-in-Silent-clause-few g c =
    few_stays (Ok Silent) c.args.cache.now.lazy c.args.cache.now.lazy refl

pub returns-in-Quit-clause-few : goal.returns-in-Quit-clause-few
returns-in-Quit-clause-few g c =
    few_stays (Ok Quit) c.args.cache.now.lazy c.args.cache.now.lazy refl

pub returns-in-Edit-clause-few : goal.returns-in-Edit-clause-few
returns-in-Edit-clause-few g c =
    few_stays c.hold.result c.args.cache.now.lazy c.args.cache.now.lazy refl

pub returns-in-Abandon-clause-few : goal.returns-in-Abandon-clause-few
returns-in-Abandon-clause-few g c =
    few_stays c.done.result c.args.cache.now.lazy c.args.cache.now.lazy refl

pub returns-in-Begin-clause-few : goal.returns-in-Begin-clause-few
returns-in-Begin-clause-few g c =
    few_stays c.refuse.result c.args.cache.now.lazy c.args.cache.now.lazy refl

pub returns-in-Cost-clause-few : goal.returns-in-Cost-clause-few
returns-in-Cost-clause-few g c =
    few_stays c.refuse-in-Cost.result c.args.cache.now.lazy c.args.cache.now.lazy refl

pub returns-in-Optimize-clause-few : goal.returns-in-Optimize-clause-few
returns-in-Optimize-clause-few g c =
    few_stays c.refuse-in-Optimize.result c.args.cache.now.lazy c.args.cache.now.lazy refl

pub returns-clause-few : goal.returns-clause-few
returns-clause-few g c =
    few_stays c.refuse-in-Load.result c.args.cache.now.lazy c.args.cache.now.lazy refl
