-- Lines that leave the cache.
use Rattle.std.proofs.Common.{Ok, refl}
use Rattle.edit_engine.proofs.FewTold.{few_stays}
use Rattle.report_core.specs.declared.answer.Answer.TheVariants.{Quit, Silent}
use Rattle.edit_engine.proofs.lines.obey_without_file.Goals as goal

pub returns-in-Silent-clause-few : goal.returns-in-Silent-clause-few
returns-in-Silent-clause-few g c =
    few_stays (Ok Silent) c.args.cache.now.lazy c.args.cache.now.lazy refl

pub returns-in-Quit-clause-few : goal.returns-in-Quit-clause-few
returns-in-Quit-clause-few g c =
    few_stays (Ok Quit) c.args.cache.now.lazy c.args.cache.now.lazy refl

pub returns-in-Begin-clause-few : goal.returns-in-Begin-clause-few
returns-in-Begin-clause-few g c =
    few_stays c.done.result c.args.cache.now.lazy c.args.cache.now.lazy refl

pub returns-in-Commit-clause-few : goal.returns-in-Commit-clause-few
returns-in-Commit-clause-few g c =
    few_stays c.refuse.result c.args.cache.now.lazy c.args.cache.now.lazy refl

pub returns-in-Bridged-clause-few : goal.returns-in-Bridged-clause-few
returns-in-Bridged-clause-few g c =
    few_stays c.bridged.result c.args.cache.now.lazy c.args.cache.now.lazy refl

pub returns-in-Plan-clause-few : goal.returns-in-Plan-clause-few
returns-in-Plan-clause-few g c =
    few_stays c.show_plan.result c.args.cache.now.lazy c.args.cache.now.lazy refl

pub returns-in-Optimize-clause-few : goal.returns-in-Optimize-clause-few
returns-in-Optimize-clause-few g c =
    few_stays c.optimize.result c.args.cache.now.lazy c.args.cache.now.lazy refl

pub returns-in-Write-clause-few : goal.returns-in-Write-clause-few
returns-in-Write-clause-few g c =
    few_stays c.write.result c.args.cache.now.lazy c.args.cache.now.lazy refl
