-- Each clause is a part of how the command ran.
use Rattle.moi_run.proofs.Completing.{completes}
use Rattle.moi_run.proofs.commands.run.Goals as goal

pub returns-clause-text : goal.returns-clause-text
returns-clause-text g c = c.obey_words-status.ensures.runs.text

pub returns-clause-pivots : goal.returns-clause-pivots
returns-clause-pivots g c = c.obey_words-status.ensures.runs.pivots

pub returns-clause-to_the_end : goal.returns-clause-to_the_end
returns-clause-to_the_end g c = c.obey_words-status.ensures.runs.to_the_end

pub returns-clause-within_limits : goal.returns-clause-within_limits
returns-clause-within_limits g c = c.obey_words-status.ensures.runs.within_limits

pub returns-clause-verdict : goal.returns-clause-verdict
returns-clause-verdict g c = c.obey_words-status.ensures.runs.verdict

pub returns-clause-prefix : goal.returns-clause-prefix
returns-clause-prefix g c = c.obey_words-status.ensures.runs.prefix

pub returns-clause-verdict_prefix : goal.returns-clause-verdict_prefix
returns-clause-verdict_prefix g c = c.obey_words-status.ensures.runs.verdict_prefix

pub returns-clause-read_fault : goal.returns-clause-read_fault
returns-clause-read_fault g c = c.obey_words-status.ensures.runs.read_fault

pub returns-clause-at_read_fault : goal.returns-clause-at_read_fault
returns-clause-at_read_fault g c = c.obey_words-status.ensures.runs.at_read_fault

pub returns-clause-at_write_fault : goal.returns-clause-at_write_fault
returns-clause-at_write_fault g c = c.obey_words-status.ensures.runs.at_write_fault

pub returns-clause-too_long : goal.returns-clause-too_long
returns-clause-too_long g c = c.obey_words-status.ensures.runs.too_long

pub returns-clause-at_limit : goal.returns-clause-at_limit
returns-clause-at_limit g c = c.obey_words-status.ensures.runs.at_limit

pub returns-clause-complete : goal.returns-clause-complete
returns-clause-complete g c =
    completes _ _ _ _ _ _ _ _ _ _ _ _ _ _ _ c.obey_words-status.ensures.runs (c.obey_words-status.ensures.usage).0
    c.obey_words-status.ensures.write_fault

pub returns-clause-asks : goal.returns-clause-asks
returns-clause-asks g c = c.obey_words-status.ensures.runs.asks

pub returns-clause-summary : goal.returns-clause-summary
returns-clause-summary g c = c.obey_words-status.ensures.summary

pub returns-clause-summary_prefix : goal.returns-clause-summary_prefix
returns-clause-summary_prefix g c = c.obey_words-status.ensures.summary_prefix
