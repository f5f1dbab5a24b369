use Rattle.script_core.proofs.Keywords.{reads_back}
use Rattle.script_core.proofs.keyword.Keyword.read.Goals as goal

pub returns-clause-reads_back : goal.returns-clause-reads_back
returns-clause-reads_back c = reads_back
