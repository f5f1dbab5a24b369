use Rattle.script_tokens.proofs.Names.{family_reads_back}
use Rattle.script_tokens.proofs.family.read_family.Goals as goal

pub returns-clause-reads_back : goal.returns-clause-reads_back
returns-clause-reads_back c = family_reads_back
