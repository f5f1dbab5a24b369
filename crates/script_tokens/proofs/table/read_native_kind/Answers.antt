use Rattle.script_tokens.proofs.Names.{kind_reads_back}
use Rattle.script_tokens.proofs.table.read_native_kind.Goals as goal

pub returns-clause-reads_back : goal.returns-clause-reads_back
returns-clause-reads_back c = kind_reads_back

pub returns-in_err-kind-clause-reads_back : goal.returns-in_err-kind-clause-reads_back
returns-in_err-kind-clause-reads_back c = kind_reads_back
