use Rattle.cert_text.proofs.Entries.{entries_told}
use Rattle.cert_text.proofs.reading.read.Goals as goal

pub returns-clause-entries : goal.returns-clause-entries
returns-clause-entries c =
    entries_told c.args.groups.now.items c.args.rows.now.items c.read_lines.result _ c.read_lines.ensures
