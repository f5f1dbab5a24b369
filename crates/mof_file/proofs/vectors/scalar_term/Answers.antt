use Rattle.mof_file.proofs.vectors.scalar_term.Goals as goal

pub returns : goal.returns
returns c = c.term_field.ensures
