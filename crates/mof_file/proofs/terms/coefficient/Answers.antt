use Rattle.mof_file.proofs.terms.coefficient.Goals as goal

pub returns : goal.returns
returns c = c.number_field.ensures
