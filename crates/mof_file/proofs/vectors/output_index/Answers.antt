use Rattle.mof_file.proofs.vectors.output_index.Goals as goal

pub returns : goal.returns
returns c = c.output_field.ensures
