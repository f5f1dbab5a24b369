-- What an iterator over variables has left.
use Rattle.std.specs.Prelude.{List, ◌++◌}
use Rattle.certificates.specs.Points.{variables_of}
use Rattle.file_command.specs.declared.variables.VariablesLeft.{VariablesLeft}
use Rattle.user_model.specs.declared.group.GroupVar.{GroupVar}

-- the group's variables that are left, and those of the groups that are left
abbrev pub variables_left : VariablesLeft → List GroupVar
variables_left left = left.vars.now ++ variables_of left.groups
