-- What the iterator of the variables has left.
use Rattle.std.specs.Prelude.{List, ◌++◌}
use Rattle.user_model.specs.declared.group.GroupVar.{GroupVar}
use Rattle.certificates.specs.Points.{variables_of}
use Rattle.cert_text.specs.declared.variables.Variables.{Variables}

-- the group's variables that are left, and those of the groups that are left
abbrev pub variables_left : Variables → List GroupVar
variables_left left = left.vars.now ++ variables_of left.groups
