-- The components of a function: variables, or affine functions.
use Rattle.std.specs.Prelude.{List}
use Rattle.aff_core.specs.Function.{Function}
use Rattle.certificates.specs.Points.{variables_at}
use Rattle.cert_core.specs.declared.components.Components.{Components}
use Rattle.cert_core.specs.declared.components.Components.TheVariants.{Variables, Functions}

abbrev pub functions_in : Components → List Function
functions_in (Variables vars) = variables_at vars.now
functions_in (Functions fs) = fs.now
