-- What lines do to a table.
use Rattle.std.specs.Prelude.{ℕ, Bool, List, slice_set}
use Rattle.fresh_bridging.specs.TheRules.{family_number}
use Rattle.item_core.specs.declared.edge.Edge.{Edge}
use Rattle.item_core.specs.declared.family.Family.{Family}
use Rattle.item_core.specs.declared.kind.Kind.{Kind}
use Rattle.item_core.specs.declared.kind.Kind.TheVariants.{Free, GroupReals}
use Rattle.item_core.specs.declared.table.Table.{Table}
use Rattle.item_core.specs.declared.table.Target.{Target}
use Rattle.item_core.specs.Edge.{edge_number}
use Rattle.item_core.specs.Kind.{kind_number}
use Rattle.item_core.specs.Table.{supported_by}

-- the target's kinds alone are supported; switches and costs stay
abbrev pub targeted : Target → Table → Table
targeted target table = record table { supported = supported_by target }

-- free variables with groups in Reals
abbrev pub free_with : Kind → Bool → List Bool → List Bool
free_with GroupReals value supported = slice_set supported (kind_number Free) value
free_with _ value supported = supported

-- the kind is supported or not; with groups in Reals free variables are, too
abbrev pub supporting : Kind → Bool → Table → Table
supporting kind value table = record table {
  supported = free_with kind value (slice_set table.supported (kind_number kind) value);
}

abbrev pub costing : Edge → ℕ → Table → Table
costing edge cost table = record table { cost = slice_set table.cost (edge_number edge) cost }

abbrev pub switched : Family → Bool → Table → Table
switched family value table = record table { on = slice_set table.on (family_number family) value }
