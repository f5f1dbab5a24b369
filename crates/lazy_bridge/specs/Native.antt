-- Tables by which a solver is given what it takes.
use Rattle.std.specs.Prelude.{Bool, false, ◌&&◌, ◌||◌, not, slice_index_or}
use Rattle.std.specs.Bool.{beq}
use Rattle.std.specs.List.{list_all, zip}
use Rattle.item_core.specs.declared.kind.Kind.{Kind}
use Rattle.item_core.specs.declared.kind.Kind.TheVariants.{Free, GroupReals}
use Rattle.item_core.specs.declared.kind.TheConstants.{KINDS}
use Rattle.item_core.specs.declared.table.Table.{Table}
use Rattle.item_core.specs.Kind.{kind_number}
use Rattle.tree_laws.specs.LeafLaws.{is_leaf_kind}

abbrev pub supports : Table → Kind → Bool
supports table kind = slice_index_or table.supported (kind_number kind) false

-- free variables are supported exactly where groups in Reals are
abbrev pub frees_alike : Table → Bool
frees_alike table = beq (supports table Free) (supports table GroupReals)

-- only native kinds and free variables are supported, these where groups in Reals are
abbrev pub supports_native : Table → Bool
supports_native table =
    list_all (λ p. not p.1 || is_leaf_kind p.0) (zip KINDS.kinds table.supported)
    && frees_alike table
