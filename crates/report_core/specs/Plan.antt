-- How each kind is bridged, a line a kind.
use Rattle.std.specs.Prelude.{ℕ, ◌+◌, List, [], ◌++◌, codes, decimal, flat_map, slice_get, Option}
use Rattle.std.specs.List.{zip}
use Rattle.std.specs.Option.{option_map_or}
use Rattle.bridge_graph.specs.declared.Choice.{Choice}
use Rattle.bridge_graph.specs.declared.Choice.TheVariants.{Native, By, Missing}
use Rattle.item_core.specs.declared.edge.EdgeEntry.{EdgeEntry}
use Rattle.item_core.specs.declared.edge.TheConstants.{EDGES}
use Rattle.item_core.specs.declared.kind.Kind.{Kind}
use Rattle.item_core.specs.declared.kind.TheConstants.{KINDS}
use Rattle.item_core.specs.Kind.{name_of}
use Rattle.report_core.specs.Words.{newline}
use Rattle.script_tokens.specs.Family.{family_text}

-- the family of the edge at a place
abbrev pub family_at : List EdgeEntry → ℕ → List ℕ
family_at rows place = option_map_or (λ row. family_text row.family) (slice_get rows place) []

-- the solver supports the kind, or an edge begins its least-cost tree, or it has none
abbrev pub choice_text : Choice → Option ℕ → List ℕ
choice_text Native cost = codes " native"
choice_text (By place) cost =
    codes " edge " ++ decimal (place + 1) ++ codes " " ++ family_at EDGES place ++ codes " cost "
    ++ option_map_or decimal cost []
choice_text Missing cost = codes " none"

abbrev pub kind_line : Kind × (Choice × Option ℕ) → List ℕ
kind_line row = name_of row.0 ++ choice_text row.1.0 row.1.1 ++ newline

unfoldable pub plan_text : List (Choice × Option ℕ) → List ℕ
plan_text choices = flat_map kind_line (zip KINDS.kinds choices)
