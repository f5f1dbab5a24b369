-- Edges, read off the table of edges.
use Rattle.std.specs.Prelude.{ℕ, Bool, false, List, [], ◌∷◌, Option, map, filter, slice_get, slice_index_or}
use Rattle.std.specs.Option.{option_map}
use denote.Enum.Declared.{tag_of}
use Rattle.item_core.specs.declared.edge.Edge.{Edge}
use Rattle.item_core.specs.declared.edge.EdgeEntry.{EdgeEntry}
use Rattle.item_core.specs.declared.edge.Children.TheVariants.{None, One, Two, Three}
use Rattle.item_core.specs.declared.edge.Children.{Children}
use Rattle.item_core.specs.declared.family.Family.{Family}
use Rattle.item_core.specs.declared.family.Family.TheVariants.{GreaterLess}
use Rattle.item_core.specs.declared.kind.Kind.{Kind}
use Rattle.item_core.specs.declared.kind.Kind.TheVariants.{Free}
use Rattle.item_core.specs.declared.edge.TheConstants.{EDGES}
use Rattle.item_core.specs.contracts.edge.Edge as contracts
use Rattle.item_core.specs.contracts.family.FamilyPartialEq.TheImpl as families

-- how many edges and families there are
abbrev pub edge_count : ℕ
edge_count = 63

abbrev pub family_count : ℕ
family_count = 20

-- the place of an edge in the table
abbrev pub edge_number : Edge → ℕ
edge_number edge = tag_of contracts.the_type edge

-- an edge's entry in the table
unfoldable pub edge_entry : Edge → EdgeEntry
edge_entry edge =
    slice_index_or EDGES (edge_number edge)
    (record {
      edge = edge;
      family = GreaterLess;
      keeps = false;
      source = Free;
      children = None;
    })

-- the edge at a place of the table
abbrev pub edge_numbered : ℕ → Option Edge
edge_numbered number = option_map (λ row. row.edge) (slice_get EDGES number)

-- a group's components stand as variables of its child group
abbrev pub keeps_components : Edge → Bool
keeps_components edge = (edge_entry edge).keeps

abbrev pub source_of : Edge → Kind
source_of edge = (edge_entry edge).source

abbrev pub family_of : Edge → Family
family_of edge = (edge_entry edge).family

abbrev pub kinds_in : Children → List Kind
kinds_in None = []
kinds_in (One a) = a ∷ []
kinds_in (Two a b) = a ∷ b ∷ []
kinds_in (Three a b c) = a ∷ b ∷ c ∷ []

-- the kinds that an edge leads to
abbrev pub children_of : Edge → List Kind
children_of edge = kinds_in (edge_entry edge).children

abbrev pub family_eq : Family → Family → Bool
family_eq = (families.ghosts).eq

-- the edges of a family
unfoldable pub edges_of : Family → List Edge
edges_of family = map (λ row. row.edge) (filter (λ row. family_eq row.family family) EDGES)
