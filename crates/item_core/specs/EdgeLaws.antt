-- What the table of edges says of each edge: one family keeps components, and an edge that is found
-- by its number is the one at that place.
use Rattle.std.specs.Prelude.{◌≡◌, ℕ, zero, suc, Bool, true, false, List, [], ◌∷◌, map, slice_get, slice_index_or, unwrap_or, refl}
use Rattle.std.specs.Bool.{beq}
use Rattle.std.specs.List.{list_all}
use Rattle.std.specs.Option.{option_map}
use Rattle.std.proofs.Common.{sym, true≢false}
use Rattle.std.proofs.lemmas.Bool.{and_parts}
use Rattle.item_core.specs.declared.edge.Children.TheVariants.{None}
use Rattle.item_core.specs.declared.edge.Edge.{Edge}
use Rattle.item_core.specs.declared.edge.EdgeEntry.{EdgeEntry}
use Rattle.item_core.specs.declared.edge.TheConstants.{EDGES}
use Rattle.item_core.specs.declared.family.Family.TheVariants.{GreaterLess, Later}
use Rattle.item_core.specs.declared.kind.Kind.TheVariants.{Free}
use Rattle.item_core.specs.Edge.{edge_entry, edge_number, edge_numbered, family_eq, family_of, keeps_components}

-- ---- the family that keeps components

abbrev keeps_as_later : EdgeEntry → Bool
keeps_as_later row = beq row.keeps (family_eq row.family Later)

all_as_later : list_all keeps_as_later EDGES ≡ true
all_as_later = refl

at_a_place : (rows : List EdgeEntry) (n : ℕ) (other : EdgeEntry)
    → list_all keeps_as_later rows ≡ true → keeps_as_later other ≡ true
    → keeps_as_later (slice_index_or rows n other) ≡ true
at_a_place [] n other h k = k
at_a_place (row ∷ rows) zero other h k =
    (and_parts (keeps_as_later row) (list_all keeps_as_later rows) h).0
at_a_place (row ∷ rows) (suc n) other h k =
    at_a_place rows n other (and_parts (keeps_as_later row) (list_all keeps_as_later rows) h).1 k

same_test : (a b : Bool) → beq a b ≡ true → a ≡ b
same_test true true h = refl
same_test true false h = absurd (true≢false (sym h))
same_test false true h = absurd (true≢false (sym h))
same_test false false h = refl

pub keeps_by_family : (edge : Edge) → keeps_components edge ≡ family_eq (family_of edge) Later
unfolding edge_entry
keeps_by_family edge =
    same_test (keeps_components edge) (family_eq (family_of edge) Later)
    (at_a_place EDGES (edge_number edge)
    (record {
      edge = edge;
      family = GreaterLess;
      keeps = false;
      source = Free;
      children = None;
    }) all_as_later refl)

-- ---- by number

at_place : (rows : List EdgeEntry) (n : ℕ) (other : Edge)
    → unwrap_or (option_map (λ row. row.edge) (slice_get rows n)) other
    ≡ slice_index_or (map (λ row. row.edge) rows) n other
at_place [] n other = refl
at_place (row ∷ rows) zero other = refl
at_place (row ∷ rows) (suc n) other = at_place rows n other

pub edge_or : (n : ℕ) (other : Edge)
    → unwrap_or (edge_numbered n) other ≡ slice_index_or (map (λ row. row.edge) EDGES) n other
edge_or n other = at_place EDGES n other
