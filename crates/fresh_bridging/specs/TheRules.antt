-- Which edge each kind takes, and what items are rewritten to, by a table and the bridges that
-- there are.
use Rattle.std.specs.Prelude.{ℕ, Bool, true, false, ◌&&◌, cond, List, [], ◌∷◌, ◌++◌, length, map, slice_index_or}
use denote.Enum.Declared.{tag_of}
use Rattle.std.specs.List.{list_all, list_any, zip}
use Rattle.bridge_graph.specs.Hypergraph.{Hypergraph, IsSupported, hypergraph_of}
use Rattle.bridge_graph.specs.Tree.{IsFirstEdge, IsTreeless}
use Rattle.bridge_graph.specs.declared.Choice.{Choice}
use Rattle.bridge_graph.specs.declared.Choice.TheVariants.{By, Missing, Native}
use Rattle.expansion.specs.Rules.{ItemChildren, Rules}
use Rattle.aff_core.specs.Function.{Function, negated}
use Rattle.item_core.specs.declared.edge.Edge.{Edge}
use Rattle.item_core.specs.declared.edge.Edge.TheVariants.{E1}
use Rattle.item_core.specs.declared.edge.TheConstants.{EDGES, EDGE_ROWS}
use Rattle.item_core.specs.declared.family.Family.{Family}
use Rattle.item_core.specs.declared.family.Family.TheVariants as family
use Rattle.item_core.specs.declared.image.Expression.TheVariants.{Kept}
use Rattle.item_core.specs.declared.item.Item.{Item}
use Rattle.item_core.specs.declared.table.Table.{Table}
use Rattle.item_core.specs.contracts.family.Family as families
use Rattle.item_core.specs.Edge.{family_eq, family_of}
use Rattle.item_core.specs.Item.{functions_of, is_group, set_of, variables_of}
use Rattle.item_core.specs.Kind.{kind_number}
use Rattle.item_core.specs.KindOf.{kind_of_body}
use Rattle.bridge_face.specs.ImageOf.{image_of, inner_functions, negations}
use Rattle.bridge_face.specs.Images.{difference, function_of_body, number_in, rest_of}
use Rattle.bridge_face.specs.Law.{listed}
use Rattle.ratio_core.specs.Rational.{neg_ℚ, sum_fits}
use Rattle.fresh_bridging.specs.Entries.{Entry, put_in, put_in_fits, put_into, put_into_fits}
use Rattle.fresh_bridging.specs.FitTests.{plus_fits}

-- ---- the graph of kinds

-- a table, and the families that have a bridge
pub record Setting : Type 0 where
  pub table : Table
  pub families : List Family

abbrev pub family_number : Family → ℕ
family_number family = tag_of families.the_type family

-- the family is on, and there is a bridge of it
abbrev pub is_usable : Setting → Family → Bool
is_usable setting family =
    slice_index_or setting.table.on (family_number family) false
    && list_any (family_eq family) setting.families

abbrev pub edges_on : Setting → List Bool
edges_on setting = map (λ row. is_usable setting row.family) EDGES

abbrev pub graph_of : Setting → Hypergraph
graph_of setting =
    hypergraph_of EDGE_ROWS setting.table.cost setting.table.supported (edges_on setting)

-- how an item of the kind reaches the solver at least cost
abbrev pub IsChoice : Hypergraph → ℕ → Choice → Type 0
IsChoice graph kind Native = IsSupported graph kind
IsChoice graph kind (By edge) = IsFirstEdge graph kind edge
IsChoice graph kind Missing = IsTreeless graph kind

-- so each kind's choice; as all of a kind are one, so are all of these
abbrev pub AreChoices : Setting → (ℕ → Choice) → Type 0
AreChoices setting choice = (kind : ℕ) → IsChoice (graph_of setting) kind (choice kind)

-- ---- edges by their numbers in the graph

abbrev pub edge_at : ℕ → Edge
edge_at n =
    slice_index_or (map (λ row. row.edge) EDGES) n E1

-- ---- what must fit

-- t - s_1 - s_2 .. from the left
unfoldable pub differences_fit : Function → List Function → Bool
differences_fit t [] = true
differences_fit t (s ∷ ss) = plus_fits t (negated s) && differences_fit (difference t s) ss

abbrev pub each_sum_fits : List Function → List Function → Bool
each_sum_fits fs gs = list_all (λ p. plus_fits p.0 p.1) (zip fs gs)

unfoldable pub fits_by : Family → Item → Bool
fits_by family.Vectorize item =
    sum_fits (function_of_body item.body).constant (neg_ℚ (number_in (set_of item.body)))
fits_by family.NormInfinity item =
    let t = function_of_body item.body in
    let xs = rest_of (functions_of item.body) in
    list_all (λ x. plus_fits t (negated x)) xs && list_all (λ x. plus_fits t x) xs
fits_by family.NormOne item =
    let xs = rest_of (functions_of item.body) in
    let ss = inner_functions item (length xs) in
    differences_fit (function_of_body item.body) ss
    && (each_sum_fits ss (negations xs) && each_sum_fits ss xs)
fits_by _ item = true

abbrev pub image_fits : ℕ → Item → Bool
image_fits edge item = fits_by (family_of (edge_at edge)) item

-- ---- the rules

-- the children: groups, and then the rows and the objective
abbrev pub children_by : ℕ → Item → ItemChildren Item
children_by edge item =
    let image = image_of (edge_at edge) item in
    record { groups = image.groups; others = image.rows ++ listed image.objective }

-- a group's components by themselves: a native group keeps each
abbrev pub own_entries : Item → List Entry
own_entries item =
    cond (is_group item.body)
    (map (λ v. record { component = v; expression = Kept v }) (variables_of item.body)) []

-- a group's components by those of the child groups, and none for another item
abbrev pub outer_entries : ℕ → Item → List Entry → List Entry
outer_entries edge item inner =
    map (λ p. record { component = p.0; expression = put_into inner p.1 })
    (zip (variables_of item.body) (image_of (edge_at edge) item).exprs)

abbrev pub rules_by : (ℕ → Choice) → Rules Item Entry
rules_by choice = record {
  choice = λ item. choice (kind_number (kind_of_body item.body));
  image = children_by;
  own = own_entries;
  outer = outer_entries;
  put_in = put_in;
  image_fits = image_fits;
  outer_fits =
      λ edge item inner. list_all (put_into_fits inner) (image_of (edge_at edge) item).exprs;
  put_in_fits = put_in_fits;
}
