-- What is carried along a bridging: from duals of the leaves to duals of the items.
use Rattle.std.specs.Prelude.{◌≡◌, cond, List, [], ◌∷◌, length, map, take}
use Rattle.ratio_core.specs.Rational.{Rational, ◌≤ℚ◌}
use Rattle.aff_core.specs.Address.{Address}
use Rattle.aff_core.specs.Arithmetic.{composed}
use Rattle.aff_core.specs.Function.{coefficient, slope}
use Rattle.dual_laws.specs.Held.{DualsHold, DualRow, adjoint, gap}
use Rattle.expansion.specs.Bridged.{Bridged, EachBridgedIn, by, each_in, natively, none_in}
use Rattle.expansion.specs.Rules.{Rules}
use Rattle.item_core.specs.declared.item.Item.{Item}
use Rattle.item_core.specs.Item.{is_group, variables_of}
use Rattle.bridge_face.specs.BackOf.{back_of}
use Rattle.bridge_face.specs.ImageOf.{image_of}
use Rattle.bridge_face.specs.Law.{held_body, is_objective}
use Rattle.fresh_bridging.specs.Entries.{Entry, function_in}
use Rattle.fresh_bridging.specs.TheRules.{edge_at}

-- a bound on the objective's cost with its dual, the numbers of the leaf variables, and the duals
-- of the leaf rows
pub record LeafAnswerDuals : Type 0 where
  pub bound : Rational
  pub objective : List Rational
  pub numbers : Address → Rational
  pub duals : Address → List Rational

-- ---- leaves with their duals

module _ (d : LeafAnswerDuals) where
  abbrev pub row_dual : Item → List Rational
  row_dual leaf = cond (is_objective leaf.body) d.objective (d.duals leaf.at)

  abbrev pub leaf_held : Item → DualRow
  leaf_held leaf =
      held_body d.bound leaf.body
      (cond (is_group leaf.body) (map d.numbers (variables_of leaf.body)) (row_dual leaf))

  abbrev pub leaf_helds : List Item → List DualRow
  leaf_helds leaves = map leaf_held leaves

-- ---- duals carried back

-- an objective's dual is the leaf objective's, and a row's is what its edge's rule makes of its
-- child rows' duals
module _ {rules : Rules Item Entry} (d : LeafAnswerDuals) where
  unfoldable mutual
    pub back : {item : Item} {entries : List Entry} → Bridged rules item entries → List Rational
    back (natively {item} c) = row_dual d item
    back (by {item} {edge} c groups others) =
        cond (is_objective item.body) d.objective
        (back_of (edge_at edge) item
        (take (length (image_of (edge_at edge) item).rows) (backs others)))

    pub backs : {inner : List Entry} {items : List Item} → EachBridgedIn rules inner items
        → List (List Rational)
    backs none_in = []
    backs (each_in first rest) = back first ∷ backs rest

-- groups, their variables with these numbers
abbrev pub group_held : Rational → (Address → Rational) → Item → DualRow
group_held bound w g = held_body bound g.body (map w (variables_of g.body))

abbrev pub group_helds : Rational → (Address → Rational) → List Item → List DualRow
group_helds bound w items = map (group_held bound w) items

-- ---- with the expressions of the variables put in

abbrev pub through : List Entry → DualRow → DualRow
through entries h = record h { functions = map (composed (function_in entries)) h.functions }

-- a point as the expressions' slopes see it
abbrev pub seen : List Entry → (Address → Rational) → Address → Rational
seen entries x u = slope (function_in entries u) x

-- the variable's coefficient in each expression
abbrev pub seen_at : List Entry → Address → Address → Rational
seen_at entries v u = coefficient (function_in entries u) v

abbrev pub constants_in : List Entry → Address → Rational
constants_in entries u = (function_in entries u).constant

-- ---- one list of rows with duals in the place of another

-- the duals hold, the adjoints are the same, and the gap is no smaller
pub record StandFor (hs ls : List DualRow) : Type 0 where
  pub holds : DualsHold hs
  pub same : (v : Address) → adjoint hs v ≡ adjoint ls v
  pub gaps : gap ls ≤ℚ gap hs
