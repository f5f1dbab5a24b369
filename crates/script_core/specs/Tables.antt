-- Lines that change the table, by the tokens that follow their first word.
use Rattle.std.specs.Prelude.{ℕ, Bool, List, [], ◌∷◌, Option, Some, None, if◌then◌else◌}
use Rattle.bridge_graph.specs.Hypergraph.{is_edge_cost}
use Rattle.script_core.specs.declared.command.Command.TheVariants.{Target, Support, Cost, Switch}
use Rattle.script_core.specs.declared.reading.LineReading.{LineReading}
use Rattle.script_core.specs.Reading.{TokenList, says}
use Rattle.script_tokens.specs.Each.{◌>>=◌}
use Rattle.script_tokens.specs.Family.{family_of}
use Rattle.script_tokens.specs.Number.{number_of}
use Rattle.script_tokens.specs.Table.{edge_numbered, native_kind_of, target_of}

-- target T
unfoldable pub target_form : TokenList → Option LineReading
target_form (word ∷ []) = do
  target ← target_of word
  says (Target target)
target_form _ = None

-- support K, unsupport K
unfoldable pub support_form : Bool → TokenList → Option LineReading
support_form value (word ∷ []) = do
  kind ← native_kind_of word
  says (Support kind value)
support_form value _ = None

-- a cost of an edge, which is 1 to 1,000
unfoldable pub cost_of : List ℕ → Option ℕ
cost_of token = do
  cost ← number_of token
  if is_edge_cost cost then Some cost else None

-- cost E N
unfoldable pub cost_form : TokenList → Option LineReading
cost_form (token ∷ number ∷ []) = do
  place ← number_of token
  edge ← edge_numbered place
  cost ← cost_of number
  says (Cost edge cost)
cost_form _ = None

-- on F, off F
unfoldable pub switch_form : Bool → TokenList → Option LineReading
switch_form value (word ∷ []) = do
  family ← family_of word
  says (Switch family value)
switch_form value _ = None
