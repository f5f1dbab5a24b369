-- One answer: two sessions that are the same to their users answer an optimise alike, and a look at
-- the solver's model, whatever lines led there. Running out of memory alone is free.
use Rattle.std.specs.Prelude.{◌≡◌, ◌≢◌, ℕ, List, None, Result, Ok, unwrap_or}
use Rattle.std.proofs.Common.{subst, sym}
use Rattle.bridge_graph.specs.Hypergraph.{IsCostly}
use Rattle.cache_layer.specs.CacheState.{CacheState}
use Rattle.edit_engine.specs.LinesLaws.{does_alone}
use Rattle.edit_engine.specs.Script.{DoesSaid, Machine, Optimizes, Steps}
use Rattle.fresh_bridging.specs.TheRules.{graph_of}
use Rattle.report_core.specs.declared.answer.Answer.{Answer}
use Rattle.report_core.specs.declared.answer.Answer.TheVariants.{Memory}
use Rattle.script_core.specs.Line.{line_said}
use Rattle.script_core.specs.declared.command.Command.{Command}
use Rattle.script_core.specs.declared.command.Command.TheVariants as line
use Rattle.script_core.specs.declared.fault.LineFault.{LineFault}
use Rattle.one_answer_laws.specs.AlikeLaws.{AreAlike, optimize_alike, show_alike}

-- the line asks for an optimise, or for the solver's model
abbrev pub AsksForSolver : Result Command LineFault → Type 0
AsksForSolver (Ok (line.Optimize own)) = Unit {0}
AsksForSolver (Ok line.Bridged) = Unit {0}
AsksForSolver _ = ⊥

-- two sessions that are the same to their users, with one allowance of pivots and no open group
pub record AreTwins (one other : Machine) : Type 0 where
  pub state : AreAlike one.state other.state
  pub alone : one.group ≡ None
  pub other_alone : other.group ≡ None
  pub pivots : one.pivots ≡ other.pivots

-- their answers to such a line are the same, unless memory runs out
abbrev pub OneAnswer : Type 0
OneAnswer =
    (one other : Machine) → AreTwins one other → IsCostly (graph_of one.state.setting)
    → (line : List ℕ) → AsksForSolver (line_said line) → (a b : Answer) (new after : Machine)
    → a ≢ Memory
    → b ≢ Memory → Steps one line a new → Steps other line b after → a ≡ b

module _ (one other : Machine) (twins : AreTwins one other)
    (costly : IsCostly (graph_of one.state.setting)) where
  said_alike : (said : Result Command LineFault) (a b : Answer) (new after : CacheState)
      → AsksForSolver said
      → a ≢ Memory → b ≢ Memory → DoesSaid one said a new → DoesSaid other said b after → a ≡ b
  said_alike (Ok (line.Optimize own)) a b new after asks m n h k =
      optimize_alike one.state other.state twins.state costly (unwrap_or own one.pivots) a b new
      after m n (does_alone one (line.Optimize own) new a twins.alone h)
      (subst (λ pivots. Optimizes other.state (unwrap_or own pivots) b after) (sym twins.pivots)
      (does_alone other (line.Optimize own) after b twins.other_alone k))
  said_alike (Ok line.Bridged) a b new after asks m n h k =
      show_alike one.state other.state twins.state costly a b new after
      (does_alone one line.Bridged new a twins.alone h)
      (does_alone other line.Bridged after b twins.other_alone k)
  said_alike _ a b new after asks m n h k = absurd asks

pub one_answer : (one other : Machine) → AreTwins one other
    → IsCostly (graph_of one.state.setting) → (line : List ℕ) → AsksForSolver (line_said line)
    → (a b : Answer) (new after : Machine) → a ≢ Memory → b ≢ Memory → Steps one line a new
    → Steps other line b after → a ≡ b
one_answer one other twins costly line asks a b new after m n h k =
    said_alike one other twins costly (line_said line) a b new.state after.state asks m n h.0 k.0
