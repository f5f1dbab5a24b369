-- Steps of the script machine, from what calls gave and what was printed.
use Rattle.std.specs.Prelude.{◌≡◌, ◌↔◌, ℕ, IfSome, IsNone, Bool, true, false, List, Option, Some, None, Result, Ok, Err, IfOk, refl}
use Rattle.std.specs.Result.{result_unwrap_or}
use Rattle.std.proofs.Common.{ap, sym, subst, inl, inr, true≢false, ◌∙◌}
use Rattle.lists.specs.declared.memory.Memory.{Memory as NoMemory}
use Rattle.bridge_graph.specs.Hypergraph.{Hypergraph}
use Rattle.bridge_graph.specs.Tree.{IsLeastCost, IsTreeless}
use Rattle.bridge_graph.specs.declared.Choice.{Choice}
use Rattle.bridged_report.specs.Lines.{bridged_text}
use Rattle.cache_layer.specs.CacheState.{Bridging, CacheState, leaves}
use Rattle.fresh_bridging.specs.TheRules.{graph_of}
use Rattle.report_core.specs.Plan.{plan_text}
use Rattle.report_core.specs.declared.answer.Answer.{Answer}
use Rattle.report_core.specs.declared.answer.Answer.TheVariants.{Memory, Printed, Quit, ReadFault, Refused, Silent, TooLong}
use Rattle.script_core.specs.Line.{line_said}
use Rattle.edit_engine.specs.Script.{Answered, AnswersPlan, AreKindChoices, DoesLine, IsCost, Machine, Makes, ShowsLeaves, Steps, TellsCall, group_after, moved}

-- what a call gave is reported
pub told : {A : Type 0} (text : A → Answer) (gives : A → CacheState → Type 0) (old new : CacheState)
    (given : A) (result : Result Answer NoMemory) → gives given new
    → IfOk result (λ answer. answer ≡ text given) → Makes (TellsCall text gives) old result new
told text gives old new given (Ok answer) h is = (given, h, is)
told text gives old new given (Err memory) h is = inr (inr (text given, (given, h, refl)))

-- a fault that a call gave is reported by its refusal
pub reported : (result : Result Answer NoMemory) (said text : Answer)
    → IfOk result (λ answer. answer ≡ said) → text ≡ said → IfOk result (λ answer. answer ≡ text)
reported (Ok answer) said text is same = is ∙ sym same
reported (Err memory) said text is same = tt

-- what the solver holds is printed
pub shows : (attached : Bool) (s : CacheState) (result : Result Answer NoMemory) → attached ≡ true
    → (b : Bridging s) → IfOk result (λ answer. answer ≡ Printed (bridged_text s.model (leaves b)))
    → Makes (ShowsLeaves attached s) s result s
shows true s (Ok answer) e b is = (b, (is, refl))
shows true s (Err memory) e b is = inl refl
shows false s result e b is = absurd (true≢false (sym e))

-- a step that was made answers its line
pub answered : (old new : Machine) (line : List ℕ) (answer : Answer) → Steps old line answer new
    → Answered old line answer new
answered old new line Silent h = h
answered old new line (Printed text) h = h
answered old new line (Refused text) h = h
answered old new line Quit h = h
answered old new line ReadFault h = h
answered old new line TooLong h = h
answered old new line Memory h = (
  inr (inr (Memory, h.0)),
  h.1 ∙ ap (moved old new.state) (sym (ap (λ (m : Machine). m.group) h.1)),
)

-- and where memory ran out, that is answered
pub answered_or : (old new : Machine) (line : List ℕ) (made : Result Answer NoMemory)
    (result : Answer) → result ≡ result_unwrap_or made Memory
    → Makes (DoesLine old line) old.state made new.state → new ≡ moved old new.state new.group
    → IfOk made (λ answer. new.group ≡ group_after old.group (line_said line) answer)
    → Answered old line result new
answered_or old new line made result is h kept group =
    subst (λ (a : Answer). Answered old line a new) (sym is) (by made h group)
  where
    by : (made : Result Answer NoMemory) → Makes (DoesLine old line) old.state made new.state
        → IfOk made (λ answer. new.group ≡ group_after old.group (line_said line) answer)
        → Answered old line (result_unwrap_or made Memory) new
    by (Ok answer) h group =
        answered old new line answer (h, kept ∙ ap (moved old new.state) group)
    by (Err memory) h group = (h, kept)

-- the choices are printed
pub plans : (s : CacheState) (choices : List (Choice × Option ℕ)) (result : Result Answer NoMemory)
    → AreKindChoices (graph_of s.setting) choices
    → IfOk result (λ answer. answer ≡ Printed (plan_text choices))
    → Makes (AnswersPlan s) s result s
plans s choices (Ok answer) h is = (choices, h, (is, refl))
plans s choices (Err memory) h is = inl refl

-- a kind's cost
pub cost_is : (graph : Hypergraph) (kind : ℕ) (cost : Option ℕ)
    → (IsNone cost ↔ IsTreeless graph kind) → IfSome cost (IsLeastCost graph kind)
    → IsCost graph kind cost
cost_is graph kind None none least = none.0 refl
cost_is graph kind (Some cost) none least = least
