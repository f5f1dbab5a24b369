-- One text: from one machine the same lines are answered by one text, and leave one machine.
--     OneText      the law
use Rattle.std.specs.Prelude.{◌≡◌, ◌++◌, ◌||◌, ℕ, Bool, true, false, List, [], ◌∷◌, All, refl}
use Rattle.std.proofs.Common.{ap, ap₂, subst, sym, ◌∙◌}
use Rattle.std.proofs.lemmas.List.Elements.{All-head, All-tail}
use Rattle.bridge_graph.specs.Hypergraph.{IsCostly}
use Rattle.cache_layer.specs.CacheState.{CacheState}
use Rattle.edit_engine.specs.Lines.{Answers, Prints, accepted, next, none, quit, refusal, silent}
use Rattle.edit_engine.specs.Script.{Machine, Steps, group_after, moved}
use Rattle.fresh_bridging.specs.TheRules.{graph_of}
use Rattle.io_face.specs.Told.{Told}
use Rattle.report_core.specs.declared.answer.Answer.{Answer}
use Rattle.report_core.specs.declared.answer.Answer.TheVariants.{Printed, Refused}
use Rattle.script_core.specs.Line.{line_said}
use Rattle.one_answer_laws.specs.CostLaws.{line_some}
use Rattle.one_answer_laws.specs.OneStepLaws.{GoesOn, IsFileKnown, said_costly, said_once}

-- where one of the lines loads a file, the shelf tells its files
abbrev pub AreKnown : Told → List (List ℕ) → Type 0
AreKnown shelf lines = All (λ line. IsFileKnown shelf (line_said line)) lines

-- one text, one word on whether a line was refused, and one machine
abbrev pub OneText : Type 0
OneText =
    (start : Machine) → IsCostly (graph_of start.state.setting) → (lines : List (List ℕ))
    → AreKnown start.shelf lines → (text other : List ℕ) (any was : Bool) (new after : Machine)
    → Answers start lines text any new → Answers start lines other was after
    → (text ≡ other) × (any ≡ was) × (new ≡ after)

-- ---- what is printed

abbrev printed_text : Answer → List ℕ
printed_text (Printed text) = text
printed_text (Refused text) = text
printed_text answer = []

abbrev is_refusal : Answer → Bool
is_refusal (Refused text) = true
is_refusal answer = false

record IsPrinted (answer : Answer) (text : List ℕ) (was : Bool) : Type 0 where
  pub same_text : text ≡ printed_text answer
  pub same_was : was ≡ is_refusal answer
  pub goes_on : GoesOn answer

is_printed : {answer : Answer} {text : List ℕ} {was : Bool} → Prints answer text was
    → IsPrinted answer text was
is_printed silent = record { same_text = refl; same_was = refl; goes_on = tt }
is_printed accepted = record { same_text = refl; same_was = refl; goes_on = tt }
is_printed refusal = record { same_text = refl; same_was = refl; goes_on = tt }
is_printed quit = record { same_text = refl; same_was = refl; goes_on = tt }

-- ---- lines

-- a line leaves one machine, which is as dear and has the same shelf
record LeavesOne (m new after : Machine) (a b : Answer) : Type 0 where
  pub answer : a ≡ b
  pub machine : new ≡ after
  pub costly : IsCostly (graph_of after.state.setting)
  pub shelf : after.shelf ≡ m.shelf

step_once : (m : Machine) → IsCostly (graph_of m.state.setting) → (line : List ℕ)
    → IsFileKnown m.shelf (line_said line) → (a b : Answer) (new after : Machine) → GoesOn a
    → GoesOn b → Steps m line a new → Steps m line b after → LeavesOne m new after a b
step_once m costly line known a b new after on on_too h k =
    let one = said_once m costly new.state after.state a b on on_too (line_said line)
    (line_some line) known h.0 k.0
    in record {
      answer = one.0;
      machine =
          h.1
          ∙ ap₂ (λ (s : CacheState) (said : Answer). moved m s (group_after m.group (line_said line) said))
          one.1 one.0
          ∙ sym k.1;
      costly = said_costly m costly after.state b (line_said line) (line_some line) k.0;
      shelf = ap (λ (n : Machine). n.shelf) k.1;
    }

pub one_text : (start : Machine) → IsCostly (graph_of start.state.setting)
    → (lines : List (List ℕ)) → AreKnown start.shelf lines → (text other : List ℕ)
    (any was : Bool) (new after : Machine) → Answers start lines text any new
    → Answers start lines other was after → (text ≡ other) × (any ≡ was) × (new ≡ after)
one_text start costly [] known text other any was new after none none = (refl, refl, refl)
one_text start costly (line ∷ lines) known text other any was new after
    (next {middle = m} {text = t} {more = more} {answer = a} {was = w} {any = v} steps prints rest)
    (next {middle = n} {text = u} {more = further} {answer = b} {was = x} {any = y} stepped printed
    left) =
    let p = is_printed prints in
    let q = is_printed printed in
    let one = step_once start costly line
    (All-head (λ l. IsFileKnown start.shelf (line_said l)) line lines known) a b m n p.goes_on q.goes_on steps
    stepped in
    let others = one_text n one.costly lines
    (subst (λ shelf. AreKnown shelf lines) (sym one.shelf)
    (All-tail (λ l. IsFileKnown start.shelf (line_said l)) line lines known))
    more further v y new after (subst (λ k. Answers k lines more v new) one.machine rest) left in (
      ap₂ (λ f r. f ++ r) (p.same_text ∙ ap printed_text one.answer ∙ sym q.same_text) others.0,
      ap₂ (λ f r. f || r) (p.same_was ∙ ap is_refusal one.answer ∙ sym q.same_was) others.1,
      others.2,
    )
