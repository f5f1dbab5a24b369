-- One turn of the work on an input, whichever kind of line came.
use Rattle.std.proofs.Common.{◌≡◌, ◌≢◌, ℕ, Bool, true, false, ◌||◌, cond, List, [], ◌∷◌, ◌++◌, refl, sym, ◌∙◌, ap, subst, Option, Some, append_assoc, IfSome, Result, Ok, Err}
use Rattle.std.specs.List.{list_any}
use Rattle.std.specs.Str.Lines.{lines}
use Rattle.std.proofs.lemmas.List.Folds.{list_any-append}
use Rattle.edit_engine.specs.Lines.{heard, says_quit}
use Rattle.edit_engine.specs.LinesLaws.{heard-append}
use Rattle.io_face.specs.Sink.{Adds, AddsPrefix}
use Rattle.io_face.specs.SourceLaws.{Takes-all}
use Rattle.moi_run.specs.Answering.{BeginsAnswers, Hears, HearsBy, StopsAtFile, StopsAtWrite}
use Rattle.moi_run.specs.Input.{Ends}
use Rattle.moi_run.specs.Status.{status_of}
use Rattle.moi_run.specs.RunState.{IsStill, MovesByLine, RunState}
use Rattle.moi_run.specs.declared.status.Status.{Status}
use Rattle.moi_run.specs.declared.status.Status.TheVariants.{Memory}
use Rattle.moi_run.specs.declared.stop.RunStop.{RunStop}
use Rattle.moi_run.proofs.Each.{begins_in, cut_at, each_begins, each_begins_at_stop, stops_at}
use Rattle.moi_run.proofs.Standing.{GivenAs, Standing, ends_at_last, ends_at_quit, given_more, told_left}
use Rattle.moi_run.proofs.Written.{whole_more}
use Rattle.report_core.specs.declared.answer.Answer.{Answer}
use Rattle.line_reader.specs.LinesLaws.{lines-unended}
use Rattle.line_reader.specs.Reading.{Buffered, rest_of, GivesLine, GivesLastLine}
use Rattle.line_reader.specs.ReadingLaws.{told_weaker}
use Rattle.line_reader.specs.declared.line_reader.Next.{Next}
use Rattle.line_reader.specs.declared.line_reader.Next.TheVariants as came
use Rattle.line_reader.specs.declared.line_reader.ReadStop.{ReadStop}

-- ---- between two lines

pub begins_so_far : (all : Option (List ℕ)) (start : RunState) (reader : Buffered)
    (left : Option (List ℕ)) (s new : RunState) (refused : Bool) (old written : Option (List ℕ))
    (end : Status)
    → Standing all start reader left s refused old written → (end ≢ Memory → IsStill s new)
    → IfSome all (λ bytes. BeginsAnswers start (heard (lines bytes)) end new
    (AddsPrefix old written))
begins_so_far all start reader left s new refused old written end standing stands =
    let done = standing.done in
    told_left _ all (rest_of reader left) standing.given standing.front.kept (λ rest told.
    each_begins refused end (heard (lines (standing.given ++ rest))) done (heard (lines rest)) start
    s new old written (ap heard (standing.front.lines_on rest)
    ∙ heard-append done (lines rest) standing.no_quit) standing.answered stands)

-- ---- at a line

-- what a read that gave a line says, and that the line is the one that was answered
pub record Gives (next : Next) (reader : Buffered) (left : Option (List ℕ)) (reader' : Buffered)
    (left' : Option (List ℕ)) (line seen : List ℕ) : Type 0 where
  pub not_end : next ≡ came.End → ⊥
  pub whole : next ≡ came.Line → GivesLine reader left reader' left' line
  pub last : next ≡ came.LastLine → GivesLastLine reader left left' line
  pub same : seen ≡ line

-- by what the read says of the line that it gave
pub gives_by : {next : Next} {reader reader' : Buffered} {left left' : Option (List ℕ)}
    {line seen : List ℕ} → (next ≡ came.End → ⊥)
    → (◌≡◌ {A = Result Next ReadStop} (Ok next) (Ok came.Line)
    → GivesLine reader left reader' left' line)
    → (◌≡◌ {A = Result Next ReadStop} (Ok next) (Ok came.LastLine)
    → GivesLastLine reader left left' line) → seen ≡ line
    → Gives next reader left reader' left' line seen
gives_by not_end whole last same = record {
  not_end = not_end;
  whole = λ is. whole (ap Ok is);
  last = λ is. last (ap Ok is);
  same = same;
}

-- the lines done are heard, and this one behind them
Reached : List (List ℕ) → List ℕ → List ℕ → Type 0
Reached done line bytes = (more : List (List ℕ)) × (heard (lines bytes) ≡ done ++ line ∷ more)

reached : (done : List (List ℕ)) (line : List ℕ) (more : List (List ℕ)) (bytes : List ℕ)
    → list_any says_quit done ≡ false → lines bytes ≡ done ++ line ∷ more → Reached done line bytes
unfolding Reached
reached done line more bytes no_quit is = (
  cond (says_quit line) [] (heard more),
  ap heard is ∙ heard-append done (line ∷ more) no_quit,
)

reached_in_turn : (next : Next) (all : Option (List ℕ)) (start : RunState) (reader reader' : Buffered)
    (left left' : Option (List ℕ)) (s : RunState) (refused : Bool) (old mid : Option (List ℕ))
    (line seen : List ℕ) → Gives next reader left reader' left' line seen
    → (standing : Standing all start reader left s refused old mid)
    → IfSome all (Reached standing.done seen)
reached_in_turn came.End all start reader reader' left left' s refused old mid line seen gives
    standing = absurd (gives.not_end refl)
reached_in_turn came.Line all start reader reader' left left' s refused old mid line seen gives
    standing =
    let done = standing.done in
    let now : GivesLine reader left reader' left' seen =
    subst (GivesLine reader left reader' left') (sym gives.same) (gives.whole refl) in
    let given : List ℕ = standing.given ++ (now.raw ++ 10 ∷ []) in
    let front : GivenAs all reader' left' given (done ++ seen ∷ []) =
    given_more standing.front now in
    told_left _ all (rest_of reader' left') given front.kept (λ rest told.
    reached done seen (lines rest) (given ++ rest) standing.no_quit
    (front.lines_on rest ∙ append_assoc done (seen ∷ []) (lines rest)))
reached_in_turn came.LastLine all start reader reader' left left' s refused old mid line seen gives
    standing =
    let done = standing.done in
    let now : GivesLastLine reader left left' seen =
    subst (GivesLastLine reader left left') (sym gives.same) (gives.last refl) in
    told_left _ all (rest_of reader left) standing.given standing.front.kept (λ rest told.
    reached done seen [] (standing.given ++ rest) standing.no_quit
    (standing.front.lines_on rest ∙ ap (λ r. done ++ lines r)
    (Takes-all (Some rest) left' seen (sym told ∙ now.kept) now.end)
    ∙ ap (λ ls. done ++ ls) (lines-unended seen now.unended now.some)))

-- within the answer to the line, or after it
pub begins_in_turn : (next : Next) (all : Option (List ℕ)) (start : RunState) (reader reader' : Buffered)
    (left left' : Option (List ℕ)) (s after new : RunState) (refused was : Bool)
    (old mid written : Option (List ℕ)) (line seen : List ℕ) (end : Status)
    → Gives next reader left reader' left' line seen
    → Standing all start reader left s refused old mid
    → Hears s seen was after (AddsPrefix mid written) → (end ≢ Memory → IsStill after new)
    → IfSome all (λ bytes. BeginsAnswers start (heard (lines bytes)) end new
    (AddsPrefix old written))
unfolding Reached
begins_in_turn next all start reader reader' left left' s after new refused was old mid written line
    seen end gives standing hears stands =
    told_weaker _ _ all
    (λ bytes at. begins_in at.0 old mid written at.1 standing.answered hears stands)
    (reached_in_turn next all start reader reader' left left' s refused old mid line seen gives
    standing)

-- where its answer stopped the work
pub begins_at_stop : (reason : RunStop) (answer : Status) (next : Next) (all : Option (List ℕ))
    (start : RunState) (reader reader' : Buffered) (left left' : Option (List ℕ)) (s s' : RunState)
    (refused : Bool) (old mid written : Option (List ℕ)) (line seen : List ℕ) → answer ≡ status_of
    reason → HearsBy (Err reason) s seen s' mid written
    → Gives next reader left reader' left' line seen
    → Standing all start reader left s refused old mid
    → IfSome all (λ bytes. BeginsAnswers start (heard (lines bytes)) answer s'
    (AddsPrefix old written))
unfolding Reached
begins_at_stop reason answer next all start reader reader' left left' s s' refused old mid written
    line seen is hears gives standing =
    told_weaker _ _ all (λ bytes at. each_begins_at_stop reason answer (heard (lines bytes))
    standing.done seen at.0 start s s' refused old mid written is at.1 standing.answered hears)
    (reached_in_turn next all start reader reader' left left' s refused old mid line seen gives
    standing)

-- where it asks for a file and the shelf stopped the work
pub stops_in_turn : (next : Next) (all : Option (List ℕ)) (start : RunState) (reader reader' : Buffered)
    (left left' : Option (List ℕ)) (s new : RunState) (refused : Bool)
    (old mid written : Option (List ℕ)) (line seen : List ℕ) (stopped : Answer)
    → Gives next reader left reader' left' line seen
    → Standing all start reader left s refused old mid → MovesByLine s seen stopped new
    → written ≡ mid
    → IfSome all (λ bytes. StopsAtFile start (heard (lines bytes)) stopped new (Adds old written))
unfolding Reached
stops_in_turn next all start reader reader' left left' s new refused old mid written line seen
    stopped gives standing steps same =
    told_weaker _ _ all
    (λ bytes at. stops_at seen at.0 old mid written at.1 standing.answered steps same)
    (reached_in_turn next all start reader reader' left left' s refused old mid line seen gives
    standing)

-- where the sink stopped the work in the midst of its answer
pub cut_in_turn : (next : Next) (all : Option (List ℕ)) (start : RunState) (reader reader' : Buffered)
    (left left' : Option (List ℕ)) (s new : RunState) (refused was : Bool)
    (old mid written : Option (List ℕ)) (line seen : List ℕ)
    → Gives next reader left reader' left' line seen
    → Standing all start reader left s refused old mid
    → Hears s seen was new (AddsPrefix mid written)
    → IfSome all (λ bytes. StopsAtWrite start (heard (lines bytes)) new (Adds old written))
unfolding Reached
cut_in_turn next all start reader reader' left left' s new refused was old mid written line seen
    gives standing hears =
    told_weaker _ _ all
    (λ bytes at. cut_at seen at.0 old mid written at.1 standing.answered hears)
    (reached_in_turn next all start reader reader' left left' s refused old mid line seen gives
    standing)

-- where it ends the run
pub ends_in_turn : (next : Next) (all : Option (List ℕ)) (start : RunState) (reader reader' : Buffered)
    (left left' : Option (List ℕ)) (s s' : RunState) (refused was : Bool)
    (old mid new : Option (List ℕ)) (line seen : List ℕ)
    → Gives next reader left reader' left' line seen
    → Standing all start reader left s refused old mid → says_quit seen ≡ true
    → Hears s seen was s' (Adds mid new)
    → IfSome all (λ bytes. Ends bytes left' (refused || was) start s' (Adds old new))
ends_in_turn came.End all start reader reader' left left' s s' refused was old mid new line seen
    gives standing quit hears = absurd (gives.not_end refl)
ends_in_turn came.Line all start reader reader' left left' s s' refused was old mid new line seen
    gives standing quit hears =
    ends_at_quit all start reader reader' left left' s s' refused was old mid new seen standing
    (subst (GivesLine reader left reader' left') (sym gives.same) (gives.whole refl)) quit hears
ends_in_turn came.LastLine all start reader reader' left left' s s' refused was old mid new line
    seen gives standing quit hears =
    ends_at_last all start reader left left' s s' refused was old mid new line seen
    (gives.last refl) gives.same standing hears

-- where the work goes on
pub standing_after_turn : (next : Next) (all : Option (List ℕ)) (start : RunState)
    (reader reader' : Buffered) (left left' : Option (List ℕ)) (s s' : RunState) (refused was : Bool)
    (old mid new : Option (List ℕ)) (line seen : List ℕ)
    → Gives next reader left reader' left' line seen
    → (next ≡ came.LastLine → ⊥) → Standing all start reader left s refused old mid
    → says_quit seen ≡ false → Hears s seen was s' (Adds mid new)
    → Standing all start reader' left' s' (refused || was) old new
standing_after_turn came.End all start reader reader' left left' s s' refused was old mid new line
    seen gives goes_on standing quit hears = absurd (gives.not_end refl)
standing_after_turn came.LastLine all start reader reader' left left' s s' refused was old mid new
    line seen gives goes_on standing quit hears = absurd (goes_on refl)
standing_after_turn came.Line all start reader reader' left left' s s' refused was old mid new line
    seen gives goes_on standing quit hears =
    let now : GivesLine reader left reader' left' seen =
    subst (GivesLine reader left reader' left') (sym gives.same) (gives.whole refl) in
    record {
      given = standing.given ++ (now.raw ++ 10 ∷ []);
      done = standing.done ++ seen ∷ [];
      front = given_more standing.front now;
      no_quit = list_any-append says_quit standing.done (seen ∷ [])
          ∙ ap (λ b. b || (says_quit seen || false)) standing.no_quit ∙ ap (λ b. b || false) quit;
      answered = whole_more old mid new standing.answered hears;
    }
