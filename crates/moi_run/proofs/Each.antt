-- Given lines, answered one after another.
use Rattle.std.proofs.Common.{◌≡◌, ℕ, ◌+◌, ◌<◌, Bool, ◌||◌, List, [], ◌∷◌, ◌++◌, length, take, drop, get_or, refl, sym, ◌∙◌, ap, subst, inl, inr, Option, Err, append_assoc}
use Rattle.std.specs.Prelude.{map}
use Rattle.std.proofs.lemmas.List.{drop_more, map-append, map_more, take-append-drop}
use Rattle.io_face.specs.Sink.{Adds, AddsPrefix}
use Rattle.io_face.specs.SinkLaws.{Adds-append}
use Rattle.moi_run.specs.Answering.{BeginsAnswers, Hears, HearsBy, StopsAtFile, StopsAtWrite, WritesAnswers}
use Rattle.moi_run.specs.Run.{EachOutcome}
use Rattle.moi_run.specs.Status.{status_of}
use Rattle.moi_run.specs.RunState.{IsStill, MovesByLine, RunState}
use Rattle.moi_run.specs.declared.status.Status.{Status}
use Rattle.moi_run.specs.declared.status.Status.TheVariants.{Memory}
use Rattle.moi_run.specs.declared.stop.RunStop.{RunStop}
use Rattle.moi_run.specs.declared.stop.RunStop.TheVariants as stop
use Rattle.moi_run.proofs.Exits.{stays_at_fault, stays_at_limit}
use Rattle.moi_run.proofs.Moving.{still}
use Rattle.moi_run.proofs.Written.{answers_begun, part_more, whole_more}
use Rattle.report_core.specs.declared.answer.Answer.{Answer}

-- ---- the line at a place

pub lines_around : {X : Type 0} (f : X → List ℕ) (lines : List X) (i : ℕ) (d : X) → i < length lines
    → map f lines ≡ map f (take i lines) ++ f (get_or lines i d) ∷ map f (drop (i + 1) lines)
lines_around f lines i d low =
    ap (map f) (sym (take-append-drop i lines) ∙ ap (λ rest. take i lines ++ rest)
    (drop_more lines i d low)) ∙ map-append f (take i lines)
    (get_or lines i d ∷ drop (i + 1) lines)

pub each_more : {X : Type 0} (f : X → List ℕ) (lines : List X) (i : ℕ) (d : X) → i < length lines
    → (start s new : RunState) (refused any was : Bool) (old mid written : Option (List ℕ))
    → any ≡ was
    → WritesAnswers start (map f (take i lines)) refused s (Adds old mid)
    → Hears s (f (get_or lines i d)) was new (Adds mid written)
    → WritesAnswers start (map f (take (i + 1) lines)) (refused || any) new (Adds old written)
each_more f lines i d low start s new refused any was old mid written same answered heard =
    subst (λ ls. WritesAnswers start ls (refused || any) new (Adds old written))
    (sym (map_more f lines i d low))
    (subst (λ b. WritesAnswers start (map f (take i lines) ++ f (get_or lines i d) ∷ [])
    (refused || b) new (Adds old written)) (sym same)
    (whole_more old mid written answered heard))

-- ---- all were answered

pub each_begins : (refused : Bool) (answer : Status) (lines done more : List (List ℕ))
    (start s new : RunState) (old written : Option (List ℕ)) → lines ≡ done ++ more
    → WritesAnswers start done refused s (Adds old written) → ((answer ≡ Memory → ⊥) → IsStill s new)
    → BeginsAnswers start lines answer new (AddsPrefix old written)
each_begins refused answer lines done more start s new old written front answered stands = record {
  done = done;
  more = more;
  front = front;
  refused = refused;
  after = s;
  answered = answers_begun old written answered;
  stands = stands;
}

-- ---- the answer to a line stopped the work

pub stops_at : {stopped : Answer} {lines done : List (List ℕ)} {start s new : RunState}
    {refused : Bool} (line : List ℕ) (more : List (List ℕ)) (old mid written : Option (List ℕ))
    → lines ≡ done ++ line ∷ more → WritesAnswers start done refused s (Adds old mid)
    → MovesByLine s line stopped new → written ≡ mid
    → StopsAtFile start lines stopped new (Adds old written)
stops_at {done} {start} {s} {refused} line more old mid written front
    answered moves same = record {
      done = done;
      line = line;
      more = more;
      front = front;
      refused = refused;
      after = s;
      answered = subst (λ w. WritesAnswers start done refused s (Adds old w)) (sym same) answered;
      moves = moves;
    }

-- the sink did in the midst of it
pub cut_at : {lines done : List (List ℕ)} {start s new : RunState} {refused was : Bool}
    (line : List ℕ) (more : List (List ℕ)) (old mid written : Option (List ℕ))
    → lines ≡ done ++ line ∷ more → WritesAnswers start done refused s (Adds old mid)
    → Hears s line was new (AddsPrefix mid written)
    → StopsAtWrite start lines new (Adds old written)
cut_at {done} {start} {s} {refused} {was} line more old mid written front answered hears = record {
  done = done;
  line = line;
  more = more;
  front = front;
  refused = refused;
  after = s;
  text = answered.text;
  answers = answered.answers;
  moves = answered.moves;
  was = was;
  hears = record {
    answer = hears.answer;
    text = hears.text;
    moves = hears.moves;
    prints = hears.prints;
    written = (
      hears.written.0,
      hears.written.1,
      Adds-append old mid written answered.text (take hears.written.0 hears.text)
          answered.written hears.written.2,
    );
  };
}

pub each_at_stop : (reason : RunStop) (answer : Status) (lines done : List (List ℕ)) (line : List ℕ)
    (more : List (List ℕ)) (start s new : RunState) (refused : Bool)
    (old mid written : Option (List ℕ))
    → answer ≡ status_of reason → lines ≡ done ++ line ∷ more
    → WritesAnswers start done refused s (Adds old mid)
    → HearsBy (Err reason) s line new mid written
    → EachOutcome answer lines start new (Adds old written)
each_at_stop reason answer lines done line more start s new refused old mid written is front
    answered heard =
    subst (λ a. EachOutcome a lines start new (Adds old written)) (sym is) (by reason heard)
  where
    by : (why : RunStop) → HearsBy (Err why) s line new mid written
        → EachOutcome (status_of why) lines start new (Adds old written)
    by stop.ReadFault at = stops_at line more old mid written front answered at.0 at.1
    by stop.TooLong at = stops_at line more old mid written front answered at.0 at.1
    by stop.WriteFault at = cut_at line more old mid written front answered at.1
    by stop.Memory at = tt

-- the lines before it, and a part of its answer
pub begins_in : {answer : Status} {lines done : List (List ℕ)} {line : List ℕ}
    {start s after new : RunState} {refused was : Bool} (more : List (List ℕ))
    (old mid written : Option (List ℕ)) → lines ≡ done ++ line ∷ more
    → WritesAnswers start done refused s (Adds old mid)
    → Hears s line was after (AddsPrefix mid written) → ((answer ≡ Memory → ⊥) → IsStill after new)
    → BeginsAnswers start lines answer new (AddsPrefix old written)
begins_in {done} {line} {after} {refused} {was} more old mid
    written front answered heard stands = record {
      done = done ++ line ∷ [];
      more = more;
      front = front ∙ sym (append_assoc done (line ∷ []) more);
      refused = refused || was;
      after = after;
      answered = part_more old mid written answered heard;
      stands = stands;
    }

pub each_begins_at_stop : (reason : RunStop) (answer : Status) (lines done : List (List ℕ))
    (line : List ℕ) (more : List (List ℕ)) (start s new : RunState) (refused : Bool)
    (old mid written : Option (List ℕ))
    → answer ≡ status_of reason → lines ≡ done ++ line ∷ more
    → WritesAnswers start done refused s (Adds old mid)
    → HearsBy (Err reason) s line new mid written
    → BeginsAnswers start lines answer new (AddsPrefix old written)
each_begins_at_stop reason answer lines done line more start s new refused old mid written is front
    answered heard = by reason is heard
  where
    before : written ≡ mid → ((answer ≡ Memory → ⊥) → IsStill s new)
        → BeginsAnswers start lines answer new (AddsPrefix old written)
    before same = each_begins refused answer lines done (line ∷ more) start s new old written front
        (subst (λ w. WritesAnswers start done refused s (Adds old w)) (sym same) answered)

    by : (why : RunStop) → answer ≡ status_of why → HearsBy (Err why) s line new mid written
        → BeginsAnswers start lines answer new (AddsPrefix old written)
    by stop.ReadFault is at = before at.1 (λ _. stays_at_fault s new line at.0)
    by stop.TooLong is at = before at.1 (λ _. stays_at_limit s new line at.0)
    by stop.WriteFault is at = begins_in more old mid written front answered at.1 (λ _. still new)
    by stop.Memory is (inl same) = before same (λ ne. absurd (ne is))
    by stop.Memory is (inr at) =
        begins_in more old mid written front answered at.2 (λ ne. absurd (ne is))
