-- What was written for the lines done, whole or in part.
use Rattle.std.proofs.Common.{◌≡◌, ℕ, ◌+◌, Bool, false, ◌||◌, List, [], ◌∷◌, ◌++◌, length, take, sym, subst, Option, arith}
use Rattle.std.proofs.lemmas.List.{length-append, take_all}
use Rattle.std.proofs.Math.Seq.{take-append-add}
use Rattle.edit_engine.specs.LinesLaws.{Answers-append, Answers-none, Answers-one}
use Rattle.io_face.specs.Sink.{Adds, AddsPrefix}
use Rattle.io_face.specs.SinkLaws.{Adds-empty, Adds-append}
use Rattle.moi_run.specs.Answering.{Hears, WritesAnswers}
use Rattle.moi_run.specs.RunState.{RunState}
use Rattle.moi_run.proofs.Moving.{through_more, through_none}

-- a whole text begins itself
pub begun_whole : (old new : Option (List ℕ)) (text : List ℕ) → Adds old new text
    → AddsPrefix old new text
begun_whole old new text adds = (
  length text,
  omega arith,
  subst (Adds old new)
      (sym (take_all (length text) text (omega arith))) adds,
)

-- a whole text and then the beginning of another
begun_more : (old mid new : Option (List ℕ)) (text part : List ℕ) → Adds old mid text
    → AddsPrefix mid new part → AddsPrefix old new (text ++ part)
begun_more old mid new text part adds begun = (
  length text + begun.0,
  omega (arith, begun.1, length-append text part),
  subst (Adds old new) (sym (take-append-add text part begun.0))
      (Adds-append old mid new text (take begun.0 part) adds begun.2),
)

-- the answer to a line behind those to others
answered_more : {start s s' : RunState} {done : List (List ℕ)} {refused was : Bool} {line : List ℕ}
    (first second both : List ℕ → Type 0)
    → ((text part : List ℕ) → first text → second part → both (text ++ part))
    → WritesAnswers start done refused s first → Hears s line was s' second
    → WritesAnswers start (done ++ line ∷ []) (refused || was) s' both
answered_more first second both join answered hears = record {
  text = answered.text ++ hears.text;
  answers = Answers-append answered.answers (Answers-one hears.moves.steps hears.prints);
  written = join answered.text hears.text answered.written hears.written;
  moves = through_more answered.moves hears.moves hears.prints;
}

pub whole_more : {start s s' : RunState} {done : List (List ℕ)} {refused was : Bool} {line : List ℕ}
    (old mid new : Option (List ℕ))
    → WritesAnswers start done refused s (Adds old mid) → Hears s line was s' (Adds mid new)
    → WritesAnswers start (done ++ line ∷ []) (refused || was) s' (Adds old new)
whole_more old mid new =
    answered_more (Adds old mid) (Adds mid new) (Adds old new) (Adds-append old mid new)

pub part_more : {start s s' : RunState} {done : List (List ℕ)} {refused was : Bool} {line : List ℕ}
    (old mid new : Option (List ℕ))
    → WritesAnswers start done refused s (Adds old mid) → Hears s line was s' (AddsPrefix mid new)
    → WritesAnswers start (done ++ line ∷ []) (refused || was) s' (AddsPrefix old new)
part_more old mid new =
    answered_more (Adds old mid) (AddsPrefix mid new) (AddsPrefix old new) (begun_more old mid new)

pub answers_begun : {start s : RunState} {done : List (List ℕ)} {refused : Bool}
    (old new : Option (List ℕ)) → WritesAnswers start done refused s (Adds old new)
    → WritesAnswers start done refused s (AddsPrefix old new)
answers_begun old new answered =
    record {
      text = answered.text;
      answers = answered.answers;
      written = begun_whole old new answered.text answered.written;
      moves = answered.moves;
    }

pub hears_begun : {s s' : RunState} {line : List ℕ} {was : Bool} (old new : Option (List ℕ))
    → Hears s line was s' (Adds old new) → Hears s line was s' (AddsPrefix old new)
hears_begun old new hears =
    record {
      answer = hears.answer;
      text = hears.text;
      moves = hears.moves;
      prints = hears.prints;
      written = begun_whole old new hears.text hears.written;
    }

pub answers_nothing : (s : RunState) (old : Option (List ℕ))
    → WritesAnswers s [] false s (Adds old old)
answers_nothing s old = record {
  text = [];
  answers = Answers-none;
  written = Adds-empty old;
  moves = through_none s;
}

-- the answers to these lines are those to lines that are the same
pub same_lines : {start s : RunState} {refused : Bool} {wrote : List ℕ → Type 0}
    (done done' : List (List ℕ)) → done' ≡ done → WritesAnswers start done refused s wrote
    → WritesAnswers start done' refused s wrote
same_lines {start} {s} {refused} {wrote} done done' same =
    subst (λ ls. WritesAnswers start ls refused s wrote) (sym same)
