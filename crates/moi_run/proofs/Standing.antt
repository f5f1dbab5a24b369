-- The lines of an input that are done, and how the work ends or stops behind them.
use Rattle.std.proofs.Common.{◌≡◌, ℕ, ◌+◌, ◌-◌, ◌<◌, ◌≤◌, Bool, true, false, ◌||◌, List, [], ◌∷◌, ◌++◌, length, take, refl, sym, ◌∙◌, ap, subst, inl, inr, Option, None, Some, append_assoc, append-nil, arith, IfSome}
use Rattle.std.specs.Prelude.{take_while, All, Any}
use Rattle.std.specs.List.{list_any}
use Rattle.std.specs.Str.Lines.{strip_carriage_return, lines}
use Rattle.std.specs.Io.KnownBytes.{prepend_known, IsAtEnd}
use Rattle.std.proofs.lemmas.List.{length-append}
use Rattle.std.proofs.lemmas.List.Elements.{All-head, All-nil, All-push, All-tail}
use Rattle.std.proofs.lemmas.List.Folds.{list_any-append}
use Rattle.std.proofs.lemmas.List.Sums.{take_while-cons}
use Rattle.std.proofs.lemmas.Bool.{cond-true, le-leb}
use Rattle.std.proofs.Math.Seq.{take-append-add, get_or-append_seam}
use Rattle.std.proofs.KnownBytes.{prepend_known-nil}
use Rattle.edit_engine.specs.Lines.{heard, says_quit}
use Rattle.edit_engine.specs.LinesLaws.{heard-append, heard_at_last, heard_at_quit}
use Rattle.io_face.specs.Sink.{Adds}
use Rattle.io_face.specs.Source.{Takes, TakesAtMost}
use Rattle.io_face.specs.SourceLaws.{Takes-all, Takes-append}
use Rattle.moi_run.specs.Answering.{Hears, WritesAnswers}
use Rattle.moi_run.specs.Input.{AnswersTaken, AnswersWithinLimits, Ends, PassesLimit, has_quit}
use Rattle.moi_run.specs.RunState.{RunState}
use Rattle.moi_run.proofs.Written.{answers_nothing, same_lines, whole_more}
use Rattle.line_reader.specs.Limits.{line_limit, input_limit}
use Rattle.line_reader.specs.Lines.{ended_lines, stripped_parts, is_short}
use Rattle.line_reader.specs.LinesLaws.{lines-ended, lines-unended, ended_lines-ended, ended_lines-unended, stripped_parts-ended, stripped_parts-unended}
use Rattle.line_reader.specs.Reading.{Buffered, allowance, rest_of, GivesLine, GivesLastLine, GivesNothing, LosesPart, IsTooLong}

-- a cut behind a front that it leaves whole
take_over : (front rest : List ℕ) (n : ℕ) → length front ≤ n
    → take n (front ++ rest) ≡ front ++ take (n - length front) rest
take_over front rest n fits =
    let parted : n ≡ length front + (n - length front) = omega arith in
    ap (λ k. take k (front ++ rest)) parted ∙ take-append-add front rest (n - length front)

-- ---- which lines are done

-- what is read off a text that begins with these bytes begins with these lines
abbrev pub BeginsBy : (List ℕ → List (List ℕ)) → List ℕ → List (List ℕ) → Type 0
BeginsBy read given done = (more : List ℕ) → read (given ++ more) ≡ done ++ read more

-- of all bytes these were given first: they are these lines, each with its newline and none too
-- long
pub record GivenAs (all : Option (List ℕ)) (reader : Buffered) (left : Option (List ℕ))
    (given : List ℕ) (done : List (List ℕ)) : Type 0 where
  pub kept : all ≡ prepend_known given (rest_of reader left)
  pub counted : input_limit ≡ length given + allowance reader
  pub lines_on : BeginsBy lines given done
  pub ended_on : BeginsBy ended_lines given done
  pub parts_on : BeginsBy stripped_parts given done
  pub short : All (λ line. length line ≤ line_limit) done

pub given_more : {all left left' : Option (List ℕ)} {reader reader' : Buffered} {given : List ℕ}
    {done : List (List ℕ)} {line : List ℕ} → GivenAs all reader left given done
    → (gives : GivesLine reader left reader' left' line)
    → GivenAs all reader' left' (given ++ (gives.raw ++ 10 ∷ [])) (done ++ line ∷ [])
given_more {all} {left} {left'} {reader} {reader'} {given} {done} {line} front gives = record {
  kept = Takes-append all (rest_of reader left) (rest_of reader' left') given (gives.raw ++ 10 ∷ [])
      front.kept gives.kept;
  counted = omega (arith, front.counted, gives.counted, length-append given (gives.raw ++ 10 ∷ []));
  lines_on = on lines front.lines_on (λ more. lines-ended gives.raw more gives.unended);
  ended_on = on ended_lines front.ended_on (λ more. ended_lines-ended gives.raw more gives.unended);
  parts_on = on stripped_parts front.parts_on
      (λ more. stripped_parts-ended gives.raw more gives.unended);
  short = All-push (λ l. length l ≤ line_limit) done line front.short gives.short;
}
  where
    on : (read : List ℕ → List (List ℕ)) → BeginsBy read given done
        → ((more : List ℕ)
        → read (gives.raw ++ 10 ∷ more) ≡ strip_carriage_return gives.raw ∷ read more)
        → BeginsBy read (given ++ (gives.raw ++ 10 ∷ [])) (done ++ line ∷ [])
    on read before ended more =
        ap read (append_assoc given (gives.raw ++ 10 ∷ []) more
        ∙ ap (λ bytes. given ++ bytes) (append_assoc gives.raw (10 ∷ []) more))
        ∙ before (gives.raw ++ 10 ∷ more)
        ∙ ap (λ ls. done ++ ls) (ended more ∙ ap (λ l. l ∷ read more) (sym gives.stripped))
        ∙ sym (append_assoc done (line ∷ []) (read more))

-- the lines done are some of the input's, none is too long or ends the run, and their answers are
-- written
pub record Standing (all : Option (List ℕ)) (start : RunState) (reader : Buffered)
    (left : Option (List ℕ)) (s : RunState) (refused : Bool)
    (old new : Option (List ℕ)) : Type 0 where
  pub given : List ℕ
  pub done : List (List ℕ)
  pub front : GivenAs all reader left given done
  pub no_quit : list_any says_quit done ≡ false
  pub answered : WritesAnswers start done refused s (Adds old new)

pub standing_at_start : (start : RunState) (reader : Buffered) (left old : Option (List ℕ))
    → reader.held ≡ [] → reader.room ≡ input_limit
    → Standing left start reader left start false old old
standing_at_start start reader left old none whole = record {
  given = [];
  done = [];
  front = record {
    kept = sym (prepend_known-nil _ ∙ ap (λ held. prepend_known held left) none
        ∙ prepend_known-nil left);
    counted = omega (arith, ap length none, whole);
    lines_on = λ _. refl;
    ended_on = λ _. refl;
    parts_on = λ _. refl;
    short = All-nil _;
  };
  no_quit = refl;
  answered = answers_nothing start old;
}

-- what is said of all bytes, from what holds for those that are left
pub told_left : (Q : List ℕ → Type 0) (all left : Option (List ℕ)) (front : List ℕ)
    → all ≡ prepend_known front left
    → ((rest : List ℕ) → left ≡ Some rest → Q (front ++ rest)) → IfSome all Q
told_left Q all None front is h = subst (λ o. IfSome o Q) (sym is) tt
told_left Q all (Some rest) front is h = subst (λ o. IfSome o Q) (sym is) (h rest refl)

-- ---- the work ends

-- at the end of the input, of which this text was left
ends_behind : {all left : Option (List ℕ)} {start s : RunState} {reader : Buffered} {given : List ℕ}
    {done total : List (List ℕ)} {refused : Bool} {wrote : List ℕ → Type 0}
    (left' : Option (List ℕ)) (text : List ℕ) → GivenAs all reader left given done
    → list_any says_quit done ≡ false → rest_of reader left ≡ prepend_known text left'
    → IsAtEnd left' → length text ≤ allowance reader → done ++ heard (lines text) ≡ total
    → All (λ line. length line ≤ line_limit) total → WritesAnswers start total refused s wrote
    → IfSome all (λ bytes. Ends bytes left' refused start s wrote)
ends_behind {all} {left} {start} {s} {reader} {given} {done} {total} {refused} {wrote} left' text
    front no_quit kept end fits is short answered =
    told_left _ all (rest_of reader left) given front.kept (λ rest told.
    let took : Takes (Some rest) left' text = sym told ∙ kept in
    let same : rest ≡ text = Takes-all (Some rest) left' text took end in
    let parts : heard (lines (given ++ rest)) ≡ total =
    ap heard (front.lines_on rest) ∙ heard-append done (lines rest) no_quit
    ∙ ap (λ r. done ++ heard (lines r)) same ∙ is in
    record {
      answered = same_lines total (heard (lines (given ++ rest))) parts answered;
      to_the_end = record {
        taken = given ++ text;
        takes = Takes-append (Some (given ++ rest)) (Some rest) left' given text refl took;
        end = inl end;
      };
      within_limits = record {
        each = subst (All (λ l. length l ≤ line_limit)) (sym parts) short;
        whole = inl (omega (
          arith,
          front.counted,
          fits,
          ap length same,
          length-append given rest,
        ));
      };
    })

-- after whole lines
pub ends_at_end : (all : Option (List ℕ)) (start : RunState) (reader : Buffered)
    (left left' : Option (List ℕ)) (s : RunState) (refused : Bool) (old new : Option (List ℕ))
    → Standing all start reader left s refused old new → GivesNothing reader left left'
    → IfSome all (λ bytes. Ends bytes left' refused start s (Adds old new))
ends_at_end all start reader left left' s refused old new standing gives =
    ends_behind left' [] standing.front standing.no_quit (gives.1 ∙ sym (prepend_known-nil left'))
    (subst IsAtEnd gives.1 gives.0) (omega arith) (append-nil standing.done) standing.front.short
    standing.answered

-- after a last line that no newline ends
pub ends_at_last : (all : Option (List ℕ)) (start : RunState) (reader : Buffered)
    (left left' : Option (List ℕ)) (s s' : RunState) (refused was : Bool)
    (old mid new : Option (List ℕ)) (line seen : List ℕ)
    → GivesLastLine reader left left' line → seen ≡ line
    → Standing all start reader left s refused old mid → Hears s seen was s' (Adds mid new)
    → IfSome all (λ bytes. Ends bytes left' (refused || was) start s' (Adds old new))
ends_at_last all start reader left left' s s' refused was old mid new line seen came same
    standing hears =
    let gives : GivesLastLine reader left left' seen =
    subst (GivesLastLine reader left left') (sym same) came in
    ends_behind left' seen standing.front standing.no_quit gives.kept gives.end gives.counted
    (ap (λ ls. standing.done ++ ls)
    (ap heard (lines-unended seen gives.unended gives.some) ∙ heard_at_last seen))
    (All-push (λ l. length l ≤ line_limit) standing.done seen standing.front.short gives.short)
    (whole_more old mid new standing.answered hears)

-- a line that ends the run is in every text that begins with the lines done and that line
has_quit_behind : (given : List ℕ) (done : List (List ℕ)) (line more : List ℕ)
    → BeginsBy ended_lines given (done ++ line ∷ []) → says_quit line ≡ true
    → has_quit (given ++ more) ≡ true
has_quit_behind given done line more ended_on quit =
    ap (list_any says_quit) (ended_on more ∙ append_assoc done (line ∷ []) (ended_lines more))
    ∙ list_any-append says_quit done (line ∷ ended_lines more)
    ∙ ap (λ b. list_any says_quit done || (b || list_any says_quit (ended_lines more))) quit
    ∙ or_true (list_any says_quit done)
  where
    or_true : (b : Bool) → (b || true) ≡ true
    or_true true = refl
    or_true false = refl

-- at the line that ends the run
pub ends_at_quit : (all : Option (List ℕ)) (start : RunState) (reader reader' : Buffered)
    (left left' : Option (List ℕ)) (s s' : RunState) (refused was : Bool)
    (old mid new : Option (List ℕ)) (line : List ℕ)
    → Standing all start reader left s refused old mid → GivesLine reader left reader' left' line
    → says_quit line ≡ true → Hears s line was s' (Adds mid new)
    → IfSome all (λ bytes. Ends bytes left' (refused || was) start s' (Adds old new))
ends_at_quit all start reader reader' left left' s s' refused was old mid new line standing
    gives quit hears =
    let given : List ℕ = standing.given ++ (gives.raw ++ 10 ∷ []) in
    let done : List (List ℕ) = standing.done in
    let held : List ℕ = reader'.held in
    let front : GivenAs all reader' left' given (done ++ line ∷ []) =
    given_more standing.front gives in
    told_left _ all (rest_of reader' left') given front.kept (λ rest told.
    let parts : heard (lines (given ++ rest)) ≡ done ++ line ∷ [] =
    ap heard (front.lines_on rest ∙ append_assoc done (line ∷ []) (lines rest))
    ∙ heard-append done (line ∷ lines rest) standing.no_quit
    ∙ ap (λ ls. done ++ ls) (heard_at_quit line (lines rest) quit) in
    let size : length given ≤ input_limit = omega (arith, front.counted) in
    record {
      answered = same_lines (done ++ line ∷ []) (heard (lines (given ++ rest))) parts
          (whole_more old mid new standing.answered hears);
      to_the_end = record {
        taken = given ++ held;
        takes = Takes-append (Some (given ++ rest)) (Some rest) left' given held refl (sym told);
        end = inr (has_quit_behind given done line held front.ended_on quit);
      };
      within_limits = record {
        each = subst (All (λ l. length l ≤ line_limit)) (sym parts) front.short;
        whole = inr (ap has_quit (take_over given rest input_limit size) ∙ has_quit_behind given
            done line (take (input_limit - length given) rest) front.ended_on quit);
      };
    })

-- ---- the work stops

-- reading failed
pub stops_at_fault : (all : Option (List ℕ)) (start : RunState) (reader : Buffered)
    (left left' : Option (List ℕ)) (s : RunState) (refused : Bool) (old new : Option (List ℕ))
    → Standing all start reader left s refused old new → LosesPart reader left left'
    → IfSome all (λ bytes. AnswersTaken bytes left' start s (Adds old new))
stops_at_fault all start reader left left' s refused old new standing loses =
    let given = standing.given in
    let done = standing.done in
    let front = standing.front in
    let part = loses.part in
    told_left _ all (rest_of reader left) given front.kept (λ rest told.
    let ended : ended_lines (given ++ part) ≡ done =
    front.ended_on part ∙ ap (λ ls. done ++ ls) (ended_lines-unended part loses.unended)
    ∙ append-nil done in
    let parts : stripped_parts (given ++ part) ≡ done ++ strip_carriage_return part ∷ [] =
    front.parts_on part ∙ ap (λ ls. done ++ ls) (stripped_parts-unended part loses.unended) in
    record {
      taken = given ++ part;
      takes = Takes-append (Some (given ++ rest)) (Some rest) left' given part refl
          (sym told ∙ loses.kept);
      no_quit = ap (list_any says_quit) ended ∙ standing.no_quit;
      short = subst (All (λ l. length l ≤ line_limit)) (sym parts) (All-push
          (λ l. length l ≤ line_limit) done (strip_carriage_return part) front.short loses.short);
      refused = refused;
      answered = same_lines done (ended_lines (given ++ part)) ended standing.answered;
    })

pub any_behind : (P : List ℕ → Type 0) (front : List (List ℕ)) (x : List ℕ) (more : List (List ℕ))
    → P x → Any P (front ++ x ∷ more)
any_behind P front x more h = (
  length front,
  x,
  omega (arith, length-append front (x ∷ more)),
  get_or-append_seam front x more x,
  h,
)

take_while_short : (done more : List (List ℕ)) → All (λ line. length line ≤ line_limit) done
    → take_while is_short (done ++ more) ≡ done ++ take_while is_short more
take_while_short [] more short = refl
take_while_short (line ∷ done) more short =
    take_while-cons is_short line (done ++ more)
    ∙ cond-true (is_short line) (line ∷ take_while is_short (done ++ more)) []
    (le-leb (length line) line_limit (All-head (λ l. length l ≤ line_limit) line done short))
    ∙ ap (λ ls. line ∷ ls) (take_while_short done more
    (All-tail (λ l. length l ≤ line_limit) line done short))

-- a line or the input is too long
pub stops_at_limit : (all : Option (List ℕ)) (start : RunState) (reader : Buffered)
    (left : Option (List ℕ)) (s : RunState) (refused : Bool) (old new : Option (List ℕ))
    → Standing all start reader left s refused old new
    → IfSome (rest_of reader left) (IsTooLong (allowance reader))
    → IfSome all (λ bytes. PassesLimit bytes × AnswersWithinLimits bytes start s (Adds old new))
stops_at_limit all start reader left s refused old new standing too_long =
    let given = standing.given in
    let done = standing.done in
    let front = standing.front in
    told_left _ all (rest_of reader left) given front.kept (λ rest told.
    let long : IsTooLong (allowance reader) rest =
    subst (λ o. IfSome o (IsTooLong (allowance reader))) told too_long in
    let size : length given ≤ input_limit = omega (arith, front.counted) in
    let left_over : input_limit - length given ≡ allowance reader = omega (arith, front.counted) in
    let cut : take input_limit (given ++ rest) ≡ given ++ take (allowance reader) rest =
    take_over given rest input_limit size ∙ ap (λ n. given ++ take n rest) left_over in
    let within : ended_lines (take input_limit (given ++ rest))
    ≡ done ++ ended_lines (take (allowance reader) rest) =
    ap ended_lines cut ∙ front.ended_on (take (allowance reader) rest) in
    let kept_lines : take_while is_short (ended_lines (take input_limit (given ++ rest))) ≡ done =
    ap (take_while is_short) within ∙ take_while_short done
    (ended_lines (take (allowance reader) rest)) front.short
    ∙ ap (λ ls. done ++ ls) long.nothing ∙ append-nil done in
    let cause : PassesLimit (given ++ rest) = elim long.cause [
      | inl first ↦ inl (
          let parts : heard (lines (given ++ rest)) ≡ done ++ heard (first.line ∷ first.more) =
          ap heard (front.lines_on rest) ∙ heard-append done (lines rest) standing.no_quit
          ∙ ap (λ ls. done ++ heard ls) first.first in
          subst (Any (λ l. line_limit < length l)) (sym parts)
          (any_behind (λ l. line_limit < length l) done first.line _ first.long))
      | inr whole ↦ inr (
        omega (arith, front.counted, whole.0, length-append given rest),
        ap (list_any says_quit) (within ∙ ap (λ ls. done ++ ls) whole.1 ∙ append-nil done)
            ∙ standing.no_quit,
      )
    ] in (
      cause,
      (
        refused,
        same_lines done (take_while is_short (ended_lines (take input_limit (given ++ rest))))
            kept_lines standing.answered,
      ),
    ))

-- ---- however it ends

-- at most one byte past the limit of the input was taken
pub taken_in_all : (all : Option (List ℕ)) (start : RunState) (reader : Buffered)
    (left left' : Option (List ℕ)) (s : RunState) (refused : Bool) (old new : Option (List ℕ))
    → Standing all start reader left s refused old new → TakesAtMost (reader.room + 1) left left'
    → TakesAtMost (input_limit + 1) all left'
taken_in_all all start reader left left' s refused old new standing takes =
    let given : List ℕ = standing.given in
    let more : List ℕ = reader.held ++ takes.taken in
    record {
      taken = given ++ more;
      takes = Takes-append all (rest_of reader left) left' given more standing.front.kept
          (Takes-append (rest_of reader left) left left' reader.held takes.taken refl takes.takes);
      few = omega (
        arith,
        standing.front.counted,
        takes.few,
        length-append given more,
        length-append reader.held takes.taken,
      );
    }
