-- What a reader has read of a line, against all that it has not given.
use Rattle.std.proofs.Common.{◌≡◌, ℕ, ◌+◌, ◌-◌, ◌<◌, ◌≤◌, false, List, [], ◌∷◌, ◌++◌, length, take, get_or, sym, ◌∙◌, ap, subst, inl, inr, Option, None, Some, append_assoc, append-nil, arith, eqb, IfSome}
use Rattle.std.specs.Prelude.{take_while, nat_le, ◌==◌, if◌then◌else◌, Result, Ok, Err}
use Rattle.std.specs.Str.Lines.{strip_carriage_return, lines}
use Rattle.std.specs.Io.KnownBytes.{prepend_known, IsAtEnd}
use Rattle.std.proofs.lemmas.List.{length-take, length-take-le, take_all, length-append, take_at}
use Rattle.std.proofs.Math.Seq.{take-append-add}
use Rattle.std.proofs.lemmas.List.Elements.{All-push, All-append}
use Rattle.std.proofs.lemmas.List.Sums.{take_while-cons}
use Rattle.std.proofs.lemmas.Bool.{cases_Bool, eqb-true, eqb-false, leb-true, leb-false, lt-leb, cond-false, cond-true, cond_both}
use Rattle.io_face.specs.Source.{Takes, TakesAtMost}
use Rattle.io_face.specs.SourceLaws.{Takes-append}
use Rattle.line_reader.specs.declared.line_reader.Next.{Next}
use Rattle.line_reader.specs.declared.line_reader.Next.TheVariants.{End, LastLine}
use Rattle.line_reader.specs.declared.line_reader.ReadStop.{ReadStop}
use Rattle.line_reader.specs.declared.line_reader.ReadStop.TheVariants.{TooLong}
use Rattle.line_reader.specs.Limits.{line_limit}
use Rattle.line_reader.specs.Lines.{ended_lines, IsUnended, is_short}
use Rattle.line_reader.specs.Reading.{Buffered, allowance, rest_of, HasLongLine, IsTooLong}
use Rattle.line_reader.specs.LinesLaws.{ended_lines-unended, ended_lines-ended, lines-unended, lines-ended}
use Rattle.line_reader.specs.ReadingLaws.{prepend-append, told_always, told_behind, told_weaker}

-- while a line is held with its newline, not all that is held is without one
pub none_held : (old held : List ℕ) → ¬ IsUnended old → held ≡ old → IsUnended held → ⊥
none_held old held holds same unended = holds (subst IsUnended same unended)

-- a line loses at most one byte to its carriage return
pub length-strip : (text : List ℕ) → (length (strip_carriage_return text) ≤ length text)
    × (length text ≤ length (strip_carriage_return text) + 1)
length-strip text =
    cond_both (eqb (get_or text (length text - 1) 0) 13) (take (length text - 1) text) text
    (λ t. (length t ≤ length text) × (length text ≤ length t + 1))
    (λ _. (
      omega (arith, length-take (length text - 1) text),
      omega (arith, length-take (length text - 1) text),
    ))
    (λ _. (omega arith, omega arith))

-- a line that began too long: it is too long however it goes on
pub record StartsLong (text : List ℕ) : Type 0 where
  pub long : HasLongLine text
  pub nothing : take_while is_short (ended_lines text) ≡ []

not_short : (line : List ℕ) (more : List (List ℕ)) → line_limit < length line
    → take_while is_short (line ∷ more) ≡ []
not_short line more l =
    take_while-cons is_short line more ∙ cond-false _ _ _ (lt-leb (length line) line_limit l)

longer : (part : List ℕ) (byte : ℕ) → line_limit < length (strip_carriage_return part)
    → line_limit < length (strip_carriage_return (part ++ byte ∷ []))
longer part byte l =
    omega (
      arith,
      l,
      length-strip part,
      length-strip (part ++ byte ∷ []),
      length-append part (byte ∷ []),
    )

pub starts_long : (part more : List ℕ) → IsUnended part
    → line_limit < length (strip_carriage_return part) → StartsLong (part ++ more)
starts_long part [] none l = subst StartsLong (sym (append-nil part)) record {
  long = record {
    line = part;
    more = [];
    first = lines-unended part none
        (omega (arith, l, length-strip part));
    long = omega (arith, l, length-strip part);
  };
  nothing = ap (take_while is_short) (ended_lines-unended part none);
}
starts_long part (byte ∷ more) none l = elim (cases_Bool (eqb byte 10)) [
  | inl ends ↦ (
      let is : part ++ byte ∷ more ≡ part ++ 10 ∷ more =
      ap (λ b. part ++ b ∷ more) (eqb-true byte 10 ends) in
      subst StartsLong (sym is) record {
        long = record {
          line = strip_carriage_return part;
          more = lines more;
          first = lines-ended part more none;
          long = l;
        };
        nothing = ap (take_while is_short) (ended_lines-ended part more none)
            ∙ not_short (strip_carriage_return part) (ended_lines more) l;
      })
  | inr goes_on ↦ (
      subst StartsLong (append_assoc part (byte ∷ []) more)
      (starts_long (part ++ byte ∷ []) more (All-push (λ b. eqb b 10 ≡ false) part byte none
      goes_on) (longer part byte l)))
]

-- the first line is too long already, and more is allowed than was read of it
pub too_long_line : (part more : List ℕ) (allowed : ℕ) → IsUnended part
    → line_limit < length (strip_carriage_return part) → length part ≤ allowed
    → IsTooLong allowed (part ++ more)
too_long_line part more allowed none l fits = record {
  cause = inl (starts_long part more none l).long;
  nothing =
      let parted : allowed ≡ length part + (allowed - length part) = omega arith in
      let cut : take allowed (part ++ more) ≡ part ++ take (allowed - length part) more =
      ap (λ n. take n (part ++ more)) parted ∙ take-append-add part more (allowed - length part) in
      ap (λ text. take_while is_short (ended_lines text)) cut
      ∙ (starts_long part (take (allowed - length part) more) none l).nothing;
}

-- all that is left is one line, which is too long
pub too_long_last : (text : List ℕ) (allowed : ℕ) → IsUnended text → line_limit < length text
    → length text ≤ allowed → IsTooLong allowed text
too_long_last text allowed none l fits = record {
  cause = inl (record {
    line = text;
    more = [];
    first = lines-unended text none (omega (arith, l));
    long = l;
  });
  nothing = ap (λ t. take_while is_short (ended_lines t)) (take_all allowed text fits)
      ∙ ap (take_while is_short) (ended_lines-unended text none);
}

-- all that is allowed was read, no line ends in it, and there is more
pub too_long_input : (part more : List ℕ) (allowed : ℕ) → IsUnended part → length part ≡ allowed
    → 0 < length more → IsTooLong allowed (part ++ more)
too_long_input part more allowed none is some =
    let cut : take allowed (part ++ more) ≡ part = take_at part more allowed is in
    let no_line : ended_lines (take allowed (part ++ more)) ≡ [] =
    ap ended_lines cut ∙ ended_lines-unended part none in
    record {
      cause = inr (omega (arith, is, some, length-append part more), no_line);
      nothing = ap (take_while is_short) no_line;
    }

-- the line so far, and what is held and left behind it, are all that was not given
pub record SoFar (all : Option (List ℕ)) (allowed : ℕ) (line : List ℕ) (reader : Buffered)
    (left : Option (List ℕ)) : Type 0 where
  pub kept : all ≡ prepend_known line (rest_of reader left)
  pub unended : IsUnended line
  pub counted : allowed ≡ length line + allowance reader

-- the same where nothing is held
pub record AllMoved (all : Option (List ℕ)) (allowed : ℕ) (line : List ℕ) (room : ℕ)
    (left : Option (List ℕ)) : Type 0 where
  pub kept : all ≡ prepend_known line left
  pub unended : IsUnended line
  pub counted : allowed ≡ length line + room

-- the line and its newline are at the front of all that was not given
pub record LineMoved (all : Option (List ℕ)) (allowed : ℕ) (line : List ℕ) (reader : Buffered)
    (left : Option (List ℕ)) : Type 0 where
  pub kept : all ≡ prepend_known (line ++ 10 ∷ []) (rest_of reader left)
  pub unended : IsUnended line
  pub counted : allowed ≡ length (line ++ 10 ∷ []) + allowance reader

pub piece_moved : (all : Option (List ℕ)) (allowed : ℕ) (line line' piece : List ℕ)
    (reader reader' : Buffered) (left : Option (List ℕ)) → SoFar all allowed line reader left
    → IsUnended piece → reader.held ≡ piece ++ 10 ∷ reader'.held → line' ≡ line ++ piece
    → reader'.room ≡ reader.room → LineMoved all allowed line' reader' left
piece_moved all allowed line line' piece reader reader' left so_far none held is room =
    let newline : List ℕ = 10 ∷ [] in
    let front : line' ++ newline ≡ line ++ (piece ++ newline) =
    ap (λ xs. xs ++ newline) is ∙ append_assoc line piece newline in
    let split : reader.held ≡ (piece ++ newline) ++ reader'.held =
    held ∙ sym (append_assoc piece newline reader'.held) in
    record {
      kept = so_far.kept ∙ ap (λ xs. prepend_known line (prepend_known xs left)) split
          ∙ ap (prepend_known line) (prepend-append (piece ++ newline) reader'.held left)
          ∙ sym (prepend-append line (piece ++ newline) (rest_of reader' left))
          ∙ ap (λ xs. prepend_known xs (rest_of reader' left)) (sym front);
      unended = subst IsUnended (sym is) (All-append (λ b. eqb b 10 ≡ false) line piece
          so_far.unended none);
      counted = omega (
        arith,
        so_far.counted,
        room,
        ap length held,
        ap length is,
        length-append line piece,
        length-append piece (10 ∷ reader'.held),
        length-append line' newline,
      );
    }

pub all_moved : (all : Option (List ℕ)) (allowed : ℕ) (line line' : List ℕ) (reader reader' : Buffered)
    (left : Option (List ℕ)) → SoFar all allowed line reader left
    → IsUnended reader.held → line' ≡ line ++ reader.held → reader'.room ≡ reader.room
    → AllMoved all allowed line' reader'.room left
all_moved all allowed line line' reader reader' left so_far none is room = record {
  kept = so_far.kept ∙ sym (prepend-append line reader.held left)
      ∙ ap (λ xs. prepend_known xs left) (sym is);
  unended = subst IsUnended (sym is) (All-append (λ b. eqb b 10 ≡ false) line reader.held
      so_far.unended none);
  counted = omega (arith, so_far.counted, room, ap length is, length-append line reader.held);
}

pub more_read : (all : Option (List ℕ)) (allowed : ℕ) (line : List ℕ) (reader reader' : Buffered)
    (left left' : Option (List ℕ)) → AllMoved all allowed line reader.room left
    → reader.held ≡ [] → left ≡ prepend_known reader'.held left'
    → allowance reader' ≡ allowance reader → SoFar all allowed line reader' left'
more_read all allowed line reader reader' left left' moved none taken same = record {
  kept = moved.kept ∙ ap (prepend_known line) taken;
  unended = moved.unended;
  counted = omega (arith, moved.counted, same, ap length none);
}

pub line_too_long : (all : Option (List ℕ)) (allowed : ℕ) (line : List ℕ) (reader : Buffered)
    (left : Option (List ℕ)) → LineMoved all allowed line reader left
    → line_limit < length (strip_carriage_return line) → IfSome all (IsTooLong allowed)
line_too_long all allowed line reader left moved long =
    told_behind (IsTooLong allowed) all (prepend_known (10 ∷ []) (rest_of reader left)) line
    (moved.kept ∙ prepend-append line (10 ∷ []) (rest_of reader left))
    (told_always _ _ (λ more. too_long_line line more allowed moved.unended long
    (omega (arith, moved.counted, length-append line (10 ∷ [])))))

pub part_too_long : (all : Option (List ℕ)) (allowed : ℕ) (line : List ℕ) (room : ℕ)
    (left : Option (List ℕ)) → AllMoved all allowed line room left
    → line_limit < length (strip_carriage_return line) → IfSome all (IsTooLong allowed)
part_too_long all allowed line room left moved long =
    told_behind (IsTooLong allowed) all left line moved.kept
    (told_always _ _ (λ more. too_long_line line more allowed moved.unended long
    (omega (arith, moved.counted))))

pub end_too_long : (all : Option (List ℕ)) (allowed : ℕ) (line : List ℕ) (room : ℕ)
    (left : Option (List ℕ)) → AllMoved all allowed line room left
    → IsAtEnd left → line_limit < length line → IfSome all (IsTooLong allowed)
end_too_long all allowed line room None moved end long =
    told_behind (IsTooLong allowed) all None line moved.kept tt
end_too_long all allowed line room (Some bytes) moved end long =
    told_behind (IsTooLong allowed) all (Some bytes) line moved.kept
    (subst (IsTooLong allowed) (sym (ap (λ xs. line ++ xs) end ∙ append-nil line))
    (too_long_last line allowed moved.unended long (omega (arith, moved.counted))))

pub input_too_long : (all : Option (List ℕ)) (allowed : ℕ) (line : List ℕ) (room : ℕ)
    (left : Option (List ℕ)) → AllMoved all allowed line room left
    → room ≡ 0 → IfSome left (λ bytes. 0 < length bytes) → IfSome all (IsTooLong allowed)
input_too_long all allowed line room left moved none some =
    told_behind (IsTooLong allowed) all left line moved.kept
    (told_weaker _ _ left (λ more l. too_long_input line more allowed moved.unended
    (omega (arith, moved.counted, none)) l) some)

-- a line without its carriage return is its front
pub strip-front : (text : List ℕ) (n : ℕ) → n ≡ length (strip_carriage_return text)
    → take n text ≡ strip_carriage_return text
strip-front text n is =
    cond_both (eqb (get_or text (length text - 1) 0) 13) (take (length text - 1) text) text
    (λ t. n ≡ length t → take n text ≡ t)
    (λ _ same. ap (λ k. take k text) (same ∙ length-take-le (length text - 1) text (omega arith)))
    (λ _ same. take_all n text (omega (arith, same))) is

-- the step of a turn that found the newline, and of one that didn't
pub ended_turn : (all : Option (List ℕ)) (allowed : ℕ) (line line' : List ℕ) (reader reader' : Buffered)
    (left : Option (List ℕ)) → SoFar all allowed line reader left
    → (piece : List ℕ) × IsUnended piece × (reader.held ≡ piece ++ 10 ∷ reader'.held)
    × (line' ≡ line ++ piece) → reader'.room ≡ reader.room
    → LineMoved all allowed line' reader' left
ended_turn all allowed line line' reader reader' left so_far moved room =
    piece_moved all allowed line line' moved.0 reader reader' left so_far moved.1
    moved.2 moved.3 room

pub unended_turn : (all : Option (List ℕ)) (allowed : ℕ) (line line' : List ℕ)
    (reader reader' : Buffered) (left : Option (List ℕ)) → SoFar all allowed line reader left
    → IsUnended reader.held × (reader'.held ≡ []) × (line' ≡ line ++ reader.held)
    → reader'.room ≡ reader.room → AllMoved all allowed line' reader'.room left
unended_turn all allowed line line' reader reader' left so_far moved room =
    all_moved all allowed line line' reader reader' left so_far moved.0 moved.2 room

-- what the last line's length says of the answer
pub last_line_fits : (n : ℕ) (answer : Result Next ReadStop)
    → answer ≡ (if n == 0 then Ok End else (if nat_le n line_limit then Ok LastLine
    else Err TooLong))
    → answer ≡ Ok LastLine → (0 < n) × (n ≤ line_limit)
last_line_fits n answer is last = elim (cases_Bool (n == 0)) [
  | inl none ↦ (let e : answer ≡ Ok End = is ∙ cond-true _ _ _ none in cc)
  | inr some ↦ elim (cases_Bool (nat_le n line_limit)) [
    | inl fits ↦ (
      (let ne : n ≡ 0 → ⊥ = eqb-false n 0 some in omega (arith, ne)),
      leb-true n line_limit fits,
    )
    | inr long ↦ (let e : answer ≡ Err TooLong = is ∙ cond-false _ _ _ some
        ∙ cond-false _ _ _ long in cc)
  ]
]

pub last_line_is_long : (n : ℕ) (answer : Result Next ReadStop)
    → answer ≡ (if n == 0 then Ok End else (if nat_le n line_limit then Ok LastLine
    else Err TooLong))
    → answer ≡ Err TooLong → line_limit < n
last_line_is_long n answer is too_long = elim (cases_Bool (n == 0)) [
  | inl none ↦ (let e : answer ≡ Ok End = is ∙ cond-true _ _ _ none in cc)
  | inr some ↦ elim (cases_Bool (nat_le n line_limit)) [
    | inl fits ↦ (let e : answer ≡ Ok LastLine = is ∙ cond-false _ _ _ some
        ∙ cond-true _ _ _ fits in cc)
    | inr long ↦ leb-false n line_limit long
  ]
]

-- ---- how much was taken

-- what was taken, by how much may still be read
pub record TookSoFar (left left' : Option (List ℕ)) (room room' : ℕ) : Type 0 where
  pub taken : List ℕ
  pub takes : Takes left left' taken
  pub counted : length taken + room' ≡ room

pub took_more : (left mid left' : Option (List ℕ)) (room : ℕ) (reader reader' : Buffered)
    → TookSoFar left mid room reader.room
    → reader.held ≡ [] → Takes mid left' reader'.held → allowance reader' ≡ allowance reader
    → TookSoFar left left' room reader'.room
took_more left mid left' room reader reader' so_far none takes same = record {
  taken = so_far.taken ++ reader'.held;
  takes = Takes-append left mid left' so_far.taken reader'.held so_far.takes takes;
  counted = omega (
    arith,
    so_far.counted,
    same,
    ap length none,
    length-append so_far.taken reader'.held,
  );
}

pub took_at_most : (left mid left' : Option (List ℕ)) (room room' : ℕ)
    → TookSoFar left mid room room' → TakesAtMost (room' + 1) mid left'
    → TakesAtMost (room + 1) left left'
took_at_most left mid left' room room' so_far last = record {
  taken = so_far.taken ++ last.taken;
  takes = Takes-append left mid left' so_far.taken last.taken so_far.takes last.takes;
  few = omega (arith, so_far.counted, last.few, length-append so_far.taken last.taken);
}
