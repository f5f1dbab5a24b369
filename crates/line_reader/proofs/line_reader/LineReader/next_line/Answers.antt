-- Each exit says what the line read so far is of all that was not given.
use Rattle.std.proofs.Common.{◌≡◌, ◌<◌, ◌≤◌, inl, inr, length, Ok, sym, ◌∙◌, ap, subst, arith}
use Rattle.std.specs.Str.Lines.{strip_carriage_return}
use Rattle.std.specs.Io.KnownBytes.{prepend_known, IsAtEnd}
use Rattle.std.proofs.lemmas.Bool.{cases_Bool}
use Rattle.std.proofs.lemmas.Result.{err_from_is_err_and}
use Rattle.io_face.specs.FaultLaws.{HasFaulted-within}
use Rattle.line_reader.specs.Limits.{line_limit}
use Rattle.line_reader.proofs.ReadingLemmas.{ended_turn, unended_turn, more_read, line_too_long, part_too_long, end_too_long, input_too_long, none_held, strip-front, last_line_fits, last_line_is_long, TookSoFar, took_at_most, took_more}
use Rattle.line_reader.proofs.line_reader.LineReader.next_line.Goals as goal

pub returns-then-len-gt-LINE_LIMIT-clause-too_long : goal.returns-then-len-gt-LINE_LIMIT-clause-too_long
returns-then-len-gt-LINE_LIMIT-clause-too_long g c _ =
    let line = c.move_held.new.line.items in
    let len : c.stripped_len-len.result ≡ length (strip_carriage_return line) =
    c.stripped_len-len.ensures ∙ ap (λ t. length (strip_carriage_return t))
    c.deref.ensures.value in
    let long : line_limit < length (strip_carriage_return line) =
    omega (arith, len, c.if-len-gt-LINE_LIMIT.true) in
    let so_far = c.reading.invariant.so_far in
    let room = c.in_ok-is_ended.ensures.room in
    elim (cases_Bool c.in_ok-is_ended.is_ended) [
      | inl ended ↦ line_too_long _ _ line c.move_held.new.self (g.I.Source.left c.reading.input)
          (ended_turn _ _ _ _ c.reading.self c.move_held.new.self _ so_far
          (c.in_ok-is_ended.ensures.ended (ap Ok ended)) room) long
      | inr unended ↦ part_too_long _ _ line c.move_held.new.self.room
          (g.I.Source.left c.reading.input)
          (unended_turn _ _ _ _ c.reading.self c.move_held.new.self _ so_far
          (c.in_ok-is_ended.ensures.unended (ap Ok unended)) room) long
    ]

pub returns-then-is_ended-clause-line : goal.returns-then-is_ended-clause-line
returns-then-is_ended-clause-line g c _ =
    let line = c.move_held.new.line.items in
    let len : c.stripped_len-len.result ≡ length (strip_carriage_return line) =
    c.stripped_len-len.ensures ∙ ap (λ t. length (strip_carriage_return t))
    c.deref.ensures.value in
    let moved = ended_turn _ _ _ _ c.reading.self c.move_held.new.self _ c.reading.invariant.so_far
    (c.in_ok-is_ended.ensures.ended (ap Ok c.if-is_ended.true)) c.in_ok-is_ended.ensures.room in
    let given : c.truncate.new.self.items ≡ strip_carriage_return line =
    c.truncate.ensures.items ∙ strip-front line c.stripped_len-len.result len in
    let short : length c.truncate.new.self.items ≤ line_limit =
    omega (arith, ap length given, len, c.if-len-gt-LINE_LIMIT.false) in
    record {
      raw = line;
      unended = moved.unended;
      stripped = given;
      short = short;
      kept = moved.kept;
      counted = moved.counted;
    }

pub returns-in_err-fill-clause-read_fault : goal.returns-in_err-fill-clause-read_fault
returns-in_err-fill-clause-read_fault g c is =
    let line = c.move_held.new.line.items in
    let exit = err_from_is_err_and c.from_residual-in_err-fill.result
    c.from_residual-in_err-fill.ensures.1 in
    let same : exit.0 ≡ c.in_err-fill.field-0.0 = exit.2 in
    let fault = c.in_err-fill.ensures.read_fault cc in
    let len : c.stripped_len-len.result ≡ length (strip_carriage_return line) =
    c.stripped_len-len.ensures ∙ ap (λ t. length (strip_carriage_return t))
    c.deref.ensures.value in
    let moved = unended_turn _ _ _ _ c.reading.self c.move_held.new.self _
    c.reading.invariant.so_far (c.in_ok-is_ended.ensures.unended (ap Ok c.if-is_ended.false))
    c.in_ok-is_ended.ensures.room in (
      record {
        part = line;
        unended = moved.unended;
        short = omega (arith, len, c.if-len-gt-LINE_LIMIT.false);
        kept = moved.kept
            ∙ ap (prepend_known line) (sym fault.0);
      },
      HasFaulted-within _ _ _ _ c.reading.invariant.faults (omega arith) fault.1,
    )

pub returns-in_err-fill-clause-too_long : goal.returns-in_err-fill-clause-too_long
returns-in_err-fill-clause-too_long g c is =
    let line = c.move_held.new.line.items in
    let exit = err_from_is_err_and c.from_residual-in_err-fill.result
    c.from_residual-in_err-fill.ensures.1 in
    let same : exit.0 ≡ c.in_err-fill.field-0.0 = exit.2 in
    let stop = c.in_err-fill.ensures.too_long cc in
    let moved = unended_turn _ _ _ _ c.reading.self c.move_held.new.self _
    c.reading.invariant.so_far (c.in_ok-is_ended.ensures.unended (ap Ok c.if-is_ended.false))
    c.in_ok-is_ended.ensures.room in
    input_too_long _ _ line c.move_held.new.self.room (g.I.Source.left c.reading.input) moved
    stop.0 stop.1

pub reading-preserved : goal.reading-preserved
reading-preserved g c =
    let moved = unended_turn _ _ _ _ c.reading.self c.move_held.new.self _
    c.reading.invariant.so_far (c.in_ok-is_ended.ensures.unended (ap Ok c.if-is_ended.false))
    c.in_ok-is_ended.ensures.room in
    let nothing = (c.in_ok-is_ended.ensures.unended (ap Ok c.if-is_ended.false)).1 in
    let more = c.in_ok-fill.ensures.more (ap Ok c.if-not-branch.false) in
    record {
      so_far = more_read _ _ _ c.move_held.new.self c.fill.new.self _ _ moved nothing more.0 more.2;
      taken = took_more _ _ _ _ c.move_held.new.self c.fill.new.self
          (subst (TookSoFar _ _ _) (sym c.in_ok-is_ended.ensures.room) c.reading.invariant.taken)
          nothing more.0 more.2;
      faults = omega (arith, c.reading.invariant.faults, c.in_ok-fill.ensures.count);
      sound = c.in_ok-fill.ensures.sound ∙ c.reading.invariant.sound;
      held = λ holds. absurd (none_held _ _ holds (c.reading.invariant.held holds).0
          (c.in_ok-is_ended.ensures.unended (ap Ok c.if-is_ended.false)).0);
    }

pub returns-then-not-branch-clause-last_line : goal.returns-then-not-branch-clause-last_line
returns-then-not-branch-clause-last_line g c is =
    let line = c.move_held.new.line.items in
    let moved = unended_turn _ _ _ _ c.reading.self c.move_held.new.self _
    c.reading.invariant.so_far (c.in_ok-is_ended.ensures.unended (ap Ok c.if-is_ended.false))
    c.in_ok-is_ended.ensures.room in
    let end = c.in_ok-fill.ensures.end (ap Ok c.if-not-branch.true) in
    let size : length c.deref-then-not-branch.result.now ≡ length line =
    ap length c.deref-then-not-branch.ensures.value in
    let fits = last_line_fits (length c.deref-then-not-branch.result.now) c.last_line.result
    c.last_line.ensures is in
    record {
      unended = moved.unended;
      some = omega (arith, size, fits.0);
      short = omega (arith, size, fits.1);
      kept = moved.kept ∙ ap (prepend_known line) (sym end.1);
      end = subst IsAtEnd (sym end.1) end.0;
      counted = omega (arith, moved.counted);
    }

pub returns-then-not-branch-clause-too_long : goal.returns-then-not-branch-clause-too_long
returns-then-not-branch-clause-too_long g c is =
    let line = c.move_held.new.line.items in
    let moved = unended_turn _ _ _ _ c.reading.self c.move_held.new.self _
    c.reading.invariant.so_far (c.in_ok-is_ended.ensures.unended (ap Ok c.if-is_ended.false))
    c.in_ok-is_ended.ensures.room in
    let end = c.in_ok-fill.ensures.end (ap Ok c.if-not-branch.true) in
    let size : length c.deref-then-not-branch.result.now ≡ length line =
    ap length c.deref-then-not-branch.ensures.value in
    let long = last_line_is_long (length c.deref-then-not-branch.result.now) c.last_line.result
    c.last_line.ensures is in
    end_too_long _ _ line c.move_held.new.self.room (g.I.Source.left c.reading.input) moved end.0
    (omega (arith, size, long))

pub returns-in_err-fill-clause-taken : goal.returns-in_err-fill-clause-taken
returns-in_err-fill-clause-taken g c =
    took_at_most _ _ _ _ c.move_held.new.self.room
    (subst (TookSoFar _ _ _) (sym c.in_ok-is_ended.ensures.room) c.reading.invariant.taken)
    c.in_err-fill.ensures.taken

pub returns-in_err-fill-clause-held : goal.returns-in_err-fill-clause-held
returns-in_err-fill-clause-held g c = λ holds.
    absurd (none_held _ _ holds (c.reading.invariant.held holds).0
    (c.in_ok-is_ended.ensures.unended (ap Ok c.if-is_ended.false)).0)

pub returns-then-not-branch-clause-held : goal.returns-then-not-branch-clause-held
returns-then-not-branch-clause-held g c = λ holds.
    absurd (none_held _ _ holds (c.reading.invariant.held holds).0
    (c.in_ok-is_ended.ensures.unended (ap Ok c.if-is_ended.false)).0)
