use Rattle.std.proofs.Common.{◌≡◌, ◌==◌, ◌∷◌, [], ℕ, Bool, true, Option, ◌∙◌, sym, ap, subst, arith, rules}
use Rattle.std.specs.List.{slice_split}
use Rattle.map_file.specs.Lines.{line_read, stopped}
use Rattle.map_file.specs.Progress.{MovesReader, progress_of}
use Rattle.map_file.proofs.ReadSteps.{read_last, right_line, wrong_line}
use Rattle.map_file.proofs.reading.read.Goals as goal

pub returns-then-not-branch-clause-said : goal.returns-then-not-branch-clause-said
returns-then-not-branch-clause-said c =
    let M : Bool → Type 0 =
    λ right. MovesReader right c.loop-line.reader c.line.new.self
    (line_read c.loop-line.number (progress_of c.loop-line.reader) c.in-Some.line.now) in
    c.stopped.ensures
    ∙ wrong_line c.loop-line.number c.loop-line.reader c.line.new.self c.in-Some.line.now
    c.loop-line.rest.now c.in-Some.after.now c.in-Some.ensures.split
    (subst M c.if-not-branch.true c.in_ok-line.ensures)
    ∙ c.loop-line.invariant.said

pub loop-line-preserved : goal.loop-line-preserved
loop-line-preserved c =
    let M : Bool → Type 0 =
    λ right. MovesReader right c.loop-line.reader c.line.new.self
    (line_read c.loop-line.number (progress_of c.loop-line.reader) c.in-Some.line.now) in
    let moves : MovesReader true c.loop-line.reader c.line.new.self
    (line_read c.loop-line.number (progress_of c.loop-line.reader) c.in-Some.line.now) =
    subst M c.if-not-branch.false c.in_ok-line.ensures in
    record {
      said = right_line c.loop-line.number c.loop-line.reader c.line.new.self c.in-Some.line.now
          c.loop-line.rest.now c.in-Some.after.now c.in-Some.ensures.split moves
          ∙ c.loop-line.invariant.said;
      in_step = moves.0;
      few = omega (arith, c.loop-line.invariant.few, c.in-Some.ensures.shorter);
    }

pub returns-clause-said : goal.returns-clause-said
returns-clause-said c =
    let last : slice_split (λ b. b == 10) c.loop-line.rest.now ≡ c.loop-line.rest.now ∷ [] =
    search rules in
    c.stopped-2.ensures
    ∙ ap (λ (wrong : Option ℕ). stopped (progress_of c.loop-line.reader) wrong)
    c.wrong_end-wrong.ensures
    ∙ sym (read_last c.loop-line.number (progress_of c.loop-line.reader) c.loop-line.rest.now _ last)
    ∙ c.loop-line.invariant.said
