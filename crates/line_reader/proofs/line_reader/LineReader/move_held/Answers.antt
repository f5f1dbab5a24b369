-- The held bytes are parted at their first newline.
use Rattle.std.proofs.Common.{◌≡◌, [], ◌++◌, take, drop, ap, sym, ◌∙◌, arith}
use Rattle.std.proofs.lemmas.List.{drop_all, length-take}
use Rattle.line_reader.proofs.LineLemmas.{found_newline, found_no_newline}
use Rattle.line_reader.proofs.line_reader.LineReader.move_held.Goals as goal

pub returns-in_ok-extend_from_slice-in-Some-clause-ended : goal.returns-in_ok-extend_from_slice-in-Some-clause-ended
returns-in_ok-extend_from_slice-in-Some-clause-ended c _ =
    let view = ap (λ r. r.held) c.self.view_is in
    let found = found_newline _ _ _ _ _ _ c.deref.ensures.value view c.self.invariant.0
    c.in-Some.ensures.0 c.in-Some.ensures.1 in
    (_, found.0, found.1, (c.in_ok-extend_from_slice-in-Some.ensures).items)

pub returns-in_ok-extend_from_slice-in-None-clause-unended : goal.returns-in_ok-extend_from_slice-in-None-clause-unended
returns-in_ok-extend_from_slice-in-None-clause-unended c _ =
    let view = ap (λ r. r.held) c.self.view_is in
    let found = found_no_newline c.deref.result.now c.self.inside.buffer.items c.args.self.now.held
    c.self.inside.start c.self.inside.end c.deref.ensures.value view c.self.invariant.0
    c.in-None.ensures in
    let none : drop c.self.inside.end (take c.self.inside.end c.self.inside.buffer.items) ≡ [] =
    drop_all c.self.inside.end (take c.self.inside.end c.self.inside.buffer.items)
    (omega (arith, length-take c.self.inside.end c.self.inside.buffer.items)) in (
      found.0,
      none,
      (c.in_ok-extend_from_slice-in-None.ensures).items
          ∙ ap (λ xs. c.args.line.now.items ++ xs) (sym found.1),
    )
