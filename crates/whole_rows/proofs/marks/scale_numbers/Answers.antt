use Rattle.std.proofs.Common.{◌<◌, ◌*◌, ◌^◌, ℕ, length, pos, slice_index_or, subst, sym, unsigned_abs, w64}
use Rattle.std.proofs.lemmas.Int.{to_z_pos}
use Rattle.whole_rows.specs.ColumnMarks.{AreScaled}
use Rattle.whole_rows.proofs.ListedSteps.{unscaled}
use Rattle.whole_rows.proofs.marks.scale_numbers.Goals as goal

pub returns-then-over-eq1 : goal.returns-then-over-eq1
returns-then-over-eq1 c = unscaled c.args.over c.args.numbers.now c.if-over-eq1.true

pub scale_marked-requires-clause-fits : goal.scale_marked-requires-clause-fits
scale_marked-requires-clause-fits c =
    subst (λ z. (j : ℕ) → j < length c.args.numbers.now
    → unsigned_abs (slice_index_or c.args.numbers.now j (pos 0)) * unsigned_abs z < 2 ^ 63)
    (sym (to_z_pos w64 c.args.over c.requires.over)) c.requires.fits

pub returns : goal.returns
returns c =
    subst (λ z. AreScaled z (length c.args.numbers.now) c.args.numbers.now
    c.scale_marked.new.numbers) (to_z_pos w64 c.args.over c.requires.over) c.scale_marked.ensures
