use Rattle.std.proofs.Common.{◌≡◌, ◌==◌, ◌%◌, ℕ, Bool, arith, eq-eqb, false, ne_eqb, true, sym, ap, ◌∙◌}
use Rattle.std.proofs.lemmas.Bool.{false≢true}
use Rattle.model_refusals.specs.Hash.{hash_of, is_seen}
use Rattle.model_refusals.specs.Marked.{is_marked}
use Rattle.model_refusals.proofs.SeenNames.{at_end, new_by_mark, one_more, twin_at}
use Rattle.map_laws.specs.PlaceLaws.{none_past}
use Rattle.model_refusals.proofs.twins.has_twins_in.Goals.{in-Some+then-hash-parts+else-has, else-has-via-then-has+else-stands_before, else-has-via-else-has, in-Some+else-hash-parts, in_default}
use Rattle.model_refusals.proofs.twins.has_twins_in.Goals as goal

pub returns-then-stands_before-clause-some : goal.returns-then-stands_before-clause-some
returns-then-stands_before-clause-some c =
    λ e. twin_at c.args.names.now c.loop-place.place c.in-Some.name.now (sym c.in-Some.ensures)
    (sym c.stands_before.ensures ∙ c.if-stands_before.true)

pub loop-place-preserved : goal.loop-place-preserved
loop-place-preserved c =
    let names = c.args.names.now in
    let place = c.loop-place.place in
    let marks = c.loop-place.marks in
    let of_part : ℕ → Bool = λ hash. hash % c.args.parts == c.args.part in
    elim c.match-get.branch [
      | in-Some+then-hash-parts+else-has w ↦
          let name = w.in-Some.name.now in
          let here = sym w.in-Some.ensures in
          let hash = w.hash_of-hash.ensures in
          let of_this : of_part (hash_of name) ≡ true =
          ap of_part (sym hash) ∙ eq-eqb _ _ w.if-hash-parts.true in
          let unseen : is_seen names place name ≡ false = elim w.else-has.branch [
            | else-has-via-then-has+else-stands_before v ↦ sym v.stands_before.ensures
                ∙ v.if-stands_before.false
            | else-has-via-else-has v ↦ new_by_mark names of_part place name marks here
                c.loop-place.invariant of_this (ap (is_marked marks) (sym hash)
                ∙ (sym w.has.ensures ∙ v.if-has.false))
          ] in
          one_more names of_part place name marks here c.loop-place.invariant c.match-get.marks
          (λ e. unseen)
          (λ e. ap (λ m. is_marked m (hash_of name)) w.marks-is
          ∙ (ap (is_marked w.put.new.self) (sym hash) ∙ w.put.ensures.put))
          (λ n e. ap (λ m. is_marked m n) w.marks-is ∙ w.put.ensures.kept n e)
      | in-Some+else-hash-parts w ↦
          let name = w.in-Some.name.now in
          let other : of_part (hash_of name) ≡ false =
          ap of_part (sym w.hash_of-hash.ensures) ∙ ne_eqb _ _ w.if-hash-parts.false in
          one_more names of_part place name marks (sym w.in-Some.ensures) c.loop-place.invariant
          c.match-get.marks
          (λ e. absurd (false≢true (sym other ∙ e)))
          (λ e. absurd (false≢true (sym other ∙ e)))
          (λ n e. ap (λ m. is_marked m n) w.marks-is ∙ e)
      | in_default w ↦ absurd (none_past place names (sym w.in_default.ensures) (omega arith))
    ]

pub returns-clause-none : goal.returns-clause-none
returns-clause-none c =
    λ e. at_end c.args.names.now (λ hash. hash % c.args.parts == c.args.part) c.loop-place.place
    c.loop-place.marks (omega arith) c.loop-place.invariant
