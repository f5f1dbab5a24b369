-- One answer after another.
use Rattle.std.specs.Prelude.{◌≡◌, ℕ, ◌+◌, List, [], ◌∷◌, ◌++◌, cond, refl}
use Rattle.std.proofs.Common.{length-append, sym}
use Rattle.std.proofs.lemmas.List.Sums.{sum_by_push}
use Rattle.report_core.specs.declared.answer.Answer.{Answer}
use Rattle.run_summary.specs.Summary.{calls_of, is_refusal, last_of, one_more, tally_of}
use Rattle.run_summary.specs.declared.tally.Tally.{Tally}

last_more : (answers : List Answer) (answer : Answer) → last_of (answers ++ answer ∷ []) ≡ answer
last_more [] answer = refl
last_more (first ∷ []) answer = refl
last_more (first ∷ second ∷ answers) answer = last_more (second ∷ answers) answer

tally_by : (lines lines' refused refused' calls calls' : ℕ) (last last' : Answer)
    → lines ≡ lines' → refused ≡ refused' → calls ≡ calls' → last ≡ last'
    → let t : Tally = record { lines = lines; refused = refused; calls = calls; last = last } in
    t ≡ record { lines = lines'; refused = refused'; calls = calls'; last = last' }
tally_by lines lines' refused refused' calls calls' last last' a b c d = cc

pub counted_more : (answers : List Answer) (answer : Answer)
    → one_more (tally_of answers) answer ≡ tally_of (answers ++ answer ∷ [])
counted_more answers answer =
    tally_by _ _ _ _ _ _ _ _ (sym (length-append answers (answer ∷ [])))
    (sym (sum_by_push (λ a. cond (is_refusal a) 1 0) answers answer))
    (sym (sum_by_push calls_of answers answer)) (sym (last_more answers answer))
