-- Lines that are answered, and then others.
use Rattle.std.specs.Prelude.{◌≡◌, ℕ, Bool, List, [], ◌∷◌, ◌++◌, refl}
use Rattle.std.proofs.Common.{append-nil, append_assoc, subst, sym}
use Rattle.edit_engine.specs.Lines.{Prints, accepted, line_asks, quit, refusal, silent}
use Rattle.edit_engine.specs.Script.{Machine, Steps}
use Rattle.edit_engine.specs.Served.{Serves, next, none, text_of}
use Rattle.report_core.specs.declared.answer.Answer.{Answer}

pub Serves-none : {s : Machine} → Serves s [] [] [] s
Serves-none = none

pub Serves-one : {s new : Machine} {line : List ℕ} {answer : Answer} → Steps s line answer new
    → Serves s (line ∷ []) (answer ∷ []) (line_asks s line) new
Serves-one {s} {new} {line} {answer} steps =
    subst (λ asked. Serves s (line ∷ []) (answer ∷ []) asked new)
    (append-nil (line_asks s line)) (next steps none)

pub Serves-append : {s middle new : Machine} {lines more : List (List ℕ)}
    {answers others : List Answer} {asked rest : List (List ℕ)}
    → Serves s lines answers asked middle → Serves middle more others rest new
    → Serves s (lines ++ more) (answers ++ others) (asked ++ rest) new
Serves-append none after = after
Serves-append {new = new} {more = more} {others = others} {rest = rest}
    (next {s = s} {line = line} {lines = lines} {answer = answer} {answers = answers}
    {asked = asked} steps before) after =
    subst (λ names. Serves s (line ∷ (lines ++ more)) (answer ∷ (answers ++ others)) names new)
    (sym (append_assoc (line_asks s line) asked rest))
    (next steps (Serves-append before after))

-- an answer that prints a text prints this one
pub printed_text : {answer : Answer} {text : List ℕ} {was : Bool} → Prints answer text was
    → text ≡ text_of answer
printed_text silent = refl
printed_text accepted = refl
printed_text refusal = refl
printed_text quit = refl
