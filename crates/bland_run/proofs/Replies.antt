-- What is written of an answer.
use Rattle.std.proofs.Common.{◌≡◌, ℕ, ◌≤◌, Bool, List, length, arith, inl, inr, subst, sym, take_all, Some, None}
use Rattle.std.specs.Prelude.{Option, codes}
use Rattle.io_face.specs.Sink.{Adds, AddsPrefix}
use Rattle.simplex_core.specs.declared.form.StdForm.{StdForm}
use Rattle.bland_run.specs.Answering.{AnswersForm}
use Rattle.bland_run.specs.Printing.{answer_text}

-- what is said of a text, by what is said of it otherwise
pub answers_as : (form : Option StdForm) (refused : Bool) (P Q : List ℕ → Type 0)
    → ((t : List ℕ) → P t → Q t) → AnswersForm form refused P → AnswersForm form refused Q
answers_as None refused P Q f h = (h.0, f (codes "refused 1 BadForm\n") h.1)
answers_as (Some form) refused P Q f (inl h) =
    inl (h.0, (h.1.0, h.1.1, h.1.2, f (answer_text h.1.0) h.1.3))
answers_as (Some form) refused P Q f (inr h) =
    inr (h.0, (h.1.0, h.1.1, f (codes "refused 17 Overflow\n") h.1.2))

-- a text that is written whole is begun
pub begun : (old new : Option (List ℕ)) (text : List ℕ) → Adds old new text
    → AddsPrefix old new text
begun old new text h = (
  length text,
  same (length text),
  subst (Adds old new) (sym (take_all (length text) text (same (length text)))) h,
)
  where
    same : (n : ℕ) → n ≤ n
    same n = omega arith

-- the reply's text is what is said of
pub said_of : (form : Option StdForm) (refused : Bool) (text : List ℕ) (Q : List ℕ → Type 0)
    → AnswersForm form refused (λ t. text ≡ t) → Q text → AnswersForm form refused Q
said_of form refused text Q h q = answers_as form refused (λ t. text ≡ t) Q (λ t e. subst Q e q) h
