-- Writes, one after another.
use Rattle.std.proofs.Common.{◌≡◌, ℕ, ◌+◌, ◌-◌, List, [], ◌++◌, length, take, drop, refl, sym, ◌∙◌, ap, append_assoc, append-nil, Some, None}
use Rattle.std.specs.Prelude.{Option}
use Rattle.std.proofs.lemmas.List.{take_rest}
use Rattle.std.proofs.Math.Seq.{take-add}
use Rattle.io_face.specs.Sink.{Adds}

-- a write of nothing
pub Adds-empty : (written : Option (List ℕ)) → Adds written written []
Adds-empty None = refl
Adds-empty (Some bytes) = ap Some (sym (append-nil bytes))

-- two writes added one text after the other
pub Adds-append : (first second third : Option (List ℕ)) (s t : List ℕ)
    → Adds first second s → Adds second third t → Adds first third (s ++ t)
Adds-append None second third s t p q = rw p at q
Adds-append (Some bytes) second third s t p q = (rw p at q) ∙ ap Some (append_assoc bytes s t)

-- what was written is known as before, and ends in the text
pub Adds-told : (bytes : List ℕ) (new : Option (List ℕ)) (text : List ℕ)
    → Adds (Some bytes) new text → new ≡ Some (bytes ++ text)
Adds-told bytes new text p = p

-- a write of the next n bytes, after those of the text that are done
pub Adds-next : (first second third : Option (List ℕ)) (text : List ℕ) (done n : ℕ)
    → Adds first second (take done text)
    → Adds second third (take n (take (length text - done) (drop done text)))
    → Adds first third (take (done + n) text)
Adds-next first second third text done n p q =
    let next : Adds second third (take n (drop done text)) = rw take_rest at q in
    rw take-add (Adds-append first second third (take done text) (take n (drop done text)) p next)
