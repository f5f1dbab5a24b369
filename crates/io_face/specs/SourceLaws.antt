-- Reads, one after another.
use Rattle.std.proofs.Common.{◌≡◌, ℕ, ◌+◌, ◌≤◌, List, [], ◌++◌, length, take, drop, refl, sym, ◌∙◌, ap, arith, append_assoc, append-nil, length-append, Some, None}
use Rattle.std.specs.Prelude.{Option, option_map, IfSome}
use Rattle.std.specs.Io.KnownBytes.{IsAtEnd}
use Rattle.std.proofs.lemmas.List.{take-append-drop, take_at, drop_at, drop-drop}
use Rattle.io_face.specs.Source.{Takes}

-- a read of nothing
pub Takes-empty : (left : Option (List ℕ)) → Takes left left []
Takes-empty None = refl
Takes-empty (Some bytes) = refl

-- two reads took one text after the other
pub Takes-append : (first second third : Option (List ℕ)) (s t : List ℕ)
    → Takes first second s → Takes second third t → Takes first third (s ++ t)
Takes-append first second None s t p q = rw q at p
Takes-append first second (Some rest) s t p q = (rw q at p) ∙ ap Some (sym (append_assoc s t rest))

-- what was read is known as before, and began with the text
pub Takes-told : (bytes : List ℕ) (new : Option (List ℕ)) (text : List ℕ)
    → Takes (Some bytes) new text → (rest : List ℕ) × (new ≡ Some rest) × (bytes ≡ text ++ rest)
Takes-told bytes None text p = cc
Takes-told bytes (Some rest) text p = (rest, refl, cc)

-- what is left now is what was left without its front
pub Takes-drop : (old new : Option (List ℕ)) (text : List ℕ)
    → Takes old new text → new ≡ option_map (drop (length text)) old
Takes-drop old None text p = rw p refl
Takes-drop old (Some rest) text p = rw p (ap Some (sym (drop_at text rest (length text) refl)))

-- the text is the front of what was left
pub Takes-take : (bytes : List ℕ) (new : Option (List ℕ)) (text : List ℕ)
    → Takes (Some bytes) new text → (length text ≤ length bytes) × (text ≡ take (length text) bytes)
Takes-take bytes None text p = cc
Takes-take bytes (Some rest) text p =
    let e : bytes ≡ text ++ rest = cc in
    rw e (omega (arith, length-append text rest), sym (take_at text rest (length text) refl))

-- at the end of the input everything was taken
pub Takes-all : (old new : Option (List ℕ)) (text : List ℕ)
    → Takes old new text → IsAtEnd new → IfSome old (λ bytes. bytes ≡ text)
Takes-all None new text p end = tt
Takes-all (Some bytes) None text p end = cc
Takes-all (Some bytes) (Some rest) text p end =
    let e : bytes ≡ text ++ rest = cc in
    e ∙ (rw end (append-nil text))

-- a part that was copied from the place `at`, and what lies behind it there, are what began there
pub copied_front : (bytes given rest : List ℕ) (at n : ℕ) → length given ≡ n
    → given ≡ take n (drop at bytes)
    → drop at bytes ≡ take n (given ++ rest) ++ drop (at + n) bytes
copied_front bytes given rest at n fits copied =
    let front : take n (given ++ rest) ≡ take n (drop at bytes) = take_at given rest n fits ∙ copied
    in
    let behind : drop n (drop at bytes) ≡ drop (at + n) bytes = drop-drop n at bytes in
    let whole : take n (drop at bytes) ++ drop n (drop at bytes) ≡ drop at bytes =
    take-append-drop n (drop at bytes) in
    cc
