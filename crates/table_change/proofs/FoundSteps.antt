-- Items of a list, of which those that are given are put into another, one after another.
use Rattle.std.specs.Prelude.{◌≡◌, Bool, true, false, cond, List, [], ◌∷◌, ◌++◌, filter}
use Rattle.std.proofs.Common.{ap, sym, ◌∙◌}
use Rattle.std.proofs.lemmas.List.{append_assoc, append-nil}

module _ {X : Type 0} (p : X → Bool) where
  abbrev pub IsFinding : List X → List X → List X → Type 0
  IsFinding all left found = found ++ filter p left ≡ filter p all

  one_more : (b : Bool) (x : X) (found rest : List X)
      → (found ++ cond b (x ∷ []) []) ++ filter p rest
      ≡ found ++ cond b (x ∷ filter p rest) (filter p rest)
  one_more true x found rest = append_assoc found (x ∷ []) (filter p rest)
  one_more false x found rest = ap (λ l. l ++ filter p rest) (append-nil found)

  pub finding_more : (all left rest : List X) (x : X) (b : Bool) (found after : List X)
      → IsFinding all left found → left ≡ x ∷ rest → b ≡ p x
      → after ≡ found ++ cond b (x ∷ []) [] → IsFinding all rest after
  finding_more all left rest x b found after h next is put =
      ap (λ l. l ++ filter p rest) put
      ∙ ap (λ c. (found ++ cond c (x ∷ []) []) ++ filter p rest) is
      ∙ one_more (p x) x found rest
      ∙ sym (ap (λ l. found ++ filter p l) next)
      ∙ h
