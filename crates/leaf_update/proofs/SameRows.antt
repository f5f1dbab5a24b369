-- A test that fails, and lists of functions that are read.
use Rattle.std.specs.Prelude.{◌≡◌, ◌↔◌, ℕ, ◌+◌, ◌<◌, false, IsTrue, List, [], ◌∷◌, ◌++◌, length, map, slice_index_or, take}
use Rattle.std.proofs.Common.{sym, ◌∙◌, ap, true≢false}
use Rattle.std.proofs.lemmas.List.{map-append, take_more}

-- what doesn't hold is what a refusal says
pub refused : {A : Type 0} → ¬ A → IsTrue false ↔ A
refused off = (λ t. absurd (true≢false (sym t)), λ h. absurd (off h))

-- one more is made and pushed
pub pushed_same : {X Y : Type 0} (read : X → Y) (ys : List Y) (i : ℕ) (y : Y) (x : X)
    (old new : List X) → y ≡ slice_index_or ys i y → i < length ys → map read old ≡ take i ys
    → read x ≡ y → new ≡ old ++ x ∷ [] → map read new ≡ take (i + 1) ys
pushed_same read ys i y x old new is lt so_far same pushed =
    ap (map read) pushed
    ∙ map-append read old (x ∷ [])
    ∙ (λ j. so_far j ++ (same ∙ is) j ∷ [])
    ∙ sym (take_more ys i y lt)
