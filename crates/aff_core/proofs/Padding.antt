-- The places of an address past its depth.
use Rattle.std.proofs.Common.{◌≡◌, ℕ, ◌+◌, ◌-◌, ◌<◌, List, drop, ap, sym, ◌∙◌, arith}
use Rattle.std.specs.Prelude.{replicate}
use Rattle.std.proofs.Math.ListN.{set}
use Rattle.std.proofs.lemmas.List.{drop-set-lt, drop-drop, drop-replicate}

-- a position written at the depth leaves zeros past it
pub zeros-set : (places : List ℕ) (d p : ℕ) → d < 40 → drop d places ≡ replicate (40 - d) 0
    → drop (d + 1) (set places d p) ≡ replicate (40 - (d + 1)) 0
zeros-set places d p h zeros =
    drop-set-lt (d + 1) places d p (omega arith)
    ∙ sym (drop-drop 1 d places) ∙ ap (drop 1) zeros ∙ drop-replicate 1 (40 - d) 0
    ∙ ap (λ n. replicate n 0) (omega arith)
