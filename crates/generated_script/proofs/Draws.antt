-- Draws one after another, and draws at once.
use Rattle.std.proofs.Common.{◌≡◌, ℕ, ◌+◌, zero, suc, ap, ◌∙◌, arith}
use Rattle.generated_script.specs.Generator.{after, step}

-- more draws behind some
pub after_added : (m n s : ℕ) → after n (after m s) ≡ after (m + n) s
after_added zero n s = let same : n ≡ 0 + n = omega arith in ap (λ k. after k s) same
after_added (suc m) n s =
    let same : suc (m + n) ≡ suc m + n = omega arith in
    after_added m n (step s) ∙ ap (λ k. after k s) same

pub after_one_more : (n s : ℕ) → step (after n s) ≡ after (n + 1) s
after_one_more n s = after_added n 1 s
