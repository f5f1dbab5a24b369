-- One more variable in the objective.
use Rattle.std.proofs.Common.{◌≡◌, ℕ, ◌+◌, ◌%◌, List, [], ◌∷◌, ◌++◌, sym, ap, ◌∙◌, append-nil, append_assoc, arith}
use Rattle.std.specs.List.{flat_map, range_with_len}
use Rattle.generated_script.specs.Generator.{after, draw}
use Rattle.generated_script.specs.Script.{cost_term, term_text}
use Rattle.std.proofs.lemmas.Grind.{flat_map-append}
use Rattle.std.proofs.lemmas.List.{map-id}
use Rattle.std.proofs.lemmas.List.FromFn.{map-range_with_len_more}

range_more : (n : ℕ) → range_with_len 0 (n + 1) ≡ range_with_len 0 n ++ n ∷ []
range_more n =
    sym (map-id (range_with_len 0 (n + 1)))
    ∙ map-range_with_len_more (λ i. i) 0 n n (omega arith)
    ∙ ap (λ ns. ns ++ n ∷ []) (map-id (range_with_len 0 n))

costs_more : (f : ℕ → List ℕ) (n : ℕ)
    → flat_map f (range_with_len 0 (n + 1)) ≡ flat_map f (range_with_len 0 n) ++ f n
costs_more f n =
    ap (flat_map f) (range_more n) ∙ flat_map-append f (range_with_len 0 n) (n ∷ [])
    ∙ ap (λ end. flat_map f (range_with_len 0 n) ++ end) (append-nil (f n))

pub term_more : (initial items items' : List ℕ) (s state drawn k : ℕ)
    → items ≡ initial ++ flat_map (cost_term s) (range_with_len 0 k) → state ≡ after k s
    → drawn ≡ draw state → items' ≡ items ++ term_text (1 + drawn % 9) k
    → items' ≡ initial ++ flat_map (cost_term s) (range_with_len 0 (k + 1))
term_more initial items items' s state drawn k before at is pushed =
    let cost : List ℕ = cost_term s k in
    pushed ∙ ap (λ d. items ++ term_text (1 + d % 9) k) (is ∙ ap draw at)
    ∙ ap (λ xs. xs ++ cost) before
    ∙ append_assoc initial (flat_map (cost_term s) (range_with_len 0 k)) cost
    ∙ ap (λ xs. initial ++ xs) (sym (costs_more (cost_term s) k))
