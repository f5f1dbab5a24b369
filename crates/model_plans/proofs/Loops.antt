-- The loop that numbers the variables of a new group.
use Rattle.std.proofs.Common.{◌≡◌, ℕ, zero, suc, ◌+◌, ◌∷◌, [], ◌++◌, List, Some, take, ap, sym, ◌∙◌, add-one, arith}
use Rattle.std.specs.Prelude.{slice_get}
use Rattle.user_model.specs.declared.group.GroupVar.{GroupVar}
use Rattle.user_model.specs.Edited.{numbered_from}

next_numbered : (n : ℕ) (names : List (List ℕ)) (i : ℕ) (name : List ℕ)
    → slice_get names i ≡ Some name → numbered_from n (take (suc i) names)
    ≡ numbered_from n (take i names) ++ record { number = n + i; name = name } ∷ []
next_numbered n [] i name e = cc
next_numbered n (m ∷ names) zero name e =
    let same : m ≡ name = cc in
    let first : n + 0 ≡ n = omega arith in
    ap (λ k. record { number = n; name = k } ∷ []) same
    ∙ ap (λ k. record { number = k; name = name } ∷ []) (sym first)
next_numbered n (m ∷ names) (suc i) name e =
    let rest = next_numbered (suc n) names i name e in
    let number : suc n + i ≡ n + suc i = omega arith in
    ap (λ vs. record { number = n; name = m } ∷ vs) (rest
    ∙ ap (λ k. numbered_from (suc n) (take i names) ++ record { number = k; name = name } ∷ [])
    number)

-- one more name
pub numbered_pushed : (n : ℕ) (names : List (List ℕ)) (i : ℕ) (name : List ℕ)
    (done after : List GroupVar) (var : GroupVar) → Some name ≡ slice_get names i
    → done ≡ numbered_from n (take i names) → var.number ≡ n + i → var.name ≡ name
    → after ≡ done ++ var ∷ [] → after ≡ numbered_from n (take (i + 1) names)
numbered_pushed n names i name done after var at so_far number named pushed =
    let more : numbered_from n (take (i + 1) names)
    ≡ numbered_from n (take i names) ++ record { number = n + i; name = name } ∷ [] = rw add-one
    (next_numbered n names i name (sym at)) in
    let is : var ≡ record { number = n + i; name = name } =
    λ j. record { number = number j; name = named j } in
    pushed ∙ (ap (λ d. d ++ var ∷ []) so_far
    ∙ (ap (λ v. numbered_from n (take i names) ++ v ∷ []) is ∙ sym more))
