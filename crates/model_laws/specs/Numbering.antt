-- New variables, numbered from n on.
use Rattle.std.specs.Prelude.{◌≡◌, ◌≢◌, ℕ, suc, ◌+◌, ◌<◌, ◌≤◌, false, List, [], ◌∷◌, All, AllPairs, length, refl}
use Rattle.std.specs.List.{list_any}
use Rattle.std.specs.Str.{bytes_eq}
use Rattle.std.proofs.Common.{arith, ap}
use Rattle.std.proofs.lemmas.Bool.{or_parts}
use Rattle.std.proofs.lemmas.List.Elements.{All-nil, All-cons, All-head, All-tail, All-weaker}
use Rattle.std.proofs.lemmas.List.Kept.{AllPairs-cons}
use Rattle.numbered_list.specs.Numbered.{Rise}
use Rattle.numbered_list.specs.Laws.{Rise-nil, Rise-cons}
use Rattle.user_model.specs.Edited.{numbered_from}
use Rattle.user_model.specs.Consistent.{variable_number}
use Rattle.user_model.specs.Refusals.{has_twins}
use Rattle.map_laws.specs.PairLaws.{AllPairs-nil}
use Rattle.model_laws.specs.Found.{others_of_name}

pub numbered_length : (n : ℕ) (names : List (List ℕ))
    → length (numbered_from n names) ≡ length names
numbered_length n [] = refl
numbered_length n (name ∷ names) = ap suc (numbered_length (suc n) names)

pub numbered_names : (P : List ℕ → Type 0) (n : ℕ) (names : List (List ℕ)) → All P names
    → All (λ v. P v.name) (numbered_from n names)
numbered_names P n [] h = All-nil (λ v. P v.name)
numbered_names P n (name ∷ names) h =
    All-cons (λ v. P v.name) (record { number = n; name = name }) (numbered_from (suc n) names)
    (All-head P name names h) (numbered_names P (suc n) names (All-tail P name names h))

pub numbered_from_on : (n : ℕ) (names : List (List ℕ))
    → All (λ v. n ≤ v.number) (numbered_from n names)
numbered_from_on n [] = All-nil (λ v. n ≤ v.number)
numbered_from_on n (name ∷ names) =
    All-cons (λ v. n ≤ v.number) (record { number = n; name = name }) (numbered_from (suc n) names)
    (omega arith) (All-weaker (λ v. suc n ≤ v.number) (λ v. n ≤ v.number) (λ v le. omega arith)
    (numbered_from (suc n) names) (numbered_from_on (suc n) names))

pub numbered_below : (n : ℕ) (names : List (List ℕ))
    → All (λ v. v.number < n + length names) (numbered_from n names)
numbered_below n [] = All-nil (λ v. v.number < n + 0)
numbered_below n (name ∷ names) =
    All-cons (λ v. v.number < n + length (name ∷ names)) (record { number = n; name = name })
    (numbered_from (suc n) names) (omega arith) (All-weaker
    (λ v. v.number < suc n + length names) (λ v. v.number < n + length (name ∷ names))
    (λ v lt. omega arith) (numbered_from (suc n) names) (numbered_below (suc n) names))

pub numbered_rise : (n : ℕ) (names : List (List ℕ)) → Rise variable_number (numbered_from n names)
numbered_rise n [] = Rise-nil variable_number
numbered_rise n (name ∷ names) =
    Rise-cons variable_number (record { number = n; name = name }) (numbered_from (suc n) names)
    (All-weaker (λ v. suc n ≤ v.number) (λ v. n < v.number) (λ v le. omega arith)
    (numbered_from (suc n) names) (numbered_from_on (suc n) names))
    (numbered_rise (suc n) names)

pub numbered_distinct : (n : ℕ) (names : List (List ℕ)) → has_twins names ≡ false
    → AllPairs (λ v w. v.name ≢ w.name) (numbered_from n names)
numbered_distinct n [] e = AllPairs-nil (λ v w. v.name ≢ w.name)
numbered_distinct n (name ∷ names) e =
    let parts = or_parts (list_any (bytes_eq name) names) (has_twins names) e in
    AllPairs-cons (λ v w. v.name ≢ w.name) (record { number = n; name = name })
    (numbered_from (suc n) names) (numbered_names (λ other. name ≢ other) (suc n) names
    (others_of_name name names parts.0)) (numbered_distinct (suc n) names parts.1)
