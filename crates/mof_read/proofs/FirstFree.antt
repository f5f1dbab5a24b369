-- The first number whose name isn't taken.
use Rattle.std.specs.Prelude.{◌≡◌, ℕ, zero, suc, ◌+◌, ◌-◌, ◌*◌, ◌^◌, ◌<◌, ◌≤◌, true, false, List, ◌∷◌, bytes_eq, length}
use Rattle.std.proofs.Common.{add-one, ap, arith, suc-mul, sym, ◌∙◌}
use Rattle.std.proofs.lemmas.Bool.{cond-false, cond-true}
use Rattle.std.proofs.lemmas.Nat.{mul-le}
use Rattle.std.specs.List.{list_any}
use Rattle.name_index.specs.Name.{HasBadLength}
use Rattle.mof_read.specs.Names.{first_free, numbered}

-- `#n` is short
pub not_bad : (text digits : List ℕ) → text ≡ 35 ∷ digits → length digits ≤ 40
    → HasBadLength text → ⊥
not_bad text digits is short bad =
    let long : length text ≡ suc (length digits) = ap length is in
    omega (arith, bad, long, short)

pub stays_small : (n number tried count len : ℕ) → n ≤ number + tried * count → tried < len
    → len < 2 ^ 64 → number < 2 ^ 64 → count < 2 ^ 64 → n + count < 2 ^ 128
stays_small n number tried count len h within short low few =
    let product : tried * count ≤ (2 ^ 64 - 2) * (2 ^ 64 - 1) = mul-le tried count (2 ^ 64 - 2)
    (2 ^ 64 - 1) (omega arith) (omega arith) in
    omega (arith, product, h)

pub goes_on : (n number tried count : ℕ) → n ≤ number + tried * count
    → n + count ≤ number + (tried + 1) * count
goes_on n number tried count h =
    let parted : (tried + 1) * count ≡ tried * count + count =
    ap (λ k. k * count) (add-one tried) ∙ suc-mul tried count in
    omega (arith, h, parted)

module _ (taken : List (List ℕ)) (count tried n : ℕ) (within : tried < length taken) where
  left : first_free taken count (length taken - tried) n
      ≡ first_free taken count (suc (length taken - (tried + 1))) n
  left =
      let one_more : length taken - tried ≡ suc (length taken - (tried + 1)) = omega arith in
      ap (λ k. first_free taken count k n) one_more

  pub is_found : (all : ℕ) → first_free taken count (length taken - tried) n ≡ all
      → list_any (bytes_eq (numbered n)) taken ≡ false → all ≡ n
  is_found all so_far new = sym so_far ∙ left ∙ cond-false _ _ _ new

  pub is_later : (all : ℕ) → first_free taken count (length taken - tried) n ≡ all
      → list_any (bytes_eq (numbered n)) taken ≡ true
      → first_free taken count (length taken - (tried + 1)) (n + count) ≡ all
  is_later all so_far there = sym (cond-true _ _ _ there) ∙ sym left ∙ so_far

pub is_last : (taken : List (List ℕ)) (count tried n all : ℕ) → length taken ≤ tried
    → first_free taken count (length taken - tried) n ≡ all → all ≡ n
is_last taken count tried n all past so_far =
    let none_left : length taken - tried ≡ zero = omega arith in
    sym so_far ∙ ap (λ k. first_free taken count k n) none_left

pub ruleset tries = (stays_small, goes_on, is_found, is_later, is_last)
