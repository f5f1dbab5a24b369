-- The four numbers that a script is generated from.
use Rattle.std.specs.Prelude.{ℕ, ◌^◌, Bool, ◌&&◌, ◌||◌, nat_le, nat_lt, nat_eq, Option, Some, None, refl, if◌then◌else◌}
use Rattle.std.specs.Coded.{Coded, code_by, coded×, coded_ℕ}

pub record ScriptNumbers : Type 0 where
  pub seed : ℕ
  pub vars : ℕ
  pub rows : ℕ
  pub edits : ℕ

abbrev pub numbers_of : ℕ → ℕ → ℕ → ℕ → ScriptNumbers
numbers_of seed vars rows edits =
    record { seed = seed; vars = vars; rows = rows; edits = edits }

abbrev pub numbers_code : Coded ScriptNumbers
numbers_code =
    code_by ((ℕ × ℕ) × (ℕ × ℕ)) (coded× (coded× coded_ℕ coded_ℕ) (coded× coded_ℕ coded_ℕ))
    (λ n. ((n.seed, n.vars), (n.rows, n.edits)))
    (λ p. record { seed = p.0.0; vars = p.0.1; rows = p.1.0; edits = p.1.1 }) (λ _. refl)

-- a seed of 31 bits, 1 to 1,000 variables, at most 1,000 rows and 100,000 edits; without a row there
-- is no edit
abbrev pub is_in_range : ScriptNumbers → Bool
is_in_range n =
    (nat_lt n.seed (2 ^ 31) && (nat_le 1 n.vars && nat_le n.vars 1000))
    && (nat_le n.rows 1000 && (nat_le n.edits 100000 && (nat_eq n.edits 0 || nat_le 1 n.rows)))

-- the numbers, where they are within the limits
abbrev pub in_range : ScriptNumbers → Option ScriptNumbers
in_range n = if is_in_range n then Some n else None
