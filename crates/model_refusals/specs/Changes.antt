-- The counts of a model in which one function changes.
use Rattle.std.specs.Prelude.{ℕ, List, ◌∷◌, [], ◌++◌, ◌+◌, ◌-◌, map}
use Rattle.aff_core.specs.Function.{Function}
use Rattle.user_model.specs.Edited.{changed_at}
use Rattle.user_model.specs.Functions.{term_count}
use Rattle.user_model.specs.Limits.{ALL_TERMS, TERMS}
use Rattle.user_model.specs.Refusals.{within}

-- the counts where a function has new terms in place of old ones: its own, and all
abbrev pub with_change : ℕ → ℕ → ℕ → List (ℕ × ℕ)
with_change all old new = (new, TERMS) ∷ (all - old + new, ALL_TERMS) ∷ []

-- the counts where the function at a place is made another: those of all functions, and all
abbrev pub with_change_at : ℕ → List Function → ℕ → Function → (Function → Function)
    → List (ℕ × ℕ)
with_change_at all funcs place f g =
    within TERMS (map term_count (changed_at place g funcs))
    ++ (all - term_count f + term_count (g f), ALL_TERMS) ∷ []
