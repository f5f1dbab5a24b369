-- What is printed of an answer.
use Rattle.std.specs.Prelude.{ℕ, List, [], ◌∷◌, ◌++◌, codes, flat_map}
use Rattle.ratio_core.specs.Rational.{Rational}
use Rattle.ratio_core.specs.Text.{text_of}
use Rattle.simplex_core.specs.declared.answer.SolverAnswer.{SolverAnswer}
use Rattle.simplex_core.specs.declared.answer.SolverAnswer.TheVariants.{Infeasible, Optimal, Unbounded}

-- a letter, and then the numbers, each after a space
abbrev pub numbers_line : ℕ → List Rational → List ℕ
numbers_line letter qs = letter ∷ flat_map (λ q. 32 ∷ text_of q) qs ++ 10 ∷ []

unfoldable pub optimal_text : List Rational → List Rational → List ℕ
optimal_text x y = codes "optimal\n" ++ numbers_line 120 x ++ numbers_line 121 y

unfoldable pub infeasible_text : List Rational → List ℕ
infeasible_text y = codes "infeasible\n" ++ numbers_line 121 y

unfoldable pub unbounded_text : List Rational → List Rational → List ℕ
unbounded_text x d = codes "unbounded\n" ++ numbers_line 120 x ++ numbers_line 100 d

-- the word of the answer, and then its lists: the point x, the multipliers y, the ray d
abbrev pub answer_text : SolverAnswer → List ℕ
answer_text (Optimal x y basis) = optimal_text x y
answer_text (Infeasible y basis) = infeasible_text y
answer_text (Unbounded x d basis) = unbounded_text x d
