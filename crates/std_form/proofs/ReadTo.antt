-- What loops that read an answer back have read, and what is left.
use Rattle.std.specs.Prelude.{◌≡◌, ℕ, List, ◌++◌, drop, map}
use denote.Ref.{Bor}
use Rattle.ratio_core.specs.Rational.{Rational}
use Rattle.equality_form.specs.ReadBack.{ValuesFit}
use Rattle.solver_store.specs.declared.leaf.LeafRow.{LeafRow}
use Rattle.solver_store.specs.declared.leaf.LeafVar.{LeafVar}
use Rattle.std_form.specs.Answers.{dual_lists, points}
use Rattle.std_form.specs.Borrowed.{row_in}

-- the first i variables have their values, and the others have them in what is left
pub record AreReadTo (vars : List (ℕ × LeafVar)) (x : List Rational) (i : ℕ) (left : List Rational)
    (values : List (ℕ × Rational)) : Type 0 where
  pub all : values ++ points (drop i vars) left ≡ points vars x
  pub fit : ValuesFit (drop i vars) left → ValuesFit vars x
  pub back : ValuesFit vars x → ValuesFit (drop i vars) left

abbrev pub duals_of : List (ℕ × Bor LeafRow) → List Rational → List (ℕ × List Rational)
duals_of rows w = dual_lists (map row_in rows) w
