-- Groups of variables that are made one after another, and functions of their variables.
use Rattle.std.specs.Prelude.{ℕ, suc, ◌+◌, List, [], ◌∷◌, length}
use Rattle.ratio_core.specs.Rational.{Rational}
use Rattle.set_core.specs.declared.set.Set.{Set}
use Rattle.aff_core.specs.Address.{Address}
use Rattle.user_model.specs.declared.group.Group.{Group}
use Rattle.user_model.specs.Edited.{numbered_from}
use Rattle.user_model.specs.Model.{variable_address}

-- variables that are made together
pub record NewGroup : Type 0 where
  pub names : List (List ℕ)
  pub set : Set

-- the groups with these variables, numbered one after another, and how many variables they have
abbrev pub numbered_groups : ℕ → ℕ → List NewGroup → List Group
numbered_groups id n [] = []
numbered_groups id n (g ∷ gs) =
    record { id = id; vars = numbered_from n g.names; set = g.set }
    ∷ numbered_groups (suc id) (n + length g.names) gs

abbrev pub variable_count : List NewGroup → ℕ
variable_count [] = 0
variable_count (g ∷ gs) = length g.names + variable_count gs

-- coefficients of the variables from the n-th on
abbrev pub terms_from : ℕ → List Rational → List (Address × Rational)
terms_from n [] = []
terms_from n (q ∷ qs) = (variable_address n, q) ∷ terms_from (suc n) qs
