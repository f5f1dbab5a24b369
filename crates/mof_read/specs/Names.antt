-- The names of rows.
use Rattle.std.specs.Prelude.{ℕ, zero, suc, ◌+◌, List, [], ◌∷◌, length, Option, Some, None, bytes_eq, decimal, if◌then◌else◌}
use Rattle.std.specs.List.{list_any}
use Rattle.indexmap.specs.IndexSet.{insert_key}
use Rattle.mof_file.specs.declared.constraints.FileConstraint.{FileConstraint}

-- ---- names that constraints have of their own

-- none, where an earlier constraint has it
abbrev pub own_name : List (List ℕ) → Option (List ℕ) → Option (List ℕ)
own_name earlier (Some name) = if list_any (bytes_eq name) earlier then None else Some name
own_name earlier None = None

abbrev pub and_name : List (List ℕ) → Option (List ℕ) → List (List ℕ)
and_name earlier (Some name) = insert_key bytes_eq earlier name
and_name earlier None = earlier

abbrev pub with_own_name : List (List ℕ) → FileConstraint → FileConstraint
with_own_name earlier c = record c { name = own_name earlier c.name }

-- the constraints, each with no name or one of its own
abbrev pub with_own_names : List (List ℕ) → List FileConstraint → List FileConstraint
with_own_names earlier [] = []
with_own_names earlier (c ∷ cs) =
    with_own_name earlier c ∷ with_own_names (and_name earlier c.name) cs

-- the names of these and of the constraints
abbrev pub all_names : List (List ℕ) → List FileConstraint → List (List ℕ)
all_names earlier [] = earlier
all_names earlier (c ∷ cs) = all_names (and_name earlier c.name) cs

-- ---- names of rows that have none

-- `#n`
abbrev pub numbered : ℕ → List ℕ
numbered n = 35 ∷ decimal n

-- the first of n, n + step, n + 2 * step and so on whose name isn't taken; n tries find one,
-- as there are names
abbrev pub first_free : List (List ℕ) → ℕ → ℕ → ℕ → ℕ
first_free taken step zero n = n
first_free taken step (suc tries) n =
    if list_any (bytes_eq (numbered n)) taken then first_free taken step tries (n + step) else n

-- the name of the k-th constraint of n, as a row
abbrev pub row_name : List (List ℕ) → ℕ → ℕ → Option (List ℕ) → List ℕ
row_name taken count k (Some name) = name
row_name taken count k None = numbered (first_free taken count (length taken) k)
