-- Sets of numbers and of vectors.
use Rattle.std.specs.Prelude.{ℕ, List, [], ◌∷◌, Option, Some, None, if◌then◌else◌}
use Rattle.name_index.specs.Name.{name_of_token}
use Rattle.ratio_core.specs.Rational.{Rational}
use Rattle.ratio_core.specs.Text.{rational_of}
use Rattle.set_core.specs.declared.set.Set.{Set}
use Rattle.set_core.specs.declared.set.Set.TheVariants.{LessThan, GreaterThan, EqualTo, Interval, Reals, Zeros, Nonnegatives, Nonpositives, NormInfinityCone, NormOneCone}
use Rattle.script_core.specs.Reading.{TokenList, is, alone}
use Rattle.script_tokens.specs.Each.{◌>>=◌}

-- the number that the first token is, and the tokens after it
unfoldable pub first_number : TokenList → Option (Rational × TokenList)
first_number (token ∷ tokens) = do
  number ← rational_of token
  Some (number, tokens)
first_number [] = None

-- a set of one bound, and the tokens after it
abbrev pub bounded : (Rational → Set) → TokenList → Option (Set × TokenList)
bounded set tokens = do
  bound ← first_number tokens
  Some (set bound.0, bound.1)

-- an interval by its bounds, and the tokens after them
abbrev pub interval : TokenList → Option (Set × TokenList)
interval tokens = do
  lower ← first_number tokens
  upper ← first_number lower.1
  Some (Interval lower.0 upper.0, upper.1)

-- >= Q, <= Q, == Q or in L U: the set, and the tokens after it
unfoldable pub relation_of : List ℕ → TokenList → Option (Set × TokenList)
relation_of word tokens =
    if is ">=" word then bounded GreaterThan tokens
    else (if is "<=" word then bounded LessThan tokens
    else (if is "==" word then bounded EqualTo tokens
    else (if is "in" word then interval tokens
    else None)))

-- a relation that nothing follows
unfoldable pub last_relation_of : List ℕ → TokenList → Option Set
last_relation_of word tokens = do
  relation ← relation_of word tokens
  alone relation.0 relation.1

-- a name and a relation that nothing follows
unfoldable pub last_named_relation_of : TokenList → Option (List ℕ × Set)
last_named_relation_of (token ∷ word ∷ tokens) = do
  name ← name_of_token token
  set ← last_relation_of word tokens
  Some (name, set)
last_named_relation_of _ = None

-- the set of vectors of n components
unfoldable pub vector_set_of : List ℕ → ℕ → Option Set
vector_set_of word components =
    if is "reals" word then Some (Reals components)
    else (if is "zeros" word then Some (Zeros components)
    else (if is "nonneg" word then Some (Nonnegatives components)
    else (if is "nonpos" word then Some (Nonpositives components)
    else (if is "norminf" word then Some (NormInfinityCone components)
    else (if is "normone" word then Some (NormOneCone components)
    else None)))))
