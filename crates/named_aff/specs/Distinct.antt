-- Terms of distinct variables.
use Rattle.std.specs.Prelude.{List, [], ◌∷◌, map}
use Rattle.std.specs.List.{IsDistinct}
use Rattle.std.specs.Str.{bytes_eq}
use Rattle.named_aff.specs.declared.terms.NamedTerm.{NamedTerm}

-- no two terms are of one variable
abbrev pub HasDistinctNames : List NamedTerm → Type 0
HasDistinctNames ts = IsDistinct bytes_eq (map (λ t. t.variable) ts)

pub none_distinct : HasDistinctNames []
unfolding IsDistinct
none_distinct = tt

pub one_distinct : (t : NamedTerm) → HasDistinctNames (t ∷ [])
unfolding IsDistinct
one_distinct t = (tt, tt)
