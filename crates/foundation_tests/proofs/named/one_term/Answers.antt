use Rattle.std.proofs.Common.{◌≡◌, List, [], ◌∷◌, ◌++◌, sym, subst}
use Rattle.named_aff.specs.declared.terms.NamedTerm.{NamedTerm}
use Rattle.named_aff.specs.Distinct.{HasDistinctNames, one_distinct}
use Rattle.foundation_tests.proofs.named.one_term.Goals as goal

first_distinct : (ts : List NamedTerm) (t : NamedTerm) → ts ≡ [] → HasDistinctNames (ts ++ t ∷ [])
first_distinct ts t none = subst (λ us. HasDistinctNames (us ++ t ∷ [])) (sym none) (one_distinct t)

pub push-requires : goal.push-requires
push-requires c = first_distinct _ _ c.new-terms.ensures
