-- The constants of variables, which are 0, one after another.
use Rattle.std.specs.Prelude.{◌≡◌, ℕ, ◌+◌, ◌<◌, List, [], ◌∷◌, ◌++◌, length, map, take}
use Rattle.std.proofs.Common.{ap, ap₂, get_or, sym, ◌∙◌}
use Rattle.std.proofs.lemmas.List.{map_push}
use Rattle.ratio_core.specs.Rational.{Rational, zero_ℚ}
use Rattle.aff_core.specs.Address.{Address, address_cmp}
use Rattle.aff_core.specs.Function.{Function, variable}
use Rattle.aff_core.specs.FunctionLaws.{constant-variable}
use Rattle.aff_core.specs.FunctionLists.{constants}
use Rattle.certificates.specs.Points.{variables_at}
use Rattle.dualization.proofs.CarryLemmas.{take_one}

abbrev constant_of : Function → Rational
constant_of f = f.constant

pub zero_more : (vars : List Address) (i : ℕ) (v : Address) (q : Rational)
    (made new : List Rational) → v ≡ get_or vars i v → i < length vars → q ≡ zero_ℚ
    → new ≡ made ++ q ∷ [] → made ≡ constants (variables_at (take i vars))
    → new ≡ constants (variables_at (take (i + 1) vars))
zero_more vars i v q made new at lt q_is new_is so =
    new_is
    ∙ ap₂ (λ m y. m ++ y ∷ []) so (q_is ∙ sym (constant-variable address_cmp v))
    ∙ sym (map_push constant_of (variables_at (take i vars)) (variable v))
    ∙ ap (map constant_of) (sym (map_push (variable {R = address_cmp}) (take i vars) v))
    ∙ ap (λ vs. constants (variables_at vs)) (sym (take_one vars i v at lt))
