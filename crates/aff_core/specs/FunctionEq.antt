-- Equality of affine functions.
use Rattle.std.specs.Prelude.{◌≡◌, Bool, ◌&&◌}
use Rattle.std.proofs.Common.{ap}
use Rattle.std.specs.Bool.{Decides}
use Rattle.std.specs.Ordering.{eq_by_cmp}
use Rattle.std.specs.Cmp.{IsEquivalence, IsPartialEquivalence, decided, partial_equiv_from_equiv}
use Rattle.std.specs.Cmp.Lexicographic.{pointwise, pointwise_decides}
use Rattle.std.proofs.lemmas.Bool.Decides.{Decides-and}
use Rattle.ratio_core.specs.Rational.{Rational, rational_eq}
use Rattle.ratio_core.specs.RationalLaws.{rational_eq_Decides}
use Rattle.aff_core.specs.Address.{Address, address_cmp, address_eq-Decides}
use Rattle.aff_core.specs.Function.{Function, terms_of}
use Rattle.aff_core.specs.FunctionLaws.{same_function}

-- the same address with the same coefficient
abbrev pub term_eq : Address × Rational → Address × Rational → Bool
term_eq s t = eq_by_cmp address_cmp s.0 t.0 && rational_eq s.1 t.1

-- true exactly where the functions are equal
unfoldable pub function_eq : Function → Function → Bool
function_eq f g = rational_eq f.constant g.constant && pointwise term_eq (terms_of f) (terms_of g)

pub term_eq-Decides : (s t : Address × Rational) → Decides (term_eq s t) (s ≡ t)
term_eq-Decides s t =
    let parts = Decides-and (eq_by_cmp address_cmp s.0 t.0) (rational_eq s.1 t.1)
    (address_eq-Decides s.0 t.0) (rational_eq_Decides s.1 t.1) in
    (λ e. λ i. ((parts.0 e).0 i, (parts.0 e).1 i), λ e. parts.1 (ap (λ u. u.0) e, ap (λ u. u.1) e))

pub function_eq-Decides : (f g : Function) → Decides (function_eq f g) (f ≡ g)
unfolding function_eq
function_eq-Decides f g =
    let parts = Decides-and (rational_eq f.constant g.constant)
    (pointwise term_eq (terms_of f) (terms_of g))
    (rational_eq_Decides f.constant g.constant) (pointwise_decides term_eq-Decides
    (terms_of f) (terms_of g)) in (
      λ e. same_function f g (parts.0 e).1 (parts.0 e).0,
      λ e. parts.1
          (ap (λ h. h.constant) e, ap terms_of e),
    )

pub function_eq_equiv : IsEquivalence function_eq
function_eq_equiv = decided function_eq function_eq-Decides

pub function_eq_partial_equiv : IsPartialEquivalence function_eq
function_eq_partial_equiv = partial_equiv_from_equiv function_eq_equiv
