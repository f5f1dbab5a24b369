-- Functions that were made for variables.
use Rattle.std.specs.Prelude.{◌≡◌, Bool, true, false, cond, List, IsTrue, is_some, Option, Some, None, unwrap_or, refl}
use Rattle.std.proofs.Common.{ap, sym, ◌∙◌}
use Rattle.std.specs.FinMap as finite
use Rattle.std.specs.FinMap.{FinMap, get-empty, get-insert}
use Rattle.std.proofs.lemmas.Option.{none-some, same_Some}
use Rattle.aff_core.specs.Address.{Address, address_cmp, address_eq, address_eq-Decides, address_total}
use Rattle.aff_core.specs.Arithmetic.{expression_at}
use Rattle.aff_core.specs.Function.{Function, constant_function}
use Rattle.ratio_core.specs.Rational.{zero_ℚ}
use Rattle.fresh_bridging.specs.Entries.{Entry, function_in}
use Rattle.bridge_plan.specs.Stands.{AreFunctions}

pub one_made : (m : FinMap address_cmp Function) (es : List Entry) (var : Address) (f : Function)
    → AreFunctions es m → f ≡ function_in es var → AreFunctions es (finite.insert m var f)
one_made m es var f h is v g e =
    by (address_eq v var) refl
    (sym (get-insert address_total m var f v) ∙ e)
  where
    by : (b : Bool) → address_eq v var ≡ b → cond b (Some f) (finite.get m v) ≡ Some g
        → g ≡ function_in es v
    by true t k = sym (same_Some f g k) ∙ is
        ∙ ap (function_in es) (sym ((address_eq-Decides v var).0 t))
    by false t k = h v g k

pub made_for : (m : FinMap address_cmp Function) (es : List Entry) (v : Address)
    → AreFunctions es m → IsTrue (finite.contains_key m v) → expression_at m v ≡ function_in es v
made_for m es v h there = by (finite.get m v) refl there
  where
    by : (o : Option Function) → finite.get m v ≡ o → is_some o ≡ true
        → unwrap_or (finite.get m v) (constant_function zero_ℚ) ≡ function_in es v
    by None e t = cc
    by (Some f) e t = ap (λ o. unwrap_or o (constant_function zero_ℚ)) e ∙ h v f e

pub none_made : (m : FinMap address_cmp Function) (es : List Entry) → m ≡ finite.empty
    → AreFunctions es m
none_made m es e v f found =
    absurd (none-some f (sym (get-empty address_cmp v) ∙ sym (ap (λ n. finite.get n v) e) ∙ found))
