-- What expressions put in mention: nothing that neither the entries nor the function mention.
use Rattle.std.specs.Prelude.{◌≡◌, Bool, true, false, cond, List, [], ◌∷◌, All, find, Some, refl}
use Rattle.std.proofs.Common.{sym, ap, ap₂, ◌∙◌}
use Rattle.std.specs.Option.{option_map_or}
use Rattle.std.proofs.lemmas.List.Elements.{All-head, All-tail}
use Rattle.ratio_core.specs.Rational.{Rational, zero_ℚ, ◌+ℚ◌}
use Rattle.rational_laws.specs.Field.{*ℚ-zero, +ℚ-zero, zero-+ℚ}
use Rattle.aff_core.specs.Address.{Address, address_cmp, address_eq}
use Rattle.aff_core.specs.Arithmetic.{composed}
use Rattle.aff_core.specs.ArithmeticLaws.{coefficient-composed, constant-composed}
use Rattle.aff_core.specs.Function.{Function, coefficient, slope, terms_of, value_of, variable}
use Rattle.aff_core.specs.FunctionLaws.{coefficient-variable_other, constant-variable, same_coefficients}
use Rattle.aff_core.specs.KeyOrder.{address_order}
use Rattle.aff_core.specs.Terms.{linear}
use Rattle.linear_laws.specs.ListLaws.{slope_variable}
use Rattle.linear_laws.specs.SlopeLaws.{slope_agreeing}
use Rattle.linear_laws.specs.UnitLaws.{same_or_other}
use Rattle.item_core.specs.declared.image.Expression.{Expression}
use Rattle.item_core.specs.declared.image.Expression.TheVariants.{Kept, Bridged}
use Rattle.bridge_face.specs.Law.{expressed}
use Rattle.fresh_bridging.specs.Entries.{Entry, expression_in, function_in, put_into}

-- an expression doesn't mention the variable
abbrev pub Omits : Address → Expression → Type 0
Omits v e = coefficient (expressed e) v ≡ zero_ℚ

-- nor does any entry
abbrev pub AllOmit : Address → List Entry → Type 0
AllOmit v entries = All (λ e. Omits v e.expression) entries

-- what stands for a variable is one of the entries' expressions, or the variable
pub by_lookup : (P : Expression → Type 0) (entries : List Entry) (u : Address)
    → All (λ e. P e.expression) entries → P (Kept u) → P (expression_in entries u)
by_lookup P [] u all itself = itself
by_lookup P (e ∷ es) u all itself =
    here (address_eq e.component u)
    (All-head (λ x. P x.expression) e es all)
    (by_lookup P es u (All-tail (λ x. P x.expression) e es all) itself)
  where
    here : (b : Bool) → P e.expression → P (expression_in es u)
        → P (option_map_or (λ x. x.expression) (cond b (Some e)
        (find (λ x. address_eq x.component u) es)) (Kept u))
    here true found later = found
    here false found later = later

pub slope_zero : (f : Function) → slope f (λ _. zero_ℚ) ≡ zero_ℚ
unfolding linear
slope_zero f = all_zero (terms_of f)
  where
    all_zero : (ts : List (Address × Rational)) → linear ts (λ _. zero_ℚ) ≡ zero_ℚ
    all_zero [] = refl
    all_zero (t ∷ ts) = ap₂ ◌+ℚ◌ (*ℚ-zero t.1) (all_zero ts) ∙ +ℚ-zero zero_ℚ

pub composed_omits : (entries : List Entry) (f : Function) (v : Address) → AllOmit v entries
    → coefficient f v ≡ zero_ℚ → coefficient (composed (function_in entries) f) v ≡ zero_ℚ
composed_omits entries f v all none =
    coefficient-composed address_order (function_in entries) f v
    ∙ slope_agreeing f (λ u. coefficient (function_in entries u) v) (λ _. zero_ℚ) each
    ∙ slope_zero f
  where
    each : (u : Address) → ¬ (coefficient f u ≡ zero_ℚ)
        → coefficient (function_in entries u) v ≡ zero_ℚ
    each u some =
        by_lookup (Omits v) entries u all
        (same_or_other _ u v (λ same. absurd (some (ap (coefficient f) same ∙ none)))
        (λ other. coefficient-variable_other address_order u v (λ same. other (sym same))))

-- an expression of variables that themselves have expressions
pub put_into_omits : (entries : List Entry) (e : Expression) (v : Address) → AllOmit v entries
    → Omits v e → Omits v (put_into entries e)
put_into_omits entries (Kept var) v all none = by_lookup (Omits v) entries var all none
put_into_omits entries (Bridged func) v all none = composed_omits entries func v all none

-- ---- a variable's function, composed, is what stands for the variable
pub composed-variable : (e : Address → Function) (u : Address)
    → composed e (variable {R = address_cmp} u) ≡ e u
unfolding value_of
composed-variable e u =
    same_coefficients address_order (composed e (variable u)) (e u)
    (λ v. coefficient-composed address_order e (variable u) v
    ∙ slope_variable u (λ w. coefficient (e w) v))
    (constant-composed address_order e (variable u) ∙ value)
  where
    value : value_of (variable {R = address_cmp} u) (λ w. (e w).constant) ≡ (e u).constant
    value =
        ap₂ ◌+ℚ◌ (constant-variable address_cmp u) (slope_variable u (λ w. (e w).constant))
        ∙ zero-+ℚ (e u).constant
