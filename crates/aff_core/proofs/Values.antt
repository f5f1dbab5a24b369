-- The value of a function, step by step.
use Rattle.std.specs.Prelude.{◌≡◌, List, [], ◌∷◌, Option, Some, unwrap_or, refl}
use Rattle.std.specs.Borrow.{Bor}
use Rattle.std.specs.Option.{option_copied}
use Rattle.std.specs.FinMap.{FinMap, get}
use Rattle.std.proofs.Common.{sym, ap, subst, ◌∙◌}
use Rattle.ratio_core.specs.Rational.{Rational, ◌+ℚ◌, ◌*ℚ◌}
use Rattle.aff_core.specs.Address.{Address, address_cmp}
use Rattle.aff_core.specs.Terms.{StepFits, ValueFits, value_from}

-- what stands at a key that was looked up
pub found_is : {V : Type 0} (m : FinMap address_cmp V) (at : Address) (o : Option (Bor V))
    (n : Bor V) (d : V) → option_copied o ≡ get m at → o ≡ Some n → n.now ≡ unwrap_or (get m at) d
found_is m at o n d found some = ap (λ r. unwrap_or r d) (sym (ap option_copied some) ∙ found)

-- what is left, from the sum so far, is as all of it is
pub record IsAsAll (start sum : Rational) (ts rest : List (Address × Rational))
    (x : Address → Rational) : Type 0 where
  pub value : value_from sum rest x ≡ value_from start ts x
  pub fits : ValueFits sum rest x → ValueFits start ts x
  pub only : ValueFits start ts x → ValueFits sum rest x

pub as_all-start : (start : Rational) (ts : List (Address × Rational)) (x : Address → Rational)
    → IsAsAll start start ts ts x
as_all-start start ts x = record { value = refl; fits = λ h. h; only = λ h. h }

module _ {start sum : Rational} {ts rest : List (Address × Rational)} {x : Address → Rational}
    (so_far : IsAsAll start sum ts rest x) where
  pub as_all-end : rest ≡ [] → ValueFits start ts x × (sum ≡ value_from start ts x)
  unfolding ValueFits value_from
  as_all-end none =
      let all = subst (λ l. IsAsAll start sum ts l x) none so_far in (all.fits tt, all.value)

module _ {start sum : Rational} {ts rest left : List (Address × Rational)} {t : Address × Rational}
    {x : Address → Rational} {n : Rational} (so_far : IsAsAll start sum ts rest x)
    (next : rest ≡ t ∷ left) (number : n ≡ x t.0) where
  pub as_all-step : {total : Rational} → StepFits sum t.1 n → total ≡ sum +ℚ (t.1 *ℚ n)
      → IsAsAll start total ts left x
  unfolding ValueFits value_from
  as_all-step {total} step is =
      let total_is : total ≡ sum +ℚ (t.1 *ℚ x t.0) = is ∙ ap (λ k. sum +ℚ (t.1 *ℚ k)) number in
      record {
        value = ap (λ k. value_from k left x) total_is ∙ sym (ap (λ l. value_from sum l x) next)
            ∙ so_far.value;
        fits = λ h. so_far.fits (subst (λ l. ValueFits sum l x) (sym next)
            (subst (StepFits sum t.1) number step, subst (λ k. ValueFits k left x) total_is h));
        only = λ h. subst (λ k. ValueFits k left x) (sym total_is)
            (subst (λ l. ValueFits sum l x) next (so_far.only h)).1;
      }

  pub as_all-refused : (StepFits sum t.1 n → ⊥) → ValueFits start ts x → ⊥
  unfolding ValueFits
  as_all-refused bars h =
      bars (subst (StepFits sum t.1) (sym number) (subst (λ l. ValueFits sum l x) next
      (so_far.only h)).0)
