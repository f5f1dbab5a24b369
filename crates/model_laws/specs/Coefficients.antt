-- A constant, or what stands at a place of a list, that is set to what it was changes nothing, and
-- to another value changes it.
use Rattle.std.specs.Prelude.{◌≡◌, ◌≢◌, ℕ, zero, suc, List, [], ◌∷◌, Some, slice_get, refl}
use Rattle.std.specs.Option.{option_map}
use Rattle.std.proofs.Common.{sym, ap, ◌∙◌}
use Rattle.std.proofs.lemmas.Option.{same_Some}
use Rattle.ratio_core.specs.Rational.{Rational}
use Rattle.aff_core.specs.Function.{Function}
use Rattle.user_model.specs.Edited.{changed_at, with_constant}

-- a constant that is set
pub same_constant : (f : Function) (value : Rational) → f.constant ≡ value
    → with_constant f value ≡ f
same_constant f value e = ap (λ k. record f { constant = k }) (sym e)

pub other_constant : (f : Function) (value : Rational) → f.constant ≢ value
    → with_constant f value ≢ f
other_constant f value ne same = ne (ap (λ g. g.constant) (sym same))

-- the item at a place of a list that is changed there
pub changed_there : {X : Type 0} (i : ℕ) (h : X → X) (xs : List X)
    → slice_get (changed_at i h xs) i ≡ option_map h (slice_get xs i)
changed_there i h [] = refl
changed_there zero h (x ∷ xs) = refl
changed_there (suc i) h (x ∷ xs) = changed_there i h xs

pub same_at : {X : Type 0} (i : ℕ) (h : X → X) (xs : List X) (x : X) → slice_get xs i ≡ Some x
    → h x ≡ x → changed_at i h xs ≡ xs
same_at i h [] x is e = refl
same_at zero h (y ∷ xs) x is e =
    let same : y ≡ x = same_Some y x is in ap (λ z. z ∷ xs) (ap h same ∙ (e ∙ sym same))
same_at (suc i) h (y ∷ xs) x is e = ap (λ zs. y ∷ zs) (same_at i h xs x is e)

pub other_at : {X : Type 0} (i : ℕ) (h : X → X) (xs : List X) (x : X) → slice_get xs i ≡ Some x
    → h x ≢ x → changed_at i h xs ≢ xs
other_at i h xs x is ne same =
    ne (same_Some (h x) x (sym (changed_there i h xs ∙ ap (option_map h) is)
    ∙ (ap (λ zs. slice_get zs i) same ∙ is)))
