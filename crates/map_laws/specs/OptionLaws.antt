-- What stands in an option, from the test of whether anything does.
use Rattle.std.specs.Prelude.{◌≡◌, ℕ, ◌≤◌, true, false, cond, Option, Some, None, IsSome, is_some, unwrap_or, refl}
use Rattle.std.specs.Option.{option_map, option_or}
use Rattle.std.proofs.Common.{ap, arith, ltb, sym, ◌∙◌}
use Rattle.std.proofs.lemmas.Bool.Decides.{nat_tests}

pub none_of : {X : Type 0} (o : Option X) → is_some o ≡ false → o ≡ None
none_of None e = refl
none_of (Some x) e = cc

pub not_some : {X : Type 0} (o : Option X) → o ≡ None → IsSome o → ⊥
not_some o e some = let both : false ≡ true = sym (ap is_some e) ∙ some in cc

pub some_is : {X : Type 0} (o : Option X) (x : X) → o ≡ Some x → IsSome o
some_is o x e = ap is_some e

pub is_some-option_map : {X Y : Type 0} (f : X → Y) (o : Option X)
    → is_some (option_map f o) ≡ is_some o
is_some-option_map f None = refl
is_some-option_map f (Some x) = refl

pub none_mapped : {X Y : Type 0} (f : X → Y) (o : Option X) → option_map f o ≡ None → o ≡ None
none_mapped f o e = none_of o (sym (is_some-option_map f o) ∙ ap is_some e)

pub option_or-none : {X : Type 0} (o : Option X) → option_or o None ≡ o
option_or-none None = refl
option_or-none (Some x) = refl

-- a place that is found, or the length in its stead
pub place_or_length : (o : Option ℕ) (n m : ℕ) → o ≡ cond (ltb n m) (Some n) None → n ≤ m
    → unwrap_or o m ≡ n
place_or_length o n m e h = ap (λ x. unwrap_or x m) e ∙ within n m h
  where
    within : (n m : ℕ) → n ≤ m → unwrap_or (cond (ltb n m) (Some n) None) m ≡ n
    within n m h = grind (arith, nat_tests)
