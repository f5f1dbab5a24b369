-- What a test of an ordering says, and tests that hold both.
use Rattle.std.specs.Prelude.{◌≡◌, ◌<◌, ℕ, Bool, true, false, not, ◌&&◌, ◌||◌, T, refl}
use Rattle.std.proofs.Common.{arith, sym, true≢false}
use Rattle.std.proofs.lemmas.Bool.Decides.{nat_tests}
use Rattle.std.specs.Ordering.{is_eq, is_lt, nat_cmp}
use Rattle.std.specs.declared.cmp.Ordering.{Ordering}
use Rattle.std.specs.declared.cmp.Ordering.TheVariants.{Less, Equal, Greater}

pub both : (a b : Bool) → T a → T b → T (a && b)
both true b p q = q
both false b p q = p

pub first : (a b : Bool) → T (a && b) → T a
first true b p = tt
first false b p = p

pub second : (a b : Bool) → T (a && b) → T b
second true b p = p
second false b p = absurd p

pub implied : (a b : Bool) → (not a || b) ≡ true → a ≡ true → b ≡ true
implied true b h e = h
implied false b h e = absurd (true≢false (sym e))

pub is_less : (o : Ordering) → T (is_lt o) → o ≡ Less
is_less Less p = refl
is_less Equal p = absurd p
is_less Greater p = absurd p

pub is_equal : (o : Ordering) → is_eq o ≡ true → o ≡ Equal
is_equal Less e = cc
is_equal Equal e = refl
is_equal Greater e = cc

-- ---- of numbers

pub less_than : (a b : ℕ) → nat_cmp a b ≡ Less → a < b
less_than a b e = grind (arith, nat_tests)

pub equal_to : (a b : ℕ) → nat_cmp a b ≡ Equal → a ≡ b
equal_to a b e = grind (arith, nat_tests)

pub greater_than : (a b : ℕ) → nat_cmp a b ≡ Greater → b < a
greater_than a b e = grind (arith, nat_tests)

pub less_number : (a b : ℕ) → a < b → nat_cmp a b ≡ Less
less_number a b h = grind (arith, nat_tests)
