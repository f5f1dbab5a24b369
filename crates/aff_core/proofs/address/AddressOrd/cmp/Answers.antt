use Rattle.std.specs.Prelude.{refl}
use Rattle.std.proofs.Common.{◌≡◌, ◌<◌, ◌+◌, ◌*◌, ℕ, ap, arith, sym, ◌∙◌}
use Rattle.std.specs.Cmp.{nat_cmp_is, ranked}
use Rattle.std.specs.Ordering.{MatchOrdering, nat_cmp, ordering_then}
use Rattle.std.specs.Cmp.Lexicographic.{slice_cmp}
use Rattle.std.specs.declared.cmp.Ordering.{Ordering}
use Rattle.std.specs.declared.cmp.Ordering.TheVariants.{Less, Equal, Greater}
use Rattle.aff_core.specs.Address.{Address, address_cmp, root_number}
use Rattle.aff_core.proofs.address.AddressOrd.cmp.Goals as goal

-- numbers below 2^32 decide where the numbers before them are equal
places_cmp : (a b m n : ℕ) → m < 4294967296 → n < 4294967296 → (x y : Ordering)
    → x ≡ nat_cmp a b → y ≡ nat_cmp m n
    → ordering_then x y ≡ nat_cmp (a * 4294967296 + m) (b * 4294967296 + n)
places_cmp a b m n h g x y e f =
    nat_cmp_is (a * 4294967296 + m) (b * 4294967296 + n) (ordering_then x y)
    (by x y (ranked a b x e) (ranked m n y f))
  where
    by : (x y : Ordering) → MatchOrdering x (a < b) (a ≡ b) (b < a)
        → MatchOrdering y (m < n) (m ≡ n) (n < m)
        → MatchOrdering (ordering_then x y) (a * 4294967296 + m < b * 4294967296 + n)
        (a * 4294967296 + m ≡ b * 4294967296 + n) (b * 4294967296 + n < a * 4294967296 + m)
    by Less y p q = omega (arith, p, h, g)
    by Greater y p q = omega (arith, p, h, g)
    by Equal Less p q = omega (arith, p, q)
    by Equal Equal p q = omega (arith, p, q)
    by Equal Greater p q = omega (arith, p, q)

then_assoc : (x y z : Ordering) → ordering_then (ordering_then x y) z
    ≡ ordering_then x (ordering_then y z)
then_assoc Less y z = refl
then_assoc Equal y z = refl
then_assoc Greater y z = refl

then-decided : (x z : Ordering) → (x ≡ Equal → ⊥) → ordering_then x z ≡ x
then-decided Less z h = refl
then-decided Equal z h = absurd (h refl)
then-decided Greater z h = refl

-- what the root and the number decide
abbrev first_cmp : Address → Address → Ordering
first_cmp a b =
    ordering_then (nat_cmp (root_number a.root) (root_number b.root)) (nat_cmp a.number b.number)

first-then : (a b : Address) → ordering_then (first_cmp a b)
    (slice_cmp nat_cmp a.positions b.positions) ≡ address_cmp a b
unfolding address_cmp
first-then a b =
    then_assoc (nat_cmp (root_number a.root) (root_number b.root)) (nat_cmp a.number b.number)
    (slice_cmp nat_cmp a.positions b.positions)

-- the order of the places is that of the roots and numbers
first_is : (a b : Address) (p q : ℕ) (x : Ordering) → x ≡ nat_cmp p q
    → p ≡ root_number a.root * 4294967296 + a.number
    → q ≡ root_number b.root * 4294967296 + b.number
    → a.number < 4294967296 → b.number < 4294967296 → x ≡ first_cmp a b
first_is a b p q x e f g h k =
    e ∙ (λ i. nat_cmp (f i) (g i))
    ∙ sym (places_cmp (root_number a.root) (root_number b.root) a.number b.number h k _ _ refl refl)

by_positions : (a b : Address) → Equal ≡ first_cmp a b → slice_cmp nat_cmp a.positions b.positions
    ≡ address_cmp a b
by_positions a b e =
    ap (λ x. ordering_then x (slice_cmp nat_cmp a.positions b.positions)) e ∙ first-then a b

by_first : (a b : Address) (x : Ordering) → x ≡ first_cmp a b
    → (x ≡ Equal → ⊥) → x ≡ address_cmp a b
by_first a b x e h =
    sym (then-decided x (slice_cmp nat_cmp a.positions b.positions) h)
    ∙ ap (λ y. ordering_then y (slice_cmp nat_cmp a.positions b.positions)) e ∙ first-then a b

pub returns-in-Equal : goal.returns-in-Equal
returns-in-Equal c =
    c.cmp-in-Equal.ensures ∙ (λ i. slice_cmp nat_cmp (c.positions.ensures i)
    (c.positions-in-Equal.ensures i))
    ∙ by_positions c.args.self.now c.args.other.now
    (first_is c.args.self.now c.args.other.now _ _ Equal c.in-Equal.ensures c.place.ensures.value
    c.place-2.ensures.value c.place.ensures.below c.place-2.ensures.below)

pub returns-in_default : goal.returns-in_default
returns-in_default c =
    by_first c.args.self.now c.args.other.now c.cmp.result
    (first_is c.args.self.now c.args.other.now _ _ c.cmp.result c.cmp.ensures c.place.ensures.value
    c.place-2.ensures.value c.place.ensures.below c.place-2.ensures.below)
    c.in_default.not-Equal
