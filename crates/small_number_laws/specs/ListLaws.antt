-- Lists of functions within bounds: variables, negations, differences and sums one by one.
use Rattle.std.specs.Prelude.{◌≡◌, ℕ, ◌+◌, ◌^◌, ◌<◌, ◌≤◌, ◌&&◌, Bool, true, List, [], ◌∷◌, All, fold, length, map, refl}
use Rattle.std.proofs.Common.{ap₂, arith}
use Rattle.std.specs.List.{list_all, zip}
use Rattle.std.proofs.lemmas.List.Elements.{All-cons, All-head, All-map, All-nil, All-tail, All-weaker}
use Rattle.ratio_core.specs.Rational.{Rational, zero_ℚ}
use Rattle.aff_core.specs.Address.{Address, address_cmp}
use Rattle.aff_core.specs.Arithmetic.{sum_of}
use Rattle.aff_core.specs.Function.{Function, constant_function, negated, variable}
use Rattle.aff_core.specs.KeyOrder.{address_order}
use Rattle.bridge_face.specs.ImageOf.{differences, sums}
use Rattle.bridge_face.specs.Images.{difference, first_in, raised, rest_of}
use Rattle.fresh_bridging.specs.FitTests.{plus_fits, plus_fits_Decides}
use Rattle.fresh_bridging.specs.TheRules.{differences_fit, each_sum_fits}
use Rattle.small_number_laws.specs.Whole.{IsWholeWithin}
use Rattle.small_number_laws.specs.WholeLaws.{whole_sum}
use Rattle.small_number_laws.specs.WithinLaws.{IsFunctionWithin, negated_within, plus_fits_within, sum_within, variable_within, within_more, zero_within}

-- ---- lists of two

-- what two functions make, pair by pair
zipped_within : (P Q S : Function → Type 0) (make : Function → Function → Function)
    → ((f g : Function) → P f → Q g → S (make f g)) → (fs gs : List Function) → All P fs → All Q gs
    → All S (map (λ p. make p.0 p.1) (zip fs gs))
zipped_within P Q S make h [] gs p q = All-nil S
zipped_within P Q S make h (f ∷ fs) [] p q = All-nil S
zipped_within P Q S make h (f ∷ fs) (g ∷ gs) p q =
    All-cons S (make f g) (map (λ p. make p.0 p.1) (zip fs gs))
    (h f g (All-head P f fs p) (All-head Q g gs q))
    (zipped_within P Q S make h fs gs (All-tail P f fs p) (All-tail Q g gs q))

-- a test of each pair
zipped_pass : (P Q : Function → Type 0) (test : Function → Function → Bool)
    → ((f g : Function) → P f → Q g → test f g ≡ true) → (fs gs : List Function) → All P fs
    → All Q gs → list_all (λ p. test p.0 p.1) (zip fs gs) ≡ true
zipped_pass P Q test h [] gs p q = refl
zipped_pass P Q test h (f ∷ fs) [] p q = refl
zipped_pass P Q test h (f ∷ fs) (g ∷ gs) p q =
    ap₂ ◌&&◌ (h f g (All-head P f fs p) (All-head Q g gs q))
    (zipped_pass P Q test h fs gs (All-tail P f fs p) (All-tail Q g gs q))

-- ---- one function

pub difference_within : (a b k l : ℕ) (f g : Function) → IsFunctionWithin a k f
    → IsFunctionWithin b l g → IsFunctionWithin (a + b) (k + l) (difference f g)
difference_within a b k l f g w v =
    sum_within address_order a b k l f (negated g) w (negated_within b l g v)

pub raised_within : (a k l : ℕ) (f : Function) (q : Rational) → IsFunctionWithin a k f
    → IsWholeWithin l q → IsFunctionWithin a (k + l) (raised f q)
raised_within a k l f q w h =
    record { terms = w.terms; constant = whole_sum k l f.constant q w.constant h }

pub first_within : (a k : ℕ) (fs : List Function) → All (IsFunctionWithin a k) fs
    → IsFunctionWithin a k (first_in fs)
first_within a k [] w =
    within_more 0 a 0 k (constant_function zero_ℚ) (omega arith) (omega arith) zero_within
first_within a k (f ∷ fs) w = All-head (IsFunctionWithin a k) f fs w

pub rest_within : (a k : ℕ) (fs : List Function) → All (IsFunctionWithin a k) fs
    → All (IsFunctionWithin a k) (rest_of fs)
rest_within a k [] w = w
rest_within a k (f ∷ fs) w = All-tail (IsFunctionWithin a k) f fs w

pub length_rest : (fs : List Function) → length (rest_of fs) ≤ length fs
length_rest [] = omega arith
length_rest (f ∷ fs) = omega arith

-- ---- lists of functions

pub variables_within : (vs : List Address)
    → All (IsFunctionWithin 1 0) (map (variable {R = address_cmp}) vs)
variables_within [] = All-nil (IsFunctionWithin 1 0)
variables_within (v ∷ vs) =
    All-cons (IsFunctionWithin 1 0) (variable v) (map (variable {R = address_cmp}) vs)
    (variable_within v) (variables_within vs)

pub negations_within : (a k : ℕ) (fs : List Function) → All (IsFunctionWithin a k) fs
    → All (IsFunctionWithin a k) (map negated fs)
negations_within a k fs w =
    All-map (IsFunctionWithin a k) negated fs
    (All-weaker (IsFunctionWithin a k) (λ f. IsFunctionWithin a k (negated f))
    (negated_within a k) fs w)

pub differences_within : (a b k l : ℕ) (fs gs : List Function) → All (IsFunctionWithin a k) fs
    → All (IsFunctionWithin b l) gs → All (IsFunctionWithin (a + b) (k + l)) (differences fs gs)
differences_within a b k l fs gs w v =
    zipped_within (IsFunctionWithin a k) (IsFunctionWithin b l) (IsFunctionWithin (a + b) (k + l))
    difference (difference_within a b k l) fs gs w v

pub sums_within : (a b k l : ℕ) (fs gs : List Function) → All (IsFunctionWithin a k) fs
    → All (IsFunctionWithin b l) gs → All (IsFunctionWithin (a + b) (k + l)) (sums fs gs)
sums_within a b k l fs gs w v =
    zipped_within (IsFunctionWithin a k) (IsFunctionWithin b l) (IsFunctionWithin (a + b) (k + l))
    sum_of (sum_within address_order a b k l) fs gs w v

-- one function with each of several
pub with_each_within : (a b k l : ℕ) (f : Function) (gs : List Function)
    → (make : Function → Function → Function)
    → ((g : Function) → IsFunctionWithin b l g → IsFunctionWithin (a + b) (k + l) (make f g))
    → All (IsFunctionWithin b l) gs → All (IsFunctionWithin (a + b) (k + l)) (map (make f) gs)
with_each_within a b k l f gs make h v =
    All-map (IsFunctionWithin (a + b) (k + l)) (make f) gs
    (All-weaker (IsFunctionWithin b l) (λ g. IsFunctionWithin (a + b) (k + l) (make f g)) h gs v)

-- t - s_1 - s_2 .. for variables s
pub less_each_within : (a k : ℕ) (t : Function) (ss : List Function) → IsFunctionWithin a k t
    → All (IsFunctionWithin 1 0) ss → IsFunctionWithin (a + length ss) k (fold difference t ss)
less_each_within a k t [] w v = within_more a (a + 0) k k t (omega arith) (omega arith) w
less_each_within a k t (s ∷ ss) w v =
    within_more ((a + 1) + length ss) (a + length (s ∷ ss)) (k + 0) k
    (fold difference (difference t s) ss) (omega arith) (omega arith)
    (less_each_within (a + 1) (k + 0) (difference t s) ss
    (difference_within a 1 k 0 t s w (All-head (IsFunctionWithin 1 0) s ss v))
    (All-tail (IsFunctionWithin 1 0) s ss v))

-- ---- what fits

pub plus_passes : (a b k l : ℕ) (f g : Function) → a + b < 2 ^ 127 → k + l < 2 ^ 127
    → IsFunctionWithin a k f → IsFunctionWithin b l g → plus_fits f g ≡ true
plus_passes a b k l f g h e w v =
    (plus_fits_Decides f g).1 (plus_fits_within address_order a b k l f g w v h e)

pub less_each_fit : (a k : ℕ) (t : Function) (ss : List Function) → IsFunctionWithin a k t
    → All (IsFunctionWithin 1 0) ss → a + length ss < 2 ^ 127 → k < 2 ^ 127
    → differences_fit t ss ≡ true
unfolding differences_fit
less_each_fit a k t [] w v h e = refl
less_each_fit a k t (s ∷ ss) w v h e =
    let one = All-head (IsFunctionWithin 1 0) s ss v in
    ap₂ ◌&&◌
    (plus_passes a 1 k 0 t (negated s) (omega (arith, h)) (omega (arith, e)) w
    (negated_within 1 0 s one))
    (less_each_fit (a + 1) (k + 0) (difference t s) ss (difference_within a 1 k 0 t s w one)
    (All-tail (IsFunctionWithin 1 0) s ss v) (omega (arith, h)) (omega (arith, e)))

pub each_sum_passes : (a b k l : ℕ) (fs gs : List Function) → a + b < 2 ^ 127 → k + l < 2 ^ 127
    → All (IsFunctionWithin a k) fs → All (IsFunctionWithin b l) gs
    → each_sum_fits fs gs ≡ true
each_sum_passes a b k l fs gs h e w v =
    zipped_pass (IsFunctionWithin a k) (IsFunctionWithin b l) plus_fits
    (λ f g p q. plus_passes a b k l f g h e p q) fs gs w v
