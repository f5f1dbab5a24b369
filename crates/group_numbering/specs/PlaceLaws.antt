-- What is where: variables that are numbered one after another, and the numbers that a point has at
-- them.
use Rattle.std.specs.Prelude.{◌≡◌, ◌≢◌, ℕ, zero, suc, ◌+◌, ◌≤◌, List, [], ◌∷◌, ◌++◌, All, AllPairs, drop, length, map, take, refl}
use Rattle.std.proofs.Common.{sym, ◌∙◌, ap, ap₂, arith}
use Rattle.std.proofs.Math.Seq.{drop-append_seam, take-append_seam}
use Rattle.std.proofs.lemmas.List.{map-append}
use Rattle.std.proofs.lemmas.List.Elements.{All-cons, All-nil, All-weaker}
use Rattle.std.proofs.lemmas.List.Kept.{AllPairs-cons}
use Rattle.std.proofs.lemmas.Map.Made.{IsDistinct-from_AllPairs}
use Rattle.map_laws.specs.PairLaws.{AllPairs-nil}
use Rattle.ratio_core.specs.Rational.{Rational}
use Rattle.aff_core.specs.Address.{Address, address_eq-Decides}
use Rattle.aff_core.specs.Points.{spread}
use Rattle.linear_laws.specs.PointLaws.{spread_at}
use Rattle.user_model.specs.Edited.{numbered_from}
use Rattle.user_model.specs.Model.{variable_address}
use Rattle.certificates.specs.Points.{address_of, addresses_of, all_addresses, variables_of}
use Rattle.group_numbering.specs.NewGroups.{NewGroup, numbered_groups, variable_count}
use Rattle.group_numbering.specs.NumberLaws.{numbers_from}

-- ---- lists joined

-- two lists of one length that are joined to others are equal where the whole is, and so are the
-- others
pub joined_alike : {X : Type 0} (xs ys us vs : List X) → length xs ≡ length us
    → xs ++ ys ≡ us ++ vs → (xs ≡ us) × (ys ≡ vs)
joined_alike xs ys us vs n e = (
  sym (take-append_seam xs ys) ∙ ap₂ take n e ∙ take-append_seam us vs,
  sym (drop-append_seam xs ys) ∙ ap₂ drop n e ∙ drop-append_seam us vs,
)

-- ---- how many variables there are

pub count-append : (gs hs : List NewGroup)
    → variable_count (gs ++ hs) ≡ variable_count gs + variable_count hs
count-append [] hs = omega arith
count-append (g ∷ gs) hs = omega (arith, count-append gs hs)

-- ---- variables numbered one after another

abbrev pub addresses_from : ℕ → ℕ → List Address
addresses_from n zero = []
addresses_from n (suc k) = variable_address n ∷ addresses_from (suc n) k

pub numbers_at : (x : Address → Rational) (n k : ℕ)
    → map x (addresses_from n k) ≡ numbers_from x n k
numbers_at x n zero = refl
numbers_at x n (suc k) = ap (λ qs. x (variable_address n) ∷ qs) (numbers_at x (suc n) k)

pub length-addresses_from : (n k : ℕ) → length (addresses_from n k) ≡ k
length-addresses_from n zero = refl
length-addresses_from n (suc k) = ap suc (length-addresses_from (suc n) k)

pub addresses_on : (n j k : ℕ)
    → addresses_from n (j + k) ≡ addresses_from n j ++ addresses_from (n + j) k
addresses_on n zero k =
    let none : 0 + k ≡ k = omega arith in let stay : n + 0 ≡ n = omega arith in
    ap (addresses_from n) none ∙ ap (λ m. addresses_from m k) (sym stay)
addresses_on n (suc j) k =
    let more : suc j + k ≡ suc (j + k) = omega arith in
    let on : suc n + j ≡ n + suc j = omega arith in
    ap (addresses_from n) more
    ∙ ap (λ qs. variable_address n ∷ qs) (addresses_on (suc n) j k
    ∙ ap (λ m. addresses_from (suc n) j ++ addresses_from m k) on)

pub named_addresses : (n : ℕ) (names : List (List ℕ))
    → addresses_of (numbered_from n names) ≡ addresses_from n (length names)
named_addresses n [] = refl
named_addresses n (name ∷ names) =
    ap (λ us. variable_address n ∷ us) (named_addresses (suc n) names)

pub group_addresses : (id n : ℕ) (gs : List NewGroup)
    → all_addresses (numbered_groups id n gs) ≡ addresses_from n (variable_count gs)
group_addresses id n [] = refl
group_addresses id n (g ∷ gs) =
    map-append address_of (numbered_from n g.names)
    (variables_of (numbered_groups (suc id) (n + length g.names) gs))
    ∙ ap₂ ◌++◌ (named_addresses n g.names) (group_addresses (suc id) (n + length g.names) gs)
    ∙ sym (addresses_on n (length g.names) (variable_count gs))

abbrev IsFrom : ℕ → Address → Type 0
IsFrom n a = n ≤ a.number

all_from : (m n k : ℕ) → m ≤ n → All (IsFrom m) (addresses_from n k)
all_from m n zero h = All-nil (IsFrom m)
all_from m n (suc k) h =
    All-cons (IsFrom m) (variable_address n) (addresses_from (suc n) k) h
    (all_from m (suc n) k (omega (arith, h)))

not_from : (n : ℕ) (a : Address) → IsFrom (suc n) a → variable_address n ≢ a
not_from n a h e =
    let same : n ≡ a.number = ap (λ (a : Address). a.number) e in absurd (omega (arith, h, same))

all_apart : (n k : ℕ) → AllPairs (λ (a b : Address). a ≢ b) (addresses_from n k)
all_apart n zero = AllPairs-nil (λ a b. a ≢ b)
all_apart n (suc k) =
    AllPairs-cons (λ a b. a ≢ b) (variable_address n) (addresses_from (suc n) k)
    (All-weaker (IsFrom (suc n)) (λ b. variable_address n ≢ b) (not_from n)
    (addresses_from (suc n) k) (all_from (suc n) (suc n) k (omega arith)))
    (all_apart (suc n) k)

-- a point of groups that are numbered from 0 on has its numbers at their variables
pub first_point_at : (gs : List NewGroup) (v : List Rational) → length v ≡ variable_count gs
    → numbers_from (spread (all_addresses (numbered_groups 0 0 gs)) v) 0 (variable_count gs) ≡ v
first_point_at gs v e =
    let us : List Address = addresses_from 0 (variable_count gs) in
    ap (λ us. numbers_from (spread us v) 0 (variable_count gs)) (group_addresses 0 0 gs)
    ∙ sym (numbers_at (spread us v) 0 (variable_count gs))
    ∙ spread_at us v (IsDistinct-from_AllPairs address_eq-Decides us (all_apart 0 (variable_count gs)))
    (length-addresses_from 0 (variable_count gs) ∙ sym e)
