-- Two rising lists of numbers, and the numbers that both can have in common: at each place the sum
-- of the two. Each list's numbers are taken to these by a function that rises throughout.
use Rattle.std.specs.Prelude.{◌≡◌, ◌⊎◌, ◌+◌, ◌<◌, ◌≤◌, ℕ, zero, suc, Bool, true, false, cond, max, nat_lt, List, [], ◌∷◌, ◌++◌, All, Contains, flat_map, length, map, refl}
use Rattle.std.proofs.Common.{ap, ap₂, arith, inl, inr, subst, sym, ◌∙◌}
use Rattle.std.proofs.lemmas.List.Elements.{All-head, All-tail}
use borrow.Author.Tests.{le-ltb, lt-ltb, ltb-false, ltb-true}
use Rattle.map_laws.specs.EachLaws.{contains_later}
use Rattle.numbered_list.specs.Laws.{Rise-head, Rise-tail}
use Rattle.numbered_list.specs.Numbered.{Rise}
use Rattle.user_model.specs.SameUpToNumbers.{position}
use Rattle.user_model.specs.PositionLaws.{position_above, position_low}
use Rattle.renumbering_laws.specs.RenumberedModel.{Rising}

-- ---- elements

abbrev pub OccursIn : {X : Type 0} → X → List X → Type 0
OccursIn x [] = ⊥
OccursIn x (y ∷ ys) = (x ≡ y) ⊎ OccursIn x ys

pub in_map : {X Y : Type 0} (f : X → Y) (x : X) (xs : List X) → OccursIn x xs
    → OccursIn (f x) (map f xs)
in_map f x [] i = absurd i
in_map f x (y ∷ ys) (inl e) = inl (ap f e)
in_map f x (y ∷ ys) (inr i) = inr (in_map f x ys i)

pub in_left : {X : Type 0} (x : X) (xs ys : List X) → OccursIn x xs → OccursIn x (xs ++ ys)
in_left x [] ys i = absurd i
in_left x (y ∷ xs) ys (inl e) = inl e
in_left x (y ∷ xs) ys (inr i) = inr (in_left x xs ys i)

pub in_right : {X : Type 0} (x : X) (xs ys : List X) → OccursIn x ys → OccursIn x (xs ++ ys)
in_right x [] ys i = i
in_right x (y ∷ xs) ys i = inr (in_right x xs ys i)

pub in_flat : {X Y : Type 0} (h : X → List Y) (y : Y) (x : X) (xs : List X) → OccursIn y (h x)
    → OccursIn x xs
    → OccursIn y (flat_map h xs)
in_flat h y x [] i j = absurd j
in_flat h y x (z ∷ zs) i (inl e) = in_left y (h z) (flat_map h zs) (subst (λ w. OccursIn y (h w)) e i)
in_flat h y x (z ∷ zs) i (inr j) = in_right y (h z) (flat_map h zs) (in_flat h y x zs i j)

pub contained : {X : Type 0} (x : X) (xs : List X) → OccursIn x xs → Contains xs x
contained x [] i = absurd i
contained x (y ∷ ys) (inl e) = (0, omega arith, sym e)
contained x (y ∷ ys) (inr i) = contains_later y x ys (contained x ys i)

-- two functions that agree at each element
pub map_in : {X Y : Type 0} (f g : X → Y) (xs : List X) → ((x : X) → OccursIn x xs → f x ≡ g x)
    → map f xs ≡ map g xs
map_in f g [] same = refl
map_in f g (x ∷ xs) same =
    ap₂ (λ y ys. y ∷ ys) (same x (inl refl)) (map_in f g xs (λ y i. same y (inr i)))

pub all_in : {X : Type 0} (P : X → Type 0) (xs : List X) → All P xs → (x : X) → OccursIn x xs → P x
all_in P [] h x i = absurd i
all_in P (y ∷ ys) h x (inl e) = subst P (sym e) (All-head P y ys h)
all_in P (y ∷ ys) h x (inr i) = all_in P ys (All-tail P y ys h) x i

-- ---- rising numbers

abbrev pub Climbs : List ℕ → Type 0
Climbs [] = Unit {0}
Climbs (a ∷ us) = ((m : ℕ) → OccursIn m us → a < m) × Climbs us

module _ {X : Type 0} (number_of : X → ℕ) where
  mapped_in : (P : ℕ → Type 0) (xs : List X) → All (λ y. P (number_of y)) xs → (m : ℕ)
      → OccursIn m (map number_of xs) → P m
  mapped_in P [] h m i = absurd i
  mapped_in P (y ∷ ys) h m (inl e) =
      subst P (sym e) (All-head (λ y. P (number_of y)) y ys h)
  mapped_in P (y ∷ ys) h m (inr i) = mapped_in P ys (All-tail (λ y. P (number_of y)) y ys h) m i

  pub climbs : (xs : List X) → Rise number_of xs → Climbs (map number_of xs)
  climbs [] rise = tt
  climbs (x ∷ xs) rise = (
    mapped_in (λ m. number_of x < m) xs (Rise-head number_of x xs rise),
    climbs xs (Rise-tail number_of x xs rise),
  )

-- ---- positions

position_first : (us : List ℕ) (n : ℕ) → ((m : ℕ) → OccursIn m us → n < m) → position us n ≡ 0
position_first [] n above = refl
position_first (a ∷ us) n above =
    position_low a us n (omega (arith, above a (inl refl)))
    ∙ position_first us n (λ m i. above m (inr i))

-- ---- what is added

-- of the second numbers that opposite the last of the first ones that isn't above n, and 0 below
-- all
abbrev pub opposite : List ℕ → List ℕ → ℕ → ℕ
opposite [] bs n = 0
opposite (a ∷ us) [] n = 0
opposite (a ∷ us) (b ∷ bs) n = max (cond (nat_lt n a) 0 b) (opposite us bs n)

abbrev pub lifted : List ℕ → List ℕ → ℕ → ℕ
lifted us bs n = n + opposite us bs n

step_up : (m n a b : ℕ) → m ≤ n → cond (nat_lt m a) 0 b ≤ cond (nat_lt n a) 0 b
step_up m n a b h = by (nat_lt m a) (nat_lt n a) refl refl
  where
    by : (x y : Bool) → nat_lt m a ≡ x → nat_lt n a ≡ y → cond x 0 b ≤ cond y 0 b
    by true y e f = zero_least (cond y 0 b)
      where
        zero_least : (k : ℕ) → 0 ≤ k
        zero_least k = omega arith
    by false false e f = omega arith
    by false true e f = absurd (omega (arith, h, ltb-false m a e, ltb-true n a f))

opposite_up : (us bs : List ℕ) (m n : ℕ) → m ≤ n → opposite us bs m ≤ opposite us bs n
opposite_up [] bs m n h = omega arith
opposite_up (a ∷ us) [] m n h = omega arith
opposite_up (a ∷ us) (b ∷ bs) m n h =
    most (cond (nat_lt m a) 0 b) (cond (nat_lt n a) 0 b) (opposite us bs m) (opposite us bs n)
    (step_up m n a b h) (opposite_up us bs m n h)
  where
    most : (p q r s : ℕ) → p ≤ q → r ≤ s → max p r ≤ max q s
    most p q r s e f = omega (arith, e, f)

pub lifted_rises : (us bs : List ℕ) → Rising (lifted us bs)
lifted_rises us bs m n h =
    more m n (opposite us bs m) (opposite us bs n) h
    (opposite_up us bs m n (omega (arith, h)))
  where
    more : (m n p q : ℕ) → m < n → p ≤ q → m + p < n + q
    more m n p q e f = omega (arith, e, f)

-- ---- the numbers in common

abbrev pub sums : List ℕ → List ℕ → List ℕ
sums [] bs = []
sums (a ∷ us) [] = []
sums (a ∷ us) (b ∷ bs) = (a + b) ∷ sums us bs

abbrev pub place_of : List ℕ → ℕ → ℕ
place_of [] k = 0
place_of (c ∷ cs) zero = c
place_of (c ∷ cs) (suc k) = place_of cs k

pub sums_either : (us bs : List ℕ) → sums us bs ≡ sums bs us
sums_either [] [] = refl
sums_either [] (b ∷ bs) = refl
sums_either (a ∷ us) [] = refl
sums_either (a ∷ us) (b ∷ bs) = ap₂ (λ c cs. c ∷ cs) (either a b) (sums_either us bs)
  where
    either : (m n : ℕ) → m + n ≡ n + m
    either m n = omega arith

opposite_none : (us bs : List ℕ) (n : ℕ) → ((m : ℕ) → OccursIn m us → n < m) → opposite us bs n ≡ 0
opposite_none [] bs n above = refl
opposite_none (a ∷ us) [] n above = refl
opposite_none (a ∷ us) (b ∷ bs) n above =
    ap₂ (λ c k. max (cond c 0 b) k) (lt-ltb n a (above a (inl refl)))
    (opposite_none us bs n (λ m i. above m (inr i)))

-- it is at least one of the second numbers
opposite_some : (us bs : List ℕ) → length us ≡ length bs → (n : ℕ) → OccursIn n us
    → (m : ℕ) × OccursIn m bs × (m ≤ opposite us bs n)
opposite_some [] bs long n i = absurd i
opposite_some (a ∷ us) [] long n i = absurd (omega (arith, long))
opposite_some (a ∷ us) (b ∷ bs) long n (inl e) = (
  b,
  inl refl,
  subst (λ c. b ≤ max (cond c 0 b) (opposite us bs n)) (sym (le-ltb n a (omega (arith, e))))
      (left b (opposite us bs n)),
)
  where
    left : (p q : ℕ) → p ≤ max p q
    left p q = omega arith
opposite_some (a ∷ us) (b ∷ bs) long n (inr i) =
    let some = opposite_some us bs (omega (arith, long)) n i in
    (some.0, inr some.1, right (cond (nat_lt n a) 0 b) (opposite us bs n) some.0 some.2)
  where
    right : (p q m : ℕ) → m ≤ q → m ≤ max p q
    right p q m h = omega (arith, h)

-- each of the first numbers is taken to the number in common at its position
pub lifted_is : (us bs : List ℕ) → Climbs us → Climbs bs → length us ≡ length bs → (n : ℕ)
    → OccursIn n us → lifted us bs n ≡ place_of (sums us bs) (position us n)
lifted_is [] bs up over long n i = absurd i
lifted_is (a ∷ us) [] up over long n i = absurd (omega (arith, long))
lifted_is (a ∷ us) (b ∷ bs) up over long n (inl e) =
    let none = opposite_none us bs n (λ m i. omega (arith, e, up.0 m i)) in
    let first = position_low a us n (omega (arith, e))
    ∙ position_first us n (λ m i. omega (arith, e, up.0 m i)) in
    ap₂ (λ c k. n + max (cond c 0 b) k) (le-ltb n a (omega (arith, e))) none
    ∙ alone n a b e
    ∙ ap (place_of (sums (a ∷ us) (b ∷ bs))) (sym first)
  where
    alone : (n a b : ℕ) → n ≡ a → n + max b 0 ≡ a + b
    alone n a b e = omega (arith, e)
lifted_is (a ∷ us) (b ∷ bs) up over long n (inr i) =
    let long' : length us ≡ length bs = omega (arith, long) in
    let some = opposite_some us bs long' n i in
    let above = position_above a us n (up.0 n i) in
    greater n (cond (nat_lt n a) 0 b) b (opposite us bs n)
    (ap (λ c. cond c 0 b) (le-ltb n a (omega (arith, up.0 n i))))
    (omega (arith, over.0 some.0 some.1, some.2))
    ∙ lifted_is us bs up.1 over.1 long' n i
    ∙ ap (place_of (sums (a ∷ us) (b ∷ bs))) (sym above)
  where
    greater : (n p b q : ℕ) → p ≡ b → b ≤ q → n + max p q ≡ n + q
    greater n p b q e h = omega (arith, e, h)
