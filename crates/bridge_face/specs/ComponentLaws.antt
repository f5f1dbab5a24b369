-- The variables of child groups: where they stand, and the functions that name them.
use Rattle.std.specs.Prelude.{◌≡◌, ◌≢◌, ◌+◌, ◌<◌, ◌≤◌, ℕ, zero, suc, Bool, true, false, Contains, List, [], ◌∷◌, ◌++◌, map, All, length, refl}
use Rattle.std.specs.List.{range_with_len}
use Rattle.std.specs.Bool.{Decides}
use Rattle.std.proofs.Common.{sym, ap, ap₂, subst, ◌∙◌, arith, append_assoc, true≢false}
use Rattle.std.proofs.lemmas.List.Elements.{All-cons, All-contains_itself, All-head, All-map, All-nil, All-tail, All-weaker}
use Rattle.std.proofs.lemmas.List.FromFn.{length-map-range_with_len}
use Rattle.std.proofs.lemmas.Map.Made.{is_member-Decides}
use Rattle.map_laws.specs.EachLaws.{map_same_on}
use Rattle.ratio_core.specs.Rational.{Rational, one_ℚ, zero_ℚ, ◌+ℚ◌, ◌*ℚ◌}
use Rattle.rational_laws.specs.Dot.{dot}
use Rattle.rational_laws.specs.DotLaws.{dot_behind, dot_zeros}
use Rattle.rational_laws.specs.Field.{*ℚ-one, +ℚ-zero}
use Rattle.aff_core.specs.Address.{Address, address_cmp, address_eq-Decides, child_of}
use Rattle.aff_core.specs.Function.{Function, coefficient, variable}
use Rattle.aff_core.specs.FunctionLaws.{coefficient-variable_other, coefficient-variable_same, constant-variable}
use Rattle.aff_core.specs.FunctionLists.{coefficients, constants}
use Rattle.aff_core.specs.KeyOrder.{address_order}
use Rattle.item_core.specs.Valid.{NamesNothingBelow, below}
use Rattle.bridge_face.specs.Images.{components}
use Rattle.bridge_face.specs.Law.{Miss}

-- variables as functions
abbrev pub variables : List Address → List Function
variables vs = map variable vs

-- a fact of each element, at each index at which all have it
pub each_at : {A B : Type 0} (P : B → A → Type 0) (xs : List A) → ((b : B) → All (P b) xs)
    → All (λ x. (b : B) → P b x) xs
each_at P [] h = All-nil (λ x. (b : _) → P b x)
each_at P (x ∷ xs) h =
    All-cons (λ y. (b : _) → P b y) x xs (λ b. All-head (P b) x xs (h b))
    (each_at P xs (λ b. All-tail (P b) x xs (h b)))

-- ---- addresses below an item's children

head_or : List ℕ → ℕ
head_or [] = 0
head_or (p ∷ ps) = p

after_head : List ℕ → List ℕ
after_head [] = []
after_head (p ∷ ps) = ps

-- where two lists part
pub same_place : (ps : List ℕ) (a b : ℕ) (r s : List ℕ) → ps ++ (a ∷ r) ≡ ps ++ (b ∷ s) → a ≡ b
unfolding head_or after_head
same_place [] a b r s e = ap head_or e
same_place (p ∷ ps) a b r s e = same_place ps a b r s (ap after_head e)

pub below_child : (at : Address) (n : ℕ) (rest : List ℕ)
    → below (child_of at n) rest ≡ below at (n ∷ rest)
below_child at n rest =
    ap (λ ps. record at { positions = ps }) (append_assoc at.positions (n ∷ []) rest)

pub apart : (at : Address) (a b : ℕ) (r s : List ℕ)
    → ¬ (a ≡ b) → ¬ (below (child_of at a) r ≡ below (child_of at b) s)
apart at a b r s other e =
    other
    (same_place at.positions a b r s
    (ap (λ a. a.positions) (sym (below_child at a r) ∙ e ∙ below_child at b s)))

pub other_child : (at : Address) (i j : ℕ) → ¬ (i ≡ j) → ¬ (child_of at i ≡ child_of at j)
other_child at i j other e =
    other (same_place at.positions i j [] [] (ap (λ a. a.positions) e))

-- what names nothing at or below an item names nothing at or below its children
pub unnamed_below : (at : Address) (n : ℕ) (f : Function)
    → NamesNothingBelow at f → NamesNothingBelow (child_of at n) f
unnamed_below at n f h rest = ap (coefficient f) (below_child at n rest) ∙ h (n ∷ rest)

pub all_unnamed_below : (at : Address) (n : ℕ) (fs : List Function)
    → All (NamesNothingBelow at) fs → All (NamesNothingBelow (child_of at n)) fs
all_unnamed_below at n fs h =
    All-weaker (NamesNothingBelow at) (NamesNothingBelow (child_of at n)) (unnamed_below at n) fs h

-- ---- components

-- those from the k-th on
abbrev pub components_from : Address → ℕ → ℕ → List Address
components_from at k n = map (child_of at) (range_with_len k n)

pub length-components : (at : Address) (n : ℕ) → length (components at n) ≡ n
length-components at n = length-map-range_with_len (child_of at) 0 n

pub all_components : (P : Address → Type 0) (at : Address) (k n : ℕ)
    → ((i : ℕ) → P (child_of at i)) → All P (components_from at k n)
all_components P at k zero h = All-nil P
all_components P at k (suc n) h =
    All-cons P (child_of at k) (components_from at (k + 1) n) (h k)
    (all_components P at (k + 1) n h)

pub all_components_within : (P : Address → Type 0) (at : Address) (k n : ℕ)
    → ((i : ℕ) → k ≤ i → i < k + n → P (child_of at i)) → All P (components_from at k n)
all_components_within P at k zero h = All-nil P
all_components_within P at k (suc n) h =
    All-cons P (child_of at k) (components_from at (k + 1) n) (h k (omega arith) (omega arith))
    (all_components_within P at (k
    + 1) n (λ i low high. h i (omega (arith, low)) (omega (arith, high))))

pub components-append : (at : Address) (k n m : ℕ)
    → components_from at k (n + m) ≡ components_from at k n ++ components_from at (k + n) m
components-append at k zero m =
    let start : k ≡ k + 0 = omega arith in
    let count : 0 + m ≡ m = omega arith in
    ap₂ (λ j l. components_from at j l) start count
components-append at k (suc n) m =
    let count : suc n + m ≡ suc (n + m) = omega arith in
    let start : (k + 1) + n ≡ k + suc n = omega arith in
    ap (λ l. components_from at k l) count
    ∙ ap (λ us. child_of at k ∷ us)
    (components-append at (k + 1) n m
    ∙ ap (λ j. components_from at (k + 1) n ++ components_from at j m) start)

-- a function that names nothing at or below an item names no component of a child group
pub misses_inner : (at : Address) (n : ℕ) (fs : List Function)
    → All (NamesNothingBelow at) fs → All (λ v. Miss fs v) (components (child_of at 0) n)
misses_inner at n fs h =
    all_components (λ v. Miss fs v) (child_of at 0) 0 n
    (λ i. All-weaker (NamesNothingBelow (child_of at 0))
    (λ f. coefficient f (child_of (child_of at 0) i) ≡ zero_ℚ) (λ f k. k (i ∷ [])) fs
    (all_unnamed_below at 0 fs h))

-- a component names nothing at or below another child
pub component_apart : (at : Address) (n : ℕ) → 1 ≤ n → (i : ℕ)
    → NamesNothingBelow (child_of at n) (variable (child_of (child_of at 0) i))
component_apart at n h i rest =
    coefficient-variable_other address_order (child_of (child_of at 0) i)
    (below (child_of at n) rest)
    (apart at n 0 rest (i ∷ []) (λ e. absurd (omega (arith, e, h))))

pub components_apart : (at : Address) (n m : ℕ) → 1 ≤ n
    → All (NamesNothingBelow (child_of at n)) (variables (components (child_of at 0) m))
components_apart at n m h =
    All-map (NamesNothingBelow (child_of at n)) variable (components (child_of at 0) m)
    (all_components (λ v. NamesNothingBelow (child_of at n) (variable v)) (child_of at 0) 0 m
    (component_apart at n h))

-- ---- by whether an address is one of a list

pub contained_or_not : (C : Type 0) (vs : List Address) (v : Address)
    → (Contains vs v → C) → (¬ (Contains vs v) → C) → C
contained_or_not C vs v there absent = by _ (is_member-Decides address_eq-Decides vs v)
  where
    by : (b : Bool) → Decides b (Contains vs v) → C
    by true d = there (d.0 refl)
    by false d = absent (λ h. true≢false (sym (d.1 h)))

-- ---- the numbers that variables get from lists of functions

-- the sums of the numbers times the coefficients of each variable
abbrev pub weighed : List Rational → List Function → List Address → List Rational
weighed w fs vs = map (λ v. dot w (coefficients fs v)) vs

pub dot_missed : (w : List Rational) (fs : List Function) (v : Address)
    → Miss fs v → dot w (coefficients fs v) ≡ zero_ℚ
dot_missed w fs v m =
    dot_zeros w (coefficients fs v) (All-map (λ q. q ≡ zero_ℚ) (λ f. coefficient f v) fs m)

pub variables_missed : (vs : List Address) (v : Address)
    → All (λ u. v ≢ u) vs → Miss (variables vs) v
variables_missed vs v h =
    All-map (λ f. coefficient f v ≡ zero_ℚ) variable vs
    (All-weaker (λ u. v ≢ u) (λ u. coefficient (variable u) v ≡ zero_ℚ)
    (λ u. coefficient-variable_other address_order u v) vs h)

pub not_contained : (vs : List Address) (v : Address) → ¬ (Contains vs v) → All (λ u. v ≢ u) vs
not_contained vs v n =
    All-weaker (Contains vs) (λ u. v ≢ u) (λ u c e. n (subst (Contains vs) (sym e) c)) vs
    (All-contains_itself vs)

components_apart_from : (at : Address) (k j n : ℕ) → k < j
    → All (λ v. v ≢ child_of at k) (components_from at j n)
components_apart_from at k j zero h = All-nil (λ v. v ≢ child_of at k)
components_apart_from at k j (suc n) h =
    All-cons (λ v. v ≢ child_of at k) (child_of at j) (components_from at (j + 1) n)
    (other_child at j k (λ e. absurd (omega (arith, e, h))))
    (components_apart_from at k (j + 1) n (omega (arith, h)))

pub weighed_from : (at : Address) (k n : ℕ) (w : List Rational) → length w ≡ n
    → weighed w (variables (components_from at k n)) (components_from at k n) ≡ w
weighed_from at k zero [] e = refl
weighed_from at k zero (p ∷ w) e = absurd (omega (arith, e))
weighed_from at k (suc n) [] e = absurd (omega (arith, e))
weighed_from at k (suc n) (p ∷ w) e =
    let here = child_of at k in
    let others = components_from at (k + 1) n in
    ap₂ ◌∷◌
    (ap₂ (λ x y. p *ℚ x +ℚ y) (coefficient-variable_same address_order here)
    (dot_missed w (variables others) here (variables_missed others here
    (All-weaker (λ v. v ≢ here) (λ v. here ≢ v) (λ v d e. d (sym e)) others
    (components_apart_from at k (k + 1) n (omega arith)))))
    ∙ +ℚ-zero (p *ℚ one_ℚ) ∙ *ℚ-one p)
    (map_same_on (λ v. p *ℚ coefficient (variable here) v
    +ℚ dot w (coefficients (variables others) v))
    (λ v. dot w (coefficients (variables others) v)) others
    (All-weaker (λ v. v
    ≢ here) (λ v. p *ℚ coefficient (variable here) v
    +ℚ dot w (coefficients (variables others) v) ≡ dot w (coefficients (variables others) v))
    (λ v d. ap (λ x. p *ℚ x +ℚ dot w (coefficients (variables others) v))
    (coefficient-variable_other address_order here v d)
    ∙ dot_behind p w (coefficients (variables others) v)) others
    (components_apart_from at k (k + 1) n (omega arith)))
    ∙ weighed_from at (k + 1) n w (omega (arith, e)))

-- over the components alone the numbers are those of the list
pub weighed_components : (at : Address) (n : ℕ) (w : List Rational) → length w ≡ n
    → weighed w (variables (components at n)) (components at n) ≡ w
weighed_components at n w e = weighed_from at 0 n w e

-- ---- constants
pub constants-variables : (vs : List Address)
    → All (λ q. q ≡ zero_ℚ) (constants (variables vs))
constants-variables [] = All-nil (λ q. q ≡ zero_ℚ)
constants-variables (v ∷ vs) =
    All-cons (λ q. q ≡ zero_ℚ) (variable {R = address_cmp} v).constant (constants (variables vs))
    (constant-variable address_cmp v) (constants-variables vs)
