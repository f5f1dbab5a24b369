-- Things that are equal where it can't be that they differ.
use Rattle.std.specs.Prelude.{◌≡◌, ℕ, zero, suc, Bool, true, false, List, [], ◌∷◌, Option, Some, None, refl}
use Rattle.std.specs.Bool.{Decides}
use Rattle.std.proofs.Common.{sym, ap, ap₂, ◌∙◌}
use Rattle.std.proofs.lemmas.Bool.Decides.{Decides-eqb}
use Rattle.ratio_core.specs.Rational.{Rational, zero_ℚ}
use Rattle.ratio_core.specs.RationalLaws.{rational_eq_Decides}
use Rattle.aff_core.specs.Address.{Address, address_eq-Decides, root_address}
use Rattle.aff_core.specs.declared.root.Root.TheVariants as root
use Rattle.aff_core.specs.Function.{Function}
use Rattle.aff_core.specs.FunctionEq.{function_eq-Decides}
use Rattle.aff_core.specs.declared.sense.Sense.{Sense}
use Rattle.aff_core.specs.declared.sense.Sense.TheVariants.{Min, Max}
use Rattle.set_core.specs.declared.set.Set.{Set}
use Rattle.set_core.specs.declared.set.Set.TheVariants as set
use Rattle.bridge_graph.specs.declared.Choice.{Choice}
use Rattle.bridge_graph.specs.declared.Choice.TheVariants.{By, Missing, Native}
use Rattle.item_core.specs.declared.image.Expression.{Expression}
use Rattle.item_core.specs.declared.image.Expression.TheVariants.{Kept, Bridged}
use Rattle.item_core.specs.declared.item.Body.{Body}
use Rattle.item_core.specs.declared.item.Body.TheVariants.{Group, Free, Plain, Affine, PlainVec, AffineVec, PlainObj, AffineObj}
use Rattle.item_core.specs.declared.item.Item.{Item}

-- it holds where it can't fail
abbrev pub IsStable : Type 0 → Type 0
IsStable P = ¬ (¬ P) → P

abbrev pub AreSettled : Type 0 → Type 0
AreSettled A = (a b : A) → IsStable (a ≡ b)

-- ---- how it is shown

pub decided : {P : Type 0} (b : Bool) → Decides b P → IsStable P
decided true d h = d.0 refl
decided false d h = absurd (h (λ p. false_true (d.1 p)))
  where
    false_true : false ≡ true → ⊥
    false_true e = cc

pub stand_both : {P Q : Type 0} → IsStable P → IsStable Q → IsStable (P × Q)
stand_both p q h = (p (λ n. h (λ both. n both.0)), q (λ n. h (λ both. n both.1)))

pub stand_under : {P Q : Type 0} → (P → IsStable Q) → IsStable (P → Q)
stand_under q h = λ p. q p (λ n. h (λ f. n (f p)))

-- what it is made of
pub settled_by : {A B : Type 0} (to : A → B) (from : B → A) → ((a : A) → from (to a) ≡ a)
    → AreSettled B → AreSettled A
settled_by to from back settled a b h =
    sym (back a) ∙ ap from (settled (to a) (to b) (λ n. h (λ e. n (ap to e)))) ∙ back b

pub settled_pair : {A B : Type 0} → AreSettled A → AreSettled B → AreSettled (A × B)
settled_pair first second a b h =
    let one = first a.0 b.0 (λ n. h (λ e. n (ap (λ p. p.0) e))) in
    let two = second a.1 b.1 (λ n. h (λ e. n (ap (λ p. p.1) e))) in
    λ i. (one i, two i)

head_or : {A : Type 0} → A → List A → A
head_or a [] = a
head_or a (x ∷ xs) = x

tail_of : {A : Type 0} → List A → List A
tail_of [] = []
tail_of (x ∷ xs) = xs

pub settled_list : {A : Type 0} → AreSettled A → AreSettled (List A)
unfolding head_or tail_of
settled_list settled [] [] h = refl
settled_list settled [] (y ∷ ys) h = absurd (h (λ e. cc))
settled_list settled (x ∷ xs) [] h = absurd (h (λ e. cc))
settled_list settled (x ∷ xs) (y ∷ ys) h =
    ap₂ ◌∷◌ (settled x y (λ n. h (λ e. n (ap (head_or x) e))))
    (settled_list settled xs ys (λ n. h (λ e. n (ap tail_of e))))

value_or : {A : Type 0} → A → Option A → A
value_or a None = a
value_or a (Some x) = x

pub settled_option : {A : Type 0} → AreSettled A → AreSettled (Option A)
unfolding value_or
settled_option settled None None h = refl
settled_option settled None (Some y) h = absurd (h (λ e. cc))
settled_option settled (Some x) None h = absurd (h (λ e. cc))
settled_option settled (Some x) (Some y) h =
    ap Some (settled x y (λ n. h (λ e. n (ap (value_or x) e))))

-- ---- numbers, addresses, functions

pub settled_ℕ : AreSettled ℕ
settled_ℕ a b = decided _ (Decides-eqb a b)

pub settled_rational : AreSettled Rational
settled_rational a b = decided _ (rational_eq_Decides a b)

pub settled_address : AreSettled Address
settled_address a b = decided _ (address_eq-Decides a b)

pub settled_function : AreSettled Function
settled_function f g = decided _ (function_eq-Decides f g)

-- ---- senses, choices, sets

sense_number : Sense → ℕ
sense_number Min = 0
sense_number Max = 1

sense_at : ℕ → Sense
sense_at zero = Min
sense_at (suc n) = Max

pub settled_sense : AreSettled Sense
unfolding sense_number sense_at
settled_sense = settled_by sense_number sense_at back settled_ℕ
  where
    back : (s : Sense) → sense_at (sense_number s) ≡ s
    back Min = refl
    back Max = refl

choice_parts : Choice → ℕ × ℕ
choice_parts Native = (0, 0)
choice_parts (By n) = (1, n)
choice_parts Missing = (2, 0)

choice_of : ℕ → ℕ → Choice
choice_of zero n = Native
choice_of (suc zero) n = By n
choice_of (suc (suc k)) n = Missing

pub settled_choice : AreSettled Choice
unfolding choice_parts choice_of
settled_choice =
    settled_by choice_parts (λ p. choice_of p.0 p.1) back (settled_pair settled_ℕ settled_ℕ)
  where
    back : (c : Choice) → choice_of (choice_parts c).0 (choice_parts c).1 ≡ c
    back Native = refl
    back (By n) = refl
    back Missing = refl

abbrev Bounds : Type 0
Bounds = Rational × Rational

set_parts : Set → ℕ × (Bounds × ℕ)
set_parts (set.LessThan upper) = (0, ((upper, zero_ℚ), 0))
set_parts (set.GreaterThan lower) = (1, ((lower, zero_ℚ), 0))
set_parts (set.EqualTo value) = (2, ((value, zero_ℚ), 0))
set_parts (set.Interval lower upper) = (3, ((lower, upper), 0))
set_parts (set.Reals n) = (4, ((zero_ℚ, zero_ℚ), n))
set_parts (set.Zeros n) = (5, ((zero_ℚ, zero_ℚ), n))
set_parts (set.Nonnegatives n) = (6, ((zero_ℚ, zero_ℚ), n))
set_parts (set.Nonpositives n) = (7, ((zero_ℚ, zero_ℚ), n))
set_parts (set.NormInfinityCone n) = (8, ((zero_ℚ, zero_ℚ), n))
set_parts (set.NormOneCone n) = (9, ((zero_ℚ, zero_ℚ), n))

vector_set : ℕ → ℕ → Set
vector_set zero n = set.Reals n
vector_set (suc zero) n = set.Zeros n
vector_set (suc (suc zero)) n = set.Nonnegatives n
vector_set (suc (suc (suc zero))) n = set.Nonpositives n
vector_set (suc (suc (suc (suc zero)))) n = set.NormInfinityCone n
vector_set (suc (suc (suc (suc (suc k))))) n = set.NormOneCone n

set_from : ℕ → Bounds → ℕ → Set
unfolding vector_set
set_from zero b n = set.LessThan b.0
set_from (suc zero) b n = set.GreaterThan b.0
set_from (suc (suc zero)) b n = set.EqualTo b.0
set_from (suc (suc (suc zero))) b n = set.Interval b.0 b.1
set_from (suc (suc (suc (suc k)))) b n = vector_set k n

pub settled_set : AreSettled Set
unfolding set_parts set_from
settled_set =
    settled_by set_parts (λ p. set_from p.0 p.1.0 p.1.1) back
    (settled_pair settled_ℕ (settled_pair (settled_pair settled_rational settled_rational)
    settled_ℕ))
  where
    back : (s : Set)
        → set_from (set_parts s).0 (set_parts s).1.0 (set_parts s).1.1 ≡ s
    back (set.LessThan upper) = refl
    back _ = refl

-- ---- bodies, items, expressions

abbrev Parts : Type 0
Parts = Set × (List Address × (List Function × Sense))

no_set : Set
no_set = set.Reals 0

body_parts : Body → ℕ × Parts
body_parts (Group set vars) = (0, (set, (vars, ([], Min))))
body_parts (Free vars) = (1, (no_set, (vars, ([], Min))))
body_parts (Plain var set) = (2, (set, (var ∷ [], ([], Min))))
body_parts (Affine func set) = (3, (set, ([], (func ∷ [], Min))))
body_parts (PlainVec vars set) = (4, (set, (vars, ([], Min))))
body_parts (AffineVec funcs set) = (5, (set, ([], (funcs, Min))))
body_parts (PlainObj sense var) = (6, (no_set, (var ∷ [], ([], sense))))
body_parts (AffineObj sense func) = (7, (no_set, ([], (func ∷ [], sense))))

nowhere : Address
nowhere = root_address root.Variable 0

plain_by : List Address → Set → Body
plain_by [] set = Plain nowhere set
plain_by (v ∷ vs) set = Plain v set

affine_by : List Function → Set → Body
affine_by [] set = AffineVec [] set
affine_by (f ∷ fs) set = Affine f set

plain_goal : List Address → Sense → Body
plain_goal [] sense = PlainObj sense nowhere
plain_goal (v ∷ vs) sense = PlainObj sense v

affine_goal : List Function → Sense → Body
affine_goal [] sense = PlainObj sense nowhere
affine_goal (f ∷ fs) sense = AffineObj sense f

body_from : ℕ → Parts → Body
unfolding plain_by affine_by plain_goal affine_goal
body_from zero p = Group p.0 p.1.0
body_from (suc zero) p = Free p.1.0
body_from (suc (suc zero)) p = plain_by p.1.0 p.0
body_from (suc (suc (suc zero))) p = affine_by p.1.1.0 p.0
body_from (suc (suc (suc (suc zero)))) p = PlainVec p.1.0 p.0
body_from (suc (suc (suc (suc (suc zero))))) p = AffineVec p.1.1.0 p.0
body_from (suc (suc (suc (suc (suc (suc zero)))))) p = plain_goal p.1.0 p.1.1.1
body_from (suc (suc (suc (suc (suc (suc (suc k))))))) p = affine_goal p.1.1.0 p.1.1.1

pub settled_body : AreSettled Body
unfolding body_parts body_from
settled_body =
    settled_by body_parts (λ p. body_from p.0 p.1) back
    (settled_pair settled_ℕ (settled_pair settled_set
    (settled_pair (settled_list settled_address)
    (settled_pair (settled_list settled_function) settled_sense))))
  where
    back : (b : Body) → body_from (body_parts b).0 (body_parts b).1 ≡ b
    back (Group set vars) = refl
    back _ = refl

pub settled_item : AreSettled Item
settled_item =
    settled_by (λ (i : Item). (i.at, i.body)) (λ p. record { at = p.0; body = p.1 }) (λ i. refl)
    (settled_pair settled_address settled_body)

expression_parts : Expression → ℕ × (List Address × List Function)
expression_parts (Kept var) = (0, (var ∷ [], []))
expression_parts (Bridged func) = (1, ([], func ∷ []))

kept_by : List Address → Expression
kept_by [] = Kept nowhere
kept_by (v ∷ vs) = Kept v

bridged_by : List Function → Expression
bridged_by [] = Kept nowhere
bridged_by (f ∷ fs) = Bridged f

expression_from : ℕ → List Address → List Function → Expression
unfolding kept_by bridged_by
expression_from zero vs fs = kept_by vs
expression_from (suc k) vs fs = bridged_by fs

pub settled_expression : AreSettled Expression
unfolding expression_parts expression_from
settled_expression =
    settled_by expression_parts (λ p. expression_from p.0 p.1.0 p.1.1) back
    (settled_pair settled_ℕ (settled_pair (settled_list settled_address)
    (settled_list settled_function)))
  where
    back : (e : Expression)
        → expression_from (expression_parts e).0 (expression_parts e).1.0
        (expression_parts e).1.1 ≡ e
    back (Kept var) = refl
    back (Bridged func) = refl
