-- Items of the user's that are used as samples: rows and groups of the variables 0, 1 and 2.
use denote.Enum.Bare.{same_true}
use Rattle.std.specs.Prelude.{All, Bool, List, [], false, length, refl, true, ℕ, ◌∷◌, ◌≡◌, ◌≤◌}
use Rattle.std.proofs.lemmas.List.Elements.{All-cons, All-nil}
use Rattle.std.proofs.Common.{ap, arith, is_lt, subst, sym, true≢false, ◌∙◌}
use Rattle.aff_core.specs.Address.{Address, address_cmp, root_address, root_number}
use Rattle.item_core.specs.declared.item.Body.TheVariants.{Affine, AffineObj, AffineVec, Group, Plain, PlainObj, PlainVec}
use Rattle.item_core.specs.declared.item.Body.{Body}
use Rattle.set_core.specs.declared.set.Set.TheVariants.{Interval, NormInfinityCone, Reals}
use Rattle.aff_core.specs.Function.{Function, variable, constant_function}
use Rattle.set_core.specs.Shapes.{IsSetOf, dimension_of, is_crossed, is_scalar, least_dimension}
use Rattle.item_core.specs.Item.{functions_of, is_group, set_of}
use Rattle.item_core.specs.Valid.{FitsItsFunction, IsValidItem, NamesNothingBelow, below}
use Rattle.item_core.specs.declared.item.Item.{Item}
use Rattle.ratio_core.specs.Rational.{Rational, rational_cmp, one_ℚ, zero_ℚ}
use Rattle.aff_core.specs.declared.root.Root.TheVariants.{Row, Variable}
use Rattle.aff_core.specs.declared.sense.Sense.{Sense}
use Rattle.set_core.specs.declared.set.Set.{Set}
use Rattle.aff_core.specs.KeyOrder.{address_order}
use Rattle.aff_core.specs.FunctionLaws.{coefficient-variable_other, coefficient-constant_function}
use Rattle.rational_laws.specs.Tests.{is_lt_Decides}
use Rattle.rational_laws.specs.Order.{not_‹ℚ_from_≤ℚ}
use Rattle.bridge_face.specs.ComponentLaws.{variables}
use Rattle.item_core.specs.declared.edge.Edge.TheVariants.{E40, E41}
use Rattle.bridge_face.specs.Law.{IsItemFor}
use Rattle.item_core.specs.declared.family.Family.TheVariants.{DropReals, NormInfinity}
use Rattle.item_core.specs.Edge.{edge_entry, family_of, source_of}
use Rattle.item_core.specs.Kind.{kind_eq}
use Rattle.item_core.specs.KindOf.{kind_of_body}
use Rattle.item_core.specs.contracts.kind.Kind as contracts
use Rattle.item_core.specs.declared.edge.Edge.{Edge}
use Rattle.item_core.specs.declared.kind.Kind.{Kind}
use Rattle.set_laws.specs.Units.{one_nonneg}

abbrev pub here : Address
here = root_address Row 7

abbrev pub at_variable : ℕ → Address
at_variable n = root_address Variable n

abbrev pub placed : Address → Body → Item
placed at body = record { at = at; body = body }

abbrev pub item_of : Body → Item
item_of body = placed here body

-- a body that a valid item has
abbrev pub IsValidBody : Body → Type 0
IsValidBody body = IsValidItem (item_of body)

-- the n-th variable with a number added
abbrev pub shifted : ℕ → Rational → Function
shifted n q = record (variable {R = address_cmp} (at_variable n)) { constant = q }

abbrev pub three_variables : List Address
three_variables = at_variable 0 ∷ at_variable 1 ∷ at_variable 2 ∷ []

abbrev pub three_functions : Rational → List Function
three_functions q = shifted 0 q ∷ shifted 1 q ∷ shifted 2 q ∷ []

-- variables stand nowhere below a row
elsewhere : (n : ℕ) (rest : List ℕ) → ¬ (below here rest ≡ at_variable n)
elsewhere n rest e = absurd (omega (arith, ap (λ (a : Address). root_number a.root) e))

unnamed : (n : ℕ) → NamesNothingBelow here (variable (at_variable n))
unnamed n rest =
    coefficient-variable_other address_order (at_variable n) (below here rest) (elsewhere n rest)

unnamed_shifted : (n : ℕ) (q : Rational) → NamesNothingBelow here (shifted n q)
unnamed_shifted n q rest = unnamed n rest

three_unnamed : All (NamesNothingBelow here) (variables three_variables)
three_unnamed =
    All-cons (NamesNothingBelow here) (variable (at_variable 0))
    (variables (at_variable 1 ∷ at_variable 2 ∷ [])) (unnamed 0)
    (All-cons (NamesNothingBelow here) (variable (at_variable 1)) (variables (at_variable 2 ∷ []))
    (unnamed 1)
    (All-cons (NamesNothingBelow here) (variable (at_variable 2)) [] (unnamed 2)
    (All-nil (NamesNothingBelow here))))

three_shifted : (q : Rational) → All (NamesNothingBelow here) (three_functions q)
three_shifted q =
    All-cons (NamesNothingBelow here) (shifted 0 q) (shifted 1 q ∷ shifted 2 q ∷ [])
    (unnamed_shifted 0 q)
    (All-cons (NamesNothingBelow here) (shifted 1 q) (shifted 2 q ∷ []) (unnamed_shifted 1 q)
    (All-cons (NamesNothingBelow here) (shifted 2 q) [] (unnamed_shifted 2 q)
    (All-nil (NamesNothingBelow here))))

one_unnamed : (f : Function) → NamesNothingBelow here f → All (NamesNothingBelow here) (f ∷ [])
one_unnamed f h = All-cons (NamesNothingBelow here) f [] h (All-nil (NamesNothingBelow here))

-- ---- sets

-- a set for one number, or for vectors of three
pub record IsSampleSet (set : Set) : Type 0 where
  pub one : is_scalar set ≡ true → IsSetOf 1 set
  pub three : is_scalar set ≡ false → IsSetOf 3 set

pub sample_of_one : (set : Set) → is_scalar set ≡ true → IsSetOf 1 set → IsSampleSet set
sample_of_one set scalar fits =
    record { one = λ _. fits; three = λ vector. absurd (true≢false (sym scalar ∙ vector)) }

pub sample_of_three : (set : Set) → is_scalar set ≡ false → dimension_of set ≡ 3
    → least_dimension set ≤ 3 → is_crossed set ≡ false → IsSampleSet set
sample_of_three set vector long enough uncrossed = record {
  one = λ scalar. absurd (true≢false (sym scalar ∙ vector));
  three = λ _. record { dimension = long; enough = enough; uncrossed = uncrossed };
}

-- ---- bodies

-- from a body's functions and set alone
sound : (body : Body) → FitsItsFunction body → 1 ≤ length (functions_of body)
    → length (functions_of body) ≤ 32767 → IsSetOf (length (functions_of body)) (set_of body)
    → (is_group body ≡ false → All (NamesNothingBelow here) (functions_of body)) → IsValidBody body
sound body function some at_most set others = record {
  function = function;
  some = some;
  at_most = at_most;
  set = set;
  depth = omega arith;
  others = others;
}

pub sound_plain : (set : Set) → is_scalar set ≡ true → IsSampleSet set
    → IsValidBody (Plain (at_variable 0) set)
sound_plain set s k =
    sound (Plain (at_variable 0) set) s (omega arith) (omega arith) (k.one s)
    (λ _. one_unnamed (variable (at_variable 0)) (unnamed 0))

pub sound_affine : (q : Rational) (set : Set) → is_scalar set ≡ true → IsSampleSet set
    → IsValidBody (Affine (shifted 0 q) set)
sound_affine q set s k =
    sound (Affine (shifted 0 q) set) s (omega arith) (omega arith) (k.one s)
    (λ _. one_unnamed (shifted 0 q) (unnamed_shifted 0 q))

pub sound_plain_vec : (set : Set) → is_scalar set ≡ false → IsSampleSet set
    → IsValidBody (PlainVec three_variables set)
sound_plain_vec set s k =
    sound (PlainVec three_variables set) s (omega arith) (omega arith) (k.three s)
    (λ _. three_unnamed)

pub sound_affine_vec : (q : Rational) (set : Set) → is_scalar set ≡ false → IsSampleSet set
    → IsValidBody (AffineVec (three_functions q) set)
sound_affine_vec q set s k =
    sound (AffineVec (three_functions q) set) s (omega arith) (omega arith) (k.three s)
    (λ _. three_shifted q)

pub sound_group_one : (set : Set) → is_scalar set ≡ true → IsSampleSet set
    → IsValidBody (Group set (at_variable 0 ∷ []))
sound_group_one set s k =
    sound (Group set (at_variable 0 ∷ [])) tt (omega arith) (omega arith) (k.one s)
    (λ none. absurd (true≢false none))

pub sound_group_three : (set : Set) → is_scalar set ≡ false → IsSampleSet set
    → IsValidBody (Group set three_variables)
sound_group_three set s k =
    sound (Group set three_variables) tt (omega arith) (omega arith) (k.three s)
    (λ none. absurd (true≢false none))

pub sound_plain_obj : (sense : Sense) → IsValidBody (PlainObj sense (at_variable 0))
sound_plain_obj sense =
    sound (PlainObj sense (at_variable 0)) tt (omega arith) (omega arith)
    (record { dimension = refl; enough = omega arith; uncrossed = refl })
    (λ _. one_unnamed (variable (at_variable 0)) (unnamed 0))

pub sound_affine_obj : (sense : Sense) (q : Rational) → IsValidBody (AffineObj sense (shifted 0 q))
sound_affine_obj sense q =
    sound (AffineObj sense (shifted 0 q)) tt (omega arith) (omega arith)
    (record { dimension = refl; enough = omega arith; uncrossed = refl })
    (λ _. one_unnamed (shifted 0 q) (unnamed_shifted 0 q))

-- the numbers from 0 to 1 are some
unit_interval : is_crossed (Interval zero_ℚ one_ℚ) ≡ false
unit_interval = by (is_lt (rational_cmp one_ℚ zero_ℚ)) refl
  where
    by : (b : Bool) → is_lt (rational_cmp one_ℚ zero_ℚ) ≡ b → b ≡ false
    by true e = absurd (not_‹ℚ_from_≤ℚ zero_ℚ one_ℚ one_nonneg ((is_lt_Decides one_ℚ zero_ℚ).0 e))
    by false e = refl

pub sample_interval : IsSampleSet (Interval zero_ℚ one_ℚ)
sample_interval =
    sample_of_one (Interval zero_ℚ one_ℚ) refl
    (record { dimension = refl; enough = omega arith; uncrossed = unit_interval })

-- ---- what an edge leads from

-- kinds that the test finds equal are one
pub equal_kind : (a b : Kind) → kind_eq a b ≡ true → a ≡ b
equal_kind a b e = same_true contracts.the_type tt a b e

-- a sound body of the edge's source kind
pub suits_sound : (edge : Edge) (at : Address) (body : Body) (item : Item) (kind source : Kind)
    → at ≡ here → IsValidBody body → item ≡ placed at body
    → kind ≡ kind_of_body body → source ≡ source_of edge → kind_eq kind source ≡ true
    → IsItemFor edge item
suits_sound edge at body item kind source at_is sound item_is kind_is source_is equal =
    subst (IsItemFor edge) (sym (item_is ∙ ap (λ a. placed a body) at_is))
    (record { valid = sound; kind = sym kind_is ∙ equal_kind kind source equal ∙ source_is })

-- ---- constant functions

abbrev pub two_constants : Rational → Rational → Set → Body
two_constants p q set = AffineVec (constant_function p ∷ constant_function q ∷ []) set

sound_constants : (p q : Rational) (set : Set) → is_scalar set ≡ false → IsSetOf 2 set
    → IsValidBody (two_constants p q set)
sound_constants p q set vector two =
    sound (two_constants p q set) vector (omega arith) (omega arith) two (λ _.
    All-cons (NamesNothingBelow here) (constant_function p) (constant_function q ∷ [])
    (λ rest. coefficient-constant_function address_order p (below here rest))
    (one_unnamed (constant_function q) (λ rest. coefficient-constant_function address_order q
    (below here rest))))

suits_constants : (edge : Edge) (p q : Rational) (set : Set) → is_scalar set ≡ false → IsSetOf 2 set
    → kind_of_body (two_constants p q set) ≡ source_of edge
    → IsItemFor edge (item_of (two_constants p q set))
suits_constants edge p q set vector two kind =
    record { valid = sound_constants p q set vector two; kind = kind }

pub suits_norm : (p q : Rational) → IsItemFor E41 (item_of (two_constants p q (NormInfinityCone 2)))
unfolding edge_entry kind_of_body
suits_norm p q =
    suits_constants E41 p q (NormInfinityCone 2) refl
    (record { dimension = refl; enough = omega arith; uncrossed = refl }) refl

pub suits_reals : (p q : Rational) → IsItemFor E40 (item_of (two_constants p q (Reals 2)))
unfolding edge_entry kind_of_body
suits_reals p q =
    suits_constants E40 p q (Reals 2) refl
    (record { dimension = refl; enough = omega arith; uncrossed = refl }) refl

pub own_norm : family_of E41 ≡ NormInfinity
unfolding edge_entry
own_norm = refl

pub own_reals : family_of E40 ≡ DropReals
unfolding edge_entry
own_reals = refl
