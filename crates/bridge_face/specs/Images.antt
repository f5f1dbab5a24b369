-- What images are made of: children at their positions, and total readers of functions and sets.
use Rattle.std.specs.Prelude.{ℕ, cond, List, [], ◌∷◌, map, None}
use Rattle.std.specs.List.{enumerate_from, range_with_len}
use Rattle.ratio_core.specs.Rational.{Rational, zero_ℚ, ◌+ℚ◌}
use Rattle.aff_core.specs.Address.{Address, child_of}
use Rattle.aff_core.specs.Arithmetic.{sum_of}
use Rattle.aff_core.specs.Function.{Function, constant_function, negated}
use Rattle.set_core.specs.Shapes.{is_scalar}
use Rattle.set_core.specs.declared.set.Set.{Set}
use Rattle.set_core.specs.declared.set.Set.TheVariants.{LessThan, GreaterThan, EqualTo, Interval, Zeros, Nonnegatives, Nonpositives}
use Rattle.item_core.specs.declared.item.Body.{Body}
use Rattle.item_core.specs.declared.item.Body.TheVariants.{Plain, Affine, PlainVec, AffineVec}
use Rattle.item_core.specs.declared.item.Item.{Item}
use Rattle.item_core.specs.declared.image.Image.{Image}
use Rattle.item_core.specs.declared.image.Expression.{Expression}
use Rattle.item_core.specs.Item.{functions_of}

-- ---- functions

abbrev pub difference : Function → Function → Function
difference f g = sum_of f (negated g)

-- the function with a number added
abbrev pub raised : Function → Rational → Function
raised f q = record f { constant = f.constant +ℚ q }

-- the only function of a body, or the first of several
abbrev pub first_in : List Function → Function
first_in [] = constant_function zero_ℚ
first_in (f ∷ fs) = f

abbrev pub rest_of : List Function → List Function
rest_of [] = []
rest_of (f ∷ fs) = fs

abbrev pub function_of_body : Body → Function
function_of_body body = first_in (functions_of body)

-- ---- sets

-- the number of a set that has one
abbrev pub number_in : Set → Rational
number_in (LessThan u) = u
number_in (GreaterThan l) = l
number_in (EqualTo a) = a
number_in _ = zero_ℚ

-- the cone that has the differences from the set's number
abbrev pub cone_of : Set → Set
cone_of (LessThan u) = Nonpositives 1
cone_of (GreaterThan l) = Nonnegatives 1
cone_of (EqualTo a) = Zeros 1
cone_of set = set

-- the numbers that a component of the cone's vectors may be
abbrev pub component_of : Set → Set
component_of (Zeros n) = EqualTo zero_ℚ
component_of (Nonnegatives n) = GreaterThan zero_ℚ
component_of (Nonpositives n) = LessThan zero_ℚ
component_of set = set

-- the two sets that have a set's vectors in common
abbrev pub lower_part : Set → Set
lower_part (Interval l u) = GreaterThan l
lower_part (EqualTo a) = GreaterThan a
lower_part (Zeros n) = Nonnegatives n
lower_part set = set

abbrev pub upper_part : Set → Set
upper_part (Interval l u) = LessThan u
upper_part (EqualTo a) = LessThan a
upper_part (Zeros n) = Nonpositives n
upper_part set = set

-- ---- bodies

abbrev pub with_set : Body → Set → Body
with_set (Plain var s) set = Plain var set
with_set (Affine func s) set = Affine func set
with_set (PlainVec vars s) set = PlainVec vars set
with_set (AffineVec funcs s) set = AffineVec funcs set
with_set body set = body

-- a row of these functions in the set
abbrev pub affine : List Function → Set → Body
affine fs set = cond (is_scalar set) (Affine (first_in fs) set) (AffineVec fs set)

-- a row of these variables in the set
abbrev pub plain : List Address → Set → Body
plain [] set = PlainVec [] set
plain (v ∷ vs) set = cond (is_scalar set) (Plain v set) (PlainVec (v ∷ vs) set)

-- one body a component, in a set of numbers
abbrev pub each_component : Body → Set → List Body
each_component (PlainVec vars s) set = map (λ v. Plain v set) vars
each_component (AffineVec funcs s) set = map (λ f. Affine f set) funcs
each_component _ set = []

-- ---- children

abbrev pub child_at : Item → ℕ → Body → Item
child_at item position body = record { at = child_of item.at position; body = body }

-- bodies at the positions from a first one on
abbrev pub children_from : Item → ℕ → List Body → List Item
children_from item first bodies = map (λ p. child_at item p.0 p.1) (enumerate_from first bodies)

-- the variables of a group of n components: the group's address with the component appended
abbrev pub components : Address → ℕ → List Address
components at n = map (child_of at) (range_with_len 0 n)

-- rows alone
abbrev pub rows_at : Item → List Body → Image
rows_at item bodies =
    record { groups = []; exprs = []; rows = children_from item 0 bodies; objective = None }

abbrev pub row_at : Item → Body → Image
row_at item body =
    record { groups = []; exprs = []; rows = child_at item 0 body ∷ []; objective = None }

-- the image of a group without further children
abbrev pub group_by : List Item → List Expression → Image
group_by groups exprs = record { groups = groups; exprs = exprs; rows = []; objective = None }
