-- What an item is about: a function for each of its components, and the set that they are to be in.
use Rattle.std.specs.Prelude.{Bool, true, false, List, [], ◌∷◌, map, length}
use Rattle.aff_core.specs.Address.{Address}
use Rattle.aff_core.specs.Function.{Function, variable}
use Rattle.set_core.specs.declared.set.Set.{Set}
use Rattle.set_core.specs.declared.set.Set.TheVariants.{Reals}
use Rattle.item_core.specs.declared.item.Body.{Body}
use Rattle.item_core.specs.declared.item.Item.{Item}
use Rattle.item_core.specs.declared.item.Body.TheVariants.{Group, Free, Plain, Affine, PlainVec, AffineVec, PlainObj, AffineObj}

-- an item at an address
abbrev pub item_of : Address → Body → Item
item_of at body = record { at = at; body = body }

-- a function for each component; those of a group are its variables
abbrev pub functions_of : Body → List Function
functions_of (Group set vars) = map variable vars
functions_of (Free vars) = map variable vars
functions_of (Plain var set) = variable var ∷ []
functions_of (Affine func set) = func ∷ []
functions_of (PlainVec vars set) = map variable vars
functions_of (AffineVec func set) = func
functions_of (PlainObj sense var) = variable var ∷ []
functions_of (AffineObj sense func) = func ∷ []

-- the variables of a body whose functions are plain
abbrev pub variables_of : Body → List Address
variables_of (Group set vars) = vars
variables_of (Free vars) = vars
variables_of (Plain var set) = var ∷ []
variables_of (Affine func set) = []
variables_of (PlainVec vars set) = vars
variables_of (AffineVec func set) = []
variables_of (PlainObj sense var) = var ∷ []
variables_of (AffineObj sense func) = []

-- the set that the functions are to be in: any number serves as an objective
abbrev pub set_of : Body → Set
set_of (Group set vars) = set
set_of (Free vars) = Reals (length vars)
set_of (Plain var set) = set
set_of (Affine func set) = set
set_of (PlainVec vars set) = set
set_of (AffineVec func set) = set
set_of (PlainObj sense var) = Reals 1
set_of (AffineObj sense func) = Reals 1

-- groups have variables of their own, and rows and objectives name variables of others
abbrev pub is_group : Body → Bool
is_group (Group set vars) = true
is_group (Free vars) = true
is_group _ = false
