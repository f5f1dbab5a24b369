-- Functions of the user's variables, by address and by name.
use Rattle.std.specs.Prelude.{ℕ, Bool, true, false, List, [], ◌∷◌, length, map, flat_map, sum}
use Rattle.std.specs.List.{list_any}
use Rattle.std.specs.FinMap as finite
use Rattle.aff_core.specs.Address.{Address, address_eq}
use Rattle.aff_core.specs.Function.{Function, terms_of}
use Rattle.named_aff.specs.declared.aff.NamedAff.{NamedAff}
use Rattle.user_model.specs.declared.function.UserFunc.{UserFunc}
use Rattle.user_model.specs.declared.function.UserFunc.TheVariants.{Plain, Affine, PlainVec, AffineVec}
use Rattle.user_model.specs.declared.edit.NamedFunc.{NamedFunc}
use Rattle.user_model.specs.declared.edit.NamedFunc.TheVariants as named

abbrev pub is_scalar_function : UserFunc → Bool
is_scalar_function (Plain var) = true
is_scalar_function (Affine f) = true
is_scalar_function (PlainVec vars) = false
is_scalar_function (AffineVec fs) = false

abbrev pub is_scalar_affine : UserFunc → Bool
is_scalar_affine (Plain var) = false
is_scalar_affine (Affine f) = true
is_scalar_affine (PlainVec vars) = false
is_scalar_affine (AffineVec fs) = false

abbrev pub is_vector_affine : UserFunc → Bool
is_vector_affine (Plain var) = false
is_vector_affine (Affine f) = false
is_vector_affine (PlainVec vars) = false
is_vector_affine (AffineVec fs) = true

abbrev pub components : UserFunc → ℕ
components (Plain var) = 1
components (Affine f) = 1
components (PlainVec vars) = length vars
components (AffineVec fs) = length fs

abbrev pub term_count : Function → ℕ
term_count f = length (terms_of f)

-- the number of terms of each affine component
abbrev pub term_counts : UserFunc → List ℕ
term_counts (Plain var) = []
term_counts (Affine f) = term_count f ∷ []
term_counts (PlainVec vars) = []
term_counts (AffineVec fs) = map term_count fs

abbrev pub all_terms : UserFunc → ℕ
all_terms func = sum (term_counts func)

-- the function has a term of the address
abbrev pub has_term : Address → Function → Bool
has_term at f = finite.contains_key f.terms at

-- the function has the address as a component or in a term
abbrev pub func_mentions : Address → UserFunc → Bool
func_mentions at (Plain var) = address_eq at var
func_mentions at (Affine f) = has_term at f
func_mentions at (PlainVec vars) = list_any (address_eq at) vars
func_mentions at (AffineVec fs) = list_any (has_term at) fs

-- ---- by name

abbrev pub is_scalar_named : NamedFunc → Bool
is_scalar_named (named.Plain var) = true
is_scalar_named (named.Affine f) = true
is_scalar_named (named.PlainVec vars) = false
is_scalar_named (named.AffineVec fs) = false

abbrev pub named_components : NamedFunc → ℕ
named_components (named.Plain var) = 1
named_components (named.Affine f) = 1
named_components (named.PlainVec vars) = length vars
named_components (named.AffineVec fs) = length fs

-- the names of an affine function's variables
abbrev pub names_of : NamedAff → List (List ℕ)
names_of f = map (λ t. t.variable) f.terms

-- the names of the variables of a function
abbrev pub mentioned : NamedFunc → List (List ℕ)
mentioned (named.Plain var) = var ∷ []
mentioned (named.Affine f) = names_of f
mentioned (named.PlainVec vars) = vars
mentioned (named.AffineVec fs) = flat_map names_of fs
