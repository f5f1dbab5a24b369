-- Functions of leaf variables: the terms in the order of their addresses, and then the constant.
use Rattle.std.specs.Prelude.{ℕ, List, [], ◌∷◌, ◌++◌, codes, flat_map, map, if◌then◌else◌}
use Rattle.ratio_core.specs.Rational.{Rational, rational_eq, zero_ℚ}
use Rattle.ratio_core.specs.Text.{text_of}
use Rattle.aff_core.specs.Address.{Address}
use Rattle.aff_core.specs.Function.{Function, terms_of}
use Rattle.report_core.specs.Words.{spaced}
use Rattle.user_model.specs.Model.{ModelValue}
use Rattle.bridged_report.specs.Addresses.{address_text}

abbrev pub term_text : ModelValue → Address × Rational → List ℕ
term_text model t = text_of t.1 ++ codes "*" ++ address_text model t.0

-- the constant, where it isn't 0
abbrev pub constant_texts : Rational → List (List ℕ)
constant_texts q = if rational_eq q zero_ℚ then [] else text_of q ∷ []

-- the parts with a space between each two, or 0 where there are none
abbrev pub sum_text : List (List ℕ) → List ℕ
sum_text [] = codes "0"
sum_text (part ∷ parts) = part ++ flat_map spaced parts

unfoldable pub function_text : ModelValue → Function → List ℕ
function_text model f = sum_text (map (term_text model) (terms_of f) ++ constant_texts f.constant)

-- the components with a semicolon between each two
abbrev pub parted : List ℕ → List ℕ
parted part = codes " ; " ++ part

abbrev pub components_text : List (List ℕ) → List ℕ
components_text [] = []
components_text (part ∷ parts) = part ++ flat_map parted parts
