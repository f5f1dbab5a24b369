-- Kinds, read off the table of kinds.
use Rattle.std.specs.Prelude.{ℕ, Bool, false, List, [], ◌∷◌, ◌++◌, slice_index_or, codes}
use denote.Enum.Declared.{tag_of}
use Rattle.set_core.specs.declared.set_type.SetType.{SetType}
use Rattle.set_core.specs.declared.set_type.SetType.TheVariants as types
use Rattle.item_core.specs.declared.kind.Kind.{Kind}
use Rattle.item_core.specs.declared.kind.FirstWord.{FirstWord}
use Rattle.item_core.specs.declared.kind.FirstWord.TheVariants as first
use Rattle.item_core.specs.declared.kind.SecondWord.{SecondWord}
use Rattle.item_core.specs.declared.kind.SecondWord.TheVariants as second
use Rattle.item_core.specs.declared.kind.TheConstants.{KINDS}
use Rattle.item_core.specs.contracts.kind.Kind as contracts
use Rattle.item_core.specs.contracts.kind.KindPartialEq.TheImpl as kinds

-- how many kinds there are
abbrev pub kind_count : ℕ
kind_count = 35

-- the place of a kind in the table
abbrev pub kind_number : Kind → ℕ
kind_number kind = tag_of contracts.the_type kind

abbrev pub kind_eq : Kind → Kind → Bool
kind_eq = (kinds.ghosts).eq

-- a solver may support items of the kind as they are
unfoldable pub is_native : Kind → Bool
is_native kind = slice_index_or KINDS.is_native (kind_number kind) false

-- ---- names, as `affine:LessThan` and `free`

unfoldable pub first_of : Kind → FirstWord
first_of kind = slice_index_or KINDS.first (kind_number kind) first.Free

unfoldable pub second_of : Kind → SecondWord
second_of kind = slice_index_or KINDS.second (kind_number kind) second.None

abbrev pub first_text : FirstWord → List ℕ
first_text first.Plain = codes "plain"
first_text first.Affine = codes "affine"
first_text first.Vplain = codes "vplain"
first_text first.Vaffine = codes "vaffine"
first_text first.Group = codes "group"
first_text first.Free = codes "free"
first_text first.Min = codes "min"
first_text first.Max = codes "max"

abbrev pub set_text_of : SetType → List ℕ
set_text_of types.LessThan = codes "LessThan"
set_text_of types.GreaterThan = codes "GreaterThan"
set_text_of types.EqualTo = codes "EqualTo"
set_text_of types.Interval = codes "Interval"
set_text_of types.Reals = codes "Reals"
set_text_of types.Zeros = codes "Zeros"
set_text_of types.Nonnegatives = codes "Nonnegatives"
set_text_of types.Nonpositives = codes "Nonpositives"
set_text_of types.NormInfinityCone = codes "NormInfinityCone"
set_text_of types.NormOneCone = codes "NormOneCone"

abbrev pub second_text : SecondWord → List ℕ
second_text (second.Of set) = set_text_of set
second_text second.Plain = codes "plain"
second_text second.Affine = codes "affine"
second_text second.None = []

-- the words, with a colon between them where there are two
abbrev pub joined : List ℕ → List ℕ → List ℕ
joined first [] = first
joined first (b ∷ second) = first ++ 58 ∷ b ∷ second

abbrev pub name_of : Kind → List ℕ
name_of kind = joined (first_text (first_of kind)) (second_text (second_of kind))
