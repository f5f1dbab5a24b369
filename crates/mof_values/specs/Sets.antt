-- Objects that are walked by their types, and sets.
use Rattle.std.specs.Prelude.{ℕ, List, Bool, Ok, Err, bytes_eq, codes, if◌then◌else◌}
use Prim.Native.String.{String}
use Rattle.set_core.specs.declared.set.Set.{Set}
use Rattle.set_core.specs.declared.set.Set.TheVariants.{LessThan, GreaterThan, EqualTo, Interval, Reals, Zeros, Nonnegatives, Nonpositives, NormInfinityCone, NormOneCone}
use Rattle.serde_json.specs.Data.{Data}
use Rattle.mof_values.specs.declared.fault.MofFault.{MofFault}
use Rattle.mof_values.specs.declared.fault.MofFault.TheVariants.{UnknownKind}
use Rattle.mof_values.specs.Values.{a_number, a_text, an_integer, an_object, field}
use Rattle.mof_values.specs.Walked.{Walked, ◌>>=◌, here, key, mapped, under}

abbrev pub is : String → List ℕ → Bool
is word text = bytes_eq text (codes word)

-- a function or a set of a type that isn't read
abbrev pub kind_fault : MofFault
kind_fault = under (key "type") (UnknownKind here)

-- the type of an object
unfoldable pub kind_of : Data → Walked (List ℕ)
kind_of d = do
  _ ← an_object d
  field a_text "type" d

-- what the walk for its type gives of an object
abbrev pub by_kind : {A : Type 0} → (List ℕ → Data → Walked A) → Data → Walked A
by_kind walk d = do
  type ← kind_of d
  walk type d

-- ---- sets

unfoldable pub interval_of : Data → Walked Set
interval_of d = do
  lower ← field a_number "lower" d
  upper ← field a_number "upper" d
  Ok (Interval lower upper)

abbrev pub sized : (ℕ → Set) → Data → Walked Set
sized set d = mapped set (field an_integer "dimension" d)

unfoldable pub vector_set_of : List ℕ → Data → Walked Set
vector_set_of type d =
    if is "Reals" type then sized Reals d
    else (if is "Zeros" type then sized Zeros d
    else (if is "Nonnegatives" type then sized Nonnegatives d
    else (if is "Nonpositives" type then sized Nonpositives d
    else (if is "NormInfinityCone" type then sized NormInfinityCone d
    else (if is "NormOneCone" type then sized NormOneCone d
    else Err kind_fault)))))

unfoldable pub typed_set_of : List ℕ → Data → Walked Set
typed_set_of type d =
    if is "LessThan" type then mapped LessThan (field a_number "upper" d)
    else (if is "GreaterThan" type then mapped GreaterThan (field a_number "lower" d)
    else (if is "EqualTo" type then mapped EqualTo (field a_number "value" d)
    else (if is "Interval" type then interval_of d
    else vector_set_of type d)))

unfoldable pub set_of : Data → Walked Set
set_of d = by_kind typed_set_of d
