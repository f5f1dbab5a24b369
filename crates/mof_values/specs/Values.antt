-- Values at the places of a file: objects, arrays, texts, numbers, names.
use Rattle.std.specs.Prelude.{ℕ, ◌^◌, ◌==◌, nat_lt, ℤ, pos, negsuc, List, Option, Some, None, option_map, option_and_then, Ok, Err, is_some, if◌then◌else◌, codes, ⊤}
use Prim.Native.String.{String}
use Rattle.ratio_core.specs.Rational.{Rational, whole_ℚ}
use Rattle.ratio_core.specs.Text.{rational_of}
use Rattle.name_index.specs.Name.{is_name}
use Rattle.serde_json.specs.Data.{Data, Items, Num}
use Rattle.serde_json.specs.Find.{as_array, as_integer, as_number, as_object, as_str, get}
use Rattle.mof_values.specs.declared.fault.MofFault.TheVariants.{BadNumber, Shape}
use Rattle.mof_values.specs.Walked.{Walked, ◌>>=◌, at, each, here, key_part, or_fault}

-- the value has to be an object
unfoldable pub an_object : Data → Walked ⊤
an_object d = if is_some (as_object d) then Ok tt else Err (Shape here)

-- what stands at a key, which has to be there
unfoldable pub field_at : List ℕ → Data → Walked Data
field_at name d = at (key_part name) (or_fault (Shape here) (get name d))

-- what a walk gives of it
unfoldable pub walk_at : {A : Type 0} → (Data → Walked A) → List ℕ → Data → Walked A
walk_at walk name d = field_at name d >>= (λ e. at (key_part name) (walk e))

abbrev pub field : {A : Type 0} → (Data → Walked A) → String → Data → Walked A
field walk name d = walk_at walk (codes name) d

-- ---- arrays and texts

unfoldable pub an_array : Data → Walked Items
an_array d = or_fault (Shape here) (as_array d)

-- an array whose items are walked in order, from this on
abbrev pub each_in : {S : Type 0} → (S → Data → Walked S) → S → Data → Walked S
each_in step start d = do
  items ← an_array d
  each step 0 start items

unfoldable pub a_text : Data → Walked (List ℕ)
a_text d = or_fault (Shape here) (as_str d)

-- the text, where a variable or a row can have it as its name
abbrev pub name_of : List ℕ → Option (List ℕ)
name_of text = if is_name text then Some text else None

-- the name of a new variable
unfoldable pub a_name : Data → Walked (List ℕ)
a_name d = a_text d >>= (λ text. or_fault (Shape here) (name_of text))

-- ---- numbers

-- a whole number, or a text that reads as a literal
abbrev pub read_number : Option (List ℕ) → Option Num → Option Rational
read_number (Some text) n = rational_of text
read_number None n = option_map whole_ℚ (option_and_then as_integer n)

unfoldable pub number_of : Data → Option Rational
number_of d = read_number (as_str d) (as_number d)

unfoldable pub a_number : Data → Walked Rational
a_number d = or_fault (BadNumber here) (number_of d)

-- from 0 to 4,294,967,295
abbrev pub unsigned_32 : ℤ → Option ℕ
unsigned_32 (pos n) = if nat_lt n (2 ^ 32) then Some n else None
unsigned_32 (negsuc n) = None

unfoldable pub index_in : Rational → Option ℕ
index_in q = if q.den == 1 then unsigned_32 q.num else None

unfoldable pub an_integer : Data → Walked ℕ
an_integer d = or_fault (Shape here) (option_and_then index_in (number_of d))
