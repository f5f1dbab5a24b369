-- Names by number, and what an exchange of the names at some numbers makes of them.
use Rattle.std.specs.Prelude.{◌≡◌, ℕ, ◌==◌, List, map, Option, Some, None, find, count_by, is_some}
use Rattle.std.specs.FinMap.{entries}
use Rattle.std.specs.Option.{option_map, option_map_or}
use Rattle.name_index.specs.NameTable.{NumbersByName}
use Rattle.numbered_list.specs.Numbered as numbered
use Rattle.model_catalog.specs.declared.names.NameChange.{NameChange}

abbrev pub listed_number : NameChange → ℕ
listed_number listed = listed.number

-- a name, or none, listed at a number
abbrev pub listed_as : ℕ → Option (List ℕ) → NameChange
listed_as number name = record { number = number; name = name; aside = None }

-- the name with a number in a table
unfoldable pub name_of : NumbersByName → ℕ → Option (List ℕ)
name_of numbers n = option_map (λ e. e.0) (find (λ e. e.1 == n) (entries numbers))

-- the names where each number that is listed has what is given for it
abbrev pub given_by : (NameChange → Option (List ℕ)) → List NameChange → (ℕ → Option (List ℕ)) → ℕ
    → Option (List ℕ)
given_by given listed naming n =
    option_map_or given (numbered.find listed_number n listed) (naming n)

-- the names where those that are listed have taken the places of others
abbrev pub renamed_by : List NameChange → (ℕ → Option (List ℕ)) → ℕ → Option (List ℕ)
renamed_by listed naming = given_by (λ l. l.name) listed naming

-- the names without those of the listed numbers
abbrev pub without_names : List NameChange → (ℕ → Option (List ℕ)) → ℕ → Option (List ℕ)
without_names listed naming = given_by (λ l. None) listed naming

-- no name is that of two numbers
abbrev pub AreDistinct : (ℕ → Option (List ℕ)) → Type 0
AreDistinct naming = (n m : ℕ) (name : List ℕ) → naming n ≡ Some name → naming m ≡ Some name → n ≡ m

-- the name that stands at a listed number
abbrev pub standing_name : (ℕ → Option (List ℕ)) → NameChange → NameChange
standing_name naming l = listed_as l.number (naming l.number)

-- the names that stand at the listed numbers
abbrev pub standing_names : (ℕ → Option (List ℕ)) → List NameChange → List NameChange
standing_names naming listed = map (standing_name naming) listed

-- the name that stood at the number put aside, and the one aside in its place
abbrev pub put_aside : (ℕ → Option (List ℕ)) → NameChange → NameChange
put_aside naming l = record { number = l.number; name = l.name; aside = naming l.number }

abbrev pub settled : NameChange → NameChange
settled l = record { number = l.number; name = l.aside; aside = None }

-- how many names are put in
abbrev pub put_count : List NameChange → ℕ
put_count listed = count_by (λ l. is_some l.name) listed
