-- What a name is, and which name a token stands for.
use Rattle.std.specs.Prelude.{◌≡◌, ℕ, ◌≤◌, ◌<◌, ◌⊎◌, Bool, ◌&&◌, nat_le, List, length, Option, None, Some, if◌then◌else◌}
use Rattle.std.specs.Str.{IsUtf8, is_utf8}
use Rattle.name_index.specs.Escape.{percent_decoded}

-- the most bytes that a name has
abbrev pub longest_name : ℕ
longest_name = 4096

-- a name has 1 to 4,096 bytes
abbrev pub HasNameLength : List ℕ → Type 0
HasNameLength bytes = (1 ≤ length bytes) × (length bytes ≤ longest_name)

-- too short or too long for a name
abbrev pub HasBadLength : List ℕ → Type 0
HasBadLength bytes = (length bytes ≡ 0) ⊎ (longest_name < length bytes)

-- the bytes of a name: UTF-8, from 1 to 4,096 bytes long
pub record IsName (bytes : List ℕ) : Type 0 where
  pub utf8 : IsUtf8 bytes
  pub length : HasNameLength bytes

-- `IsName` as a test
abbrev pub is_name : List ℕ → Bool
is_name bytes = is_utf8 bytes && (nat_le 1 (length bytes) && nat_le (length bytes) longest_name)

-- the name that a token stands for: what it decodes to, where that is a name
unfoldable pub name_of_token : List ℕ → Option (List ℕ)
name_of_token token = if is_name (percent_decoded token) then Some (percent_decoded token) else None
