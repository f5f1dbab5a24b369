-- Which bytes are a name, and which name a token stands for.
use Rattle.std.proofs.Common.{◌≡◌, ◌≤◌, true, false, ◌&&◌, nat_le, List, length, ℕ, None, Some, refl, ap, ◌∙◌, arith, All}
use Rattle.std.specs.Str.{is_utf8}
use Rattle.std.proofs.lemmas.Bool.{cond-true, cond-false, and_from, and_parts}
use Rattle.std.proofs.lemmas.Bool.Decides.{nat_tests}
use Rattle.std.proofs.lemmas.Str.{IsUtf8-from_is_utf8, is_utf8-from_IsUtf8}
use Rattle.percent_encoding.proofs.PercentLemmas.{IsByte}
use Rattle.name_index.specs.Escape.{escaped, percent_decoded}
use Rattle.name_index.specs.Name.{longest_name, IsName, is_name, name_of_token}
use Rattle.name_index.proofs.EscapeLemmas.{bytes_from_utf8, percent_decoded-escaped}

-- a name passes the test
pub is_name-from_IsName : (bytes : List ℕ) → IsName bytes → is_name bytes ≡ true
is_name-from_IsName bytes name =
    let short : 1 ≤ length bytes = name.length.0 in
    let long : length bytes ≤ 4096 = name.length.1 in
    let fits : (nat_le 1 (length bytes) && nat_le (length bytes) longest_name) ≡ true =
    grind (arith, nat_tests) in
    and_from (is_utf8 bytes) _ (is_utf8-from_IsUtf8 bytes name.utf8) fits

-- and what passes it is a name
pub IsName-from_is_name : (bytes : List ℕ) → is_name bytes ≡ true → IsName bytes
IsName-from_is_name bytes test =
    let parts = and_parts (is_utf8 bytes) (nat_le 1 (length bytes) && nat_le (length bytes)
    longest_name) test in
    let fits = parts.1 in
    let short : 1 ≤ length bytes = grind (arith, nat_tests) in
    let long : length bytes ≤ 4096 = grind (arith, nat_tests) in
    record { utf8 = IsUtf8-from_is_utf8 bytes parts.0; length = (short, long) }

-- a token that decodes to a name stands for it
pub name_of_token-name : (token : List ℕ) → IsName (percent_decoded token)
    → name_of_token token ≡ Some (percent_decoded token)
unfolding name_of_token
name_of_token-name token name = cond-true _ _ _ (is_name-from_IsName (percent_decoded token) name)

-- and one that decodes to no name stands for none
pub name_of_token-none : (token : List ℕ) → ¬ (IsName (percent_decoded token))
    → name_of_token token ≡ None
unfolding name_of_token
name_of_token-none token none =
    elim (is_name (percent_decoded token)) as (λ t. is_name (percent_decoded token) ≡ t
    → name_of_token token ≡ None) [
      | true ↦ λ t. absurd (none (IsName-from_is_name (percent_decoded token) t))
      | false ↦ λ t. cond-false _ _ _ t
    ] refl

-- the bytes of a name are bytes, which its escapes need
pub bytes_from_name : (name : List ℕ) → IsName name → All IsByte name
bytes_from_name name is = bytes_from_utf8 name is.utf8

-- an escaped name reads back
pub name_of_token-escaped : (name : List ℕ) → IsName name → name_of_token (escaped name) ≡ Some name
name_of_token-escaped name is =
    let back = percent_decoded-escaped name (bytes_from_name name is) in
    name_of_token-name (escaped name) (rw back is) ∙ ap Some back
