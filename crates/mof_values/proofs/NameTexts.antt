-- Texts as names.
use Rattle.std.specs.Prelude.{◌≡◌, ℕ, List, true, false, None, Some, refl}
use Rattle.std.proofs.Common.{arith, sym}
use Rattle.std.proofs.lemmas.Bool.{cond-false, cond-true}
use Rattle.name_index.proofs.NameLemmas.{IsName-from_is_name, is_name-from_IsName}
use Rattle.name_index.specs.Name.{HasBadLength, IsName, is_name}
use Rattle.mof_values.specs.Values.{name_of}

pub name_of-name : (text : List ℕ) → IsName text → Some text ≡ name_of text
name_of-name text name = sym (cond-true _ _ _ (is_name-from_IsName text name))

pub name_of-none : (text : List ℕ) → HasBadLength text → None ≡ name_of text
name_of-none text bad =
    elim (is_name text) as (λ t. is_name text ≡ t → None ≡ name_of text) [
      | true ↦ λ t. let name = IsName-from_is_name text t in
          let short = name.length.0 in
          let long = name.length.1 in
          absurd (omega (arith, bad, short, long))
      | false ↦ λ t. sym (cond-false _ _ _ t)
    ] refl
