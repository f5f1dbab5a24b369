-- Leaf addresses with their solver indices.
--     Places           a finite map from addresses to indices, and how many more need no memory
--     AreIndicesOneToOne IsIndexFree IsAddressAt  the other direction
--     addresses        the addresses in their order
use Rattle.std.specs.Prelude.{◌≡◌, ◌≢◌, ◌↔◌, ℕ, List, Option, Some, refl}
use Rattle.std.specs.Coded.{Coded, code_by, coded×, coded_ℕ}
use Rattle.std.specs.FinMap as finite
use Rattle.std.specs.FinMap.{FinMap}
use Rattle.aff_core.specs.Address.{Address, address_cmp, address_code}

abbrev pub Indices : Type 0
Indices = FinMap address_cmp ℕ

pub record Places : Type 0 where
  pub indices : Indices
  pub spare : ℕ

abbrev pub places_code : Coded Places
places_code =
    code_by (Indices × ℕ) (coded× (finite.code address_code coded_ℕ) coded_ℕ)
    (λ p. (p.indices, p.spare)) (λ p. record { indices = p.0; spare = p.1 }) (λ _. refl)

-- no address has the index
abbrev pub IsIndexFree : Indices → ℕ → Type 0
IsIndexFree indices i = (at : Address) → finite.get indices at ≢ Some i

-- no two addresses have one index
abbrev pub AreIndicesOneToOne : Indices → Type 0
AreIndicesOneToOne indices =
    (one other : Address) (i : ℕ)
    → finite.get indices one ≡ Some i → finite.get indices other ≡ Some i → one ≡ other

-- the answer is an address exactly where the address has the index
abbrev pub IsAddressAt : Indices → ℕ → Option Address → Type 0
IsAddressAt indices i answer =
    (at : Address) → (answer ≡ Some at) ↔ (finite.get indices at ≡ Some i)

-- the addresses in their order
abbrev pub addresses : Indices → List Address
addresses indices = finite.keys indices
