-- Addresses of items: a root with its number, and the positions of the children chosen on the way
-- down.
use Rattle.std.specs.Prelude.{◌≡◌, Bool, ℕ, suc, zero, List, [], ◌∷◌, ◌++◌, refl}
use Rattle.std.proofs.Common.{ap, sym, subst, ◌∙◌}
use Rattle.std.specs.Coded.{Coded, code_by, coded×, coded_ℕ, coded_list}
use Rattle.std.specs.Ordering.{nat_cmp, on, then_cmp, is_eq, eq_by_cmp}
use Rattle.std.specs.Bool.{Decides}
use Rattle.std.specs.declared.cmp.Ordering.{Ordering}
use Rattle.std.specs.declared.cmp.Ordering.TheVariants.{Equal}
use Rattle.std.specs.Cmp.{IsTotalOrder, nat_cmp_total, on_total, then_total, Equal-is, tied_itself}
use Rattle.std.specs.Cmp.Lexicographic.{slice_cmp, nat_list_cmp_total}
use Rattle.std.specs.FinMap.{IsAntisymmetric, nat_cmp-IsAntisymmetric, slice_cmp-IsAntisymmetric}
use Rattle.std.proofs.lemmas.Map.Lookups.{exact_pairs}
use Rattle.aff_core.specs.declared.root.Root.{Root}
use Rattle.aff_core.specs.declared.root.Root.TheVariants.{Variable, Group, Row, Objective}
use Rattle.aff_core.specs.contracts.root.Root as contracts

pub record Address : Type 0 where
  pub root : Root
  pub number : ℕ
  pub positions : List ℕ

-- an address is stored as its three parts
abbrev pub address_code : Coded Address
address_code =
    code_by (Root
    × (ℕ × List ℕ)) (coded× (contracts.the_row).coded (coded× coded_ℕ (coded_list coded_ℕ)))
    (λ a. (a.root, (a.number, a.positions))) (λ p.
    record { root = p.0; number = p.1.0; positions = p.1.1 }) (λ _. refl)

-- the address of an item of the model
abbrev pub root_address : Root → ℕ → Address
root_address root number = record { root = root; number = number; positions = [] }

-- the address of a child of the item
abbrev pub child_of : Address → ℕ → Address
child_of at position = record at { positions = at.positions ++ position ∷ [] }

-- the place of a root in the order of roots
abbrev pub root_number : Root → ℕ
root_number Variable = 0
root_number Group = 1
root_number Row = 2
root_number Objective = 3

root_at : ℕ → Root
root_at zero = Variable
root_at (suc zero) = Group
root_at (suc (suc zero)) = Row
root_at (suc (suc (suc n))) = Objective

root_at-root_number : (r : Root) → root_at (root_number r) ≡ r
unfolding root_at
root_at-root_number Variable = refl
root_at-root_number Group = refl
root_at-root_number Row = refl
root_at-root_number Objective = refl

pub root_number-injective : (r s : Root) → root_number r ≡ root_number s → r ≡ s
root_number-injective r s e = sym (root_at-root_number r) ∙ ap root_at e ∙ root_at-root_number s

-- by root, then by number, then by positions, a prefix first
unfoldable pub address_cmp : Address → Address → Ordering
address_cmp =
    then_cmp (on (λ a. root_number a.root) nat_cmp)
    (then_cmp (on (λ a. a.number) nat_cmp) (on (λ a. a.positions) (slice_cmp nat_cmp)))

pub address_total : IsTotalOrder address_cmp
unfolding address_cmp
address_total = then_total (on_total (λ a. root_number a.root) nat_cmp_total)
    (then_total (on_total (λ a. a.number) nat_cmp_total)
    (on_total (λ a. a.positions) nat_list_cmp_total))

-- addresses that compare alike are equal
pub exact_addresses : IsAntisymmetric address_cmp
unfolding address_cmp
exact_addresses a b e =
    let same = exact_pairs nat_cmp _ nat_cmp-IsAntisymmetric
    (exact_pairs nat_cmp (slice_cmp nat_cmp) nat_cmp-IsAntisymmetric
    (slice_cmp-IsAntisymmetric nat_cmp-IsAntisymmetric))
    (root_number a.root, (a.number, a.positions))
    (root_number b.root, (b.number, b.positions)) e in
    λ i. record {
      root = root_number-injective a.root b.root (ap (λ p. p.0) same) i;
      number = (same i).1.0;
      positions = (same i).1.1;
    }

abbrev pub address_eq : Address → Address → Bool
address_eq = eq_by_cmp address_cmp

-- so `==` on addresses is equality
pub address_eq-Decides : (a b : Address) → Decides (eq_by_cmp address_cmp a b) (a ≡ b)
address_eq-Decides a b = (
  λ e. exact_addresses a b ((Equal-is (address_cmp a b)).0 e),
  λ e. ap is_eq
      (subst (λ c. address_cmp a c ≡ Equal) e (tied_itself address_total a)),
)
