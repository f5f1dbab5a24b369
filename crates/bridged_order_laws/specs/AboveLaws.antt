-- Addresses that are below others: by their roots, and by the children that they stand below.
use Rattle.std.specs.Prelude.{◌≡◌, ◌<◌, ℕ, List, [], ◌∷◌, ◌++◌, All, refl}
use Rattle.std.specs.Cmp.{nat_cmp_is}
use Rattle.std.specs.Cmp.Lexicographic.{slice_cmp}
use Rattle.std.specs.Ordering.{nat_cmp, ordering_then}
use Rattle.std.specs.declared.cmp.Ordering.TheVariants.{Equal, Less}
use Rattle.std.proofs.Common.{ap, sym, ◌∙◌}
use Rattle.std.proofs.lemmas.List.Elements.{All-append, All-cons, All-nil, All-weaker}
use Rattle.aff_core.specs.Address.{Address, address_cmp, root_number}
use Rattle.fresh_bridging.specs.OmitLaws.{IsBelowAt}
use Rattle.item_core.specs.Valid.{below}
use Rattle.map_laws.specs.EachLaws.{all_both}

tied : (n : ℕ) → nat_cmp n n ≡ Equal
tied n = sym (nat_cmp_is n n Equal refl)

lower : (m n : ℕ) → m < n → nat_cmp m n ≡ Less
lower m n h = sym (nat_cmp_is m n Less h)

positions_less : (at : List ℕ) (j k : ℕ) (r s : List ℕ) → j < k
    → slice_cmp nat_cmp (at ++ j ∷ r) (at ++ k ∷ s) ≡ Less
positions_less [] j k r s h = ap (λ o. ordering_then o (slice_cmp nat_cmp r s)) (lower j k h)
positions_less (n ∷ at) j k r s h =
    ap (λ o. ordering_then o (slice_cmp nat_cmp (at ++ j ∷ r) (at ++ k ∷ s))) (tied n)
    ∙ positions_less at j k r s h

children_less : (at : Address) (j k : ℕ) (r s : List ℕ) → j < k
    → address_cmp (below at (j ∷ r)) (below at (k ∷ s)) ≡ Less
unfolding address_cmp
children_less at j k r s h =
    ap (λ o. ordering_then o (ordering_then (nat_cmp at.number at.number)
    (slice_cmp nat_cmp (at.positions ++ j ∷ r) (at.positions ++ k ∷ s))))
    (tied (root_number at.root))
    ∙ ap (λ o. ordering_then o
    (slice_cmp nat_cmp (at.positions ++ j ∷ r) (at.positions ++ k ∷ s))) (tied at.number)
    ∙ positions_less at.positions j k r s h

-- what stands below an earlier child is below what stands below a later one
pub child_less : (at : Address) (j k : ℕ) (v o : Address) → j < k → IsBelowAt at j v
    → IsBelowAt at k o → address_cmp v o ≡ Less
child_less at j k v o h b c =
    (λ i. address_cmp (b.is i) (c.is i)) ∙ children_less at j k b.rest c.rest h

-- a lower root is below
pub root_less : (v o : Address) → root_number v.root < root_number o.root → address_cmp v o ≡ Less
unfolding address_cmp
root_less v o h =
    ap (λ r. ordering_then r (ordering_then (nat_cmp v.number o.number)
    (slice_cmp nat_cmp v.positions o.positions)))
    (lower (root_number v.root) (root_number o.root) h)

-- ---- lists of addresses

-- each is below the address
abbrev pub Before : List Address → Address → Type 0
Before vs o = All (λ v. address_cmp v o ≡ Less) vs

-- each is below each
abbrev pub AllBefore : List Address → List Address → Type 0
AllBefore vs os = All (Before vs) os

pub none_before : (os : List Address) → AllBefore [] os
none_before [] = All-nil (Before [])
none_before (o ∷ os) =
    All-cons (Before []) o os (All-nil (λ v. address_cmp v o ≡ Less)) (none_before os)

pub both_before : (vs ws os : List Address) → AllBefore vs os → AllBefore ws os
    → AllBefore (vs ++ ws) os
both_before vs ws os h k =
    All-weaker (λ o. Before vs o × Before ws o) (Before (vs ++ ws))
    (λ o p. All-append (λ v. address_cmp v o ≡ Less) vs ws p.0 p.1) os
    (all_both (Before vs) (Before ws) os h k)
