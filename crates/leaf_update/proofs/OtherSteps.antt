-- Addresses gathered from leaves, and those that are not among them, one after another.
use Rattle.std.specs.Prelude.{◌≡◌, ◌<◌, ◌⊎◌, ℕ, nat_lt, Bool, true, false, cond, not, List, [], ◌∷◌, ◌++◌, Contains, Result, Ok, Err, flat_map, length, refl}
use Rattle.std.specs.Cmp.{tied_itself}
use Rattle.std.specs.List.Sorted.{IsBinarySearchResult, IsPartitionPoint, IsPermutation, IsSearchInRange, IsSorted}
use Rattle.std.specs.Result.{is_ok}
use Rattle.std.specs.declared.cmp.Ordering.{Ordering}
use Rattle.std.specs.declared.cmp.Ordering.TheVariants.{Less, Equal, Greater}
use Rattle.std.proofs.Common.{inl, inr, append_assoc, arith, get_or, sym, ◌∙◌, ap}
use Rattle.std.proofs.lemmas.Bool.{false_from_ne_true, ltb-false, ltb-true}
use Rattle.std.proofs.lemmas.Bool.Decides.{same_from_decides}
use Rattle.std.proofs.lemmas.List.{append-nil, map-append}
use Rattle.std.proofs.lemmas.List.Sorted.{Contains-permutation, IsPermutation-sym, searchable_from_sorted}
use Rattle.aff_core.specs.Address.{Address, address_cmp, address_total, exact_addresses}
use Rattle.fresh_bridging.specs.Leaves.{leaf_variable, leaf_variables}
use Rattle.item_core.specs.declared.item.Body.TheVariants.{Free, Group}
use Rattle.item_core.specs.declared.item.Item.{Item}
use Rattle.leaf_update.specs.LeavesLaws.{among_contained, contains_among}
use Rattle.leaf_update.specs.Others.{among, others}
use Rattle.leaf_update.specs.Puts.{variables_as}
use Rattle.leaf_update.specs.Splice.{keys_of}
use Rattle.set_core.specs.declared.set.Set.{Set}
use Rattle.solver_store.specs.declared.leaf.LeafVar.{LeafVar}
use Rattle.solver_store.specs.declared.leaf.LeafVar.TheVariants as leaf

-- ---- the keys of items, one after another

pub next_keys : {X : Type 0} (f : Item → List (Address × X)) (left rest : List Item) (i : Item)
    (old new all : List Address) → left ≡ i ∷ rest → new ≡ old ++ keys_of (f i)
    → old ++ keys_of (flat_map f left) ≡ all → new ++ keys_of (flat_map f rest) ≡ all
next_keys f left rest i old new all next pushed so_far =
    ap (λ ks. ks ++ keys_of (flat_map f rest)) pushed
    ∙ append_assoc old (keys_of (f i)) (keys_of (flat_map f rest))
    ∙ ap (λ ks. old ++ ks) (sym (map-append (λ e. e.0) (f i) (flat_map f rest)))
    ∙ ap (λ is. old ++ keys_of (flat_map f is)) (sym next)
    ∙ so_far

pub all_keys : {X : Type 0} (f : Item → List (Address × X)) (left : List Item)
    (made all : List Address) → left ≡ [] → made ++ keys_of (flat_map f left) ≡ all → made ≡ all
all_keys f left made all none so_far =
    sym (append-nil made) ∙ ap (λ is. made ++ keys_of (flat_map f is)) (sym none) ∙ so_far

pub their_keys : (var : LeafVar) (vars : List Address) → keys_of (variables_as var vars) ≡ vars
their_keys var [] = refl
their_keys var (v ∷ vars) = ap (λ vs. v ∷ vs) (their_keys var vars)

-- ---- addresses in their order

-- keys in another order are looked for alike
pub same_among : (keys sorted : List Address) → IsPermutation keys sorted
    → among sorted ≡ among keys
same_among keys sorted moved = λ i at. alike at i
  where
    alike : (at : Address) → among sorted at ≡ among keys at
    alike at =
        same_from_decides (among sorted at) (among keys at)
        ((λ t. contains_among at sorted t), (λ h. among_contained at sorted h)) (
          (λ t. Contains-permutation keys sorted at moved (contains_among at keys t)),
          (λ h. among_contained at keys
              (Contains-permutation sorted keys at (IsPermutation-sym keys sorted moved) h)),
        )

pub searched : (us : List Address) (at : Address) (r : Result ℕ ℕ) → IsSorted address_cmp us
    → IsSearchInRange r (length us) → IsBinarySearchResult (λ u. address_cmp u at) us r
    → is_ok r ≡ among us at
searched us at (Ok i) up range equal =
    sym (among_contained at us (i, range, exact_addresses (get_or us i at) at (equal at)))
searched us at (Err i) up range parted =
    sym (false_from_ne_true (among us at) (λ t. absent (contains_among at us t)))
  where
    parts : IsPartitionPoint (λ u. address_cmp u at ≡ Less) (λ u. address_cmp u at ≡ Greater) us i
    parts = parted (searchable_from_sorted address_total (λ u. u) us at up)

    apart : (r : Ordering) (u : Address) → address_cmp u at ≡ r → ¬ (r ≡ Equal) → ¬ (u ≡ at)
    apart r u is n e = n (sym is ∙ ap (λ w. address_cmp w at) e ∙ tied_itself address_total at)

    by_side : (k : ℕ) → k < length us → get_or us k at ≡ at → (b : Bool) → nat_lt k i ≡ b → ⊥
    by_side k lt is true t =
        apart Less (get_or us k at) (parts.0 k at (omega arith) (ltb-true k i t)) (λ e. cc) is
    by_side k lt is false t =
        apart Greater (get_or us k at) (parts.1 k at (ltb-false k i t) lt) (λ e. cc) is

    absent : ¬ (Contains us at)
    absent (k, lt, is) = by_side k lt is (nat_lt k i) refl

-- ---- those that are not among them

-- what is next is pushed where it isn't found
pub other_left : (keys left rest : List Address) (at : Address) (found : Bool)
    (old new all : List Address) → left ≡ at ∷ rest → found ≡ among keys at
    → (found ≡ true → new ≡ old) → (found ≡ false → new ≡ old ++ at ∷ [])
    → old ++ others keys left ≡ all → new ++ others keys rest ≡ all
other_left keys left rest at found old new all next is there absent so_far =
    by found is there absent ∙ ap (λ ks. old ++ others keys ks) (sym next) ∙ so_far
  where
    by : (b : Bool) → b ≡ among keys at → (b ≡ true → new ≡ old)
        → (b ≡ false → new ≡ old ++ at ∷ [])
        → new ++ others keys rest ≡ old ++ others keys (at ∷ rest)
    by true s t a =
        ap (λ ks. ks ++ others keys rest) (t refl)
        ∙ ap (λ b. old ++ cond (not b) (at ∷ others keys rest) (others keys rest)) s
    by false s t a =
        ap (λ ks. ks ++ others keys rest) (a refl)
        ∙ append_assoc old (at ∷ []) (others keys rest)
        ∙ ap (λ b. old ++ cond (not b) (at ∷ others keys rest) (others keys rest)) s

-- ---- what a leaf has

group_keys : (i : Item) (set : Set) (vars : List Address) → i.body ≡ Group set vars
    → vars ≡ keys_of (leaf_variables i)
group_keys i set vars e =
    sym (ap (λ b. keys_of (leaf_variables (record { at = i.at; body = b }))) e
    ∙ their_keys (leaf_variable set) vars)

free_keys : (i : Item) (vars : List Address) → i.body ≡ Free vars
    → vars ≡ keys_of (leaf_variables i)
free_keys i vars e =
    sym (ap (λ b. keys_of (leaf_variables (record { at = i.at; body = b }))) e
    ∙ their_keys leaf.Free vars)

pub leaf_keys : (i : Item) (vars : List Address)
    → ((set : Set) × (i.body ≡ Group set vars)) ⊎ (i.body ≡ Free vars)
    → vars ≡ keys_of (leaf_variables i)
leaf_keys i vars (inl g) = group_keys i g.0 vars g.1
leaf_keys i vars (inr e) = free_keys i vars e
