-- The places of addresses in a list that ascends, and the numbers that stand at them.
use Rattle.std.specs.Prelude.{◌≡◌, ℕ, zero, suc, ◌+◌, ◌<◌, nat_lt, Bool, true, false, cond, List, [], ◌∷◌, map, length, Contains, Option, Some, None, IfSome, Result, Ok, Err, slice_get, refl}
use Rattle.std.specs.Cmp.{eq_by_cmp_equiv, tied_itself}
use Rattle.std.specs.List.{AllByRecursion, IsDistinct}
use Rattle.std.specs.List.Sorted.{IsBinarySearchResult, IsPartitionPoint, IsSearchInRange, IsSortedBy}
use Rattle.std.specs.Ordering.{is_lt, ordering_reverse, ordering_then}
use Rattle.std.specs.Result.{result_ok}
use Rattle.std.specs.declared.cmp.Ordering.{Ordering}
use Rattle.std.specs.declared.cmp.Ordering.TheVariants.{Less, Equal, Greater}
use Rattle.std.proofs.Common.{sym, ◌∙◌, ap, ap₂, subst, arith, get_or, set}
use Rattle.std.proofs.lemmas.Bool.{ltb-false, ltb-true}
use Rattle.std.proofs.lemmas.List.Sorted.{searchable_from_sorted}
use Rattle.std.proofs.lemmas.Map.Keys.{IsDistinct-head, IsDistinct-tail}
use Rattle.std.proofs.lemmas.Map.Made.{IsDistinct-from_AllPairs}
use Rattle.std.proofs.lemmas.Option.{get_or_from_slice_get, slice_get-get_or, slice_get_within}
use Rattle.map_laws.specs.PairLaws.{AllPairs-map}
use Rattle.map_laws.specs.TestLaws.{less_number}
use Rattle.ratio_core.specs.Rational.{Rational, zero_ℚ}
use Rattle.numbered_list.specs.Numbered.{Rise}
use Rattle.aff_core.specs.Address.{Address, address_cmp, address_eq, address_eq-Decides, address_total, exact_addresses}
use Rattle.aff_core.specs.KeyOrder.{address_order, other_key, same_key}
use Rattle.aff_core.specs.Points.{spread}
use Rattle.user_model.specs.declared.group.GroupVar.{GroupVar}
use Rattle.user_model.specs.Consistent.{variable_number}
use Rattle.user_model.specs.Model.{variable_address}
use Rattle.certificates.specs.Points.{address_of, addresses_of}
use Rattle.cert_core.specs.Variables.{Ascend, IsVariablePlace}

-- ---- variables whose numbers rise have addresses that ascend

less_address : (m n : ℕ) → m < n → address_cmp (variable_address m) (variable_address n) ≡ Less
unfolding address_cmp
less_address m n h = ap (λ o. ordering_then o Equal) (less_number m n h)

abbrev IsBelow : Address → Address → Type 0
IsBelow u w = address_cmp u w ≡ Less

pub ascend : (vars : List GroupVar) → Rise variable_number vars → Ascend (addresses_of vars)
ascend vars rise = record {
  ascending =
      AllPairs-map IsBelow address_of (λ (v w : GroupVar). v.number < w.number) vars
      (λ v w less. less_address v.number w.number less) rise.rising;
}

less_apart : (a b : Address) → address_cmp a b ≡ Less → ¬ (a ≡ b)
less_apart a b h e =
    let same : address_cmp a a ≡ Equal = tied_itself address_total a in
    let less : address_cmp a a ≡ Less = subst (λ c. address_cmp a c ≡ Less) (sym e) h in cc

pub distinct : (us : List Address) → Ascend us → IsDistinct address_eq us
distinct us up = IsDistinct-from_AllPairs address_eq-Decides us (λ i j d h lt.
    less_apart (get_or us i d) (get_or us j d) (up.ascending i j d h lt))

-- ---- what a search answers

sorted : (us : List Address) → Ascend us → IsSortedBy (λ a b. is_lt (address_cmp a b)) us
sorted us up = λ k d low lt.
    ap is_lt (address_total.antisymm (get_or us (k + 1) d) (get_or us k d)
    ∙ ap ordering_reverse (up.ascending k (k + 1) d (omega arith) lt))

pub searched : (us : List Address) (at : Address) (r : Result ℕ ℕ) → Ascend us
    → IsSearchInRange r (length us) → IsBinarySearchResult (λ u. address_cmp u at) us r
    → IsVariablePlace us at (result_ok r)
searched us at (Ok i) up range equal =
    slice_get-get_or us i at range
    ∙ ap Some (exact_addresses (get_or us i at) at (equal at))
searched us at (Err i) up range parted =
    let parts = parted (searchable_from_sorted address_total (λ u. u) us at (sorted us up)) in
    λ (k, lt, is). by_side parts k lt is (nat_lt k i) refl
  where
    apart : (r : Ordering) (u : Address) → address_cmp u at ≡ r → ¬ (r ≡ Equal) → ¬ (u ≡ at)
    apart r u is n e = n (sym is ∙ ap (λ w. address_cmp w at) e ∙ tied_itself address_total at)

    by_side : IsPartitionPoint (λ u. address_cmp u at ≡ Less) (λ u. address_cmp u at ≡ Greater) us i
        → (k : ℕ) → k < length us → get_or us k at ≡ at → (b : Bool) → nat_lt k i ≡ b → ⊥
    by_side parts k lt is true t =
        apart Less (get_or us k at) (parts.0 k at (omega arith) (ltb-true k i t)) (λ e. cc) is
    by_side parts k lt is false t =
        apart Greater (get_or us k at) (parts.1 k at (ltb-false k i t) lt) (λ e. cc) is

-- ---- a point at a place

-- an address that differs from all of a list differs from the one at a place
other : (a v : Address) (us : List Address) (i : ℕ)
    → AllByRecursion (λ u. address_eq a u ≡ false) us
    → slice_get us i ≡ Some v → address_eq v a ≡ false
other a v [] i apart is = cc
other a v (u ∷ us) zero apart is =
    let same : u ≡ v = cc in
    ap (λ w. address_eq w a) (sym same) ∙ (eq_by_cmp_equiv address_total).symm u a ∙ apart.0
other a v (u ∷ us) (suc i) apart is = other a v us i apart.1 is

pub spread_place : (us : List Address) (x : List Rational) (i : ℕ) (v : Address)
    → IsDistinct address_eq us → slice_get us i ≡ Some v → spread us x v ≡ get_or x i zero_ℚ
spread_place [] x i v d is = cc
spread_place (a ∷ us) [] i v d is = refl
spread_place (a ∷ us) (q ∷ x) zero v d is =
    ap (λ b. cond b q (spread us x v))
    (ap (λ w. address_eq v w) a_is ∙ same_key address_order v)
  where
    a_is : a ≡ v
    a_is = cc
spread_place (a ∷ us) (q ∷ x) (suc i) v d is =
    ap (λ b. cond b q (spread us x v)) (other a v us i (IsDistinct-head address_eq a us d) is)
    ∙ spread_place us x i v (IsDistinct-tail address_eq a us d) is

first_differs : (a : Address) (us : List Address) (v : Address)
    → ¬ (Contains (a ∷ us) v) → ¬ (v ≡ a)
first_differs a us v none e = none (0, omega arith, sym e)

rest_lacks : (a : Address) (us : List Address) (v : Address) → ¬ (Contains (a ∷ us) v)
    → ¬ (Contains us v)
rest_lacks a us v none = λ (k, lt, is). none (suc k, omega (arith, lt), is)

pub spread_nowhere : (us : List Address) (x : List Rational) (v : Address) → ¬ (Contains us v)
    → spread us x v ≡ zero_ℚ
spread_nowhere [] x v none = refl
spread_nowhere (a ∷ us) [] v none = refl
spread_nowhere (a ∷ us) (q ∷ x) v none =
    ap (λ b. cond b q (spread us x v)) (other_key address_order v a (first_differs a us v none))
    ∙ spread_nowhere us x v (rest_lacks a us v none)

-- ---- sums, one for each address

pub set_at_place : (us : List Address) (y : Address → Rational) (i : ℕ) (v : Address)
    (q : Rational) → IsDistinct address_eq us → slice_get us i ≡ Some v
    → set (map y us) i q ≡ map (λ u. cond (address_eq u v) q (y u)) us
set_at_place [] y i v q d is = cc
set_at_place (a ∷ us) y zero v q d is =
    let same : a ≡ v = cc in
    ap₂ ◌∷◌
    (ap (λ b. cond b q (y a)) (sym (ap (λ w. address_eq w v) same ∙ same_key address_order v)))
    (others us (IsDistinct-head address_eq a us d) same)
  where
    others : (us : List Address) → AllByRecursion (λ u. address_eq a u ≡ false) us → a ≡ v
        → map y us ≡ map (λ u. cond (address_eq u v) q (y u)) us
    others [] apart same = refl
    others (u ∷ us) apart same =
        ap₂ ◌∷◌ (ap (λ b. cond b q (y u)) (sym (ap (λ w. address_eq u w) (sym same)
        ∙ (eq_by_cmp_equiv address_total).symm u a ∙ apart.0))) (others us apart.1 same)
set_at_place (a ∷ us) y (suc i) v q d is =
    ap₂ ◌∷◌
    (ap (λ b. cond b q (y a)) (sym ((eq_by_cmp_equiv address_total).symm a v
    ∙ other a v us i (IsDistinct-head address_eq a us d) is)))
    (set_at_place us y i v q (IsDistinct-tail address_eq a us d) is)

pub none_at_place : (us : List Address) (y : Address → Rational) (v : Address) (q : Rational)
    → ¬ (Contains us v) → map y us ≡ map (λ u. cond (address_eq u v) q (y u)) us
none_at_place [] y v q none = refl
none_at_place (a ∷ us) y v q none =
    ap₂ ◌∷◌
    (ap (λ b. cond b q (y a)) (sym (other_key address_order a v
    (λ e. first_differs a us v none (sym e)))))
    (none_at_place us y v q (rest_lacks a us v none))

-- ---- places

pub stands_there : (us : List Address) (i : ℕ) (v : Address) → slice_get us i ≡ Some v
    → v ≡ get_or us i v
stands_there us i v is = sym (get_or_from_slice_get us i v v is)

pub stands : (us : List Address) (i : ℕ) (v : Address) → slice_get us i ≡ Some v → Contains us v
stands us i v is = (i, slice_get_within us i v is, get_or_from_slice_get us i v v is)

pub places_below : (us : List Address) (at : Address) (place : Option ℕ)
    → IsVariablePlace us at place → IfSome place (λ i. i < length us)
places_below us at (Some i) is = slice_get_within us i at is
places_below us at None none = tt
