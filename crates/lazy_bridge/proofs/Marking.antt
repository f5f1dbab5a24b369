-- Variables marked one after another.
use Rattle.std.specs.Prelude.{◌≡◌, ◌+◌, ◌<◌, ℕ, Bool, true, false, cond, List, [], ◌∷◌, ◌++◌, Option, Some, None, is_some, length, map, take, refl}
use Rattle.std.specs.FinMap as finite
use Rattle.std.specs.FinMap.Entries.{find}
use Rattle.std.proofs.Common.{get_or, sym, ap, ◌∙◌, true≢false}
use Rattle.std.proofs.lemmas.List.{take_more}
use Rattle.address_map.specs.Noted.{AddressSet, with_item}
use Rattle.aff_core.specs.Address.{Address, address_cmp, address_eq, address_eq-Decides, address_total, exact_addresses}
use Rattle.lazy_bridge.specs.Mentioned.{marks_of}

abbrev there : Option (Unit {0})
there = Some tt

-- ---- a variable that is marked already

marked_again : (marks : AddressSet) (var : Address) → is_some (finite.get marks var) ≡ true
    → marks ≡ with_item marks var
marked_again marks var is_there =
    finite.same_map address_total exact_addresses marks (with_item marks var)
    (λ v. by v (address_eq v var) refl ∙ sym (finite.get-insert address_total marks var tt v))
  where
    given : (o : Option (Unit {0})) → is_some o ≡ true → o ≡ there
    given None e = absurd (true≢false (sym e))
    given (Some u) e = refl

    by : (v : Address) (b : Bool) → address_eq v var ≡ b
        → finite.get marks v ≡ cond b there (finite.get marks v)
    by v true e = ap (finite.get marks) ((address_eq-Decides v var).0 e) ∙ given _ is_there
    by v false e = refl

pub marked_before : (marks : AddressSet) (var : Address) (answer : Bool)
    → answer ≡ is_some (finite.get marks var) → answer ≡ true → marks ≡ with_item marks var
marked_before marks var answer is true_here = marked_again marks var (sym is ∙ true_here)

-- ---- one more

swapped : (a b : Bool) (o : Option (Unit {0}))
    → cond a there (cond b there o) ≡ cond b there (cond a there o)
swapped true true o = refl
swapped true false o = refl
swapped false b o = refl

abbrev entries_of : List Address → List (Address × Unit {0})
entries_of vars = map (λ v. (v, tt)) vars

found_more : (v var : Address) (vars : List Address)
    → find address_cmp v (entries_of (vars ++ var ∷ []))
    ≡ cond (address_eq v var) there (find address_cmp v (entries_of vars))
found_more v var [] = refl
found_more v var (u ∷ vars) =
    ap (λ (o : Option (Unit {0})). cond (address_eq v u) there o) (found_more v var vars)
    ∙ swapped (address_eq v u) (address_eq v var) (find address_cmp v (entries_of vars))

marks_more : (vars : List Address) (var : Address)
    → with_item (marks_of vars) var ≡ marks_of (vars ++ var ∷ [])
marks_more vars var =
    finite.same_map address_total exact_addresses (with_item (marks_of vars) var)
    (marks_of (vars ++ var ∷ []))
    (λ v. finite.get-insert address_total (marks_of vars) var tt v
    ∙ ap (λ (o : Option (Unit {0})). cond (address_eq v var) there o)
    (finite.get-from_entries address_total (entries_of vars) v)
    ∙ sym (finite.get-from_entries address_total (entries_of (vars ++ var ∷ [])) v
    ∙ found_more v var vars))

-- the first of some, and the next
pub marked_more : (all : List Address) (now after : AddressSet) (n : ℕ) (var : Address)
    → n < length all → var ≡ get_or all n var → now ≡ marks_of (take n all)
    → after ≡ with_item now var → after ≡ marks_of (take (n + 1) all)
marked_more all now after n var here is so_far next =
    next
    ∙ ap (λ s. with_item s var) so_far
    ∙ marks_more (take n all) var
    ∙ ap (λ v. marks_of (take n all ++ v ∷ [])) is
    ∙ ap marks_of (sym (take_more all n var here))
