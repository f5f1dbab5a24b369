-- What is where: a point of a model has its numbers at the variables, one after another.
use Rattle.std.specs.Prelude.{◌≡◌, ◌≢◌, ◌+◌, ◌<◌, List, [], ◌∷◌, All, length, map, refl}
use Rattle.std.specs.List.{IsDistinct}
use Rattle.std.proofs.Common.{sym, ◌∙◌, ap, ap₂, arith}
use Rattle.std.proofs.lemmas.List.{length-append, length-map, map-append}
use Rattle.std.proofs.lemmas.List.Elements.{All-cons, All-head, All-nil, All-tail}
use Rattle.std.proofs.lemmas.Map.Made.{IsDistinct-from_AllPairs}
use Rattle.map_laws.specs.EachLaws.{cons_head, cons_tail}
use Rattle.map_laws.specs.PairLaws.{AllPairs-map}
use Rattle.ratio_core.specs.Rational.{Rational}
use Rattle.numbered_list.specs.Numbered.{Rise}
use Rattle.aff_core.specs.Address.{Address, address_eq, address_eq-Decides}
use Rattle.aff_core.specs.Points.{spread}
use Rattle.linear_laws.specs.PointLaws.{spread_at}
use Rattle.group_numbering.specs.PlaceLaws.{joined_alike}
use Rattle.user_model.specs.declared.group.Group.{Group}
use Rattle.user_model.specs.declared.group.GroupVar.{GroupVar}
use Rattle.user_model.specs.Consistent.{variable_number}
use Rattle.certificates.specs.Points.{address_of, addresses_of, all_addresses, variables_of}
use Rattle.certificates.specs.PointLaws.{split_addresses}
use Rattle.dual_parts.specs.GroupPartLaws.{length-shifts_on}
use Rattle.dual_parts.specs.Parts.{shifts_on}
use Rattle.dual_model.specs.DualOf.{bound_numbers}
use Rattle.dual_model.specs.GroupRowLaws.{HasGroupSetOf}

-- ---- lists joined

-- functions that are equal along a list are so at each item
pub each_same : {X Y : Type 0} (f h : X → Y) (xs : List X) → map f xs ≡ map h xs
    → All (λ x. f x ≡ h x) xs
each_same f h [] e = All-nil (λ x. f x ≡ h x)
each_same f h (x ∷ xs) e =
    All-cons (λ x. f x ≡ h x) x xs (cons_head (f x) (h x) (map f xs) (map h xs) e)
    (each_same f h xs (cons_tail (f x) (h x) (map f xs) (map h xs) e))

-- ---- the variables of a model

abbrev OtherNumber : GroupVar → GroupVar → Type 0
OtherNumber v w = v.number < w.number

other_address : (v w : GroupVar) → v.number < w.number → address_of v ≢ address_of w
other_address v w h e =
    let same : v.number ≡ w.number = ap (λ (a : Address). a.number) e in absurd (omega (arith, h, same))

pub rising_apart : (vars : List GroupVar) → Rise variable_number vars
    → IsDistinct address_eq (addresses_of vars)
rising_apart vars rise =
    IsDistinct-from_AllPairs address_eq-Decides (addresses_of vars)
    (AllPairs-map (λ a b. a ≢ b) address_of OtherNumber vars other_address rise.rising)

-- a point of groups has its numbers at their variables
pub point_at : (groups : List Group) (v : List Rational)
    → Rise variable_number (variables_of groups) → length v ≡ length (all_addresses groups)
    → map (spread (all_addresses groups) v) (all_addresses groups) ≡ v
point_at groups v rise e =
    spread_at (all_addresses groups) v (rising_apart (variables_of groups) rise) (sym e)

-- ---- the bounds of groups

size_of_shifts : (g : Group)
    → shifts_on g.set (length g.vars) ≡ shifts_on g.set (length (addresses_of g.vars))
size_of_shifts g = ap (shifts_on g.set) (sym (length-map g.vars address_of))

pub length-bound_numbers : (groups : List Group) → All HasGroupSetOf groups
    → length (bound_numbers groups) ≡ length (all_addresses groups)
length-bound_numbers [] sets = refl
length-bound_numbers (g ∷ groups) sets =
    length-append (shifts_on g.set (length g.vars)) (bound_numbers groups)
    ∙ ap₂ ◌+◌ (ap length (size_of_shifts g) ∙ length-shifts_on (length (addresses_of g.vars)) g.set
    (All-head HasGroupSetOf g groups sets))
    (length-bound_numbers groups (All-tail HasGroupSetOf g groups sets))
    ∙ sym (length-append (addresses_of g.vars) (all_addresses groups))
    ∙ ap length (sym (split_addresses g groups))

pub each_shift : (at : Address → Rational) (groups : List Group) → All HasGroupSetOf groups
    → map at (all_addresses groups) ≡ bound_numbers groups
    → All (λ g. map at (addresses_of g.vars)
    ≡ shifts_on g.set (length (addresses_of g.vars))) groups
each_shift at [] sets e =
    All-nil (λ (g : Group). map at (addresses_of g.vars)
    ≡ shifts_on g.set (length (addresses_of g.vars)))
each_shift at (g ∷ groups) sets e =
    let vs : List Address = addresses_of g.vars in
    let size = length-shifts_on (length vs) g.set (All-head HasGroupSetOf g groups sets) in
    let both = joined_alike (map at vs) (map at (all_addresses groups))
    (shifts_on g.set (length g.vars)) (bound_numbers groups)
    (length-map vs at ∙ sym (ap length (size_of_shifts g) ∙ size))
    (sym (map-append at vs (all_addresses groups)) ∙ ap (map at) (sym (split_addresses g groups))
    ∙ e) in
    All-cons (λ (g : Group). map at (addresses_of g.vars)
    ≡ shifts_on g.set (length (addresses_of g.vars))) g groups (both.0 ∙ size_of_shifts g)
    (each_shift at groups (All-tail HasGroupSetOf g groups sets) both.1)
