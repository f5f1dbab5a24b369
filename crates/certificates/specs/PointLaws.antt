-- Laws of points: what stands at the variables and elsewhere, sums and multiples of points, and
-- that each variable stands once.
use Rattle.std.specs.Prelude.{◌≡◌, ℕ, ◌<◌, Bool, true, false, cond, List, [], ◌∷◌, ◌++◌, length, All, refl}
use Rattle.std.proofs.Common.{sym, ◌∙◌, ap, ap₂, subst, arith}
use Rattle.std.proofs.lemmas.List.{map-append}
use Rattle.std.proofs.lemmas.List.Elements.{All-cons, All-head, All-map, All-nil, All-tail, All-weaker}
use Rattle.ratio_core.specs.Rational.{Rational, one_ℚ, zero_ℚ, ◌*ℚ◌, ◌+ℚ◌}
use Rattle.rational_laws.specs.Dot.{plus, times}
use Rattle.rational_laws.specs.Field.{*ℚ-zero, +ℚ-zero, zero-+ℚ}
use Rattle.aff_core.specs.Address.{Address, address_eq, address_eq-Decides}
use Rattle.aff_core.specs.Points.{spread}
use Rattle.linear_laws.specs.SupportLaws.{count}
use Rattle.linear_laws.specs.UnitLaws.{unit_other, unit_same}
use Rattle.numbered_list.specs.Laws.{Rise-head, Rise-tail}
use Rattle.numbered_list.specs.Numbered.{Rise}
use Rattle.user_model.specs.declared.group.Group.{Group}
use Rattle.user_model.specs.declared.group.GroupVar.{GroupVar}
use Rattle.user_model.specs.Consistent.{variable_number}
use Rattle.user_model.specs.Model.{variable_address}
use Rattle.certificates.specs.Points.{address_of, addresses_of, all_addresses, variables_of}

-- the first group's addresses, and then those of the others
pub split_addresses : (g : Group) (gs : List Group)
    → all_addresses (g ∷ gs) ≡ addresses_of g.vars ++ all_addresses gs
split_addresses g gs = map-append address_of g.vars (variables_of gs)

-- ---- what stands where

-- an address is one of the list's, of which each has P, or the point is 0 there
pub spread_cases : (C : Type 0) (P : Address → Type 0) (us : List Address) (x : List Rational)
    (v : Address) → All P us → (P v → C) → (spread us x v ≡ zero_ℚ → C) → C
spread_cases C P [] x v h here elsewhere = elsewhere refl
spread_cases C P (a ∷ us) [] v h here elsewhere = elsewhere refl
spread_cases C P (a ∷ us) (q ∷ x) v h here elsewhere =
    by_test (λ k. spread_cases C P us x v (All-tail P a us h) here k) (address_eq v a) refl
  where
    by_test : ((spread us x v ≡ zero_ℚ → C) → C) → (b : Bool) → address_eq v a ≡ b → C
    by_test rest true e = here (subst P (sym ((address_eq-Decides v a).0 e)) (All-head P a us h))
    by_test rest false e = rest (λ k. elsewhere (ap (λ b. cond b q (spread us x v)) e ∙ k))

pub spread-plus : (us : List Address) (x y : List Rational) (v : Address) → length x ≡ length us
    → length y ≡ length us → spread us (plus x y) v ≡ spread us x v +ℚ spread us y v
spread-plus [] x y v e k = sym (zero-+ℚ zero_ℚ)
spread-plus (a ∷ us) [] y v e k = absurd (omega (arith, e))
spread-plus (a ∷ us) (p ∷ x) [] v e k = absurd (omega (arith, k))
spread-plus (a ∷ us) (p ∷ x) (q ∷ y) v e k =
    by_test (spread-plus us x y v (omega (arith, e)) (omega (arith, k))) (address_eq v a)
  where
    by_test : spread us (plus x y) v ≡ spread us x v +ℚ spread us y v → (b : Bool)
        → cond b (p +ℚ q) (spread us (plus x y) v)
        ≡ cond b p (spread us x v) +ℚ cond b q (spread us y v)
    by_test rest true = refl
    by_test rest false = rest

pub spread-times : (us : List Address) (t : Rational) (x : List Rational) (v : Address)
    → spread us (times t x) v ≡ t *ℚ spread us x v
spread-times [] t x v = sym (*ℚ-zero t)
spread-times (a ∷ us) t [] v = sym (*ℚ-zero t)
spread-times (a ∷ us) t (q ∷ x) v = by_test (spread-times us t x v) (address_eq v a)
  where
    by_test : spread us (times t x) v ≡ t *ℚ spread us x v → (b : Bool)
        → cond b (t *ℚ q) (spread us (times t x) v) ≡ t *ℚ cond b q (spread us x v)
    by_test rest true = refl
    by_test rest false = rest

-- ---- each variable stands once

abbrev number_part : Address → ℕ
number_part a = a.number

other_address : (m n : ℕ) → m < n → ¬ (variable_address n ≡ variable_address m)
other_address m n h e = let same : n ≡ m = ap number_part e in absurd (omega (arith, same, h))

abbrev IsAfter : ℕ → GroupVar → Type 0
IsAfter n w = n < w.number

count_none : (n : ℕ) (vars : List GroupVar) → All (IsAfter n) vars
    → count (addresses_of vars) (variable_address n) ≡ zero_ℚ
count_none n [] h = refl
count_none n (w ∷ vars) h =
    ap₂ ◌+ℚ◌
    (unit_other (address_of w) (variable_address n)
    (other_address n w.number (All-head (IsAfter n) w vars h)))
    (count_none n vars (All-tail (IsAfter n) w vars h))
    ∙ +ℚ-zero zero_ℚ

abbrev StandsOnce : List GroupVar → GroupVar → Type 0
StandsOnce vars w = count (addresses_of vars) (address_of w) ≡ one_ℚ

once : (vars : List GroupVar) → Rise variable_number vars → All (StandsOnce vars) vars
once [] rise = All-nil (StandsOnce [])
once (v ∷ vars) rise = All-cons (StandsOnce (v ∷ vars)) v vars here
    (later (once vars (Rise-tail variable_number v vars rise)))
  where
    first : All (IsAfter v.number) vars
    first = Rise-head variable_number v vars rise

    here : StandsOnce (v ∷ vars) v
    here = ap₂ ◌+ℚ◌ (unit_same (address_of v)) (count_none v.number vars first) ∙ +ℚ-zero one_ℚ

    one_more : (w : GroupVar) → IsAfter v.number w × StandsOnce vars w → StandsOnce (v ∷ vars) w
    one_more w p =
        ap₂ ◌+ℚ◌ (unit_other (address_of v) (address_of w)
        (λ e. other_address v.number w.number p.0 (sym e))) p.1 ∙ zero-+ℚ one_ℚ

    later : All (StandsOnce vars) vars → All (StandsOnce (v ∷ vars)) vars
    later rest = All-weaker (λ w. IsAfter v.number w × StandsOnce vars w) (StandsOnce (v ∷ vars))
        one_more vars (λ k d end. (first k d end, rest k d end))

pub each_once : (vars : List GroupVar) → Rise variable_number vars
    → All (λ v. count (addresses_of vars) v ≡ one_ℚ) (addresses_of vars)
each_once vars rise =
    All-map (λ v. count (addresses_of vars) v ≡ one_ℚ) address_of vars (once vars rise)
