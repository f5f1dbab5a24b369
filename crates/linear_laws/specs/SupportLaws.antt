-- Lists in which each of some addresses stands once, so that sums of several functions can be made
-- over one list.
use Rattle.std.specs.Prelude.{◌≡◌, Bool, true, false, cond, List, [], ◌∷◌, ◌++◌, All, refl}
use Rattle.std.specs.Ordering.{eq_by_cmp}
use Rattle.std.proofs.Common.{sym, ◌∙◌, ap, ap₂, subst, true≢false}
use Rattle.std.proofs.lemmas.List.Elements.{All-cons, All-head, All-nil, All-tail, All-weaker}
use Rattle.ratio_core.specs.Rational.{Rational, one_ℚ, zero_ℚ, ◌+ℚ◌}
use Rattle.rational_laws.specs.Field.{+ℚ-zero, zero-+ℚ}
use Rattle.rational_laws.specs.Sums.{sum_by_ℚ}
use Rattle.aff_core.specs.Address.{Address, address_cmp, address_eq-Decides}
use Rattle.aff_core.specs.Points.{unit}
use Rattle.linear_laws.specs.UnitLaws.{same_or_other, unit_other, unit_same}

-- how often an address stands in the list
abbrev pub count : List Address → Address → Rational
count us w = sum_by_ℚ (λ u. unit u w) us

-- each of the addresses stands in the list once
abbrev pub Supports : List Address → List Address → Type 0
Supports us vs = All (λ w. count us w ≡ one_ℚ) vs

abbrev pub without : Address → List Address → List Address
without v [] = []
without v (u ∷ us) = cond (eq_by_cmp address_cmp v u) (without v us) (u ∷ without v us)

abbrev pub support : List Address → List Address
support [] = []
support (v ∷ vs) = v ∷ without v (support vs)

count_without : (v w : Address) → ¬ (v ≡ w) → (us : List Address)
    → count (without v us) w ≡ count us w
count_without v w n [] = refl
count_without v w n (u ∷ us) = by_test (count_without v w n us) (eq_by_cmp address_cmp v u) refl
  where
    by_test : count (without v us) w ≡ count us w → (b : Bool) → eq_by_cmp address_cmp v u ≡ b
        → count (cond b (without v us) (u ∷ without v us)) w ≡ unit u w +ℚ count us w
    by_test rest true e =
        rest ∙ sym (zero-+ℚ (count us w))
        ∙ ap (λ q. q
        +ℚ count us w) (sym (unit_other u w (λ k. n ((address_eq-Decides v u).0 e ∙ k))))
    by_test rest false e = ap (λ q. unit u w +ℚ q) rest

count_gone : (v : Address) (us : List Address) → count (without v us) v ≡ zero_ℚ
count_gone v [] = refl
count_gone v (u ∷ us) = by_test (count_gone v us) (eq_by_cmp address_cmp v u) refl
  where
    other : eq_by_cmp address_cmp v u ≡ false → unit u v ≡ zero_ℚ
    other e = same_or_other (unit u v ≡ zero_ℚ) u v
        (λ k. absurd (true≢false (sym ((address_eq-Decides v u).1 (sym k)) ∙ e))) (unit_other u v)

    by_test : count (without v us) v ≡ zero_ℚ → (b : Bool) → eq_by_cmp address_cmp v u ≡ b
        → count (cond b (without v us) (u ∷ without v us)) v ≡ zero_ℚ
    by_test rest true e = rest
    by_test rest false e = ap₂ ◌+ℚ◌ (other e) rest ∙ +ℚ-zero zero_ℚ

pub support_supports : (vs : List Address) → Supports (support vs) vs
support_supports [] = All-nil (λ w. count [] w ≡ one_ℚ)
support_supports (v ∷ vs) =
    All-cons (λ w. count (support (v ∷ vs)) w ≡ one_ℚ) v vs here
    (All-weaker (λ w. count (support vs) w ≡ one_ℚ) (λ w. count (support (v ∷ vs)) w ≡ one_ℚ) later
    vs (support_supports vs))
  where
    here : count (support (v ∷ vs)) v ≡ one_ℚ
    here = ap₂ ◌+ℚ◌ (unit_same v) (count_gone v (support vs)) ∙ +ℚ-zero one_ℚ

    later : (w : Address) → count (support vs) w ≡ one_ℚ → count (support (v ∷ vs)) w ≡ one_ℚ
    later w h =
        same_or_other (count (support (v ∷ vs)) w ≡ one_ℚ) v w
        (λ e. subst (λ u. count (support (v ∷ vs)) u ≡ one_ℚ) e here)
        (λ n. ap₂ ◌+ℚ◌ (unit_other v w n) (count_without v w n (support vs) ∙ h) ∙ zero-+ℚ one_ℚ)

-- what supports two lists together supports each
pub supports_first : (us vs ws : List Address) → Supports us (vs ++ ws) → Supports us vs
supports_first us [] ws h = All-nil (λ w. count us w ≡ one_ℚ)
supports_first us (v ∷ vs) ws h =
    All-cons (λ w. count us w ≡ one_ℚ) v vs (All-head (λ w. count us w ≡ one_ℚ) v (vs ++ ws) h)
    (supports_first us vs ws (All-tail (λ w. count us w ≡ one_ℚ) v (vs ++ ws) h))

pub supports_second : (us vs ws : List Address) → Supports us (vs ++ ws) → Supports us ws
supports_second us [] ws h = h
supports_second us (v ∷ vs) ws h =
    supports_second us vs ws (All-tail (λ w. count us w ≡ one_ℚ) v (vs ++ ws) h)
