-- Slopes by coefficients: over any support, at points that agree, of sums and of compositions.
use Rattle.std.specs.Prelude.{◌≡◌, Bool, true, false, T, cond, List, [], ◌∷◌, ◌++◌, None, Some, map, unwrap_or, refl}
use Rattle.std.specs.Ordering.{eq_by_cmp}
use Rattle.std.specs.FinMap.{entries_sorted, find, get-entries, is_sorted}
use Rattle.std.specs.FinMap.Entries.{below_all}
use Rattle.std.proofs.Common.{sym, ◌∙◌, ap, ap₂, subst}
use Rattle.std.proofs.lemmas.List.Elements.{All-head, All-tail}
use Rattle.ratio_core.specs.Rational.{Rational, one_ℚ, zero_ℚ, ◌*ℚ◌, ◌+ℚ◌}
use Rattle.rational_laws.specs.Field.{*ℚ-one, *ℚ-zero, *ℚ_assoc, *ℚ_comm, +ℚ-zero, one-*ℚ, zero-*ℚ, zero-+ℚ, +ℚ-*ℚ}
use Rattle.rational_laws.specs.Sums.{sum_by_ℚ, sum_by_ℚ-*ℚ, sum_by_ℚ-*ℚ_right, sum_by_ℚ-+ℚ, sum_by_ℚ_same, sum_by_ℚ_zero}
use Rattle.map_laws.specs.EntryLaws.{find_below}
use Rattle.map_laws.specs.TestLaws.{first, second}
use Rattle.aff_core.specs.Address.{Address, address_cmp, address_eq-Decides}
use Rattle.aff_core.specs.Arithmetic.{IsComposition, IsSum}
use Rattle.aff_core.specs.Function.{Function, coefficient, slope, terms_of}
use Rattle.aff_core.specs.Points.{unit}
use Rattle.aff_core.specs.Terms.{linear}
use Rattle.linear_laws.specs.SupportLaws.{Supports, count, support, support_supports, supports_first, supports_second}
use Rattle.linear_laws.specs.UnitLaws.{same_or_other, unit_other, zero_or_other}

abbrev pub addresses : List (Address × Rational) → List Address
addresses ts = map (λ t. t.0) ts

-- ---- a coefficient is the slope at a unit point

picked : (a b : Rational) → b ≡ zero_ℚ → a *ℚ one_ℚ +ℚ b ≡ a
picked a b h = ap₂ ◌+ℚ◌ (*ℚ-one a) h ∙ +ℚ-zero a

passed : (a b : Rational) → a *ℚ zero_ℚ +ℚ b ≡ b
passed a b = ap (λ q. q +ℚ b) (*ℚ-zero a) ∙ zero-+ℚ b

linear-unit : (ts : List (Address × Rational)) (v : Address) → T (is_sorted address_cmp ts)
    → linear ts (unit v) ≡ unwrap_or (find address_cmp v ts) zero_ℚ
unfolding linear
linear-unit [] v s = refl
linear-unit (t ∷ ts) v s =
    by_test (linear-unit ts v (second _ _ s)) (eq_by_cmp address_cmp v t.0) refl
  where
    nowhere : v ≡ t.0 → find address_cmp v ts ≡ None
    nowhere e = find_below address_cmp v ts (subst (λ u. T (below_all address_cmp u ts)) (sym e)
        (first _ _ s))

    by_test : linear ts (unit v) ≡ unwrap_or (find address_cmp v ts) zero_ℚ → (b : Bool)
        → eq_by_cmp address_cmp v t.0 ≡ b
        → t.1 *ℚ cond b one_ℚ zero_ℚ +ℚ linear ts (unit v)
        ≡ unwrap_or (cond b (Some t.1) (find address_cmp v ts)) zero_ℚ
    by_test rest true e = picked t.1 (linear ts (unit v))
        (rest ∙ ap (λ o. unwrap_or o zero_ℚ) (nowhere ((address_eq-Decides v t.0).0 e)))
    by_test rest false e = passed t.1 (linear ts (unit v)) ∙ rest

pub coefficient_by_unit : (f : Function) (v : Address) → slope f (unit v) ≡ coefficient f v
coefficient_by_unit f v = linear-unit (terms_of f) v (entries_sorted f.terms)
    ∙ ap (λ o. unwrap_or o zero_ℚ) (sym (get-entries f.terms v))

-- ---- a slope is a sum over any support

at_address : (a : Rational) (u v : Address) (x : Address → Rational)
    → (a *ℚ unit u v) *ℚ x u ≡ unit u v *ℚ (a *ℚ x v)
at_address a u v x = same_or_other _ u v here there
  where
    here : u ≡ v → (a *ℚ unit u v) *ℚ x u ≡ unit u v *ℚ (a *ℚ x v)
    here e =
        ap (λ q. q *ℚ x u) (*ℚ_comm a (unit u v)) ∙ *ℚ_assoc (unit u v) a (x u)
        ∙ ap (λ w. unit u v *ℚ (a *ℚ x w)) e

    there : ¬ (u ≡ v) → (a *ℚ unit u v) *ℚ x u ≡ unit u v *ℚ (a *ℚ x v)
    there n =
        ap (λ q. (a *ℚ q) *ℚ x u) (unit_other u v n) ∙ ap (λ q. q *ℚ x u) (*ℚ-zero a)
        ∙ zero-*ℚ (x u)
        ∙ sym (zero-*ℚ (a *ℚ x v)) ∙ ap (λ q. q *ℚ (a *ℚ x v)) (sym (unit_other u v n))

term_over : (us : List Address) (a : Rational) (v : Address) (x : Address → Rational)
    → count us v ≡ one_ℚ → sum_by_ℚ (λ u. (a *ℚ unit u v) *ℚ x u) us ≡ a *ℚ x v
term_over us a v x h =
    sum_by_ℚ_same (λ u. (a *ℚ unit u v) *ℚ x u) (λ u. unit u v *ℚ (a *ℚ x v)) us
    (λ u. at_address a u v x)
    ∙ sum_by_ℚ-*ℚ_right (a *ℚ x v) (λ u. unit u v) us
    ∙ ap (λ q. q *ℚ (a *ℚ x v)) h ∙ one-*ℚ (a *ℚ x v)

linear_over : (us : List Address) (ts : List (Address × Rational)) (x : Address → Rational)
    → Supports us (addresses ts) → linear ts x ≡ sum_by_ℚ (λ u. linear ts (unit u) *ℚ x u) us
unfolding linear
linear_over us [] x h = sym (sum_by_ℚ_same (λ u. zero_ℚ *ℚ x u) (λ _. zero_ℚ) us
    (λ u. zero-*ℚ (x u)) ∙ sum_by_ℚ_zero us)
linear_over us (t ∷ ts) x h =
    ap₂ ◌+ℚ◌ (sym (term_over us t.1 t.0 x (All-head once t.0 (addresses ts) h)))
    (linear_over us ts x (All-tail once t.0 (addresses ts) h))
    ∙ sym (sum_by_ℚ-+ℚ (λ u. (t.1 *ℚ unit u t.0) *ℚ x u) (λ u. linear ts (unit u) *ℚ x u) us)
    ∙ sum_by_ℚ_same (λ u. (t.1 *ℚ unit u t.0) *ℚ x u +ℚ linear ts (unit u) *ℚ x u)
    (λ u. (t.1 *ℚ unit u t.0 +ℚ linear ts (unit u)) *ℚ x u) us
    (λ u. sym (+ℚ-*ℚ (t.1 *ℚ unit u t.0) (linear ts (unit u)) (x u)))
  where
    once : Address → Type 0
    once w = count us w ≡ one_ℚ

pub slope_over : (us : List Address) (f : Function) (x : Address → Rational)
    → Supports us (addresses (terms_of f)) → slope f x ≡ sum_by_ℚ (λ u. coefficient f u *ℚ x u) us
slope_over us f x h =
    linear_over us (terms_of f) x h
    ∙ sum_by_ℚ_same (λ u. slope f (unit u) *ℚ x u) (λ u. coefficient f u *ℚ x u) us
    (λ u. ap (λ q. q *ℚ x u) (coefficient_by_unit f u))

-- the addresses that a function mentions
abbrev pub mentioned : Function → List Address
mentioned f = addresses (terms_of f)

-- ---- points that agree

-- points that agree wherever the coefficient isn't 0 give equal slopes
pub slope_agreeing : (f : Function) (x y : Address → Rational)
    → ((v : Address) → ¬ (coefficient f v ≡ zero_ℚ) → x v ≡ y v) → slope f x ≡ slope f y
slope_agreeing f x y h =
    slope_over (support (mentioned f)) f x (support_supports (mentioned f))
    ∙ sum_by_ℚ_same (λ u. coefficient f u *ℚ x u) (λ u. coefficient f u *ℚ y u)
    (support (mentioned f)) term
    ∙ sym (slope_over (support (mentioned f)) f y (support_supports (mentioned f)))
  where
    term : (u : Address) → coefficient f u *ℚ x u ≡ coefficient f u *ℚ y u
    term u = zero_or_other _ (coefficient f u) (λ e. ap (λ q. q *ℚ x u) e ∙ zero-*ℚ (x u)
        ∙ sym (zero-*ℚ (y u)) ∙ ap (λ q. q *ℚ y u) (sym e))
        (λ n. ap (λ q. coefficient f u *ℚ q) (h u n))

-- ---- sums

slope_added : (us : List Address) (f g : Function) (x : Address → Rational)
    → Supports us (mentioned f) → Supports us (mentioned g)
    → sum_by_ℚ (λ u. (coefficient f u +ℚ coefficient g u) *ℚ x u) us ≡ slope f x +ℚ slope g x
slope_added us f g x a b =
    sum_by_ℚ_same (λ u. (coefficient f u +ℚ coefficient g u) *ℚ x u)
    (λ u. coefficient f u *ℚ x u +ℚ coefficient g u *ℚ x u) us
    (λ u. +ℚ-*ℚ (coefficient f u) (coefficient g u) (x u))
    ∙ sum_by_ℚ-+ℚ (λ u. coefficient f u *ℚ x u) (λ u. coefficient g u *ℚ x u) us
    ∙ ap₂ ◌+ℚ◌ (sym (slope_over us f x a)) (sym (slope_over us g x b))

pub slope_sum : (f g h : Function) → IsSum f g h → (x : Address → Rational)
    → slope h x ≡ slope f x +ℚ slope g x
slope_sum f g h s x =
    slope_over all h x (supports_first all (mentioned h) (mentioned f ++ mentioned g) each)
    ∙ sum_by_ℚ_same (λ u. coefficient h u *ℚ x u) (λ u. (coefficient f u +ℚ coefficient g u) *ℚ x u)
    all (λ u. ap (λ q. q *ℚ x u) (s.coefficients u))
    ∙ slope_added all f g x (supports_first all (mentioned f) (mentioned g) parts)
    (supports_second all (mentioned f) (mentioned g) parts)
  where
    all : List Address
    all = support (mentioned h ++ (mentioned f ++ mentioned g))

    each : Supports all (mentioned h ++ (mentioned f ++ mentioned g))
    each = support_supports (mentioned h ++ (mentioned f ++ mentioned g))

    parts : Supports all (mentioned f ++ mentioned g)
    parts = supports_second all (mentioned h) (mentioned f ++ mentioned g) each

-- ---- compositions

-- the addresses that the expressions of some terms mention
abbrev pub mentioned_by : (Address → Function) → List (Address × Rational) → List Address
mentioned_by e [] = []
mentioned_by e (t ∷ ts) = mentioned (e t.0) ++ mentioned_by e ts

slope_spread : (us : List Address) (e : Address → Function) (ts : List (Address × Rational))
    (x : Address → Rational) → Supports us (mentioned_by e ts)
    → sum_by_ℚ (λ v. linear ts (λ u. coefficient (e u) v) *ℚ x v) us
    ≡ linear ts (λ u. slope (e u) x)
unfolding linear
slope_spread us e [] x h = sum_by_ℚ_same (λ v. zero_ℚ *ℚ x v) (λ _. zero_ℚ) us (λ v. zero-*ℚ (x v))
    ∙ sum_by_ℚ_zero us
slope_spread us e (t ∷ ts) x h =
    sum_by_ℚ_same (λ v. (here v +ℚ rest v) *ℚ x v)
    (λ v. t.1 *ℚ (coefficient (e t.0) v *ℚ x v) +ℚ rest v *ℚ x v) us
    (λ v. +ℚ-*ℚ (here v) (rest v) (x v)
    ∙ ap (λ q. q +ℚ rest v *ℚ x v) (*ℚ_assoc t.1 (coefficient (e t.0) v) (x v)))
    ∙ sum_by_ℚ-+ℚ (λ v. t.1 *ℚ (coefficient (e t.0) v *ℚ x v)) (λ v. rest v *ℚ x v) us
    ∙ ap₂ ◌+ℚ◌ (sum_by_ℚ-*ℚ t.1 (λ v. coefficient (e t.0) v *ℚ x v) us
    ∙ ap (λ q. t.1
    *ℚ q) (sym (slope_over us (e t.0) x (supports_first us (mentioned (e t.0))
    (mentioned_by e ts) h)))) (slope_spread us e ts x
    (supports_second us (mentioned (e t.0)) (mentioned_by e ts) h))
  where
    here : Address → Rational
    here v = t.1 *ℚ coefficient (e t.0) v

    rest : Address → Rational
    rest v = linear ts (λ u. coefficient (e u) v)

pub slope_composed : (e : Address → Function) (f h : Function) → IsComposition e f h
    → (x : Address → Rational) → slope h x ≡ slope f (λ u. slope (e u) x)
slope_composed e f h s x =
    slope_over all h x (supports_first all (mentioned h) (mentioned_by e (terms_of f)) each)
    ∙ sum_by_ℚ_same (λ v. coefficient h v *ℚ x v) (λ v. slope f (λ u. coefficient (e u) v) *ℚ x v)
    all (λ v. ap (λ q. q *ℚ x v) (s.coefficients v))
    ∙ slope_spread all e (terms_of f) x (supports_second all (mentioned h)
    (mentioned_by e (terms_of f)) each)
  where
    all : List Address
    all = support (mentioned h ++ mentioned_by e (terms_of f))

    each : Supports all (mentioned h ++ mentioned_by e (terms_of f))
    each = support_supports (mentioned h ++ mentioned_by e (terms_of f))
