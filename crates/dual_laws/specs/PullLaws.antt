-- The pull is the sum over the variables of the adjoint times the variable's number, so equal
-- adjoints pull alike.
use Rattle.std.specs.Prelude.{◌≡◌, List, [], ◌∷◌, ◌++◌, map, flat_map, refl}
use Rattle.std.proofs.Common.{sym, ◌∙◌, ap, ap₂}
use Rattle.ratio_core.specs.Rational.{Rational, zero_ℚ, ◌*ℚ◌, ◌+ℚ◌}
use Rattle.rational_laws.specs.Dot.{dot}
use Rattle.rational_laws.specs.DotLaws.{dot_map-*ℚ, dot_map-sum, dot_map_same}
use Rattle.rational_laws.specs.Field.{*ℚ_comm, zero-*ℚ, +ℚ-*ℚ}
use Rattle.rational_laws.specs.Sums.{sum_by_ℚ, sum_by_ℚ-+ℚ, sum_by_ℚ-append, sum_by_ℚ_same, sum_by_ℚ_zero}
use Rattle.aff_core.specs.Address.{Address}
use Rattle.aff_core.specs.Function.{Function, coefficient, slope}
use Rattle.aff_core.specs.FunctionLists.{coefficients, slopes}
use Rattle.linear_laws.specs.SlopeLaws.{mentioned, slope_over}
use Rattle.linear_laws.specs.SupportLaws.{Supports, support, support_supports, supports_first, supports_second}
use Rattle.dual_laws.specs.Held.{DualRow, adjoint, adjoint_of, gap, gap_of, pull}

-- the addresses that some functions mention, and those that some rows do
abbrev pub all_mentioned : List Function → List Address
all_mentioned fs = flat_map mentioned fs

abbrev pub mentioned_in : List DualRow → List Address
mentioned_in hs = flat_map (λ h. all_mentioned h.functions) hs

-- ---- over any list that has each address once

weighed_over : (us : List Address) (y : List Rational) (fs : List Function) (x : Address → Rational)
    → Supports us (all_mentioned fs)
    → dot y (slopes fs x) ≡ sum_by_ℚ (λ u. dot y (coefficients fs u) *ℚ x u) us
weighed_over us y fs x h = spread fs y h ∙ dot_map-sum y (λ f u. coefficient f u *ℚ x u) fs us
    ∙ sum_by_ℚ_same (λ u. dot y (map (λ f. coefficient f u *ℚ x u) fs))
    (λ u. dot y (coefficients fs u) *ℚ x u) us out
  where
    spread : (fs : List Function) (y : List Rational) → Supports us (all_mentioned fs)
        → dot y (slopes fs x) ≡ dot y (map (λ f. sum_by_ℚ (λ u. coefficient f u *ℚ x u) us) fs)
    spread [] y h = refl
    spread (f ∷ fs) [] h = refl
    spread (f ∷ fs) (p ∷ y) h =
        ap₂ (λ s t. p *ℚ s
        +ℚ t) (slope_over us f x (supports_first us (mentioned f) (all_mentioned fs) h))
        (spread fs y (supports_second us (mentioned f) (all_mentioned fs) h))

    out : (u : Address)
        → dot y (map (λ f. coefficient f u *ℚ x u) fs) ≡ dot y (coefficients fs u) *ℚ x u
    out u =
        dot_map_same y (λ f. coefficient f u *ℚ x u) (λ f. x u *ℚ coefficient f u) fs
        (λ f. *ℚ_comm (coefficient f u) (x u))
        ∙ dot_map-*ℚ y (x u) (λ f. coefficient f u) fs
        ∙ *ℚ_comm (x u) (dot y (coefficients fs u))

pub pull_over : (us : List Address) (hs : List DualRow) (x : Address → Rational)
    → Supports us (mentioned_in hs) → pull hs x ≡ sum_by_ℚ (λ u. adjoint hs u *ℚ x u) us
pull_over us [] x h = sym (sum_by_ℚ_same (λ u. zero_ℚ *ℚ x u) (λ _. zero_ℚ) us (λ u. zero-*ℚ (x u))
    ∙ sum_by_ℚ_zero us)
pull_over us (g ∷ hs) x h =
    ap₂ ◌+ℚ◌ (weighed_over us g.duals g.functions x
    (supports_first us (all_mentioned g.functions) (mentioned_in hs) h))
    (pull_over us hs x (supports_second us (all_mentioned g.functions) (mentioned_in hs) h))
    ∙ sym (sum_by_ℚ-+ℚ (λ u. adjoint_of g u *ℚ x u) (λ u. adjoint hs u *ℚ x u) us)
    ∙ sum_by_ℚ_same (λ u. adjoint_of g u *ℚ x u +ℚ adjoint hs u *ℚ x u)
    (λ u. (adjoint_of g u +ℚ adjoint hs u) *ℚ x u) us
    (λ u. sym (+ℚ-*ℚ (adjoint_of g u) (adjoint hs u) (x u)))

-- the variables that some rows mention, each once
abbrev pub variables_in : List DualRow → List Address
variables_in hs = support (mentioned_in hs)

pub pull_is : (hs : List DualRow) (x : Address → Rational)
    → pull hs x ≡ sum_by_ℚ (λ v. adjoint hs v *ℚ x v) (variables_in hs)
pull_is hs x = pull_over (variables_in hs) hs x (support_supports (mentioned_in hs))

-- ---- equal adjoints

-- two sums over variables with equal weights
alike : (us : List Address) (a b x : Address → Rational) → ((v : Address) → a v ≡ b v)
    → sum_by_ℚ (λ u. a u *ℚ x u) us ≡ sum_by_ℚ (λ u. b u *ℚ x u) us
alike us a b x h =
    sum_by_ℚ_same (λ u. a u *ℚ x u) (λ u. b u *ℚ x u) us (λ u. ap (λ q. q *ℚ x u) (h u))

-- what sums over any support of some addresses, and what does so over any support of others, are
-- equal where the weights are
weighed_alike : (vs ws : List Address) (p q : Rational) (a b x : Address → Rational)
    → ((us : List Address) → Supports us vs → p ≡ sum_by_ℚ (λ u. a u *ℚ x u) us)
    → ((us : List Address) → Supports us ws → q ≡ sum_by_ℚ (λ u. b u *ℚ x u) us)
    → ((v : Address) → a v ≡ b v) → p ≡ q
weighed_alike vs ws p q a b x first_over second_over h =
    first_over both (supports_first both vs ws whole)
    ∙ alike both a b x h
    ∙ sym (second_over both (supports_second both vs ws whole))
  where
    both : List Address
    both = support (vs ++ ws)

    whole : Supports both (vs ++ ws)
    whole = support_supports (vs ++ ws)

-- equal adjoints give equal pulls
pub pull_same : (hs gs : List DualRow) → ((v : Address) → adjoint hs v ≡ adjoint gs v)
    → (x : Address → Rational) → pull hs x ≡ pull gs x
pull_same hs gs h x = weighed_alike (mentioned_in hs) (mentioned_in gs) (pull hs x) (pull gs x)
    (adjoint hs) (adjoint gs) x (λ us. pull_over us hs x) (λ us. pull_over us gs x) h

-- and an adjoint that is a function's coefficients gives its slope
pub pull_is_slope : (hs : List DualRow) (f : Function)
    → ((v : Address) → adjoint hs v ≡ coefficient f v) → (x : Address → Rational)
    → pull hs x ≡ slope f x
pull_is_slope hs f h x = weighed_alike (mentioned_in hs) (mentioned f) (pull hs x) (slope f x)
    (adjoint hs) (coefficient f) x (λ us. pull_over us hs x) (λ us. slope_over us f x) h

-- rows whose adjoints are 0 have no pull
pub pull_none : (hs : List DualRow) → ((v : Address) → adjoint hs v ≡ zero_ℚ)
    → (x : Address → Rational) → pull hs x ≡ zero_ℚ
pull_none hs h x =
    pull_is hs x ∙ alike (variables_in hs) (adjoint hs) (λ _. zero_ℚ) x h
    ∙ sum_by_ℚ_same (λ u. zero_ℚ *ℚ x u) (λ _. zero_ℚ) (variables_in hs) (λ u. zero-*ℚ (x u))
    ∙ sum_by_ℚ_zero (variables_in hs)

-- ---- rows joined

pub adjoint-append : (hs gs : List DualRow) (v : Address)
    → adjoint (hs ++ gs) v ≡ adjoint hs v +ℚ adjoint gs v
adjoint-append hs gs v = sum_by_ℚ-append (λ h. adjoint_of h v) hs gs

pub gap-append : (hs gs : List DualRow) → gap (hs ++ gs) ≡ gap hs +ℚ gap gs
gap-append hs gs = sum_by_ℚ-append gap_of hs gs
