-- What parts add up to.
use Rattle.std.specs.Prelude.{◌≡◌, ℕ, ◌+◌, ◌<◌, ◌≤◌, List, [], ◌∷◌, ◌++◌, All, length, Result, refl}
use Rattle.std.proofs.Common.{sym, ◌∙◌, ap, ap₂, drop, get_or, subst}
use Rattle.std.proofs.Math.ListN.{drop_of_length-le}
use Rattle.map_laws.specs.LoopLaws.{next_item}
use Rattle.std.proofs.lemmas.List.Elements.{All-cons, All-nil}
use Rattle.ratio_core.specs.Folds.{sum_from}
use Rattle.ratio_core.specs.Rational.{Fits, Rational, SumFits, neg_ℚ, zero_ℚ, ◌*ℚ◌, ◌+ℚ◌}
use Rattle.ratio_core.specs.declared.fault.NumberFault.{NumberFault}
use Rattle.ratio_core.specs.Answers.{ExactWhere}
use Rattle.ratio_core.specs.AnsweredLaws.{exact_as}
use Rattle.rational_laws.specs.Dot.{dot, negated}
use Rattle.rational_laws.specs.Field.{*ℚ-zero, neg_ℚ-sum, neg_ℚ-zero, zero-+ℚ}
use Rattle.rational_laws.specs.Sums.{fold_ℚ, sum_ℚ, sum_ℚ-append}
use Rattle.aff_core.specs.Address.{Address, address_cmp}
use Rattle.aff_core.specs.FunctionLaws.{constant-variable}
use Rattle.aff_core.specs.FunctionLists.{coefficients, constants}
use Rattle.dual_laws.specs.Held.{DualRow, adjoint, gap, gap_of}
use Rattle.set_core.specs.Membership.{LowFits, low_of}
use Rattle.certificates.specs.Points.{variables_at}
use Rattle.cert_core.specs.Folds.{AddUp, adjoint_parts, adjoint_parts_of, gap_parts, gap_parts_of, products}
use Rattle.set_core.specs.declared.set.Set.{Set}
use Rattle.aff_core.specs.Function.{Function}
use Rattle.std.proofs.lemmas.Grind.{flat_map-append}
use Rattle.std.proofs.lemmas.List.Sums.{fold-append}
use Rattle.cert_core.proofs.Summed.{AddUp-append, AddUp_parts, zeros_add_up}

from_zero : (qs : List Rational) → sum_from zero_ℚ qs ≡ sum_ℚ qs
from_zero qs = fold_ℚ zero_ℚ qs ∙ zero-+ℚ (sum_ℚ qs)

sum_products : (w v : List Rational) → sum_ℚ (products w v) ≡ dot w v
sum_products [] v = refl
sum_products (p ∷ w) [] = refl
sum_products (p ∷ w) (q ∷ v) = ap (λ s. p *ℚ q +ℚ s) (sum_products w v)

sum_negated : (qs : List Rational) → sum_ℚ (negated qs) ≡ neg_ℚ (sum_ℚ qs)
sum_negated [] = sym neg_ℚ-zero
sum_negated (q ∷ qs) =
    ap (λ s. neg_ℚ q +ℚ s) (sum_negated qs) ∙ sym (neg_ℚ-sum q (sum_ℚ qs))

-- the adjoint
pub adjoint_is : (hs : List DualRow) (v : Address) → sum_from zero_ℚ (adjoint_parts hs v)
    ≡ adjoint hs v
adjoint_is hs v = from_zero (adjoint_parts hs v) ∙ sums hs
  where
    sums : (hs : List DualRow) → sum_ℚ (adjoint_parts hs v) ≡ adjoint hs v
    sums [] = refl
    sums (h ∷ hs) =
        sum_ℚ-append (adjoint_parts_of h v) (adjoint_parts hs v)
        ∙ ap₂ ◌+ℚ◌ (sum_products h.duals (coefficients h.functions v)) (sums hs)

-- the gap
pub gap_is : (hs : List DualRow) → sum_from zero_ℚ (gap_parts hs) ≡ gap hs
gap_is hs = from_zero (gap_parts hs) ∙ sums hs
  where
    one : (h : DualRow) → sum_ℚ (gap_parts_of h) ≡ gap_of h
    one h = ap (λ s. low_of h.set h.duals +ℚ s)
        (sum_negated (products h.duals (constants h.functions))
        ∙ ap neg_ℚ (sum_products h.duals (constants h.functions)))

    sums : (hs : List DualRow) → sum_ℚ (gap_parts hs) ≡ gap hs
    sums [] = refl
    sums (h ∷ hs) = sum_ℚ-append (gap_parts_of h) (gap_parts hs) ∙ ap₂ ◌+ℚ◌ (one h) (sums hs)

-- a variable has no constant
pub no_constants : (w : List Rational) (us : List Address)
    → All (λ q. q ≡ zero_ℚ) (negated (products w (constants (variables_at us))))
no_constants [] us = All-nil (λ q. q ≡ zero_ℚ)
no_constants (p ∷ w) [] = All-nil (λ q. q ≡ zero_ℚ)
no_constants (p ∷ w) (u ∷ us) =
    All-cons (λ q. q ≡ zero_ℚ) _ (negated (products w (constants (variables_at us))))
    (ap (λ k. neg_ℚ (p *ℚ k)) (constant-variable address_cmp u) ∙ ap neg_ℚ (*ℚ-zero p) ∙ neg_ℚ-zero)
    (no_constants w us)

-- variables have nothing to take away
pub variables_less : (sum : Rational) (w : List Rational) (us : List Address) → Fits sum
    → AddUp sum (negated (products w (constants (variables_at us))))
    × (sum ≡ sum_from sum (negated (products w (constants (variables_at us)))))
variables_less sum w us fits =
    let none = zeros_add_up sum (negated (products w (constants (variables_at us)))) fits
    (no_constants w us) in
    (none.0, sym none.1)

-- a least product, and then less the products with the constants
pub with_constants : (r : Result Rational NumberFault) (sum low with_low : Rational)
    (w : List Rational) (set : Set) (fs gs : List Function) → gs ≡ fs → LowFits set w
    → low ≡ low_of set w → SumFits sum low → with_low ≡ sum +ℚ low
    → ExactWhere r (AddUp with_low (negated (products w (constants gs))))
    (λ q. q ≡ sum_from with_low (negated (products w (constants gs))))
    → ExactWhere r (AddUp sum (low_of set w ∷ negated (products w (constants fs))))
    (λ q. q ≡ sum_from sum (low_of set w ∷ negated (products w (constants fs))))
unfolding AddUp
with_constants r sum low with_low w set fs gs same fits low_is total with_is said =
    let start : with_low ≡ sum +ℚ low_of set w = with_is ∙ ap (λ q. sum +ℚ q) low_is in
    let parts : List Rational = negated (products w (constants fs)) in
    exact_as r (AddUp (sum +ℚ low_of set w) parts) (AddUp sum (low_of set w ∷ parts))
    (λ q. q ≡ sum_from (sum +ℚ low_of set w) parts) (λ q. q ≡ sum_from sum (low_of set w ∷ parts))
    (λ k. (fits, subst (SumFits sum) low_is total, k)) (λ k. k.2) (λ _ e. e)
    (subst (λ s. ExactWhere r (AddUp s parts) (λ q. q ≡ sum_from s parts)) start
    (subst (λ hs. ExactWhere r (AddUp with_low (negated (products w (constants hs))))
    (λ q. q ≡ sum_from with_low (negated (products w (constants hs))))) same said))

pub no_products : (v : List Rational) → products v [] ≡ []
no_products [] = refl
no_products (p ∷ v) = refl

-- what is left to take away
pub next_less : (w : List Rational) (fs : List Function) (i : ℕ) (p : Rational) (f : Function)
    → length w ≡ length fs → p ≡ get_or w i p → f ≡ get_or fs i f → i < length fs
    → negated (products (drop i w) (constants (drop i fs)))
    ≡ neg_ℚ (p *ℚ f.constant) ∷ negated (products (drop (i + 1) w) (constants (drop (i + 1) fs)))
next_less w fs i p f e p_is f_is lt =
    ap₂ (λ v gs. negated (products v (constants gs)))
    (next_item w w i p refl p_is (subst (λ n. i < n) (sym e) lt)) (next_item fs fs i f refl f_is lt)

pub none_less : (w : List Rational) (fs : List Function) (i : ℕ) → length fs ≤ i
    → negated (products (drop i w) (constants (drop i fs))) ≡ []
none_less w fs i le =
    ap (λ gs. negated (products (drop i w) (constants gs))) (drop_of_length-le fs le)
    ∙ ap negated (no_products (drop i w))

-- the gap of two lists together
pub gap_told : (r : Result Rational NumberFault) (xs ys : List DualRow) (before : Rational)
    → AddUp zero_ℚ (gap_parts xs) → before ≡ sum_from zero_ℚ (gap_parts xs)
    → ExactWhere r (AddUp before (gap_parts ys)) (λ q. q ≡ sum_from before (gap_parts ys))
    → ExactWhere r (AddUp zero_ℚ (gap_parts (xs ++ ys))) (λ q. q ≡ gap (xs ++ ys))
gap_told r xs ys before fits is said =
    exact_as r (AddUp before (gap_parts ys)) (AddUp zero_ℚ (gap_parts (xs ++ ys)))
    (λ q. q ≡ sum_from before (gap_parts ys)) (λ q. q ≡ gap (xs ++ ys))
    (λ k. subst (AddUp zero_ℚ) (sym joined) (AddUp-append zero_ℚ (gap_parts xs) (gap_parts ys) fits
    (subst (λ s. AddUp s (gap_parts ys)) is k)))
    (λ k. subst (λ s. AddUp s (gap_parts ys)) (sym is)
    (AddUp_parts zero_ℚ (gap_parts xs) (gap_parts ys) (subst (AddUp zero_ℚ) joined k)).1)
    (λ q e. e ∙ ap (λ s. sum_from s (gap_parts ys)) is
    ∙ sym (fold-append ◌+ℚ◌ zero_ℚ (gap_parts xs) (gap_parts ys))
    ∙ ap (sum_from zero_ℚ) (sym joined) ∙ gap_is (xs ++ ys))
    said
  where
    joined : gap_parts (xs ++ ys) ≡ gap_parts xs ++ gap_parts ys
    joined = flat_map-append gap_parts_of xs ys

-- what the first of them owes
pub gap_of_first : (xs ys : List DualRow) → AddUp zero_ℚ (gap_parts (xs ++ ys))
    → AddUp zero_ℚ (gap_parts xs)
gap_of_first xs ys h =
    (AddUp_parts zero_ℚ (gap_parts xs) (gap_parts ys)
    (subst (AddUp zero_ℚ) (flat_map-append gap_parts_of xs ys) h)).0
