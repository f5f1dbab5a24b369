-- Loops that make a list of another, one after the other, and loops that fold one.
use Rattle.std.specs.Prelude.{◌≡◌, ◌<◌, ◌≤◌, ◌+◌, ℕ, List, [], ◌∷◌, ◌++◌, map, take, drop, fold, slice_index_or, All, length, refl}
use Rattle.std.specs.List.{zip}
use Rattle.std.proofs.Common.{sym, ap, ap₂, subst, ◌∙◌, arith, append_assoc, ◌/◌}
use Rattle.std.proofs.lemmas.List.{append-nil, drop_more, map-append, take_all, take_more}
use Rattle.std.proofs.lemmas.List.Elements.{All-get_or, All-map, All-more, All-nil}
use Rattle.map_laws.specs.EachLaws.{all_from_map}
use Rattle.ratio_core.specs.Folds.{FoldFits, sum_from}
use Rattle.ratio_core.specs.Rational.{Rational, SumFits, neg_ℚ, zero_ℚ, ◌+ℚ◌}
use Rattle.rational_laws.specs.Dot.{minus, negated}
use Rattle.aff_core.specs.Address.{Address}
use Rattle.aff_core.specs.Arithmetic.{PlusFits, sum_of}
use Rattle.aff_core.specs.Function.{Function, variable}
use Rattle.bridge_face.specs.BackOf.{SumsFit, head_of}
use Rattle.bridge_face.specs.ComponentLaws.{variables}
use Rattle.bridge_face.specs.ImageOf.{DifferencesFit, EachSumFits, differences, negations, sums}
use Rattle.bridge_face.specs.Images.{difference, first_in}
use Rattle.aff_core.specs.Function as function

-- ---- a list made of another, behind a front

-- what is made of the first n behind the front, and each fits
pub record MadeBehind {X Y : Type 0} (front : List Y) (F : X → Y) (Fits : X → Type 0) (n : ℕ)
    (xs : List X) (made : List Y) : Type 0 where
  pub made_is : made ≡ front ++ map F (take n xs)
  pub fit : All Fits (take n xs)

module _ {X Y : Type 0} (front : List Y) (F : X → Y) (Fits : X → Type 0) where
  pub made_none : (xs : List X) (made : List Y) → made ≡ front → MadeBehind front F Fits 0 xs made
  made_none xs made e = record { made_is = e ∙ sym (append-nil front); fit = All-nil Fits }

  pub made_more : (n : ℕ) (xs : List X) (x : X) (made : List Y) → n < length xs
      → slice_index_or xs n x ≡ x → Fits x
      → MadeBehind front F Fits n xs made → MadeBehind front F Fits (n + 1) xs (made ++ F x ∷ [])
  made_more n xs x made low here fits so_far = record {
    made_is =
        ap₂ (λ ys y. ys ++ F y ∷ []) so_far.made_is (sym here)
        ∙ append_assoc front (map F (take n xs)) (F (slice_index_or xs n x) ∷ [])
        ∙ ap (λ ys. front ++ ys) (sym (map-append F (take n xs) (slice_index_or xs n x ∷ []))
        ∙ sym (ap (map F) (take_more xs n x low)));
    fit = All-more Fits xs n x low so_far.fit (subst Fits (sym here) fits);
  }

  -- where one doesn't fit, not all do
  pub fits_there : (n : ℕ) (xs : List X) (x : X) → n < length xs → slice_index_or xs n x ≡ x
      → All Fits xs → Fits x
  fits_there n xs x low here all = subst Fits here (All-get_or Fits xs n x low all)

  pub made_all : (n : ℕ) (xs : List X) (made : List Y) → length xs ≤ n
      → MadeBehind front F Fits n xs made
      → All Fits xs × made ≡ front ++ map F xs
  made_all n xs made past done = (
    subst (All Fits) (take_all n xs past) done.fit,
    done.made_is
        ∙ ap (λ ys. front ++ map F ys) (take_all n xs past),
  )

-- ---- of two lists

-- the numbers of two lists, less each other
abbrev pub lowered : Rational × Rational → Rational
lowered p = p.0 +ℚ neg_ℚ p.1

abbrev pub LoweredFits : Rational × Rational → Type 0
LoweredFits p = SumFits p.0 (neg_ℚ p.1)

pub minus_is : (u v : List Rational) → map lowered (zip u v) ≡ minus u v
minus_is [] v = refl
minus_is (p ∷ u) [] = refl
minus_is (p ∷ u) (q ∷ v) = ap (λ s. (p +ℚ neg_ℚ q) ∷ s) (minus_is u v)

zip-negated : (u v : List Rational) → zip u (negated v) ≡ map (λ p. (p.0, neg_ℚ p.1)) (zip u v)
zip-negated [] v = refl
zip-negated (p ∷ u) [] = refl
zip-negated (p ∷ u) (q ∷ v) = ap (λ s. (p, neg_ℚ q) ∷ s) (zip-negated u v)

pub lowered_fit : (u v : List Rational) → All LoweredFits (zip u v) → SumsFit u (negated v)
lowered_fit u v h =
    subst (All (λ r. SumFits r.0 r.1)) (sym (zip-negated u v))
    (All-map (λ r. SumFits r.0 r.1) (λ p. (p.0, neg_ℚ p.1)) (zip u v) h)

pub fit_lowered : (u v : List Rational) → SumsFit u (negated v) → All LoweredFits (zip u v)
fit_lowered u v h =
    all_from_map (λ r. SumFits r.0 r.1) (λ p. (p.0, neg_ℚ p.1)) (zip u v)
    (subst (All (λ r. SumFits r.0 r.1)) (zip-negated u v) h)

-- variables less functions, and with them
abbrev pub less_pair : Address × Function → Function
less_pair p = difference (variable p.0) p.1

abbrev pub LessFits : Address × Function → Type 0
LessFits p = PlusFits (variable p.0) (function.negated p.1)

abbrev pub more_pair : Address × Function → Function
more_pair p = sum_of (variable p.0) p.1

abbrev pub MoreFits : Address × Function → Type 0
MoreFits p = PlusFits (variable p.0) p.1

pub less_pairs : (vs : List Address) (fs : List Function)
    → map less_pair (zip vs fs) ≡ differences (variables vs) fs
less_pairs [] fs = refl
less_pairs (v ∷ vs) [] = refl
less_pairs (v ∷ vs) (f ∷ fs) = ap (λ gs. difference (variable v) f ∷ gs) (less_pairs vs fs)

pub more_pairs : (vs : List Address) (fs : List Function)
    → map more_pair (zip vs fs) ≡ sums (variables vs) fs
more_pairs [] fs = refl
more_pairs (v ∷ vs) [] = refl
more_pairs (v ∷ vs) (f ∷ fs) = ap (λ gs. sum_of (variable v) f ∷ gs) (more_pairs vs fs)

zip-negations : (vs : List Address) (fs : List Function)
    → zip (variables vs) (negations fs)
    ≡ map (λ p. (variable p.0, function.negated p.1)) (zip vs fs)
zip-negations [] fs = refl
zip-negations (v ∷ vs) [] = refl
zip-negations (v ∷ vs) (f ∷ fs) =
    ap (λ ps. (variable v, function.negated f) ∷ ps) (zip-negations vs fs)

zip-variables : (vs : List Address) (fs : List Function)
    → zip (variables vs) fs ≡ map (λ p. (variable p.0, p.1)) (zip vs fs)
zip-variables [] fs = refl
zip-variables (v ∷ vs) [] = refl
zip-variables (v ∷ vs) (f ∷ fs) = ap (λ ps. (variable v, f) ∷ ps) (zip-variables vs fs)

abbrev PairFits : Function × Function → Type 0
PairFits p = PlusFits p.0 p.1

pub less_fit : (vs : List Address) (fs : List Function) → All LessFits (zip vs fs)
    → EachSumFits (variables vs) (negations fs)
less_fit vs fs h =
    subst (All PairFits) (sym (zip-negations vs fs))
    (All-map PairFits (λ p. (variable p.0, function.negated p.1)) (zip vs fs) h)

pub fit_less : (vs : List Address) (fs : List Function) → EachSumFits (variables vs) (negations fs)
    → All LessFits (zip vs fs)
fit_less vs fs h =
    all_from_map PairFits (λ p. (variable p.0, function.negated p.1)) (zip vs fs)
    (subst (All PairFits) (zip-negations vs fs) h)

pub more_fit : (vs : List Address) (fs : List Function) → All MoreFits (zip vs fs)
    → EachSumFits (variables vs) fs
more_fit vs fs h =
    subst (All PairFits) (sym (zip-variables vs fs))
    (All-map PairFits (λ p. (variable p.0, p.1)) (zip vs fs) h)

pub fit_more : (vs : List Address) (fs : List Function) → EachSumFits (variables vs) fs
    → All MoreFits (zip vs fs)
fit_more vs fs h =
    all_from_map PairFits (λ p. (variable p.0, p.1)) (zip vs fs)
    (subst (All PairFits) (zip-variables vs fs) h)

-- ---- a sum from the left

-- what is left, from the sum so far, is as all of it is
pub record AddsAsAll (now : Rational) (left all : List Rational) : Type 0 where
  pub sums : sum_from now left ≡ sum_from zero_ℚ all
  pub fits : FoldFits now left → FoldFits zero_ℚ all
  pub fit : FoldFits zero_ℚ all → FoldFits now left

pub adds_none : (now : Rational) (all : List Rational) → now ≡ zero_ℚ → AddsAsAll now all all
adds_none now all e = record {
  sums = ap (λ q. sum_from q all) e;
  fits = λ h. subst (λ q. FoldFits q all) e h;
  fit = λ h. subst (λ q. FoldFits q all) (sym e) h;
}

pub adds_more : (now q : Rational) (rest left all : List Rational) → left ≡ q ∷ rest → SumFits now q
    → AddsAsAll now left all → AddsAsAll (now +ℚ q) rest all
unfolding FoldFits
adds_more now q rest left all e fits so_far = record {
  sums = ap (sum_from now) (sym e) ∙ so_far.sums;
  fits = λ h. so_far.fits (subst (FoldFits now) (sym e) (fits, h));
  fit = λ h. (subst (FoldFits now) e (so_far.fit h)).1;
}

pub adds_fits : (now q : Rational) (rest left all : List Rational) → left ≡ q ∷ rest
    → AddsAsAll now left all → FoldFits zero_ℚ all → SumFits now q
unfolding FoldFits
adds_fits now q rest left all e so_far h = (subst (FoldFits now) e (so_far.fit h)).0

pub adds_all : (now : Rational) (left all : List Rational) → left ≡ [] → AddsAsAll now left all
    → FoldFits zero_ℚ all × now ≡ sum_from zero_ℚ all
unfolding FoldFits
adds_all now left all e done =
    (done.fits (subst (FoldFits now) (sym e) tt), ap (sum_from now) (sym e) ∙ done.sums)

-- ---- a function less variables, one after the other

abbrev all_less : Function → List Address → Function
all_less t vs = fold difference t (variables vs)

pub record LessAsAll (first now : Function) (left all : List Address) : Type 0 where
  pub same : all_less now left ≡ all_less first all
  pub fits : DifferencesFit now (variables left) → DifferencesFit first (variables all)
  pub fit : DifferencesFit first (variables all) → DifferencesFit now (variables left)

pub less_none : (first now : Function) (all : List Address) → now ≡ first
    → LessAsAll first now all all
less_none first now all e = record {
  same = ap (λ f. all_less f all) e;
  fits = λ h. subst (λ f. DifferencesFit f (variables all)) e h;
  fit = λ h. subst (λ f. DifferencesFit f (variables all)) (sym e) h;
}

pub less_more : (first now : Function) (v : Address) (rest left all : List Address)
    → left ≡ v ∷ rest
    → PlusFits now (function.negated (variable v)) → LessAsAll first now left all
    → LessAsAll first (difference now (variable v)) rest all
unfolding DifferencesFit
less_more first now v rest left all e fits so_far = record {
  same = ap (all_less now) (sym e) ∙ so_far.same;
  fits = λ h. so_far.fits (subst (λ us. DifferencesFit now (variables us)) (sym e) (fits, h));
  fit = λ h. (subst (λ us. DifferencesFit now (variables us)) e (so_far.fit h)).1;
}

pub less_fits : (first now : Function) (v : Address) (rest left all : List Address)
    → left ≡ v ∷ rest
    → LessAsAll first now left all → DifferencesFit first (variables all)
    → PlusFits now (function.negated (variable v))
unfolding DifferencesFit
less_fits first now v rest left all e so_far h =
    (subst (λ us. DifferencesFit now (variables us)) e (so_far.fit h)).0

pub less_all : (first now : Function) (left all : List Address) → left ≡ []
    → LessAsAll first now left all
    → DifferencesFit first (variables all) × now ≡ all_less first all
unfolding DifferencesFit
less_all first now left all e done = (
  done.fits (subst (λ us. DifferencesFit now (variables us)) (sym e) tt),
  ap (all_less now)
      (sym e) ∙ done.same,
)

-- ---- what is left of a list

pub next : {X : Type 0} (xs : List X) (n : ℕ) (x : X) → n < length xs → x ≡ slice_index_or xs n x
    → drop n xs ≡ x ∷ drop (n + 1) xs
next xs n x low here = drop_more xs n x low ∙ ap (λ y. y ∷ drop (n + 1) xs) (sym here)

-- ---- the first of a list

pub first_there : (fs : List Function) (f : Function) → 1 ≤ length fs
    → slice_index_or fs 0 f ≡ first_in fs
first_there [] f some = absurd (omega (arith, some))
first_there (g ∷ fs) f some = refl

pub number_there : (y : List Rational) (q : Rational) → 1 ≤ length y
    → slice_index_or y 0 q ≡ head_of y
number_there [] q some = absurd (omega (arith, some))
number_there (p ∷ y) q some = refl

-- ---- halves

pub halves : (k n : ℕ) → k ≡ n + n → k / 2 ≡ n
halves k n e = omega (arith, e)

pub even : (k n : ℕ) → k ≡ n + n → k ≡ k / 2 + k / 2
even k n e = omega (arith, e)
