-- Functions of whose variables each has a variable in its place, where these rise as well: nothing is
-- added up, and each number fits as it is.
use Rattle.std.specs.Prelude.{◌≡◌, ◌≤◌, ◌<◌, ◌+◌, ℕ, false, T, ◌&&◌, cond, IsTrue, List, [], ◌∷◌, ◌++◌, All, None, Some, drop, get_or, length, refl, slice_get, take}
use Rattle.std.specs.Ordering.{is_lt}
use Rattle.std.specs.Cmp.{tied_itself}
use Rattle.std.specs.declared.cmp.Ordering.TheVariants.{Equal}
use Rattle.std.specs.FinMap as finite
use Rattle.std.specs.FinMap.{FinMap, get-empty, get-insert, is_sorted}
use Rattle.std.specs.FinMap.Entries.{below_all}
use Rattle.std.specs.List.{list_all}
use Rattle.std.specs.Option.{option_map_or}
use Rattle.std.proofs.Common.{ap, ap₂, arith, subst, sym, ◌∙◌}
use Rattle.std.proofs.lemmas.List.{drop_all, take_all}
use Rattle.std.proofs.lemmas.List.Elements.{All-cons, All-head, All-nil, All-push, All-tail, All-weaker}
use Rattle.map_laws.specs.LoopLaws.{next_item}
use Rattle.map_laws.specs.TestLaws.{first, second}
use Rattle.ratio_core.specs.Rational.{Fits, Rational, SumFits, one_ℚ, zero_ℚ, ◌*ℚ◌, ◌+ℚ◌}
use Rattle.rational_laws.specs.Field.{*ℚ-one, *ℚ-zero, +ℚ-zero}
use Rattle.rational_laws.specs.Fitting.{Fits_zero}
use Rattle.rational_laws.specs.ZeroSums.{SumFits-zero_right}
use Rattle.aff_core.specs.Address.{Address, address_cmp, address_eq, address_total}
use Rattle.aff_core.specs.Arithmetic.{MeetsFit, TermsFit, added_at, composed, met, substituted}
use Rattle.aff_core.specs.ArithmeticLaws.{coefficient-composed, constant-composed}
use Rattle.aff_core.specs.Function.{Function, coefficient, function_of, terms_of, value_of, variable}
use Rattle.aff_core.specs.FunctionLaws.{constant-function_of, constant-variable, function_of-terms, rises, same_coefficients, terms-variable, terms_kept, terms_rise}
use Rattle.aff_core.specs.KeyOrder.{address_order, other_key}
use Rattle.aff_core.specs.Points.{unit}
use Rattle.aff_core.specs.Rising.{RiseStrictly}
use Rattle.aff_core.specs.Terms.{TimesFit, ValueFits, is_nonzero, linear, times}
use Rattle.bridge_plan.specs.Stands.{AreNamed, IsNamed, name_by, named}
use Rattle.bridge_plan.proofs.Left.{pushed_all, pushed_next, taken_item}
use Rattle.linear_laws.specs.ListLaws.{coefficient_variable}
use Rattle.linear_laws.specs.SlopeLaws.{coefficient_by_unit}
use Rattle.fresh_bridging.specs.FitTests.{substitution_fits, substitution_fits_Decides}

abbrev Terms : Type 0
Terms = List (Address × Rational)

-- ---- sums at addresses that rise

later_apart : (u w : Address) → T (is_lt (address_cmp u w)) → address_eq w u ≡ false
later_apart u w before = other_key address_order w u
    (λ e. subst T (ap is_lt (subst (λ x. address_cmp u x ≡ Equal) (sym e)
    (tied_itself address_total u))) before)

abbrev IsAbsent : FinMap address_cmp Rational → Address × Rational → Type 0
IsAbsent m w = finite.get m w.0 ≡ None

none_after : (m : FinMap address_cmp Rational) (u : Address) (q : Rational) (ws : Terms)
    → T (below_all address_cmp u ws) → All (IsAbsent m) ws
    → All (IsAbsent (finite.insert m u q)) ws
none_after m u q [] below h = All-nil (IsAbsent (finite.insert m u q))
none_after m u q (w ∷ ws) below h =
    All-cons (IsAbsent (finite.insert m u q)) w ws
    (get-insert address_total m u q w.0
    ∙ ap (λ b. cond b (Some q) (finite.get m w.0)) (later_apart u w.0 (first _ _ below))
    ∙ All-head (IsAbsent m) w ws h)
    (none_after m u q ws (second _ _ below) (All-tail (IsAbsent m) w ws h))

rising_fit : (m : FinMap address_cmp Rational) (us : Terms) → T (is_sorted address_cmp us)
    → All (IsAbsent m) us → TermsFit m us
unfolding TermsFit
rising_fit m [] s h = tt
rising_fit m (u ∷ us) s h = (
  subst (λ o. MeetsFit o u.1) (sym (All-head (IsAbsent m) u us h)) tt,
  rising_fit (added_at m u.0 u.1) us (second _ _ s)
      (none_after m u.0 (met (finite.get m u.0) u.1) us (first _ _ s)
      (All-tail (IsAbsent m) u us h)),
)

module _ (e : Address → Function) (k : Address → Address) where
  abbrev Named : Terms → Type 0
  Named ts = All (IsNamed e k) ts

  head : (t : Address × Rational) (ts : Terms) → Named (t ∷ ts) → IsNamed e k t
  head t ts h = All-head (IsNamed e k) t ts h

  tail : (t : Address × Rational) (ts : Terms) → Named (t ∷ ts) → Named ts
  tail t ts h = All-tail (IsNamed e k) t ts h

  -- ---- what is put in

  terms_named : (t : Address × Rational) → IsNamed e k t → terms_of (e t.0) ≡ (k t.0, one_ℚ) ∷ []
  terms_named t h = ap terms_of h.name ∙ terms-variable address_cmp (k t.0)

  substituted_named : (ts : Terms) → Named ts → substituted e ts ≡ named k ts
  unfolding substituted
  substituted_named [] h = refl
  substituted_named (t ∷ ts) h =
      ap₂ ◌++◌ (ap (times t.1) (terms_named t (head t ts h)) ∙ ap (λ q. (k t.0, q) ∷ []) (*ℚ-one t.1))
      (substituted_named ts (tail t ts h))

  nothing_added : (t : Address × Rational) → IsNamed e k t → t.1 *ℚ (e t.0).constant ≡ zero_ℚ
  nothing_added t h =
      ap (λ f. t.1 *ℚ f.constant) h.name
      ∙ ap (λ q. t.1 *ℚ q) (constant-variable address_cmp (k t.0)) ∙ *ℚ-zero t.1

  constants_named : (ts : Terms) → Named ts → linear ts (λ u. (e u).constant) ≡ zero_ℚ
  unfolding linear
  constants_named [] h = refl
  constants_named (t ∷ ts) h =
      ap₂ ◌+ℚ◌ (nothing_added t (head t ts h)) (constants_named ts (tail t ts h)) ∙ +ℚ-zero zero_ℚ

  value_named : (f : Function) → AreNamed e k f → value_of f (λ u. (e u).constant) ≡ f.constant
  unfolding value_of
  value_named f h =
      ap (λ q. f.constant +ℚ q) (constants_named (terms_of f) h.terms) ∙ +ℚ-zero f.constant

  linear_named : (ts : Terms) → Named ts → (v : Address)
      → linear ts (λ u. coefficient (e u) v) ≡ linear (named k ts) (unit v)
  unfolding linear
  linear_named [] h v = refl
  linear_named (t ∷ ts) h v =
      ap₂ (λ q rest. (t.1 *ℚ q) +ℚ rest)
      (ap (λ f. coefficient f v) (head t ts h).name ∙ coefficient_variable (k t.0) v)
      (linear_named ts (tail t ts h) v)

  nonzero_named : (ts : Terms) → list_all is_nonzero (named k ts) ≡ list_all is_nonzero ts
  nonzero_named [] = refl
  nonzero_named (t ∷ ts) = ap (λ b. is_nonzero t && b) (nonzero_named ts)

  pub composed_named : (f : Function) → AreNamed e k f → RiseStrictly (named k (terms_of f))
      → function_of (named k (terms_of f)) f.constant ≡ composed e f
  composed_named f h rise =
      same_coefficients address_order made (composed e f) at
      (constant-function_of address_cmp us f.constant ∙ sym (value_named f h)
      ∙ sym (constant-composed address_order e f))
    where
      us : Terms
      us = named k (terms_of f)

      made : Function
      made = function_of us f.constant

      at : (v : Address) → coefficient made v ≡ coefficient (composed e f) v
      at v =
          sym (coefficient_by_unit made v)
          ∙ ap (λ ts. linear ts (unit v))
          (terms_kept us f.constant rise (nonzero_named (terms_of f) ∙ f.nonzero))
          ∙ sym (linear_named (terms_of f) h.terms v)
          ∙ sym (coefficient-composed address_order e f v)

  -- ---- and that it fits

  value_fits_named : (sum : Rational) (ts : Terms) → Named ts → Fits sum
      → ValueFits sum ts (λ u. (e u).constant)
  unfolding ValueFits
  value_fits_named sum [] h fit = tt
  value_fits_named sum (t ∷ ts) h fit =
      let none = nothing_added t (head t ts h) in (
        record {
          product = subst Fits (sym none) Fits_zero;
          total = subst (SumFits sum) (sym none) (SumFits-zero_right sum fit);
        },
        subst (λ q. ValueFits q ts (λ u. (e u).constant))
            (sym (ap (λ q. sum +ℚ q) none ∙ +ℚ-zero sum))
            (value_fits_named sum ts (tail t ts h) fit),
      )

  product_fits : (t : Address × Rational) → IsNamed e k t → TimesFit t.1 (terms_of (e t.0))
  product_fits t h =
      subst (TimesFit t.1) (sym (terms_named t h))
      (All-cons (λ s. Fits (t.1 *ℚ s.1)) (k t.0, one_ℚ) []
      (subst Fits (sym (*ℚ-one t.1)) h.fits) (All-nil (λ s. Fits (t.1 *ℚ s.1))))

  all_absent : (us : Terms) → All (IsAbsent finite.empty) us
  all_absent us i d lt = get-empty address_cmp _

  pub fits_named : (f : Function) → AreNamed e k f → RiseStrictly (named k (terms_of f))
      → IsTrue (substitution_fits e f)
  fits_named f h rise =
      (substitution_fits_Decides e f).1 (record {
        constant = value_fits_named f.constant (terms_of f) h.terms h.constant;
        products =
            All-weaker (IsNamed e k) (λ t. TimesFit t.1 (terms_of (e t.0))) product_fits
            (terms_of f) h.terms;
        sums =
            subst (TermsFit (finite.empty {R = address_cmp}))
            (sym (substituted_named (terms_of f) h.terms))
            (rising_fit finite.empty (named k (terms_of f)) (rises (named k (terms_of f)) rise)
            (all_absent (named k (terms_of f))));
      })

  -- so what is made of the terms is the composition
  pub made_named : (f made : Function) (us : Terms) → AreNamed e k f → us ≡ named k (terms_of f)
      → RiseStrictly us → made ≡ function_of us f.constant
      → (made ≡ composed e f) × IsTrue (substitution_fits e f)
  made_named f made us h same rise is =
      let up = subst RiseStrictly same rise in
      (is ∙ ap (λ ts. function_of ts f.constant) same ∙ composed_named f h up, fits_named f h up)

-- ---- where each variable stands for itself

module _ (e : Address → Function) (f : Function) (h : AreNamed e (λ v. v) f) where
  same_terms : (ts : Terms) → named (λ v. v) ts ≡ ts
  same_terms [] = refl
  same_terms (t ∷ ts) = ap (λ l. t ∷ l) (same_terms ts)

  rise_alike : RiseStrictly (named (λ v. v) (terms_of f))
  rise_alike = subst RiseStrictly (sym (same_terms (terms_of f))) (terms_rise f)

  pub composed_itself : f ≡ composed e f
  composed_itself =
      sym (function_of-terms f)
      ∙ ap (λ ts. function_of ts f.constant) (sym (same_terms (terms_of f)))
      ∙ composed_named e (λ v. v) f h rise_alike

  pub fits_itself : IsTrue (substitution_fits e f)
  fits_itself = fits_named e (λ v. v) f h rise_alike

-- ---- a function that is a variable

pub sole : (f : Function) (ts : Terms) (s t : Address × Rational) → ts ≡ terms_of f
    → 1 ≤ length ts → length ts < 2 → (get_or ts 0 t).1 ≡ one_ℚ → f.constant ≡ zero_ℚ
    → f ≡ variable (get_or ts 0 s).0
unfolding variable
sole f [] s t all low high one none = absurd (omega (arith, low))
sole f (u ∷ []) s t all low high one none =
    sym (function_of-terms f)
    ∙ ap₂ function_of (sym all ∙ ap (λ q. (u.0, q) ∷ []) one) none
sole f (u ∷ w ∷ ts) s t all low high one none = absurd (omega (arith, high))

-- its name is that of what stands for a variable
name_is : (e : Address → Function) (v name : Address) → e v ≡ variable name
    → name ≡ name_by e v
name_is e v name is =
    sym (ap (λ ts. option_map_or (λ t. t.0) (slice_get ts 0) v)
    (ap terms_of is ∙ terms-variable address_cmp name))

-- ---- terms named from the first to the last

module _ (e : Address → Function) (ts : Terms) where
  abbrev pub AreSoFar : ℕ → Terms → Type 0
  AreSoFar i made =
      (made ++ named (name_by e) (drop i ts) ≡ named (name_by e) ts)
      × All (IsNamed e (name_by e)) (take i ts)

  pub named_more : (i : ℕ) (t : Address × Rational) (name : Address) (old new : Terms)
      → t ≡ get_or ts i t → i < length ts → e t.0 ≡ variable name → Fits t.1
      → new ≡ old ++ (name, t.1) ∷ [] → AreSoFar i old → AreSoFar (i + 1) new
  named_more i t name old new is lt stands fit pushed so_far =
      let own : name ≡ name_by e t.0 = name_is e t.0 name stands in (
        pushed_next (λ t. (name_by e t.0, t.1)) old new (named (name_by e) ts) (drop i ts)
            (drop (i + 1) ts) t so_far.0 (next_item ts ts i t (λ j. ts) is lt)
            (pushed ∙ ap (λ n. old ++ (n, t.1) ∷ []) own),
        subst (All (IsNamed e (name_by e))) (sym (taken_item ts i t is lt))
            (All-push (IsNamed e (name_by e)) (take i ts) t so_far.1
            (record { name = stands ∙ ap (λ n. variable n) own; fits = fit })),
      )

  pub named_all : (i : ℕ) (f : Function) (made : Terms) → length ts ≤ i → ts ≡ terms_of f
      → Fits f.constant → AreSoFar i made
      → (made ≡ named (name_by e) (terms_of f)) × AreNamed e (name_by e) f
  named_all i f made end all fit so_far = (
    pushed_all (λ t. (name_by e t.0, t.1)) made (named (name_by e) ts) (drop i ts) so_far.0
        (drop_all i ts end)
        ∙ ap (named (name_by e)) all,
    record {
      constant = fit;
      terms = subst (All (IsNamed e (name_by e))) (take_all i ts end ∙ all) so_far.1;
    },
  )
