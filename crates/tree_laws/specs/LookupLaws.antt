-- What stands for a variable in lists of entries.
use Rattle.std.specs.Prelude.{◌≡◌, ◌⊎◌, zero, suc, Bool, true, false, cond, List, [], ◌∷◌, ◌++◌, Contains, Some, find, length, map, refl}
use Rattle.std.specs.List.{zip}
use Rattle.std.specs.Option.{option_map_or}
use Rattle.std.proofs.Common.{arith, inl, inr, sym, ap, ap₂, subst, ◌∙◌}
use Rattle.std.proofs.lemmas.List.Elements.{All-head, All-tail}
use Rattle.ratio_core.specs.Rational.{zero_ℚ}
use Rattle.aff_core.specs.Address.{Address, address_cmp, address_eq, address_eq-Decides}
use Rattle.aff_core.specs.Arithmetic.{composed}
use Rattle.aff_core.specs.ArithmeticLaws.{coefficient-composed}
use Rattle.aff_core.specs.Function.{Function, coefficient, variable}
use Rattle.aff_core.specs.FunctionLaws.{coefficient-variable_other}
use Rattle.aff_core.specs.KeyOrder.{address_order}
use Rattle.linear_laws.specs.SlopeLaws.{slope_agreeing}
use Rattle.linear_laws.specs.UnitLaws.{same_or_other}
use Rattle.item_core.specs.declared.image.Expression.{Expression}
use Rattle.item_core.specs.declared.image.Expression.TheVariants.{Kept, Bridged}
use Rattle.bridge_face.specs.Law.{expressed}
use Rattle.fresh_bridging.specs.Entries.{Entry, expression_in, function_in, put_into}
use Rattle.fresh_bridging.specs.MentionLaws.{AllOmit, Omits, composed-variable, slope_zero}
use Rattle.address_laws.specs.Apart.{Avoids, Distinct, in_or_not, not_in}

abbrev pub components : List Entry → List Address
components entries = map (λ e. e.component) entries

-- what is found behind a first entry
step : (b : Bool) (e : Entry) (es : List Entry) (v : Address) → address_eq e.component v ≡ b
    → expression_in (e ∷ es) v ≡ cond b e.expression (expression_in es v)
step b e es v is =
    ap (λ t. option_map_or (λ x. x.expression)
    (cond t (Some e) (find (λ x. address_eq x.component v) es)) (Kept v)) is
    ∙ by b
  where
    by : (t : Bool)
        → option_map_or (λ x. x.expression)
        (cond t (Some e) (find (λ x. address_eq x.component v) es)) (Kept v)
        ≡ cond t e.expression (expression_in es v)
    by true = refl
    by false = refl

other_component : (e : Entry) (v : Address) → ¬ (e.component ≡ v)
    → address_eq e.component v ≡ false
other_component e v n = by (address_eq e.component v) refl
  where
    by : (b : Bool) → address_eq e.component v ≡ b → b ≡ false
    by true is = absurd (n ((address_eq-Decides e.component v).0 is))
    by false is = refl

same_component : (e : Entry) (v : Address) → e.component ≡ v → address_eq e.component v ≡ true
same_component e v is = (address_eq-Decides e.component v).1 is

-- a variable that no entry is of stands for itself
pub itself : (es : List Entry) (v : Address) → Avoids (components es) v
    → expression_in es v ≡ Kept v
itself [] v h = refl
itself (e ∷ es) v h =
    step false e es v
    (other_component e v (All-head (λ k. ¬ (k ≡ v)) e.component (components es) h))
    ∙ itself es v (All-tail (λ k. ¬ (k ≡ v)) e.component (components es) h)

-- ---- two lists

pub found_second : (es fs : List Entry) (v : Address) → Avoids (components es) v
    → expression_in (es ++ fs) v ≡ expression_in fs v
found_second [] fs v h = refl
found_second (e ∷ es) fs v h =
    step false e (es ++ fs) v
    (other_component e v (All-head (λ k. ¬ (k ≡ v)) e.component (components es) h))
    ∙ found_second es fs v (All-tail (λ k. ¬ (k ≡ v)) e.component (components es) h)

pub found_first : (es fs : List Entry) (v : Address) → Contains (components es) v
    → expression_in (es ++ fs) v ≡ expression_in es v
found_first [] fs v c = absurd (omega (arith, c.1))
found_first (e ∷ es) fs v (zero, inside, is) =
    step true e (es ++ fs) v (same_component e v is)
    ∙ sym (step true e es v (same_component e v is))
found_first (e ∷ es) fs v (suc place, inside, is) =
    by (address_eq e.component v) refl (found_first es fs v (place, omega (arith, inside), is))
  where
    by : (b : Bool) → address_eq e.component v ≡ b
        → expression_in (es ++ fs) v ≡ expression_in es v
        → expression_in (e ∷ (es ++ fs)) v ≡ expression_in (e ∷ es) v
    by b same rest =
        step b e (es ++ fs) v same ∙ ap (cond b e.expression) rest ∙ sym (step b e es v same)

-- ---- variables by themselves

pub own_lookup : (vars : List Address) (v : Address)
    → expression_in (map (λ u. record { component = u; expression = Kept u }) vars) v ≡ Kept v
own_lookup [] v = refl
own_lookup (u ∷ us) v =
    same_or_other
    (expression_in (map (λ w. record { component = w; expression = Kept w }) (u ∷ us)) v ≡ Kept v)
    u v
    (λ e. step true first rest v (same_component first v e) ∙ ap Kept e)
    (λ n. step false first rest v (other_component first v n) ∙ own_lookup us v)
  where
    first : Entry
    first = record { component = u; expression = Kept u }

    rest : List Entry
    rest = map (λ w. record { component = w; expression = Kept w }) us

-- ---- given for each of some variables

abbrev pub given : List Entry → Address × Expression → Entry
given inner p = record { component = p.0; expression = put_into inner p.1 }

pub given_lookup : (inner : List Entry) (vars : List Address) (exprs : List Expression)
    → Distinct vars → length exprs ≡ length vars
    → map (expression_in (map (given inner) (zip vars exprs))) vars ≡ map (put_into inner) exprs
given_lookup inner [] [] d n = refl
given_lookup inner [] (e ∷ es) d n = absurd (omega (arith, n))
given_lookup inner (v ∷ vs) [] d n = absurd (omega (arith, n))
given_lookup inner (v ∷ vs) (e ∷ es) d n =
    ap₂ ◌∷◌ (step true first rest v (same_component first v refl))
    (later vs d.0 ∙ given_lookup inner vs es d.1 (omega (arith, n)))
  where
    first : Entry
    first = given inner (v, e)

    rest : List Entry
    rest = map (given inner) (zip vs es)

    later : (us : List Address) → Avoids us v
        → map (expression_in (first ∷ rest)) us ≡ map (expression_in rest) us
    later [] h = refl
    later (u ∷ us) h =
        ap₂ ◌∷◌
        (step false first rest u
        (other_component first u (λ k. All-head (λ w. ¬ (w ≡ v)) u us h (sym k))))
        (later us (All-tail (λ w. ¬ (w ≡ v)) u us h))

pub given_components : (inner : List Entry) (vars : List Address) (exprs : List Expression)
    → length exprs ≡ length vars → components (map (given inner) (zip vars exprs)) ≡ vars
given_components inner [] exprs n = refl
given_components inner (v ∷ vs) [] n = absurd (omega (arith, n))
given_components inner (v ∷ vs) (e ∷ es) n =
    ap (λ l. v ∷ l) (given_components inner vs es (omega (arith, n)))

pub own_components : (vars : List Address)
    → components (map (λ u. record { component = u; expression = Kept u }) vars) ≡ vars
own_components [] = refl
own_components (v ∷ vs) = ap (λ l. v ∷ l) (own_components vs)

-- ---- what isn't mentioned once expressions are put in

pub found_omits : (es : List Entry) (u v : Address) → Contains (components es) u → AllOmit v es
    → Omits v (expression_in es u)
found_omits [] u v c all = absurd (omega (arith, c.1))
found_omits (e ∷ es) u v c all =
    same_or_other (Omits v (expression_in (e ∷ es) u)) e.component u
    (λ is. subst (Omits v) (sym (step true e es u (same_component e u is)))
    (All-head (λ x. Omits v x.expression) e es all))
    (λ n. subst (Omits v) (sym (step false e es u (other_component e u n)))
    (found_omits es u v (later n c) (All-tail (λ x. Omits v x.expression) e es all)))
  where
    later : ¬ (e.component ≡ u) → Contains (components (e ∷ es)) u → Contains (components es) u
    later n (zero, inside, is) = absurd (n is)
    later n (suc place, inside, is) = (place, omega (arith, inside), is)

-- it isn't mentioned, or an entry stands for it
abbrev pub Missed : List Entry → Address → Function → Type 0
Missed es v f = (coefficient f v ≡ zero_ℚ) ⊎ Contains (components es) v

pub composed_misses : (es : List Entry) (f : Function) (v : Address) → AllOmit v es
    → Missed es v f → coefficient (composed (function_in es) f) v ≡ zero_ℚ
composed_misses es f v all missed =
    coefficient-composed address_order (function_in es) f v
    ∙ slope_agreeing f (λ u. coefficient (function_in es u) v) (λ _. zero_ℚ) each
    ∙ slope_zero f
  where
    alone : (u : Address) → ¬ (coefficient f u ≡ zero_ℚ) → Avoids (components es) u
        → coefficient (variable {R = address_cmp} u) v ≡ zero_ℚ
    alone u some n = coefficient-variable_other address_order u v (λ same. other missed (sym same))
      where
        other : Missed es v f → u ≡ v → ⊥
        other (inl z) e = some (ap (coefficient f) e ∙ z)
        other (inr c) e = not_in (components es) v (subst (Avoids (components es)) e n) c

    each : (u : Address) → ¬ (coefficient f u ≡ zero_ℚ) → coefficient (function_in es u) v ≡ zero_ℚ
    each u some = by (in_or_not (components es) u)
      where
        by : Contains (components es) u ⊎ Avoids (components es) u
            → coefficient (function_in es u) v ≡ zero_ℚ
        by (inl c) = found_omits es u v c all
        by (inr n) = subst (Omits v) (sym (itself es u n)) (alone u some n)

-- an expression, likewise
pub put_misses : (es : List Entry) (e : Expression) (v : Address) → AllOmit v es
    → Missed es v (expressed e) → Omits v (put_into es e)
put_misses es (Kept var) v all missed =
    subst (λ g. coefficient g v ≡ zero_ℚ) (composed-variable (function_in es) var)
    (composed_misses es (variable var) v all missed)
put_misses es (Bridged func) v all missed = composed_misses es func v all missed
