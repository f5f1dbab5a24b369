-- What a map of addresses has for a variable is what stands for it in the bridging that it holds.
use Rattle.std.specs.Prelude.{◌≡◌, ◌⊎◌, ◌↔◌, ◌&&◌, ◌++◌, zero, suc, Bool, true, false, cond, List, [], ◌∷◌, All, Contains, Option, Some, None, flat_map, is_some, map, refl}
use Rattle.std.specs.Bool.{beq}
use Rattle.std.specs.FinMap as finite
use Rattle.std.specs.Option.{option_map_or}
use Rattle.std.proofs.Common.{arith, inl, inr, sym, ap, ap₂, subst, ◌∙◌, true≢false}
use Rattle.std.proofs.lemmas.List.{map-append}
use Rattle.std.proofs.lemmas.List.Elements.{All-cons, All-nil, Contains-append_left, Contains-append_right}
use Rattle.map_laws.specs.EachLaws.{cons_head}
use Rattle.address_map.specs.AddressMap.{AddressMap}
use Rattle.aff_core.specs.Address.{Address, address_cmp, address_eq, address_eq-Decides, address_total}
use Rattle.aff_core.specs.Function.{Function, variable}
use Rattle.aff_core.specs.FunctionEq.{function_eq, function_eq-Decides}
use Rattle.aff_core.specs.FunctionLaws.{terms-variable}
use Rattle.bridge_face.specs.Law.{expressed}
use Rattle.fresh_bridging.specs.Entries.{is_kept}
use Rattle.fresh_bridging.specs.FreshBridging.{FreshBridging, expression_of}
use Rattle.fresh_bridging.specs.ModelImage.{group_item}
use Rattle.fresh_bridging.specs.TheRules.{Setting}
use Rattle.item_core.specs.declared.image.Expression.{Expression}
use Rattle.item_core.specs.declared.image.Expression.TheVariants.{Kept, Bridged}
use Rattle.local_laws.specs.ExpressedLaws.{nobody_expresses}
use Rattle.local_laws.specs.Held.{HasOwn}
use Rattle.local_laws.specs.LookedLaws.{contains_or_not}
use Rattle.local_laws.specs.Sound.{IsValidUnder}
use Rattle.model_bridging.specs.Expressions.{expressions_by}
use Rattle.model_bridging.specs.Planned.{variables_of_the_model}
use Rattle.user_model.specs.Model.{ModelValue, variable_address}
use Rattle.user_model.specs.declared.group.Group.{Group}
use Rattle.touched_items.specs.HeldExpressions.{is_itself, kept_by, stays_as}

-- the map has the expressions of the bridging, and marks the variables that are kept
pub record HasExpressions {setting : Setting} {model : ModelValue} (m : AddressMap)
    (bridging : FreshBridging setting model) : Type 0 where
  pub exprs : m.exprs ≡ expressions_by bridging
  pub marks :
      (v : Address) → Contains (variables_of_the_model model) v
      → is_some (finite.get m.kept v) ≡ is_kept (expression_of bridging v)

-- ---- a function of some addresses, as a map

module _ {X : Type 0} (f : Address → X) (v : Address) where
  has_value : (vs : List Address) → Contains vs v
      → finite.find address_cmp v (map (λ u. (u, f u)) vs) ≡ Some (f v)
  has_value [] c = absurd (omega (arith, c.1))
  has_value (u ∷ us) c = by (address_eq v u) refl c (has_value us)
    where
      by : (b : Bool) → address_eq v u ≡ b → Contains (u ∷ us) v
          → (Contains us v → finite.find address_cmp v (map (λ u. (u, f u)) us) ≡ Some (f v))
          → cond b (Some (f u)) (finite.find address_cmp v (map (λ u. (u, f u)) us)) ≡ Some (f v)
      by true e c later = ap (λ w. Some (f w)) (sym ((address_eq-Decides v u).0 e))
      by false e (zero, inside, is) later =
          absurd (true≢false (sym ((address_eq-Decides v u).1 (sym is)) ∙ e))
      by false e (suc i, inside, is) later = later (i, omega (arith, inside), is)

  has_none : (vs : List Address) → ¬ (Contains vs v)
      → finite.find address_cmp v (map (λ u. (u, f u)) vs) ≡ None
  has_none [] n = refl
  has_none (u ∷ us) n =
      by (address_eq v u) refl (has_none us (λ c. n (suc c.0, omega (arith, c.1), c.2)))
    where
      by : (b : Bool) → address_eq v u ≡ b
          → finite.find address_cmp v (map (λ u. (u, f u)) us) ≡ None
          → cond b (Some (f u)) (finite.find address_cmp v (map (λ u. (u, f u)) us)) ≡ None
      by true e later =
          absurd (n (0, omega arith, sym ((address_eq-Decides v u).0 e)))
      by false e later = later

-- ---- expressions

same_variable : (a b : Address)
    → variable {R = address_cmp} a ≡ variable {R = address_cmp} b → a ≡ b
same_variable a b e =
    ap (λ t. t.0)
    (cons_head _ _ [] [] (sym (terms-variable address_cmp a)
    ∙ ap (λ (f : Function). finite.entries f.terms) e
    ∙ terms-variable address_cmp b))

same_expression : (e f : Expression) → is_kept e ≡ is_kept f → expressed e ≡ expressed f → e ≡ f
same_expression (Kept a) (Kept b) k s = ap Kept (same_variable a b s)
same_expression (Kept a) (Bridged g) k s = absurd (true≢false k)
same_expression (Bridged f) (Kept b) k s = absurd (true≢false (sym k))
same_expression (Bridged f) (Bridged g) k s = ap Bridged s

both_true : (a b : Bool) → (a && b) ≡ true → (a ≡ true) × (b ≡ true)
both_true true b e = (refl, e)
both_true false b e = absurd (true≢false (sym e))

same_bool : (a b : Bool) → beq a b ≡ true → a ≡ b
same_bool true true e = refl
same_bool true false e = absurd (true≢false (sym e))
same_bool false true e = absurd (true≢false (sym e))
same_bool false false e = refl

bool_itself : (a : Bool) → beq a a ≡ true
bool_itself true = refl
bool_itself false = refl

itself_is : (v : Address) (e : Expression) → is_itself v (kept_by e) ≡ true → Kept v ≡ e
itself_is v (Kept k) is = ap Kept (sym ((address_eq-Decides k v).0 is))
itself_is v (Bridged f) is = absurd (true≢false (sym is))

is_its : (v : Address) (e : Expression) → Kept v ≡ e → is_itself v (kept_by e) ≡ true
is_its v e is =
    subst (λ e. is_itself v (kept_by e) ≡ true) is ((address_eq-Decides v v).1 refl)

-- ---- variables of groups

abbrev addresses_of : Group → List Address
addresses_of g = map (λ v. variable_address v.number) g.vars

own_none : (v : Address) (gs : List Group)
    → ¬ (Contains (map (λ v. variable_address v.number) (flat_map (λ g. g.vars) gs)) v)
    → All (λ i. ¬ (HasOwn v i)) (map group_item gs)
own_none v [] n = All-nil (λ i. ¬ (HasOwn v i))
own_none v (g ∷ gs) n =
    All-cons (λ i. ¬ (HasOwn v i)) (group_item g) (map group_item gs)
    (λ c. out (Contains-append_left (addresses_of g)
    (map (λ v. variable_address v.number) (flat_map (λ g. g.vars) gs)) v c))
    (own_none v gs (λ c. out (Contains-append_right (addresses_of g)
    (map (λ v. variable_address v.number) (flat_map (λ g. g.vars) gs)) v c)))
  where
    out : ¬ (Contains (addresses_of g
        ++ map (λ v. variable_address v.number) (flat_map (λ g. g.vars) gs)) v)
    out c =
        n (subst (λ l. Contains l v)
        (sym (map-append (λ v. variable_address v.number) g.vars (flat_map (λ g. g.vars) gs))) c)

module _ {setting : Setting} {model : ModelValue} (sound : IsValidUnder setting model)
    (m : AddressMap) (bridging : FreshBridging setting model) (has : HasExpressions m bridging)
  where
    got : (v : Address)
        → finite.get m.exprs v
        ≡ finite.find address_cmp v
        (map (λ u. (u, expressed (expression_of bridging u))) (variables_of_the_model model))
    got v =
        ap (λ e. finite.get e v) has.exprs
        ∙ finite.get-from_entries address_total
        (map (λ u. (u, expressed (expression_of bridging u))) (variables_of_the_model model)) v

    abbrev held_as : Address → Expression → Option Function → Bool
    held_as v e o =
        option_map_or
        (λ f. beq (is_some (finite.get m.kept v)) (is_kept e) && function_eq f (expressed e))
        o (is_itself v (kept_by e))

    -- an expression is what the map has exactly where it stands for the variable
    pub stays_where : (v : Address) (e : Expression)
        → (stays_as m v e ≡ true) ↔ (expression_of bridging v ≡ e)
    stays_where v e = by (contains_or_not (variables_of_the_model model) v)
      where
        value : Function
        value = expressed (expression_of bridging v)

        by : Contains (variables_of_the_model model) v
            ⊎ (¬ (Contains (variables_of_the_model model) v))
            → (stays_as m v e ≡ true) ↔ (expression_of bridging v ≡ e)
        by (inl c) = (
          λ t. let parts = both_true
              (beq (is_some (finite.get m.kept v)) (is_kept e)) (function_eq value (expressed e))
              (sym (ap (held_as v e) here) ∙ t) in
              same_expression (expression_of bridging v) e
              (sym (has.marks v c)
              ∙ same_bool (is_some (finite.get m.kept v)) (is_kept e) parts.0)
              ((function_eq-Decides value (expressed e)).0 parts.1),
          λ is. ap (held_as v e) here
              ∙ ap₂ (λ a b. a && b)
              (ap (λ b. beq b (is_kept e)) (has.marks v c ∙ ap is_kept is) ∙ bool_itself (is_kept e))
              ((function_eq-Decides value (expressed e)).1 (ap expressed is)),
        )
          where
            here : finite.get m.exprs v ≡ Some value
            here =
                got v
                ∙ has_value (λ u. expressed (expression_of bridging u)) v
                (variables_of_the_model model) c
        by (inr n) = (
          λ t. itself ∙ itself_is v e (sym (ap (held_as v e) nowhere) ∙ t),
          λ is. ap (held_as v e) nowhere ∙ is_its v e (sym itself ∙ is),
        )
          where
            nowhere : finite.get m.exprs v ≡ None
            nowhere =
                got v
                ∙ has_none (λ u. expressed (expression_of bridging u)) v
                (variables_of_the_model model) n

            itself : expression_of bridging v ≡ Kept v
            itself = nobody_expresses sound bridging v (own_none v model.groups n)
