-- What a map of addresses tells of variables is what stood for them.
use Rattle.std.specs.Prelude.{◌≡◌, Bool, true, false, ◌||◌, cond, List, [], ◌∷◌, All, Contains, flat_map, map, Some, None, slice_get, refl}
use Rattle.std.specs.FinMap as finite
use Rattle.std.specs.Option.{option_map_or}
use Rattle.std.proofs.Common.{ap, subst, sym, ◌∙◌, true≢false}
use Rattle.std.proofs.lemmas.List.{map-append}
use Rattle.std.proofs.lemmas.List.Elements.{All-cons, All-nil, Contains-append_left, Contains-append_right}
use Rattle.aff_core.specs.Address.{Address, address_cmp, address_eq, address_eq-Decides, address_total}
use Rattle.aff_core.specs.Function.{Function}
use Rattle.aff_core.specs.FunctionLaws.{terms-variable}
use Rattle.address_map.specs.AddressMap.{AddressMap}
use Rattle.bridge_face.specs.Law.{expressed}
use Rattle.found_plan.specs.Read.{first_named, is_marked, read_expression}
use Rattle.fresh_bridging.specs.Entries.{is_kept}
use Rattle.fresh_bridging.specs.FreshBridging.{FreshBridging, expression_of}
use Rattle.fresh_bridging.specs.ModelImage.{group_item}
use Rattle.fresh_bridging.specs.TheRules.{Setting}
use Rattle.item_core.specs.declared.image.Expression.{Expression}
use Rattle.item_core.specs.declared.image.Expression.TheVariants.{Bridged, Kept}
use Rattle.leaf_update.specs.LeavesLaws.{among_contained, contains_among}
use Rattle.leaf_update.specs.Others.{among}
use Rattle.local_laws.specs.ExpressedLaws.{nobody_expresses}
use Rattle.local_laws.specs.Held.{HasOwn}
use Rattle.local_laws.specs.Sound.{IsValidUnder}
use Rattle.local_laws.specs.Views.{look}
use Rattle.map_laws.specs.MadeLaws.{get_made}
use Rattle.model_bridging.specs.Expressions.{expressions_by}
use Rattle.model_bridging.specs.Planned.{variables_of_the_model}
use Rattle.user_model.specs.Model.{ModelValue, variable_address}
use Rattle.user_model.specs.declared.group.Group.{Group}
use Rattle.user_model.specs.declared.group.GroupVar.{GroupVar}

looked_at : (g : Address → Function) (vs : List Address) (v : Address)
    → look v (map (λ u. (u, g u)) vs) ≡ cond (among vs v) (Some (g v)) None
looked_at g [] v = refl
looked_at g (u ∷ us) v = by (address_eq v u) refl (looked_at g us v)
  where
    by : (b : Bool) → address_eq v u ≡ b
        → look v (map (λ u. (u, g u)) us) ≡ cond (among us v) (Some (g v)) None
        → cond b (Some (g u)) (look v (map (λ u. (u, g u)) us))
        ≡ cond (b || among us v) (Some (g v)) None
    by true e rest = ap (λ w. Some (g w)) (sym ((address_eq-Decides v u).0 e))
    by false e rest = rest

none_own : (v : Address) (gs : List Group)
    → ¬ (Contains (map (λ (x : GroupVar). variable_address x.number)
    (flat_map (λ (g : Group). g.vars) gs)) v)
    → All (λ i. ¬ (HasOwn v i)) (map group_item gs)
none_own v [] n = All-nil (λ i. ¬ (HasOwn v i))
none_own v (g ∷ gs) n =
    let at = λ (x : GroupVar). variable_address x.number in
    let parts = map-append at g.vars (flat_map (λ (g : Group). g.vars) gs) in
    All-cons (λ i. ¬ (HasOwn v i)) (group_item g) (map group_item gs)
    (λ c. n (carried parts (Contains-append_left (map at g.vars)
    (map at (flat_map (λ (g : Group). g.vars) gs)) v c)))
    (none_own v gs (λ c. n (carried parts (Contains-append_right (map at g.vars)
    (map at (flat_map (λ (g : Group). g.vars) gs)) v c))))
  where
    carried : {xs ys : List Address} → ys ≡ xs → Contains xs v → Contains ys v
    carried e c = subst (λ l. Contains l v) (sym e) c

module _ {setting : Setting} {model : ModelValue} (sound : IsValidUnder setting model)
    (bridging : FreshBridging setting model) (places : AddressMap)
    (exprs : places.exprs ≡ expressions_by bridging)
    (marks : (v : Address) → Contains (variables_of_the_model model) v
    → is_marked places v ≡ is_kept (expression_of bridging v)) (v : Address) where
  abbrev vars : List Address
  vars = variables_of_the_model model

  found : finite.get places.exprs v
      ≡ cond (among vars v) (Some (expressed (expression_of bridging v))) None
  found =
      ap (λ m. finite.get m v) exprs
      ∙ get_made address_total (map (λ u. (u, expressed (expression_of bridging u))) vars) v
      ∙ looked_at (λ u. expressed (expression_of bridging u)) vars v

  -- a kept variable is the only one that its function names
  settled : (e : Expression)
      → cond (is_kept e) (Kept (first_named v (expressed e))) (Bridged (expressed e)) ≡ e
  settled (Kept w) =
      ap (λ ts. Kept (option_map_or (λ t. t.0) (slice_get ts 0) v)) (terms-variable address_cmp w)
  settled (Bridged f) = refl

  pub read_is : read_expression places v ≡ expression_of bridging v
  read_is = by (among vars v) refl found
    where
      by : (b : Bool) → among vars v ≡ b
          → finite.get places.exprs v
          ≡ cond b (Some (expressed (expression_of bridging v))) None
          → read_expression places v ≡ expression_of bridging v
      by true e f =
          ap (λ o. option_map_or (λ f. cond (is_marked places v) (Kept (first_named v f))
          (Bridged f)) o (Kept v)) f
          ∙ ap (λ b. cond b (Kept (first_named v (expressed (expression_of bridging v))))
          (Bridged (expressed (expression_of bridging v)))) (marks v (contains_among v vars e))
          ∙ settled (expression_of bridging v)
      by false e f =
          ap (λ o. option_map_or (λ f. cond (is_marked places v) (Kept (first_named v f))
          (Bridged f)) o (Kept v)) f
          ∙ sym (nobody_expresses sound bridging v (none_own v model.groups
          (λ c. true≢false (sym (among_contained v vars c) ∙ e))))
