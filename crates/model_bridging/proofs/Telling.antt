-- Telling of variables whether they are kept.
use Rattle.std.specs.Prelude.{◌≡◌, ℕ, Bool, true, false, ◌||◌, cond, List, [], ◌∷◌, map, Option, Some, unwrap_or, refl}
use Rattle.std.proofs.Common.{ap, sym, ◌∙◌}
use Rattle.std.specs.FinMap as finite
use Rattle.std.specs.FinMap.{FinMap, get-empty, get-insert}
use Rattle.std.specs.List.{list_any}
use Rattle.std.specs.Cmp.{eq_by_cmp_equiv}
use Rattle.bridge_graph.specs.declared.Choice.{Choice}
use Rattle.aff_core.specs.Address.{Address, address_cmp, address_eq, address_total}
use Rattle.item_core.specs.KindOf.{group_kind_of, kind_of_body}
use Rattle.user_model.specs.Model.{variable_address}
use Rattle.user_model.specs.declared.group.Group.{Group}
use Rattle.fresh_bridging.specs.ModelImage.{group_item}
use Rattle.bridge_plan.specs.KeptGroups.{keeps}
use Rattle.model_bridging.specs.Kinds.{is_kept_by, told}

abbrev pub Told : Type 0
Told = FinMap address_cmp Bool

-- one of the addresses is this one
abbrev pub is_among : List Address → Address → Bool
is_among vars v = list_any (λ u. address_eq u v) vars

module _ (kept : Bool) where
  put_read : (b : Bool) (o : Option Bool)
      → unwrap_or (cond b (Some kept) o) true ≡ cond b kept (unwrap_or o true)
  put_read true o = refl
  put_read false o = refl

  told_put : (now : Told) (u v : Address)
      → told (finite.insert now u kept) v ≡ cond (address_eq u v) kept (told now v)
  told_put now u v =
      ap (λ o. unwrap_or o true) (get-insert address_total now u kept v)
      ∙ (put_read (address_eq v u) (finite.get now v)
      ∙ ap (λ b. cond b kept (told now v)) ((eq_by_cmp_equiv address_total).symm v u))

  regrouped : (a b t : Bool) → cond b kept (cond a kept t) ≡ cond (a || b) kept t
  regrouped true true t = refl
  regrouped true false t = refl
  regrouped false b t = refl

  -- what is entered now, with what is left to enter, makes the whole
  pub record IsToldSoFar (all left : List Address) (old now : Told) : Type 0 where
    pub told_now : (v : Address)
        → cond (is_among left v) kept (told now v) ≡ cond (is_among all v) kept (told old v)

  pub tell_more : (all left rest : List Address) (old now after : Told) (u : Address)
      → IsToldSoFar all left old now → left ≡ u ∷ rest → after ≡ finite.insert now u kept
      → IsToldSoFar all rest old after
  tell_more all left rest old now after u h next put = record {
    told_now = λ v. ap (λ m. cond (is_among rest v) kept (told m v)) put
        ∙ (ap (cond (is_among rest v) kept) (told_put now u v)
        ∙ (regrouped (address_eq u v) (is_among rest v) (told now v)
        ∙ (sym (ap (λ l. cond (is_among l v) kept (told now v)) next) ∙ h.told_now v)));
  }

pub none_told : (choice : ℕ → Choice) (now : Told) → now ≡ finite.empty
    → (v : Address) → told now v ≡ is_kept_by choice [] v
unfolding is_kept_by
none_told choice now none v =
    ap (λ m. told m v) none ∙ ap (λ o. unwrap_or o true) (get-empty address_cmp v)

-- one more group, before those that were told of
pub group_more : (choice : ℕ → Choice) (group : Group) (taken : List Group) (now after : Told)
    (kept : Bool) → kept ≡ keeps choice (group_kind_of group.set)
    → ((v : Address) → told now v ≡ is_kept_by choice (map group_item taken) v)
    → ((v : Address) → told after v
    ≡ cond (is_among (map (λ x. variable_address x.number) group.vars) v) kept (told now v))
    → (v : Address) → told after v ≡ is_kept_by choice (map group_item (group ∷ taken)) v
unfolding is_kept_by kind_of_body
group_more choice group taken now after kept is so_far said v =
    said v
    ∙ (ap (λ b. cond (is_among (map (λ x. variable_address x.number) group.vars) v) b (told now v))
    is
    ∙ ap (cond (is_among (map (λ x. variable_address x.number) group.vars) v)
    (keeps choice (group_kind_of group.set))) (so_far v))
