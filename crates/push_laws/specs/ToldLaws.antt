-- What is said of a variable by the kinds of some groups, and else by a mark, is what the kinds of all
-- groups tell, where a group that is left out keeps the variable as the mark says.
use Rattle.std.specs.Prelude.{◌≡◌, ◌<◌, ◌⊎◌, ◌++◌, ℕ, Bool, true, false, cond, List, [], ◌∷◌, All, Contains, filter, find, map, Some, refl}
use Rattle.std.proofs.Common.{arith, inl, inr, ap, sym, subst, ◌∙◌, true≢false}
use Rattle.std.proofs.lemmas.List.Elements.{All-cons, All-head, All-map, All-nil, All-tail, All-weaker, Contains-append_cases, Contains-append_left, Contains-append_right}
use Rattle.std.proofs.lemmas.Option.{none-some, same_Some}
use Rattle.address_laws.specs.Apart.{Avoids, Distinct, distinct-second, in_first, not_in}
use Rattle.aff_core.specs.Address.{Address}
use Rattle.bridge_face.specs.Law.{inner_of}
use Rattle.bridge_graph.specs.declared.Choice.{Choice}
use Rattle.bridge_plan.specs.KeptGroups.{keeps}
use Rattle.item_core.specs.Item.{variables_of}
use Rattle.item_core.specs.KindOf.{kind_of_body}
use Rattle.item_core.specs.declared.item.Item.{Item}
use Rattle.map_laws.specs.EachLaws.{all_first, all_second}
use Rattle.model_bridging.specs.Found.{kept_over}
use Rattle.model_bridging.specs.Kinds.{is_kept_by}
use Rattle.numbered_list.specs.Laws.{Rise-head, Rise-tail}
use Rattle.numbered_list.specs.Numbered.{Rise}
use Rattle.push_laws.specs.AgreeLaws.{contains_one_of, is_one_of, one_of_contained}
use Rattle.tree_laws.specs.UserLaws.{inner_is}
use Rattle.user_model.specs.Consistent.{variable_number}
use Rattle.user_model.specs.Model.{ModelValue, variable_address, variables}
use Rattle.user_model.specs.Valid.{IsValid}
use Rattle.user_model.specs.declared.group.GroupVar.{GroupVar}
use Rattle.fresh_bridging.specs.ModelImage.{model_image}

-- ---- each variable is of one group

numbered_once : (vars : List GroupVar) → Rise variable_number vars
    → Distinct (map (λ v. variable_address v.number) vars)
numbered_once [] rise = tt
numbered_once (x ∷ xs) rise = (
  All-map (λ k. ¬ (k ≡ variable_address x.number)) (λ (w : GroupVar). variable_address w.number) xs
      (All-weaker (λ w. x.number < w.number)
      (λ w. ¬ (variable_address w.number ≡ variable_address x.number))
      (λ w less e.
      let same : w.number ≡ x.number = ap (λ (a : Address). a.number) e in
      omega (arith, less, same)) xs (Rise-head variable_number x xs rise)),
  numbered_once xs (Rise-tail variable_number x xs rise),
)

pub variables_once : (model : ModelValue) → IsValid model
    → Distinct (inner_of (model_image model).groups)
variables_once model valid =
    subst Distinct (sym (inner_is model.groups))
    (numbered_once (variables model) valid.consistent.variables_rise)

module _ (v : Address) where
  -- a variable of a group is one of all groups
  pub among_inner : (p : Item → Bool) (items : List Item) (g : Item) → find p items ≡ Some g
      → Contains (variables_of g.body) v → Contains (inner_of items) v
  among_inner p [] g f c = absurd (none-some g f)
  among_inner p (x ∷ xs) g f c = step (p x) f (λ k. among_inner p xs g k c)
    where
      step : (b : Bool) → cond b (Some x) (find p xs) ≡ Some g
          → (find p xs ≡ Some g → Contains (inner_of xs) v)
          → Contains (variables_of x.body ++ inner_of xs) v
      step true e later =
          Contains-append_left (variables_of x.body) (inner_of xs) v
          (subst (λ (i : Item). Contains (variables_of i.body) v) (sym (same_Some x g e)) c)
      step false e later =
          Contains-append_right (variables_of x.body) (inner_of xs) v (later e)

-- ---- what groups tell

module _ (choice : ℕ → Choice) (v : Address) where
  abbrev has : Item → Bool
  has g = is_one_of (variables_of g.body) v

  abbrev by_kind : Item → Bool
  by_kind g = keeps choice (kind_of_body g.body)

  pub kept_first : (g : Item) (gs : List Item)
      → is_kept_by choice (g ∷ gs) v ≡ cond (has g) (by_kind g) (is_kept_by choice gs v)
  unfolding is_kept_by
  kept_first g gs = refl

  lacks : (g : Item) → Avoids (variables_of g.body) v → has g ≡ false
  lacks g out = by (has g) refl
    where
      by : (b : Bool) → has g ≡ b → b ≡ false
      by true e = absurd (not_in (variables_of g.body) v out (contains_one_of (variables_of g.body) v e))
      by false e = refl

  none_have : (gs : List Item) → Avoids (inner_of gs) v → All (λ g. has g ≡ false) gs
  none_have [] out = All-nil (λ g. has g ≡ false)
  none_have (g ∷ gs) out =
      All-cons (λ g. has g ≡ false) g gs
      (lacks g (all_first (λ k. ¬ (k ≡ v)) (variables_of g.body) (inner_of gs) out))
      (none_have gs (all_second (λ k. ¬ (k ≡ v)) (variables_of g.body) (inner_of gs) out))

  module _ (marked : Address → Bool) where
    over_first : (g : Item) (gs : List Item)
        → kept_over choice marked (g ∷ gs) v
        ≡ cond (has g) (by_kind g) (kept_over choice marked gs v)
    unfolding kept_over
    over_first g gs = refl

    over_none : kept_over choice marked [] v ≡ marked v
    unfolding kept_over
    over_none = refl

    module _ (keep : Item → Bool) where
      -- of no group it is as marked
      none_tells : (gs : List Item) → All (λ g. has g ≡ false) gs
          → kept_over choice marked (filter keep gs) v ≡ marked v
      none_tells [] h = over_none
      none_tells (g ∷ gs) h =
          by (keep g) (All-head (λ g. has g ≡ false) g gs h)
          (none_tells gs (All-tail (λ g. has g ≡ false) g gs h))
        where
          by : (b : Bool) → has g ≡ false
              → kept_over choice marked (filter keep gs) v ≡ marked v
              → kept_over choice marked (cond b (g ∷ filter keep gs) (filter keep gs)) v ≡ marked v
          by true e later =
              over_first g (filter keep gs)
              ∙ ap (λ b. cond b (by_kind g) (kept_over choice marked (filter keep gs) v)) e
              ∙ later
          by false e later = later

      -- a group that is left out keeps the variable as it is marked
      abbrev pub IsMarked : Item → Type 0
      IsMarked g = keep g ≡ false → Contains (variables_of g.body) v → marked v ≡ by_kind g

      pub told_over : (gs : List Item) → Distinct (inner_of gs) → Contains (inner_of gs) v
          → All IsMarked gs
          → kept_over choice marked (filter keep gs) v ≡ is_kept_by choice gs v
      told_over [] once c h = absurd (omega (arith, c.1))
      told_over (g ∷ gs) once c h =
          by (has g) refl (keep g) refl
          (λ k. told_over gs (distinct-second (variables_of g.body) (inner_of gs) once) k
          (All-tail IsMarked g gs h))
        where
          own : has g ≡ true → Contains (variables_of g.body) v
          own e = contains_one_of (variables_of g.body) v e

          rest : has g ≡ false → Contains (inner_of gs) v
          rest e = among (Contains-append_cases (variables_of g.body) (inner_of gs) v c)
            where
              among : Contains (variables_of g.body) v ⊎ Contains (inner_of gs) v
                  → Contains (inner_of gs) v
              among (inl k) =
                  absurd (true≢false (sym (one_of_contained (variables_of g.body) v k) ∙ e))
              among (inr k) = k

          all_kept : (b : Bool) → has g ≡ b
              → is_kept_by choice (g ∷ gs) v ≡ cond b (by_kind g) (is_kept_by choice gs v)
          all_kept b e =
              kept_first g gs ∙ ap (λ b. cond b (by_kind g) (is_kept_by choice gs v)) e

          some_kept : (b : Bool) → has g ≡ b
              → kept_over choice marked (g ∷ filter keep gs) v
              ≡ cond b (by_kind g) (kept_over choice marked (filter keep gs) v)
          some_kept b e =
              over_first g (filter keep gs)
              ∙ ap (λ b. cond b (by_kind g) (kept_over choice marked (filter keep gs) v)) e

          by : (b : Bool) → has g ≡ b → (k : Bool) → keep g ≡ k
              → (Contains (inner_of gs) v
              → kept_over choice marked (filter keep gs) v ≡ is_kept_by choice gs v)
              → kept_over choice marked (cond k (g ∷ filter keep gs) (filter keep gs)) v
              ≡ is_kept_by choice (g ∷ gs) v
          by true e true f later = some_kept true e ∙ sym (all_kept true e)
          by true e false f later =
              none_tells gs (none_have gs
              (in_first (variables_of g.body) (inner_of gs) v once (own e)))
              ∙ All-head IsMarked g gs h f (own e)
              ∙ sym (all_kept true e)
          by false e true f later =
              some_kept false e ∙ later (rest e) ∙ sym (all_kept false e)
          by false e false f later = later (rest e) ∙ sym (all_kept false e)
