-- The rows and the objective, planned in turn, and the whole model.
use Rattle.std.specs.Prelude.{◌≡◌, ℕ, Bool, true, false, ◌&&◌, not, cond, IsTrue, List, [], ◌∷◌, ◌++◌, All, Option, Some, None, Result, Ok, Err, IsErrAnd, filter, flat_map, map, refl}
use Rattle.std.proofs.Common.{ap, ap₂, sym, subst, ◌∙◌}
use Rattle.std.specs.Option.{option_map, option_or}
use Rattle.std.proofs.lemmas.List.{append-nil, map-append}
use Rattle.std.proofs.lemmas.List.Elements.{All-head}
use Rattle.std.proofs.lemmas.List.Folds.{find-append}
use Rattle.bridge_graph.specs.declared.Choice.{Choice}
use Rattle.ratio_core.specs.declared.fault.NumberFault.{NumberFault}
use Rattle.ratio_core.specs.declared.fault.NumberFault.TheVariants as fault
use Rattle.ratio_core.specs.Answers.{ExactWhere}
use Rattle.aff_core.specs.Address.{Address, root_address}
use Rattle.aff_core.specs.Function.{Function}
use Rattle.aff_core.specs.declared.root.Root.TheVariants as root
use Rattle.expansion.specs.Grown.{Held, joined, put_held}
use Rattle.item_core.specs.declared.image.Expression.{Expression}
use Rattle.item_core.specs.declared.item.Body.TheVariants.{AffineObj, PlainObj}
use Rattle.item_core.specs.declared.item.Item.{Item}
use Rattle.bridge_face.specs.Law.{expressed}
use Rattle.user_model.specs.Model.{variable_address}
use Rattle.user_model.specs.declared.group.Group.{Group}
use Rattle.user_model.specs.declared.group.GroupVar.{GroupVar}
use Rattle.user_model.specs.declared.objective.Objective.{Objective}
use Rattle.user_model.specs.declared.objective.Objective.TheVariants as objective
use Rattle.map_laws.specs.EachLaws.{all_second}
use Rattle.item_core.specs.Kind.{kind_count}
use Rattle.fresh_bridging.specs.Entries.{Entry, expression_in, is_kept, put_in, put_in_fits}
use Rattle.fresh_bridging.specs.ModelImage.{group_item, objective_item, objective_items}
use Rattle.fresh_bridging.specs.TableLaws.{and_first}
use Rattle.fresh_bridging.specs.TheRules.{rules_by}
use Rattle.bridge_plan.specs.AddsHeld.{AddsHeld, kept_of}
use Rattle.bridge_plan.specs.Alike.{put_alike, put_fits_alike, worked_in_alike}
use Rattle.bridge_plan.specs.Means.{Means}
use Rattle.bridge_plan.specs.SoFar.{adds_both, joined_assoc}
use Rattle.bridge_plan.specs.Worked.{IsItemWithinLevels, worked, worked_in}
use Rattle.bridge_plan.specs.declared.plan.Plan.{Plan}
use Rattle.model_bridging.specs.ModelHeld.{child_fits, item_fits, unfit, unfit_put}
use Rattle.model_bridging.specs.PlanOutcome.{IsFirstAt, PlanOutcome, refused_at}
use Rattle.model_bridging.specs.Whole.{IsWithinLevels, IsWholePlan, groups_held, kept_among, others_held, unfit_item, with_function}
use Rattle.model_bridging.specs.declared.fault.PushFault.{PushFault}
use Rattle.model_bridging.specs.declared.fault.PushFault.TheVariants.{Memory, Overflow, Unsupported}
use Rattle.model_bridging.specs.declared.model_plan.ModelPlan.{ModelPlan}
use Rattle.model_bridging.proofs.InOrder.{child_answered, from_start, one_answered}

-- ---- outcomes in turn

-- a refusal among the first is one among all
refused_among : (T U : Type 0) (Q : T → Type 0) (S : U → Type 0) (f : PushFault)
    (a b : Option Item) → PlanOutcome {T = U} (Err f) a S → PlanOutcome {T = T} (Err f) (option_or a b) Q
refused_among T U Q S (Unsupported kind) a b h = absurd h
refused_among T U Q S (Overflow at) None b h = cc
refused_among T U Q S (Overflow at) (Some item) b h = h
refused_among T U Q S Memory a b h = tt

pub handed_first : (T U : Type 0) (Q : T → Type 0) (S : U → Type 0) (r : Result T PushFault)
    (f : PushFault) (a b : Option Item) → IsErrAnd r (λ x. x ≡ f) → PlanOutcome {T = U} (Err f) a S
    → PlanOutcome r (option_or a b) Q
handed_first T U Q S (Ok x) f a b is h = absurd is
handed_first T U Q S (Err x) f a b is h =
    subst (λ y. PlanOutcome {T = T} (Err y) (option_or a b) Q) (sym is) (refused_among T U Q S f a b h)

refused_past : (T U : Type 0) (Q : T → Type 0) (S : U → Type 0) (f : PushFault)
    (a b c : Option Item) → a ≡ None → c ≡ b → PlanOutcome {T = U} (Err f) c S
    → PlanOutcome {T = T} (Err f) (option_or a b) Q
refused_past T U Q S (Unsupported kind) a b c none same h = absurd h
refused_past T U Q S (Overflow at) a b c none same h =
    ap (λ o. option_map (λ item. item.at) (option_or o b)) none
    ∙ (ap (option_map (λ item. item.at)) (sym same) ∙ h)
refused_past T U Q S Memory a b c none same h = tt

pub handed_next : (T U : Type 0) (Q : T → Type 0) (S : U → Type 0) (r : Result T PushFault)
    (f : PushFault) (a b c : Option Item) → IsErrAnd r (λ x. x ≡ f) → a ≡ None → c ≡ b
    → PlanOutcome {T = U} (Err f) c S → PlanOutcome r (option_or a b) Q
handed_next T U Q S (Ok x) f a b c is none same h = absurd is
handed_next T U Q S (Err x) f a b c is none same h =
    subst (λ y. PlanOutcome {T = T} (Err y) (option_or a b) Q) (sym is)
    (refused_past T U Q S f a b c none same h)

pub none_of_both : (a b c : Option Item) → a ≡ None → c ≡ b → c ≡ None → option_or a b ≡ None
none_of_both a b c none same other =
    ap (λ o. option_or o b) none ∙ (sym same ∙ other)

-- ---- two lists of further items

module _ (choice : ℕ → Choice) (inner : List Entry) where
  pub held_append : (xs ys : List Item)
      → others_held choice inner (xs ++ ys)
      ≡ joined (others_held choice inner xs) (others_held choice inner ys)
  unfolding worked_in
  held_append [] ys = refl
  held_append (x ∷ xs) ys =
      let one = put_held (rules_by choice) inner x (worked choice kind_count (put_in inner x)) in
      ap (joined one) (held_append xs ys)
      ∙ sym (joined_assoc one (others_held choice inner xs) (others_held choice inner ys))

  pub unfit_append : (xs ys : List Item)
      → unfit_put choice kind_count inner (xs ++ ys)
      ≡ option_or (unfit_put choice kind_count inner xs) (unfit_put choice kind_count inner ys)
  unfit_append xs ys = find-append (λ item. not (child_fits choice kind_count inner item)) xs ys

  pub rows_refused : (T U : Type 0) (Q : T → Type 0) (S : U → Type 0) (r : Result T PushFault)
      (f : PushFault) (xs ys : List Item) → IsErrAnd r (λ x. x ≡ f)
      → PlanOutcome {T = U} (Err f) (unfit_put choice kind_count inner xs) S
      → PlanOutcome r (unfit_put choice kind_count inner (xs ++ ys)) Q
  rows_refused T U Q S r f xs ys is h =
      subst (λ u. PlanOutcome r u Q) (sym (unfit_append xs ys))
      (handed_first T U Q S r f (unfit_put choice kind_count inner xs) (unfit_put choice kind_count inner ys) is h)

  pub both_added : (xs ys : List Item) (plan mid after : Plan)
      → AddsHeld plan mid [] [] (others_held choice inner xs)
      → AddsHeld mid after [] [] (others_held choice inner ys)
      → AddsHeld plan after [] [] (others_held choice inner (xs ++ ys))
  both_added xs ys plan mid after h k =
      subst (AddsHeld plan after [] []) (sym (held_append xs ys))
      (adds_both plan mid after [] [] [] (others_held choice inner xs)
      (others_held choice inner ys) h k)

  -- what holds where the held fits is unfit nowhere
  pub fit_together : (items : List Item) → IsTrue (others_held choice inner items).fits
      → unfit_put choice kind_count inner items ≡ None
  unfolding worked_in
  fit_together [] t = refl
  fit_together (x ∷ xs) t =
      both (child_fits choice kind_count inner x) (others_held choice inner xs).fits t
      (fit_together xs)
    where
      both : (a b : Bool) → (a && b) ≡ true
          → (b ≡ true → unfit_put choice kind_count inner xs ≡ None)
          → cond (not a) (Some x) (unfit_put choice kind_count inner xs) ≡ None
      both true b e later = later e
      both false b e later = cc

-- ---- entries that stand for variables alike

module _ (choice : ℕ → Choice) (es fs : List Entry) (same : expression_in es ≡ expression_in fs)
  where
    pub unfit_alike : (items : List Item)
        → unfit_put choice kind_count es items ≡ unfit_put choice kind_count fs items
    unfit_alike [] = refl
    unfit_alike (x ∷ xs) =
        ap₂ (λ b o. cond (not b) (Some x) o)
        (ap₂ ◌&&◌ (put_fits_alike es fs same x)
        (ap (λ p. item_fits choice kind_count (p x)) (put_alike es fs same))) (unfit_alike xs)

    pub held_alike : (items : List Item) → others_held choice es items ≡ others_held choice fs items
    held_alike items = worked_in_alike es fs same choice (worked choice kind_count) items

    pub within_alike : (items : List Item)
        → All (λ item. IsItemWithinLevels choice kind_count (put_in fs item)) items
        → All (λ item. IsItemWithinLevels choice kind_count (put_in es item)) items
    within_alike items h =
        subst (λ p. All (λ item. IsItemWithinLevels choice kind_count (p item)) items)
        (sym (put_alike es fs same)) h

-- ---- the rows, and then the objective

module _ (choice : ℕ → Choice) (inner : List Entry) where
  unfit_one : (item : Item) → ¬ (IsTrue (others_held choice inner (item ∷ [])).fits)
      → IsFirstAt (unfit_put choice kind_count inner (item ∷ [])) item.at
  unfolding worked_in
  unfit_one item misses = by (child_fits choice kind_count inner item) misses
    where
      by : (b : Bool) → ¬ ((b && true) ≡ true) → IsFirstAt (cond (not b) (Some item) None) item.at
      by true k = absurd (k refl)
      by false k = refl

  unfit_objective : (o : Objective) → ¬ (IsTrue (others_held choice inner (objective_items o)).fits)
      → IsFirstAt (unfit_put choice kind_count inner (objective_items o)) (root_address root.Objective 0)
  unfolding worked_in
  unfit_objective objective.Feasibility misses = absurd (misses refl)
  unfit_objective (objective.Plain sense var) misses =
      unfit_one (objective_item (PlainObj sense var)) misses
  unfit_objective (objective.Affine sense func) misses =
      unfit_one (objective_item (AffineObj sense func)) misses

module _ (first : Means) (inner : List Entry) (rows : List Item) (o : Objective)
    (plan mid : Plan) (means : Means) (standing : List Entry) (same : means ≡ first)
    (stays : standing ≡ inner)
    (said : (unfit_put first.choice kind_count inner rows ≡ None)
    × AddsHeld plan mid [] [] (others_held first.choice inner rows)) where
  pub objective_within :
      All (λ item. IsItemWithinLevels first.choice kind_count (put_in inner item)) (rows ++ objective_items o)
      → All (λ item. IsItemWithinLevels means.choice kind_count (put_in standing item)) (objective_items o)
  objective_within all =
      subst (λ (m : Means). All (λ item. IsItemWithinLevels m.choice kind_count (put_in standing item))
      (objective_items o)) (sym same)
      (subst (λ es. All (λ item. IsItemWithinLevels first.choice kind_count (put_in es item))
      (objective_items o)) (sym stays)
      (all_second (λ item. IsItemWithinLevels first.choice kind_count (put_in inner item)) rows
      (objective_items o) all))

  pub others_done : (after : Plan)
      → IsTrue (others_held means.choice standing (objective_items o)).fits
      × AddsHeld mid after [] [] (others_held means.choice standing (objective_items o))
      → (unfit_put first.choice kind_count inner (rows ++ objective_items o) ≡ None)
      × AddsHeld plan after [] [] (others_held first.choice inner (rows ++ objective_items o))
  others_done after last =
      let here : IsTrue (others_held first.choice inner (objective_items o)).fits
      × AddsHeld mid after [] [] (others_held first.choice inner (objective_items o)) =
      from_start same stays (λ choice es. IsTrue (others_held choice es (objective_items o)).fits
      × AddsHeld mid after [] [] (others_held choice es (objective_items o))) last in (
        unfit_append first.choice inner rows (objective_items o)
            ∙ none_of_both (unfit_put first.choice kind_count inner rows)
            (unfit_put first.choice kind_count inner (objective_items o))
            (unfit_put first.choice kind_count inner (objective_items o)) said.0 refl
            (fit_together first.choice inner (objective_items o) here.0),
        both_added first.choice inner rows (objective_items o) plan mid after said.1 here.1,
      )

  objective_told : (T U : Type 0) (Q : T → Type 0) (S : U → Type 0) (f : NumberFault)
      (at : Address) → at ≡ root_address root.Objective 0
      → ExactWhere {T = T} (Err f)
      (IsTrue (others_held means.choice standing (objective_items o)).fits) Q
      → PlanOutcome {T = U} (Err (refused_at f at))
      (unfit_put first.choice kind_count inner (rows ++ objective_items o)) S
  objective_told T U Q S fault.Overflow at is misses =
      ap (option_map (λ (i : Item). i.at)) (unfit_append first.choice inner rows (objective_items o)
      ∙ ap (λ a. option_or a (unfit_put first.choice kind_count inner (objective_items o))) said.0)
      ∙ (unfit_objective first.choice inner o
      (from_start same stays (λ choice es. ¬ (IsTrue
      (others_held choice es (objective_items o)).fits)) misses)
      ∙ ap Some (sym is))
  objective_told T U Q S fault.Memory at is misses = tt

  pub objective_refused : (T U : Type 0) (Q : T → Type 0) (S : U → Type 0) (f : NumberFault)
      (at : Address) (told : PushFault) → told ≡ refused_at f at
      → at ≡ root_address root.Objective 0
      → ExactWhere {T = T} (Err f)
      (IsTrue (others_held means.choice standing (objective_items o)).fits) Q
      → PlanOutcome {T = U} (Err told) (unfit_put first.choice kind_count inner (rows ++ objective_items o)) S
  objective_refused T U Q S f at told told_is at_is misses =
      subst (λ e. PlanOutcome {T = U} (Err e) (unfit_put first.choice kind_count inner
      (rows ++ objective_items o)) S) (sym told_is) (objective_told T U Q S f at at_is misses)

-- ---- the objective alone

module _ (choice : ℕ → Choice) (inner : List Entry) (o : Objective) (plan : Plan) where
  pub objective_none : objective_items o ≡ []
      → IsTrue (others_held choice inner (objective_items o)).fits
      × AddsHeld plan plan [] [] (others_held choice inner (objective_items o))
  unfolding worked_in
  objective_none none =
      subst (λ items. IsTrue (others_held choice inner items).fits
      × AddsHeld plan plan [] [] (others_held choice inner items)) (sym none) (
        refl,
        record {
          leaves = sym (append-nil plan.leaves.items);
          nodes = sym (append-nil plan.nodes.items);
          entries = refl;
        },
      )

  module _ (item : Item) (one : objective_items o ≡ item ∷ []) where
    pub objective_ready : (made : Item) → made ≡ put_in inner item
        → All (λ i. IsItemWithinLevels choice kind_count (put_in inner i)) (objective_items o)
        → IsItemWithinLevels choice kind_count made
    objective_ready made is all =
        let Within : Item → Type 0 = λ i. IsItemWithinLevels choice kind_count (put_in inner i) in
        subst (IsItemWithinLevels choice kind_count) (sym is)
        (All-head Within item [] (subst (All Within) one all))

    pub objective_needs : IsTrue (others_held choice inner (objective_items o)).fits
        → IsTrue (put_in_fits inner item)
    unfolding worked_in
    objective_needs t =
        let held = worked choice kind_count (put_in inner item) in
        and_first (put_in_fits inner item) held.fits
        (and_first (put_in_fits inner item && held.fits) true
        (subst (λ items. IsTrue (others_held choice inner items).fits) one t))

    pub objective_answered : (after : Plan) {T : Type 0} (r : Result T NumberFault) (made : Item)
        → IsTrue (put_in_fits inner item) → made ≡ put_in inner item
        → ExactWhere r (IsTrue (worked choice kind_count made).fits)
        (λ _. AddsHeld plan after [] [] (record (worked choice kind_count made) { entries = [] }))
        → ExactWhere r (IsTrue (others_held choice inner (objective_items o)).fits)
        (λ _. AddsHeld plan after [] [] (others_held choice inner (objective_items o)))
    objective_answered after r made fit is said =
        subst (λ items. ExactWhere r (IsTrue (others_held choice inner items).fits)
        (λ _. AddsHeld plan after [] [] (others_held choice inner items))) (sym one)
        (one_answered choice inner item plan after r
        (child_answered choice inner item plan after r made fit is said))

-- ---- the whole model

module _ (first : Means) (groups : List Group) (others : List Item) (start one : Plan)
    (entries standing : List Entry) (means : Means) (same : means ≡ first)
    (said : (unfit first.choice kind_count (map group_item groups) ≡ None)
    × AddsHeld start one [] entries (groups_held first.choice (map group_item groups)))
    (stands : expression_in standing ≡ expression_in entries) where
  abbrev held_here : Held Item Entry
  held_here = groups_held first.choice (map group_item groups)

  alike : expression_in standing ≡ expression_in held_here.entries
  alike = stands ∙ ap expression_in said.1.entries

  -- by what stands for variables
  abbrev with_function_by : (Address → Expression) → GroupVar → Address × Function
  with_function_by e v = (variable_address v.number, expressed (e (variable_address v.number)))

  abbrev kept_where : (Address → Expression) → List GroupVar → List Address
  kept_where e vars = filter (λ v. is_kept (e v)) (map (λ v. variable_address v.number) vars)

  pub others_ready : IsWithinLevels first.choice (map group_item groups) others
      → All (λ item. IsItemWithinLevels means.choice kind_count (put_in standing item)) others
  others_ready ready =
      subst (λ (m : Means). All (λ item. IsItemWithinLevels m.choice kind_count (put_in standing item))
      others) (sym same)
      (within_alike first.choice standing held_here.entries alike others ready.others)

  unfit_same : unfit_put means.choice kind_count standing others
      ≡ unfit_put first.choice kind_count held_here.entries others
  unfit_same =
      ap (λ (m : Means). unfit_put m.choice kind_count standing others) same
      ∙ unfit_alike first.choice standing held_here.entries alike others

  others_same : others_held means.choice standing others
      ≡ others_held first.choice held_here.entries others
  others_same =
      ap (λ (m : Means). others_held m.choice standing others) same
      ∙ held_alike first.choice standing held_here.entries alike others

  pub whole_refused : (T U : Type 0) (Q : T → Type 0) (S : U → Type 0) (r : Result T PushFault)
      (f : PushFault) → IsErrAnd r (λ x. x ≡ f)
      → PlanOutcome {T = U} (Err f) (unfit_put means.choice kind_count standing others) S
      → PlanOutcome r (unfit_item first.choice (map group_item groups) others) Q
  whole_refused T U Q S r f is h =
      handed_next T U Q S r f (unfit first.choice kind_count (map group_item groups))
      (unfit_put first.choice kind_count held_here.entries others)
      (unfit_put means.choice kind_count standing others) is said.0 unfit_same h

  pub whole_done : (planned : ModelPlan) → start.leaves.items ≡ [] → start.nodes.items ≡ []
      → (unfit_put means.choice kind_count standing others ≡ None)
      × AddsHeld one planned.plan [] [] (others_held means.choice standing others)
      → planned.exprs.items ≡ map (with_function standing) (flat_map (λ g. g.vars) groups)
      → planned.kept.items ≡ kept_among standing (flat_map (λ g. g.vars) groups)
      → (unfit_item first.choice (map group_item groups) others ≡ None)
      × IsWholePlan first.choice groups others planned
  whole_done planned no_leaves no_nodes last exprs kept =
      let adds : AddsHeld one planned.plan [] [] (others_held first.choice held_here.entries others) =
      subst (AddsHeld one planned.plan [] []) others_same last.1 in
      let further = others_held first.choice held_here.entries others in (
        none_of_both (unfit first.choice kind_count (map group_item groups))
            (unfit_put first.choice kind_count held_here.entries others)
            (unfit_put means.choice kind_count standing others) said.0 unfit_same last.0,
        record {
          leaves = adds.leaves ∙ ap (λ l. l ++ further.leaves)
              (said.1.leaves ∙ ap (λ l. l ++ held_here.leaves) no_leaves);
          nodes = adds.nodes ∙ (ap (λ l. l ++ map kept_of further.nodes)
              (said.1.nodes ∙ ap (λ l. l ++ map kept_of held_here.nodes) no_nodes)
              ∙ sym (map-append kept_of held_here.nodes further.nodes));
          exprs = exprs ∙ ap (λ (e : Address → Expression). map (with_function_by e)
              (flat_map (λ (g : Group). g.vars) groups)) alike;
          kept = kept ∙ ap (λ (e : Address → Expression). kept_where e
              (flat_map (λ (g : Group). g.vars) groups)) alike;
        },
      )
