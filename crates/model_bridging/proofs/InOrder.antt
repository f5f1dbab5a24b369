-- The user's items, planned in their order.
use Rattle.std.specs.Prelude.{◌≡◌, ℕ, Bool, true, ◌&&◌, not, cond, find, IsTrue, List, [], ◌∷◌, All, Option, Some, None, Result, refl}
use Rattle.std.proofs.Common.{ap, ap₂, sym, subst, ◌∙◌}
use Rattle.bridge_graph.specs.declared.Choice.{Choice}
use Rattle.ratio_core.specs.declared.fault.NumberFault.{NumberFault}
use Rattle.ratio_core.specs.Answers.{ExactWhere}
use Rattle.ratio_core.specs.AnsweredLaws.{exact_as}
use Rattle.expansion.specs.Grown.{Held, put_held}
use Rattle.item_core.specs.declared.item.Item.{Item}
use Rattle.item_core.specs.Kind.{kind_count}
use Rattle.fresh_bridging.specs.Entries.{Entry, put_in, put_in_fits}
use Rattle.fresh_bridging.specs.TableLaws.{and_first, and_second}
use Rattle.fresh_bridging.specs.TheRules.{rules_by}
use Rattle.bridge_plan.specs.AddsHeld.{AddsHeld}
use Rattle.bridge_plan.specs.InTurn.{EachSoFar, InSoFar, each_end, each_start, each_step, each_within, in_end, in_start, in_step, in_within}
use Rattle.bridge_plan.specs.Means.{Means}
use Rattle.bridge_plan.specs.SoFar.{joined_nothing}
use Rattle.bridge_plan.specs.Worked.{IsItemWithinLevels, worked, worked_in}
use Rattle.bridge_plan.specs.declared.plan.Plan.{Plan}
use Rattle.model_bridging.specs.ModelHeld.{child_fits, item_fits, unfit, unfit_put}
use Rattle.model_bridging.specs.Whole.{groups_held, others_held}

-- ---- the first of a list that fails a test

abbrev pub first_failing : (Item → Bool) → List Item → Option Item
first_failing p items = find (λ item. not (p item)) items

passes_first : (p : Item → Bool) (x : Item) (rest : List Item) → p x ≡ true
    → first_failing p (x ∷ rest) ≡ first_failing p rest
passes_first p x rest e = ap (λ b. cond (not b) (Some x) (first_failing p rest)) e

module _ (p : Item → Bool) (all left rest : List Item) (x : Item)
    (so_far : first_failing p left ≡ first_failing p all) (next : left ≡ x ∷ rest) where
  first_more : p x ≡ true → first_failing p rest ≡ first_failing p all
  first_more e =
      sym (passes_first p x rest e) ∙ (sym (ap (first_failing p) next) ∙ so_far)

-- ---- the groups

-- what is planned so far and what is left is all, and the first unfit of what is left that of all
pub record GroupsSoFar (first : Means) (all left : List Item) (plan now : Plan)
    (entries : List Entry) (means : Means) : Type 0 where
  pub in_turn : EachSoFar first kind_count all left plan now [] entries means
  pub unfit_left : unfit first.choice kind_count left ≡ unfit first.choice kind_count all

pub groups_start : (first : Means) (all : List Item) (plan : Plan) (entries : List Entry)
    → entries ≡ [] → All (IsItemWithinLevels first.choice kind_count) all
    → GroupsSoFar first all all plan plan entries first
groups_start first all plan entries none within = record {
  in_turn = subst (λ es. EachSoFar first kind_count all all plan plan [] es first) (sym none)
      (each_start first kind_count all plan [] within);
  unfit_left = refl;
}

module _ (first : Means) (all left rest : List Item) (x : Item) (plan now : Plan)
    (entries : List Entry) (means : Means) (h : GroupsSoFar first all left plan now entries means)
    (next : left ≡ x ∷ rest) (item : Item) (is : item ≡ x) where
  pub group_within : IsItemWithinLevels means.choice kind_count item
  group_within =
      subst (IsItemWithinLevels means.choice kind_count) (sym is)
      (each_within first kind_count all left rest x plan now [] entries means h.in_turn next)

  pub group_more : (after : Plan) (es : List Entry) (later : Means)
      → IsTrue (worked means.choice kind_count item).fits
      → AddsHeld now after entries es (worked means.choice kind_count item) → later ≡ means
      → GroupsSoFar first all rest plan after es later
  group_more after es later fits adds same =
      let said : IsTrue (worked means.choice kind_count x).fits
      × AddsHeld now after entries es (worked means.choice kind_count x) =
      subst (λ i. IsTrue (worked means.choice kind_count i).fits
      × AddsHeld now after entries es (worked means.choice kind_count i)) is (fits, adds) in
      record {
        in_turn = each_step first kind_count all left rest x plan now [] entries means h.in_turn next after
            es later said.0 said.1 same;
        unfit_left = first_more (item_fits first.choice kind_count) all left rest x h.unfit_left next
            (subst (λ (m : Means). IsTrue (worked m.choice kind_count x).fits) h.in_turn.same said.0);
      }

pub groups_end : (first : Means) (all left : List Item) (plan now : Plan) (entries : List Entry)
    (means : Means) → GroupsSoFar first all left plan now entries means → left ≡ []
    → (unfit first.choice kind_count all ≡ None)
    × AddsHeld plan now [] entries (groups_held first.choice all)
groups_end first all left plan now entries means h none = (
  sym h.unfit_left ∙ ap (unfit first.choice kind_count) none,
  (each_end first kind_count all left plan now [] entries means h.in_turn none).1,
)

-- ---- the rows

-- what holds by the means and the entries holds by the first ones, where they are the same
pub from_start : {first means : Means} {inner standing : List Entry} → means ≡ first
    → standing ≡ inner → (P : (ℕ → Choice) → List Entry → Type 0) → P means.choice standing
    → P first.choice inner
from_start {first} {means} {inner} {standing} same stays P p =
    subst (P first.choice) stays (subst (λ (m : Means). P m.choice standing) same p)

pub record RowsSoFar (first : Means) (inner : List Entry) (all left : List Item) (plan now : Plan)
    (means : Means) (standing : List Entry) : Type 0 where
  pub in_turn : InSoFar first kind_count inner all left plan now means standing
  pub unfit_left : unfit_put first.choice kind_count inner left ≡ unfit_put first.choice kind_count inner all

pub rows_start : (first : Means) (inner : List Entry) (all : List Item) (plan : Plan)
    → All (λ item. IsItemWithinLevels first.choice kind_count (put_in inner item)) all
    → RowsSoFar first inner all all plan plan first inner
rows_start first inner all plan within = record {
  in_turn = in_start first kind_count inner all plan within;
  unfit_left = refl;
}

module _ (first : Means) (inner : List Entry) (all left rest : List Item) (x : Item)
    (plan now : Plan) (means : Means) (standing : List Entry)
    (h : RowsSoFar first inner all left plan now means standing) (next : left ≡ x ∷ rest) where
  pub row_within : IsItemWithinLevels means.choice kind_count (put_in standing x)
  row_within =
      in_within first kind_count inner all left rest x plan now means standing h.in_turn next
      (put_in standing x) refl

  pub row_more : (after : Plan) (later : Means) (stays : List Entry)
      → IsTrue (child_fits means.choice kind_count standing x)
      → AddsHeld now after [] [] (put_held (rules_by means.choice) standing x
      (worked means.choice kind_count (put_in standing x)))
      → later ≡ means → stays ≡ standing
      → RowsSoFar first inner all rest plan after later stays
  row_more after later stays fits adds same stay =
      let held = worked means.choice kind_count (put_in standing x) in
      record {
        in_turn = subst (InSoFar first kind_count inner all rest plan after later) (sym stay)
            (in_step first kind_count inner all left rest x plan now means standing h.in_turn next
            (put_in standing x) refl (and_first (put_in_fits standing x) held.fits fits) after later
            [] held.entries (and_second (put_in_fits standing x) held.fits fits)
            (record { leaves = adds.leaves; nodes = adds.nodes; entries = refl }) same);
        unfit_left = first_more (child_fits first.choice kind_count inner) all left rest x h.unfit_left next
            (from_start h.in_turn.same h.in_turn.stands
            (λ choice es. child_fits choice kind_count es x ≡ true) fits);
      }

pub rows_end : (first : Means) (inner : List Entry) (all left : List Item) (plan now : Plan)
    (means : Means) (standing : List Entry)
    → RowsSoFar first inner all left plan now means standing → left ≡ []
    → (unfit_put first.choice kind_count inner all ≡ None)
    × AddsHeld plan now [] [] (others_held first.choice inner all)
rows_end first inner all left plan now means standing h none = (
  sym h.unfit_left ∙ ap (unfit_put first.choice kind_count inner) none,
  (in_end first kind_count inner all left plan now means standing h.in_turn none).1,
)

-- ---- a row or the objective

module _ (choice : ℕ → Choice) (inner : List Entry) (item : Item) (plan after : Plan) where
  abbrev held_here : Held Item Entry
  held_here = worked choice kind_count (put_in inner item)

  pub child_answered : {T : Type 0} (r : Result T NumberFault) (made : Item)
      → IsTrue (put_in_fits inner item) → made ≡ put_in inner item
      → ExactWhere r (IsTrue (worked choice kind_count made).fits)
      (λ _. AddsHeld plan after [] [] (record (worked choice kind_count made) { entries = [] }))
      → ExactWhere r (IsTrue (child_fits choice kind_count inner item))
      (λ _. AddsHeld plan after [] [] (put_held (rules_by choice) inner item held_here))
  child_answered r made put is said =
      exact_as r (IsTrue held_here.fits) (IsTrue (put_in_fits inner item && held_here.fits))
      (λ _. AddsHeld plan after [] [] (record held_here { entries = [] }))
      (λ _. AddsHeld plan after [] [] (put_held (rules_by choice) inner item held_here))
      (λ fits. ap₂ ◌&&◌ put fits) (λ t. and_second (put_in_fits inner item) held_here.fits t)
      (λ _ h. record { leaves = h.leaves; nodes = h.nodes; entries = refl })
      (subst (λ i. ExactWhere r (IsTrue (worked choice kind_count i).fits)
      (λ _. AddsHeld plan after [] [] (record (worked choice kind_count i) { entries = [] }))) is said)

  -- as the only one of a list
  pub one_answered : {T : Type 0} (r : Result T NumberFault)
      → ExactWhere r (IsTrue (child_fits choice kind_count inner item))
      (λ _. AddsHeld plan after [] [] (put_held (rules_by choice) inner item held_here))
      → ExactWhere r (IsTrue (others_held choice inner (item ∷ [])).fits)
      (λ _. AddsHeld plan after [] [] (others_held choice inner (item ∷ [])))
  unfolding worked_in
  one_answered r h =
      subst (λ held. ExactWhere r (IsTrue held.fits) (λ _. AddsHeld plan after [] [] held))
      (sym (joined_nothing (put_held (rules_by choice) inner item held_here))) h
