-- Groups, and further children, planned in turn.
use Rattle.std.specs.Prelude.{◌≡◌, ℕ, Bool, ◌&&◌, IsTrue, List, [], ◌∷◌, All}
use Rattle.std.proofs.Common.{ap, ap₂, sym, subst, ◌∙◌}
use Rattle.std.proofs.lemmas.List.Elements.{All-head, All-tail}
use Rattle.expansion.specs.Grown.{Held, joined, put_held}
use Rattle.item_core.specs.declared.item.Item.{Item}
use Rattle.fresh_bridging.specs.Entries.{Entry, put_in, put_in_fits}
use Rattle.fresh_bridging.specs.TableLaws.{and_first, and_second}
use Rattle.fresh_bridging.specs.TheRules.{rules_by}
use Rattle.bridge_plan.specs.AddsHeld.{AddsHeld}
use Rattle.bridge_plan.specs.Means.{Means}
use Rattle.bridge_plan.specs.Worked.{IsItemWithinLevels, worked, worked_each, worked_in}
use Rattle.bridge_plan.specs.declared.plan.Plan.{Plan}
use Rattle.bridge_plan.specs.SoFar.{SoFar, all_planned, needs_one, none_yet, one_more}

module _ (first : Means) (n : ℕ) where
  abbrev pub item_held : Item → Held Item Entry
  item_held item = worked first.choice n item

  abbrev pub each_held : List Item → Held Item Entry
  each_held items = worked_each first.choice (worked first.choice n) items

  pub record EachSoFar (all left : List Item) (plan now : Plan) (es fs : List Entry)
      (means : Means) : Type 0 where
    pub so_far : SoFar (each_held all) (each_held left) plan now es fs
    pub within : All (IsItemWithinLevels first.choice n) left
    pub same : means ≡ first

  pub each_start : (all : List Item) (plan : Plan) (es : List Entry)
      → All (IsItemWithinLevels first.choice n) all → EachSoFar all all plan plan es es first
  each_start all plan es within = record {
    so_far = none_yet (each_held all) plan es;
    within = within;
    same = λ i. first;
  }

  module _ (all left rest : List Item) (x : Item) (plan now : Plan) (es fs : List Entry)
      (means : Means) (h : EachSoFar all left plan now es fs means) (next : left ≡ x ∷ rest)
    where
      all_within : All (IsItemWithinLevels first.choice n) (x ∷ rest)
      all_within = subst (All (IsItemWithinLevels first.choice n)) next h.within

      pub each_within : IsItemWithinLevels means.choice n x
      each_within =
          subst (λ (m : Means). IsItemWithinLevels m.choice n x) (sym h.same)
          (All-head (IsItemWithinLevels first.choice n) x rest all_within)

      opened : SoFar (each_held all) (joined (item_held x) (each_held rest)) plan now es fs
      unfolding worked_each
      opened = subst (λ l. SoFar (each_held all) (each_held l) plan now es fs) next h.so_far

      pub each_needs : IsTrue (each_held all).fits → IsTrue (worked means.choice n x).fits
      each_needs t =
          subst (λ (m : Means). IsTrue (worked m.choice n x).fits) (sym h.same)
          (needs_one (each_held all) (item_held x) (each_held rest) plan now es fs opened t)

      pub each_step : (after : Plan) (gs : List Entry) (later : Means)
          → IsTrue (worked means.choice n x).fits
          → AddsHeld now after fs gs (worked means.choice n x)
          → later ≡ means → EachSoFar all rest plan after es gs later
      each_step after gs later fits adds same = record {
        so_far = one_more (each_held all) (item_held x) (each_held rest) plan now es fs opened after
            gs (subst (λ (m : Means). IsTrue (worked m.choice n x).fits) h.same fits)
            (subst (λ (m : Means). AddsHeld now after fs gs (worked m.choice n x)) h.same adds);
        within = All-tail (IsItemWithinLevels first.choice n) x rest all_within;
        same = same ∙ h.same;
      }

  pub each_end : (all left : List Item) (plan now : Plan) (es fs : List Entry) (means : Means)
      → EachSoFar all left plan now es fs means → left ≡ []
      → IsTrue (each_held all).fits × AddsHeld plan now es fs (each_held all)
  unfolding worked_each
  each_end all left plan now es fs means h none =
      all_planned (each_held all) plan now es fs
      (subst (λ l. SoFar (each_held all) (each_held l) plan now es fs) none h.so_far)

  -- ---- further children

  module _ (inner : List Entry) where
    abbrev pub child_held : Item → Held Item Entry
    child_held item =
        put_held (rules_by first.choice) inner item (worked first.choice n (put_in inner item))

    abbrev pub in_held : List Item → Held Item Entry
    in_held items = worked_in first.choice (worked first.choice n) inner items

    abbrev Within : Item → Type 0
    Within item = IsItemWithinLevels first.choice n (put_in inner item)

    pub record InSoFar (all left : List Item) (plan now : Plan) (means : Means)
        (standing : List Entry) : Type 0 where
      pub so_far : SoFar (in_held all) (in_held left) plan now [] []
      pub within : All Within left
      pub same : means ≡ first
      pub stands : standing ≡ inner

    pub in_start : (all : List Item) (plan : Plan) → All Within all
        → InSoFar all all plan plan first inner
    in_start all plan within = record {
      so_far = none_yet (in_held all) plan [];
      within = within;
      same = λ i. first;
      stands = λ i. inner;
    }

    module _ (all left rest : List Item) (x : Item) (plan now : Plan) (means : Means)
        (standing : List Entry) (h : InSoFar all left plan now means standing)
        (next : left ≡ x ∷ rest) where
      in_within_all : All Within (x ∷ rest)
      in_within_all = subst (All Within) next h.within

      pub in_within : (made : Item) → made ≡ put_in standing x
          → IsItemWithinLevels means.choice n made
      in_within made is =
          subst (IsItemWithinLevels means.choice n) (sym (is ∙ ap (λ s. put_in s x) h.stands))
          (subst (λ (m : Means). IsItemWithinLevels m.choice n (put_in inner x)) (sym h.same)
          (All-head Within x rest in_within_all))

      in_opened : SoFar (in_held all) (joined (child_held x) (in_held rest)) plan now [] []
      unfolding worked_in
      in_opened = subst (λ l. SoFar (in_held all) (in_held l) plan now [] []) next h.so_far

      needs_child : IsTrue (in_held all).fits → IsTrue (child_held x).fits
      needs_child t =
          needs_one (in_held all) (child_held x) (in_held rest) plan now [] [] in_opened t

      pub in_needs_put : IsTrue (in_held all).fits → IsTrue (put_in_fits standing x)
      in_needs_put t =
          subst (λ s. IsTrue (put_in_fits s x)) (sym h.stands)
          (and_first (put_in_fits inner x) (worked first.choice n (put_in inner x)).fits
          (needs_child t))

      pub in_needs_made : (made : Item) → made ≡ put_in standing x → IsTrue (in_held all).fits
          → IsTrue (worked means.choice n made).fits
      in_needs_made made is t =
          subst (λ i. IsTrue (worked means.choice n i).fits)
          (sym (is ∙ ap (λ s. put_in s x) h.stands))
          (subst (λ (m : Means). IsTrue (worked m.choice n (put_in inner x)).fits) (sym h.same)
          (and_second (put_in_fits inner x) (worked first.choice n (put_in inner x)).fits
          (needs_child t)))

      pub in_step : (made : Item) → made ≡ put_in standing x → IsTrue (put_in_fits standing x)
          → (after : Plan) (later : Means) (none left_over : List Entry)
          → IsTrue (worked means.choice n made).fits
          → AddsHeld now after none left_over (worked means.choice n made)
          → later ≡ means → InSoFar all rest plan after later standing
      in_step made is put after later none left_over fits adds same = record {
        so_far = one_more (in_held all) (child_held x) (in_held rest) plan now [] [] in_opened
            after [] (and_both (subst (λ s. IsTrue (put_in_fits s x)) h.stands put) here.0)
            (record { leaves = here.1.leaves; nodes = here.1.nodes; entries = λ i. [] });
        within = All-tail Within x rest in_within_all;
        same = same ∙ h.same;
        stands = h.stands;
      }
        where
          Made : Means → Item → Type 0
          Made m i =
              IsTrue (worked m.choice n i).fits × AddsHeld now after none left_over
              (worked m.choice n i)

          here : Made first (put_in inner x)
          here =
              subst (λ m. Made m (put_in inner x)) h.same
              (subst (Made means) (is ∙ ap (λ s. put_in s x) h.stands) (fits, adds))

          and_both : {a b : Bool} → IsTrue a → IsTrue b → IsTrue (a && b)
          and_both s t = ap₂ ◌&&◌ s t

    pub in_end : (all left : List Item) (plan now : Plan) (means : Means) (standing : List Entry)
        → InSoFar all left plan now means standing → left ≡ []
        → IsTrue (in_held all).fits × AddsHeld plan now [] [] (in_held all)
    unfolding worked_in
    in_end all left plan now means standing h none =
        all_planned (in_held all) plan now [] []
        (subst (λ l. SoFar (in_held all) (in_held l) plan now [] []) none h.so_far)
