-- What stands within some levels, opened at its choice.
use Rattle.std.specs.Prelude.{◌≡◌, ℕ, zero, suc, ◌-◌, ◌≤◌}
use Rattle.std.proofs.Common.{arith, ap, subst, ◌∙◌}
use Rattle.bridge_graph.specs.declared.Choice.{Choice}
use Rattle.bridge_graph.specs.declared.Choice.TheVariants.{By, Missing, Native}
use Rattle.expansion.specs.Grown.{native_held}
use Rattle.item_core.specs.declared.item.Item.{Item}
use Rattle.item_core.specs.Kind.{kind_number}
use Rattle.item_core.specs.KindOf.{kind_of_body}
use Rattle.fresh_bridging.specs.TheRules.{rules_by}
use Rattle.bridge_plan.specs.Worked.{IsItemWithinLevels, Splits, StandsBy, worked, worked_by, worked_node}

module _ (choice : ℕ → Choice) (item : Item) where
  abbrev chosen : Choice
  chosen = choice (kind_number (kind_of_body item.body))

  pub some_level : (n : ℕ) → IsItemWithinLevels choice n item → 1 ≤ n
  unfolding IsItemWithinLevels
  some_level zero h = absurd h
  some_level (suc n) h = omega arith

  pub never_missing : (n : ℕ) → IsItemWithinLevels choice n item → chosen ≡ Missing → ⊥
  unfolding IsItemWithinLevels StandsBy
  never_missing zero h e = h
  never_missing (suc n) h e =
      subst (λ c. StandsBy choice (worked choice n) (IsItemWithinLevels choice n) c item) e h

  pub opened : (n edge : ℕ) → IsItemWithinLevels choice n item → chosen ≡ By edge
      → Splits choice (worked choice (n - 1)) (IsItemWithinLevels choice (n - 1)) edge item
  unfolding IsItemWithinLevels StandsBy
  opened zero edge h e = absurd h
  opened (suc n) edge h e =
      let less : n ≡ suc n - 1 = omega arith in
      subst (λ m. Splits choice (worked choice m) (IsItemWithinLevels choice m) edge item) less
      (subst (λ c. StandsBy choice (worked choice n) (IsItemWithinLevels choice n) c item) e h)

  pub worked_natively : (n : ℕ) → IsItemWithinLevels choice n item → chosen ≡ Native
      → worked choice n item ≡ native_held (rules_by choice) item
  unfolding IsItemWithinLevels worked worked_by
  worked_natively zero h e = absurd h
  worked_natively (suc n) h e = ap (λ c. worked_by choice (worked choice n) c item) e

  pub worked_opened : (n edge : ℕ) → IsItemWithinLevels choice n item → chosen ≡ By edge
      → worked choice n item ≡ worked_node choice (worked choice (n - 1)) edge item
  unfolding IsItemWithinLevels worked worked_by
  worked_opened zero edge h e = absurd h
  worked_opened (suc n) edge h e =
      let less : n ≡ suc n - 1 = omega arith in
      ap (λ c. worked_by choice (worked choice n) c item) e
      ∙ ap (λ m. worked_node choice (worked choice m) edge item) less
