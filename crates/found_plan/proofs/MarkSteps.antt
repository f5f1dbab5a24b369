-- Marks told of variables.
use Rattle.std.specs.Prelude.{◌≡◌, ℕ, Bool, true, false, ◌||◌, cond, Contains, List, [], ◌∷◌, ◌++◌, All, Option, Some, map, unwrap_or, refl}
use Rattle.std.proofs.Common.{ap, sym, ◌∙◌}
use Rattle.std.specs.Cmp.{eq_by_cmp_equiv}
use Rattle.std.specs.FinMap as finite
use Rattle.std.specs.FinMap.{FinMap, get-insert}
use Rattle.std.specs.Option.{option_map_or}
use Rattle.std.proofs.lemmas.List.Elements.{All-contains_itself, All-weaker}
use Rattle.std.proofs.lemmas.Map.Views.{list_any-from_Contains}
use Rattle.std.proofs.lemmas.List.Folds.{list_any-append}
use Rattle.address_map.specs.AddressMap.{AddressMap}
use Rattle.aff_core.specs.Address.{Address, address_cmp, address_eq, address_eq-Decides, address_total}
use Rattle.bridge_graph.specs.declared.Choice.{Choice}
use Rattle.item_core.specs.declared.item.Item.{Item}
use Rattle.leaf_update.specs.Others.{among}
use Rattle.map_laws.specs.EachLaws.{all_first, all_second}
use Rattle.model_bridging.specs.Found.{found_others, kept_over}
use Rattle.model_bridging.specs.Kinds.{kind_by, told}
use Rattle.user_model.specs.declared.objective.Objective.{Objective}
use Rattle.user_model.specs.declared.row.Row.{Row}
use Rattle.found_plan.specs.KindLaws.{others_alike, over_alike}
use Rattle.found_plan.specs.Marked.{TellsMarks, plain_in, plain_in_objective}
use Rattle.found_plan.specs.Read.{is_marked}

abbrev Told : Type 0
Told = FinMap address_cmp Bool

module _ (places : AddressMap) where
  pub marks_none : (old : Told) → TellsMarks places [] old old
  marks_none old v = refl

  pub marks_one : (var : Address) (old new : Told)
      → new ≡ finite.insert old var (is_marked places var)
      → TellsMarks places (var ∷ []) old new
  marks_one var old new e v =
      ap (λ m. told m v) e
      ∙ ap (λ o. unwrap_or o true) (get-insert address_total old var (is_marked places var) v)
      ∙ by (address_eq v var) refl
    where
      by : (b : Bool) → address_eq v var ≡ b
          → unwrap_or (cond b (Some (is_marked places var)) (finite.get old v)) true
          ≡ cond (b || false) (is_marked places v) (told old v)
      by true same = ap (is_marked places) (sym ((address_eq-Decides v var).0 same))
      by false other = refl

  pub marks_both : (us vs : List Address) (old mid new : Told) → TellsMarks places us old mid
      → TellsMarks places vs mid new → TellsMarks places (us ++ vs) old new
  marks_both us vs old mid new h k v =
      k v ∙ ap (cond (among vs v) (is_marked places v)) (h v)
      ∙ twice (among us v) (among vs v) (is_marked places v) (told old v)
      ∙ ap (λ b. cond b (is_marked places v) (told old v))
      (sym (list_any-append (address_eq v) us vs))
    where
      twice : (a b m t : Bool) → cond b m (cond a m t) ≡ cond (a || b) m t
      twice true true m t = refl
      twice true false m t = refl
      twice false true m t = refl
      twice false false m t = refl

-- ---- kinds

all_among : (vs : List Address) → All (λ v. among vs v ≡ true) vs
all_among vs =
    All-weaker (Contains vs) (λ v. among vs v ≡ true)
    (λ v c. list_any-from_Contains (eq_by_cmp_equiv address_total) v vs c) vs
    (All-contains_itself vs)

-- the kinds by what was told of all plain variables and then of groups
module _ (choice : ℕ → Choice) (places : AddressMap) (groups : List Item) (rows : List Row)
    (o : Option Objective) (first told_all last : Told)
    (marked : TellsMarks places (plain_in rows ++ option_map_or plain_in_objective o []) first
    told_all)
    (over : (v : Address) → told last v ≡ kept_over choice (told told_all) groups v) where
  abbrev pub kept_here : Address → Bool
  kept_here v = kept_over choice (is_marked places) groups v

  each_agrees : All (λ v. told last v ≡ kept_here v)
      (plain_in rows ++ option_map_or plain_in_objective o [])
  each_agrees =
      let all = plain_in rows ++ option_map_or plain_in_objective o [] in
      All-weaker (λ v. among all v ≡ true) (λ v. told last v ≡ kept_here v)
      (λ v e. over v ∙ over_alike choice (told told_all) (is_marked places) groups v
      (marked v ∙ ap (λ b. cond b (is_marked places v) (told first v)) e)) all (all_among all)

  pub same_kinds : map (λ i. kind_by (told last) i.body) (found_others rows o)
      ≡ map (λ i. kind_by kept_here i.body) (found_others rows o)
  same_kinds =
      others_alike (told last) kept_here rows o
      (all_first (λ v. told last v ≡ kept_here v) (plain_in rows)
      (option_map_or plain_in_objective o []) each_agrees)
      (all_second (λ v. told last v ≡ kept_here v) (plain_in rows)
      (option_map_or plain_in_objective o []) each_agrees)
