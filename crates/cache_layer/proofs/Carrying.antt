-- An answer for the leaves can be carried back from the bridging that stands, and each address that
-- is reported then has a place.
use Rattle.std.specs.Prelude.{◌≡◌, ℕ, ◌<◌, zero, suc, Bool, true, false, List, [], ◌∷◌, ◌++◌, All, IfOk, IsSome, IsTrue, Option, Some, None, Result, Err, find, length, map, refl}
use Rattle.std.specs.List.{zip}
use Rattle.std.specs.Option.{option_map}
use Rattle.std.proofs.Common.{ap, arith, get_or, inl, inr, subst, sym, true≢false, ◌∙◌}
use Rattle.std.proofs.lemmas.List.Elements.{All-append, All-cons, All-head, All-map, All-nil, All-tail}
use Rattle.adjoint_core.specs.CanCarry.{CanCarry, HasItsDuals, HasLeafDuals}
use Rattle.adjoint_core.specs.CarriedBack.{CarriesAnswerBack, IsFirstUnfitAddress, UnfitGap, UnfitRow, cancelled, group_place, placed, users}
use Rattle.adjoint_core.specs.Told.{FirstNot}
use Rattle.adjoint_core.specs.Walk.{row_place}
use Rattle.adjoint_core.specs.declared.fault.BackFault.{BackFault}
use Rattle.adjoint_core.specs.declared.fault.BackFault.TheVariants as back
use Rattle.address_map.specs.AddressMap.{AddressMap}
use Rattle.aff_core.specs.Address.{Address, address_eq, address_eq-Decides}
use Rattle.bridge_set.specs.Bridges.{families_of, means_of}
use Rattle.bridge_set.specs.Nodes.{nodes_by}
use Rattle.bridge_face.specs.BridgeState.{BridgeState}
use Rattle.bridge_plan.specs.Means.{AreSound}
use Rattle.bridged_report.specs.Places.{place_at}
use Rattle.cache_layer.proofs.PlaceLemmas.{IsTold, groups_told, objective_told, rows_told}
use Rattle.cache_layer.specs.Optimizing.{CanTell}
use Rattle.cert_core.specs.Folds.{gap_parts_of}
use Rattle.certificates.specs.Good.{Good}
use Rattle.certificates.specs.Points.{address_of}
use Rattle.certificates.specs.declared.certificate.Certificate.{Certificate}
use Rattle.dual_laws.specs.Held.{DualRow, HasDuals}
use Rattle.equality_form.specs.ReadBack.{AnswerByAddress, infeasible, optimal, unbounded}
use Rattle.equality_form.specs.Right.{AreLeafDuals, IsRight, held}
use Rattle.expansion.specs.Bridged.{EachBridgedIn, each_in, none_in}
use Rattle.expansion.specs.Rules.{Rules}
use Rattle.map_laws.specs.EachLaws.{all_from_map}
use Rattle.fresh_bridging.specs.Entries.{Entry}
use Rattle.fresh_bridging.specs.FreshBridging.{FreshBridging, leaves_of}
use Rattle.fresh_bridging.specs.ModelImage.{objective_items, row_item}
use Rattle.fresh_bridging.specs.TheRules.{Setting}
use Rattle.item_core.specs.declared.item.Item.{Item}
use Rattle.lazy_bridge.specs.Native.{supports_native}
use Rattle.lazy_bridge.specs.NativeLaws.{supported}
use Rattle.lazy_bridge.specs.Owned.{IsBridgingOf, Owned, leaf_model_in, setting_in}
use Rattle.leaf_model.specs.LeafModel.{LeafModel}
use Rattle.ratio_core.specs.Folds.{sum_from}
use Rattle.ratio_core.specs.Rational.{Rational, zero_ℚ}
use Rattle.report_core.specs.declared.refused.Place.TheVariants as place
use Rattle.std.specs.FinMap as finite
use Rattle.solver_store.specs.declared.answer.LeafAnswer.{LeafAnswer}
use Rattle.std_form.specs.Answers.{answer_of}
use Rattle.tree_laws.specs.Carried.{LeafAnswerDuals}
use Rattle.tree_laws.specs.Certificate.{infeasible_duals, rows_of}
use Rattle.user_model.specs.Model.{ModelValue, variable_address, variables}
use Rattle.user_model.specs.Valid.{IsValid}
use Rattle.user_model.specs.declared.group.GroupVar.{GroupVar}

-- ---- a right answer has its duals

has_duals : (leaves : LeafModel) (costs : Address → Rational) (y : Address → List Rational)
    → AreLeafDuals leaves costs y → HasLeafDuals leaves y
has_duals leaves costs y h = λ k d within.
    (all_from_map HasDuals (held y) (finite.entries leaves.rows) h.duals k d within).size

its_duals : (leaves : LeafModel) (answer : AnswerByAddress) → IsRight leaves answer
    → HasItsDuals leaves answer
its_duals leaves (optimal x y) right = has_duals leaves _ y right.duals
its_duals leaves (infeasible y) right = has_duals leaves _ y right.duals
its_duals leaves (unbounded x d) right = tt

-- ---- and the bridging that stands carries it back

pub can_carry : (lazy : Owned) (model : ModelValue) (states : List BridgeState) (places : AddressMap)
    (answer : AnswerByAddress) → states ≡ lazy.bridges.states → places ≡ lazy.map
    → AreSound (means_of lazy.bridges) → IsTrue (supports_native lazy.bridges.table)
    → IsBridgingOf lazy model → IsRight (leaf_model_in lazy) answer
    → CanCarry states places model answer
can_carry lazy model states places answer same there sound native stands right = record {
  setting = setting_in lazy;
  families = ap families_of same;
  costly = sound.costly;
  lawful = sound.lawful;
  native = supported (setting_in lazy) native;
  bridging = stands.bridging;
  kept =
      subst (All (λ (bridge : BridgeState). bridge.kept ≡ nodes_by stands.bridging bridge.family)) (sym same)
      stands.kept;
  exprs = ap (λ (m : AddressMap). m.exprs) there ∙ stands.exprs;
  duals =
      its_duals (leaves_of stands.bridging) answer
      (subst (λ leaves. IsRight leaves answer) stands.leaves right);
}

-- so does a map and a list of bridges that are the bridging's, of an answer by index
module _ (lazy : Owned) (model : ModelValue) (states : List BridgeState) (places : AddressMap)
    (a : LeafAnswer) (same : states ≡ lazy.bridges.states) (there : places ≡ lazy.map)
    (sound : AreSound (means_of lazy.bridges)) (native : IsTrue (supports_native lazy.bridges.table))
    (stands : IsBridgingOf lazy model)
    (right : IsRight (leaf_model_in lazy) (answer_of lazy.map a)) where
  right_there : IsRight (leaf_model_in lazy) (answer_of places a)
  right_there =
      subst (λ (m : AddressMap). IsRight (leaf_model_in lazy) (answer_of m a)) (sym there) right

  pub can_here : CanCarry states places model (answer_of places a)
  can_here =
      can_carry lazy model states places (answer_of places a) same there sound native stands
      right_there

  pub carried_here : (result : Result Certificate BackFault)
      → ((can : CanCarry states places model (answer_of places a))
      → CarriesAnswerBack can.bridging (answer_of places a) result)
      → CarriesAnswerBack stands.bridging (answer_of lazy.map a) result
  unfolding can_here can_carry
  carried_here result carried =
      subst (λ (m : AddressMap). CarriesAnswerBack stands.bridging (answer_of m a) result) there
      (carried can_here)

  pub good_here : (result : Result Certificate BackFault)
      → ((can : CanCarry states places model (answer_of places a))
      → IsRight (leaves_of can.bridging) (answer_of places a) → IfOk result (Good model))
      → IfOk result (Good model)
  unfolding can_here can_carry
  good_here result good =
      good can_here
      (subst (λ leaves. IsRight leaves (answer_of places a)) stands.leaves right_there)

-- ---- each variable has a place

found_among : (p : GroupVar → Bool) (vars : List GroupVar) (k : ℕ) (d : GroupVar) → k < length vars
    → p (get_or vars k d) ≡ true → IsSome (find p vars)
found_among p [] k d within h = absurd (omega (arith, within))
found_among p (var ∷ vars) k d within h =
    by k (p var) refl within h (λ j less e. found_among p vars j d less e)
  where
    by : (k : ℕ) (b : Bool) → p var ≡ b → k < length (var ∷ vars)
        → p (get_or (var ∷ vars) k d) ≡ true
        → ((j : ℕ) → j < length vars → p (get_or vars j d) ≡ true → IsSome (find p vars))
        → IsSome (find p (var ∷ vars))
    by k true e within h rest = rw e refl
    by zero false e within h rest = absurd (true≢false (sym h ∙ e))
    by (suc k) false e within h rest = rw e (rest k (omega (arith, within)) h)

named_as : (o : Option GroupVar) → IsSome o
    → IsSome (option_map place.Var (option_map (λ (v : GroupVar). v.name) o))
named_as None h = absurd (true≢false (sym h))
named_as (Some var) h = refl

users_told : (model : ModelValue) → All (λ v. IsSome (place_at model v)) (users model)
users_told model =
    All-map (λ v. IsSome (place_at model v)) address_of (variables model)
    (λ k d within.
    let var = get_or (variables model) k d in
    named_as (find (λ v. address_eq (variable_address v.number) (variable_address var.number))
    (variables model))
    (found_among (λ v. address_eq (variable_address v.number) (variable_address var.number))
    (variables model) k d within
    ((address_eq-Decides (variable_address var.number) (variable_address var.number)).1 refl)))

-- ---- the first that doesn't fit stands among all

module _ (P : Address → Type 0) where
  first_not : {X : Type 0} (Q : X → Type 0) (place : X → Address) (xs : List X) (at : Address)
      → All (λ x. P (place x)) xs → FirstNot Q place xs at → P at
  unfolding FirstNot
  first_not Q place [] at all h = absurd h
  first_not Q place (x ∷ xs) at all (inl h) =
      subst P h.1 (All-head (λ x. P (place x)) x xs all)
  first_not Q place (x ∷ xs) at all (inr h) =
      first_not Q place xs at (All-tail (λ x. P (place x)) x xs all) h.1

  unfit_part : (hs : List (Address × DualRow)) (sum : Rational) (at : Address)
      → All (λ (h : Address × DualRow). P h.0) hs → UnfitGap sum hs at → P at
  unfolding UnfitGap
  unfit_part [] sum at all u = absurd u
  unfit_part (h ∷ hs) sum at all (inl u) =
      subst P u.1 (All-head (λ (h : Address × DualRow). P h.0) h hs all)
  unfit_part (h ∷ hs) sum at all (inr u) =
      unfit_part hs (sum_from sum (gap_parts_of h.1)) at
      (All-tail (λ (h : Address × DualRow). P h.0) h hs all) u.1

  all_firsts : {X Y : Type 0} (place : X → Address) (xs : List X) (ys : List Y)
      → All (λ x. P (place x)) xs
      → All (λ (p : Address × Y). P p.0) (zip (map place xs) ys)
  all_firsts {X} {Y} place [] ys all = All-nil (λ (p : Address × Y). P p.0)
  all_firsts {X} {Y} place (x ∷ xs) [] all = All-nil (λ (p : Address × Y). P p.0)
  all_firsts {X} {Y} place (x ∷ xs) (y ∷ ys) all =
      All-cons (λ (p : Address × Y). P p.0) (place x, y) (zip (map place xs) ys)
      (All-head (λ x. P (place x)) x xs all)
      (all_firsts place xs ys (All-tail (λ x. P (place x)) x xs all))

module _ (P : Address → Type 0) {rules : Rules Item Entry} (d : LeafAnswerDuals) where
  unfit_row : (n : ℕ) {inner : List Entry} {items : List Item}
      (trees : EachBridgedIn rules inner items) (at : Address)
      → All (λ (item : Item). P item.at) items → UnfitRow d n trees at → P at
  unfolding UnfitRow
  unfit_row zero trees at all u = absurd u
  unfit_row (suc n) none_in at all u = absurd u
  unfit_row (suc n) (each_in {item = item} {items = items} first rest) at all (inl u) =
      subst P u.1 (All-head (λ (i : Item). P i.at) item items all)
  unfit_row (suc n) (each_in {item = item} {items = items} first rest) at all (inr u) =
      unfit_row n rest at (All-tail (λ (i : Item). P i.at) item items all) u.1

-- ---- what is said has a place

module _ {setting : Setting} (model : ModelValue) (valid : IsValid model)
    (bridging : FreshBridging setting model) where
  abbrev HasPlace : Address → Type 0
  HasPlace at = IsSome (place_at model at)

  others_told : All (IsTold model) (map row_item model.rows ++ objective_items model.objective)
  others_told =
      All-append (IsTold model) (map row_item model.rows) (objective_items model.objective)
      (All-map (IsTold model) row_item model.rows (rows_told model valid))
      (objective_told model model.objective)

  placed_told : (rows : List (List Rational)) (vars : List Rational)
      → All (λ (h : Address × DualRow). HasPlace h.0) (placed model rows vars)
  placed_told rows vars =
      All-append (λ (h : Address × DualRow). HasPlace h.0) _ _
      (all_firsts HasPlace row_place model.rows _ (rows_told model valid))
      (all_firsts HasPlace group_place model.groups _ (groups_told model valid))

  row_told : (d : LeafAnswerDuals) (at : Address)
      → UnfitRow d (length model.rows) bridging.made.others at
      → HasPlace at
  row_told d at u = unfit_row HasPlace d (length model.rows) bridging.made.others at others_told u

  user_told : (Q : Address → Type 0) (at : Address) → FirstNot Q (λ v. v) (users model) at
      → HasPlace at
  user_told Q at u = first_not HasPlace Q (λ v. v) (users model) at (users_told model) u

  unfit_told : (answer : AnswerByAddress) (at : Address) → IsFirstUnfitAddress bridging answer at
      → HasPlace at
  unfit_told (optimal x y) at (inl u) = user_told _ at u
  unfit_told (optimal x y) at (inr (_, inl u)) = row_told _ at u
  unfit_told (optimal x y) at (inr (_, inr (_, inl u))) = user_told _ at u
  unfit_told (optimal x y) at (inr (_, inr (_, inr (_, u)))) = subst HasPlace u.1 refl
  unfit_told (infeasible y) at (inl u) = row_told _ at u
  unfit_told (infeasible y) at (inr (_, inl u)) = user_told _ at u
  unfit_told (infeasible y) at (inr (_, inr (_, u))) =
      let rows = rows_of bridging (infeasible_duals bridging y) in
      let vars = cancelled model rows in
      unfit_part HasPlace (placed model rows vars) zero_ℚ at (placed_told rows vars) u
  unfit_told (unbounded x d) at u = user_told _ at u

  pub can_tell : (answer : AnswerByAddress) (fault : BackFault)
      → CarriesAnswerBack bridging answer (Err fault)
      → CanTell model fault
  can_tell answer (back.Overflow at) is = unfit_told answer at is
  can_tell answer back.Memory is = tt
