-- The duals of the user's rows, by what bridges keep and along the fresh bridging.
use mathlib.Core.List.{map-map}
use Rattle.std.specs.Prelude.{◌≡◌, ◌+◌, ◌≤◌, ℕ, false, List, [], ◌∷◌, ◌++◌, All, Contains, flat_map, length, map, take, refl}
use Rattle.std.proofs.Common.{arith, ap, ap₂, get_or, inl, inr, subst, sym, ◌∙◌}
use Rattle.std.proofs.lemmas.List.{length-map, map-append}
use Rattle.std.proofs.Math.Seq.{take-append_seam}
use Rattle.std.proofs.lemmas.List.Elements.{All-cons, All-contains, All-contains_itself, All-map, All-nil, All-weaker, Contains-append_right}
use Rattle.expansion.specs.Read.{leaves_in, leaves_of_each, model_nodes, nodes_in, nodes_of_each}
use Rattle.ratio_core.specs.Rational.{Rational}
use Rattle.address_map.specs.AddressMap.{AddressMap}
use Rattle.aff_core.specs.Address.{Address}
use Rattle.item_core.specs.declared.item.Body.{Body}
use Rattle.item_core.specs.declared.item.Item.{Item}
use Rattle.item_core.specs.Item.{functions_of}
use Rattle.bridge_face.specs.Law.{is_objective}
use Rattle.bridge_face.specs.BridgeState.{BridgeState}
use Rattle.bridge_face.specs.declared.kept_item.KeptItem.{KeptItem}
use Rattle.bridge_plan.specs.AddsHeld.{kept_of}
use Rattle.cert_core.specs.Checked.{HasEachDual, HasRowDuals}
use Rattle.certificates.specs.Duals.{rows_with}
use Rattle.equality_form.specs.ReadBack.{AnswerByAddress}
use Rattle.map_laws.specs.EachLaws.{all_both, all_first, all_from_map, all_second}
use Rattle.fresh_bridging.specs.FreshBridging.{FreshBridging, leaves_of}
use Rattle.fresh_bridging.specs.Leaves.{leaf_rows}
use Rattle.fresh_bridging.specs.ModelImage.{objective_items, row_item}
use Rattle.user_model.specs.Model.{ModelValue}
use Rattle.user_model.specs.Valid.{IsValid}
use Rattle.user_model.specs.declared.function.UserFunc.{UserFunc}
use Rattle.user_model.specs.declared.function.UserFunc.TheVariants as func
use Rattle.user_model.specs.declared.row.Row.{Row}
use Rattle.address_laws.specs.Apart.{Avoids, Distinct}
use Rattle.address_laws.specs.DistinctLaws.{model_keys_distinct}
use Rattle.address_laws.specs.KeyLaws.{AreKeys}
use Rattle.address_laws.specs.Keys.{keys_in, keys_of_each}
use Rattle.address_laws.specs.LeafKeys.{its_key, leaf_keys_in, no_keys, node_keys_in, node_keys_of_each, nodes_are, row_keys, rows_alone, alone_are}
use Rattle.tree_laws.specs.Carried.{LeafAnswerDuals, backs}
use Rattle.tree_laws.specs.Certificate.{rows_of}
use Rattle.tree_laws.specs.PrimalLaws.{others_there, rows_from}
use Rattle.tree_laws.specs.UserLaws.{item_functions_are}
use Rattle.adjoint_core.specs.CanCarry.{CanCarry, HasLeafDuals}
use Rattle.adjoint_core.specs.CarriedBack.{AllRowsFit, IsUnfitRow, RowsFit, UnfitRow}
use Rattle.adjoint_core.specs.Told.{FirstNot}
use Rattle.adjoint_core.specs.Walk.{AreRowsWithin, DualBelowFits, IsRowWithin, IsUnfitAmong, RowDualFits, dual_at, levels, row_dual, row_place}
use Rattle.adjoint_core.proofs.BackSizes.{row_size}
use Rattle.tree_laws.specs.BesideLaws.{all_beside}
use Rattle.adjoint_core.proofs.Found.{node_kept, none_kept}
use Rattle.adjoint_core.proofs.Walks.{IsFreeRow, Known, RowsWalk, walk_rows}

-- ---- lists

pub all_in : {X : Type 0} (P : X → Type 0) (xs : List X) → ((x : X) → Contains xs x → P x)
    → All P xs
all_in P xs h = All-weaker (Contains xs) P h xs (All-contains_itself xs)

contains_map : {X Y : Type 0} (f : X → Y) (xs : List X) (x : X) → Contains xs x
    → Contains (map f xs) (f x)
contains_map f xs x =
    All-contains (λ y. Contains (map f xs) (f y)) xs x
    (all_from_map (Contains (map f xs)) f xs (All-contains_itself (map f xs)))

all_parts : {X Y : Type 0} (P : Y → Type 0) (f : X → List Y) (xs : List X) → All P (flat_map f xs)
    → All (λ x. All P (f x)) xs
all_parts P f [] h = All-nil (λ x. All P (f x))
all_parts P f (x ∷ xs) h =
    All-cons (λ y. All P (f y)) x xs (all_first P (f x) (flat_map f xs) h)
    (all_parts P f xs (all_second P (f x) (flat_map f xs) h))

-- ---- the user's rows, as items

ats_are : (rows : List Row) → map (λ (c : Item). c.at) (map row_item rows) ≡ map row_place rows
ats_are = map-map (λ (c : Item). c.at) row_item

no_objectives : (rows : List Row)
    → All (λ (c : Item). is_objective c.body ≡ false) (map row_item rows)
no_objectives rows =
    All-map (λ (c : Item). is_objective c.body ≡ false) row_item rows
    (λ k d lt. by (get_or rows k d) (get_or rows k d).func)
  where
    by : (r : Row) (f : UserFunc) → is_objective (row_item (record r { func = f })).body ≡ false
    by r (func.Plain var) = refl
    by r _ = refl

deep_enough : (rows : List Row)
    → All (λ (c : Item). levels ≤ levels + length c.at.positions) (map row_item rows)
deep_enough rows =
    All-map (λ (c : Item). levels ≤ levels + length c.at.positions) row_item rows
    (λ k d lt. omega arith)

-- a dual for each component of each row
row_sizes : (rows : List Row) (duals : List (List Rational))
    → map length duals ≡ map row_size (map row_item rows) → HasRowDuals rows duals
row_sizes rows duals e = record { each = count; components = each rows duals e }
  where
    count : length duals ≡ length rows
    count =
        sym (length-map duals length) ∙ ap length e
        ∙ length-map (map row_item rows) row_size ∙ length-map rows row_item

    each : (rs : List Row) (ys : List (List Rational))
        → map length ys ≡ map row_size (map row_item rs) → All HasEachDual (rows_with ys rs)
    each rs [] k = All-nil HasEachDual
    each [] (y ∷ ys) k = All-nil HasEachDual
    each (r ∷ rs) (y ∷ ys) k =
        All-cons HasEachDual _ (rows_with ys rs)
        (first k ∙ ap length (item_functions_are r.func r.set)) (each rs ys (rest k))
      where
        first : map length (y ∷ ys) ≡ map row_size (map row_item (r ∷ rs))
            → length y ≡ row_size (row_item r)
        first q = cc

        rest : map length (y ∷ ys) ≡ map row_size (map row_item (r ∷ rs))
            → map length ys ≡ map row_size (map row_item rs)
        rest q = cc

-- the first of places, told of rows
first_of_rows : (P : Address → Type 0) (rows : List Row) (at : Address)
    → FirstNot (λ r. P (row_place r)) row_place rows at
    → FirstNot P (λ v. v) (map row_place rows) at
unfolding FirstNot
first_of_rows P [] at h = h
first_of_rows P (r ∷ rows) at (inl n) = inl n
first_of_rows P (r ∷ rows) at (inr k) = inr (k.0, first_of_rows P rows at k.1)

-- ---- a model that is bridged

module _ (states : List BridgeState) (places : AddressMap) (model : ModelValue) (answer : AnswerByAddress)
    (can : CanCarry states places model answer) (valid : IsValid model) where
  abbrev bridging : FreshBridging can.setting model
  bridging = can.bridging

  abbrev node_list : List KeptItem
  node_list = map kept_of (model_nodes bridging.made)

  abbrev node_keys : List Address
  node_keys =
      keys_of_each no_keys its_key bridging.made.groups
      ++ keys_in no_keys its_key bridging.made.others

  node_addresses : map (λ (n : KeptItem). n.item.at) node_list ≡ node_keys
  unfolding model_nodes
  node_addresses =
      map-map (λ (n : KeptItem). n.item.at) kept_of
      (nodes_of_each bridging.made.groups ++ nodes_in bridging.made.others)
      ∙ map-append (λ n. n.1.at) (nodes_of_each bridging.made.groups)
      (nodes_in bridging.made.others)
      ∙ sym (ap₂ ◌++◌ (node_keys_of_each bridging.made.groups)
      (node_keys_in bridging.made.others))

  nodes_apart : Distinct (map (λ (n : KeptItem). n.item.at) node_list)
  nodes_apart =
      subst Distinct (sym node_addresses)
      (model_keys_distinct can.setting can.costly can.lawful model valid bridging no_keys its_key
      nodes_are)

  rows_and_nodes : AreKeys row_keys its_key
  rows_and_nodes = record {
    leaf_mine = (alone_are row_keys rows_alone).leaf_mine;
    leaf_once = (alone_are row_keys rows_alone).leaf_once;
    node_here = nodes_are.node_here;
    node_once = nodes_are.node_once;
  }

  -- no node stands at a leaf row's address
  leaf_rows_beside : All (Avoids node_keys) (flat_map row_keys (leaves_in bridging.made.others))
  leaf_rows_beside =
      subst (All (Avoids node_keys)) (leaf_keys_in row_keys bridging.made.others)
      (all_second (Avoids node_keys) (keys_of_each row_keys no_keys bridging.made.groups)
      (keys_in row_keys no_keys bridging.made.others)
      (all_beside row_keys its_key bridging.made.groups bridging.made.others
      (model_keys_distinct can.setting can.costly can.lawful model valid bridging row_keys its_key
      rows_and_nodes)))

  module _ (d : LeafAnswerDuals) (sizes : HasLeafDuals (leaves_of bridging) d.duals) where
    abbrev KnownHere : ℕ × Item → Type 0
    KnownHere =
        Known can.setting can.costly bridging.choice bridging.chosen can.lawful states
        can.families d

    abbrev FreeHere : Address × Body → Type 0
    FreeHere =
        IsFreeRow can.setting can.costly bridging.choice bridging.chosen can.lawful states
        can.families d

    known : All KnownHere (nodes_in bridging.made.others)
    unfolding model_nodes
    known =
        all_in KnownHere (nodes_in bridging.made.others)
        (λ n c. record {
          kept = λ own.
              node_kept node_list states (kept_of n) can.kept nodes_apart
              (contains_map kept_of (model_nodes bridging.made) n
              (Contains-append_right (nodes_of_each bridging.made.groups)
              (nodes_in bridging.made.others) n c)) own;
        })

    free : All (λ leaf. All FreeHere (leaf_rows leaf)) (leaves_in bridging.made.others)
    free =
        All-weaker
        (λ leaf. All (Avoids node_keys) (row_keys leaf)
        × All (λ row. length (d.duals row.0) ≡ length (functions_of row.1)) (leaf_rows leaf))
        (λ leaf. All FreeHere (leaf_rows leaf))
        (λ leaf h.
        All-weaker
        (λ row. Avoids node_keys row.0 × (length (d.duals row.0) ≡ length (functions_of row.1)))
        FreeHere
        (λ row k. record {
          free = none_kept node_list states row.0 can.kept
              (subst (λ l. Avoids l row.0) (sym node_addresses) k.0);
          size = k.1;
        })
        (leaf_rows leaf)
        (all_both (λ row. Avoids node_keys row.0)
        (λ row. length (d.duals row.0) ≡ length (functions_of row.1)) (leaf_rows leaf)
        (all_from_map (Avoids node_keys) (λ row. row.0) (leaf_rows leaf) h.0) h.1))
        (leaves_in bridging.made.others)
        (all_both (λ leaf. All (Avoids node_keys) (row_keys leaf))
        (λ leaf. All (λ row. length (d.duals row.0) ≡ length (functions_of row.1)) (leaf_rows leaf))
        (leaves_in bridging.made.others)
        (all_parts (Avoids node_keys) row_keys (leaves_in bridging.made.others) leaf_rows_beside)
        (all_second (λ leaf. All (λ row. length (d.duals row.0) ≡ length (functions_of row.1))
        (leaf_rows leaf)) (leaves_of_each bridging.made.groups) (leaves_in bridging.made.others)
        (all_parts (λ row. length (d.duals row.0) ≡ length (functions_of row.1)) leaf_rows
        (leaves_of_each bridging.made.groups ++ leaves_in bridging.made.others)
        (rows_from can.setting can.costly can.lawful can.native model valid bridging
        (λ row. length (d.duals row.0) ≡ length (functions_of row.1)) sizes))))

    abbrev items : List Item
    items = map row_item model.rows

    all_of_them : take (length items) (items ++ objective_items model.objective) ≡ items
    all_of_them = take-append_seam items (objective_items model.objective)

    walked : RowsWalk can.setting can.costly bridging.choice bridging.chosen can.lawful states
        can.families d levels items (RowsFit d (length items) bridging.made.others)
        (UnfitRow d (length items) bridging.made.others)
        (take (length items) (backs d bridging.made.others))
    walked =
        subst (λ rows. RowsWalk can.setting can.costly bridging.choice bridging.chosen can.lawful
        states can.families d levels rows (RowsFit d (length items) bridging.made.others)
        (UnfitRow d (length items) bridging.made.others)
        (take (length items) (backs d bridging.made.others))) all_of_them
        (walk_rows can.setting can.costly bridging.choice bridging.chosen can.lawful states
        can.families d (length items) bridging.made.others
        (others_there can.setting can.costly can.lawful can.native model valid bridging)
        (subst (All (λ (c : Item). is_objective c.body ≡ false)) (sym all_of_them)
        (no_objectives model.rows))
        known free levels
        (subst (All (λ (c : Item). levels ≤ levels + length c.at.positions)) (sym all_of_them)
        (deep_enough model.rows)))

    count : length items ≡ length model.rows
    count = length-map model.rows row_item

    pub record RowsCarried : Type 0 where
      pub within : AreRowsWithin states d.duals model.rows
      pub fits : AllRowsFit bridging d → All (RowDualFits states d.duals) model.rows
      pub only : All (RowDualFits states d.duals) model.rows → AllRowsFit bridging d
      pub unfit : (at : Address) → IsUnfitAmong states d.duals model.rows at
          → IsUnfitRow bridging d at
      pub same : map (row_dual states d.duals) model.rows ≡ rows_of bridging d

    pub rows_carried : RowsCarried
    rows_carried = record {
      within = record {
        each =
            all_from_map (IsRowWithin states d.duals levels) row_place model.rows
            (subst (All (IsRowWithin states d.duals levels)) (ats_are model.rows) walked.within);
        sizes = row_sizes model.rows (map (row_dual states d.duals) model.rows)
            (ap (map length) duals_are ∙ walked.sizes);
      };
      fits = λ h.
          all_from_map (DualBelowFits states d.duals levels) row_place model.rows
          (subst (All (DualBelowFits states d.duals levels)) (ats_are model.rows)
          (walked.fits (subst (λ n. RowsFit d n bridging.made.others) (sym count) h)));
      only = λ h.
          subst (λ n. RowsFit d n bridging.made.others) count
          (walked.only (subst (All (DualBelowFits states d.duals levels)) (sym (ats_are model.rows))
          (All-map (DualBelowFits states d.duals levels) row_place model.rows h)));
      unfit = λ at h.
          subst (λ n. UnfitRow d n bridging.made.others at) count
          (walked.unfit at (subst (λ l. FirstNot (DualBelowFits states d.duals levels) (λ v. v) l at)
          (sym (ats_are model.rows))
          (first_of_rows (DualBelowFits states d.duals levels) model.rows at h)));
      same = duals_are ∙ ap (λ n. take n (backs d bridging.made.others)) count;
    }
      where
        duals_are : map (row_dual states d.duals) model.rows
            ≡ take (length items) (backs d bridging.made.others)
        duals_are =
            sym (map-map (dual_at states d.duals levels) row_place model.rows)
            ∙ ap (map (dual_at states d.duals levels)) (sym (ats_are model.rows))
            ∙ walked.same
