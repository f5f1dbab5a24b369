-- What a search hands out of a model: of its items, in their order, those whose addresses are found.
use Rattle.std.specs.Prelude.{◌≡◌, ◌⊎◌, ◌||◌, ◌<◌, ◌++◌, ℕ, Bool, true, false, cond, List, [], ◌∷◌, All, Contains, filter, flat_map, map, option_and_then, Option, Some, None, refl}
use Rattle.std.specs.List.{cons_option, filter_map}
use Rattle.std.specs.List.Sorted.{IsStrictlySortedBy}
use Rattle.std.specs.Option.{option_map, option_map_or}
use Rattle.std.specs.Ordering.{nat_cmp, ordering_then}
use Rattle.std.specs.declared.cmp.Ordering.{Ordering}
use Rattle.std.specs.declared.cmp.Ordering.TheVariants.{Equal, Greater, Less}
use Rattle.std.proofs.Common.{inl, inr, ap, ap₂, sym, ◌∙◌, true≢false}
use Rattle.std.proofs.lemmas.List.Elements.{All-cons, All-contains, All-head, All-nil, All-tail, Contains-append_left, Contains-append_right, filter-append}
use Rattle.std.proofs.lemmas.Map.Keys.{sorted_tail}
use Rattle.std.proofs.lemmas.Map.Views.{All-after_first}
use Rattle.std.proofs.lemmas.Option.{none-some, same_Some}
use Rattle.aff_core.specs.Address.{Address, address_cmp, address_eq, address_eq-Decides, root_address}
use Rattle.aff_core.specs.declared.root.Root.TheVariants as root
use Rattle.fresh_bridging.specs.ModelImage.{group_item, model_image, objective_items, row_item}
use Rattle.fresh_bridging.specs.Touched.{item_at}
use Rattle.item_core.specs.Item.{is_group}
use Rattle.item_core.specs.declared.item.Item.{Item}
use Rattle.leaf_update.specs.LeavesLaws.{among_contained, contains_among}
use Rattle.leaf_update.specs.Others.{among}
use Rattle.local_laws.specs.MentionLaws.{NotesMentions, mapped_contains}
use Rattle.map_laws.specs.TestLaws.{less_than}
use Rattle.model_bridging.specs.Found.{found_others}
use Rattle.numbered_list.specs.Laws.{Contains-found, Rise-cons, Rise-filter, Rise-nil, find-filter_map, find-first, find-rest, number_of_found, same_lists}
use Rattle.numbered_list.specs.Numbered.{IsAt, Rise, find}
use Rattle.push_laws.specs.AgreeLaws.{contains_one_of, is_one_of, one_of_contained}
use Rattle.push_laws.specs.ListLaws.{filter_mapped}
use Rattle.touched_items.specs.DifferenceLaws.{HasDifferences, all_differ, group_there, objective_address}
use Rattle.touched_items.specs.Differences.{addresses_in, differing_addresses, groups_in, group_addresses, row_addresses, rows_in}
use Rattle.touched_items.specs.Search.{AreInOrder, is_row, objective_among, row_at}
use Rattle.touched_items.specs.SearchLaws.{in_order_noted}
use Rattle.touched_items.specs.Sides.{IsSeparated, differ, same}
use Rattle.touched_items.specs.declared.differing.ModelItems.{ModelItems}
use Rattle.touched_items.specs.declared.differing.Differing.{Differing}
use Rattle.user_model.specs.Edited.{group_number, row_number}
use Rattle.user_model.specs.Model.{ModelValue}
use Rattle.user_model.specs.Valid.{IsValid}
use Rattle.user_model.specs.declared.group.Group.{Group}
use Rattle.user_model.specs.declared.objective.Objective.TheVariants as objective
use Rattle.user_model.specs.declared.objective.Objective.{Objective}
use Rattle.user_model.specs.declared.row.Row.{Row}

-- a group's address is among those of contents that have it
pub in_contents : (c : ModelItems) (g : Group) → Contains (groups_in c) g
    → Contains (addresses_in c) (group_item g).at
in_contents c g k =
    Contains-append_left (group_addresses (groups_in c))
    (row_addresses (rows_in c) ++ option_map_or (λ _. objective_address ∷ []) c.objective [])
    (group_item g).at
    (mapped_contains (λ (g : Group). root_address root.Group g.id) (groups_in c) g k)

-- ---- lists

module _ {X : Type 0} (number_of : X → ℕ) (p : X → Bool) where
  abbrev passing : X → Option X
  passing x = cond (p x) (Some x) None

  filter_as : (xs : List X) → filter p xs ≡ filter_map passing xs
  filter_as [] = refl
  filter_as (x ∷ xs) = by (p x) (filter_as xs)
    where
      by : (b : Bool) → filter p xs ≡ filter_map passing xs
          → cond b (x ∷ filter p xs) (filter p xs)
          ≡ cons_option (cond b (Some x) None) (filter_map passing xs)
      by true e = ap (λ l. x ∷ l) e
      by false e = e

  found_in_filter : (n : ℕ) (xs : List X) → Rise number_of xs
      → find number_of n (filter p xs) ≡ option_and_then passing (find number_of n xs)
  found_in_filter n xs rise =
      ap (find number_of n) (filter_as xs)
      ∙ find-filter_map number_of passing n xs (record { keeps = λ x. by x (p x) }) rise
    where
      by : (x : X) (b : Bool) → IsAt number_of (number_of x) (cond b (Some x) None)
      by x true = refl
      by x false = tt

one_among : (us : List Address) (v : Address) → is_one_of us v ≡ among us v
one_among us v = by (is_one_of us v) refl (among us v) refl
  where
    by : (a : Bool) → is_one_of us v ≡ a → (b : Bool) → among us v ≡ b → a ≡ b
    by true e true f = refl
    by true e false f = sym (among_contained v us (contains_one_of us v e)) ∙ f
    by false e true f = sym e ∙ one_of_contained us v (contains_among v us f)
    by false e false f = refl

-- ---- rows

then_equal : (o : Ordering) → ordering_then o Equal ≡ o
then_equal Less = refl
then_equal Equal = refl
then_equal Greater = refl

rows_order : (m n : ℕ)
    → address_cmp (root_address root.Row m) (root_address root.Row n) ≡ nat_cmp m n
unfolding address_cmp
rows_order m n = then_equal (nat_cmp m n)

module _ (model : ModelValue) where
  -- a row is found at its own address
  row_where : (at : Address) (r : Row) → row_at model at ≡ Some r
      → (at ≡ root_address root.Row r.id) × (find row_number at.number model.rows ≡ Some r)
  row_where at r e = by (is_row at) refl e
    where
      by : (b : Bool) → is_row at ≡ b
          → cond b (find row_number at.number model.rows) None ≡ Some r
          → (at ≡ root_address root.Row r.id) × (find row_number at.number model.rows ≡ Some r)
      by true f g = (
        (address_eq-Decides at (root_address root.Row at.number)).0 f
            ∙ ap (root_address root.Row) (sym (number_of_found row_number at.number r model.rows g)),
        g,
      )
      by false f g = absurd (none-some r g)

  above : (at : Address) (r : Row) → at ≡ root_address root.Row r.id → (bs : List Address)
      → All (λ b. address_cmp at b ≡ Less) bs
      → All (λ s. r.id < s.id) (filter_map (row_at model) bs)
  above at r here [] h = All-nil (λ (s : Row). r.id < s.id)
  above at r here (b ∷ bs) h =
      by (row_at model b) refl
      (above at r here bs (All-tail (λ b. address_cmp at b ≡ Less) b bs h))
    where
      by : (o : Option Row) → row_at model b ≡ o
          → All (λ s. r.id < s.id) (filter_map (row_at model) bs)
          → All (λ s. r.id < s.id) (cons_option o (filter_map (row_at model) bs))
      by None e later = later
      by (Some s) e later =
          All-cons (λ s. r.id < s.id) s (filter_map (row_at model) bs)
          (less_than r.id s.id (sym (rows_order r.id s.id)
          ∙ ap₂ address_cmp (sym here) (sym (row_where b s e).0)
          ∙ All-head (λ b. address_cmp at b ≡ Less) b bs h)) later

  rows_rise : (ats : List Address) → IsStrictlySortedBy address_cmp ats
      → Rise row_number (filter_map (row_at model) ats)
  rows_rise [] sorted = Rise-nil row_number
  rows_rise (at ∷ ats) sorted =
      by (row_at model at) refl (rows_rise ats (sorted_tail address_cmp at ats sorted))
    where
      by : (o : Option Row) → row_at model at ≡ o
          → Rise row_number (filter_map (row_at model) ats)
          → Rise row_number (cons_option o (filter_map (row_at model) ats))
      by None e later = later
      by (Some r) e later =
          Rise-cons row_number r (filter_map (row_at model) ats)
          (above at r (row_where at r e).0 ats (All-after_first address_cmp at ats sorted)) later

  row_found : (n : ℕ) (ats : List Address)
      → find row_number n (filter_map (row_at model) ats)
      ≡ cond (among ats (root_address root.Row n)) (find row_number n model.rows) None
  row_found n [] = refl
  row_found n (at ∷ ats) =
      by (address_eq (root_address root.Row n) at) refl (row_at model at) refl (row_found n ats)
    where
      row_here : row_at model (root_address root.Row n) ≡ find row_number n model.rows
      row_here =
          ap (λ b. cond b (find row_number n model.rows) None)
          ((address_eq-Decides (root_address root.Row n) (root_address root.Row n)).1 refl)

      -- the row at the address, where it is the first
      there : address_eq (root_address root.Row n) at ≡ true → (o : Option Row)
          → row_at model at ≡ o → find row_number n model.rows ≡ o
      there e o f =
          sym row_here
          ∙ ap (row_at model) ((address_eq-Decides (root_address root.Row n) at).0 e) ∙ f

      either : (b : Bool) (o : Option Row) → o ≡ None → cond b o None ≡ None
      either true o e = e
      either false o e = refl

      other : address_eq (root_address root.Row n) at ≡ false → (r : Row) → row_at model at ≡ Some r
          → ¬ (row_number r ≡ n)
      other e r f k =
          true≢false (sym ((address_eq-Decides (root_address root.Row n) at).1
          (sym ((row_where at r f).0 ∙ ap (root_address root.Row) k))) ∙ e)

      by : (b : Bool) → address_eq (root_address root.Row n) at ≡ b
          → (o : Option Row) → row_at model at ≡ o
          → find row_number n (filter_map (row_at model) ats)
          ≡ cond (among ats (root_address root.Row n)) (find row_number n model.rows) None
          → find row_number n (cons_option o (filter_map (row_at model) ats))
          ≡ cond (b || among ats (root_address root.Row n)) (find row_number n model.rows) None
      by true e None f later =
          later
          ∙ either (among ats (root_address root.Row n)) (find row_number n model.rows)
          (there e None f)
          ∙ sym (there e None f)
      by true e (Some r) f later =
          find-first row_number n r (filter_map (row_at model) ats)
          (number_of_found row_number n r model.rows (there e (Some r) f))
          ∙ sym (there e (Some r) f)
      by false e None f later = later
      by false e (Some r) f later =
          find-rest row_number n r (filter_map (row_at model) ats) (other e r f) ∙ later

-- ---- what is found

-- the items whose addresses are found
abbrev pub is_found : List Address → Item → Bool
is_found addresses i = among addresses i.at

module _ (after : ModelValue) (valid : IsValid after) (addresses : List Address) where
  found_row : (n : ℕ) (o : Option Row) → find row_number n after.rows ≡ o
      → option_and_then (passing row_number (λ r. is_found addresses (row_item r)))
      (find row_number n after.rows)
      ≡ cond (among addresses (root_address root.Row n)) (find row_number n after.rows) None
  found_row n None e =
      ap (option_and_then (passing row_number (λ r. is_found addresses (row_item r)))) e
      ∙ both (among addresses (root_address root.Row n))
      ∙ ap (λ o. cond (among addresses (root_address root.Row n)) o None) (sym e)
    where
      both : (b : Bool) → let o : Option Row = None in o ≡ cond b o None
      both true = refl
      both false = refl
  found_row n (Some r) e =
      ap (option_and_then (passing row_number (λ r. is_found addresses (row_item r)))) e
      ∙ ap (λ m. cond (among addresses (root_address root.Row m)) (Some r) None)
      (number_of_found row_number n r after.rows e)
      ∙ ap (λ o. cond (among addresses (root_address root.Row n)) o None) (sym e)

  rows_handed : IsStrictlySortedBy address_cmp addresses
      → filter (is_found addresses) (map row_item after.rows)
      ≡ map row_item (filter_map (row_at after) addresses)
  rows_handed sorted =
      let p : Row → Bool = λ r. is_found addresses (row_item r) in
      filter_mapped (is_found addresses) row_item after.rows
      ∙ ap (map row_item) (same_lists row_number (filter p after.rows)
      (filter_map (row_at after) addresses)
      (Rise-filter row_number p after.rows valid.consistent.rows_rise)
      (rows_rise after addresses sorted)
      (λ n. found_in_filter row_number p n after.rows valid.consistent.rows_rise
      ∙ found_row n (find row_number n after.rows) refl ∙ sym (row_found after n addresses)))

  objective_handed : (o : Objective)
      → filter (is_found addresses) (objective_items o)
      ≡ option_map_or objective_items
      (cond (is_one_of addresses objective_address) (Some o) None) []
  objective_handed objective.Feasibility = by (is_one_of addresses objective_address)
    where
      by : (b : Bool) → let none : List Item = [] in
          none ≡ option_map_or objective_items (cond b (Some objective.Feasibility) None) []
      by true = refl
      by false = refl
  objective_handed (objective.Plain sense var) =
      ap (λ b. cond b (objective_items (objective.Plain sense var)) [])
      (sym (one_among addresses objective_address))
      ∙ by (is_one_of addresses objective_address)
    where
      by : (b : Bool)
          → cond b (objective_items (objective.Plain sense var)) []
          ≡ option_map_or objective_items (cond b (Some (objective.Plain sense var)) None) []
      by true = refl
      by false = refl
  objective_handed (objective.Affine sense func) =
      ap (λ b. cond b (objective_items (objective.Affine sense func)) [])
      (sym (one_among addresses objective_address))
      ∙ by (is_one_of addresses objective_address)
    where
      by : (b : Bool)
          → cond b (objective_items (objective.Affine sense func)) []
          ≡ option_map_or objective_items (cond b (Some (objective.Affine sense func)) None) []
      by true = refl
      by false = refl

  -- rows, and the objective
  pub others_handed : IsStrictlySortedBy address_cmp addresses
      → filter (is_found addresses) (model_image after).others
      ≡ found_others (filter_map (row_at after) addresses) (objective_among after addresses)
  others_handed sorted =
      filter-append (is_found addresses) (map row_item after.rows)
      (objective_items after.objective)
      ∙ ap₂ ◌++◌ (rows_handed sorted) (objective_handed after.objective)

-- ---- groups

module _ (model after : ModelValue) (valid : IsValid after) (d : Differing)
    (h : HasDifferences model after d) (addresses : List Address)
    (all : (at : Address) → Contains (differing_addresses d) at → Contains addresses at)
    (only : (n : ℕ) → Contains addresses (root_address root.Group n)
    → Contains (differing_addresses d) (root_address root.Group n)) where
  abbrev group_found : Group → Bool
  group_found g = is_found addresses (group_item g)

  abbrev At : ℕ → Type 0
  At n =
      IsSeparated group_item (find group_number n model.groups) (find group_number n after.groups)
      (find group_number n (groups_in d.before)) (find group_number n (groups_in d.after))

  not_found : (n : ℕ)
      → option_map group_item (find group_number n model.groups)
      ≡ option_map group_item (find group_number n after.groups)
      → among addresses (root_address root.Group n) ≡ false
  not_found n e = by (among addresses (root_address root.Group n)) refl
    where
      by : (b : Bool) → among addresses (root_address root.Group n) ≡ b → b ≡ false
      by true f =
          absurd (All-contains (λ at. ¬ (item_at model at ≡ item_at after at))
          (differing_addresses d) (root_address root.Group n) (all_differ model after d h)
          (only n (contains_among (root_address root.Group n) addresses f))
          (group_there model n ∙ e ∙ sym (group_there after n)))
      by false f = refl

  is_found_there : (n : ℕ) (g : Group) → find group_number n (groups_in d.after) ≡ Some g
      → among addresses (root_address root.Group g.id) ≡ true
  is_found_there n g e =
      among_contained (root_address root.Group g.id) addresses
      (all (root_address root.Group g.id)
      (Contains-append_right (addresses_in d.before) (addresses_in d.after)
      (root_address root.Group g.id)
      (in_contents d.after g (Contains-found group_number n g (groups_in d.after) e))))

  found_group : (n : ℕ) (o : Option Group) → find group_number n after.groups ≡ o → At n
      → option_and_then (passing group_number group_found) (find group_number n after.groups)
      ≡ find group_number n (groups_in d.after)
  found_group n None e (same i j k) =
      ap (option_and_then (passing group_number group_found)) e ∙ sym k
  found_group n None e (differ i j k) =
      ap (option_and_then (passing group_number group_found)) e ∙ sym (k ∙ e)
  found_group n (Some g) e (same i j k) =
      ap (option_and_then (passing group_number group_found)) e
      ∙ ap (λ b. cond b (Some g) None)
      (ap (λ m. among addresses (root_address root.Group m))
      (number_of_found group_number n g after.groups e) ∙ not_found n i)
      ∙ sym k
  found_group n (Some g) e (differ i j k) =
      ap (option_and_then (passing group_number group_found)) e
      ∙ ap (λ b. cond b (Some g) None) (is_found_there n g (k ∙ e))
      ∙ sym (k ∙ e)

  pub groups_kept : filter group_found after.groups ≡ groups_in d.after
  groups_kept =
      same_lists group_number (filter group_found after.groups) (groups_in d.after)
      (Rise-filter group_number group_found after.groups valid.consistent.groups_rise)
      h.groups.rising_after
      (λ n. found_in_filter group_number group_found n after.groups valid.consistent.groups_rise
      ∙ found_group n (find group_number n after.groups) refl (h.groups.each n))

  pub groups_handed : filter (is_found addresses) (model_image after).groups
      ≡ map group_item (groups_in d.after)
  groups_handed =
      filter_mapped (is_found addresses) group_item after.groups ∙ ap (map group_item) groups_kept

-- ---- what is found by what is noted

-- no group is noted
pub only_differing : (model : ModelValue) (noted : Address → List Address)
    → NotesMentions model noted
    → (differing vars addresses : List Address)
    → AreInOrder (differing ++ flat_map noted vars) addresses → (n : ℕ)
    → Contains addresses (root_address root.Group n)
    → Contains differing (root_address root.Group n)
only_differing model noted index differing vars addresses order n c =
    by ((in_order_noted differing vars noted addresses order (root_address root.Group n)).0 c)
  where
    no_group : (o : Option Group) (item : Item) → option_map group_item o ≡ Some item
        → is_group item.body ≡ false → ⊥
    no_group None item e other = none-some item e
    no_group (Some g) item e other =
        true≢false (ap (λ (i : Item). is_group i.body) (same_Some (group_item g) item e) ∙ other)

    by : Contains differing (root_address root.Group n)
        ⊎ ((v : Address) × Contains vars v × Contains (noted v) (root_address root.Group n))
        → Contains differing (root_address root.Group n)
    by (inl k) = k
    by (inr k) =
        let m = (index k.0 (root_address root.Group n)).0 k.2 in
        absurd (no_group (find group_number n model.groups) m.0 (sym (group_there model n) ∙ m.1)
        m.2)

pub all_differing : (noted : Address → List Address) (differing vars addresses : List Address)
    → AreInOrder (differing ++ flat_map noted vars) addresses → (at : Address)
    → Contains differing at → Contains addresses at
all_differing noted differing vars addresses order at c =
    (order.same at).1 (Contains-append_left differing (flat_map noted vars) at c)
