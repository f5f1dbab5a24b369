-- What the calls of a cache may give in a state is one thing, where memory doesn't run out: a
-- bridging is not made and refused, nor refused in two ways, nor are its changes counted twice.
use Rattle.std.specs.Prelude.{◌≡◌, ◌≤◌, ◌&&◌, ◌-◌, ◌^◌, ℕ, min, true, List, [], ◌∷◌, ◌++◌, All, Option, Some, None, Result, Ok, Err, if◌then◌else◌, map, refl}
use Rattle.std.specs.Cmp.{IsEquivalence, eq_by_cmp_equiv}
use Rattle.std.specs.Option.{option_map, option_or}
use Rattle.std.specs.Set.{is_member}
use Rattle.std.proofs.Common.{ap, ap₂, arith, subst, sym, true≢false, ◌∙◌}
use Rattle.std.proofs.lemmas.List.Elements.{All-cons, All-head, All-map, All-nil, All-tail}
use Rattle.std.proofs.lemmas.Map.Made.{length-le_from_is_member}
use Rattle.std.proofs.lemmas.Map.Views.{Contains-from_any, list_any-from_Contains}
use Rattle.std.proofs.lemmas.Option.{none-some, same_Some}
use Rattle.aff_core.specs.Address.{Address, address_eq, address_eq-Decides, address_total}
use Rattle.bridge_graph.specs.Hypergraph.{Hypergraph, IsCostly}
use Rattle.bridge_graph.specs.Tree.{IsTreeless, by as by_edge, native}
use Rattle.bridge_graph.specs.declared.Choice.{Choice}
use Rattle.bridged_report.specs.Places.{place_at}
use Rattle.cache_layer.specs.Answers.{Becomes, IsAttached, IsEdited, IsGroupAnswer, IsLoaded, as_edits}
use Rattle.model_load.specs.Loads.{after_edits}
use Rattle.cache_layer.specs.CacheState.{Bridging, CacheState, ChangesLeaves, HasLeaves, OverflowsAt, leaves, with_model}
use Rattle.cache_layer.specs.declared.fault.AttachFault.{AttachFault}
use Rattle.cache_layer.specs.declared.fault.AttachFault.TheVariants as attach
use Rattle.cache_layer.specs.declared.fault.EditFault.{EditFault}
use Rattle.cache_layer.specs.declared.fault.EditFault.TheVariants as edit
use Rattle.cache_layer.specs.declared.fault.GroupFault.{GroupFault}
use Rattle.cache_layer.specs.declared.fault.GroupFault.TheVariants as group
use Rattle.expansion.specs.Bridged.{Bridged, EachBridged, EachBridgedIn, by, each, each_in, natively, none, none_in}
use Rattle.expansion.specs.GrownLaws.{held_each_once}
use Rattle.expansion.specs.Read.{fits, fits_each, fits_in, unfit_each, unfit_in}
use Rattle.expansion.specs.Rules.{Rules}
use Rattle.fresh_bridging.specs.ChoiceLaws.{one_choice}
use Rattle.fresh_bridging.specs.Entries.{Entry, put_in}
use Rattle.fresh_bridging.specs.FreshBridging.{FreshBridging, HasTree, IsFirstTreeless, IsUnsupported, by_group, by_other, is_made, unfit_at}
use Rattle.fresh_bridging.specs.ModelImage.{model_image}
use Rattle.fresh_bridging.specs.OnceLaws.{ModelHeld, one_bridging, same_leaves}
use Rattle.fresh_bridging.specs.TableLaws.{and_first, and_second}
use Rattle.fresh_bridging.specs.TheRules.{AreChoices, IsChoice, Setting, graph_of, rules_by}
use Rattle.item_core.specs.Kind.{kind_number}
use Rattle.item_core.specs.KindOf.{kind_of_body}
use Rattle.item_core.specs.declared.item.Item.{Item}
use Rattle.item_core.specs.declared.kind.Kind.{Kind}
use Rattle.lazy_bridge.specs.Pushed.{Counts}
use Rattle.leaf_model.specs.LeafModel.{IsChangeCount, IsCountOf, LeafModel, no_leaves}
use Rattle.map_laws.specs.EachLaws.{all_second}
use Rattle.report_core.specs.declared.refused.Place.{Place}
use Rattle.user_model.specs.Edited.{edited}
use Rattle.user_model.specs.Model.{ModelValue}
use Rattle.user_model.specs.declared.edit.Edit.{Edit}
use Rattle.user_model.specs.declared.refusal.Refusal.{Refusal}

-- ---- numbers that exceed 128 bits

module _ {Item Entry : Type 0} {rules : Rules Item Entry} where
  all_fit : {items : List Item} {entries : List Entry} (trees : EachBridged rules items entries)
      → fits_each trees ≡ true → unfit_each trees ≡ None
  unfolding fits unfit_each
  all_fit none h = refl
  all_fit (each {item} first rest) h =
      ap (λ b. if b then unfit_each rest else Some item) (and_first (fits first) (fits_each rest) h)
      ∙ all_fit rest (and_second (fits first) (fits_each rest) h)

  all_fit_in : {inner : List Entry} {items : List Item} (trees : EachBridgedIn rules inner items)
      → fits_in trees ≡ true → unfit_in trees ≡ None
  unfolding fits unfit_in
  all_fit_in none_in h = refl
  all_fit_in (each_in {inner} {item} first rest) h =
      let now = and_first (rules.put_in_fits inner item && fits first) (fits_in rest) h in
      ap (λ b. if b then unfit_in rest else Some item) now
      ∙ all_fit_in rest (and_second (rules.put_in_fits inner item && fits first) (fits_in rest) h)

-- where each number fits none is the first that doesn't
never_unfit : {setting : Setting} {model : ModelValue} (b : FreshBridging setting model)
    (at : Address) → is_made b ≡ true → unfit_at b ≡ Some at → ⊥
never_unfit b at made unfit =
    let groups = all_fit b.made.groups
    (and_first (fits_each b.made.groups) (fits_in b.made.others) made) in
    let others = all_fit_in b.made.others
    (and_second (fits_each b.made.groups) (fits_in b.made.others) made) in
    none-some at
    (sym (λ i. option_map (λ (item : Item). item.at) (option_or (groups i) (others i))) ∙ unfit)

-- ---- kinds without a tree

first_item : (graph : Hypergraph) (b c : List Item) (x y : Item) (r s : List Item)
    → b ++ x ∷ r ≡ c ++ y ∷ s → All (HasTree graph) b → All (HasTree graph) c
    → IsTreeless graph (kind_number (kind_of_body x.body))
    → IsTreeless graph (kind_number (kind_of_body y.body)) → x ≡ y
first_item graph [] [] x y r s e h k m n = cc
first_item graph [] (z ∷ c) x y r s e h k m n =
    let same : x ≡ z = cc in
    let tree = subst (HasTree graph) (sym same) (All-head (HasTree graph) z c k) in
    absurd (m tree.0 tree.1)
first_item graph (z ∷ b) [] x y r s e h k m n =
    let same : z ≡ y = cc in
    let tree = subst (HasTree graph) same (All-head (HasTree graph) z b h) in
    absurd (n tree.0 tree.1)
first_item graph (z ∷ b) (w ∷ c) x y r s e h k m n =
    let rest : b ++ x ∷ r ≡ c ++ y ∷ s = cc in
    first_item graph b c x y r s rest (All-tail (HasTree graph) z b h)
    (All-tail (HasTree graph) w c k) m n

first_kind : (graph : Hypergraph) (items : List Item) (k l : Kind)
    → IsFirstTreeless graph items k → IsFirstTreeless graph items l → k ≡ l
first_kind graph items k l h j =
    h.kind_is
    ∙ ap (λ (item : Item). kind_of_body item.body)
    (first_item graph h.before j.before h.item j.item h.after j.after (sym h.parts ∙ j.parts)
    h.earlier j.earlier h.none j.none)
    ∙ sym j.kind_is

not_treeless : (graph : Hypergraph) (items : List Item) (kind : Kind) → All (HasTree graph) items
    → IsFirstTreeless graph items kind → ⊥
not_treeless graph items kind all first =
    let tree = All-head (HasTree graph) first.item first.after
    (all_second (HasTree graph) first.before (first.item ∷ first.after)
    (subst (All (HasTree graph)) first.parts all)) in
    first.none tree.0 tree.1

module _ (setting : Setting) (choice : ℕ → Choice) (chosen : AreChoices setting choice) where
  tree_of : {item : Item} {entries : List Entry} → Bridged (rules_by choice) item entries
      → HasTree (graph_of setting) item
  tree_of (natively {item} c) = (
    0,
    native (subst (IsChoice (graph_of setting) (kind_number (kind_of_body item.body))) c
        (chosen (kind_number (kind_of_body item.body)))),
  )
  tree_of (by {item} {edge} c groups others) =
      let first = subst (IsChoice (graph_of setting) (kind_number (kind_of_body item.body))) c
      (chosen (kind_number (kind_of_body item.body))) in
      (first.0, by_edge first.1.tree)

  each_tree : {items : List Item} {entries : List Entry}
      → EachBridged (rules_by choice) items entries
      → All (HasTree (graph_of setting)) items
  each_tree none = All-nil (HasTree (graph_of setting))
  each_tree (each {item} {items} first rest) =
      All-cons (HasTree (graph_of setting)) item items (tree_of first) (each_tree rest)

  tree_in : {inner : List Entry} {items : List Item} → EachBridgedIn (rules_by choice) inner items
      → All (λ item. HasTree (graph_of setting) (put_in inner item)) items
  tree_in {inner} none_in = All-nil (λ item. HasTree (graph_of setting) (put_in inner item))
  tree_in {inner} (each_in {item = item} {items = items} first rest) =
      All-cons (λ i. HasTree (graph_of setting) (put_in inner i)) item items (tree_of first)
      (tree_in rest)

module _ (setting : Setting) (model : ModelValue) (costly : IsCostly (graph_of setting)) where
  one_choosing : (choice other : ℕ → Choice) → AreChoices setting choice
      → AreChoices setting other → choice ≡ other
  one_choosing choice other h k =
      λ i kind. one_choice (graph_of setting) costly kind (choice kind) (other kind) (h kind)
      (k kind) i

  -- the groups' expressions are the same, whatever bridges them
  one_inner : (choice other : ℕ → Choice) → AreChoices setting choice → AreChoices setting other
      → (inner after : List Entry)
      → EachBridged (rules_by choice) (model_image model).groups inner
      → EachBridged (rules_by other) (model_image model).groups after → inner ≡ after
  one_inner choice other h k inner after trees others =
      let moved = subst (λ c. EachBridged (rules_by c) (model_image model).groups inner)
      (one_choosing choice other h k) trees in
      ap (λ g. g.entries) (held_each_once moved others)

  -- there is a fresh bridging, or an item without a tree, and never both
  never_both : FreshBridging setting model → (kind : Kind) → IsUnsupported setting model kind → ⊥
  never_both b kind (by_group first) =
      not_treeless (graph_of setting) (model_image model).groups kind
      (each_tree setting b.choice b.chosen b.made.groups) first
  never_both b kind (by_other choice chosen entries trees first) =
      not_treeless (graph_of setting) (map (put_in entries) (model_image model).others) kind
      (All-map (HasTree (graph_of setting)) (put_in entries) (model_image model).others
      (subst (λ e. All (λ item. HasTree (graph_of setting) (put_in e item))
      (model_image model).others)
      (one_inner b.choice choice b.chosen chosen b.made.entries entries b.made.groups trees)
      (tree_in setting b.choice b.chosen b.made.others)))
      first

  unsupported_once : (k l : Kind) → IsUnsupported setting model k → IsUnsupported setting model l
      → k ≡ l
  unsupported_once k l (by_group h) (by_group j) =
      first_kind (graph_of setting) (model_image model).groups k l h j
  unsupported_once k l (by_group h) (by_other choice chosen entries trees j) =
      absurd (not_treeless (graph_of setting) (model_image model).groups k
      (each_tree setting choice chosen trees) h)
  unsupported_once k l (by_other choice chosen entries trees h) (by_group j) =
      absurd (not_treeless (graph_of setting) (model_image model).groups l
      (each_tree setting choice chosen trees) j)
  unsupported_once k l (by_other choice chosen entries trees h)
      (by_other other picked after others j) =
      first_kind (graph_of setting) (map (put_in after) (model_image model).others) k l
      (subst
      (λ e. IsFirstTreeless (graph_of setting) (map (put_in e) (model_image model).others) k)
      (one_inner choice other chosen picked entries after trees others) h)
      j

  unfit_once : (one other : FreshBridging setting model) → unfit_at one ≡ unfit_at other
  unfit_once one other =
      ap (λ (h : ModelHeld Item Entry). option_map (λ (item : Item). item.at) h.unfit)
      (one_bridging setting model costly one other)

-- ---- at how many addresses

address_laws : IsEquivalence address_eq
address_laws = eq_by_cmp_equiv address_total

same_address : (x y : Address) → address_eq x y ≡ true → x ≡ y
same_address x y = (address_eq-Decides x y).0

no_more : {P : Address → Type 0} (n m : ℕ) → IsCountOf P n → IsCountOf P m → n ≤ m
no_more n m h k =
    let within : (q : Address) → is_member address_eq h.addresses q ≡ true
    → is_member address_eq k.addresses q ≡ true =
    λ q e. list_any-from_Contains address_laws q k.addresses
    ((k.each q).1 ((h.each q).0 (Contains-from_any same_address q h.addresses e))) in
    omega (
      arith,
      length-le_from_is_member address_laws h.addresses k.addresses h.distinct within,
      h.count,
      k.count,
    )

count_once : {P : Address → Type 0} (n m : ℕ) → IsCountOf P n → IsCountOf P m → n ≡ m
count_once n m h k = omega (arith, no_more n m h k, no_more m n k h)

changed_once : (before after : LeafModel) (n m : ℕ) → IsChangeCount before after n
    → IsChangeCount before after m → n ≡ m
changed_once before after n m h k =
    let variables : h.variables ≡ k.variables =
    count_once h.variables k.variables h.variables_are k.variables_are in
    let rows : h.rows ≡ k.rows = count_once h.rows k.rows h.rows_are k.rows_are in
    let objective : h.objective ≡ k.objective =
    count_once h.objective k.objective h.objective_is k.objective_is in
    omega (arith, h.all, k.all, variables, rows, objective)

counted_once : (before after : LeafModel) (n m : ℕ) → Counts before after n
    → Counts before after m → n ≡ m
counted_once before after n m h k =
    h.2 ∙ ap (λ c. min c (2 ^ 64 - 1)) (changed_once before after h.0 k.0 h.1 k.1) ∙ sym k.2

-- ---- states

module _ (s : CacheState) (costly : IsCostly (graph_of s.setting)) where
  overflow_once : (p q : Place) → OverflowsAt s p → OverflowsAt s q → p ≡ q
  overflow_once p q h k =
      let at : h.at ≡ k.at = same_Some h.at k.at
      (sym h.unfit ∙ unfit_once s.setting s.model costly h.bridging k.bridging ∙ k.unfit) in
      same_Some p q (sym h.told ∙ ap (place_at s.model) at ∙ k.told)

  made_or_overflows : Bridging s → (p : Place) → OverflowsAt s p → ⊥
  made_or_overflows b p h =
      never_unfit b.bridging h.at b.made
      (unfit_once s.setting s.model costly b.bridging h.bridging ∙ h.unfit)

  leaves_once : (b c : Bridging s) → leaves b ≡ leaves c
  leaves_once b c = same_leaves s.setting s.model costly b.bridging c.bridging

  has_once : (n m : ℕ) → HasLeaves s n → HasLeaves s m → n ≡ m
  has_once n m h k =
      counted_once no_leaves (leaves k.bridging) n m
      (subst (λ l. Counts no_leaves l n) (leaves_once h.bridging k.bridging) h.counts) k.counts

changes_once : (old next : CacheState) → IsCostly (graph_of old.setting)
    → IsCostly (graph_of next.setting) → (n m : ℕ) → ChangesLeaves old next n
    → ChangesLeaves old next m
    → n ≡ m
changes_once old next c d n m h k =
    counted_once (leaves k.before) (leaves k.after) n m
    (subst (λ l. Counts l (leaves k.after) n) (leaves_once old c h.before k.before)
    (subst (λ l. Counts (leaves h.before) l n) (leaves_once next d h.after k.after) h.counts))
    k.counts

-- ---- what is given, and the state that is left

module _ (old next : CacheState) (c : IsCostly (graph_of old.setting))
    (d : IsCostly (graph_of next.setting)) where
  pub becomes_once : (x y : Result (Option ℕ) EditFault) (new after : CacheState)
      → ¬ (x ≡ Err edit.Memory) → ¬ (y ≡ Err edit.Memory) → Becomes old next x new
      → Becomes old next y after → (x ≡ y) × (new ≡ after)
  becomes_once (Err edit.Memory) y new after m n h k = absurd (m refl)
  becomes_once (Err (edit.Refused r)) y new after m n h k = absurd h
  becomes_once x (Err edit.Memory) new after m n h k = absurd (n refl)
  becomes_once x (Err (edit.Refused r)) new after m n h k = absurd k
  becomes_once (Ok None) (Ok None) new after m n h k = (refl, h.1 ∙ sym k.1)
  becomes_once (Ok None) (Ok (Some j)) new after m n h k = absurd (true≢false (sym k.0 ∙ h.0))
  becomes_once (Ok None) (Err (edit.Unsupported l)) new after m n h k =
      absurd (true≢false (sym k.0 ∙ h.0))
  becomes_once (Ok None) (Err (edit.Overflow q)) new after m n h k =
      absurd (true≢false (sym k.0 ∙ h.0))
  becomes_once (Ok (Some i)) (Ok None) new after m n h k = absurd (true≢false (sym h.0 ∙ k.0))
  becomes_once (Ok (Some i)) (Ok (Some j)) new after m n h k =
      (ap (λ a. Ok (Some a)) (changes_once old next c d i j h.1 k.1), h.2 ∙ sym k.2)
  becomes_once (Ok (Some i)) (Err (edit.Unsupported l)) new after m n h k =
      absurd (never_both next.setting next.model d h.1.after.bridging l k.1)
  becomes_once (Ok (Some i)) (Err (edit.Overflow q)) new after m n h k =
      absurd (made_or_overflows next d h.1.after q k.1)
  becomes_once (Err (edit.Unsupported j)) (Ok None) new after m n h k =
      absurd (true≢false (sym h.0 ∙ k.0))
  becomes_once (Err (edit.Unsupported j)) (Ok (Some i)) new after m n h k =
      absurd (never_both next.setting next.model d k.1.after.bridging j h.1)
  becomes_once (Err (edit.Unsupported j)) (Err (edit.Unsupported l)) new after m n h k = (
    ap (λ a. Err (edit.Unsupported a)) (unsupported_once next.setting next.model d j l h.1 k.1),
    h.2 ∙ sym k.2,
  )
  becomes_once (Err (edit.Unsupported j)) (Err (edit.Overflow q)) new after m n h k =
      absurd (never_both next.setting next.model d k.1.bridging j h.1)
  becomes_once (Err (edit.Overflow p)) (Ok None) new after m n h k =
      absurd (true≢false (sym h.0 ∙ k.0))
  becomes_once (Err (edit.Overflow p)) (Ok (Some i)) new after m n h k =
      absurd (made_or_overflows next d k.1.after p h.1)
  becomes_once (Err (edit.Overflow p)) (Err (edit.Unsupported l)) new after m n h k =
      absurd (never_both next.setting next.model d h.1.bridging l k.1)
  becomes_once (Err (edit.Overflow p)) (Err (edit.Overflow q)) new after m n h k =
      (ap (λ a. Err (edit.Overflow a)) (overflow_once next d p q h.1 k.1), h.2 ∙ sym k.2)

module _ (s : CacheState) (c : IsCostly (graph_of s.setting)) where
  pub edited_once : (e : Edit) (x y : Result (Option ℕ) EditFault) (new after : CacheState)
      → ¬ (x ≡ Err edit.Memory) → ¬ (y ≡ Err edit.Memory) → IsEdited s e x new
      → IsEdited s e y after → (x ≡ y) × (new ≡ after)
  edited_once e (Err edit.Memory) y new after m n h k = absurd (m refl)
  edited_once e x (Err edit.Memory) new after m n h k = absurd (n refl)
  edited_once e (Err (edit.Refused r)) (Err (edit.Refused q)) new after m n h k =
      (ap (λ a. Err (edit.Refused a)) (same_Some r q (sym h.0 ∙ k.0)), h.1 ∙ sym k.1)
  edited_once e (Err (edit.Refused r)) y new after m n h k = absurd (none-some r (sym k.0 ∙ h.0))
  edited_once e x (Err (edit.Refused q)) new after m n h k = absurd (none-some q (sym h.0 ∙ k.0))
  edited_once e x y new after m n h k =
      becomes_once s (with_model s (edited s.model e)) c c x y new after m n h.1 k.1

  pub attached_once : (x y : Result ℕ AttachFault) (new after : CacheState)
      → ¬ (x ≡ Err attach.Memory) → ¬ (y ≡ Err attach.Memory) → IsAttached s x new
      → IsAttached s y after → (x ≡ y) × (new ≡ after)
  attached_once (Err attach.Memory) y new after m n h k = absurd (m refl)
  attached_once x (Err attach.Memory) new after m n h k = absurd (n refl)
  attached_once (Err attach.AlreadyAttached) (Err attach.AlreadyAttached) new after m n h k =
      (refl, h.1 ∙ sym k.1)
  attached_once (Err attach.AlreadyAttached) y new after m n h k =
      absurd (true≢false (sym h.0 ∙ k.0))
  attached_once x (Err attach.AlreadyAttached) new after m n h k =
      absurd (true≢false (sym k.0 ∙ h.0))
  attached_once (Ok i) (Ok j) new after m n h k =
      (ap Ok (has_once s c i j h.1 k.1), h.2 ∙ sym k.2)
  attached_once (Ok i) (Err (attach.Unsupported l)) new after m n h k =
      absurd (never_both s.setting s.model c h.1.bridging.bridging l k.1)
  attached_once (Ok i) (Err (attach.Overflow q)) new after m n h k =
      absurd (made_or_overflows s c h.1.bridging q k.1)
  attached_once (Err (attach.Unsupported j)) (Ok i) new after m n h k =
      absurd (never_both s.setting s.model c k.1.bridging.bridging j h.1)
  attached_once (Err (attach.Unsupported j)) (Err (attach.Unsupported l)) new after m n h k = (
    ap (λ a. Err (attach.Unsupported a)) (unsupported_once s.setting s.model c j l h.1 k.1),
    h.2 ∙ sym k.2,
  )
  attached_once (Err (attach.Unsupported j)) (Err (attach.Overflow q)) new after m n h k =
      absurd (never_both s.setting s.model c k.1.bridging j h.1)
  attached_once (Err (attach.Overflow p)) (Ok i) new after m n h k =
      absurd (made_or_overflows s c k.1.bridging p h.1)
  attached_once (Err (attach.Overflow p)) (Err (attach.Unsupported l)) new after m n h k =
      absurd (never_both s.setting s.model c h.1.bridging l k.1)
  attached_once (Err (attach.Overflow p)) (Err (attach.Overflow q)) new after m n h k =
      (ap (λ a. Err (attach.Overflow a)) (overflow_once s c p q h.1 k.1), h.2 ∙ sym k.2)

-- ---- edits one after another

same_model : (r : Result ModelValue Refusal) (a b : ModelValue) → r ≡ Ok a → r ≡ Ok b → a ≡ b
same_model r a b e f = cc

same_refusal : (r : Result ModelValue Refusal) (a b : Refusal) → r ≡ Err a → r ≡ Err b → a ≡ b
same_refusal r a b e f = cc

made_or_refused : (r : Result ModelValue Refusal) (a : ModelValue) (b : Refusal) → r ≡ Ok a
    → r ≡ Err b → ⊥
made_or_refused r a b e f = cc

pub loaded_once : (s : CacheState) (edits : List Edit) (x y : Result Unit EditFault)
    (new after : CacheState) → ¬ (x ≡ Err edit.Memory) → ¬ (y ≡ Err edit.Memory)
    → IsLoaded s edits x new → IsLoaded s edits y after → (x ≡ y) × (new ≡ after)
loaded_once s edits (Err edit.Memory) y new after m n h k = absurd (m refl)
loaded_once s edits (Err (edit.Unsupported kind)) y new after m n h k = absurd h
loaded_once s edits (Err (edit.Overflow place)) y new after m n h k = absurd h
loaded_once s edits x (Err edit.Memory) new after m n h k = absurd (n refl)
loaded_once s edits x (Err (edit.Unsupported kind)) new after m n h k = absurd k
loaded_once s edits x (Err (edit.Overflow place)) new after m n h k = absurd k
loaded_once s edits (Ok a) (Ok b) new after m n h k = (
  refl,
  h.1 ∙ ap (with_model s) (same_model (after_edits s.model edits) new.model after.model
      h.0 k.0) ∙ sym k.1,
)
loaded_once s edits (Ok a) (Err (edit.Refused q)) new after m n h k =
    absurd (made_or_refused (after_edits s.model edits) new.model q h.0 k.0)
loaded_once s edits (Err (edit.Refused r)) (Ok b) new after m n h k =
    absurd (made_or_refused (after_edits s.model edits) after.model r k.0 h.0)
loaded_once s edits (Err (edit.Refused r)) (Err (edit.Refused q)) new after m n h k = (
  ap (λ a. Err (edit.Refused a)) (same_refusal (after_edits s.model edits) r q h.0 k.0),
  h.1 ∙ sym k.1,
)

-- ---- a group of edits

-- it is refused for no edit of its own
abbrev IsWhole : Result (Option ℕ) GroupFault → Type 0
IsWhole (Err (group.Refused index refusal)) = ⊥
IsWhole made = Unit {0}

-- and then it is as one edit
from_edits : (x y : Result (Option ℕ) GroupFault) → IsWhole x → IsWhole y
    → as_edits x ≡ as_edits y → x ≡ y
from_edits (Err (group.Refused i r)) y p q e = absurd p
from_edits x (Err (group.Refused j r)) p q e = absurd q
from_edits (Ok a) (Ok b) p q e = let same : a ≡ b = cc in ap Ok same
from_edits (Err (group.Unsupported k)) (Err (group.Unsupported l)) p q e =
    let same : k ≡ l = cc in ap (λ kind. Err (group.Unsupported kind)) same
from_edits (Err (group.Overflow a)) (Err (group.Overflow b)) p q e =
    let same : a ≡ b = cc in ap (λ place. Err (group.Overflow place)) same
from_edits (Err group.Memory) (Err group.Memory) p q e = refl
from_edits x y p q e = cc

no_memory : (x : Result (Option ℕ) GroupFault) → ¬ (x ≡ Err group.Memory)
    → ¬ (as_edits x ≡ Err edit.Memory)
no_memory (Err group.Memory) m e = m refl
no_memory _ m e = cc

pub grouped_once : (s : CacheState) → IsCostly (graph_of s.setting) → (edits : List Edit)
    (x y : Result (Option ℕ) GroupFault) (new after : CacheState) → ¬ (x ≡ Err group.Memory)
    → ¬ (y ≡ Err group.Memory) → IsGroupAnswer s edits x new → IsGroupAnswer s edits y after
    → (x ≡ y) × (new ≡ after)
grouped_once s c edits (Err group.Memory) y new after m n h k = absurd (m refl)
grouped_once s c edits x (Err group.Memory) new after m n h k = absurd (n refl)
grouped_once s c edits (Err (group.Refused i r)) (Err (group.Refused j q)) new after m n h k = (
  ap₂ (λ a b. Err (group.Refused a b)) (h.1 ∙ sym k.1)
      (same_refusal (after_edits s.model edits) r q h.0 k.0),
  h.2 ∙ sym k.2,
)
grouped_once s c edits (Err (group.Refused i r)) y new after m n h k =
    absurd (made_or_refused (after_edits s.model edits) k.0 r k.1 h.0)
grouped_once s c edits x (Err (group.Refused j q)) new after m n h k =
    absurd (made_or_refused (after_edits s.model edits) h.0 q h.1 k.0)
grouped_once s c edits x y new after m n h k =
    let same = same_model (after_edits s.model edits) h.0 k.0 h.1 k.1 in
    let one = becomes_once s (with_model s k.0) c c (as_edits x) (as_edits y) new after
    (no_memory x m) (no_memory y n)
    (subst (λ model. Becomes s (with_model s model) (as_edits x) new) same h.2) k.2 in
    (from_edits x y tt tt one.0, one.1)
