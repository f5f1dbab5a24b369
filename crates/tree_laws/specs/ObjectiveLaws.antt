-- Below an objective there is one leaf objective, and below other items there is none.
use Rattle.std.specs.Prelude.{◌≡◌, ◌⊎◌, ℕ, Bool, true, false, List, [], ◌∷◌, ◌++◌, All, flat_map, refl}
use Rattle.std.proofs.Common.{arith, inl, inr, sym, ap, ap₂, subst, ◌∙◌, true≢false}
use Rattle.std.proofs.lemmas.Grind.{flat_map-append}
use Rattle.std.proofs.lemmas.List.Elements.{All-append, All-cons, All-head, All-nil, All-tail}
use Rattle.bridge_graph.specs.Hypergraph.{IsCostly}
use Rattle.bridge_graph.specs.declared.Choice.{Choice}
use Rattle.bridge_graph.specs.declared.Choice.TheVariants.{By}
use Rattle.expansion.specs.Bridged.{Bridged, EachBridged, EachBridgedIn, by, each, each_in, natively, none, none_in}
use Rattle.expansion.specs.Read.{leaves, leaves_in, leaves_of_each}
use Rattle.aff_core.specs.Address.{Address}
use Rattle.item_core.specs.declared.item.Body.{Body}
use Rattle.item_core.specs.declared.item.Body.TheVariants.{PlainObj, AffineObj}
use Rattle.item_core.specs.declared.item.Item.{Item}
use Rattle.item_core.specs.Kind.{kind_number}
use Rattle.item_core.specs.KindOf.{kind_of_body}
use Rattle.bridge_face.specs.ImageOf.{image_of}
use Rattle.bridge_face.specs.Law.{is_objective, listed}
use Rattle.fresh_bridging.specs.CanLaws.{AreLawful}
use Rattle.fresh_bridging.specs.Entries.{Entry, put_in}
use Rattle.fresh_bridging.specs.Leaves.{leaf_objectives}
use Rattle.fresh_bridging.specs.TheRules.{AreChoices, Setting, edge_at, graph_of, rules_by}
use Rattle.address_laws.specs.KeyLaws.{IsHere}
use Rattle.address_laws.specs.PutLaws.{objective_stays}
use Rattle.tree_laws.specs.SeenLaws.{IsGroupHere, IsRowHere, child_groups_here, child_rows_here}
use Rattle.address_laws.specs.ImageLaws.{child_objective, no_child_objective, rows_alone}
use Rattle.tree_laws.specs.TreeLaws.{no_objective}

pub by_case : {C : Type 0} {t : Bool} (b : Bool) → t ≡ b → (t ≡ true → C) → (t ≡ false → C) → C
by_case true e f g = f e
by_case false e f g = g e

-- it is no objective
abbrev pub CostsNothing : Item → Type 0
CostsNothing leaf = is_objective leaf.body ≡ false

-- one leaf objective
pub record HasOneLeafObjective (items : List Item) : Type 0 where
  pub leaf : Address × Body
  pub alone : flat_map leaf_objectives items ≡ leaf ∷ []

-- the items are none, and then one, and then none that are objectives
abbrev pub HasOneObjective : List Item → Type 0
HasOneObjective [] = ⊥
HasOneObjective (c ∷ cs) =
    ((is_objective c.body ≡ true) × All (λ x. is_objective x.body ≡ false) cs)
    ⊎ ((is_objective c.body ≡ false) × HasOneObjective cs)

pub one_last : (rows : List Item) (o : Item) → All (λ x. is_objective x.body ≡ false) rows
    → is_objective o.body ≡ true → HasOneObjective (rows ++ o ∷ [])
one_last [] o h k = inl (k, λ i d end. absurd (omega (arith, end)))
one_last (r ∷ rows) o h k =
    inr (
      All-head (λ x. is_objective x.body ≡ false) r rows h,
      one_last rows o (All-tail (λ x. is_objective x.body ≡ false) r rows h) k,
    )

pub no_leaf_objective : (i : Item) → is_objective i.body ≡ false → leaf_objectives i ≡ []
no_leaf_objective i = by i.body
  where
    by : (b : Body) → is_objective b ≡ false
        → leaf_objectives (record { at = i.at; body = b }) ≡ []
    by (PlainObj sense var) h = absurd (true≢false h)
    by (AffineObj sense func) h = absurd (true≢false h)
    by _ h = refl

-- an objective is one
pub itself_one : (i : Item) → is_objective i.body ≡ true
    → leaf_objectives i ≡ (i.at, i.body) ∷ []
itself_one i = by i.body
  where
    by : (b : Body) → is_objective b ≡ true
        → leaf_objectives (record { at = i.at; body = b }) ≡ (i.at, b) ∷ []
    by (PlainObj sense var) h = refl
    by (AffineObj sense func) h = refl
    by _ h = absurd (true≢false (sym h))

pub none_at_all : (items : List Item) → All (λ x. is_objective x.body ≡ false) items
    → flat_map leaf_objectives items ≡ []
none_at_all [] h = refl
none_at_all (i ∷ items) h =
    ap₂ ◌++◌ (no_leaf_objective i (All-head (λ x. is_objective x.body ≡ false) i items h))
    (none_at_all items (All-tail (λ x. is_objective x.body ≡ false) i items h))

pub one_behind : (xs ys : List Item) → All (λ x. is_objective x.body ≡ false) xs
    → HasOneLeafObjective ys
    → HasOneLeafObjective (xs ++ ys)
one_behind xs ys h one = record {
  leaf = one.leaf;
  alone = flat_map-append leaf_objectives xs ys ∙ ap₂ ◌++◌ (none_at_all xs h) one.alone;
}

one_before : (xs ys : List Item) → HasOneLeafObjective xs
    → All (λ x. is_objective x.body ≡ false) ys
    → HasOneLeafObjective (xs ++ ys)
one_before xs ys one h = record {
  leaf = one.leaf;
  alone = flat_map-append leaf_objectives xs ys ∙ ap₂ ◌++◌ one.alone (none_at_all ys h);
}

module _ (setting : Setting) (costly : IsCostly (graph_of setting)) (choice : ℕ → Choice)
    (chosen : AreChoices setting choice) (lawful : AreLawful setting) where
  abbrev RowThere : Item → Type 0
  RowThere c = IsRowHere setting costly choice chosen lawful c

  abbrev GroupThere : Item → Type 0
  GroupThere g = IsGroupHere setting costly choice chosen lawful g

  mutual
    unfolding leaves

    pub none_below : {item : Item} {entries : List Entry}
        (tree : Bridged (rules_by choice) item entries)
        → IsHere setting costly choice chosen lawful item
        → is_objective item.body ≡ false → All CostsNothing (leaves tree)
    none_below (natively {item} c) here h =
        All-cons CostsNothing item [] h (All-nil CostsNothing)
    none_below (by {item} {edge} {inner} c groups others) here h =
        All-append CostsNothing (leaves_of_each groups) (leaves_in others)
        (none_below_each groups
        (child_groups_here setting costly choice chosen lawful item here edge c))
        (none_below_in others
        (child_rows_here setting costly choice chosen lawful item here edge c inner groups)
        (All-append (λ c. is_objective c.body ≡ false) (image_of (edge_at edge) item).rows
        (listed (image_of (edge_at edge) item).objective)
        (rows_alone setting costly choice chosen lawful item here.can edge c)
        (subst (λ o. All (λ x. is_objective x.body ≡ false) (listed o))
        (sym (no_child_objective setting costly choice chosen lawful item here.can edge c h))
        (All-nil (λ x. is_objective x.body ≡ false)))))

    pub none_below_each : {groups : List Item} {entries : List Entry}
        (trees : EachBridged (rules_by choice) groups entries) → All GroupThere groups
        → All CostsNothing (leaves_of_each trees)
    none_below_each none all = All-nil CostsNothing
    none_below_each (each {item} {items} first rest) all =
        All-append CostsNothing (leaves first) (leaves_of_each rest)
        (none_below first (All-head GroupThere item items all).here
        (no_objective item.body (All-head GroupThere item items all).group))
        (none_below_each rest (All-tail GroupThere item items all))

    pub none_below_in : {inner : List Entry} {items : List Item}
        (trees : EachBridgedIn (rules_by choice) inner items)
        → All (λ c. RowThere (put_in inner c)) items
        → All (λ c. is_objective c.body ≡ false) items → All CostsNothing (leaves_in trees)
    none_below_in none_in all h = All-nil CostsNothing
    none_below_in (each_in {inner} {item} {items} first rest) all h =
        All-append CostsNothing (leaves first) (leaves_in rest)
        (none_below first (All-head (λ c. RowThere (put_in inner c)) item items all).here
        (objective_stays inner item.body
        ∙ All-head (λ c. is_objective c.body ≡ false) item items h))
        (none_below_in rest (All-tail (λ c. RowThere (put_in inner c)) item items all)
        (All-tail (λ c. is_objective c.body ≡ false) item items h))

  children_one : (item : Item) (is : IsRowHere setting costly choice chosen lawful item) (n : ℕ)
      (e : choice (kind_number (kind_of_body item.body)) ≡ By n) → is_objective item.body ≡ true
      → HasOneObjective
      ((image_of (edge_at n) item).rows ++ listed (image_of (edge_at n) item).objective)
  children_one item is n e o =
      let has = child_objective setting costly choice chosen lawful item is.here.can n e o in
      subst (λ x. HasOneObjective ((image_of (edge_at n) item).rows ++ listed x)) (sym has.is)
      (one_last (image_of (edge_at n) item).rows has.child
      (rows_alone setting costly choice chosen lawful item is.here.can n e) has.objective)

  mutual
    unfolding leaves

    pub has_one : {item : Item} {entries : List Entry}
        (tree : Bridged (rules_by choice) item entries) → RowThere item
        → is_objective item.body ≡ true → HasOneLeafObjective (leaves tree)
    has_one (natively {item} c) is o =
        record { leaf = (item.at, item.body); alone = ap (λ l. l ++ []) (itself_one item o) }
    has_one (by {item} {edge} {inner} c groups others) is o =
        one_behind (leaves_of_each groups) (leaves_in others)
        (none_below_each groups
        (child_groups_here setting costly choice chosen lawful item is.here edge c))
        (one_in others
        (child_rows_here setting costly choice chosen lawful item is.here edge c inner groups)
        (children_one item is edge c o))

    pub one_in : {inner : List Entry} {items : List Item}
        (trees : EachBridgedIn (rules_by choice) inner items)
        → All (λ c. RowThere (put_in inner c)) items → HasOneObjective items
        → HasOneLeafObjective (leaves_in trees)
    one_in none_in all h = absurd h
    one_in (each_in {inner} {item} {items} first rest) all (inl h) =
        one_before (leaves first) (leaves_in rest)
        (has_one first (All-head (λ c. RowThere (put_in inner c)) item items all)
        (objective_stays inner item.body ∙ h.0))
        (none_below_in rest
        (All-tail (λ c. RowThere (put_in inner c)) item items all) h.1)
    one_in (each_in {inner} {item} {items} first rest) all (inr h) =
        one_behind (leaves first) (leaves_in rest)
        (none_below first
        (All-head (λ c. RowThere (put_in inner c)) item items all).here
        (objective_stays inner item.body ∙ h.0))
        (one_in rest (All-tail (λ c. RowThere (put_in inner c)) item items all) h.1)
