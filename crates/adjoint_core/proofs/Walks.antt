-- What is carried back by what bridges keep is what is carried back along a bridging.
use Rattle.std.specs.Prelude.{◌≡◌, ◌+◌, ◌≤◌, ◌⊎◌, ◌||◌, ℕ, zero, suc, Bool, true, false, cond, not, List, [], ◌∷◌, ◌++◌, All, Some, None, length, map, slice_index_or, take, refl}
use Rattle.std.specs.List.{list_all, list_any, range_with_len}
use Rattle.std.proofs.Common.{arith, ap, ap₂, get_or, inl, inr, subst, sym, ◌∙◌, true≢false}
use Rattle.std.proofs.lemmas.List.{length-append}
use Rattle.std.proofs.Math.Seq.{take-append_seam}
use Rattle.std.proofs.lemmas.List.Elements.{All-cons, All-head, All-map, All-nil, All-tail}
use Rattle.bridge_graph.specs.Hypergraph.{IsCostly}
use Rattle.bridge_graph.specs.declared.Choice.{Choice}
use Rattle.bridge_graph.specs.declared.Choice.TheVariants.{By}
use Rattle.expansion.specs.Bridged.{Bridged, EachBridgedIn, by, each_in, natively, none_in}
use Rattle.expansion.specs.Read.{leaves, leaves_in, leaves_of_each, nodes, nodes_in, nodes_of_each}
use Rattle.ratio_core.specs.Rational.{Rational}
use Rattle.aff_core.specs.Address.{Address, child_of}
use Rattle.item_core.specs.declared.edge.EdgeEntry.{EdgeEntry}
use Rattle.item_core.specs.declared.edge.TheConstants.{EDGES}
use Rattle.item_core.specs.declared.image.Image.{Image}
use Rattle.item_core.specs.declared.item.Body.{Body}
use Rattle.item_core.specs.declared.item.Body.TheVariants.{Group, Free, Plain, Affine, PlainVec, AffineVec, PlainObj, AffineObj}
use Rattle.item_core.specs.declared.item.Item.{Item}
use Rattle.item_core.specs.Edge.{edge_entry, family_eq, family_of}
use Rattle.item_core.specs.Item.{functions_of, is_group}
use Rattle.item_core.specs.Kind.{kind_number}
use Rattle.item_core.specs.KindOf.{kind_of_body}
use Rattle.bridge_face.specs.BackOf.{BackFits, back_of}
use Rattle.bridge_face.specs.ImageOf.{image_of}
use Rattle.bridge_face.specs.Law.{is_objective, listed}
use Rattle.bridge_face.specs.BridgeState.{BridgeState, child_rows_of}
use Rattle.bridge_face.specs.declared.kept_item.KeptItem.{KeptItem}
use Rattle.bridge_set.specs.Bridges.{families_of}
use Rattle.bridge_plan.specs.AddsHeld.{kept_of}
use Rattle.fresh_bridging.specs.BodyLaws.{length_put}
use Rattle.fresh_bridging.specs.CanLaws.{AreLawful, down, same_entry}
use Rattle.map_laws.specs.EachLaws.{all_at, all_first, all_from_map, all_second, cons_head, cons_tail}
use Rattle.map_laws.specs.TestLaws.{implied}
use Rattle.fresh_bridging.specs.Entries.{Entry, put_in}
use Rattle.fresh_bridging.specs.Leaves.{leaf_rows}
use Rattle.fresh_bridging.specs.TableLaws.{and_second}
use Rattle.fresh_bridging.specs.RankingLaws.{LeadsDown}
use Rattle.fresh_bridging.specs.TheRules.{AreChoices, Setting, edge_at, family_number, graph_of, is_usable, rules_by}
use Rattle.address_laws.specs.ClassLaws.{item_class}
use Rattle.address_laws.specs.ImageLaws.{rows_alone}
use Rattle.address_laws.specs.KeyLaws.{law_of}
use Rattle.address_laws.specs.PutLaws.{group_stays, objective_stays}
use Rattle.tree_laws.specs.Carried.{LeafAnswerDuals, back, backs}
use Rattle.tree_laws.specs.SeenLaws.{IsRowHere, child_rows_here}
use Rattle.adjoint_core.specs.CarriedBack.{RowFits, RowsFit, UnfitRow}
use Rattle.adjoint_core.specs.Told.{FirstNot}
use Rattle.adjoint_core.specs.Walk.{DualBelowFits, FitsBelow, IsRowWithin, TakesBy, TakesChildDuals, dual_at, dual_by, kept_at, levels, row_places}
use Rattle.adjoint_core.proofs.BackSizes.{IsRowFor, back_size, few_rows, is_of_numbers, is_of_vectors, is_scalar_kind, row_size}

-- ---- what the table says of numbers and vectors

abbrev tells_numbers : EdgeEntry → Bool
tells_numbers e = not (is_of_numbers e.family) || is_scalar_kind e.source

abbrev tells_vectors : EdgeEntry → Bool
tells_vectors e = not (is_of_vectors e.family) || not (is_scalar_kind e.source)

all_tell_numbers : list_all tells_numbers EDGES ≡ true
all_tell_numbers = refl

all_tell_vectors : list_all tells_vectors EDGES ≡ true
all_tell_vectors = refl

barred : (a b : Bool) → (not a || not b) ≡ true → a ≡ true → b ≡ false
barred true true h e = absurd (true≢false (sym h))
barred true false h e = refl
barred false b h e = absurd (true≢false (sym e))

-- ---- places

first_places : {A B : Type 0} (f : A → B) (g : ℕ → B) (ys zs : List A) (low : ℕ)
    → map f (ys ++ zs) ≡ map g (range_with_len low (length (ys ++ zs)))
    → map f ys ≡ map g (range_with_len low (length ys))
first_places f g [] zs low e = refl
first_places f g (y ∷ ys) zs low e =
    ap₂ ◌∷◌ (cons_head (f y) (g low) (map f (ys ++ zs))
    (map g (range_with_len (low + 1) (length (ys ++ zs)))) e)
    (first_places f g ys zs (low + 1) (cons_tail (f y) (g low) (map f (ys ++ zs))
    (map g (range_with_len (low + 1) (length (ys ++ zs)))) e))

-- the middle of three lists that stand at numbers from one on
middle_places : {A B : Type 0} (f : A → B) (g : ℕ → B) (xs ys zs : List A) (low from : ℕ)
    → from ≡ low + length xs
    → map f (xs ++ (ys ++ zs)) ≡ map g (range_with_len low (length (xs ++ (ys ++ zs))))
    → map f ys ≡ map g (range_with_len from (length ys))
middle_places f g [] ys zs low from is e =
    let start : low ≡ from = omega (arith, is) in
    first_places f g ys zs low e ∙ ap (λ n. map g (range_with_len n (length ys))) start
middle_places f g (x ∷ xs) ys zs low from is e =
    middle_places f g xs ys zs (low + 1) from (omega (arith, is))
    (cons_tail (f x) (g low) (map f (xs ++ (ys ++ zs)))
    (map g (range_with_len (low + 1) (length (xs ++ (ys ++ zs))))) e)

child_depth : (at : Address) (i : ℕ)
    → length (child_of at i).positions ≡ length at.positions + 1
child_depth at i = length-append at.positions (i ∷ [])

children_deep : (at : Address) (ns : List ℕ) (n : ℕ) → levels ≤ suc n + length at.positions
    → All (λ (v : Address). levels ≤ n + length v.positions) (map (child_of at) ns)
children_deep at ns n h =
    All-map (λ (v : Address). levels ≤ n + length v.positions) (child_of at) ns
    (λ k d lt. omega (arith, h, child_depth at (get_or ns k d)))

-- ---- a node and a leaf, as they are found

module _ (states : List BridgeState) (leaf : Address → List Rational) where
  -- what is kept at an address is this, whose child rows stand at these places with these duals
  pub record NodeRead (n : ℕ) (at : Address) (kept : KeptItem) (ps : List Address)
      (ys : List (List Rational)) : Type 0 where
    pub within : IsRowWithin states leaf (suc n) at
    pub fits : All (DualBelowFits states leaf n) ps × BackFits kept.edge kept.item ys
        → DualBelowFits states leaf (suc n) at
    pub only : DualBelowFits states leaf (suc n) at
        → All (DualBelowFits states leaf n) ps × BackFits kept.edge kept.item ys
    pub same : dual_at states leaf (suc n) at ≡ back_of kept.edge kept.item ys

  pub node_read : (n : ℕ) (at : Address) (kept : KeptItem) (ps : List Address)
      (ys : List (List Rational)) → kept_at states at ≡ Some kept → row_places at kept ≡ ps
      → map (dual_at states leaf n) ps ≡ ys → TakesChildDuals (dual_at states leaf n) at kept
      → All (IsRowWithin states leaf n) ps → NodeRead n at kept ps ys
  unfolding dual_at DualBelowFits IsRowWithin dual_by FitsBelow TakesBy
  node_read n at kept ps ys is places duals takes within =
      let below = dual_at states leaf n in
      let made : map below (row_places at kept) ≡ ys = ap (map below) places ∙ duals in
      record {
        within =
            subst (TakesBy states leaf below (IsRowWithin states leaf n) at) (sym is)
            (takes, subst (All (IsRowWithin states leaf n)) (sym places) within);
        fits = λ h.
            subst (FitsBelow states leaf below (DualBelowFits states leaf n) at) (sym is) (
              subst (All (DualBelowFits states leaf n)) (sym places) h.0,
              subst (BackFits kept.edge kept.item) (sym made) h.1,
            );
        only = λ h.
            let now = subst (FitsBelow states leaf below (DualBelowFits states leaf n) at) is h in (
              subst (All (DualBelowFits states leaf n)) places now.0,
              subst (BackFits kept.edge kept.item) made now.1,
            );
        same =
            ap (dual_by states leaf below at) is
            ∙ ap (back_of kept.edge kept.item) made;
      }

  pub record LeafRead (n : ℕ) (at : Address) : Type 0 where
    pub within : IsRowWithin states leaf (suc n) at
    pub fits : DualBelowFits states leaf (suc n) at
    pub same : dual_at states leaf (suc n) at ≡ leaf at

  pub leaf_read : (n : ℕ) (at : Address) → kept_at states at ≡ None → LeafRead n at
  unfolding dual_at DualBelowFits IsRowWithin dual_by FitsBelow TakesBy
  leaf_read n at is =
      let below = dual_at states leaf n in
      record {
        within = subst (TakesBy states leaf below (IsRowWithin states leaf n) at) (sym is) tt;
        fits = subst (FitsBelow states leaf below (DualBelowFits states leaf n) at) (sym is) tt;
        same = ap (dual_by states leaf below at) is;
      }

-- a leaf that is a row
only_row : (i : Item) → is_group i.body ≡ false → is_objective i.body ≡ false
    → leaf_rows i ≡ (i.at, i.body) ∷ []
only_row i = by i.body
  where
    by : (b : Body) → is_group b ≡ false → is_objective b ≡ false
        → leaf_rows (record { at = i.at; body = b }) ≡ (i.at, b) ∷ []
    by (Group s vars) g o = absurd (true≢false g)
    by (Free vars) g o = absurd (true≢false g)
    by (Plain var s) g o = refl
    by (Affine func s) g o = refl
    by (PlainVec vars s) g o = refl
    by (AffineVec funcs s) g o = refl
    by (PlainObj sense var) g o = absurd (true≢false o)
    by (AffineObj sense func) g o = absurd (true≢false o)

-- ---- along a bridging

module _ (setting : Setting) (costly : IsCostly (graph_of setting)) (choice : ℕ → Choice)
    (chosen : AreChoices setting choice) (lawful : AreLawful setting) (states : List BridgeState)
    (families : families_of states ≡ setting.families) (d : LeafAnswerDuals) where
  abbrev IsHereRow : Item → Type 0
  IsHereRow item = IsRowHere setting costly choice chosen lawful item

  -- a node is kept where there is a bridge of its family
  pub record Known (node : ℕ × Item) : Type 0 where
    pub kept : list_any (family_eq (family_of (edge_at node.0))) (families_of states) ≡ true
        → kept_at states node.1.at ≡ Some (kept_of node)

  -- at a leaf row nothing is kept, and it has a dual for each component
  pub record IsFreeRow (row : Address × Body) : Type 0 where
    pub free : kept_at states row.0 ≡ None
    pub size : length (d.duals row.0) ≡ length (functions_of row.1)

  abbrev pub LeafKnown : Item → Type 0
  LeafKnown item = All IsFreeRow (leaf_rows item)

  -- ---- what a walk to an address gives

  pub record Walks (n : ℕ) (item : Item) (Fits : Type 0) (dual : List Rational) : Type 0 where
    pub within : IsRowWithin states d.duals n item.at
    pub fits : Fits → DualBelowFits states d.duals n item.at
    pub only : DualBelowFits states d.duals n item.at → Fits
    pub same : dual_at states d.duals n item.at ≡ dual
    pub size : length dual ≡ length (functions_of item.body)

  abbrev ats : List Item → List Address
  ats rows = map (λ (c : Item). c.at) rows

  pub record RowsWalk (n : ℕ) (rows : List Item) (Fits : Type 0) (Unfit : Address → Type 0)
      (duals : List (List Rational)) : Type 0 where
    pub within : All (IsRowWithin states d.duals n) (ats rows)
    pub fits : Fits → All (DualBelowFits states d.duals n) (ats rows)
    pub only : All (DualBelowFits states d.duals n) (ats rows) → Fits
    pub unfit : (at : Address) → FirstNot (DualBelowFits states d.duals n) (λ v. v) (ats rows) at
        → Unfit at
    pub same : map (dual_at states d.duals n) (ats rows) ≡ duals
    pub sizes : map length duals ≡ map row_size rows

  rows_none : (n : ℕ) (Fits : Type 0) (Unfit : Address → Type 0) → Fits
      → RowsWalk n [] Fits Unfit []
  unfolding FirstNot
  rows_none n Fits Unfit fits = record {
    within = All-nil (IsRowWithin states d.duals n);
    fits = λ _. All-nil (DualBelowFits states d.duals n);
    only = λ _. fits;
    unfit = λ at h. absurd h;
    same = refl;
    sizes = refl;
  }

  rows_more : (n : ℕ) (inner : List Entry) (c : Item) (rows : List Item) (First Fits : Type 0)
      (Unfit : Address → Type 0) (dual : List Rational) (duals : List (List Rational))
      → is_group c.body ≡ false
      → Walks n (put_in inner c) First dual → RowsWalk n rows Fits Unfit duals
      → RowsWalk n (c ∷ rows) (First × Fits)
      (λ at. (¬ First × (c.at ≡ at)) ⊎ (First × Unfit at)) (dual ∷ duals)
  unfolding FirstNot
  rows_more n inner c rows First Fits Unfit dual duals row w more = record {
    within = All-cons (IsRowWithin states d.duals n) c.at (ats rows) w.within more.within;
    fits = λ h. All-cons (DualBelowFits states d.duals n) c.at (ats rows) (w.fits h.0) (more.fits h.1);
    only = λ h. (
      w.only (All-head (DualBelowFits states d.duals n) c.at (ats rows) h),
      more.only (All-tail (DualBelowFits states d.duals n) c.at (ats rows) h),
    );
    unfit = λ at h. first at h;
    same = ap₂ ◌∷◌ w.same more.same;
    sizes = ap₂ ◌∷◌ (w.size ∙ length_put inner c.body row) more.sizes;
  }
    where
      first : (at : Address)
          → (¬ (DualBelowFits states d.duals n c.at) × (c.at ≡ at))
          ⊎ (DualBelowFits states d.duals n c.at
          × FirstNot (DualBelowFits states d.duals n) (λ v. v) (ats rows) at)
          → (¬ First × (c.at ≡ at)) ⊎ (First × Unfit at)
      first at (inl h) = inl ((λ f. h.0 (w.fits f)), h.1)
      first at (inr h) = inr (w.only h.0, more.unfit at h.1)

  -- ---- a leaf

  leaf_walks : (n : ℕ) (item : Item) → IsHereRow item → is_objective item.body ≡ false
      → LeafKnown item
      → Walks (suc n) item (Unit {0}) (cond (is_objective item.body) d.objective (d.duals item.at))
  leaf_walks n item is row known =
      let here = All-head IsFreeRow (item.at, item.body) []
      (subst (All IsFreeRow) (only_row item is.row row) known) in
      let read = leaf_read states d.duals n item.at here.free in
      let itself : cond (is_objective item.body) d.objective (d.duals item.at) ≡ d.duals item.at
      = ap (λ b. cond b d.objective (d.duals item.at)) row in
      record {
        within = read.within;
        fits = λ _. read.fits;
        only = λ _. tt;
        same = read.same ∙ sym itself;
        size = ap length itself ∙ here.size;
      }

  -- ---- a node

  module _ (item : Item) (is : IsHereRow item) (row : is_objective item.body ≡ false) (n : ℕ)
      (e : choice (kind_number (kind_of_body item.body)) ≡ By n) where
    abbrev image : Image
    image = image_of (edge_at n) item

    abbrev leads : LeadsDown setting costly choice chosen (kind_of_body item.body) n
    leads = down setting costly choice chosen lawful item is.here.can n e

    same : edge_entry (edge_at n) ≡ leads.entry
    same = same_entry setting costly choice chosen lawful item is.here.can n e

    own : list_any (family_eq (family_of (edge_at n))) (families_of states) ≡ true
    own =
        subst (λ fs. list_any (family_eq (family_of (edge_at n))) fs ≡ true) (sym families)
        (and_second
        (slice_index_or setting.table.on (family_number (family_of (edge_at n))) false)
        (list_any (family_eq (family_of (edge_at n))) setting.families)
        (ap (λ (x : EdgeEntry). is_usable setting x.family) same ∙ leads.family))

    row_for : IsRowFor (family_of (edge_at n)) item
    row_for = record {
      class =
          sym (item_class setting costly choice chosen lawful item is.here.can n e)
          ∙ ap₂ (λ a b. (a, b)) is.row row;
      row = record { no_group = is.row; no_objective = row };
      valid = is.here.can.valid;
      numbers = λ f.
          ap is_scalar_kind leads.source
          ∙ implied (is_of_numbers leads.entry.family) (is_scalar_kind leads.entry.source)
          (all_at tells_numbers EDGES n leads.entry all_tell_numbers leads.is_entry.here)
          (sym (ap (λ (x : EdgeEntry). is_of_numbers x.family) same) ∙ f);
      vectors = λ f.
          ap is_scalar_kind leads.source
          ∙ barred (is_of_vectors leads.entry.family) (is_scalar_kind leads.entry.source)
          (all_at tells_vectors EDGES n leads.entry all_tell_vectors leads.is_entry.here)
          (sym (ap (λ (x : EdgeEntry). is_of_vectors x.family) same) ∙ f);
    }

    abbrev this : KeptItem
    this = kept_of (n, item)

    places_are : row_places item.at this ≡ ats image.rows
    places_are =
        sym (middle_places (λ (c : Item). c.at) (child_of item.at) image.groups image.rows
        (listed image.objective) 0 (length image.groups) (omega arith)
        (law_of setting costly choice chosen lawful item is.here.can n e).positions)

    deep : (m : ℕ) → levels ≤ suc m + length item.at.positions
        → All (λ (c : Item). levels ≤ m + length c.at.positions) image.rows
    deep m h =
        all_from_map (λ (v : Address). levels ≤ m + length v.positions) (λ (c : Item). c.at) image.rows
        (subst (All (λ (v : Address). levels ≤ m + length v.positions)) places_are
        (children_deep item.at (range_with_len (child_rows_of (edge_at n) item).first
        (child_rows_of (edge_at n) item).count) m h))

    node_walks : (m : ℕ) (Fits : Type 0) (Unfit : Address → Type 0)
        (duals : List (List Rational)) → levels ≤ suc m + length item.at.positions
        → Known (n, item) → RowsWalk m image.rows Fits Unfit duals
        → Walks (suc m) item (Fits × BackFits (edge_at n) item duals)
        (cond (is_objective item.body) d.objective (back_of (edge_at n) item duals))
    node_walks m Fits Unfit duals h known w =
        let below = dual_at states d.duals m in
        let sizes : map length (map below (row_places item.at this)) ≡ map row_size image.rows
        = ap (map length) (ap (map below) places_are ∙ w.same) ∙ w.sizes in
        let read = node_read states d.duals m item.at this (ats image.rows) duals (known.kept own)
        places_are w.same
        (record {
          duals = record { no_group = is.row; no_objective = row; sizes = sizes };
          depth = omega (arith, is.here.can.room);
          places = few_rows (family_of (edge_at n)) (edge_at n) item is.here.can.valid;
        }) w.within in
        let itself : cond (is_objective item.body) d.objective (back_of (edge_at n) item duals)
        ≡ back_of (edge_at n) item duals
        = ap (λ b. cond b d.objective (back_of (edge_at n) item duals)) row in
        record {
          within = read.within;
          fits = λ f. read.fits (w.fits f.0, f.1);
          only = λ f. let all = read.only f in (w.only all.0, all.1);
          same = read.same ∙ sym itself;
          size =
              ap length itself
              ∙ back_size (family_of (edge_at n)) (edge_at n) item row_for duals w.sizes;
        }

  -- ---- by induction

  rows_of_node : (item : Item) (is : IsHereRow item) (n : ℕ)
      (e : choice (kind_number (kind_of_body item.body)) ≡ By n)
      → All (λ c. is_objective c.body ≡ false) (image_of (edge_at n) item).rows
  rows_of_node item is n e =
      rows_alone setting costly choice chosen lawful item is.here.can n e

  rows_first : (item : Item) (n : ℕ)
      → take (length (image_of (edge_at n) item).rows)
      ((image_of (edge_at n) item).rows ++ listed (image_of (edge_at n) item).objective)
      ≡ (image_of (edge_at n) item).rows
  rows_first item n =
      take-append_seam (image_of (edge_at n) item).rows
      (listed (image_of (edge_at n) item).objective)

  no_levels : (item : Item) → IsHereRow item → levels ≤ length item.at.positions → ⊥
  no_levels item is h = omega (arith, h, is.here.can.room)

  no_group : (inner : List Entry) (c : Item) → IsHereRow (put_in inner c)
      → is_group c.body ≡ false
  no_group inner c is = sym (group_stays inner c.body) ∙ is.row

  mutual
    unfolding nodes leaves back RowFits UnfitRow

    pub walk : {item : Item} {entries : List Entry} (tree : Bridged (rules_by choice) item entries)
        → IsHereRow item → is_objective item.body ≡ false → All Known (nodes tree)
        → All LeafKnown (leaves tree) → (n : ℕ) → levels ≤ n + length item.at.positions
        → Walks n item (RowFits d tree) (back d tree)
    walk {item} tree is row known free zero h = absurd (no_levels item is (omega (arith, h)))
    walk (natively {item} c) is row known free (suc n) h =
        leaf_walks n item is row (All-head LeafKnown item [] free)
    walk (by {item} {edge} {inner} c groups others) is row known free (suc n) h =
        node_walks item is row edge c n
        (RowsFit d (length (image_of (edge_at edge) item).rows) others)
        (UnfitRow d (length (image_of (edge_at edge) item).rows) others)
        (take (length (image_of (edge_at edge) item).rows) (backs d others)) h
        (All-head Known (edge, item) (nodes_of_each groups ++ nodes_in others) known)
        (subst (λ rows. RowsWalk n rows
        (RowsFit d (length (image_of (edge_at edge) item).rows) others)
        (UnfitRow d (length (image_of (edge_at edge) item).rows) others)
        (take (length (image_of (edge_at edge) item).rows) (backs d others)))
        (rows_first item edge)
        (walk_rows (length (image_of (edge_at edge) item).rows) others
        (child_rows_here setting costly choice chosen lawful item is.here edge c inner groups)
        (subst (All (λ x. is_objective x.body ≡ false)) (sym (rows_first item edge))
        (rows_of_node item is edge c))
        (all_second Known (nodes_of_each groups) (nodes_in others)
        (All-tail Known (edge, item) (nodes_of_each groups ++ nodes_in others) known))
        (all_second LeafKnown (leaves_of_each groups) (leaves_in others) free) n
        (subst (All (λ (x : Item). levels ≤ n + length x.at.positions)) (sym (rows_first item edge))
        (deep item is row edge c n h))))

    -- the first k
    pub walk_rows : {inner : List Entry} {items : List Item} (k : ℕ)
        (trees : EachBridgedIn (rules_by choice) inner items)
        → All (λ c. IsHereRow (put_in inner c)) items
        → All (λ c. is_objective c.body ≡ false) (take k items) → All Known (nodes_in trees)
        → All LeafKnown (leaves_in trees) → (n : ℕ)
        → All (λ (c : Item). levels ≤ n + length c.at.positions) (take k items)
        → RowsWalk n (take k items) (RowsFit d k trees) (UnfitRow d k trees)
        (take k (backs d trees))
    walk_rows zero trees here row known free n low =
        rows_none n (RowsFit d 0 trees) (UnfitRow d 0 trees) tt
    walk_rows (suc k) none_in here row known free n low = rows_none n (Unit {0}) (λ at. ⊥) tt
    walk_rows {inner} (suc k) (each_in {item = c} {items = items} first more) here row known free n
        low =
        rows_more n inner c (take k items) (RowFits d first) (RowsFit d k more)
        (UnfitRow d k more) (back d first) (take k (backs d more))
        (no_group inner c (All-head (λ x. IsHereRow (put_in inner x)) c items here))
        (walk first (All-head (λ x. IsHereRow (put_in inner x)) c items here)
        (objective_stays inner c.body
        ∙ All-head (λ x. is_objective x.body ≡ false) c (take k items) row)
        (all_first Known (nodes first) (nodes_in more) known)
        (all_first LeafKnown (leaves first) (leaves_in more) free) n
        (All-head (λ (x : Item). levels ≤ n + length x.at.positions) c (take k items) low))
        (walk_rows k more
        (All-tail (λ x. IsHereRow (put_in inner x)) c items here)
        (All-tail (λ x. is_objective x.body ≡ false) c (take k items) row)
        (all_second Known (nodes first) (nodes_in more) known)
        (all_second LeafKnown (leaves first) (leaves_in more) free) n
        (All-tail (λ (x : Item). levels ≤ n + length x.at.positions) c (take k items) low))
