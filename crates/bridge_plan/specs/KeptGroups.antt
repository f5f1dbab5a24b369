-- Whether a bridged group's variables are kept: where its kind is native, or is bridged later from
-- a native group. So it is by the choices alone, before any number is worked out.
use Rattle.std.specs.Prelude.{◌≡◌, ℕ, zero, suc, ◌+◌, drop, take, Bool, true, false, ◌&&◌, ◌||◌, not, cond, Contains, find, List, [], ◌∷◌, ◌<◌, All, length, map, Some, slice_index_or, refl}
use Rattle.std.proofs.Common.{arith, ap, sym, subst, ◌∙◌, true≢false}
use Rattle.std.specs.List.{list_all, zip}
use Rattle.std.specs.Option.{option_map_or}
use Rattle.std.proofs.lemmas.Bool.{not-true}
use Rattle.std.proofs.lemmas.List.{append-nil, length-map}
use Rattle.std.proofs.lemmas.List.Elements.{All-cons, All-contains_itself, All-head, All-map, All-nil, All-tail, All-weaker}
use Rattle.std.proofs.lemmas.List.Sums.{AllPass-from_list_all}
use Rattle.bridge_graph.specs.Hypergraph.{IsCostly}
use Rattle.bridge_graph.specs.declared.Choice.{Choice}
use Rattle.bridge_graph.specs.declared.Choice.TheVariants.{By, Missing, Native}
use Rattle.expansion.specs.Bridged.{Bridged, EachBridged, by, each, natively, none}
use Rattle.aff_core.specs.Address.{Address, address_eq, address_eq-Decides}
use Rattle.aff_core.specs.Function.{Function, constant_function, negated, variable}
use Rattle.set_core.specs.declared.set.Set.TheVariants.{Reals}
use Rattle.item_core.specs.declared.edge.Edge.{Edge}
use Rattle.item_core.specs.declared.edge.EdgeEntry.{EdgeEntry}
use Rattle.item_core.specs.declared.edge.TheConstants.{EDGES}
use Rattle.item_core.specs.declared.family.Family.{Family}
use Rattle.item_core.specs.declared.family.Family.TheVariants as family
use Rattle.item_core.specs.declared.image.Expression.{Expression}
use Rattle.item_core.specs.declared.image.Expression.TheVariants.{Kept, Bridged as Rewritten}
use Rattle.item_core.specs.declared.item.Body.{Body}
use Rattle.item_core.specs.declared.item.Body.TheVariants.{Group, Free}
use Rattle.item_core.specs.declared.item.Item.{Item}
use Rattle.item_core.specs.declared.kind.Kind.{Kind}
use Rattle.item_core.specs.declared.kind.Kind.TheVariants as kind
use Rattle.item_core.specs.Edge.{children_of, edge_entry, family_eq, family_of, keeps_components}
use Rattle.item_core.specs.EdgeLaws.{keeps_by_family}
use Rattle.item_core.specs.Item.{functions_of, is_group, set_of, variables_of}
use Rattle.item_core.specs.Kind.{kind_eq, kind_number}
use Rattle.item_core.specs.KindOf.{kind_of_body}
use Rattle.bridge_face.specs.BackOf.{size}
use Rattle.bridge_face.specs.ImageOf.{begins_free, bridged, differences, free_at, group_at, image_by, image_of, inner, inner_functions}
use Rattle.bridge_face.specs.Images.{number_in, raised}
use Rattle.ratio_core.specs.Rational.{zero_ℚ}
use Rattle.fresh_bridging.specs.Entries.{Entry, expression_in, is_kept, put_into}
use Rattle.map_laws.specs.EachLaws.{all_at, all_seconds}
use Rattle.fresh_bridging.specs.MentionLaws.{by_lookup}
use Rattle.fresh_bridging.specs.OmitLaws.{IsGroup, child_groups, edge_law}
use Rattle.fresh_bridging.specs.CanLaws.{AreLawful, down}
use Rattle.fresh_bridging.specs.TheRules.{AreChoices, Setting, edge_at, graph_of, own_entries, outer_entries, rules_by}

-- ---- by the choices

abbrev pub is_later : ℕ → Bool
is_later edge = keeps_components (edge_at edge)

-- the kind of the group that such an edge begins with
abbrev pub begun_kind : ℕ → Kind
begun_kind edge = cond (begins_free (children_of (edge_at edge))) kind.Free kind.GroupReals

abbrev pub is_native_choice : Choice → Bool
is_native_choice Native = true
is_native_choice _ = false

abbrev pub keeps_by : (ℕ → Choice) → Choice → Bool
keeps_by choice Native = true
keeps_by choice (By edge) =
    is_later edge && is_native_choice (choice (kind_number (begun_kind edge)))
keeps_by choice Missing = false

-- a group of the kind keeps its variables
abbrev pub keeps : (ℕ → Choice) → Kind → Bool
keeps choice kind = keeps_by choice (choice (kind_number kind))

-- ---- the expressions of images

rewritten : (fs : List Function) → list_all (λ e. not (is_kept e)) (bridged fs) ≡ true
rewritten [] = refl
rewritten (f ∷ fs) = rewritten fs

rewritten_by : (f : Family) (edge : Edge) (item : Item) → family_eq f family.Later ≡ false
    → list_all (λ e. not (is_kept e)) (image_by f edge item).exprs ≡ true
unfolding image_by
rewritten_by family.NonposVar edge item h =
    rewritten (map negated (inner_functions item (size item)))
rewritten_by family.VectorizeVar edge item h =
    rewritten (map (λ s. raised s (number_in (set_of item.body))) (inner_functions item 1))
rewritten_by family.ZerosVar edge item h =
    rewritten (map (λ _. constant_function zero_ℚ) (functions_of item.body))
rewritten_by family.FreeVar edge item h =
    let ss = inner_functions item (size item + size item) in
    rewritten (differences (take (size item) ss) (drop (size item) ss))
rewritten_by family.Later edge item h = absurd (true≢false h)
rewritten_by _ edge item h = refl

-- ---- with expressions put in

abbrev pub AllKeptAs : Bool → List Entry → Type 0
AllKeptAs b entries = All (λ e. is_kept e.expression ≡ b) entries

still_rewritten : (entries : List Entry) (e : Expression) → is_kept e ≡ false
    → is_kept (put_into entries e) ≡ false
still_rewritten entries (Kept v) h = absurd (true≢false h)
still_rewritten entries (Rewritten f) h = refl

outer_kept : (b : Bool) (vars : List Address) (exprs : List Expression) (entries : List Entry)
    → All (λ e. is_kept (put_into entries e) ≡ b) exprs
    → AllKeptAs b (map (λ p. record { component = p.0; expression = put_into entries p.1 })
    (zip vars exprs))
outer_kept b vars exprs entries h =
    All-map (λ e. is_kept e.expression ≡ b)
    (λ p. record { component = p.0; expression = put_into entries p.1 }) (zip vars exprs)
    (all_seconds (λ e. is_kept (put_into entries e) ≡ b) vars exprs h)

rewritten_outer : (edge : ℕ) (item : Item) (entries : List Entry) → is_later edge ≡ false
    → AllKeptAs false (outer_entries edge item entries)
rewritten_outer edge item entries h =
    let exprs = (image_of (edge_at edge) item).exprs in
    outer_kept false (variables_of item.body) exprs entries
    (All-weaker (λ e. not (is_kept e) ≡ true) (λ e. is_kept (put_into entries e) ≡ false)
    (λ e k. still_rewritten entries e (not-true (is_kept e) k)) exprs
    (AllPass-from_list_all (λ e. not (is_kept e)) exprs
    (rewritten_by (family_of (edge_at edge)) (edge_at edge) item
    (sym (keeps_by_family (edge_at edge)) ∙ h))))

-- ---- later

later_is : (f : Family) → family_eq f family.Later ≡ true → f ≡ family.Later
later_is family.Later h = refl
later_is _ h = absurd (true≢false (sym h))

-- the group that such an edge begins with
abbrev begun : ℕ → Item → Item
begun edge item =
    cond (begins_free (children_of (edge_at edge))) (free_at item (size item))
    (group_at item (Reals (size item)) (size item))

later_groups : (edge : ℕ) (item : Item) → is_later edge ≡ true
    → (image_of (edge_at edge) item).groups ≡ begun edge item ∷ []
unfolding image_by
later_groups edge item h =
    ap (λ f. (image_by f (edge_at edge) item).groups)
    (later_is (family_of (edge_at edge)) (sym (keeps_by_family (edge_at edge)) ∙ h))

later_exprs : (edge : ℕ) (item : Item) → is_later edge ≡ true
    → (image_of (edge_at edge) item).exprs ≡ map Kept (inner item (size item))
unfolding image_by
later_exprs edge item h =
    ap (λ f. (image_by f (edge_at edge) item).exprs)
    (later_is (family_of (edge_at edge)) (sym (keeps_by_family (edge_at edge)) ∙ h))

begun_is : (b : Bool) (item : Item) (n : ℕ)
    → kind_of_body (cond b (free_at item n) (group_at item (Reals n) n)).body
    ≡ cond b kind.Free kind.GroupReals
unfolding kind_of_body
begun_is true item n = refl
begun_is false item n = refl

begun_variables : (b : Bool) (item : Item) (n : ℕ)
    → variables_of (cond b (free_at item n) (group_at item (Reals n) n)).body ≡ inner item n
begun_variables true item n = refl
begun_variables false item n = refl

-- no such edge leads from a group that one begins with
abbrev begins_others : EdgeEntry → Bool
begins_others r =
    not (family_eq r.family family.Later
    && (kind_eq r.source kind.Free || kind_eq r.source kind.GroupReals))

all_begin_others : list_all begins_others EDGES ≡ true
all_begin_others = refl

begun_source : (b : Bool) (source : Kind) → source ≡ cond b kind.Free kind.GroupReals
    → (kind_eq source kind.Free || kind_eq source kind.GroupReals) ≡ true
begun_source true source e =
    ap (λ k. kind_eq k kind.Free || kind_eq k kind.GroupReals) e
begun_source false source e =
    ap (λ k. kind_eq k kind.Free || kind_eq k kind.GroupReals) e

not_both : (a b : Bool) → not (a && b) ≡ true → b ≡ true → a ≡ false
not_both true true h e = absurd (true≢false (sym h))
not_both true false h e = absurd (true≢false (sym e))
not_both false b h e = refl

-- ---- what is found

components_outer : (vars : List Address) (exprs : List Expression) (entries : List Entry)
    → length exprs ≡ length vars
    → map (λ (e : Entry). e.component) (map (λ p. record {
      component = p.0;
      expression = put_into entries p.1;
    }) (zip vars exprs)) ≡ vars
components_outer [] exprs entries h = refl
components_outer (v ∷ vs) [] entries h = absurd (omega (arith, h))
components_outer (v ∷ vs) (e ∷ es) entries h =
    ap (λ l. v ∷ l) (components_outer vs es entries (omega (arith, h)))

found_among : (P : Expression → Type 0) (entries : List Entry) (v : Address)
    → Contains (map (λ (e : Entry). e.component) entries) v → All (λ e. P e.expression) entries
    → P (expression_in entries v)
found_among P [] v (place, inside, is) all = absurd (omega (arith, inside))
found_among P (e ∷ es) v (place, inside, is) all =
    here (address_eq e.component v) refl place inside is
    (λ k within at. found_among P es v (k, within, at) (All-tail (λ x. P x.expression) e es all))
  where
    here : (b : Bool) → address_eq e.component v ≡ b → (k : ℕ)
        → k < length (map (λ (x : Entry). x.component) (e ∷ es))
        → slice_index_or (map (λ (x : Entry). x.component) (e ∷ es)) k v ≡ v
        → ((k : ℕ) → k < length (map (λ (x : Entry). x.component) es)
        → slice_index_or (map (λ (x : Entry). x.component) es) k v ≡ v → P (expression_in es v))
        → P (option_map_or (λ x. x.expression) (cond b (Some e)
        (find (λ x. address_eq x.component v) es)) (Kept v))
    here true t k inside is later = All-head (λ x. P x.expression) e es all
    here false t zero inside is later =
        absurd (true≢false (sym ((address_eq-Decides e.component v).1 is) ∙ t))
    here false t (suc k) inside is later = later k (omega (arith, inside)) is

group_length : (b : Body) → is_group b ≡ true → length (functions_of b) ≡ length (variables_of b)
group_length (Group s vars) h = length-map vars variable
group_length (Free vars) h = length-map vars variable
group_length _ h = absurd (true≢false (sym h))

own_all : (vars : List Address)
    → AllKeptAs true (map (λ u. record { component = u; expression = Kept u }) vars)
own_all [] = All-nil (λ e. is_kept e.expression ≡ true)
own_all (u ∷ us) =
    All-cons (λ e. is_kept e.expression ≡ true) (record { component = u; expression = Kept u })
    (map (λ w. record { component = w; expression = Kept w }) us) refl (own_all us)

natively_all : (item : Item) → AllKeptAs true (own_entries item)
natively_all item = by_group (is_group item.body)
  where
    by_group : (b : Bool)
        → AllKeptAs true (cond b (map (λ u. record { component = u; expression = Kept u })
        (variables_of item.body)) [])
    by_group true = own_all (variables_of item.body)
    by_group false = All-nil (λ e. is_kept e.expression ≡ true)

-- ---- along the bridging of a group

module _ (setting : Setting) (costly : IsCostly (graph_of setting)) (choice : ℕ → Choice)
    (chosen : AreChoices setting choice) (lawful : AreLawful setting) where
  abbrev IsGroupHere : Item → Type 0
  IsGroupHere group = IsGroup setting costly choice chosen lawful group

  -- a group that such an edge begins with isn't itself bridged later
  never_later : (group : Item) (is : IsGroupHere group) (n edge : ℕ)
      → choice (kind_number (kind_of_body group.body)) ≡ By n
      → kind_of_body group.body ≡ begun_kind edge → is_later n ≡ false
  never_later group is n edge e kind_is =
      let there = down setting costly choice chosen lawful group is.can n e in
      keeps_by_family (edge_at n)
      ∙ ap (λ x. family_eq x.family family.Later)
      (ap edge_entry there.is_entry.edge ∙ there.is_entry.entry_is)
      ∙ not_both (family_eq there.entry.family family.Later) (kind_eq there.entry.source kind.Free
      || kind_eq there.entry.source kind.GroupReals)
      (all_at begins_others EDGES n there.entry all_begin_others there.is_entry.here)
      (begun_source (begins_free (children_of (edge_at edge))) there.entry.source
      (sym there.source ∙ kind_is))

  edge_components : (group : Item) (is : IsGroupHere group) (n : ℕ)
      (e : choice (kind_number (kind_of_body group.body)) ≡ By n) (entries : List Entry)
      → map (λ (e : Entry). e.component) (outer_entries n group entries) ≡ variables_of group.body
  edge_components group is n e entries =
      components_outer (variables_of group.body) (image_of (edge_at n) group).exprs entries
      ((edge_law setting costly choice chosen lawful group is.can n e).exprs is.is_group
      ∙ group_length group.body is.is_group)

  -- what stands for the variables of a group that such an edge begins with
  on_begun : {group : Item} {entries : List Entry} → Bridged (rules_by choice) group entries
      → IsGroupHere group → (edge : ℕ) → kind_of_body group.body ≡ begun_kind edge
      → All (λ v. is_kept (expression_in entries v)
      ≡ is_native_choice (choice (kind_number (begun_kind edge)))) (variables_of group.body)
  on_begun (natively {item} c) is edge kind_is =
      All-weaker (Contains (variables_of item.body))
      (λ v. is_kept (expression_in (own_entries item) v)
      ≡ is_native_choice (choice (kind_number (begun_kind edge))))
      (λ v _. by_lookup (λ x. is_kept x ≡ true) (own_entries item) v (natively_all item) refl
      ∙ sym (ap is_native_choice (sym (ap (λ k. choice (kind_number k)) kind_is) ∙ c)))
      (variables_of item.body) (All-contains_itself (variables_of item.body))
  on_begun (by {item} {edge = n} {inner} c groups others) is edge kind_is =
      All-weaker (Contains (variables_of item.body))
      (λ v. is_kept (expression_in (outer_entries n item inner) v)
      ≡ is_native_choice (choice (kind_number (begun_kind edge))))
      (λ v here. found_among (λ x. is_kept x ≡ false) (outer_entries n item inner) v
      (subst (λ l. Contains l v) (sym (edge_components item is n c inner)) here)
      (rewritten_outer n item inner (never_later item is n edge c kind_is))
      ∙ sym (ap is_native_choice (sym (ap (λ k. choice (kind_number k)) kind_is) ∙ c)))
      (variables_of item.body) (All-contains_itself (variables_of item.body))

  alone : {group : Item} {entries : List Entry}
      → EachBridged (rules_by choice) (group ∷ []) entries
      → Bridged (rules_by choice) group entries
  alone {group} (each {entries} first none) =
      subst (Bridged (rules_by choice) group) (sym (append-nil entries)) first

  later_kept : (item : Item) (is : IsGroupHere item) (edge : ℕ)
      (c : choice (kind_number (kind_of_body item.body)) ≡ By edge) (entries : List Entry)
      → is_later edge ≡ true
      → EachBridged (rules_by choice) (image_of (edge_at edge) item).groups entries
      → AllKeptAs (is_native_choice (choice (kind_number (begun_kind edge))))
      (outer_entries edge item entries)
  later_kept item is edge c entries h groups =
      let native = is_native_choice (choice (kind_number (begun_kind edge))) in
      let child = begun edge item in
      let free = begins_free (children_of (edge_at edge)) in
      let tree = alone (subst (λ gs. EachBridged (rules_by choice) gs entries)
      (later_groups edge item h) groups) in
      let is_child = All-head IsGroupHere child [] (subst (All IsGroupHere)
      (later_groups edge item h) (child_groups setting costly choice chosen lawful item is.can
      edge c)) in
      let vars = on_begun tree is_child edge (begun_is free item (size item)) in
      outer_kept native (variables_of item.body) (image_of (edge_at edge) item).exprs entries
      (subst (All (λ e. is_kept (put_into entries e) ≡ native)) (sym (later_exprs edge item h))
      (All-map (λ e. is_kept (put_into entries e) ≡ native) Kept (inner item (size item))
      (subst (All (λ v. is_kept (expression_in entries v) ≡ native))
      (begun_variables free item (size item)) vars)))

  pub group_kept : {group : Item} {entries : List Entry}
      → Bridged (rules_by choice) group entries → IsGroupHere group
      → AllKeptAs (keeps choice (kind_of_body group.body)) entries
  group_kept (natively {item} c) is =
      subst (λ b. AllKeptAs b (own_entries item)) (sym (ap (keeps_by choice) c))
      (natively_all item)
  group_kept (by {item} {edge} {inner} c groups others) is =
      subst (λ b. AllKeptAs b (outer_entries edge item inner)) (sym (ap (keeps_by choice) c))
      (by_family (is_later edge) refl)
    where
      by_family : (b : Bool) → is_later edge ≡ b
          → AllKeptAs (b && is_native_choice (choice (kind_number (begun_kind edge))))
          (outer_entries edge item inner)
      by_family true h = later_kept item is edge c inner h groups
      by_family false h = rewritten_outer edge item inner h

  pub group_components : {group : Item} {entries : List Entry}
      → Bridged (rules_by choice) group entries → IsGroupHere group
      → map (λ (e : Entry). e.component) entries ≡ variables_of group.body
  group_components (natively {item} c) is = own_components item.body is.is_group
    where
      own : (vars : List Address)
          → map (λ (e : Entry). e.component)
          (map (λ u. record { component = u; expression = Kept u }) vars) ≡ vars
      own [] = refl
      own (u ∷ us) = ap (λ l. u ∷ l) (own us)

      own_components : (b : Body) → is_group b ≡ true
          → map (λ (e : Entry). e.component) (cond (is_group b)
          (map (λ u. record { component = u; expression = Kept u }) (variables_of b)) [])
          ≡ variables_of b
      own_components b h =
          ap (λ x. map (λ (e : Entry). e.component) (cond x
          (map (λ u. record { component = u; expression = Kept u }) (variables_of b)) [])) h
          ∙ own (variables_of b)
  group_components (by {item} {edge} {inner} c groups others) is =
      edge_components item is edge c inner
