-- The kinds that the user's items have once the groups' expressions are put in: by which variables
-- are kept, which the kinds of their groups tell.
use Rattle.std.specs.Prelude.{◌≡◌, ℕ, Bool, true, false, ◌&&◌, ◌||◌, cond, find, List, [], ◌∷◌, ◌++◌, All, map, Option, Some, unwrap_or, refl}
use Rattle.std.proofs.Common.{ap, ap₂, sym, ◌∙◌, true≢false}
use Rattle.std.specs.FinMap as finite
use Rattle.std.specs.FinMap.{FinMap}
use Rattle.std.specs.List.{list_all, list_any}
use Rattle.std.specs.Option.{option_map_or}
use Rattle.std.proofs.lemmas.List.Elements.{All-head, All-tail}
use Rattle.bridge_graph.specs.Hypergraph.{IsCostly}
use Rattle.bridge_graph.specs.declared.Choice.{Choice}
use Rattle.bridge_graph.specs.declared.Choice.TheVariants.{Missing}
use Rattle.expansion.specs.Bridged.{EachBridged, each, none}
use Rattle.aff_core.specs.Address.{Address, address_cmp, address_eq}
use Rattle.aff_core.specs.Arithmetic.{composed}
use Rattle.aff_core.specs.declared.sense.Sense.{Sense}
use Rattle.aff_core.specs.declared.sense.Sense.TheVariants.{Max, Min}
use Rattle.set_core.specs.declared.set.Set.{Set}
use Rattle.item_core.specs.declared.image.Expression.{Expression}
use Rattle.item_core.specs.declared.image.Expression.TheVariants.{Kept, Bridged as Rewritten}
use Rattle.item_core.specs.declared.item.Body.{Body}
use Rattle.item_core.specs.declared.item.Body.TheVariants.{Group, Free, Plain, Affine, PlainVec, AffineVec, PlainObj, AffineObj}
use Rattle.item_core.specs.declared.item.Item.{Item}
use Rattle.item_core.specs.declared.kind.Kind.{Kind}
use Rattle.item_core.specs.declared.kind.Kind.TheVariants as kind
use Rattle.item_core.specs.Item.{variables_of}
use Rattle.item_core.specs.Kind.{kind_number}
use Rattle.item_core.specs.KindOf.{affine_kind_of, group_kind_of, kind_of_body, plain_kind_of}
use Rattle.user_model.specs.declared.function.UserFunc.{UserFunc}
use Rattle.user_model.specs.declared.function.UserFunc.TheVariants as user
use Rattle.fresh_bridging.specs.CanLaws.{AreLawful}
use Rattle.fresh_bridging.specs.Entries.{Entry, expression_in, function_in, is_kept, objective_by, plain_or_affine, put_in_body, vector_by}
use Rattle.fresh_bridging.specs.OmitLaws.{IsGroup}
use Rattle.fresh_bridging.specs.TheRules.{AreChoices, Setting, graph_of, rules_by}
use Rattle.bridge_plan.specs.KeptGroups.{AllKeptAs, group_components, group_kept, keeps}

-- ---- by which variables are kept

-- the kind of an objective that is a plain variable, or another function
abbrev pub objective_kind_by : Sense → Bool → Kind
objective_kind_by Min true = kind.MinPlain
objective_kind_by Min false = kind.MinAffine
objective_kind_by Max true = kind.MaxPlain
objective_kind_by Max false = kind.MaxAffine

abbrev pub kind_by : (Address → Bool) → Body → Kind
kind_by kept (Group set vars) = group_kind_of set
kind_by kept (Free vars) = kind.Free
kind_by kept (Plain var set) = cond (kept var) (plain_kind_of set) (affine_kind_of set)
kind_by kept (Affine func set) = affine_kind_of set
kind_by kept (PlainVec vars set) =
    cond (list_all kept vars) (plain_kind_of set) (affine_kind_of set)
kind_by kept (AffineVec funcs set) = affine_kind_of set
kind_by kept (PlainObj sense var) = objective_kind_by sense (kept var)
kind_by kept (AffineObj sense func) = objective_kind_by sense false

-- a function of the user's names variables, all of which are kept
abbrev pub is_plain_by : (Address → Bool) → UserFunc → Bool
is_plain_by kept (user.Plain var) = kept var
is_plain_by kept (user.Affine func) = false
is_plain_by kept (user.PlainVec vars) = list_all kept vars
is_plain_by kept (user.AffineVec funcs) = false

plain_kind : (e : Expression) (set : Set)
    → kind_of_body (plain_or_affine e set)
    ≡ cond (is_kept e) (plain_kind_of set) (affine_kind_of set)
unfolding kind_of_body
plain_kind (Kept v) set = refl
plain_kind (Rewritten f) set = refl

objective_kind : (sense : Sense) (e : Expression)
    → kind_of_body (objective_by sense e) ≡ objective_kind_by sense (is_kept e)
unfolding kind_of_body
objective_kind Min (Kept v) = refl
objective_kind Max (Kept v) = refl
objective_kind Min (Rewritten f) = refl
objective_kind Max (Rewritten f) = refl

vector_kind : (b : Bool) (es : List Expression) (set : Set)
    → kind_of_body (vector_by b es set) ≡ cond b (plain_kind_of set) (affine_kind_of set)
unfolding kind_of_body vector_by
vector_kind true es set = refl
vector_kind false es set = refl

module _ (entries : List Entry) (kept : Address → Bool)
    (agree : (v : Address) → kept v ≡ is_kept (expression_in entries v)) where
  all_kept : (vars : List Address)
      → list_all kept vars ≡ list_all is_kept (map (expression_in entries) vars)
  all_kept [] = refl
  all_kept (v ∷ vs) = ap₂ ◌&&◌ (agree v) (all_kept vs)

  pub kind_by_is : (b : Body) → kind_by kept b ≡ kind_of_body (put_in_body entries b)
  unfolding put_in_body kind_of_body
  kind_by_is (Plain var set) =
      ap (λ b. cond b (plain_kind_of set) (affine_kind_of set)) (agree var)
      ∙ sym (plain_kind (expression_in entries var) set)
  kind_by_is (PlainVec vars set) =
      ap (λ b. cond b (plain_kind_of set) (affine_kind_of set)) (all_kept vars)
      ∙ sym (vector_kind (list_all is_kept (map (expression_in entries) vars))
      (map (expression_in entries) vars) set)
  kind_by_is (PlainObj sense var) =
      ap (objective_kind_by sense) (agree var)
      ∙ sym (objective_kind sense (expression_in entries var))
  kind_by_is (AffineObj sense func) =
      sym (objective_kind sense (Rewritten (composed (function_in entries) func)))
  kind_by_is _ = refl

-- ---- which variables are kept

-- a variable of a group is kept as its group's kind says, and any other stands for itself
unfoldable pub is_kept_by : (ℕ → Choice) → List Item → Address → Bool
is_kept_by choice [] v = true
is_kept_by choice (group ∷ groups) v =
    cond (list_any (λ u. address_eq u v) (variables_of group.body))
    (keeps choice (kind_of_body group.body)) (is_kept_by choice groups v)

abbrev components_of : List Entry → List Address
components_of es = map (λ (e : Entry). e.component) es

found_first : (es fs : List Entry) (v : Address) (b : Bool)
    → list_any (λ u. address_eq u v) (components_of es) ≡ b
    → expression_in (es ++ fs) v ≡ cond b (expression_in es v) (expression_in fs v)
found_first [] fs v true h = absurd (true≢false (sym h))
found_first [] fs v false h = refl
found_first (e ∷ es) fs v b h = here (address_eq e.component v) refl h (found_first es fs v b)
  where
    here : (c : Bool) → address_eq e.component v ≡ c
        → (c || list_any (λ u. address_eq u v) (components_of es)) ≡ b
        → (list_any (λ u. address_eq u v) (components_of es) ≡ b
        → expression_in (es ++ fs) v ≡ cond b (expression_in es v) (expression_in fs v))
        → option_map_or (λ x. x.expression) (cond c (Some e)
        (find (λ x. address_eq x.component v) (es ++ fs))) (Kept v)
        ≡ cond b (option_map_or (λ x. x.expression) (cond c (Some e)
        (find (λ x. address_eq x.component v) es)) (Kept v)) (expression_in fs v)
    here true t any later = ap (λ x. cond x e.expression (expression_in fs v)) any
    here false t any later = later any

kept_where_found : (b : Bool) (es : List Entry) (v : Address) → AllKeptAs b es
    → list_any (λ u. address_eq u v) (components_of es) ≡ true
    → is_kept (expression_in es v) ≡ b
kept_where_found b [] v all h = absurd (true≢false (sym h))
kept_where_found b (e ∷ es) v all h =
    here (address_eq e.component v) h
    (kept_where_found b es v (All-tail (λ x. is_kept x.expression ≡ b) e es all))
  where
    here : (c : Bool) → (c || list_any (λ u. address_eq u v) (components_of es)) ≡ true
        → (list_any (λ u. address_eq u v) (components_of es) ≡ true
        → is_kept (expression_in es v) ≡ b)
        → is_kept (option_map_or (λ x. x.expression) (cond c (Some e)
        (find (λ x. address_eq x.component v) es)) (Kept v)) ≡ b
    here true any later = All-head (λ x. is_kept x.expression ≡ b) e es all
    here false any later = later any

module _ (setting : Setting) (costly : IsCostly (graph_of setting)) (choice : ℕ → Choice)
    (chosen : AreChoices setting choice) (lawful : AreLawful setting) where
  abbrev IsGroupHere : Item → Type 0
  IsGroupHere group = IsGroup setting costly choice chosen lawful group

  pub kept_as_told : {groups : List Item} {entries : List Entry}
      → EachBridged (rules_by choice) groups entries → All IsGroupHere groups → (v : Address)
      → is_kept_by choice groups v ≡ is_kept (expression_in entries v)
  unfolding is_kept_by
  kept_as_told none all v = refl
  kept_as_told (each {item} {items} {entries} {others} first rest) all v =
      let is = All-head IsGroupHere item items all in
      let components = group_components setting costly choice chosen lawful first is in
      by (list_any (λ u. address_eq u v) (variables_of item.body))
      (ap (list_any (λ u. address_eq u v)) components)
      (group_kept setting costly choice chosen lawful first is)
      (kept_as_told rest (All-tail IsGroupHere item items all) v)
    where
      by : (b : Bool) → list_any (λ u. address_eq u v) (components_of entries) ≡ b
          → AllKeptAs (keeps choice (kind_of_body item.body)) entries
          → is_kept_by choice items v ≡ is_kept (expression_in others v)
          → cond b (keeps choice (kind_of_body item.body)) (is_kept_by choice items v)
          ≡ is_kept (expression_in (entries ++ others) v)
      by true any told later =
          sym (kept_where_found (keeps choice (kind_of_body item.body)) entries v told any)
          ∙ sym (ap is_kept (found_first entries others v true any))
      by false any told later =
          later ∙ sym (ap is_kept (found_first entries others v false any))

-- ---- the first item without a tree

abbrev pub is_missing : Choice → Bool
is_missing Missing = true
is_missing _ = false

-- the first of these kinds that has no tree
abbrev pub first_missing : (ℕ → Choice) → List Kind → Option Kind
first_missing choice kinds = find (λ k. is_missing (choice (kind_number k))) kinds

abbrev pub kinds_as_they_stand : List Item → List Kind
kinds_as_they_stand items = map (λ i. kind_of_body i.body) items

-- the kinds of the user's items, in their order, once the groups' expressions are put in
abbrev pub kinds_told : (ℕ → Choice) → List Item → List Item → List Kind
kinds_told choice groups others =
    kinds_as_they_stand groups ++ map (λ i. kind_by (is_kept_by choice groups) i.body) others

-- what is known of a variable: one of which nothing is known stands for itself
abbrev pub told : FinMap address_cmp Bool → Address → Bool
told kept v = unwrap_or (finite.get kept v) true
