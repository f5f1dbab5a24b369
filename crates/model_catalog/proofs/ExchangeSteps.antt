-- The steps of an exchange, each with what the earlier ones made.
use Rattle.std.proofs.Common.{◌≡◌, ℕ, ◌+◌, ◌-◌, ◌<◌, ◌≤◌, ◌^◌, List, [], ◌∷◌, length, Option, None, refl, sym, ap, ap₂, subst, ◌∙◌, arith}
use Rattle.std.specs.Prelude.{unwrap_or}
use Rattle.std.specs.Option.{option_map}
use Rattle.name_index.specs.NameTable.{NumbersByName, IsOneToOne}
use Rattle.numbered_list.specs.declared.change.Change.{Change}
use Rattle.numbered_list.specs.Numbered.{Rise, find}
use Rattle.numbered_list.specs.Changes.{olds, set_all}
use Rattle.user_model.specs.declared.group.Group.{Group}
use Rattle.user_model.specs.declared.row.Row.{Row}
use Rattle.user_model.specs.declared.undo.Undo.{Undo}
use Rattle.user_model.specs.Edited.{group_number, row_number}
use Rattle.user_model.specs.Consistent.{IsConsistent, IsWithinLimits}
use Rattle.user_model.specs.Model.{ModelValue, objective_terms, total_terms, variables}
use Rattle.user_model.specs.Undone.{before}
use Rattle.model_catalog.specs.declared.catalog.Catalog.TheInside.{Inside}
use Rattle.model_catalog.specs.declared.exchange.Exchange.{Exchange}
use Rattle.model_catalog.specs.declared.names.NameChange.{NameChange}
use Rattle.model_catalog.specs.declared.names.NameChanges.{NameChanges}
use Rattle.model_catalog.specs.declared.variable.Variable.{Variable}
use Rattle.model_catalog.specs.Catalog.{Catalog}
use Rattle.model_catalog.specs.Names.{AreDistinct, standing_names, name_of, put_count, renamed_by}
use Rattle.model_catalog.specs.Index.{CountsBounds, kept_count, listed_in, recounted, variable_number}
use Rattle.model_catalog.specs.Terms.{changed_terms}
use Rattle.model_catalog.specs.Named.{AreNameChanges, HasStandingNames, variable_name}
use Rattle.model_catalog.specs.Kept.{HasNames, IsCatalogKept, Keeps, catalog_of}
use Rattle.model_catalog.specs.Exchange.{IsExchange, contents, exchanged, standing}
use Rattle.model_catalog.proofs.Models.{kept_length}
use Rattle.model_catalog.proofs.Exchanges.{TermsMoved, back_again, counts_listed, distinct_given, distinct_rows, distinct_variables, has_names_given, index_after, kept_count_is, lists_back, terms_moved}

-- what an exchange may rest on
pub record Ready (a : Inside) (value : Catalog) (with : Exchange)
    (names : NameChanges) : Type 0 where
  pub view : catalog_of a ≡ value
  pub keeps : Keeps value.model a.kept.items a.variable_names.numbers a.row_names.numbers a.terms
  pub changes : IsExchange with
  pub consistent : IsConsistent (exchanged with value.model)
  pub within : IsWithinLimits (exchanged with value.model)
  pub lists : AreNameChanges names value.model (exchanged with value.model)

pub ready : {a : Inside} {value : Catalog} {with : Exchange} {names : NameChanges}
    → catalog_of a ≡ value → IsCatalogKept a → IsExchange with
    → IsConsistent (exchanged with value.model)
    → IsWithinLimits (exchanged with value.model)
    → AreNameChanges names value.model (exchanged with value.model) → Ready a value with names
ready {a} view kept changes consistent within lists = record {
  view = view;
  keeps = subst (λ (x : Catalog). Keeps x.model a.kept.items a.variable_names.numbers
      a.row_names.numbers a.terms) view kept;
  changes = changes;
  consistent = consistent;
  within = within;
  lists = lists;
}

listing_same : (a b : ℕ → Option (List ℕ)) → ((n : ℕ) → a n ≡ b n) → (listed : List NameChange)
    → standing_names a listed ≡ standing_names b listed
listing_same a b same [] = refl
listing_same a b same (x ∷ xs) =
    λ i. record { number = x.number; name = same x.number i; aside = None } ∷ listing_same
    a b same xs i

stood_as : {naming : ℕ → Option (List ℕ)} {table : NumbersByName} {listed all : List NameChange}
    → HasNames naming table → listed ≡ all
    → standing_names (name_of table) listed ≡ standing_names naming all
stood_as {naming} {table} {listed} {all} has e =
    ap (standing_names (name_of table)) e ∙ listing_same (name_of table) naming has.names all

module _ {a : Inside} {value : Catalog} {with : Exchange} {names : NameChanges}
    (is : Ready a value with names) where
  -- as many are kept as there are variables
  pub long : length a.kept.items ≡ length (variables value.model)
  long = kept_length is.keeps.consistent is.keeps.index

  -- ---- the model

  pub model_after : {after : ModelValue} {groups : List (Change Group)} {rows : List (Change Row)}
      → groups ≡ with.groups.items → after.groups ≡ set_all group_number groups a.groups.items
      → rows ≡ with.rows.items → after.rows ≡ set_all row_number rows a.rows.items
      → after.objective ≡ unwrap_or with.objective a.objective → after.next ≡ with.next
      → after ≡ exchanged with value.model
  model_after {after} e groups f rows objective next =
      let here : after ≡ exchanged with (catalog_of a).model =
      λ i. record {
        groups = (groups ∙ ap (λ (cs : List (Change Group)). set_all group_number cs
            a.groups.items) e) i;
        rows = (rows ∙ ap (λ (cs : List (Change Row)). set_all row_number cs a.rows.items) f) i;
        objective = objective i;
        next = next i;
      } in
      here ∙ ap (λ (x : Catalog). exchanged with x.model) is.view

  pub contents_after : {undo : Undo} {groups : List (Change Group)} {rows : List (Change Row)}
      → groups ≡ with.groups.items → undo.groups ≡ olds group_number groups a.groups.items
      → rows ≡ with.rows.items → undo.rows ≡ olds row_number rows a.rows.items
      → undo.objective ≡ option_map (λ _. a.objective) with.objective → undo.next ≡ a.next
      → undo ≡ standing value.model (contents with)
  contents_after {undo} e groups f rows objective next =
      let here : undo ≡ standing (catalog_of a).model (contents with) =
      λ i. record {
        groups = (groups ∙ ap (λ (cs : List (Change Group)). olds group_number cs
            a.groups.items) e) i;
        rows = (rows ∙ ap (λ (cs : List (Change Row)). olds row_number cs a.rows.items) f) i;
        objective = objective i;
        next = next i;
      } in
      here ∙ ap (λ (x : Catalog). standing x.model (contents with)) is.view

  pub way_back : {after : ModelValue} {undo : Undo} → after ≡ exchanged with value.model
      → undo ≡ standing value.model (contents with) → before after undo ≡ value.model
  way_back e f =
      ap₂ before e f ∙ back_again value.model (contents with) is.changes.groups is.changes.rows
      is.keeps.consistent.groups_rise is.keeps.consistent.rows_rise

  -- ---- names

  pub distinct_variable_names : {listed : List NameChange} → listed ≡ names.variables.items
      → AreDistinct (renamed_by listed (name_of a.variable_names.numbers))
  distinct_variable_names e =
      distinct_given is.lists.variables is.keeps.variable_names e
      (distinct_variables is.consistent)

  pub distinct_row_names : {listed : List NameChange} → listed ≡ names.rows.items
      → AreDistinct (renamed_by listed (name_of a.row_names.numbers))
  distinct_row_names e =
      distinct_given is.lists.rows is.keeps.row_names e (distinct_rows is.consistent)

  -- the names that stood, in the names' place
  pub stood : {after : NameChanges} {variables rows : List NameChange} → after.group ≡ names.group
      → variables ≡ names.variables.items
      → after.variables.items ≡ standing_names (name_of a.variable_names.numbers) variables
      → rows ≡ names.rows.items
      → after.rows.items ≡ standing_names (name_of a.row_names.numbers) rows
      → HasStandingNames value.model names after
  stood group e variables f rows = record {
    group = group;
    variables = variables ∙ stood_as is.keeps.variable_names e;
    rows = rows ∙ stood_as is.keeps.row_names f;
  }

  pub names_way_back : {after : ModelValue} {names_after : NameChanges}
      → after ≡ exchanged with value.model → HasStandingNames value.model names names_after
      → AreNameChanges names_after after value.model
  names_way_back {after} {names_after} e f =
      subst (λ m. AreNameChanges names_after m value.model) (sym e)
      (lists_back names names_after value.model (exchanged with value.model) is.lists f)

  -- ---- terms

  moved : TermsMoved value.model (exchanged with value.model) with.rows.items
      (olds row_number with.rows.items value.model.rows)
  moved =
      terms_moved value.model (exchanged with value.model) with.rows.items
      (olds row_number with.rows.items value.model.rows) is.changes.rows
      is.keeps.consistent.rows_rise refl refl

  back_is : {rows back : List (Change Row)} → rows ≡ with.rows.items
      → back ≡ olds row_number rows a.rows.items
      → back ≡ olds row_number with.rows.items value.model.rows
  back_is e f =
      f ∙ ap₂ (λ (cs : List (Change Row)) (rs : List Row). olds row_number cs rs) e
      (ap (λ (x : Catalog). x.model.rows) is.view)

  pub put_fits : {changes : List (Change Row)} → changes ≡ with.rows.items
      → changed_terms changes ≤ 1048576
  put_fits e = omega (arith, ap changed_terms e, moved.taken, moved.moved, is.within.terms)

  pub taken_fits : {rows back : List (Change Row)} → rows ≡ with.rows.items
      → back ≡ olds row_number rows a.rows.items → changed_terms back ≤ 1048576
  taken_fits e f =
      omega (arith, ap changed_terms (back_is e f), moved.taken, is.keeps.within.terms)

  -- the sums that count the terms
  pub record TermsFit (put taken was now : ℕ) : Type 0 where
    pub put_in : a.terms + put < 2 ^ 64
    pub taken_out : taken ≤ a.terms + put
    pub objective_out : was ≤ a.terms + put - taken
    pub objective_in : a.terms + put - taken - was + now < 2 ^ 64
    pub all : a.terms + put - taken - was + now ≡ total_terms (exchanged with value.model)

  pub terms_fit : {put taken was now : ℕ} {changes rows back : List (Change Row)}
      → changes ≡ with.rows.items → rows ≡ with.rows.items
      → back ≡ olds row_number rows a.rows.items → put ≡ changed_terms changes
      → taken ≡ changed_terms back → was ≡ objective_terms a.objective
      → now ≡ objective_terms (unwrap_or with.objective a.objective) → TermsFit put taken was now
  terms_fit e f g puts takes before after =
      let old_limit = is.keeps.within.terms in
      let new_limit = is.within.terms in
      let counted = is.keeps.terms in
      let puts_all = puts ∙ ap changed_terms e in
      let takes_all = takes ∙ ap changed_terms (back_is f g) in
      let before_all = before ∙ ap (λ (x : Catalog). objective_terms x.model.objective) is.view in
      let after_all = after ∙ ap (λ (x : Catalog). objective_terms
      (unwrap_or with.objective x.model.objective)) is.view in
      let less = moved.taken in
      let same = moved.moved in
      record {
        put_in = omega arith;
        taken_out = omega arith;
        objective_out = omega arith;
        objective_in = omega arith;
        all = omega arith;
      }

  -- ---- what is kept

  -- the listed variables come and go
  abbrev AreListed : List Variable → List NameChange → Type 0
  AreListed kept listed =
      (n : ℕ) → find variable_number n kept ≡ listed_in names.group listed
      (λ n. find variable_number n a.kept.items) n

  all_listed : (kept : List Variable) {listed : List NameChange} → listed ≡ names.variables.items
      → AreListed kept listed → AreListed kept names.variables.items
  all_listed kept e are = subst (AreListed kept) e are

  pub counts : {start kept : List Variable} {listed : List NameChange} → start ≡ kept
      → listed ≡ names.variables.items → AreListed kept listed → CountsBounds a.rows.items start
  counts {start} {kept} e f are =
      subst (λ (x : Catalog). CountsBounds x.model.rows start) (sym is.view)
      (subst (CountsBounds value.model.rows) (sym e) (counts_listed value.model a.kept.items kept
      names.group names.variables.items is.keeps.consistent is.keeps.index
      (all_listed kept f are)))

  pub keeps_after : {after : ModelValue} {kept start kept_now kept_after : List Variable}
      {listed variables rows : List NameChange} {t r : NumbersByName} {terms : ℕ}
      → after ≡ exchanged with value.model → start ≡ kept → listed ≡ names.variables.items
      → AreListed kept listed → Rise variable_number kept_now
      → ((n : ℕ) → find variable_number n kept_now ≡ option_map (recounted after.rows)
      (find variable_number n start)) → kept_after ≡ kept_now → variables ≡ names.variables.items
      → ((n : ℕ) → name_of t n ≡ renamed_by variables (name_of a.variable_names.numbers) n)
      → IsOneToOne t → rows ≡ names.rows.items
      → ((n : ℕ) → name_of r n ≡ renamed_by rows (name_of a.row_names.numbers) n) → IsOneToOne r
      → terms ≡ total_terms (exchanged with value.model) → Keeps after kept_after t r terms
  keeps_after {kept = kept} {kept_now = kept_now} {t = t} {r = r} {terms = terms} model_is start_is
      listed_is are rising recounts kept_is variables_are named one rows_are row_named other
      terms_are =
      let new = exchanged with value.model in
      let keeps : Keeps new kept_now t r terms = record {
        consistent = is.consistent;
        within = is.within;
        index = index_after value.model a.kept.items kept names.group names.variables.items
            is.keeps.consistent is.keeps.index (all_listed kept listed_is are) new kept_now
            is.lists.variables is.lists.in_group is.lists.others rising (λ n. recounts n
            ∙ ap₂ (λ (m : ModelValue) vs. option_map (recounted m.rows)
            (find variable_number n vs)) model_is start_is);
        variable_names = has_names_given is.lists.variables is.keeps.variable_names variables_are
            named one;
        row_names = has_names_given is.lists.rows is.keeps.row_names rows_are row_named other;
        terms = terms_are;
      } in
      subst (λ (p : ModelValue × List Variable). Keeps p.0 p.1 t r terms)
      (λ i. (sym model_is i, sym kept_is i)) keeps

  -- as many variables and names as were to be put in are there, or stood there
  pub room_back : {after : ModelValue} {kept : List Variable} {t r : NumbersByName} {terms count : ℕ}
      {listed standing : List NameChange} → Keeps after kept t r terms
      → listed ≡ names.variables.items
      → standing ≡ standing_names (variable_name value.model) names.variables.items
      → length kept ≡ count
      → count + kept_count a.kept.items listed ≤ length a.kept.items + put_count listed
      → length (variables after) + put_count standing
      ≤ length (variables value.model) + put_count names.variables.items
  room_back keeps e f same counts =
      let both = ap (kept_count a.kept.items) e ∙ kept_count_is value.model a.kept.items
      is.keeps.consistent is.keeps.index names.variables.items in
      omega (
        arith,
        counts,
        same,
        both,
        ap put_count e,
        ap put_count f,
        long,
        kept_length keeps.consistent keeps.index,
      )
