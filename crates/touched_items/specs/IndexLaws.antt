-- Mentions as a map notes them are the index that the search asks for.
--     other_names      the row at an address, or the objective, names a variable
use Rattle.std.specs.Prelude.{◌≡◌, ◌⊎◌, ◌↔◌, ◌&&◌, ◌||◌, ◌++◌, zero, suc, Bool, true, false, cond, List, [], ◌∷◌, Contains, Option, Some, None, find as first_passing, flat_map, is_some, map, refl}
use Rattle.std.specs.FinMap as finite
use Rattle.std.specs.List.{list_any}
use Rattle.std.specs.Option.{option_map, option_or}
use Rattle.std.specs.Set.{is_member}
use Rattle.std.proofs.Common.{arith, inl, inr, sym, ap, ap₂, subst, ◌∙◌, append-nil, true≢false}
use Rattle.std.proofs.lemmas.List.Folds.{list_any-append}
use Rattle.std.proofs.lemmas.Map.Made.{is_member-Decides}
use Rattle.std.proofs.lemmas.Option.{none-some, same_Some}
use Rattle.map_laws.specs.EachLaws.{contains_here, contains_later}
use Rattle.address_map.specs.Noted.{Noted, noted_in, noted_items}
use Rattle.aff_core.specs.Address.{Address, address_cmp, address_eq, address_eq-Decides, root_address}
use Rattle.aff_core.specs.Function.{Function, variable}
use Rattle.aff_core.specs.FunctionLaws.{terms-variable}
use Rattle.aff_core.specs.declared.root.Root.TheVariants as root
use Rattle.bridge_face.specs.Law.{Miss}
use Rattle.fresh_bridging.specs.ModelImage.{group_item, model_image, objective_item, objective_items, row_body, row_item}
use Rattle.fresh_bridging.specs.Touched.{item_at}
use Rattle.item_core.specs.Item.{functions_of, is_group}
use Rattle.item_core.specs.declared.item.Body.TheVariants.{PlainObj, AffineObj}
use Rattle.item_core.specs.declared.item.Item.{Item}
use Rattle.local_laws.specs.Held.{is_there}
use Rattle.local_laws.specs.ListedLaws.{by_parts, found_by_number, found_nowhere, three}
use Rattle.local_laws.specs.MentionLaws.{NotesMentions, OtherMentions, names_in, names_listed}
use Rattle.local_laws.specs.StaysLaws.{found_is, groups_are}
use Rattle.numbered_list.specs.Laws.{Contains-found, number_of_found}
use Rattle.numbered_list.specs.Numbered.{find}
use Rattle.set_core.specs.declared.set.Set.{Set}
use Rattle.user_model.specs.Edited.{row_number}
use Rattle.user_model.specs.Functions.{func_mentions, has_term}
use Rattle.user_model.specs.Model.{ModelValue, objective_mentions}
use Rattle.user_model.specs.Valid.{IsValid}
use Rattle.user_model.specs.declared.function.UserFunc.{UserFunc}
use Rattle.user_model.specs.declared.function.UserFunc.TheVariants.{Plain, Affine, PlainVec, AffineVec}
use Rattle.user_model.specs.declared.objective.Objective.{Objective}
use Rattle.user_model.specs.declared.objective.Objective.TheVariants as objective
use Rattle.user_model.specs.declared.row.Row.{Row}
use Rattle.touched_items.specs.DifferenceLaws.{at_objective, first_item, objective_address, objective_stands, row_there}
use Rattle.touched_items.specs.SideLaws.{found_itself}

-- the row stands at the address and names the variable
abbrev pub row_names : Row → Address → Address → Bool
row_names row var at = address_eq at (root_address root.Row row.id) && func_mentions var row.func

abbrev pub other_names : ModelValue → Address → Address → Bool
other_names model var at =
    list_any (λ row. row_names row var at) model.rows
    || (address_eq at (root_address root.Objective 0) && objective_mentions var model.objective)

-- ---- what a function names

or_false : (b : Bool) → (b || false) ≡ b
or_false true = refl
or_false false = refl

variable_names : (u : Address) → names_in (variable u) ≡ u ∷ []
variable_names u = ap (map (λ t. t.0)) (terms-variable address_cmp u)

plain_names : (us : List Address) → flat_map names_in (map variable us) ≡ us
plain_names [] = refl
plain_names (u ∷ us) = λ i. variable_names u i ++ plain_names us i

has_names : (var : Address) (f : Function) → has_term var f ≡ is_member address_eq (names_in f) var
has_names var f = finite.contains_key-keys f.terms var

each_names : (var : Address) (fs : List Function)
    → list_any (has_term var) fs ≡ is_member address_eq (flat_map names_in fs) var
each_names var [] = refl
each_names var (f ∷ fs) =
    ap₂ (λ a b. a || b) (has_names var f) (each_names var fs)
    ∙ sym (list_any-append (address_eq var) (names_in f) (flat_map names_in fs))

func_names : (var : Address) (func : UserFunc) (set : Set)
    → func_mentions var func
    ≡ is_member address_eq (flat_map names_in (functions_of (row_body func set))) var
func_names var (Plain u) set =
    sym (ap (λ l. is_member address_eq (l ++ []) var) (variable_names u)
    ∙ or_false (address_eq var u))
func_names var (Affine f) set =
    has_names var f ∙ ap (λ l. is_member address_eq l var) (sym (append-nil (names_in f)))
func_names var (PlainVec us) set = ap (λ l. is_member address_eq l var) (sym (plain_names us))
func_names var (AffineVec fs) set = each_names var fs

-- a test of the names of functions decides whether they miss the variable
named_where : (var : Address) (b : Bool) (fs : List Function)
    → b ≡ is_member address_eq (flat_map names_in fs) var → (b ≡ true) ↔ (¬ (Miss fs var))
named_where var b fs e = (
  λ t. (names_listed fs var).0 ((is_member-Decides address_eq-Decides (flat_map names_in fs) var).0
      (sym e ∙ t)),
  λ n. e
      ∙ (is_member-Decides address_eq-Decides (flat_map names_in fs) var).1 ((names_listed fs var).1 n),
)

row_no_group : (func : UserFunc) (set : Set) → is_group (row_body func set) ≡ false
row_no_group (Plain u) set = refl
row_no_group (Affine f) set = refl
row_no_group (PlainVec us) set = refl
row_no_group (AffineVec fs) set = refl

-- ---- tests

both : (a b : Bool) → (a && b) ≡ true → (a ≡ true) × (b ≡ true)
both true b e = (refl, e)
both false b e = absurd (true≢false (sym e))

either : (a b : Bool) → (a || b) ≡ true → (a ≡ true) ⊎ (b ≡ true)
either true b e = inl refl
either false b e = inr e

or_right : (a b : Bool) → b ≡ true → (a || b) ≡ true
or_right true b e = refl
or_right false b e = e

or_left : (a b : Bool) → a ≡ true → (a || b) ≡ true
or_left a b e = ap (λ c. c || b) e

any_some : {A : Type 0} (p : A → Bool) (xs : List A) → list_any p xs ≡ true
    → (x : A) × Contains xs x × (p x ≡ true)
any_some {A} p [] e = absurd (true≢false (sym e))
any_some {A} p (x ∷ xs) e = by (p x) refl e (any_some p xs)
  where
    by : (b : Bool) → p x ≡ b → (b || list_any p xs) ≡ true
        → (list_any p xs ≡ true → (y : A) × Contains xs y × (p y ≡ true))
        → (y : A) × Contains (x ∷ xs) y × (p y ≡ true)
    by true is e later = (x, contains_here x xs, is)
    by false is e later =
        let r = later e in
        (r.0, contains_later x r.0 xs r.1, r.2)

any_there : {A : Type 0} (p : A → Bool) (xs : List A) (x : A) → Contains xs x → p x ≡ true
    → list_any p xs ≡ true
any_there p [] x c t = absurd (omega (arith, c.1))
any_there p (y ∷ ys) x (zero, inside, is) t = or_left (p y) (list_any p ys) (ap p is ∙ t)
any_there p (y ∷ ys) x (suc i, inside, is) t =
    or_right (p y) (list_any p ys) (any_there p ys x (i, omega (arith, inside), is) t)

-- ---- the rows and the objective that name a variable

module _ (model : ModelValue) (valid : IsValid model) (var : Address) where
  objective_named : (o : Objective) → objective_mentions var o ≡ true
      → (item : Item) × (first_item o ≡ Some item) × (is_group item.body ≡ false)
      × (¬ (Miss (functions_of item.body) var))
  objective_named objective.Feasibility e = absurd (true≢false (sym e))
  objective_named (objective.Plain sense u) e = (
    objective_item (PlainObj sense u),
    refl,
    refl,
    (named_where var (address_eq var u) (variable u ∷ [])
        (sym (ap (λ l. is_member address_eq (l ++ []) var) (variable_names u)
        ∙ or_false (address_eq var u)))).0 e,
  )
  objective_named (objective.Affine sense f) e = (
    objective_item (AffineObj sense f),
    refl,
    refl,
    (named_where var (has_term var f) (f ∷ [])
        (has_names var f ∙ ap (λ l. is_member address_eq l var) (sym (append-nil (names_in f))))).0
        e,
  )

  objective_names : (o : Objective) (item : Item) → first_item o ≡ Some item
      → ¬ (Miss (functions_of item.body) var) → objective_mentions var o ≡ true
  objective_names objective.Feasibility item is n = absurd (none-some item is)
  objective_names (objective.Plain sense u) item is n =
      (named_where var (address_eq var u) (variable u ∷ [])
      (sym (ap (λ l. is_member address_eq (l ++ []) var) (variable_names u)
      ∙ or_false (address_eq var u)))).1
      (subst (λ (i : Item). ¬ (Miss (functions_of i.body) var))
      (sym (same_Some (objective_item (PlainObj sense u)) item is)) n)
  objective_names (objective.Affine sense f) item is n =
      (named_where var (has_term var f) (f ∷ [])
      (has_names var f ∙ ap (λ l. is_member address_eq l var) (sym (append-nil (names_in f))))).1
      (subst (λ (i : Item). ¬ (Miss (functions_of i.body) var))
      (sym (same_Some (objective_item (AffineObj sense f)) item is)) n)

  row_named : (row : Row) (at : Address) → Contains model.rows row → row_names row var at ≡ true
      → OtherMentions model at var
  row_named row at c e =
      let parts = both (address_eq at (root_address root.Row row.id)) (func_mentions var row.func) e in
      let there : at ≡ root_address root.Row row.id =
      (address_eq-Decides at (root_address root.Row row.id)).0 parts.0 in (
        row_item row,
        ap (item_at model) there
            ∙ row_there model row.id
            ∙ ap (option_map row_item)
            (found_itself row_number model.rows row valid.consistent.rows_rise c),
        row_no_group row.func row.set,
        (named_where var (func_mentions var row.func) (functions_of (row_body row.func row.set))
            (func_names var row.func row.set)).0 parts.1,
      )

  names_mentioned : (at : Address) → other_names model var at ≡ true → OtherMentions model at var
  names_mentioned at e =
      by (either (list_any (λ row. row_names row var at) model.rows)
      (address_eq at objective_address && objective_mentions var model.objective) e)
    where
      by : (list_any (λ row. row_names row var at) model.rows ≡ true)
          ⊎ ((address_eq at objective_address && objective_mentions var model.objective) ≡ true)
          → OtherMentions model at var
      by (inl r) =
          let some = any_some (λ row. row_names row var at) model.rows r in
          row_named some.0 at some.1 some.2
      by (inr o) =
          let parts = both (address_eq at objective_address) (objective_mentions var model.objective) o in
          let named = objective_named model.objective parts.1 in (
            named.0,
            ap (item_at model) ((address_eq-Decides at objective_address).0 parts.0)
                ∙ objective_stands model
                ∙ named.1,
            named.2,
            named.3,
          )

  mentioned_named : (at : Address) → OtherMentions model at var → other_names model var at ≡ true
  mentioned_named at (item, is, other, names) =
      groups (first_passing (is_there at) (map group_item model.groups)) refl
      (sym (by_parts model at) ∙ is)
    where
      rows_at : Option Item
      rows_at = first_passing (is_there at) (map row_item model.rows)

      objective_at : Option Item
      objective_at = first_passing (is_there at) (objective_items model.objective)

      in_rows : rows_at ≡ Some item → list_any (λ row. row_names row var at) model.rows ≡ true
      in_rows f = step (address_eq (root_address root.Row at.number) at) refl
        where
          of_row : (o : Option Row) → find row_number at.number model.rows ≡ o
              → option_map row_item o ≡ Some item → at ≡ root_address root.Row at.number
              → list_any (λ row. row_names row var at) model.rows ≡ true
          of_row None g e whole = absurd (none-some item e)
          of_row (Some row) g e whole =
              any_there (λ row. row_names row var at) model.rows row
              (Contains-found row_number at.number row model.rows g)
              (ap₂ (λ a b. a && b)
              ((address_eq-Decides at (root_address root.Row row.id)).1
              (whole ∙ ap (root_address root.Row)
              (sym (number_of_found row_number at.number row model.rows g))))
              ((named_where var (func_mentions var row.func)
              (functions_of (row_body row.func row.set)) (func_names var row.func row.set)).1
              (subst (λ (i : Item). ¬ (Miss (functions_of i.body) var))
              (sym (same_Some (row_item row) item e)) names)))

          step : (b : Bool) → address_eq (root_address root.Row at.number) at ≡ b
              → list_any (λ row. row_names row var at) model.rows ≡ true
          step false e =
              absurd (none-some item
              (sym (found_nowhere root.Row row_item row_number (λ r. refl) at e model.rows) ∙ f))
          step true e =
              of_row (find row_number at.number model.rows) refl
              (sym (found_by_number root.Row row_item row_number (λ r. refl) at e model.rows) ∙ f)
              (sym ((address_eq-Decides (root_address root.Row at.number) at).0 e))

      in_objective : objective_at ≡ Some item
          → (address_eq at objective_address && objective_mentions var model.objective) ≡ true
      in_objective f = step (address_eq objective_address at) refl
        where
          step : (b : Bool) → address_eq objective_address at ≡ b
              → (address_eq at objective_address && objective_mentions var model.objective) ≡ true
          step false e =
              absurd (none-some item (sym (at_objective at model.objective
              ∙ ap (λ b. cond b (first_item model.objective) None) e) ∙ f))
          step true e =
              ap₂ (λ a b. a && b)
              ((address_eq-Decides at objective_address).1
              (sym ((address_eq-Decides objective_address at).0 e)))
              (objective_names model.objective item
              (sym (at_objective at model.objective
              ∙ ap (λ b. cond b (first_item model.objective) None) e) ∙ f) names)

      others : (o : Option Item) → rows_at ≡ o → option_or o objective_at ≡ Some item
          → other_names model var at ≡ true
      others (Some r) f e =
          or_left (list_any (λ row. row_names row var at) model.rows)
          (address_eq at objective_address && objective_mentions var model.objective)
          (in_rows (f ∙ e))
      others None f e =
          or_right (list_any (λ row. row_names row var at) model.rows)
          (address_eq at objective_address && objective_mentions var model.objective)
          (in_objective e)

      groups : (o : Option Item) → first_passing (is_there at) (map group_item model.groups) ≡ o
          → three (first_passing (is_there at) (map group_item model.groups)) rows_at objective_at
          ≡ Some item
          → other_names model var at ≡ true
      groups None f e =
          others rows_at refl (ap (λ o. three o rows_at objective_at) (sym f) ∙ e)
      groups (Some g) f e =
          absurd (true≢false (sym (found_is (λ i. is_group i.body ≡ true) (is_there at)
          (model_image model).groups item (groups_are model)
          (f ∙ sym (ap (λ o. three o rows_at objective_at) f) ∙ e)) ∙ other))

-- so notes that say which rows, and whether the objective, name which variables are the index
pub notes_are_index : (model : ModelValue) → IsValid model → (noted : Noted)
    → ((var at : Address) → is_some (finite.get (noted_in noted var) at) ≡ other_names model var at)
    → NotesMentions model (noted_items noted)
notes_are_index model valid noted h var at = (
  λ c. names_mentioned model valid var at
      (sym (h var at)
      ∙ finite.contains_key-keys (noted_in noted var) at
      ∙ (is_member-Decides address_eq-Decides (noted_items noted var) at).1 c),
  λ m. (is_member-Decides address_eq-Decides (noted_items noted var) at).0
      (sym (finite.contains_key-keys (noted_in noted var) at)
      ∙ h var at
      ∙ mentioned_named model valid var at m),
)
