-- What is noted of which rows, and the objective, name which variables is so of the model after, where
-- what the rows that differ named is gone and what they name is noted.
use Rattle.std.specs.Prelude.{◌≡◌, ◌<◌, ◌==◌, ◌&&◌, ◌||◌, Bool, true, false, cond, not, List, [], ◌∷◌, All, Option, Some, None, refl}
use Rattle.std.specs.List.{list_any}
use Rattle.std.specs.Option.{option_copied, option_map, option_map_or}
use Rattle.std.proofs.Common.{arith, sym, ap, ap₂, subst, ◌∙◌, true≢false}
use Rattle.aff_core.specs.Address.{Address, address_eq, address_eq-Decides, root_address, root_number}
use Rattle.aff_core.specs.declared.root.Root.TheVariants as root
use Rattle.fresh_bridging.specs.ModelImage.{objective_items, row_item}
use Rattle.item_core.specs.declared.item.Body.{Body}
use Rattle.item_core.specs.declared.item.Body.TheVariants.{Plain, Affine, PlainVec, AffineVec, PlainObj, AffineObj}
use Rattle.item_core.specs.declared.item.Item.{Item}
use Rattle.numbered_list.specs.Laws.{Rise-head, Rise-tail, find-none_above}
use Rattle.numbered_list.specs.Numbered.{Rise, find}
use Rattle.push_laws.specs.Edits.{contents_name}
use Rattle.std.proofs.lemmas.Bool.Decides.{Decides-eqb, same_from_decides}
use Rattle.touched_items.specs.DifferenceLaws.{HasDifferences, objective_address}
use Rattle.touched_items.specs.Differences.{rows_in}
use Rattle.touched_items.specs.IndexLaws.{other_names, row_names}
use Rattle.touched_items.specs.Search.{is_objective, is_row}
use Rattle.touched_items.specs.declared.differing.Differing.{Differing}
use Rattle.touched_items.specs.Sides.{IsSeparated, differ, same}
use Rattle.user_model.specs.Edited.{row_number}
use Rattle.user_model.specs.Functions.{func_mentions, has_term}
use Rattle.user_model.specs.Model.{ModelValue, objective_mentions}
use Rattle.user_model.specs.declared.function.UserFunc.{UserFunc}
use Rattle.user_model.specs.declared.function.UserFunc.TheVariants as user
use Rattle.user_model.specs.declared.objective.Objective.{Objective}
use Rattle.user_model.specs.declared.objective.Objective.TheVariants as objective
use Rattle.user_model.specs.declared.row.Row.{Row}

-- ---- what an item names, which is what its row or the objective names

abbrev body_names : Address → Body → Bool
body_names var (Plain v s) = address_eq var v
body_names var (Affine f s) = has_term var f
body_names var (PlainVec vs s) = list_any (address_eq var) vs
body_names var (AffineVec fs s) = list_any (has_term var) fs
body_names var (PlainObj sense v) = address_eq var v
body_names var (AffineObj sense f) = has_term var f
body_names var _ = false

abbrev item_names : Address → Item → Bool
item_names var i = body_names var i.body

module _ (var : Address) where
  row_as_item : (r : Row) → func_mentions var r.func ≡ item_names var (row_item r)
  row_as_item r = by r.func
    where
      by : (f : UserFunc)
          → func_mentions var f ≡ item_names var (row_item (record r { func = f }))
      by (user.Plain v) = refl
      by (user.Affine f) = refl
      by (user.PlainVec vs) = refl
      by (user.AffineVec fs) = refl

  objective_as_items : (o : Objective)
      → objective_mentions var o ≡ list_any (item_names var) (objective_items o)
  objective_as_items objective.Feasibility = refl
  objective_as_items (objective.Plain sense v) = sym (or_false (address_eq var v))
    where
      or_false : (b : Bool) → (b || false) ≡ b
      or_false true = refl
      or_false false = refl
  objective_as_items (objective.Affine sense f) = sym (or_false (has_term var f))
    where
      or_false : (b : Bool) → (b || false) ≡ b
      or_false true = refl
      or_false false = refl

  -- ---- of one place

  abbrev row_named : Option Row → Bool
  row_named o = option_map_or (λ r. func_mentions var r.func) o false

  abbrev objective_named : Option Objective → Bool
  objective_named o = option_map_or (objective_mentions var) o false

  as_item : (o : Option Row)
      → row_named o ≡ option_map_or (item_names var) (option_map row_item o) false
  as_item None = refl
  as_item (Some r) = row_as_item r

  as_items : (o : Option Objective)
      → objective_named o
      ≡ option_map_or (list_any (item_names var)) (option_map objective_items o) false
  as_items None = refl
  as_items (Some o) = objective_as_items o

  gone_and_there : (was is : Bool) → ((was && not was) || is) ≡ is
  gone_and_there true is = refl
  gone_and_there false is = refl

  stays_there : (was : Bool) → ((was && not false) || false) ≡ was
  stays_there true = refl
  stays_there false = refl

  -- where it differs what it named goes, and what it names is noted
  row_anew : (was is before after : Option Row) → IsSeparated row_item was is before after
      → ((row_named was && not (row_named before)) || row_named after) ≡ row_named is
  row_anew was is before after (same i j k) =
      ap₂ (λ b a. (row_named was && not (row_named b)) || row_named a) j k
      ∙ stays_there (row_named was)
      ∙ as_item was
      ∙ ap (λ o. option_map_or (item_names var) o false) i
      ∙ sym (as_item is)
  row_anew was is before after (differ i j k) =
      ap₂ (λ b a. (row_named was && not (row_named b)) || row_named a) j k
      ∙ gone_and_there (row_named was) (row_named is)

  objective_anew : (was is before after : Option Objective)
      → IsSeparated objective_items was is before after
      → ((objective_named was && not (objective_named before)) || objective_named after)
      ≡ objective_named is
  objective_anew was is before after (same i j k) =
      ap₂ (λ b a. (objective_named was && not (objective_named b)) || objective_named a) j k
      ∙ stays_there (objective_named was)
      ∙ as_items was
      ∙ ap (λ o. option_map_or (list_any (item_names var)) o false) i
      ∙ sym (as_items is)
  objective_anew was is before after (differ i j k) =
      ap₂ (λ b a. (objective_named was && not (objective_named b)) || objective_named a) j k
      ∙ gone_and_there (objective_named was) (objective_named is)

  -- ---- rows by their numbers

  module _ (at : Address) where
    -- the row's address is this, exactly where its number is this one's
    row_here : is_row at ≡ true → (r : Row)
        → address_eq at (root_address root.Row r.id) ≡ (row_number r == at.number)
    row_here t r =
        let whole : at ≡ root_address root.Row at.number =
        (address_eq-Decides at (root_address root.Row at.number)).0 t in
        same_from_decides (address_eq at (root_address root.Row r.id))
        (row_number r == at.number) (
          λ e. ap (λ (a : Address). a.number)
              (sym ((address_eq-Decides at (root_address root.Row r.id)).0 e)),
          λ n. (address_eq-Decides at (root_address root.Row r.id)).1
              (whole ∙ ap (root_address root.Row) (sym n)),
        )
        (Decides-eqb (row_number r) at.number)

    row_away : is_row at ≡ false → (r : Row)
        → address_eq at (root_address root.Row r.id) ≡ false
    row_away f r = by (address_eq at (root_address root.Row r.id)) refl
      where
        by : (b : Bool) → address_eq at (root_address root.Row r.id) ≡ b → b ≡ false
        by false e = refl
        by true e =
            let is : at ≡ root_address root.Row r.id =
            (address_eq-Decides at (root_address root.Row r.id)).0 e in
            absurd (true≢false
            (sym ((address_eq-Decides at (root_address root.Row at.number)).1
            (is ∙ ap (root_address root.Row) (sym (ap (λ (a : Address). a.number) is)))) ∙ f))

    abbrev named_here : Row → Bool
    named_here row = row_names row var at

    none_named : is_row at ≡ false → (rows : List Row) → list_any named_here rows ≡ false
    none_named f [] = refl
    none_named f (r ∷ rows) =
        ap (λ b. (b && func_mentions var r.func) || list_any named_here rows) (row_away f r)
        ∙ none_named f rows

    by_number : is_row at ≡ true → (rows : List Row) → Rise row_number rows
        → list_any named_here rows ≡ row_named (find row_number at.number rows)
    by_number t [] rise = refl
    by_number t (r ∷ rows) rise =
        ap (λ b. (b && func_mentions var r.func) || list_any named_here rows) (row_here t r)
        ∙ by (row_number r == at.number) refl
        (by_number t rows (Rise-tail row_number r rows rise))
      where
        past : (row_number r == at.number) ≡ true → find row_number at.number rows ≡ None
        past e =
            let number = (Decides-eqb (row_number r) at.number).0 e in
            find-none_above row_number at.number rows
            (subst (λ n. All (λ s. n < row_number s) rows) number
            (Rise-head row_number r rows rise))

        or_false : (b : Bool) → (b || false) ≡ b
        or_false true = refl
        or_false false = refl

        by : (b : Bool) → (row_number r == at.number) ≡ b
            → list_any named_here rows ≡ row_named (find row_number at.number rows)
            → ((b && func_mentions var r.func) || list_any named_here rows)
            ≡ row_named (cond b (Some r) (find row_number at.number rows))
        by false e later = later
        by true e later =
            ap (λ l. func_mentions var r.func || l) (later ∙ ap row_named (past e))
            ∙ or_false (func_mentions var r.func)

    -- a row's address is no objective's
    not_both : is_row at ≡ true → is_objective at ≡ false
    not_both t = by (is_objective at) refl
      where
        by : (b : Bool) → is_objective at ≡ b → b ≡ false
        by false e = refl
        by true e =
            let one : root.Row ≡ root.Objective =
            ap (λ (a : Address). a.root)
            (sym ((address_eq-Decides at (root_address root.Row at.number)).0 t)
            ∙ (address_eq-Decides at objective_address).0 e) in
            let apart : 2 ≡ 3 = ap root_number one in absurd (omega (arith, apart))

  -- ---- all rows and the objective

  module _ (model after : ModelValue) (d : Differing) (h : HasDifferences model after d)
      (rise : Rise row_number model.rows) (rise_after : Rise row_number after.rows)
      (at : Address) where
    -- of rows at a row's address
    rows_anew : is_row at ≡ true
        → ((list_any (named_here at) model.rows && not (list_any (named_here at) (rows_in d.before)))
        || list_any (named_here at) (rows_in d.after))
        ≡ list_any (named_here at) after.rows
    rows_anew t =
        (λ i. (by_number at t model.rows rise i
        && not (by_number at t (rows_in d.before) h.rows.rising_before i))
        || by_number at t (rows_in d.after) h.rows.rising_after i)
        ∙ row_anew (find row_number at.number model.rows) (find row_number at.number after.rows)
        (find row_number at.number (rows_in d.before)) (find row_number at.number (rows_in d.after))
        (h.rows.each at.number)
        ∙ sym (by_number at t after.rows rise_after)

    -- of the objective and of other addresses
    at_other : (o was before behind is : Bool)
        → ((was && not before) || behind) ≡ is
        → (((false || (o && was)) && not (false || (o && before))) || (false || (o && behind)))
        ≡ (false || (o && is))
    at_other true was before behind is e = e
    at_other false was before behind is e = refl

    at_row : (was before behind is x y z w : Bool)
        → ((was && not before) || behind) ≡ is
        → (((was || (false && x)) && not (before || (false && y))) || (behind || (false && z)))
        ≡ (is || (false && w))
    at_row was before behind is x y z w e =
        (λ i. ((or_false was i && not (or_false before i)) || or_false behind i))
        ∙ e ∙ sym (or_false is)
      where
        or_false : (b : Bool) → (b || false) ≡ b
        or_false true = refl
        or_false false = refl

    pub names_anew : ((other_names model var at && not (contents_name d.before var at))
        || contents_name d.after var at)
        ≡ other_names after var at
    names_anew = by (is_row at) refl
      where
        by : (b : Bool) → is_row at ≡ b
            → ((other_names model var at && not (contents_name d.before var at))
            || contents_name d.after var at)
            ≡ other_names after var at
        by true t =
            ap (λ o. ((list_any (named_here at) model.rows
            || (o && objective_mentions var model.objective))
            && not (list_any (named_here at) (rows_in d.before)
            || (o && objective_named (option_copied d.before.objective))))
            || (list_any (named_here at) (rows_in d.after)
            || (o && objective_named (option_copied d.after.objective)))) (not_both at t)
            ∙ at_row (list_any (named_here at) model.rows)
            (list_any (named_here at) (rows_in d.before))
            (list_any (named_here at) (rows_in d.after))
            (list_any (named_here at) after.rows)
            (objective_mentions var model.objective)
            (objective_named (option_copied d.before.objective))
            (objective_named (option_copied d.after.objective))
            (objective_mentions var after.objective) (rows_anew t)
            ∙ sym (ap (λ o. list_any (named_here at) after.rows
            || (o && objective_mentions var after.objective)) (not_both at t))
        by false f =
            (λ i. ((none_named at f model.rows i
            || (is_objective at && objective_mentions var model.objective))
            && not (none_named at f (rows_in d.before) i
            || (is_objective at && objective_named (option_copied d.before.objective))))
            || (none_named at f (rows_in d.after) i
            || (is_objective at && objective_named (option_copied d.after.objective))))
            ∙ at_other (is_objective at) (objective_mentions var model.objective)
            (objective_named (option_copied d.before.objective))
            (objective_named (option_copied d.after.objective))
            (objective_mentions var after.objective)
            (objective_anew (Some model.objective) (Some after.objective)
            (option_copied d.before.objective) (option_copied d.after.objective) h.objective)
            ∙ sym (ap (λ b. b || (is_objective at && objective_mentions var after.objective))
            (none_named at f after.rows))
