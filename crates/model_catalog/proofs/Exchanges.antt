-- What an exchange of contents makes of what is kept of a model.
use Rattle.std.proofs.Common.{◌≡◌, ℕ, ◌+◌, ◌≤◌, Bool, true, false, cond, List, [], ◌∷◌, Option, Some, None, refl, sym, ap, subst, ◌∙◌, arith}
use Rattle.std.specs.Prelude.{IsSome, IfSome, is_some, unwrap_or, sum_by}
use Rattle.std.specs.Option.{option_map, option_map_or}
use Rattle.std.proofs.lemmas.List.Sums.{sum_by-cons}
use Rattle.name_index.specs.NameTable.{NumbersByName, IsOneToOne}
use Rattle.numbered_list.specs.declared.change.Change.{Change}
use Rattle.numbered_list.specs.Numbered.{Rise, find, set_at}
use Rattle.numbered_list.specs.Changes.{AreChanges, changed_number, old, olds, set_all}
use Rattle.numbered_list.specs.Laws.{Rise-head, number_of_found}
use Rattle.numbered_list.specs.SetLaws.{Rise-set_at}
use Rattle.numbered_list.specs.ChangeLaws.{AreChanges-rest, olds-set_at, set_all_back}
use Rattle.user_model.specs.declared.group.GroupVar.{GroupVar}
use Rattle.user_model.specs.declared.row.Row.{Row}
use Rattle.user_model.specs.declared.objective.Objective.{Objective}
use Rattle.user_model.specs.declared.undo.Undo.{Undo}
use Rattle.user_model.specs.Functions.{all_terms}
use Rattle.user_model.specs.Edited.{group_number, row_number}
use Rattle.user_model.specs.Consistent as consistent
use Rattle.user_model.specs.Consistent.{IsConsistent}
use Rattle.user_model.specs.Model.{ModelValue, variables}
use Rattle.user_model.specs.Undone.{before}
use Rattle.model_catalog.specs.declared.names.NameChange.{NameChange}
use Rattle.model_catalog.specs.declared.names.NameChanges.{NameChanges}
use Rattle.model_catalog.specs.declared.variable.Variable.{Variable}
use Rattle.model_catalog.specs.Names.{AreDistinct, listed_number, standing_name, standing_names, name_of, put_count, renamed_by}
use Rattle.model_catalog.specs.Index.{CountsBounds, IsIndexOf, given_variable, group_number_of, kept_as, kept_count, kept_of, listed_in, lower_count, recounted, unbounded_in, upper_count, variable_number, weight}
use Rattle.model_catalog.specs.Terms.{changed_terms}
use Rattle.model_catalog.specs.Named.{IsInGroup, AreNameChanges, ChangesNames, HasStandingNames, row_name, variable_name}
use Rattle.model_catalog.specs.Kept.{HasNames, Keeps}
use Rattle.model_catalog.specs.Exchange.{standing}
use Rattle.map_laws.specs.OptionLaws.{is_some-option_map, none_of, some_is}
use Rattle.model_catalog.proofs.Weights.{sum_set_at, sum_set_all}
use Rattle.model_catalog.proofs.Found.{Rise-map, distinct_names, find-map}
use Rattle.model_catalog.proofs.Counts.{same_variable}
use Rattle.model_catalog.proofs.Models.{kept_number, named_in_group, no_lower_count, no_upper_count}

-- ---- names

abbrev Naming : Type 0
Naming = ℕ → Option (List ℕ)

-- the names that a table is given by a list that is that of all changes
module _ {all listed : List NameChange} {old new : Naming} {table : NumbersByName}
    (lists : ChangesNames all old new) (has : HasNames old table) (same : listed ≡ all) where
  names_given : (n : ℕ) → renamed_by listed (name_of table) n ≡ new n
  names_given n =
      ap (λ ls. renamed_by ls (name_of table) n) same
      ∙ (ap (option_map_or (λ l. l.name) (find listed_number n all)) (has.names n)
      ∙ sym (lists.named n))

  pub distinct_given : AreDistinct new → AreDistinct (renamed_by listed (name_of table))
  distinct_given distinct n m name here there =
      distinct n m name (sym (names_given n) ∙ here) (sym (names_given m) ∙ there)

  pub has_names_given : {after : NumbersByName}
      → ((n : ℕ) → name_of after n ≡ renamed_by listed (name_of table) n) → IsOneToOne after
      → HasNames new after
  has_names_given is one = record { one_to_one = one; names = λ n. is n ∙ names_given n }

pub distinct_variables : {model : ModelValue} → IsConsistent model
    → AreDistinct (variable_name model)
distinct_variables {model} ok =
    distinct_names consistent.variable_number (λ (v : GroupVar). v.name) (variables model)
    ok.variable_names

pub distinct_rows : {model : ModelValue} → IsConsistent model → AreDistinct (row_name model)
distinct_rows {model} ok =
    distinct_names row_number (λ (r : Row). r.name) model.rows ok.row_names

-- ---- the way back of names

-- the old names listed lead back
pub names_back : (listed : List NameChange) (old new : Naming) → ChangesNames listed old new
    → ChangesNames (standing_names old listed) new old
names_back listed old new h = record {
  rising = Rise-map (standing_name old) listed_number listed h.rising;
  named = λ n. by_place n (find listed_number n listed) refl (h.named n)
      ∙ sym (ap (λ o. option_map_or (λ l. l.name) o (new n))
      (find-map (standing_name old) listed_number n listed));
}
  where
    by_place : (n : ℕ) (o : Option NameChange) → find listed_number n listed ≡ o
        → new n ≡ option_map_or (λ l. l.name) o (old n)
        → old n ≡ option_map_or (λ l. l.name) (option_map (standing_name old) o) (new n)
    by_place n None e is = sym is
    by_place n (Some l) e is = ap old (sym (number_of_found listed_number n l listed e))

pub lists_back : (names standing : NameChanges) (model after : ModelValue)
    → AreNameChanges names model after → HasStandingNames model names standing
    → AreNameChanges standing after model
lists_back names standing model after h is = record {
  variables = subst (λ xs. ChangesNames xs (variable_name after) (variable_name model))
      (sym is.variables) (names_back names.variables.items (variable_name model)
      (variable_name after) h.variables);
  rows = subst (λ xs. ChangesNames xs (row_name after) (row_name model)) (sym is.rows)
      (names_back names.rows.items (row_name model) (row_name after) h.rows);
  in_group = λ n some. let both = h.in_group n (sym (listed n) ∙ some) in (
    subst (λ g. IsInGroup g after n) (sym is.group) both.1,
    subst (λ g. IsInGroup g model n)
        (sym is.group) both.0,
  );
  others = λ n none. sym (h.others n (none_of (find listed_number n names.variables.items)
      (sym (listed n) ∙ ap is_some none)));
}
  where
    listed : (n : ℕ) → is_some (find listed_number n standing.variables.items)
        ≡ is_some (find listed_number n names.variables.items)
    listed n =
        ap (λ xs. is_some (find listed_number n xs)) is.variables
        ∙ (ap is_some (find-map (standing_name (variable_name model)) listed_number n
        names.variables.items) ∙ is_some-option_map _ (find listed_number n names.variables.items))

-- ---- the variables that are kept

-- a listed variable, from its old group to its new one
index_at : (rows others : List Row) (n group : ℕ) (l : NameChange) (was now : Option ℕ)
    → l.number ≡ n → is_some l.name ≡ is_some now → IfSome was (λ id. id ≡ group)
    → IfSome now (λ id. id ≡ group) → option_map (recounted rows)
    (given_variable group l (option_map (kept_as others n) was)) ≡ option_map (kept_as rows n) now
index_at rows others n group l was now number named before after =
    by_name (is_some l.name) was now named before after
  where
    by_name : (b : Bool) (o p : Option ℕ) → b ≡ is_some p → IfSome o (λ id. id ≡ group)
        → IfSome p (λ id. id ≡ group) → option_map (recounted rows) (cond b
        (Some (unwrap_or (option_map (kept_as others n) o) (unbounded_in group l.number))) None)
        ≡ option_map (kept_as rows n) p
    by_name false o None e before after = refl
    by_name false o (Some id) e before after = absurd (let both : false ≡ true = e in cc)
    by_name true o None e before after = absurd (let both : true ≡ false = e in cc)
    by_name true None (Some id) e before after = λ i. Some (kept_as rows (number i) (sym after i))
    by_name true (Some old) (Some id) e before after =
        λ i. Some (kept_as rows n ((before ∙ sym after) i))

recounted_other : (rows others : List Row) (n : ℕ) (o : Option ℕ)
    → option_map (recounted rows) (option_map (kept_as others n) o) ≡ option_map (kept_as rows n) o
recounted_other rows others n None = refl
recounted_other rows others n (Some id) = refl

module _ (model : ModelValue) (kept listed_kept : List Variable) (group : ℕ)
    (listed : List NameChange) (ok : IsConsistent model) (index : IsIndexOf model kept)
    (entries : (n : ℕ) → find variable_number n listed_kept ≡ listed_in group listed
    (λ n. find variable_number n kept) n) where
  -- after the listed variables the counts are still those of the old rows
  pub counts_listed : CountsBounds model.rows listed_kept
  counts_listed n =
      subst (λ o. o ≡ option_map (recounted model.rows) o) (sym (entries n))
      (by_place (find listed_number n listed) refl)
    where
      kept_counts : find variable_number n kept ≡ option_map (recounted model.rows)
          (find variable_number n kept)
      kept_counts =
          subst (λ o. o ≡ option_map (recounted model.rows) o) (sym (index.entries n))
          (sym (recounted_other model.rows model.rows n (group_number_of model n)))

      by_name : (l : NameChange) (b : Bool) (o : Option Variable) → l.number ≡ n
          → find variable_number n kept ≡ o → o ≡ option_map (recounted model.rows) o
          → cond b (Some (unwrap_or o (unbounded_in group l.number))) None
          ≡ option_map (recounted model.rows)
          (cond b (Some (unwrap_or o (unbounded_in group l.number))) None)
      by_name l false o number e is = refl
      by_name l true None number e is =
          let new : unbounded_in group l.number
          ≡ recounted model.rows (unbounded_in group l.number) =
          same_variable refl refl
          (no_lower_count ok index n e ∙ ap (λ k. lower_count k model.rows) (sym number))
          (no_upper_count ok index n e ∙ ap (λ k. upper_count k model.rows)
          (sym number)) in
          ap Some new
      by_name l true (Some v) number e is = is

      by_place : (o : Option NameChange) → find listed_number n listed ≡ o
          → option_map_or (λ l. given_variable group l (find variable_number n kept)) o
          (find variable_number n kept) ≡ option_map (recounted model.rows)
          (option_map_or (λ l. given_variable group l (find variable_number n kept)) o
          (find variable_number n kept))
      by_place None e = kept_counts
      by_place (Some l) e =
          by_name l (is_some l.name) (find variable_number n kept)
          (number_of_found listed_number n l listed e) refl kept_counts

  module _ (after : ModelValue) (kept_after : List Variable)
      (names : ChangesNames listed (variable_name model) (variable_name after))
      (in_group : (n : ℕ) → IsSome (find listed_number n listed) → IsInGroup group model n
      × IsInGroup group after n) (others : (n : ℕ) → find listed_number n listed ≡ None
      → group_number_of after n ≡ group_number_of model n)
      (rising : Rise variable_number kept_after)
      (recounts : (n : ℕ) → find variable_number n kept_after ≡ option_map (recounted after.rows)
      (find variable_number n listed_kept)) where
    -- and then the new rows are counted
    pub index_after : IsIndexOf after kept_after
    index_after =
        record {
          rising = rising;
          entries = λ n. recounts n
              ∙ (ap (option_map (recounted after.rows)) (entries n)
              ∙ by_place n (find listed_number n listed) refl);
        }
      where
        by_place : (n : ℕ) (o : Option NameChange) → find listed_number n listed ≡ o
            → option_map (recounted after.rows)
            (option_map_or (λ l. given_variable group l (find variable_number n kept)) o
            (find variable_number n kept)) ≡ kept_of after n
        by_place n None e =
            ap (option_map (recounted after.rows)) (index.entries n)
            ∙ (recounted_other after.rows model.rows n (group_number_of model n)
            ∙ sym (ap (option_map (kept_as after.rows n)) (others n e)))
        by_place n (Some l) e =
            let number = number_of_found listed_number n l listed e in
            let both = in_group n (some_is (find listed_number n listed) l e) in
            let named : is_some l.name ≡ is_some (group_number_of after n) =
            sym (ap is_some (names.named n ∙ ap (λ o. option_map_or (λ l. l.name) o
            (variable_name model n)) e)) ∙ named_in_group after n in
            ap (λ o. option_map (recounted after.rows) (given_variable group l o))
            (index.entries n)
            ∙ index_at after.rows model.rows n group l (group_number_of model n)
            (group_number_of after n) number named both.0 both.1

-- as many of the listed are kept as have a name
pub kept_count_is : (model : ModelValue) (kept : List Variable) → IsConsistent model
    → IsIndexOf model kept → (listed : List NameChange)
    → kept_count kept listed ≡ put_count (standing_names (variable_name model) listed)
kept_count_is model kept ok index [] = refl
kept_count_is model kept ok index (l ∷ ls) =
    sum_by-cons (λ (x : NameChange). cond (is_some (find variable_number x.number kept)) 1 0) l ls
    ∙ (ap (λ b. cond b 1 0 + kept_count kept ls) (kept_number ok index l.number
    ∙ sym (named_in_group model l.number))
    ∙ (ap (λ k. cond (is_some (variable_name model l.number)) 1 0 + k)
    (kept_count_is model kept ok index ls)
    ∙ sym (sum_by-cons (λ (x : NameChange). cond (is_some x.name) 1 0)
    (standing_name (variable_name model) l) (standing_names (variable_name model) ls))))

-- ---- terms

module _ {X : Type 0} (number_of : X → ℕ) (w : X → ℕ) where
  -- what is taken out weighs no more than all
  pub olds_weigh_less : (cs : List (Change X)) (xs : List X) → AreChanges number_of cs
      → Rise number_of xs → sum_by (λ c. weight w c.content) (olds number_of cs xs) ≤ sum_by w xs
  olds_weigh_less [] xs h rise = omega arith
  olds_weigh_less (c ∷ cs) xs h rise =
      let later = Rise-head changed_number c cs h.rising in
      let ys = set_at number_of c.number None xs in
      let rest = olds_weigh_less cs ys (AreChanges-rest number_of c cs h)
      (Rise-set_at number_of c.number None xs tt rise) in
      let same = ap (sum_by (λ (d : Change X). weight w d.content))
      (olds-set_at number_of c.number None cs xs tt later) in
      omega (
        arith,
        rest,
        same,
        sum_set_at number_of w c.number None xs rise,
        sum_by-cons (λ (d : Change X). weight w d.content) (old number_of xs c)
            (olds number_of cs xs),
      )

pub record TermsMoved (model after : ModelValue) (changes back : List (Change Row)) : Type 0 where
  pub taken : changed_terms back ≤ sum_by (λ r. all_terms r.func) model.rows
  pub moved : sum_by (λ r. all_terms r.func) after.rows + changed_terms back
      ≡ sum_by (λ r. all_terms r.func) model.rows + changed_terms changes

pub terms_moved : (model after : ModelValue) (changes back : List (Change Row))
    → AreChanges row_number changes → Rise row_number model.rows
    → after.rows ≡ set_all row_number changes model.rows → back ≡ olds row_number changes model.rows
    → TermsMoved model after changes back
terms_moved model after changes back are rise is was = record {
  taken = subst (λ cs. changed_terms cs ≤ sum_by (λ r. all_terms r.func) model.rows) (sym was)
      (olds_weigh_less row_number (λ r. all_terms r.func) changes model.rows are rise);
  moved = let all = sum_set_all row_number (λ r. all_terms r.func) changes model.rows are rise in
      omega (arith, all, ap (sum_by (λ r. all_terms r.func)) is, ap changed_terms was);
}

-- ---- the way back

pub back_again : (model : ModelValue) (undo : Undo) → AreChanges group_number undo.groups
    → AreChanges row_number undo.rows → Rise group_number model.groups → Rise row_number model.rows
    → before (before model undo) (standing model undo) ≡ model
back_again model undo groups rows group_rise row_rise = λ i. record {
  groups = set_all_back group_number undo.groups model.groups groups group_rise i;
  rows = set_all_back row_number undo.rows model.rows rows row_rise i;
  objective = objective_back undo.objective i;
  next = model.next;
}
  where
    objective_back : (o : Option Objective) → unwrap_or (option_map (λ _. model.objective) o)
        (unwrap_or o model.objective) ≡ model.objective
    objective_back None = refl
    objective_back (Some x) = refl

-- the same model kept alike
pub kept_alike : (model other : ModelValue) (kept others : List Variable) (t u r s : NumbersByName)
    (count : ℕ) → other ≡ model → others ≡ kept → u ≡ t → s ≡ r → Keeps model kept t r count
    → Keeps other others u s count
kept_alike model other kept others t u r s count a b c d h =
    subst (λ (x : ModelValue × (List Variable × (NumbersByName × NumbersByName))). Keeps x.0 x.1.0 x.1.1.0
    x.1.1.1 count) (λ i. (sym a i, (sym b i, (sym c i, sym d i)))) h
