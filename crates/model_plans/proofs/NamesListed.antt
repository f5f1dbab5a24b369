-- The names that are listed where one row or one variable changes, or none does.
use Rattle.std.proofs.Common.{◌≡◌, ◌≢◌, ℕ, ◌<◌, List, [], ◌∷◌, Option, None, refl, sym, ap, subst, ◌∙◌, inl, inr}
use Rattle.std.specs.Prelude.{All, IsSome}
use Rattle.std.specs.Option.{option_map, option_map_or}
use Rattle.std.proofs.lemmas.Bool.{cases_eq}
use Rattle.std.proofs.lemmas.List.Elements.{All-cons, All-nil}
use Rattle.map_laws.specs.OptionLaws.{not_some}
use Rattle.numbered_list.specs.Numbered.{IsAt, find, set_at}
use Rattle.numbered_list.specs.Laws.{Rise-cons, Rise-nil, find-first, find-rest}
use Rattle.numbered_list.specs.SetLaws.{find-set_at_other, find-set_at_same}
use Rattle.user_model.specs.declared.group.Group.{Group}
use Rattle.user_model.specs.declared.objective.Objective.{Objective}
use Rattle.user_model.specs.declared.row.Row.{Row}
use Rattle.user_model.specs.declared.undo.NextNumbers.{NextNumbers}
use Rattle.user_model.specs.Model.{ModelValue}
use Rattle.user_model.specs.Edited.{row_number}
use Rattle.model_catalog.specs.declared.names.NameChange.{NameChange}
use Rattle.model_catalog.specs.declared.names.NameChanges.{NameChanges}
use Rattle.model_catalog.specs.Names.{listed_number}
use Rattle.model_catalog.specs.Index.{group_number_of}
use Rattle.model_plans.specs.Plans.{IsRenamed}
use Rattle.model_catalog.specs.Named.{IsInGroup, AreNameChanges, ChangesNames, variable_name}

-- no name changes
pub unlisted : (old new : ℕ → Option (List ℕ)) → ((n : ℕ) → new n ≡ old n) → ChangesNames [] old new
unlisted old new same = record { rising = Rise-nil listed_number; named = same }

-- one name changes, or comes, or goes
pub one_listed : (l : NameChange) (old new : ℕ → Option (List ℕ)) → new l.number ≡ l.name
    → ((n : ℕ) → n ≢ l.number → new n ≡ old n) → ChangesNames (l ∷ []) old new
one_listed l old new here elsewhere = record {
  rising = Rise-cons listed_number l [] (All-nil (λ m. l.number < m.number))
      (Rise-nil listed_number);
  named = λ n. elim (cases_eq l.number n) [
    | inl same ↦
        subst (λ m. new m ≡ l.name) same here
        ∙ sym (ap (λ o. option_map_or (λ m. m.name) o (old n))
        (find-first listed_number n l [] same))
    | inr other ↦
        elsewhere n (λ e. other (sym e))
        ∙ sym (ap (λ o. option_map_or (λ m. m.name) o (old n))
        (find-rest listed_number n l [] other))
  ];
}

pub one_renamed : (naming : ℕ → Option (List ℕ)) (l : NameChange) → IsRenamed naming l
    → All (IsRenamed naming) (l ∷ [])
one_renamed naming l other = All-cons (IsRenamed naming) l [] other (All-nil (IsRenamed naming))

-- ---- one row

-- the name of the row with a number, in a list of rows
abbrev pub row_names_in : List Row → ℕ → Option (List ℕ)
row_names_in rows n = option_map (λ r. r.name) (find row_number n rows)

pub row_named_there : (m : ℕ) (new : Option Row) (rows : List Row) → IsAt row_number m new
    → row_names_in (set_at row_number m new rows) m ≡ option_map (λ r. r.name) new
row_named_there m new rows at =
    ap (option_map (λ r. r.name)) (find-set_at_same row_number m new rows at)

pub row_named_elsewhere : (m : ℕ) (new : Option Row) (rows : List Row) (n : ℕ)
    → IsAt row_number m new → n ≢ m → row_names_in (set_at row_number m new rows) n
    ≡ row_names_in rows n
row_named_elsewhere m new rows n at off =
    ap (option_map (λ r. r.name)) (find-set_at_other row_number n m new rows off at)

-- a row keeps its name
pub row_unlisted : (m : ℕ) (new : Option Row) (rows : List Row) → IsAt row_number m new
    → option_map (λ r. r.name) new ≡ row_names_in rows m
    → ChangesNames [] (row_names_in rows) (row_names_in (set_at row_number m new rows))
row_unlisted m new rows at same =
    unlisted (row_names_in rows) (row_names_in (set_at row_number m new rows))
    (λ n. elim (cases_eq m n) [
      | inl here ↦ subst (λ k. row_names_in (set_at row_number m new rows) k ≡ row_names_in rows k)
          here (row_named_there m new rows at ∙ same)
      | inr off ↦ row_named_elsewhere m new rows n at (λ e. off (sym e))
    ])

-- a row comes, goes or has another name
pub row_listed : (l : NameChange) (m : ℕ) (new : Option Row) (rows : List Row)
    → IsAt row_number m new → l.number ≡ m → option_map (λ r. r.name) new ≡ l.name
    → ChangesNames (l ∷ []) (row_names_in rows) (row_names_in (set_at row_number m new rows))
row_listed l m new rows at number name =
    one_listed l (row_names_in rows) (row_names_in (set_at row_number m new rows))
    (subst (λ k. row_names_in (set_at row_number m new rows) k ≡ l.name) (sym number)
    (row_named_there m new rows at ∙ name)) (λ n off. row_named_elsewhere m new rows n at
    (λ e. off (e ∙ sym number)))

-- ---- the listed names

-- no variable's name changes
pub AreNameChanges-rows : (names : NameChanges) (listed : List NameChange) (model : ModelValue)
    (rows : List Row) (o : Objective) (k : NextNumbers) → names.variables.items ≡ []
    → names.rows.items ≡ listed → ChangesNames listed (row_names_in model.rows) (row_names_in rows)
    → AreNameChanges names model (record {
      groups = model.groups;
      rows = rows;
      objective = o;
      next = k;
    })
AreNameChanges-rows names listed model rows o k none is h = record {
  variables = subst (λ ls. ChangesNames ls (variable_name model) (variable_name model)) (sym none)
      (unlisted (variable_name model) (variable_name model) (λ n. refl));
  rows = subst (λ ls. ChangesNames ls (row_names_in model.rows) (row_names_in rows)) (sym is) h;
  in_group = λ n some. absurd (not_some (find listed_number n names.variables.items)
      (ap (find listed_number n) none) some);
  others = λ n absent. refl;
}

-- no row's name changes
pub AreNameChanges-groups : (names : NameChanges) (listed : List NameChange) (model : ModelValue)
    (groups : List Group) (o : Objective) (k : NextNumbers) → names.variables.items ≡ listed
    → names.rows.items ≡ [] → ChangesNames listed (variable_name model)
    (variable_name (record model { groups = groups })) → ((n : ℕ) → IsSome
    (find listed_number n listed) → IsInGroup names.group model n × IsInGroup names.group
    (record model { groups = groups }) n)
    → ((n : ℕ) → find listed_number n listed ≡ None → group_number_of
    (record model { groups = groups }) n ≡ group_number_of model n)
    → AreNameChanges names model (record {
      groups = groups;
      rows = model.rows;
      objective = o;
      next = k;
    })
AreNameChanges-groups names listed model groups o k is none h inside others = record {
  variables = subst (λ ls. ChangesNames ls (variable_name model)
      (variable_name (record model { groups = groups }))) (sym is) h;
  rows = subst (λ ls. ChangesNames ls (row_names_in model.rows) (row_names_in model.rows))
      (sym none) (unlisted (row_names_in model.rows) (row_names_in model.rows) (λ n. refl));
  in_group = λ n some. inside n (subst (λ ls. IsSome (find listed_number n ls)) is some);
  others = λ n absent. others n (subst (λ ls. find listed_number n ls ≡ None) is absent);
}
