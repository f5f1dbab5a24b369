-- An empty model is kept by empty lists and tables.
use Rattle.std.proofs.Common.{◌≡◌, ℕ, List, [], Option, Some, None, refl, sym, ◌∙◌, arith}
use Rattle.std.specs.FinMap as map
use Rattle.std.specs.FinMap.{get-empty}
use Rattle.std.specs.Cmp.Lexicographic.{slice_cmp}
use Rattle.std.specs.Ordering.{nat_cmp}
use Rattle.std.proofs.lemmas.Option.{none-some}
use Rattle.name_index.specs.NameTable.{NumbersByName}
use Rattle.numbered_list.specs.Laws.{Rise-nil}
use Rattle.user_model.specs.Consistent as consistent
use Rattle.user_model.specs.Edited.{group_number, row_number}
use Rattle.user_model.specs.Model.{empty_model}
use Rattle.model_catalog.specs.Names.{name_of}
use Rattle.model_catalog.specs.Index.{variable_number}
use Rattle.model_catalog.specs.Kept.{HasNames, Keeps}
use Rattle.model_catalog.proofs.TableNames.{get-name_of}

nothing_at : (name : List ℕ) → map.get (let none : NumbersByName = map.empty in none) name ≡ None
nothing_at name = get-empty (slice_cmp nat_cmp) name

no_names : HasNames (λ n. None) map.empty
no_names = record {
  one_to_one = λ one other id e f. absurd (none-some id (sym (nothing_at one) ∙ e));
  names = λ n. nothing n (name_of map.empty n) refl;
}
  where
    nothing : (n : ℕ) (o : Option (List ℕ)) → name_of map.empty n ≡ o → name_of map.empty n ≡ None
    nothing n None e = e
    nothing n (Some name) e =
        absurd (none-some n (sym (nothing_at name) ∙ get-name_of map.empty n name e))

pub empty_kept : Keeps empty_model [] map.empty map.empty 0
empty_kept = record {
  consistent = record {
    groups_rise = Rise-nil group_number;
    variables_rise = Rise-nil consistent.variable_number;
    rows_rise = Rise-nil row_number;
    given_groups = λ i d lt. absurd (omega arith);
    given_variables = λ i d lt. absurd (omega arith);
    given_rows = λ i d lt. absurd (omega arith);
    variable_names = λ i j d lt end. absurd (omega arith);
    row_names = λ i j d lt end. absurd (omega arith);
    bounds = λ n i d lt. absurd (omega arith);
  };
  within = record {
    variables = omega arith;
    rows = omega arith;
    terms = omega arith;
    group_numbers = omega arith;
    variable_numbers = omega arith;
    row_numbers = omega arith;
  };
  index = record { rising = Rise-nil variable_number; entries = λ n. refl };
  variable_names = no_names;
  row_names = no_names;
  terms = omega arith;
}
