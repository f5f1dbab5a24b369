-- The empty model is consistent and within its limits.
use Rattle.std.specs.Prelude.{◌≡◌, ◌≢◌, ◌<◌, true, IsSome}
use Rattle.std.proofs.lemmas.List.Elements.{All-nil}
use Rattle.numbered_list.specs.Laws.{Rise-nil}
use Rattle.user_model.specs.declared.group.GroupVar.{GroupVar}
use Rattle.user_model.specs.declared.group.Group.{Group}
use Rattle.user_model.specs.declared.row.Row.{Row}
use Rattle.user_model.specs.Model.{empty_model, group_of, is_variable}
use Rattle.user_model.specs.Edited.{group_number, row_number}
use Rattle.user_model.specs.Consistent.{IsConsistent, variable_number}
use Rattle.map_laws.specs.PairLaws.{AllPairs-nil}

pub empty_consistent : IsConsistent empty_model
empty_consistent = record {
  groups_rise = Rise-nil group_number;
  variables_rise = Rise-nil variable_number;
  rows_rise = Rise-nil row_number;
  given_groups = All-nil {X = Group} (λ g. g.id < 0);
  given_variables = All-nil {X = GroupVar} (λ v. v.number < 0);
  given_rows = All-nil {X = Row} (λ r. r.id < 0);
  variable_names = AllPairs-nil {X = GroupVar} (λ v w. v.name ≢ w.name);
  row_names = AllPairs-nil {X = Row} (λ r s. r.name ≢ s.name);
  bounds =
      λ n. All-nil {X = Row} (λ r. is_variable n r.func ≡ true → IsSome (group_of empty_model n));
}
