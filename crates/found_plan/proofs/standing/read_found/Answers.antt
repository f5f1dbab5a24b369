use Rattle.std.proofs.Common.{◌≡◌, ◌++◌, ap, append-nil, append_assoc, map, subst, sym, ◌∙◌}
use Rattle.std.specs.Prelude.{flat_map}
use Rattle.std.specs.Option.{option_copied}
use Rattle.std.proofs.lemmas.List.{map-append}
use Rattle.std.proofs.lemmas.Result.{on_ok_weaker}
use Rattle.found_plan.specs.Read.{named_by, named_in_objective, named_in_row, read_entries, read_entry}
use Rattle.found_plan.proofs.standing.read_found.Goals as goal
use Rattle.user_model.specs.declared.row.Row.{Row}

pub returns-in-None : goal.returns-in-None
returns-in-None c =
    let rows = map (λ r. r.now) c.args.rows.now in
    let places = c.args.map.now in
    let first = flat_map (λ (r : Row). named_in_row r.func) rows in
    subst (λ o. c.read_rows.new.entries.items
    ≡ c.args.entries.now.items ++ read_entries places (named_by rows o))
    (sym (ap option_copied c.in-None.is))
    (c.in_ok-read_rows.ensures
    ∙ ap (λ vs. c.args.entries.now.items ++ read_entries places vs) (sym (append-nil first)))

pub returns-in-Some : goal.returns-in-Some
returns-in-Some c =
    let rows = map (λ r. r.now) c.args.rows.now in
    let places = c.args.map.now in
    let first = flat_map (λ (r : Row). named_in_row r.func) rows in
    let last = named_in_objective c.in-Some.objective.now in
    on_ok_weaker c.read_objective.result
    (λ h. subst (λ o. c.read_objective.new.entries.items
    ≡ c.args.entries.now.items ++ read_entries places (named_by rows o))
    (sym (ap option_copied c.in-Some.is))
    (h ∙ ap (λ l. l ++ read_entries places last) c.in_ok-read_rows.ensures
    ∙ append_assoc c.args.entries.now.items (read_entries places first) (read_entries places last)
    ∙ ap (λ l. c.args.entries.now.items ++ l) (sym (map-append (read_entry places) first last))))
    c.read_objective.ensures
