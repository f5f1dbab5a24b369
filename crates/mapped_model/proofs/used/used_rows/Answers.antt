use Rattle.std.proofs.Common.{◌≢◌, ◌<◌, ℕ, List, Option, AllPairs, ap, arith, get_or, length, map, subst, sym, ◌∙◌}
use Rattle.std.specs.Borrow.{Bor}
use Rattle.std.specs.Option.{option_copied, option_or}
use Rattle.std.specs.Prelude.{bytes_eq}
use Rattle.indexmap.specs.IndexMap.{get}
use Rattle.mapped_model.proofs.Pairs.{map_here}
use Rattle.mapped_model.proofs.UsedSteps.{copied_out, now_pushed, rows_as}
use Rattle.mapped_model.proofs.Using.{IsUsing, all_used, none_taken, one_taken, wrong_here}
use Rattle.mapped_model.proofs.used.used_rows.Goals as goal
use Rattle.mapped_model.specs.Uses.{named_in}
use Rattle.user_model.specs.declared.row.Row.{Row}

pub rows_by_name-requires : goal.rows_by_name-requires
rows_by_name-requires c =
    subst (AllPairs {X = Row} (λ r s. r.name ≢ s.name)) (sym c.rows.ensures.value)
    c.rows.ensures.valid.consistent.row_names

pub loop-use_-init : goal.loop-use_-init
loop-use_-init c =
    let get' : List ℕ → Option Row = λ name. option_copied (get bytes_eq c.in_ok-unused.unused name) in
    subst (λ rs. IsUsing c.args.model.now.model c.args.file.now.maps c.args.file.now.uses 0 get'
    (map (λ (r : Bor Row). r.now) rs)) (sym c.in_ok-used.ensures.items)
    (none_taken c.args.model.now.model c.args.file.now.maps c.args.file.now.uses get'
    (λ name. c.in_ok-unused.ensures name ∙ ap (λ rs. named_in rs name) c.rows.ensures.value))

pub take_usable-requires : goal.take_usable-requires
take_usable-requires c =
    let same = c.as_slice-use_-items.ensures in
    let i = c.loop-use_.use_-index in
    let lt : i < length c.args.file.now.uses = omega (arith, ap length same) in
    map_here c.args.file.now.maps c.args.file.now.uses i c.use_-item.result c.requires.uses
    (c.use_-item.is ∙ ap (λ us. get_or us i c.use_-item.result) same) lt

pub returns-in_default : goal.returns-in_default
returns-in_default c =
    let same = c.as_slice-use_-items.ensures in
    let i = c.loop-use_.use_-index in
    let lt : i < length c.args.file.now.uses = omega (arith, ap length same) in
    ap (λ o. option_or o c.args.file.now.wrong)
    (wrong_here c.args.model.now.model c.args.file.now.maps c.args.file.now.uses i
    (λ name. option_copied (get bytes_eq c.loop-use_.unused name))
    (map (λ (r : Bor Row). r.now) c.loop-use_.used.items) c.loop-use_.invariant c.use_-item.result
    (c.use_-item.is ∙ ap (λ us. get_or us i c.use_-item.result) same) lt
    (sym c.take_usable.ensures.value ∙ ap option_copied c.in_default.is))

pub loop-use_-preserved : goal.loop-use_-preserved
loop-use_-preserved c =
    let same = c.as_slice-use_-items.ensures in
    let i = c.loop-use_.use_-index in
    let lt : i < length c.args.file.now.uses = omega (arith, ap length same) in
    let u = c.use_-item.result in
    one_taken c.args.model.now.model c.args.file.now.maps c.args.file.now.uses i
    (λ name. option_copied (get bytes_eq c.loop-use_.unused name))
    (map (λ (r : Bor Row). r.now) c.loop-use_.used.items) c.loop-use_.invariant u
    (c.use_-item.is ∙ ap (λ us. get_or us i u) same) lt c.in-Some.row.now
    (λ name. option_copied (get bytes_eq c.take_usable.new.unused name))
    (map (λ (r : Bor Row). r.now) c.push_row.new.rows.items) (sym c.in-Some.ensures.value)
    (λ name. ap option_copied (c.in-Some.ensures.taken.0 name)
    ∙ copied_out (bytes_eq u.row name) (get bytes_eq c.loop-use_.unused name))
    (now_pushed c.loop-use_.used.items c.push_row.new.rows.items c.in-Some.row
    c.in_ok-push_row.ensures)

pub returns-in-Some-wrong : goal.returns-in-Some-wrong
returns-in-Some-wrong c =
    let all = all_used c.args.model.now.model c.args.file.now.maps c.args.file.now.uses
    c.loop-use_.use_-index (λ name. option_copied (get bytes_eq c.loop-use_.unused name))
    (map (λ (r : Bor Row). r.now) c.loop-use_.used.items) c.loop-use_.invariant
    (omega (arith, ap length c.as_slice-use_-items.ensures)) in
    ap (λ o. option_or o c.args.file.now.wrong) all.right ∙ c.in-Some-wrong.is

pub returns : goal.returns
returns c =
    let all = all_used c.args.model.now.model c.args.file.now.maps c.args.file.now.uses
    c.loop-use_.use_-index (λ name. option_copied (get bytes_eq c.loop-use_.unused name))
    (map (λ (r : Bor Row). r.now) c.loop-use_.used.items) c.loop-use_.invariant
    (omega (arith, ap length c.as_slice-use_-items.ensures)) in (
      ap (λ o. option_or o c.args.file.now.wrong) all.right ∙ c.in-None.is,
      rows_as c.args.model.now.model c.args.file.now _ all.are,
    )
