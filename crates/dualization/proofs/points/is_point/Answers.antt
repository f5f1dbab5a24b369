use Rattle.std.proofs.Common.{ap, arith, sym, true≢false}
use Rattle.group_numbering.specs.NewGroups.{variable_count}
use Rattle.dual_model.specs.DualOf.{new_groups}
use Rattle.dual_model.specs.GroupRowLaws.{own_total}
use Rattle.dual_model.specs.RowPartLaws.{total_parts}
use Rattle.dualization.proofs.EditLemmas.{size_is}
use Rattle.dualization.proofs.PointLemmas.{as_many}
use Rattle.dualization.proofs.points.is_point.Goals as goal

pub returns-in-Some : goal.returns-in-Some
returns-in-Some c =
    let m = c.args.model.now.model in
    let both = as_many (variable_count (new_groups m)) (total_parts c.rows.result.now.items)
    (own_total c.groups.result.now.items) c.len.result c.in-Some.left c.left_of_groups.result
    c.in-Some.ensures.some c.left_of_groups.ensures.some c.left_of_groups.ensures.none
    (omega (
      arith,
      size_is m c.rows.ensures.valid,
      ap total_parts c.rows.ensures.value,
      ap own_total c.groups.ensures.value,
    )) in (
      λ e. omega (arith, c.len.ensures, both.0 (c.is_zero.ensures.0 e)),
      λ e. c.is_zero.ensures.1 (both.1 (omega (arith, c.len.ensures, e))),
    )

pub returns-in-None : goal.returns-in-None
returns-in-None c = (
  λ e. absurd (true≢false (sym e)),
  λ e. absurd (omega (
    arith,
    c.left_of_rows.ensures.none c.in-None.is,
    ap total_parts c.rows.ensures.value,
    c.len.ensures,
    size_is c.args.model.now.model c.rows.ensures.valid,
    e,
  )),
)
