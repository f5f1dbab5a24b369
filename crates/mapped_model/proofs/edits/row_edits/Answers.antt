use Rattle.std.proofs.Common.{◌<◌, ap, arith, get_or, length, subst, ◌∙◌}
use Rattle.std.proofs.lemmas.List.{length-map}
use Rattle.mapped_model.proofs.Making.{all_so_far, matrix_is, row_is, rows_enough, use_made, use_size, use_unfit, use_valid, use_vector}
use Rattle.mapped_model.proofs.Pairs.{map_there}
use Rattle.mapped_model.proofs.edits.row_edits.Goals as goal
use Rattle.mapped_model.specs.Edits.{Pushes}
use Rattle.mapped_model.specs.Mapping.{edits_by}
use Rattle.mapped_model.specs.Uses.{used, uses_in}
use Rattle.mof_write.specs.Written.{naming}

pub row_at-row-requires : goal.row_at-row-requires
row_at-row-requires c =
    let same = c.as_slice-use_-items.ensures in
    let lt : c.loop-i.i < length c.args.file.now.uses = omega (arith, ap length same) in
    rows_enough c.args.model.now.model c.rows-valid.ensures.valid c.args.file.now c.requires.shaped
    c.requires.right c.args.rows.now c.requires.rows c.args.maps.now c.requires.maps c.loop-i.i
    c.use_-item.result
    (c.use_-item.is ∙ ap (λ us. get_or us c.loop-i.i c.use_-item.result) same) lt

pub map_at-map-requires : goal.map_at-map-requires
map_at-map-requires c =
    let same = c.as_slice-use_-items.ensures in
    let lt : c.loop-i.i < length c.args.file.now.uses = omega (arith, ap length same) in
    map_there c.args.file.now.maps c.args.maps.now c.args.file.now.uses c.loop-i.i
    c.use_-item.result c.requires.shaped.uses c.requires.maps
    (c.use_-item.is ∙ ap (λ us. get_or us c.loop-i.i c.use_-item.result) same) lt

pub push_edits-requires-clause-vector : goal.push_edits-requires-clause-vector
push_edits-requires-clause-vector c =
    let same = c.as_slice-use_-items.ensures in
    let lt : c.loop-i.i < length c.args.file.now.uses = omega (arith, ap length same) in
    use_vector c.args.model.now.model c.rows-valid.ensures.valid c.args.file.now c.requires.shaped
    c.requires.right c.args.rows.now c.requires.rows c.args.maps.now c.requires.maps c.loop-i.i
    c.use_-item.result
    (c.use_-item.is ∙ ap (λ us. get_or us c.loop-i.i c.use_-item.result) same) lt
    c.row_at-row.result.now c.row_at-row.ensures c.map_at-map.result.now c.map_at-map.ensures

pub push_edits-requires-clause-size : goal.push_edits-requires-clause-size
push_edits-requires-clause-size c =
    let same = c.as_slice-use_-items.ensures in
    let lt : c.loop-i.i < length c.args.file.now.uses = omega (arith, ap length same) in
    use_size c.args.model.now.model c.rows-valid.ensures.valid c.args.file.now c.requires.shaped
    c.requires.right c.args.rows.now c.requires.rows c.args.maps.now c.requires.maps c.loop-i.i
    c.use_-item.result
    (c.use_-item.is ∙ ap (λ us. get_or us c.loop-i.i c.use_-item.result) same) lt
    c.row_at-row.result.now c.row_at-row.ensures c.map_at-map.result.now c.map_at-map.ensures

pub push_edits-requires-clause-valid : goal.push_edits-requires-clause-valid
push_edits-requires-clause-valid c =
    let same = c.as_slice-use_-items.ensures in
    let lt : c.loop-i.i < length c.args.file.now.uses = omega (arith, ap length same) in
    use_valid c.args.model.now.model c.rows-valid.ensures.valid c.args.file.now c.requires.shaped
    c.requires.right c.args.rows.now c.requires.rows c.args.maps.now c.requires.maps c.loop-i.i
    c.use_-item.result
    (c.use_-item.is ∙ ap (λ us. get_or us c.loop-i.i c.use_-item.result) same) lt
    c.row_at-row.result.now c.row_at-row.ensures c.map_at-map.result.now c.map_at-map.ensures

pub returns-then-not-branch : goal.returns-then-not-branch
returns-then-not-branch c =
    let same = c.as_slice-use_-items.ensures in
    let lt : c.loop-i.i < length c.args.file.now.uses = omega (arith, ap length same) in
    let m = c.args.model.now.model in
    let u = c.use_-item.result in
    let here = c.use_-item.is ∙ ap (λ us. get_or us c.loop-i.i c.use_-item.result) same in
    let row = c.row_at-row.result.now in
    let matrix = c.map_at-map.result.now in
    use_unfit m c.args.file.now c.loop-i.i u row matrix here lt
    (row_is m c.rows-valid.ensures.valid c.args.file.now c.requires.shaped c.requires.right
    c.args.rows.now c.requires.rows c.args.maps.now c.requires.maps c.loop-i.i u here lt row
    c.row_at-row.ensures)
    (matrix_is m c.rows-valid.ensures.valid c.args.file.now c.requires.shaped c.requires.right
    c.args.rows.now c.requires.rows c.args.maps.now c.requires.maps c.loop-i.i u here lt matrix
    c.map_at-map.ensures) c.loop-i.edits.items c.loop-i.invariant c.in_ok-copy.field-0
    c.push_edits.new.edits.items
    (subst (λ b. Pushes b matrix row c.loop-i.edits.items (edits_by (naming m) row matrix u.set)
    c.push_edits.new.edits.items) c.if-not-branch.true c.in_ok-push_edits.ensures)
    c.in_ok-copy.ensures

pub loop-i-preserved : goal.loop-i-preserved
loop-i-preserved c =
    let same = c.as_slice-use_-items.ensures in
    let lt : c.loop-i.i < length c.args.file.now.uses = omega (arith, ap length same) in
    let m = c.args.model.now.model in
    let u = c.use_-item.result in
    let here = c.use_-item.is ∙ ap (λ us. get_or us c.loop-i.i c.use_-item.result) same in
    let row = c.row_at-row.result.now in
    let matrix = c.map_at-map.result.now in
    use_made m c.args.file.now c.loop-i.i u row matrix here lt
    (row_is m c.rows-valid.ensures.valid c.args.file.now c.requires.shaped c.requires.right
    c.args.rows.now c.requires.rows c.args.maps.now c.requires.maps c.loop-i.i u here lt row
    c.row_at-row.ensures)
    (matrix_is m c.rows-valid.ensures.valid c.args.file.now c.requires.shaped c.requires.right
    c.args.rows.now c.requires.rows c.args.maps.now c.requires.maps c.loop-i.i u here lt matrix
    c.map_at-map.ensures) c.loop-i.edits.items c.loop-i.invariant
    c.push_edits.new.edits.items
    (subst (λ b. Pushes b matrix row c.loop-i.edits.items (edits_by (naming m) row matrix u.set)
    c.push_edits.new.edits.items) c.if-not-branch.false c.in_ok-push_edits.ensures)

pub returns : goal.returns
returns c =
    all_so_far c.args.model.now.model (uses_in c.args.model.now.model c.args.file.now) c.loop-i.i
    c.loop-i.edits.items c.loop-i.invariant
    (omega (
      arith,
      ap length c.as_slice-use_-items.ensures,
      length-map c.args.file.now.uses (used c.args.model.now.model c.args.file.now.maps),
    ))
