use Rattle.std.proofs.Common.{◌<◌, ap, arith, get_or, length, ◌∙◌}
use Rattle.mapped_model.proofs.Pairs.{map_there}
use Rattle.mapped_model.proofs.TakenSteps.{all_taken_back, as_many, each_failed, each_taken, size_is}
use Rattle.mapped_model.proofs.taking.push_back.Goals as goal

pub map_at-requires : goal.map_at-requires
map_at-requires c =
    let same = c.as_slice-use_-items.ensures in
    let lt : c.loop-i.i < length c.args.file.now.uses = omega (arith, ap length same) in
    map_there c.args.file.now.maps c.args.maps.now c.args.file.now.uses c.loop-i.i
    c.use_-item.result c.requires.shaped.uses c.requires.maps
    (c.use_-item.is ∙ ap (λ us. get_or us c.loop-i.i c.use_-item.result) same) lt

pub dual_at-requires : goal.dual_at-requires
dual_at-requires c =
    omega (
      arith,
      ap length c.as_slice-use_-items.ensures,
      as_many c.args.file.now.uses c.args.file.now.maps c.args.mapped.now c.requires.sizes,
    )

pub dual_back-requires : goal.dual_back-requires
dual_back-requires c =
    let same = c.as_slice-use_-items.ensures in
    let lt : c.loop-i.i < length c.args.file.now.uses = omega (arith, ap length same) in
    size_is c.args.file.now.maps c.args.file.now.uses c.args.mapped.now c.args.maps.now
    c.requires.maps c.requires.shaped.uses c.requires.sizes c.loop-i.i c.use_-item.result
    (c.use_-item.is ∙ ap (λ us. get_or us c.loop-i.i c.use_-item.result) same) lt
    c.map_at.result.now c.map_at.ensures c.dual_at.result.now c.dual_at.ensures

pub returns-in-Err : goal.returns-in-Err
returns-in-Err c =
    let same = c.as_slice-use_-items.ensures in
    let lt : c.loop-i.i < length c.args.file.now.uses = omega (arith, ap length same) in
    each_failed c.args.file.now.maps c.args.file.now.uses c.args.mapped.now c.args.maps.now
    c.requires.maps c.requires.shaped.uses c.requires.sizes c.loop-i.i c.use_-item.result
    (c.use_-item.is ∙ ap (λ us. get_or us c.loop-i.i c.use_-item.result) same) lt
    c.map_at.result.now c.map_at.ensures c.dual_at.result.now c.dual_at.ensures
    c.args.duals.now.items c.loop-i.duals.items c.loop-i.invariant c.in-Err.fault c.in-Err.ensures

pub loop-i-preserved : goal.loop-i-preserved
loop-i-preserved c =
    let same = c.as_slice-use_-items.ensures in
    let lt : c.loop-i.i < length c.args.file.now.uses = omega (arith, ap length same) in
    each_taken c.args.file.now.maps c.args.file.now.uses c.args.mapped.now c.args.maps.now
    c.requires.maps c.requires.shaped.uses c.requires.sizes c.loop-i.i c.use_-item.result
    (c.use_-item.is ∙ ap (λ us. get_or us c.loop-i.i c.use_-item.result) same) lt
    c.map_at.result.now c.map_at.ensures c.dual_at.result.now c.dual_at.ensures
    c.args.duals.now.items c.loop-i.duals.items c.loop-i.invariant c.in-Ok.back
    c.push_dual.new.duals.items c.in-Ok.ensures c.in_ok-push_dual-in-Ok.ensures

pub returns : goal.returns
returns c =
    all_taken_back c.args.file.now.maps c.args.file.now.uses c.args.mapped.now c.loop-i.i
    c.args.duals.now.items c.loop-i.duals.items c.loop-i.invariant
    (omega (arith, ap length c.as_slice-use_-items.ensures))
