use Rattle.std.proofs.Common.{◌<◌, ap, arith, get_or, length, ◌∙◌}
use Rattle.mapped_model.proofs.Pairs.{all_read, map_failed, one_read, whole_at}
use Rattle.mapped_model.proofs.maps.set_maps.Goals as goal

pub map_of-requires : goal.map_of-requires
map_of-requires c =
    let same = c.as_slice-text-items.ensures in
    let lt : c.loop-text.text-index < length c.args.file.now.maps = omega (arith, ap length same) in
    whole_at c.args.file.now.maps c.as_slice-text-items.result.now c.loop-text.text-index
    c.text-item.result c.requires.maps same c.text-item.is lt

pub returns-in-Err : goal.returns-in-Err
returns-in-Err c =
    let same = c.as_slice-text-items.ensures in
    let i = c.loop-text.text-index in
    let lt : i < length c.args.file.now.maps = omega (arith, ap length same) in
    map_failed c.args.file.now.maps i c.loop-text.maps.items c.text-item.result c.in-Err.fault
    c.loop-text.invariant
    (c.text-item.is ∙ ap (λ ms. get_or ms i c.text-item.result) same) lt c.in-Err.ensures

pub loop-text-preserved : goal.loop-text-preserved
loop-text-preserved c =
    let same = c.as_slice-text-items.ensures in
    let i = c.loop-text.text-index in
    let lt : i < length c.args.file.now.maps = omega (arith, ap length same) in
    one_read c.args.file.now.maps i c.loop-text.maps.items c.push_map.new.maps.items
    c.text-item.result c.in-Ok.map c.loop-text.invariant
    (c.text-item.is ∙ ap (λ ms. get_or ms i c.text-item.result) same) lt c.in-Ok.ensures.0
    c.in-Ok.ensures.1 c.in_ok-push_map-in-Ok.ensures

pub returns : goal.returns
returns c =
    all_read c.args.file.now.maps c.loop-text.text-index c.loop-text.maps.items
    c.loop-text.invariant (omega (arith, ap length c.as_slice-text-items.ensures))
