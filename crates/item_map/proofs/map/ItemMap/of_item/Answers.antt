use Rattle.std.specs.Prelude.{◌≡◌, []}
use Rattle.std.proofs.Common.{arith, sym, ap, ◌∙◌}
use Rattle.std.proofs.lemmas.List.{nil_from_length}
use Rattle.std.specs.FinMap as finite
use Rattle.std.specs.Option.{option_copied}
use Rattle.aff_core.specs.Address.{address_cmp}
use Rattle.map_laws.specs.MadeLaws.{entries_empty}
use Rattle.item_map.specs.ItemLists.{own}
use Rattle.item_map.proofs.OwnLaws.{found_is, missing_is, none_below, of_item, those_of}
use Rattle.item_map.proofs.map.ItemMap.of_item.Goals as goal

pub returns-then-depth-gt0 : goal.returns-then-depth-gt0
returns-then-depth-gt0 g c =
    c.iter.ensures ∙ ap finite.entries c.self.invariant.empty ∙ entries_empty address_cmp
    ∙ sym (none_below c.args.item.now (finite.entries c.args.self.now.entries)
    (omega (arith, c.depth.ensures.count, c.if-depth-gt0.true)))

pub returns-in-Some : goal.returns-in-Some
returns-in-Some g c =
    let roots = c.self.inside.roots in
    let item = c.args.item.now in
    let flat : item.positions ≡ [] = nil_from_length item.positions
    (omega (arith, c.depth.ensures.count, c.if-depth-gt0.false)) in
    c.iter-in-Some.ensures
    ∙ ap finite.entries (found_is (own roots item) c.in-Some.entries.now
    (sym (ap option_copied c.in-Some.is) ∙ c.own.ensures))
    ∙ sym (of_item roots c.self.invariant.order item flat)
    ∙ ap (λ m. those_of item (finite.entries m.entries)) c.self.view_is

pub returns-in-None : goal.returns-in-None
returns-in-None g c =
    let roots = c.self.inside.roots in
    let item = c.args.item.now in
    let flat : item.positions ≡ [] = nil_from_length item.positions
    (omega (arith, c.depth.ensures.count, c.if-depth-gt0.false)) in
    c.iter-in-None.ensures
    ∙ ap finite.entries (c.self.invariant.empty ∙ sym (missing_is (own roots item)
    (sym (ap option_copied c.in-None.is) ∙ c.own.ensures)))
    ∙ sym (of_item roots c.self.invariant.order item flat)
    ∙ ap (λ m. those_of item (finite.entries m.entries)) c.self.view_is
