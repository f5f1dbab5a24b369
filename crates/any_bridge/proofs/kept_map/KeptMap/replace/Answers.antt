use Rattle.std.specs.Prelude.{◌≡◌, IfSome, IsSomeAnd, Option, Some}
use Rattle.std.proofs.Common.{sym, ap, ap₂, subst, ◌∙◌}
use Rattle.std.proofs.lemmas.Option.{same_Some}
use Rattle.std.specs.Option.{option_copied}
use Rattle.std.specs.FinMap as finite
use Rattle.item_core.specs.declared.edge.Edge.{Edge}
use Rattle.bridge_face.specs.declared.kept_item.KeptItem.{KeptItem}
use Rattle.bridge_face.specs.BridgeState.{kept_item}
use Rattle.bridge_face.specs.Law.{IsItemFor}
use Rattle.any_bridge.proofs.kept_map.KeptMap.replace.Goals as goal

pub new-requires : goal.new-requires
new-requires c =
    let P : Option KeptItem → Type 0 = λ o. IsSomeAnd o (λ kept. IsItemFor kept.edge c.args.item) in
    subst P (sym c.get.ensures.value ∙ ap option_copied c.in-Some.is) c.requires

pub returns-clause-old : goal.returns-clause-old
returns-clause-old c =
    let there = sym c.get.ensures.value ∙ ap option_copied c.in-Some.is in
    let P : Option KeptItem → Type 0 = λ o. IfSome o (λ kept. c.into_kept.result.item ≡ kept.item) in
    subst P (sym there)
    (ap (λ (kept : KeptItem). kept.item) (c.into_kept.ensures
    ∙ same_Some c.replace.result c.in-Some.kept.now
    (c.replace.ensures.before ∙ ap (λ m. finite.get m c.args.item.at) c.self.view_is ∙ there)))

pub returns-clause-new : goal.returns-clause-new
returns-clause-new c =
    let there = sym c.get.ensures.value ∙ ap option_copied c.in-Some.is in
    let P : Option KeptItem → Type 0 =
    λ o. IfSome o (λ kept. c.replace.new.self.entries
    ≡ finite.insert c.args.self.now c.args.item.at (kept_item c.args.item kept)) in
    subst P (sym there)
    (c.replace.ensures.after
    ∙ ap₂ (λ m kept. finite.insert m c.args.item.at kept) c.self.view_is c.new.ensures)
