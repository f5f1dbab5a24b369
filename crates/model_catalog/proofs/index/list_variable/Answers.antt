use Rattle.std.proofs.Common.{◌≡◌, Bor, Option, None, Some, is_some, refl, subst, true}
use Rattle.std.specs.Prelude.{IsSome}
use Rattle.std.specs.Option.{option_copied}
use Rattle.model_catalog.proofs.Listings.{kept_there}
use Rattle.model_catalog.proofs.index.list_variable.Goals as goal

copied_some : {X : Type 0} (o : Option (Bor X)) → is_some o ≡ true → IsSome (option_copied o)
copied_some None e = e
copied_some (Some x) e = refl

pub returns-else-is_none-2-clause-after : goal.returns-else-is_none-2-clause-after
returns-else-is_none-2-clause-after c =
    kept_there c.args.group c.args.item.now c.args.kept.now.items c.if-is_none.ensures
    (subst IsSome c.get.ensures (copied_some c.get.result c.if-is_none-2.ensures))
    c.requires.rising
