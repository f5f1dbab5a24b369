use Rattle.std.specs.Prelude.{◌≡◌, ◌++◌, OnOk}
use Rattle.std.proofs.Common.{ap, subst, ◌∙◌}
use Rattle.std.specs.FinMap as finite
use Rattle.item_map.specs.ItemAddresses.{is_of}
use Rattle.item_leaves.proofs.ListLaws.{keys, keys_those}
use Rattle.item_leaves.proofs.listing.list_rows.Goals as goal

pub returns : goal.returns
returns c =
    subst (λ l. OnOk c.list_all.result (c.list_all.new.list ≡ c.args.list.now ++ l))
    (ap keys c.rows_of.ensures
    ∙ keys_those (is_of c.args.item.now) (finite.entries c.args.map.now.rows.indices))
    c.list_all.ensures
