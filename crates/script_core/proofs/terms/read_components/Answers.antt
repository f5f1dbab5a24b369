use Rattle.script_core.proofs.Components.{components_after_start}
use Rattle.script_core.proofs.terms.read_components.Goals as goal

pub loop-token-init : goal.loop-token-init
loop-token-init c =
    rw (
      c.new-components.ensures.items,
      c.new-terms.ensures.items,
      c.into_iter-token-iterator.ensures.into_iter_gives,
    )
    (components_after_start c.args.tokens)
