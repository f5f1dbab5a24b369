use Rattle.cache_layer.proofs.Grouping.{alone_made}
use Rattle.cache_layer.proofs.cache.Cache.group.Goals as goal

pub returns-then-not-self-clause-answer : goal.returns-then-not-self-clause-answer
returns-then-not-self-clause-answer g c =
    alone_made c.args.self.now c.self.inside.user c.group_alone.new.model c.self.inside.lazy
    c.self.inside.attached c.args.edits.now c.self.view_is c.if-not-self.true
    c.in_ok-group_alone.ensures.made
