use Rattle.std.proofs.Common.{ap, refl, sym, ◌∙◌}
use Rattle.item_core.specs.declared.edge.EdgeEntry.{EdgeEntry}
use Rattle.bridge_tests.specs.SampleLaws.{placed, suits_sound}
use Rattle.bridge_tests.proofs.samples.sample.Goals as goal

pub returns-then-eq-clause-suits : goal.returns-then-eq-clause-suits
returns-then-eq-clause-suits c =
    suits_sound c.args.edge c.place.result c.in_ok-body.body
    (placed c.place.result c.in_ok-body.body) c.kind_of.result c.entry-source.result.source
    c.place.ensures c.in_ok-body.ensures refl c.kind_of.ensures
    (ap (λ (e : EdgeEntry). e.source) c.entry-source.ensures) (sym c.eq.ensures ∙ c.if-eq.true)
