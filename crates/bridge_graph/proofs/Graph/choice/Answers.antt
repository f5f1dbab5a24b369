use Rattle.std.proofs.Common.{◌≡◌, ap, subst}
use Rattle.bridge_graph.specs.declared.Choice.TheVariants.{By}
use Rattle.bridge_graph.specs.Tree.{native, by, BeginsLeast}
use Rattle.bridge_graph.proofs.Choices.{supported_first, same_first, leads_below}
use Rattle.bridge_graph.proofs.Graph.choice.Goals as goal

pub returns-in-Open-clause-native : goal.returns-in-Open-clause-native
returns-in-Open-clause-native g c =
    (λ e. absurd (cc), λ supported. absurd (c.in-Open.ensures.plan 0 (native supported)))

pub returns-in-Open-clause-by : goal.returns-in-Open-clause-by
returns-in-Open-clause-by g c =
    λ edge. (λ e. absurd (cc), λ first. absurd (c.in-Open.ensures.plan first.0 (by first.1.tree)))

pub returns-in-Native-clause-by : goal.returns-in-Native-clause-by
returns-in-Native-clause-by g c =
    λ edge. (
      λ e. absurd (cc),
      λ first. absurd (supported_first c.in-Native.ensures.solved.1.costly
          c.in-Native.ensures.plan first),
    )

pub returns-in-Native-clause-missing : goal.returns-in-Native-clause-missing
returns-in-Native-clause-missing g c =
    (λ e. absurd (cc), λ no. absurd (no 0 (native c.in-Native.ensures.plan)))

pub returns-in-By-clause-native : goal.returns-in-By-clause-native
returns-in-By-clause-native g c = (
  λ e. absurd (cc),
  λ supported. absurd (supported_first c.in-By.ensures.solved.1.costly
      supported (_, c.in-By.ensures.plan)),
)

pub returns-in-By-clause-by : goal.returns-in-By-clause-by
returns-in-By-clause-by g c =
    λ edge. (
      λ e. (
        c.in-By.cost,
        subst (λ n. BeginsLeast c.args.self.now c.args.kind n c.in-By.cost)
            (let same : c.in-By.edge ≡ edge = cc in same) c.in-By.ensures.plan,
      ),
      λ first. ap By (same_first c.in-By.ensures.plan first),
    )

pub returns-in-By-clause-missing : goal.returns-in-By-clause-missing
returns-in-By-clause-missing g c =
    (λ e. absurd (cc), λ no. absurd (no _ (by c.in-By.ensures.plan.tree)))

pub returns-in-Open-clause-cheaper : goal.returns-in-Open-clause-cheaper
returns-in-Open-clause-cheaper g c = λ edge cost e. absurd (cc)

pub returns-in-Native-clause-cheaper : goal.returns-in-Native-clause-cheaper
returns-in-Native-clause-cheaper g c = λ edge cost e. absurd (cc)

pub returns-in-By-clause-cheaper : goal.returns-in-By-clause-cheaper
returns-in-By-clause-cheaper g c = λ edge cost e least.
    leads_below c.args.self.now c.in-By.ensures.solved.1
    (subst (λ n. BeginsLeast c.args.self.now c.args.kind n c.in-By.cost)
    (let same : c.in-By.edge ≡ edge = cc in same) c.in-By.ensures.plan) least
