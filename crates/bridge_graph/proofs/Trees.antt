-- While kinds are settled: what a settled kind's plan says, and what the trees of an open kind
-- cost.
use Rattle.std.proofs.Common.{◌≡◌, ℕ, ◌+◌, ◌≤◌, ◌⊎◌, inl, inr, List, [], ◌∷◌, Some, refl, sym, ap, subst, ◌∙◌, arith}
use Rattle.std.specs.Option.{option_and_then}
use Rattle.std.proofs.lemmas.Option.{same_Some}
use Rattle.bridge_graph.specs.declared.EdgeRow.{EdgeRow}
use Rattle.bridge_graph.specs.declared.settling.KindPlan.{KindPlan}
use Rattle.bridge_graph.specs.declared.settling.KindPlan.TheVariants.{Open, Native, By}
use Rattle.bridge_graph.specs.declared.settling.Step.{Step}
use Rattle.bridge_graph.specs.Hypergraph.{Hypergraph, children_of, IsSupported, IsUsable, IsCostly}
use Rattle.bridge_graph.specs.Tree.{Tree, native, by, TreeBy, via, Trees, none, each, BeginsLeast}
use Rattle.bridge_graph.specs.KindPlan.{plan_at, cost_of}
use Rattle.bridge_graph.specs.Candidate.{with_children, IsCandidateStep, IsCheapest}

-- what a plan says while other kinds may be open
abbrev pub IsPlanSoFar : Hypergraph → ℕ → KindPlan → Type 0
IsPlanSoFar graph kind Open = Unit {0}
IsPlanSoFar graph kind Native = IsSupported graph kind
IsPlanSoFar graph kind (By edge cost) = BeginsLeast graph kind edge cost

pub record IsSettling (graph : Hypergraph) (plans : List KindPlan) : Type 0 where
  pub native : (kind : ℕ) → IsSupported graph kind → plan_at plans kind ≡ Native
  pub plan : (kind : ℕ) → IsPlanSoFar graph kind (plan_at plans kind)

-- a step of this graph
abbrev pub IsStep : Hypergraph → List KindPlan → Step → Type 0
IsStep graph plans step = IsCandidateStep graph.edges graph.costs graph.on plans step

-- trees of the kinds that a total adds up
TreesOf : Hypergraph → List ℕ → ℕ → ℕ → Type 0
TreesOf graph kinds total sum = (cost : ℕ) × Trees graph kinds cost × (sum ≡ total + cost)

one_more : (graph : Hypergraph) (plans : List KindPlan) (total sum kind : ℕ) (kinds : List ℕ)
    (plan : KindPlan) → IsPlanSoFar graph kind plan
    → ((start : ℕ) → with_children plans start kinds ≡ Some sum → TreesOf graph kinds start sum)
    → option_and_then (λ cost. with_children plans (total + cost) kinds) (cost_of plan) ≡ Some sum
    → TreesOf graph (kind ∷ kinds) total sum
unfolding TreesOf
one_more graph plans total sum kind kinds Open right others e = absurd (cc)
one_more graph plans total sum kind kinds Native right others e =
    let (cost, trees, is) = others (total + 0) e in
    (0 + cost, each (native right) trees, omega arith)
one_more graph plans total sum kind kinds (By edge c) right others e =
    let (cost, trees, is) = others (total + c) e in
    (c + cost, each (by right.tree) trees, omega arith)

-- each settled child has a tree of its plan's cost
trees_of_children : (graph : Hypergraph) (plans : List KindPlan) → IsSettling graph plans
    → (kinds : List ℕ) (total sum : ℕ) → with_children plans total kinds ≡ Some sum
    → TreesOf graph kinds total sum
unfolding TreesOf
trees_of_children graph plans settling [] total sum e =
    (0, none, same_Some sum (total + 0) (sym e ∙ ap Some (omega arith)))
trees_of_children graph plans settling (kind ∷ kinds) total sum e =
    one_more graph plans total sum kind kinds (plan_at plans kind) (settling.plan kind)
    (λ start. trees_of_children graph plans settling kinds start sum) e

-- a candidate has a tree that begins with its edge, of its cost
pub tree_of_step : {graph : Hypergraph} {plans : List KindPlan} {step : Step} → IsSettling graph plans
    → IsStep graph plans step → TreeBy graph step.edge step.kind step.cost
unfolding TreesOf
tree_of_step {graph} {plans} {step} settling c =
    let (cost, trees, is) = trees_of_children graph plans settling (children_of c.row) c.cost
    step.cost c.total in
    subst (λ kind. TreeBy graph step.edge kind step.cost) c.source
    (subst (λ sum. TreeBy graph step.edge c.row.source sum) (sym is) (via c.usable trees))

-- a limit below which no step costs anything, or the total of settled children
ChildrenCost : List KindPlan → ℕ → List ℕ → ℕ → Type 0
ChildrenCost plans limit kinds cost =
    (limit ≤ cost) ⊎ ((settled : ℕ) × (settled ≤ cost)
    × ((total : ℕ) → with_children plans total kinds ≡ Some (total + settled)))

-- one settled kind more
one_settled : (plans : List KindPlan) (limit kind cost others own : ℕ) (kinds : List ℕ)
    → cost_of (plan_at plans kind) ≡ Some own → own ≤ cost → ChildrenCost plans limit kinds others
    → ChildrenCost plans limit (kind ∷ kinds) (cost + others)
unfolding ChildrenCost
one_settled plans limit kind cost others own kinds is le (inl h) = inl (omega arith)
one_settled plans limit kind cost others own kinds is le (inr (settled, within, sums)) =
    inr (own + settled, omega arith, λ total. rw is (sums (total + own) ∙ ap Some (omega arith)))

child_costs : (graph : Hypergraph) (plans : List KindPlan) (limit kind cost others : ℕ) (kinds : List ℕ)
    (plan : KindPlan) → plan_at plans kind ≡ plan → IsPlanSoFar graph kind plan → Tree graph kind cost
    → (plan ≡ Open → limit ≤ cost) → ChildrenCost plans limit kinds others
    → ChildrenCost plans limit (kind ∷ kinds) (cost + others)
unfolding ChildrenCost
child_costs graph plans limit kind cost others kinds Open is right tree unsettled rest =
    inl (let h : limit ≤ cost = unsettled refl in omega arith)
child_costs graph plans limit kind cost others kinds Native is right tree unsettled rest =
    one_settled plans limit kind cost others 0 kinds (ap cost_of is) (omega arith) rest
child_costs graph plans limit kind cost others kinds (By edge c) is right tree unsettled rest =
    one_settled plans limit kind cost others c kinds (ap cost_of is) (right.least cost tree) rest

-- a step by this edge that costs no more than this
StepBy : Hypergraph → List KindPlan → ℕ → ℕ → Type 0
StepBy graph plans edge cost =
    (step : Step) × IsStep graph plans step × (step.edge ≡ edge) × (step.cost ≤ cost)

-- where its children don't cost the limit, an edge from an open kind gives a step
step_by_children : (graph : Hypergraph) (plans : List KindPlan) (limit edge cost children : ℕ)
    (row : EdgeRow) → IsUsable graph.edges graph.costs graph.on edge row cost
    → plan_at plans row.source ≡ Open → ChildrenCost plans limit (children_of row) children
    → (limit ≤ children) ⊎ StepBy graph plans edge (cost + children)
unfolding ChildrenCost StepBy
step_by_children graph plans limit edge cost children row usable unsettled (inl h) = inl h
step_by_children graph plans limit edge cost children row usable unsettled
    (inr (settled, le, sums)) = inr (
      record { kind = row.source; edge = edge; cost = cost + settled },
      record {
        row = row;
        cost = cost;
        usable = usable;
        source = refl;
        is_open = unsettled;
        total = sums cost;
      },
      refl,
      omega arith,
    )

tree_costs : (graph : Hypergraph) (plans : List KindPlan) (limit edge cost children : ℕ)
    → ((step : Step) → IsStep graph plans step → limit ≤ step.cost)
    → (limit ≤ children) ⊎ StepBy graph plans edge (cost + children) → limit ≤ cost + children
unfolding StepBy
tree_costs graph plans limit edge cost children steps (inl h) = omega arith
tree_costs graph plans limit edge cost children steps (inr (step, c, is, le)) =
    let h = steps step c in omega arith

mutual
  unfolding ChildrenCost

  -- no tree of an open kind costs less than every step
  pub open_tree : (graph : Hypergraph) (plans : List KindPlan) (limit : ℕ) → IsSettling graph plans
      → ((step : Step) → IsStep graph plans step → limit ≤ step.cost) → {kind cost : ℕ}
      → Tree graph kind cost → plan_at plans kind ≡ Open → limit ≤ cost
  open_tree graph plans limit settling steps {kind} (native supported) unsettled =
      absurd (cc (settling.native kind supported, unsettled))
  open_tree graph plans limit settling steps (by tree) unsettled =
      open_tree_by graph plans limit settling steps tree unsettled

  open_tree_by : (graph : Hypergraph) (plans : List KindPlan) (limit : ℕ) → IsSettling graph plans
      → ((step : Step) → IsStep graph plans step → limit ≤ step.cost) → {edge kind cost : ℕ}
      → TreeBy graph edge kind cost → plan_at plans kind ≡ Open → limit ≤ cost
  open_tree_by graph plans limit settling steps (via {edge} {cost} {children} {row} usable trees)
      unsettled =
      tree_costs graph plans limit edge cost children steps
      (step_by_children graph plans limit edge cost children row usable unsettled
      (open_trees graph plans limit settling steps trees))

  open_trees : (graph : Hypergraph) (plans : List KindPlan) (limit : ℕ) → IsSettling graph plans
      → ((step : Step) → IsStep graph plans step → limit ≤ step.cost) → {kinds : List ℕ} {cost : ℕ}
      → Trees graph kinds cost → ChildrenCost plans limit kinds cost
  open_trees graph plans limit settling steps none =
      inr (0, omega arith, λ total. ap Some (omega arith))
  open_trees graph plans limit settling steps (each {kind} {cost} {others} {kinds} tree trees) =
      child_costs graph plans limit kind cost others kinds (plan_at plans kind) refl
      (settling.plan kind) tree (open_tree graph plans limit settling steps tree)
      (open_trees graph plans limit settling steps trees)

-- a tree of an open kind that costs no more than any step gives a step by its first edge
step_by_tree : (graph : Hypergraph) (plans : List KindPlan) (limit : ℕ) → IsSettling graph plans
    → IsCostly graph → ((step : Step) → IsStep graph plans step → limit ≤ step.cost)
    → {edge kind cost : ℕ} → TreeBy graph edge kind cost → plan_at plans kind ≡ Open → cost ≤ limit
    → StepBy graph plans edge cost
step_by_tree graph plans limit settling costly steps (via {edge} {cost} {children} {row} usable
    trees) unsettled within =
    elim (step_by_children graph plans limit edge cost children row usable unsettled
    (open_trees graph plans limit settling steps trees)) [
      | inl h ↦ absurd (omega (arith, costly edge cost usable.cost_is))
      | inr step ↦ step
    ]

-- the cheapest step begins a least-cost tree of its kind, and no lower edge does
pub best_of_step : {graph : Hypergraph} {plans : List KindPlan} {step : Step} → IsSettling graph plans
    → IsCostly graph → IsCheapest graph.edges graph.costs graph.on plans step
    → BeginsLeast graph step.kind step.edge step.cost
unfolding StepBy
best_of_step {graph} {plans} {step} settling costly cheapest =
    let steps = λ (other : Step) (c : IsStep graph plans other). (cheapest.first other c).cheaper in
    record {
      tree = tree_of_step settling cheapest.candidate;
      least = λ other tree. open_tree graph plans step.cost settling steps tree
          cheapest.candidate.is_open;
      lowest = λ edge tree.
          let (other, c, is, within) = step_by_tree graph plans step.cost settling costly steps tree
          cheapest.candidate.is_open (omega arith) in
          let first = cheapest.first other c in
          omega (arith, first.lower (omega (arith, first.cheaper)));
    }
