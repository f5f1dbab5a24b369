-- The kinds before any edge is used, one more settled kind, and the end.
use Rattle.std.proofs.Common.{◌≡◌, ◌≢◌, ℕ, suc, zero, ◌+◌, ◌-◌, ◌*◌, ◌^◌, ◌<◌, ◌≤◌, ◌⊎◌, inl, inr, Bool, true, false, IsTrue, List, [], ◌∷◌, length, Option, Some, None, unwrap_or, slice_get, slice_set, refl, sym, ap, subst, ◌∙◌, arith, add-one, add-suc, add-zero, lit≤, if◌then◌else◌, slice_index_or}
use Rattle.std.specs.Option.{option_and_then}
use Rattle.std.specs.List.{count_by, list_all}
use Rattle.std.proofs.lemmas.Grind.{common_steps}
use Rattle.std.proofs.lemmas.Bool.Decides.{eqb_tells}
use Rattle.std.proofs.lemmas.Option.{same_Some, unwrap_or-slice_get, get_or_from_slice_get}
use Rattle.std.proofs.lemmas.List.{get_or-set_same, get_or-set_other, length-take}
use Rattle.std.proofs.Math.ListN.{length-set}
use Rattle.std.proofs.lemmas.List.Sums.{sum_by-set, count_by-le-length}
use Rattle.map_laws.specs.EachLaws.{all_at}
use Rattle.bridge_graph.specs.declared.EdgeRow.{EdgeRow}
use Rattle.bridge_graph.specs.declared.settling.KindPlan.{KindPlan}
use Rattle.bridge_graph.specs.declared.settling.KindPlan.TheVariants.{Open, Native, By}
use Rattle.bridge_graph.specs.declared.settling.Step.{Step}
use Rattle.bridge_graph.specs.Hypergraph.{Hypergraph, children_of, IsCostly, is_edge_cost, has_kinds_below}
use Rattle.bridge_graph.specs.KindPlan.{plan_at, cost_of, ArePlansWithin, start_at, IsLeastPlan}
use Rattle.bridge_graph.specs.Candidate.{with_children, IsCheapest}
use Rattle.bridge_graph.proofs.Trees.{IsPlanSoFar, IsSettling, IsStep, open_tree, best_of_step}

abbrev pub is_open : KindPlan → Bool
is_open Open = true
is_open Native = false
is_open (By edge cost) = false

-- how many kinds are open
abbrev pub open_count : List KindPlan → ℕ
open_count plans = count_by is_open plans

-- what n settled kinds cost at most
pub limit_of : ℕ → ℕ
limit_of zero = 0
limit_of (suc n) = 3 * limit_of n + 1000

limit_of-le : (n more : ℕ) → limit_of n ≤ limit_of (n + more)
unfolding limit_of
limit_of-le n zero = rw add-zero (omega arith)
limit_of-le n (suc more) = rw add-suc (let h = limit_of-le n more in omega arith)

pub limit_is_small : (n : ℕ) → n ≤ 64 → limit_of n ≤ 2 ^ 120
unfolding limit_of
limit_is_small n few =
    let top : limit_of 64 ≤ 2 ^ 120 = lit≤ tt in
    let is : n + (64 - n) ≡ 64 = omega arith in
    let h : limit_of n ≤ limit_of 64 =
    subst (λ m. limit_of n ≤ limit_of m) is (limit_of-le n (64 - n)) in
    omega arith

same_or_other : (a b : ℕ) → (a ≡ b) ⊎ (a ≢ b)
same_or_other a b = elim (eqb_tells a b) [ inl (_, e) ↦ inl e | inr (_, ne) ↦ inr ne ]

-- a fact for each plan, after one plan is set
at_set : (P : ℕ → KindPlan → Type 0) (plans : List KindPlan) (kind : ℕ) (plan : KindPlan)
    → kind < length plans
    → P kind plan → ((other : ℕ) → other ≢ kind → P other (plan_at plans other)) → (other : ℕ)
    → P other (plan_at (slice_set plans kind plan) other)
at_set P plans kind plan within here others other = elim (same_or_other other kind) [
  | inl e ↦ subst (λ k. P k (plan_at (slice_set plans kind plan) k)) (sym e)
      (subst (P kind) (sym (get_or-set_same plans kind plan Open within)) here)
  | inr ne ↦ subst (P other) (sym (get_or-set_other plans kind other plan Open ne))
      (others other ne)
]

pub settle_one : {graph : Hypergraph} {plans : List KindPlan} {step : Step} → IsSettling graph plans
    → IsCostly graph → IsCheapest graph.edges graph.costs graph.on plans step
    → step.kind < length plans
    → IsSettling graph (slice_set plans step.kind (By step.edge step.cost))
settle_one {graph} {plans} {step} settling costly cheapest within = record {
  native = λ kind supported.
      let was = settling.native kind supported in
      let ne : kind ≢ step.kind = λ e. let f = ap (plan_at plans) e in
      absurd (cc (f, was, cheapest.candidate.is_open)) in
      get_or-set_other plans step.kind kind (By step.edge step.cost) Open ne ∙ was;
  plan = at_set (IsPlanSoFar graph) plans step.kind (By step.edge step.cost) within
      (best_of_step settling costly cheapest) (λ other ne. settling.plan other);
}

pub open_count-set : (plans : List KindPlan) (kind edge cost : ℕ) → kind < length plans
    → plan_at plans kind ≡ Open → open_count (slice_set plans kind (By edge cost)) + 1
    ≡ open_count plans
open_count-set plans kind edge cost within unsettled =
    let f : KindPlan → ℕ = λ plan. if is_open plan then 1 else 0 in
    let e = sum_by-set f plans kind (By edge cost) Open within in
    let one : f (plan_at plans kind) ≡ 1 = ap f unsettled in
    omega (arith, e, one)

total_within : (plans : List KindPlan) (limit : ℕ) → ArePlansWithin plans limit
    → (kinds : List ℕ) (total sum : ℕ) → with_children plans total kinds ≡ Some sum
    → sum ≤ total + length kinds * limit
total_within plans limit within [] total sum e =
    let h : total ≡ sum = same_Some total sum e in omega arith
total_within plans limit within (kind ∷ kinds) total sum e =
    next (cost_of (plan_at plans kind)) (within kind) (λ start. total_within plans limit within
    kinds start sum) e
  where
    next : (own : Option ℕ) → unwrap_or own 0 ≤ limit
        → ((start : ℕ) → with_children plans start kinds ≡ Some sum → sum ≤ start + length
        kinds * limit) → option_and_then (λ cost. with_children plans (total + cost) kinds) own
        ≡ Some sum → sum ≤ total + suc (length kinds) * limit
    next None small others e = absurd (cc)
    next (Some cost) small others e = let h = others (total + cost) e in grind arith

few_children : (n : ℕ) (row : EdgeRow) → has_kinds_below n row ≡ true → length (children_of row) ≤ 3
few_children n row all =
    let few : row.count ≤ 3 = grind (arith, common_steps) in
    simp length-take (omega arith)

edge_cost : (cost : ℕ) → is_edge_cost cost ≡ true → (1 ≤ cost) × (cost ≤ 1000)
edge_cost cost all = (grind (arith, common_steps), grind (arith, common_steps))

pub costly_from : (graph : Hypergraph) → IsTrue (list_all is_edge_cost graph.costs) → IsCostly graph
costly_from graph costs edge cost is =
    (edge_cost cost (all_at is_edge_cost graph.costs edge cost costs is)).0

three_at_most : (cost children limit : ℕ) → cost ≤ 1000 → children ≤ 3
    → cost + children * limit ≤ 3 * limit + 1000
three_at_most cost children limit small few = grind arith

pub within_set : (graph : Hypergraph) {plans : List KindPlan} {step : Step} (n : ℕ)
    → ArePlansWithin plans (limit_of n) → IsStep graph plans step → step.kind < length plans
    → IsTrue (list_all (has_kinds_below (length plans)) graph.edges)
    → IsTrue (list_all is_edge_cost graph.costs)
    → ArePlansWithin (slice_set plans step.kind (By step.edge step.cost)) (limit_of (n + 1))
unfolding limit_of
within_set graph {plans} {step} n within c kind rows costs =
    let small = (edge_cost c.cost (all_at is_edge_cost graph.costs step.edge c.cost costs
    c.usable.cost_is)).1 in
    let few = few_children (length plans) c.row (all_at (has_kinds_below (length plans)) graph.edges
    step.edge c.row rows c.usable.row_is) in
    let sum = total_within plans (limit_of n) within (children_of c.row) c.cost step.cost c.total in
    let here : step.cost ≤ limit_of (n + 1) =
    rw add-one (omega (
      arith,
      sum,
      three_at_most c.cost (length (children_of c.row))
          (limit_of n) small few,
    )) in
    at_set (λ k plan. unwrap_or (cost_of plan) 0 ≤ limit_of (n + 1)) plans step.kind
    (By step.edge step.cost) kind here
    (λ other ne. let was = within other in rw add-one (omega (arith, was)))

pub within_step : (graph : Hypergraph) {plans : List KindPlan} {step : Step}
    → ArePlansWithin plans (limit_of (length plans - open_count plans)) → IsStep graph plans step
    → step.kind < length plans → IsTrue (list_all (has_kinds_below (length plans)) graph.edges)
    → IsTrue (list_all is_edge_cost graph.costs)
    → ArePlansWithin (slice_set plans step.kind (By step.edge step.cost))
    (limit_of (length (slice_set plans step.kind (By step.edge step.cost)) - open_count
    (slice_set plans step.kind (By step.edge step.cost))))
within_step graph {plans} {step} within c kind rows costs =
    let after : List KindPlan = slice_set plans step.kind (By step.edge step.cost) in
    let one_less = open_count-set plans step.kind step.edge step.cost kind c.is_open in
    let at_most = count_by-le-length is_open after in
    let at_most_before = count_by-le-length is_open plans in
    let same : length after ≡ length plans = length-set plans step.kind (By step.edge step.cost) in
    let n : (length plans - open_count plans) + 1 ≡ length after - open_count after =
    omega (arith, one_less, at_most, at_most_before, same) in
    subst (λ n. ArePlansWithin after (limit_of n)) n (within_set graph (length plans - open_count plans)
    within c kind rows costs)

-- where there is no step, an open kind has no tree
all_settled : (graph : Hypergraph) (plans : List KindPlan) (kind : ℕ) → IsSettling graph plans
    → ((step : Step) → IsStep graph plans step → ⊥) → (plan : KindPlan) → plan_at plans kind ≡ plan
    → IsPlanSoFar graph kind plan → IsLeastPlan graph kind plan
all_settled graph plans kind settling no_step Open is right =
    λ cost tree. let h : suc cost ≤ cost = open_tree graph plans (suc cost) settling (λ step c.
    absurd (no_step step c)) tree is in absurd (omega arith)
all_settled graph plans kind settling no_step Native is right = right
all_settled graph plans kind settling no_step (By edge cost) is right = right

pub settled : {graph : Hypergraph} {plans : List KindPlan} → IsSettling graph plans
    → ((step : Step) → IsStep graph plans step → ⊥) → (kind : ℕ)
    → IsLeastPlan graph kind (plan_at plans kind)
settled {graph} {plans} settling no_step kind =
    all_settled graph plans kind settling no_step (plan_at plans kind) refl (settling.plan kind)

start_plan : (graph : Hypergraph) (kind : ℕ) (is : Option Bool) → slice_get graph.supported kind
    ≡ is → IsPlanSoFar graph kind (if unwrap_or is false then Native else Open)
start_plan graph kind None e = tt
start_plan graph kind (Some true) e = e
start_plan graph kind (Some false) e = tt

pub starts : {graph : Hypergraph} {plans : List KindPlan}
    → ((kind : ℕ) → plan_at plans kind ≡ start_at graph.supported kind) → IsSettling graph plans
starts {graph} {plans} start = record {
  native = λ kind supported. start kind ∙ ap (λ b. if b then Native else Open)
      (get_or_from_slice_get graph.supported kind true false supported);
  plan = λ kind. subst (IsPlanSoFar graph kind) (ap (λ b. if b then Native else Open)
      (unwrap_or-slice_get graph.supported kind false) ∙ sym (start kind))
      (start_plan graph kind (slice_get graph.supported kind) refl);
}

free : (b : Bool) (limit : ℕ) → unwrap_or (cost_of (if b then Native else Open)) 0 ≤ limit
free true limit = omega arith
free false limit = omega arith

pub starts_within : (supported : List Bool) (plans : List KindPlan) (limit : ℕ)
    → ((kind : ℕ) → plan_at plans kind ≡ start_at supported kind) → ArePlansWithin plans limit
starts_within supported plans limit start kind =
    subst (λ plan. unwrap_or (cost_of plan) 0 ≤ limit) (sym (start kind))
    (free (slice_index_or supported kind false) limit)
