-- The cheapest step among the edges below a number.
use Rattle.std.proofs.Common.{◌≡◌, ℕ, ◌+◌, ◌<◌, ◌⊎◌, inl, inr, Bool, true, false, List, length, Option, Some, None, IsNone, IfSome, refl, sym, subst, ◌∙◌, arith, nat_le, if◌then◌else◌}
use Rattle.std.proofs.lemmas.Option.{same_Some, slice_get_within}
use Rattle.std.proofs.lemmas.Bool.Decides.{nat_tests}
use Rattle.bridge_graph.specs.declared.EdgeRow.{EdgeRow}
use Rattle.bridge_graph.specs.declared.settling.KindPlan.{KindPlan}
use Rattle.bridge_graph.specs.declared.settling.Step.{Step}
use Rattle.bridge_graph.specs.Candidate.{IsCandidateStep, IsCheapest, IsStepBefore, cheaper_of}

-- a candidate with an edge below n, before every such candidate
pub record IsBest (edges : List EdgeRow) (costs : List ℕ) (on : List Bool) (plans : List KindPlan)
    (n : ℕ) (step : Step) : Type 0 where
  pub candidate : IsCandidateStep edges costs on plans step
  pub below : step.edge < n
  pub kind : step.kind < length plans
  pub first : (other : Step) → IsCandidateStep edges costs on plans other → other.edge < n
      → IsStepBefore step other

-- the best step below n, or none where there is no candidate
pub record IsBestBelow (edges : List EdgeRow) (costs : List ℕ) (on : List Bool) (plans : List KindPlan)
    (n : ℕ) (best : Option Step) : Type 0 where
  pub absent : best ≡ None → (step : Step) → IsCandidateStep edges costs on plans step
      → step.edge < n → ⊥
  pub present : (step : Step) → best ≡ Some step → IsBest edges costs on plans n step

pub same_cost : {edges : List EdgeRow} {costs : List ℕ} {on : List Bool} {plans : List KindPlan}
    {a b : Step} → IsCandidateStep edges costs on plans a → IsCandidateStep edges costs on plans b
    → a.edge ≡ b.edge → a.cost ≡ b.cost
same_cost p q e =
    let row : p.row ≡ q.row = cc (p.usable.row_is, q.usable.row_is) in
    let cost : p.cost ≡ q.cost = cc (p.usable.cost_is, q.usable.cost_is) in
    cc (p.total, q.total)

at_or_below : {P : Type 0} (m n : ℕ) → m < n + 1 → (m ≡ n → P) → (m < n → P) → P
at_or_below m n l at below = elim (cases m n l) [ inl e ↦ at e | inr h ↦ below h ]
  where
    cases : (m n : ℕ) → m < n + 1 → (m ≡ n) ⊎ (m < n)
    cases m n l = grind arith

pub none_below : {edges : List EdgeRow} {costs : List ℕ} {on : List Bool} {plans : List KindPlan}
    → IsBestBelow edges costs on plans 0 None
none_below = record { absent = λ _ s c l. absurd (omega arith); present = λ s e. absurd (cc) }

pub best_kept : {edges : List EdgeRow} {costs : List ℕ} {on : List Bool} {plans : List KindPlan} {n : ℕ}
    {best : Option Step} → IsBestBelow edges costs on plans n best
    → ((step : Step) → step.edge ≡ n → IsCandidateStep edges costs on plans step → ⊥) → IsBestBelow
    edges costs on plans (n + 1) best
best_kept {n = n} known here = record {
  absent = λ e s c l. at_or_below s.edge n l (λ e'. here s e' c)
      (λ below. known.absent e s c below);
  present = λ b e. let was = known.present b e in record {
    candidate = was.candidate;
    below = omega (arith, was.below);
    kind = was.kind;
    first = λ o c l. at_or_below o.edge n l (λ e'. absurd (here o e' c))
        (λ below. was.first o c below);
  };
}

-- a candidate with edge n is the best below n + 1, where it comes before each with an edge below n
newest : {edges : List EdgeRow} {costs : List ℕ} {on : List Bool} {plans : List KindPlan} {n : ℕ}
    (step : Step) → step.edge ≡ n → step.kind < length plans → IsCandidateStep edges costs on plans step
    → ((other : Step) → IsCandidateStep edges costs on plans other → other.edge < n
    → IsStepBefore step other) → IsBest edges costs on plans (n + 1) step
newest {n = n} step here kind candidate earlier = record {
  candidate = candidate;
  below = omega arith;
  kind = kind;
  first = λ o c l. at_or_below o.edge n l
      (λ e'. let same : step.cost ≡ o.cost = same_cost candidate c (here ∙ sym e') in
      record { cheaper = omega arith; lower = λ _. omega arith })
      (earlier o c);
}

-- of two candidates, the second by a higher edge, the one that is taken comes before the other
taken : (edges : List EdgeRow) (costs : List ℕ) (on : List Bool) (plans : List KindPlan) (n : ℕ)
    (best step : Step) → IsBest edges costs on plans n best → step.edge ≡ n
    → step.kind < length plans → IsCandidateStep edges costs on plans step → (b : Bool)
    → nat_le best.cost step.cost ≡ b → IsBest edges costs on plans (n + 1)
    (if b then best else step)
taken edges costs on plans n best step was here kind candidate true e = record {
  candidate = was.candidate;
  below = omega (arith, was.below);
  kind = was.kind;
  first = λ o c l. at_or_below o.edge n l
      (λ e'. let same : step.cost ≡ o.cost = same_cost candidate c (here ∙ sym e') in
      record { cheaper = grind (arith, nat_tests); lower = λ _. omega (arith, was.below) })
      (was.first o c);
}
taken edges costs on plans n best step was here kind candidate false e =
    newest step here kind candidate
    (λ o c below. let f = was.first o c below in
    record {
      cheaper = grind (arith, nat_tests, f.cheaper);
      lower = λ same. grind (arith, nat_tests, f.cheaper);
    })

pub best_next : {edges : List EdgeRow} {costs : List ℕ} {on : List Bool} {plans : List KindPlan} {n : ℕ}
    (best : Option Step) (step : Step) → IsBestBelow edges costs on plans n best → step.edge ≡ n
    → step.kind < length plans → IsCandidateStep edges costs on plans step
    → IsBestBelow edges costs on plans (n + 1) (Some (cheaper_of best step))
best_next {edges} {costs} {on} {plans} {n} None step known here kind candidate = record {
  absent = λ e. absurd (cc);
  present = λ b e. subst (λ s. IsBest edges costs on plans (n + 1) s) (same_Some step b e)
      (newest step here kind candidate (λ o c below. absurd (known.absent refl o c below)));
}
best_next {edges} {costs} {on} {plans} {n} (Some best) step known here kind candidate = record {
  absent = λ e. absurd (cc);
  present =
      λ b e. subst (λ s. IsBest edges costs on plans (n + 1) s)
      (same_Some (cheaper_of (Some best) step) b e)
      (taken edges costs on plans n best step (known.present best refl) here kind candidate
      (nat_le best.cost step.cost) refl);
}

in_edges : {edges : List EdgeRow} {costs : List ℕ} {on : List Bool} {plans : List KindPlan}
    {step : Step} → IsCandidateStep edges costs on plans step → step.edge < length edges
in_edges {edges} {step = step} c = slice_get_within edges step.edge c.row c.usable.row_is

pub best_absent : {edges : List EdgeRow} {costs : List ℕ} {on : List Bool} {plans : List KindPlan}
    (best : Option Step) → IsBestBelow edges costs on plans (length edges) best → IsNone best
    → (step : Step) → IsCandidateStep edges costs on plans step → ⊥
best_absent None known none step c = known.absent refl step c (in_edges c)
best_absent (Some b) known none step c = absurd (cc)

pub best_cheapest : {edges : List EdgeRow} {costs : List ℕ} {on : List Bool} {plans : List KindPlan}
    (best : Option Step) → IsBestBelow edges costs on plans (length edges) best
    → IfSome best (IsCheapest edges costs on plans)
best_cheapest None known = tt
best_cheapest (Some b) known =
    let best = known.present b refl in
    record { candidate = best.candidate; first = λ o c. best.first o c (in_edges c) }

pub best_kind : {edges : List EdgeRow} {costs : List ℕ} {on : List Bool} {plans : List KindPlan}
    (best : Option Step) → IsBestBelow edges costs on plans (length edges) best
    → IfSome best (λ step. step.kind < length plans)
best_kind None known = tt
best_kind (Some b) known = (known.present b refl).kind
