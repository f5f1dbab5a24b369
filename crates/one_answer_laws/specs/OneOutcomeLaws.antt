-- An optimise of a state has one outcome, whichever fresh bridging of its model is looked at.
use Rattle.std.specs.Prelude.{◌≡◌, ◌≢◌, ◌⊎◌, ℕ, true, false, Result, Ok, Err, refl}
use Rattle.std.proofs.Math.Bool.{Bool-set}
use Rattle.std.proofs.Common.{ap, inl, inr, subst, sym, true≢false, ◌∙◌}
use Rattle.std.proofs.lemmas.Option.{same_Some}
use Rattle.adjoint_core.specs.CarriedBack.{IsFirstUnfitAddress}
use Rattle.bridge_graph.specs.Hypergraph.{IsCostly}
use Rattle.bridged_report.specs.Places.{place_at}
use Rattle.cache_layer.specs.Outcome.{IsOptimized, Outcome, answered, at_carrying_back, stopped}
use Rattle.cache_layer.specs.CacheState.{Bridging, CacheState, leaves}
use Rattle.cache_layer.specs.declared.fault.OptFault.{OptFault}
use Rattle.cache_layer.specs.declared.fault.OptFault.TheVariants.{Limit, Memory, NotAttached, Overflow, TooLarge}
use Rattle.certificates.specs.declared.certificate.Certificate.{Certificate}
use Rattle.fresh_bridging.specs.FreshBridging.{FreshBridging, is_made}
use Rattle.fresh_bridging.specs.TheRules.{AreChoices, graph_of}
use Rattle.tree_laws.specs.Certificate.{certificate_of}
use Rattle.one_answer_laws.specs.OneBridgingLaws.{by_reasons, of_any_bridging}
use Rattle.one_answer_laws.specs.OneSolutionLaws.{answered_once, never_stopped, stopped_once}
use Rattle.one_answer_laws.specs.OneUnfitLaws.{first_unfit_told}

-- ---- of one bridging

module _ {s : CacheState} (b : Bridging s) (pivots : ℕ) where
  outcome_once : (x y : Result Certificate OptFault) → Outcome b pivots x → Outcome b pivots y
      → x ≡ y
  outcome_once x y (stopped {fault = f} h) (stopped {fault = g} k) =
      ap Err (stopped_once (leaves b) pivots f g h k)
  outcome_once x y (stopped {fault = f} h) (at_carrying_back answer at is unfit place) =
      absurd (never_stopped (leaves b) pivots f answer h is)
  outcome_once x y (stopped {fault = f} h) (answered answer is fits) =
      absurd (never_stopped (leaves b) pivots f answer h is)
  outcome_once x y (at_carrying_back answer at is unfit place) (stopped {fault = f} h) =
      absurd (never_stopped (leaves b) pivots f answer h is)
  outcome_once x y (at_carrying_back answer at {place = p} is unfit place)
      (at_carrying_back other there {place = q} was misfit other_place) =
      let same = answered_once (leaves b) pivots answer other is was in
      let here = (first_unfit_told b.bridging other).once at there
      (subst (λ a. IsFirstUnfitAddress b.bridging a at) same unfit) misfit in
      ap (λ p. Err (Overflow p))
      (same_Some _ _ (sym place ∙ ap (place_at s.model) here ∙ other_place))
  outcome_once x y (at_carrying_back answer at is unfit place) (answered other was fits) =
      absurd ((first_unfit_told b.bridging other).unfit at
      (subst (λ a. IsFirstUnfitAddress b.bridging a at)
      (answered_once (leaves b) pivots answer other is was) unfit) fits)
  outcome_once x y (answered answer is fits) (stopped {fault = f} h) =
      absurd (never_stopped (leaves b) pivots f answer h is)
  outcome_once x y (answered answer is fits) (at_carrying_back other at was unfit place) =
      absurd ((first_unfit_told b.bridging answer).unfit at
      (subst (λ a. IsFirstUnfitAddress b.bridging a at)
      (answered_once (leaves b) pivots other answer was is) unfit) fits)
  outcome_once x y (answered answer is fits) (answered other was fit) =
      ap (λ a. Ok (certificate_of b.bridging a))
      (answered_once (leaves b) pivots answer other is was)

-- ---- of any

module _ (s : CacheState) (costly : IsCostly (graph_of s.setting)) (pivots : ℕ) where
  abbrev OutcomeBy : Result Certificate OptFault → FreshBridging s.setting s.model → Type 0
  OutcomeBy result bridging =
      (made : is_made bridging ≡ true)
      → Outcome {s = s} (record { bridging = bridging; made = made }) pivots result

  by_any_reasons : (b : FreshBridging s.setting s.model) (chosen : AreChoices s.setting b.choice)
      (made : is_made b ≡ true) {result : Result Certificate OptFault}
      → Outcome {s = s} (record { bridging = by_reasons b chosen; made = made }) pivots result
      → Outcome {s = s} (record { bridging = b; made = made }) pivots result
  by_any_reasons b chosen made (stopped h) = stopped h
  by_any_reasons b chosen made (at_carrying_back answer at is unfit place) =
      at_carrying_back answer at is unfit place
  by_any_reasons b chosen made (answered answer is fits) = answered answer is fits

  outcome_by : (result : Result Certificate OptFault) (one other : Bridging s)
      → Outcome one pivots result → Outcome other pivots result
  outcome_by result one other h =
      of_any_bridging costly (OutcomeBy result)
      (λ b chosen of made. by_any_reasons b chosen made (of made)) one.bridging other.bridging
      (λ made. subst
      (λ m. Outcome {s = s} (record { bridging = one.bridging; made = m }) pivots result)
      (Bool-set _ _ one.made made) h)
      other.made

  -- no solver is attached, or a bridging has the outcome
  answered_or_not : (x : Result Certificate OptFault) → x ≢ Err Memory → IsOptimized s pivots x
      → (s.attached ≡ false) × (x ≡ Err NotAttached)
      ⊎ (s.attached ≡ true) × ((b : Bridging s) × Outcome b pivots x)
  answered_or_not (Ok c) is h = inr h
  answered_or_not (Err NotAttached) is h = inl (h, refl)
  answered_or_not (Err (TooLarge cells)) is h = inr h
  answered_or_not (Err (Overflow place)) is h = inr h
  answered_or_not (Err (Limit n)) is h = inr h
  answered_or_not (Err Memory) is h = absurd (is refl)

  -- one result, unless memory runs out
  pub optimized_once : (x y : Result Certificate OptFault) → x ≢ Err Memory → y ≢ Err Memory
      → IsOptimized s pivots x → IsOptimized s pivots y → x ≡ y
  optimized_once x y m n h k = by (answered_or_not x m h) (answered_or_not y n k)
    where
      by : (s.attached ≡ false) × (x ≡ Err NotAttached)
          ⊎ (s.attached ≡ true) × ((b : Bridging s) × Outcome b pivots x)
          → (s.attached ≡ false) × (y ≡ Err NotAttached)
          ⊎ (s.attached ≡ true) × ((b : Bridging s) × Outcome b pivots y)
          → x ≡ y
      by (inl p) (inl q) = p.1 ∙ sym q.1
      by (inl p) (inr q) = absurd (true≢false (sym q.0 ∙ p.0))
      by (inr p) (inl q) = absurd (true≢false (sym p.0 ∙ q.0))
      by (inr p) (inr q) =
          outcome_once q.1.0 pivots x y (outcome_by x p.1.0 q.1.0 p.1.1) q.1.1
