-- Two sessions whose models are the same up to their numbers, with equal tables and families,
-- answer an optimise alike, and a look at the solver's model.
use Rattle.std.specs.Prelude.{◌≡◌, ◌≢◌, Bool, true, false, ℕ, Result, Ok, Err, refl}
use Rattle.std.proofs.Common.{ap, subst, sym, ◌∙◌}
use Rattle.bridge_graph.specs.Hypergraph.{IsCostly}
use Rattle.bridged_report.specs.Lines.{bridged_text}
use Rattle.cache_layer.specs.Outcome.{IsOptimized}
use Rattle.cache_layer.specs.CacheState.{Bridging, CacheState, leaves}
use Rattle.cache_layer.specs.declared.fault.OptFault.{OptFault}
use Rattle.cache_layer.specs.declared.fault.OptFault.TheVariants as opt
use Rattle.certificates.specs.declared.certificate.Certificate.{Certificate}
use Rattle.edit_engine.specs.Script.{Optimizes, ShowsLeaves, optimize_answer}
use Rattle.fresh_bridging.specs.OnceLaws.{same_leaves}
use Rattle.fresh_bridging.specs.TheRules.{graph_of}
use Rattle.report_core.specs.declared.answer.Answer.{Answer}
use Rattle.report_core.specs.declared.answer.Answer.TheVariants.{Memory, Printed}
use Rattle.user_model.specs.Model.{ModelValue}
use Rattle.user_model.specs.SameUpToNumbers.{SameUpToNumbers}
use Rattle.user_model.specs.Valid.{IsValid}
use Rattle.renumbering_laws.specs.RenumberedModel.{Renumbering, renumbered_model}
use Rattle.renumbering_laws.specs.SameModelLaws.{AreRenumbered, renumbered_alike}
use Rattle.one_answer_laws.specs.OneOutcomeLaws.{optimized_once}
use Rattle.one_answer_laws.specs.RenumberedOutcomeLaws.{bridging_over, leaves_over, optimized_over, renumbered_state}
use Rattle.one_answer_laws.specs.RenumberedTextLaws.{bridged-renumbered, certificate_text-renumbered}

-- the same to the user: models that are valid and differ in their numbers alone, one table, the
-- same families, and both solvers attached or neither
pub record AreAlike (one other : CacheState) : Type 0 where
  pub valid : IsValid one.model
  pub other_valid : IsValid other.model
  pub model : SameUpToNumbers one.model other.model
  pub setting : one.setting ≡ other.setting
  pub attached : one.attached ≡ other.attached

-- ---- the texts

answer-renumbered : (ν : Renumbering) (model : ModelValue) (x : Result Certificate OptFault)
    → optimize_answer (renumbered_model ν model) x ≡ optimize_answer model x
answer-renumbered ν model (Ok c) = ap Printed (certificate_text-renumbered ν model c)
answer-renumbered ν model _ = refl

given_without_memory : (model : ModelValue) (given : Result Certificate OptFault) (answer : Answer)
    → answer ≡ optimize_answer model given → answer ≢ Memory → given ≢ Err opt.Memory
given_without_memory model given answer e fit same = fit (e ∙ ap (optimize_answer model) same)

-- ---- one state

module _ (s : CacheState) (costly : IsCostly (graph_of s.setting)) where
  optimized_at : (t : CacheState) → s ≡ t → (pivots : ℕ) (x y : Result Certificate OptFault)
      → x ≢ Err opt.Memory → y ≢ Err opt.Memory → IsOptimized s pivots x → IsOptimized t pivots y
      → optimize_answer s.model x ≡ optimize_answer t.model y
  optimized_at t same pivots x y m n h k =
      ap (optimize_answer s.model) (optimized_once s costly pivots x y m n h
      (subst (λ r. IsOptimized r pivots y) (sym same) k))
      ∙ ap (λ r. optimize_answer r.model y) same

  shown_at : (t : CacheState) → s ≡ t → (b : Bridging s) (c : Bridging t)
      → bridged_text s.model (leaves b) ≡ bridged_text t.model (leaves c)
  shown_at t same b =
      subst
      (λ r. (c : Bridging r)
      → bridged_text s.model (leaves b) ≡ bridged_text r.model (leaves c)) same
      (λ c. ap (bridged_text s.model) (same_leaves s.setting s.model costly b.bridging c.bridging))

-- ---- two states

module _ (one other : CacheState) (alike : AreAlike one other)
    (costly : IsCostly (graph_of one.setting)) where
  both : AreRenumbered one.model other.model
  both = renumbered_alike one.model other.model alike.valid alike.other_valid alike.model

  both_states : renumbered_state both.first one ≡ renumbered_state both.second other
  both_states = λ i. record {
    model = both.same i;
    setting = alike.setting i;
    attached = alike.attached i;
  }

  pub optimize_alike : (pivots : ℕ) (a b : Answer) (new after : CacheState) → a ≢ Memory
      → b ≢ Memory
      → Optimizes one pivots a new → Optimizes other pivots b after → a ≡ b
  optimize_alike pivots a b new after m n h k =
      h.2
      ∙ sym (answer-renumbered both.first one.model h.0)
      ∙ optimized_at (renumbered_state both.first one) costly (renumbered_state both.second other)
      both_states pivots h.0 k.0 (given_without_memory one.model h.0 a h.2 m)
      (given_without_memory other.model k.0 b k.2 n)
      (optimized_over both.first both.first_rises one pivots h.0 h.1.0)
      (optimized_over both.second both.second_rises other pivots k.0 k.1.0)
      ∙ answer-renumbered both.second other.model k.0
      ∙ sym k.2

  text_alike : (b : Bridging one) (c : Bridging other)
      → bridged_text one.model (leaves b) ≡ bridged_text other.model (leaves c)
  text_alike b c =
      sym (bridged-renumbered both.first both.first_rises one.model (leaves b)
      (leaves (bridging_over both.first both.first_rises one b))
      (leaves_over both.first both.first_rises one b))
      ∙ shown_at (renumbered_state both.first one) costly (renumbered_state both.second other)
      both_states (bridging_over both.first both.first_rises one b)
      (bridging_over both.second both.second_rises other c)
      ∙ bridged-renumbered both.second both.second_rises other.model (leaves c)
      (leaves (bridging_over both.second both.second_rises other c))
      (leaves_over both.second both.second_rises other c)

  shown_alike : (attached : Bool) (a b : Answer) (new after : CacheState)
      → ShowsLeaves attached one a new
      → ShowsLeaves attached other b after → a ≡ b
  shown_alike true a b new after h k =
      h.1.0 ∙ ap Printed (text_alike h.0 k.0) ∙ sym k.1.0
  shown_alike false a b new after h k = h.0 ∙ sym k.0

  pub show_alike : (a b : Answer) (new after : CacheState) → ShowsLeaves one.attached one a new
      → ShowsLeaves other.attached other b after → a ≡ b
  show_alike a b new after h k =
      shown_alike one.attached a b new after h
      (subst (λ attached. ShowsLeaves attached other b after) (sym alike.attached) k)
