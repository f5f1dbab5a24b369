-- An optimise of the renumbered model comes out the same, with the same certificate.
use Rattle.std.specs.Prelude.{◌≡◌, ◌-◌, ◌<◌, ◌≤◌, ◌^◌, ℕ, Result, Ok, Err, min, refl}
use Rattle.std.proofs.Common.{ap, subst, sym, ◌∙◌}
use Rattle.aff_core.specs.Address.{Address}
use Rattle.cache_layer.specs.Outcome.{IsFormMade, IsFormSolved, IsOptimized, IsReadBackAs, Outcome, Stops, answered, at_a_pivot, at_a_right_side, at_carrying_back, at_reading_back, form_in, out_of_pivots, stopped, too_large}
use Rattle.cache_layer.specs.CacheState.{Bridging, CacheState, leaves}
use Rattle.cache_layer.specs.declared.fault.OptFault.{OptFault}
use Rattle.cache_layer.specs.declared.fault.OptFault.TheVariants.{Limit, Memory, NotAttached, Overflow, TooLarge}
use Rattle.certificates.specs.declared.certificate.Certificate.{Certificate}
use Rattle.equality_form.specs.ReadBack.{AnswerByAddress, read_back}
use Rattle.leaf_model.specs.LeafModel.{LeafModel}
use Rattle.report_core.specs.Refused.{most_cells}
use Rattle.simplex_core.specs.Answer.{IsReadOff}
use Rattle.simplex_core.specs.StdForm.{equality_form}
use Rattle.simplex_core.specs.declared.answer.SolverAnswer.{SolverAnswer}
use Rattle.simplex_form.specs.TrailOutcome.{outcome}
use Rattle.renumbering_laws.specs.RenamedForm.{AnswersAgree, answer_fits, answer_fitted, cell_count-renamed, form-renamed, read_back-renamed, rights_fit, rights_fitted}
use Rattle.renumbering_laws.specs.RenamedItems.{IsRenaming}
use Rattle.renumbering_laws.specs.RenamedLeaves.{AreRenamedLeaves}
use Rattle.renumbering_laws.specs.RenumberedCertificateLaws.{certificate-renumbered}
use Rattle.renumbering_laws.specs.RenumberedModel.{IsRising, Renumbered, Renumbering, leaves-renumbered, made-renumbered, over, renumbered, renumbered_bridging, renumbered_model, renumbers}
use Rattle.one_answer_laws.specs.RenumberedFitLaws.{stage_answer}
use Rattle.one_answer_laws.specs.RenumberedTextLaws.{place-renumbered}

-- ---- leaf models

module _ (σ : Address → Address) (r : IsRenaming σ) (one other : LeafModel)
    (l : AreRenamedLeaves σ one other) (pivots : ℕ) where
  same_form : form_in other ≡ form_in one
  same_form = ap equality_form (form-renamed σ r one other l)

  made : IsFormMade one → IsFormMade other
  made h = record {
    cells = subst (λ n. n ≤ most_cells) (sym (cell_count-renamed σ r one other l)) h.cells;
    rights = rights_fit σ r one other l h.rights;
  }

  solved : (a : SolverAnswer) → IsFormSolved one pivots a → IsFormSolved other pivots a
  solved a h = record {
    made = made h.made;
    state = h.state;
    turn = h.turn;
    ends = ap (λ F. outcome F pivots) same_form ∙ h.ends;
    read = subst (λ F. IsReadOff F h.state h.turn a) (sym same_form) h.read;
  }

  stops : {fault : OptFault} → Stops one pivots fault → Stops other pivots fault
  stops (too_large more) =
      subst (λ n. Stops other pivots (TooLarge (min n (2 ^ 64 - 1))))
      (cell_count-renamed σ r one other l)
      (too_large (subst (λ n. most_cells < n) (sym (cell_count-renamed σ r one other l)) more))
  stops (at_a_right_side cells unfit) =
      at_a_right_side
      (subst (λ n. n ≤ most_cells) (sym (cell_count-renamed σ r one other l)) cells)
      (λ h. unfit (rights_fitted σ r one other l h))
  stops (at_a_pivot is state out) =
      at_a_pivot (made is) state (ap (λ F. outcome F pivots) same_form ∙ out)
  stops (out_of_pivots is state out) =
      out_of_pivots (made is) state (ap (λ F. outcome F pivots) same_form ∙ out)
  stops (at_reading_back a is unfit) =
      at_reading_back a (solved a is) (λ h. unfit (answer_fitted σ r one other l a h))

  answers : (a : AnswerByAddress) → IsReadBackAs one pivots a
      → (b : AnswerByAddress) × IsReadBackAs other pivots b × AnswersAgree σ a b
  answers a h = (
    read_back other h.form_answer,
    record {
      form_answer = h.form_answer;
      solved = solved h.form_answer h.solved;
      fits = answer_fits σ r one other l h.form_answer h.fits;
      read = refl;
    },
    subst (λ b. AnswersAgree σ b (read_back other h.form_answer)) (sym h.read)
        (read_back-renamed σ r one other l h.form_answer),
  )

-- ---- states

abbrev pub renumbered_state : Renumbering → CacheState → CacheState
renumbered_state ν s = record s { model = renumbered_model ν s.model }

module _ (ν : Renumbering) (rising : IsRising ν) (s : CacheState) where
  abbrev moved : (b : Bridging s) → Renumbered ν rising b.bridging
  moved b = renumbered_bridging ν rising b.bridging

  abbrev pub bridging_over : Bridging s → Bridging (renumbered_state ν s)
  bridging_over b = record {
    bridging = over ν rising b.bridging (moved b);
    made = made-renumbered ν rising b.bridging (moved b) ∙ b.made;
  }

  pub leaves_over : (b : Bridging s)
      → AreRenamedLeaves (renumbered ν) (leaves b) (leaves (bridging_over b))
  leaves_over b = leaves-renumbered ν rising b.bridging (moved b)

  outcome_over : (b : Bridging s) (pivots : ℕ) {x : Result Certificate OptFault}
      → Outcome b pivots x → Outcome (bridging_over b) pivots x
  outcome_over b pivots (stopped h) =
      stopped (stops (renumbered ν) (renumbers ν rising) (leaves b) (leaves (bridging_over b))
      (leaves_over b) pivots h)
  outcome_over b pivots (at_carrying_back a at is unfit told) =
      let c = answers (renumbered ν) (renumbers ν rising) (leaves b) (leaves (bridging_over b))
      (leaves_over b) pivots a is in
      at_carrying_back c.0 (renumbered ν at) c.1
      ((stage_answer ν rising b.bridging (moved b) a c.0 c.2).told at unfit)
      (place-renumbered ν rising s.model at ∙ told)
  outcome_over b pivots (answered a is fits) =
      let c = answers (renumbered ν) (renumbers ν rising) (leaves b) (leaves (bridging_over b))
      (leaves_over b) pivots a is in
      subst (λ d. Outcome (bridging_over b) pivots (Ok d))
      (certificate-renumbered ν rising b.bridging (moved b) a c.0 c.2)
      (answered c.0 c.1 ((stage_answer ν rising b.bridging (moved b) a c.0 c.2).fits fits))

  pub optimized_over : (pivots : ℕ) (x : Result Certificate OptFault) → IsOptimized s pivots x
      → IsOptimized (renumbered_state ν s) pivots x
  optimized_over pivots (Ok c) h = (h.0, (bridging_over h.1.0, outcome_over h.1.0 pivots h.1.1))
  optimized_over pivots (Err NotAttached) h = h
  optimized_over pivots (Err (TooLarge cells)) h =
      (h.0, (bridging_over h.1.0, outcome_over h.1.0 pivots h.1.1))
  optimized_over pivots (Err (Overflow place)) h =
      (h.0, (bridging_over h.1.0, outcome_over h.1.0 pivots h.1.1))
  optimized_over pivots (Err (Limit n)) h =
      (h.0, (bridging_over h.1.0, outcome_over h.1.0 pivots h.1.1))
  optimized_over pivots (Err Memory) h = h
