-- What is answered to the model with the mapped rows.
use Rattle.std.specs.Prelude.{◌≡◌, ◌≢◌, Some, None, Result, Ok, Err, IfOk, OnOk, refl}
use Rattle.std.proofs.Common.{ap, inl, inr, subst, sym, ◌∙◌}
use Rattle.std.proofs.lemmas.Result.{IfOk-weaker}
use Rattle.cert_text.specs.Text.{certificate_text}
use Rattle.certificates.specs.Good.{Good}
use Rattle.certificates.specs.Points.{variables_of}
use Rattle.certificates.specs.declared.certificate.Certificate.{Certificate}
use Rattle.file_command.specs.LoadingLaws.{shelf_fault}
use Rattle.fresh_bridging.specs.TheRules.{Setting}
use Rattle.lists.specs.declared.memory.Memory.{Memory as NoMemory}
use Rattle.map_file.specs.declared.file.MapFile.{MapFile}
use Rattle.mapped_model.specs.Answers.{MapsRows}
use Rattle.mapped_model.specs.Mapping.{Exceeds, IsRefused, Made}
use Rattle.mapped_model.specs.Stands.{StandsFor}
use Rattle.mapped_model.specs.TakenLaws.{good_mapped, good_shows}
use Rattle.mapped_model.specs.Tells.{TellsBack, taken_from}
use Rattle.mapped_model.specs.Uses.{uses_in}
use Rattle.mapped_model.specs.declared.fault.MappingFault.{MappingFault}
use Rattle.mapped_model.specs.declared.fault.MappingFault.TheVariants as fault
use Rattle.model_command.specs.Alone.{alone}
use Rattle.model_command.specs.Solved.{SaysSolved}
use Rattle.model_store.specs.Store.{StoredModel}
use Rattle.report_core.specs.declared.answer.Answer.{Answer}
use Rattle.report_core.specs.declared.answer.Answer.TheVariants.{Printed, ReadFault}
use Rattle.setmap_command.specs.Says.{SaysBy, SaysFile, SaysMappedCertificate}
use Rattle.setmap_command.specs.SaysLaws.{said_plain}
use Rattle.setmap_command.specs.Text.{bad_map, fault_answer}
use Rattle.user_model.specs.Model.{ModelValue}
use Rattle.user_model.specs.Valid.{IsValid}

module _ (model : ModelValue) (file : MapFile) (new : ModelValue)
    (told : Result Answer NoMemory) where
  -- ---- the certificate

  pub says_printed : (c back : Certificate) → StandsFor model (uses_in model file) new
      → IsValid new → Good new c → TellsBack file c (Ok back)
      → IfOk told (λ answer. answer
      ≡ Printed (certificate_text (variables_of new.groups) new.rows back))
      → IfOk told (SaysMappedCertificate model file new c)
  says_printed c back stands valid good tells =
      IfOk-weaker told
      (λ answer. answer ≡ Printed (certificate_text (variables_of new.groups) new.rows back))
      (SaysMappedCertificate model file new c)
      (λ answer is. (
        None,
        tells.0,
        (
          good_mapped model file new stands c good,
          good_shows model file new stands valid (taken_from file c)
              (good_mapped model file new stands c good),
          is ∙ ap (λ d. Printed (certificate_text (variables_of new.groups) new.rows d)) tells.1,
        ),
      ))

  pub says_unfit : (c : Certificate) (reason : MappingFault) → TellsBack file c (Err reason)
      → IfOk told (λ answer. answer ≡ fault_answer reason)
      → OnOk told (reason ≢ fault.Memory) → IfOk told (SaysMappedCertificate model file new c)
  says_unfit c (fault.BadMaps line) tells = absurd tells
  says_unfit c (fault.BadMap name) tells = absurd tells
  says_unfit c (fault.Refused refusal) tells = absurd tells
  says_unfit c (fault.Overflow row) tells = λ is not.
      IfOk-weaker told _ (SaysMappedCertificate model file new c)
      (λ answer e. (Some row, tells, e)) is
  says_unfit c fault.Memory tells = λ is not. by told not
    where
      by : (told : Result Answer NoMemory)
          → OnOk told (fault.Memory ≢ fault.Memory)
          → IfOk told (SaysMappedCertificate model file new c)
      by (Ok answer) not = absurd (not refl)
      by (Err e) not = tt

-- ---- the rows

module _ (setting : Setting) (file : MapFile) (old new : StoredModel)
    (told : Result Answer NoMemory) where
  pub says_mapped : (mapped : MapFile) → MapsRows old file (Ok mapped) new
      → StandsFor old.model (uses_in old.model file) new.model
      → ((model : ModelValue) → StandsFor model (uses_in model mapped) new.model
      → IfOk told (SaysSolved (SaysMappedCertificate model mapped new.model)
      (alone setting new.model)))
      → IfOk told (SaysFile setting file old.model)
  says_mapped mapped rows stands solved =
      IfOk-weaker told
      (SaysSolved (SaysMappedCertificate old.model file new.model) (alone setting new.model))
      (SaysFile setting file old.model)
      (λ answer said. subst (λ o. SaysBy setting file old.model o answer) (sym rows.0.lines)
      (inr (rows.0.maps, (Made new.model, rows.2, said))))
      (subst (λ f. IfOk told (SaysSolved (SaysMappedCertificate old.model f new.model)
      (alone setting new.model))) rows.1
      (solved old.model
      (subst (λ f. StandsFor old.model (uses_in old.model f) new.model) (sym rows.1) stands)))

  pub says_unmapped : (reason : MappingFault) → MapsRows old file (Err reason) new
      → IfOk told (λ answer. answer ≡ fault_answer reason)
      → OnOk told (reason ≢ fault.Memory) → IfOk told (SaysFile setting file old.model)
  says_unmapped (fault.BadMaps line) rows = λ is not.
      IfOk-weaker told _ (SaysFile setting file old.model)
      (λ answer e. subst (λ o. SaysBy setting file old.model o answer) (sym rows) e) is
  says_unmapped (fault.BadMap name) rows = λ is not.
      IfOk-weaker told _ (SaysFile setting file old.model)
      (λ answer e. subst (λ o. SaysBy setting file old.model o answer) (sym rows.0)
      (inl (rows.1.0, rows.1.1, e ∙ ap bad_map rows.1.2))) is
  says_unmapped (fault.Refused refusal) rows = λ is not.
      IfOk-weaker told _ (SaysFile setting file old.model)
      (λ answer e. subst (λ o. SaysBy setting file old.model o answer) (sym rows.0.lines)
      (inr (rows.0.maps, (IsRefused refusal, rows.1, e)))) is
  says_unmapped (fault.Overflow row) rows = λ is not.
      IfOk-weaker told _ (SaysFile setting file old.model)
      (λ answer e. subst (λ o. SaysBy setting file old.model o answer) (sym rows.0.lines)
      (inr (rows.0.maps, (Exceeds row, rows.1, e)))) is
  says_unmapped fault.Memory rows = λ is not. by told not
    where
      by : (told : Result Answer NoMemory)
          → OnOk told (fault.Memory ≢ fault.Memory)
          → IfOk told (SaysFile setting file old.model)
      by (Ok answer) not = absurd (not refl)
      by (Err e) not = tt

-- no fault of the shelf is said
pub never_failed : (setting : Setting) (file : MapFile) (model : ModelValue)
    (told : Result Answer NoMemory) → IfOk told (SaysFile setting file model)
    → told ≢ Ok ReadFault
never_failed setting file model told h e =
    never (said_plain setting file model ReadFault
    (subst (λ t. IfOk t (SaysFile setting file model)) e h))
  where
    never : shelf_fault ReadFault ≡ None → ⊥
    never f = cc
