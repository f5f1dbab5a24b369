-- Where there is no verdict for want of a file.
use Rattle.std.specs.Prelude.{◌≡◌, ℕ, ◌⊎◌, List, Option, Some, None, Result, Ok, Err, refl}
use Rattle.std.proofs.Common.{sym, ap, ◌∙◌, subst, inl, inr}
use Rattle.std.proofs.lemmas.Option.{none-some, same_Some}
use Rattle.model_load.specs.Loads.{after_edits}
use Rattle.certificates.specs.Points.{variables_of}
use Rattle.cert_text.specs.Reading.{certificate_of}
use Rattle.certificates.specs.declared.certificate.Certificate.{Certificate}
use Rattle.io_face.specs.Told.{MayGive, Told}
use Rattle.io_face.specs.declared.shelf.FetchFault.{FetchFault}
use Rattle.io_face.specs.declared.shelf.FetchFault.TheVariants as fetch
use Rattle.mof_fetch.specs.Fetched.{IsReadOf}
use Rattle.mof_fetch.specs.FetchedLaws.{may_fail}
use Rattle.mof_fetch.specs.declared.fault.FileFault.{FileFault}
use Rattle.mof_fetch.specs.declared.fault.FileFault.TheVariants as file
use Rattle.report_core.specs.declared.answer.Answer.{Answer}
use Rattle.report_core.specs.declared.answer.Answer.TheVariants.{ReadFault, TooLong}
use Rattle.user_model.specs.Model.{ModelValue, empty_model}
use Rattle.user_model.specs.declared.edit.Edit.{Edit}
use Rattle.user_model.specs.declared.refusal.Refusal.{Refusal}
use Rattle.certificate_check.specs.Verdict.{FetchesText, IsVerdict, Judges, JudgesFile, JudgesMade, JudgesRead, JudgesText, MakesModel}

-- one of two files may not be given, for this reason: the model's, or where that makes a model the
-- certificate's
pub record OneFails (shelf : Told) (model certificate : List ℕ) (reason : FetchFault) : Type 0 where
  pub name : List ℕ
  pub one : (name ≡ model) ⊎ ((name ≡ certificate) × MakesModel shelf model)
  pub gave : MayGive shelf name (Err reason)

-- the fault of the shelf that an answer tells, if it does
abbrev pub shelf_fault : Answer → Option FetchFault
shelf_fault ReadFault = Some fetch.Failed
shelf_fault TooLong = Some fetch.TooLong
shelf_fault answer = None

-- an answer that tells none
tells_none : {answer said : Answer} {reason : FetchFault} → answer ≡ said
    → shelf_fault said ≡ None → shelf_fault answer ≡ Some reason → ⊥
tells_none {answer} {said} {reason} is none tells =
    none-some reason (sym (ap shelf_fault is ∙ none) ∙ tells)

tells_this : {answer said : Answer} {this reason : FetchFault} → answer ≡ said
    → shelf_fault said ≡ Some this → shelf_fault answer ≡ Some reason → this ≡ reason
tells_this {answer} {said} {this} {reason} is some tells =
    same_Some this reason (sym (ap shelf_fault is ∙ some) ∙ tells)

judged : (model : ModelValue) (c : Certificate) (answer : Answer) (reason : FetchFault)
    → Judges model c answer → shelf_fault answer ≡ Some reason → ⊥
judged model c answer reason (inl (fits, inl (good, is))) tells = tells_none is refl tells
judged model c answer reason (inl (fits, inr (bad, is))) tells = tells_none is refl tells
judged model c answer reason (inr (unfit, is)) tells = tells_none is refl tells

judged_text : (model : ModelValue) (found : Option Certificate) (answer : Answer)
    (reason : FetchFault) → JudgesText model found answer → shelf_fault answer ≡ Some reason → ⊥
judged_text model None answer reason is tells = tells_none is refl tells
judged_text model (Some c) answer reason judges tells = judged model c answer reason judges tells

-- the certificate's file
text_fails : (shelf : Told) (first certificate : List ℕ) (model : ModelValue) (answer : Answer)
    (reason : FetchFault) → MakesModel shelf first → FetchesText shelf certificate model answer
    → shelf_fault answer ≡ Some reason → OneFails shelf first certificate reason
text_fails shelf first certificate model answer reason makes (given, may, judges) tells =
    by given may judges
  where
    by : (given : Result (List ℕ) FetchFault) → MayGive shelf certificate given
        → JudgesFile model given answer → OneFails shelf first certificate reason
    by (Ok text) may judges = absurd (judged_text model
        (certificate_of (variables_of model.groups) model.rows text) answer reason judges tells)
    by (Err fetch.Failed) may is = record {
      name = certificate;
      one = inr (refl, makes);
      gave = subst (λ (r : FetchFault). MayGive shelf certificate (Err r))
          (tells_this is refl tells) may;
    }
    by (Err fetch.TooLong) may is = record {
      name = certificate;
      one = inr (refl, makes);
      gave = subst (λ (r : FetchFault). MayGive shelf certificate (Err r))
          (tells_this is refl tells) may;
    }
    by (Err fetch.Memory) may is = absurd (tells_none is refl tells)

made_fails : (shelf : Told) (first certificate : List ℕ) (edits : List Edit)
    (made : Result ModelValue Refusal) (answer : Answer) (reason : FetchFault)
    → IsReadOf shelf first (Ok edits) → after_edits empty_model edits ≡ made
    → JudgesMade shelf certificate made answer
    → shelf_fault answer ≡ Some reason → OneFails shelf first certificate reason
made_fails shelf first certificate edits (Ok model) answer reason read is judges tells =
    text_fails shelf first certificate model answer reason
    record { edits = edits; model = model; read = read; made = is } judges tells
made_fails shelf first certificate edits (Err refusal) answer reason read made is tells =
    absurd (tells_none is refl tells)

-- the model's file, or the certificate's
read_fails : (shelf : Told) (first certificate : List ℕ) (read : Result (List Edit) FileFault)
    (answer : Answer) (reason : FetchFault) → IsReadOf shelf first read
    → JudgesRead shelf certificate read answer → shelf_fault answer ≡ Some reason
    → OneFails shelf first certificate reason
read_fails shelf first certificate (Ok edits) answer reason of judges tells =
    made_fails shelf first certificate edits (after_edits empty_model edits) answer reason of refl
    judges tells
read_fails shelf first certificate (Err file.Failed) answer reason of is tells = record {
  name = first;
  one = inl refl;
  gave = may_fail shelf first (Err file.Failed) reason (ap Some (tells_this is refl tells)) of;
}
read_fails shelf first certificate (Err file.TooLong) answer reason of is tells = record {
  name = first;
  one = inl refl;
  gave = may_fail shelf first (Err file.TooLong) reason (ap Some (tells_this is refl tells)) of;
}
read_fails shelf first certificate (Err (file.Unread kind place)) answer reason of is tells =
    absurd (tells_none is refl tells)
read_fails shelf first certificate (Err file.Memory) answer reason of is tells =
    absurd (tells_none is refl tells)

-- ---- the two faults

pub fails_by : (shelf : Told) (model certificate : List ℕ)
    → IsVerdict shelf model certificate ReadFault → OneFails shelf model certificate fetch.Failed
fails_by shelf model certificate (read, of, judges) =
    read_fails shelf model certificate read ReadFault fetch.Failed of judges refl

pub too_long_by : (shelf : Told) (model certificate : List ℕ)
    → IsVerdict shelf model certificate TooLong → OneFails shelf model certificate fetch.TooLong
too_long_by shelf model certificate (read, of, judges) =
    read_fails shelf model certificate read TooLong fetch.TooLong of judges refl
