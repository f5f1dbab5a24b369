-- Verdicts, by what the calls under them say.
use Rattle.std.proofs.Common.{◌≡◌, ◌≤◌, ℕ, Bool, true, false, List, length, refl, subst, sym, inl, inr, Option, Some, Result, Ok, Err, true≢false}
use Rattle.std.specs.Prelude.{IfOk, IfSome, if◌then◌else◌}
use Rattle.ratio_core.specs.declared.fault.NumberFault.{NumberFault}
use Rattle.ratio_core.specs.declared.fault.NumberFault.TheVariants as number
use Rattle.cert_core.specs.Checked.{Checks, model_of}
use Rattle.certificates.specs.Points.{variables_of}
use Rattle.cert_text.specs.Reading.{certificate_of}
use Rattle.cert_text.specs.ReadsBack.{HasItsEntries}
use Rattle.certificates.specs.declared.certificate.Certificate.{Certificate}
use Rattle.file_answers.specs.FileAnswers.{refused}
use Rattle.io_face.specs.Shelf.{Gives, file_limit}
use Rattle.io_face.specs.Told.{Told}
use Rattle.lists.specs.declared.memory.Memory.{Memory}
use Rattle.report_core.specs.declared.answer.Answer.{Answer}
use Rattle.report_core.specs.declared.refused.Place.TheVariants.{Check}
use Rattle.report_core.specs.declared.refused.Refused.TheVariants.{Overflow}
use Rattle.user_model.specs.Model.{ModelValue}
use Rattle.user_model.specs.declared.group.Group.{Group}
use Rattle.user_model.specs.declared.objective.Objective.{Objective}
use Rattle.user_model.specs.declared.row.Row.{Row}
use Rattle.user_model.specs.declared.undo.NextNumbers.{NextNumbers}
use Rattle.certificate_check.specs.Verdict.{FetchesText, Judges, JudgesText, no, yes}

if_ok : (P Q : Answer → Type 0) (r : Result Answer Memory)
    → ((answer : Answer) → P answer → Q answer) → IfOk r P → IfOk r Q
if_ok P Q (Ok answer) h p = h answer p
if_ok P Q (Err memory) h p = tt

-- what was checked of a model's parts is checked of the model
checks_model : (model : ModelValue) (groups : List Group) (rows : List Row) (objective : Objective)
    (result : Result Bool NumberFault) (c : Certificate)
    → groups ≡ model.groups → rows ≡ model.rows → objective ≡ model.objective
    → ((next : NextNumbers) → Checks (model_of groups rows objective next) result c)
    → Checks model result c
checks_model model groups rows objective result c g r o checks =
    subst (λ xs. Checks (model_of xs model.rows model.objective model.next) result c) g
    (subst (λ xs. Checks (model_of groups xs model.objective model.next) result c) r
    (subst (λ x. Checks (model_of groups rows x model.next) result c) o (checks model.next)))

judged : (model : ModelValue) (c : Certificate) (is_good : Bool) (answer : Answer)
    → HasItsEntries model.groups model.rows c → Checks model (Ok is_good) c
    → answer ≡ (if is_good then yes else no) → Judges model c answer
judged model c true answer entries checks is =
    inl (checks.1 (entries model.objective model.next), inl (checks.0.0 refl, is))
judged model c false answer entries checks is =
    inl (
      checks.1 (entries model.objective model.next),
      inr (λ good. true≢false (sym (checks.0.1 good)), is),
    )

pub judged_by_check : (model : ModelValue) (groups : List Group) (rows : List Row)
    (objective : Objective) (c : Certificate) (is_good : Bool) (r : Result Answer Memory)
    → HasItsEntries model.groups model.rows c
    → groups ≡ model.groups → rows ≡ model.rows → objective ≡ model.objective
    → ((next : NextNumbers) → Checks (model_of groups rows objective next) (Ok is_good) c)
    → IfOk r (λ answer. answer ≡ (if is_good then yes else no)) → IfOk r (Judges model c)
judged_by_check model groups rows objective c is_good r entries g rs o checks says =
    if_ok _ (Judges model c) r (λ answer is. judged model c is_good answer entries
    (checks_model model groups rows objective (Ok is_good) c g rs o checks) is) says

pub judged_by_overflow : (model : ModelValue) (groups : List Group) (rows : List Row)
    (objective : Objective) (c : Certificate) (reason : NumberFault) (r : Result Answer Memory)
    → reason ≡ number.Overflow
    → groups ≡ model.groups → rows ≡ model.rows → objective ≡ model.objective
    → ((next : NextNumbers) → Checks (model_of groups rows objective next) (Err reason) c)
    → IfOk r (λ answer. answer ≡ refused (Overflow Check)) → IfOk r (Judges model c)
judged_by_overflow model groups rows objective c reason r over g rs o checks says =
    let unfit : Checks model (Err number.Overflow) c =
    subst (λ e. Checks model (Err e) c) over (checks_model model groups rows objective
    (Err reason) c g rs o checks) in
    if_ok _ (Judges model c) r (λ answer is. inr (unfit.1, is)) says

-- the right numbers of entries of what was read
pub entries_of : (found : Option Certificate) (c : Certificate) (groups groups' : List Group)
    (rows rows' : List Row) → found ≡ Some c → groups ≡ groups' → rows ≡ rows'
    → IfSome found (HasItsEntries groups rows)
    → HasItsEntries groups' rows' c
entries_of found c groups groups' rows rows' is g r entries =
    subst (λ xs. HasItsEntries xs rows' c) g (subst (λ xs. HasItsEntries groups xs c) r
    (subst (λ o. IfSome o (HasItsEntries groups rows)) is entries))

-- the text that was fetched
pub judged_text : (shelf : Told) (model : ModelValue) (name name' text bytes : List ℕ)
    (r : Result Answer Memory) → name ≡ name' → text ≡ bytes → Gives shelf.files name (Ok bytes)
    → length bytes ≤ file_limit
    → IfOk r (JudgesText model (certificate_of (variables_of model.groups) model.rows text))
    → IfOk r (FetchesText shelf name' model)
judged_text shelf model name name' text bytes r named same gives fits judges =
    if_ok _ (FetchesText shelf name' model) r (λ answer judged. (
      Ok bytes,
      (subst (λ n. Gives shelf.files n (Ok bytes)) named gives, fits),
      subst (λ t. JudgesText model (certificate_of (variables_of model.groups) model.rows t) answer)
          same judged,
    )) judges
