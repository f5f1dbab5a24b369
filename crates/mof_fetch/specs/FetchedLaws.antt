-- Where no file was fetched, the shelf may give none.
use Rattle.std.specs.Prelude.{◌≡◌, ℕ, List, Option, Some, None, Result, Ok, Err, refl}
use Rattle.std.proofs.Common.{sym, ap, subst, ◌∙◌}
use Rattle.std.proofs.lemmas.Option.{none-some, same_Some}
use Rattle.io_face.specs.Told.{MayGive, Told}
use Rattle.io_face.specs.declared.shelf.FetchFault.{FetchFault}
use Rattle.io_face.specs.declared.shelf.FetchFault.TheVariants as fetch
use Rattle.mof_fetch.specs.Fetched.{IsReadOf, read_of, walked}
use Rattle.mof_fetch.specs.declared.fault.FileFault.{FileFault}
use Rattle.mof_fetch.specs.declared.fault.FileFault.TheVariants.{Failed, TooLong}
use Rattle.mof_read.specs.Edits.{edits_in}
use Rattle.mof_values.specs.Walked.{Walked}
use Rattle.mof_values.specs.declared.fault.MofFault.TheVariants as file
use Rattle.user_model.specs.declared.edit.Edit.{Edit}

-- the fault of the shelf, if it is one
abbrev pub shelf_fault : Result (List Edit) FileFault → Option FetchFault
shelf_fault (Err Failed) = Some fetch.Failed
shelf_fault (Err TooLong) = Some fetch.TooLong
shelf_fault read = None

walked_within : (walk : Walked (List Edit)) → shelf_fault (walked walk) ≡ None
walked_within (Ok edits) = refl
walked_within (Err (file.NotJson place)) = refl
walked_within (Err _) = refl

pub may_fail : (shelf : Told) (name : List ℕ) (read : Result (List Edit) FileFault)
    (reason : FetchFault) → shelf_fault read ≡ Some reason → IsReadOf shelf name read
    → MayGive shelf name (Err reason)
may_fail shelf name read reason is (given, may, from) =
    by given may (sym (ap shelf_fault from) ∙ is)
  where
    by : (given : Result (List ℕ) FetchFault) → MayGive shelf name given
        → shelf_fault (read_of given) ≡ Some reason → MayGive shelf name (Err reason)
    by (Ok bytes) may e = absurd (none-some reason (sym (walked_within (edits_in bytes)) ∙ e))
    by (Err fetch.Failed) may e =
        subst (λ (r : FetchFault). MayGive shelf name (Err r))
        (same_Some fetch.Failed reason e) may
    by (Err fetch.TooLong) may e =
        subst (λ (r : FetchFault). MayGive shelf name (Err r))
        (same_Some fetch.TooLong reason e) may
    by (Err fetch.Memory) may e = absurd (none-some reason e)
