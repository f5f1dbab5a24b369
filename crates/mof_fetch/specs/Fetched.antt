-- What a file of a shelf is read as.
use Rattle.std.specs.Prelude.{◌≡◌, ℕ, List, Result, Ok, Err}
use Rattle.io_face.specs.Told.{MayGive, Told}
use Rattle.io_face.specs.declared.shelf.FetchFault.{FetchFault}
use Rattle.io_face.specs.declared.shelf.FetchFault.TheVariants as fetch
use Rattle.mof_fetch.specs.declared.fault.FileFault.{FileFault}
use Rattle.mof_fetch.specs.declared.fault.FileFault.TheVariants.{Failed, Memory, TooLong, Unread}
use Rattle.mof_read.specs.Edits.{edits_in}
use Rattle.mof_values.specs.Walked.{Walked}
use Rattle.mof_values.specs.declared.fault.FaultKind.TheVariants as kind
use Rattle.mof_values.specs.declared.fault.MofFault.{MofFault}
use Rattle.mof_values.specs.declared.fault.MofFault.TheVariants as file
use Rattle.user_model.specs.declared.edit.Edit.{Edit}

-- a fault of a file by its kind
abbrev pub fault_of : MofFault → FileFault
fault_of (file.NotJson place) = Unread kind.NotJson place
fault_of (file.Shape place) = Unread kind.Shape place
fault_of (file.Version place) = Unread kind.Version place
fault_of (file.UnknownKind place) = Unread kind.UnknownKind place
fault_of (file.BadNumber place) = Unread kind.BadNumber place
fault_of (file.DuplicateName place) = Unread kind.DuplicateName place
fault_of (file.UnknownName place) = Unread kind.UnknownName place
fault_of (file.Dimension place) = Unread kind.Dimension place
fault_of file.Memory = Memory

-- the edits that a walk over a file gives, or its fault
abbrev pub walked : Walked (List Edit) → Result (List Edit) FileFault
walked (Ok edits) = Ok edits
walked (Err fault) = Err (fault_of fault)

-- the edits of what was fetched, or why there are none
abbrev pub read_of : Result (List ℕ) FetchFault → Result (List Edit) FileFault
read_of (Ok bytes) = walked (edits_in bytes)
read_of (Err fetch.Failed) = Err Failed
read_of (Err fetch.TooLong) = Err TooLong
read_of (Err fetch.Memory) = Err Memory

-- the file of a name on a shelf may be read as this
abbrev pub IsReadOf : Told → List ℕ → Result (List Edit) FileFault → Type 0
IsReadOf shelf name read =
    (given : Result (List ℕ) FetchFault) × MayGive shelf name given × (read ≡ read_of given)
