-- Shelves in memory as their callers see them.
use Rattle.std.specs.Prelude.{ℕ, List, refl}
use Rattle.std.specs.Coded.{Coded, code_by, coded×, coded_ℕ, coded_list}
use Rattle.std.specs.FinMap as finite
use Rattle.io_face.specs.Fault.{next_count}
use Rattle.io_face.specs.Plan.{FaultPlan, after_success, after_failure}
use Rattle.io_face.specs.Shelf.{FilesByName}

-- files by their names, and how many fetches failed
pub record Archive : Type 0 where
  pub files : FilesByName
  pub faults : ℕ

-- files by their names, and which fetches fail
pub record PlannedArchive : Type 0 where
  pub files : FilesByName
  pub plan : FaultPlan

abbrev files_code : Coded FilesByName
files_code = finite.code (coded_list coded_ℕ) (coded_list coded_ℕ)

-- an archive is stored as the pair of its fields
abbrev pub archive_code : Coded Archive
archive_code =
    code_by (FilesByName × ℕ) (coded× files_code coded_ℕ)
    (λ a. (a.files, a.faults)) (λ p. record { files = p.0; faults = p.1 }) (λ _. refl)

abbrev plan_code : Coded FaultPlan
plan_code =
    code_by (List ℕ × (ℕ × ℕ)) (coded× (coded_list coded_ℕ) (coded× coded_ℕ coded_ℕ))
    (λ p. (p.fails, (p.made, p.faults)))
    (λ p. record { fails = p.0; made = p.1.0; faults = p.1.1 }) (λ _. refl)

-- and so is one with a plan
abbrev pub planned_archive_code : Coded PlannedArchive
planned_archive_code =
    code_by (FilesByName × FaultPlan) (coded× files_code plan_code)
    (λ a. (a.files, a.plan)) (λ p. record { files = p.0; plan = p.1 }) (λ _. refl)

-- the archive after a fetch that failed
abbrev pub with_fault : Archive → Archive
with_fault archive = record archive { faults = next_count archive.faults }

-- the archive after a fetch that failed, and after another
abbrev pub archive_after_failure : PlannedArchive → PlannedArchive
archive_after_failure archive = record archive { plan = after_failure archive.plan }

abbrev pub archive_after : PlannedArchive → PlannedArchive
archive_after archive = record archive { plan = after_success archive.plan }
