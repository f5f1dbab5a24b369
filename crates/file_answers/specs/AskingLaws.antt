-- What holds of an answer, unless memory ran out.
use Rattle.std.specs.Prelude.{◌≡◌, ◌≢◌, true, false, Result, Ok, Err, IsErr, OnOk}
use Rattle.std.proofs.Common.{sym, true≢false}
use Rattle.mof_fetch.specs.declared.fault.FileFault.{FileFault}
use Rattle.mof_fetch.specs.declared.fault.FileFault.TheVariants.{Memory}

pub on_ok : {A E : Type 0} (r : Result A E) (P : Type 0) → P → OnOk r P
on_ok (Ok answer) P p = p
on_ok (Err memory) P p = tt

-- where a file's fault was told
pub on_fault : {A E : Type 0} (fault : FileFault) (r : Result A E) (P : Type 0)
    → (fault ≡ Memory → IsErr r) → (fault ≢ Memory → P) → OnOk r P
on_fault fault (Ok answer) P memory p = p (λ e. true≢false (sym (memory e)))
on_fault fault (Err reason) P memory p = tt
