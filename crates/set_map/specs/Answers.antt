-- What the reading of a pair of matrices answers.
use Rattle.std.specs.Prelude.{◌≡◌, Result, Ok, Err}
use Rattle.ratio_core.specs.declared.fault.NumberFault.{NumberFault}
use Rattle.ratio_core.specs.declared.fault.NumberFault.TheVariants as number
use Rattle.set_map.specs.declared.fault.MapFault.{MapFault}
use Rattle.set_map.specs.declared.fault.MapFault.TheVariants.{Memory, NotInverse, Overflow}
use Rattle.set_map.specs.Fitting.{BothProductsFit}
use Rattle.set_map.specs.Matrices.{AreInverse, Matrix}

abbrev pub fault_of : NumberFault → MapFault
fault_of number.Overflow = Overflow
fault_of number.Memory = Memory

-- the matrix, where the other is its inverse; or which of the faults it is
abbrev pub ReadsMatrix : Matrix → Matrix → Result Matrix MapFault → Type 0
ReadsMatrix a b (Ok m) = (m ≡ a) × BothProductsFit a b × AreInverse a b
ReadsMatrix a b (Err NotInverse) = BothProductsFit a b × ¬ (AreInverse a b)
ReadsMatrix a b (Err Overflow) = ¬ (BothProductsFit a b)
ReadsMatrix a b (Err Memory) = Unit {0}
