-- What is taken before a fault.
use Rattle.std.proofs.Common.{◌≡◌, ℕ, ◌+◌, ◌-◌, ◌≤◌, List, ◌++◌, length, arith, length-append}
use Rattle.std.specs.Prelude.{Option}
use Rattle.io_face.specs.Source.{Takes, TakesAtMost}
use Rattle.io_face.specs.SourceLaws.{Takes-append}

-- a text that is short enough, and then no more than is left
pub taken_after : (first second third : Option (List ℕ)) (text : List ℕ) (most : ℕ)
    → Takes first second text → length text ≤ most
    → TakesAtMost (most + 1 - length text) second third → TakesAtMost (most + 1) first third
taken_after first second third text most p h lost = record {
  taken = text ++ lost.taken;
  takes = Takes-append first second third text lost.taken p lost.takes;
  few = sum_lem (length text) (length lost.taken) (length (text ++ lost.taken)) most h lost.few
      (length-append text lost.taken);
}
  where
    sum_lem : (t l s m : ℕ) → t ≤ m → l ≤ m + 1 - t → s ≡ t + l → s ≤ m + 1
    sum_lem t l s m h k e = omega (arith, h, k, e)
