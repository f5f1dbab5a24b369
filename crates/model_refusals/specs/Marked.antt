-- Hashes that are marked, three bits for each. Private clauses alone cite it.
use Rattle.std.specs.Prelude.{ℕ, ◌/◌, ◌%◌, ◌^◌, Bool, ◌&&◌, ◌==◌, slice_index}
use Rattle.std.specs.Int.{bit_at}
use Rattle.model_refusals.specs.declared.marks.Marks.{Marks}

abbrev pub has_bit : Marks → ℕ → Bool
has_bit marks n = bit_at (slice_index marks.words (n / 64)) (n % 64) == 1

abbrev pub is_marked : Marks → ℕ → Bool
is_marked marks hash = has_bit marks (hash / 2 ^ 45 % 524288)
    && (has_bit marks (hash / 2 ^ 26 % 524288) && has_bit marks (hash / 2 ^ 7 % 524288))
