-- The names of maps.
use Rattle.std.specs.Prelude.{◌≡◌, ℕ, List, None}
use Rattle.std.specs.Str.{IsUtf8, is_utf8}
use Rattle.std.proofs.lemmas.Bool.{cond-false, cond-true, false_from_ne_true}
use Rattle.std.proofs.lemmas.Str.{IsUtf8-from_is_utf8, is_utf8-from_IsUtf8}
use Rattle.map_file.specs.Lines.{map_name_of, unless_empty}

pub map_name-utf8 : (word : List ℕ) → IsUtf8 word → map_name_of word ≡ unless_empty word
unfolding map_name_of
map_name-utf8 word h = cond-true _ _ _ (is_utf8-from_IsUtf8 word h)

pub map_name-other : (word : List ℕ) → ¬ (IsUtf8 word) → map_name_of word ≡ None
unfolding map_name_of
map_name-other word h =
    cond-false _ _ _ (false_from_ne_true (is_utf8 word) (λ t. h (IsUtf8-from_is_utf8 word t)))
