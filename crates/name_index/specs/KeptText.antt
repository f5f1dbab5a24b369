-- Text, wherever it is kept.
use Rattle.std.specs.Prelude.{ℕ, List, string_bytes}
use Rattle.name_index.specs.declared.kept_text.KeptText.{KeptText}
use Rattle.name_index.specs.declared.kept_text.KeptText.TheVariants.{Short, Long}

-- the bytes of the text
abbrev pub bytes_kept : KeptText → List ℕ
bytes_kept (Short text) = text.bytes
bytes_kept (Long text) = string_bytes text
