-- Each keyword is read.
use Rattle.std.proofs.Common.{◌≡◌, Some, refl}
use Rattle.script_core.specs.declared.keyword.Keyword.{Keyword}
use Rattle.script_core.specs.declared.keyword.Keyword.TheVariants.{Var}
use Rattle.script_core.specs.Keyword.{keyword_of, keyword_text}

pub reads_back : (keyword : Keyword) → keyword_of (keyword_text keyword) ≡ Some keyword
unfolding keyword_of
reads_back Var = refl
reads_back _ = refl
