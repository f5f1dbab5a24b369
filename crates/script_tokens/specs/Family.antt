-- The names of the families of bridges.
use Rattle.std.specs.Prelude.{ℕ, List, Option, bytes_eq, codes}
use Rattle.std.specs.List.{find}
use Rattle.item_core.specs.declared.family.Family.{Family}
use Rattle.item_core.specs.declared.family.Family.TheVariants.{GreaterLess, OrthantFlip, NonposVar, ObjFlip, Vectorize, Scalarize, ScalarFunctionize, VectorFunctionize, VectorizeVar, ObjFunctionize, SplitSet, DropReals, ZerosVar, FreeVar, ScalarSlack, VectorSlack, Later, ObjSlack, NormInfinity, NormOne}
use Rattle.script_tokens.specs.declared.family.TheConstants.{FAMILIES}

abbrev pub family_text : Family → List ℕ
family_text GreaterLess = codes "GreaterLess"
family_text OrthantFlip = codes "OrthantFlip"
family_text NonposVar = codes "NonposVar"
family_text ObjFlip = codes "ObjFlip"
family_text Vectorize = codes "Vectorize"
family_text Scalarize = codes "Scalarize"
family_text ScalarFunctionize = codes "ScalarFunctionize"
family_text VectorFunctionize = codes "VectorFunctionize"
family_text VectorizeVar = codes "VectorizeVar"
family_text ObjFunctionize = codes "ObjFunctionize"
family_text SplitSet = codes "SplitSet"
family_text DropReals = codes "DropReals"
family_text ZerosVar = codes "ZerosVar"
family_text FreeVar = codes "FreeVar"
family_text ScalarSlack = codes "ScalarSlack"
family_text VectorSlack = codes "VectorSlack"
family_text Later = codes "Later"
family_text ObjSlack = codes "ObjSlack"
family_text NormInfinity = codes "NormInfinity"
family_text NormOne = codes "NormOne"

-- the family with a name
unfoldable pub family_of : List ℕ → Option Family
family_of token = find (λ family. bytes_eq token (family_text family)) FAMILIES
