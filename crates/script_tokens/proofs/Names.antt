-- The names of families and of native kinds are read.
use Rattle.std.proofs.Common.{◌≡◌, None, Some, if◌then◌else◌, refl, ◌∙◌}
use Rattle.std.specs.Bool.{IsTrue}
use Rattle.std.proofs.lemmas.Bool.{cond-true}
use Rattle.item_core.specs.declared.family.Family.{Family}
use Rattle.item_core.specs.declared.family.Family.TheVariants.{GreaterLess}
use Rattle.item_core.specs.declared.kind.Kind.{Kind}
use Rattle.item_core.specs.declared.kind.Kind.TheVariants.{PlainLessThan}
use Rattle.item_core.specs.Kind.{first_of, is_native, name_of, second_of}
use Rattle.script_tokens.specs.Family.{family_of, family_text}
use Rattle.script_tokens.specs.Table.{native_kind_of}

pub family_reads_back : (family : Family) → family_of (family_text family) ≡ Some family
unfolding family_of
family_reads_back GreaterLess = refl
family_reads_back _ = refl

-- the name of any other kind is none
named : (k : Kind) → native_kind_of (name_of k) ≡ (if is_native k then Some k else None)
unfolding native_kind_of first_of is_native second_of
named PlainLessThan = refl
named _ = refl

pub kind_reads_back : (k : Kind) → IsTrue (is_native k) → native_kind_of (name_of k) ≡ Some k
kind_reads_back k native = named k ∙ cond-true (is_native k) (Some k) None native
