-- What the calls under an optimise tell: of the leaf model, and of carrying its answer back.
use Rattle.std.specs.Prelude.{◌≡◌, ℕ, IsSome, Some, Result, Ok, Err}
use Rattle.adjoint_core.specs.CarriedBack.{AllFits, IsFirstUnfitAddress}
use Rattle.adjoint_core.specs.declared.fault.BackFault.{BackFault}
use Rattle.adjoint_core.specs.declared.fault.BackFault.TheVariants as back
use Rattle.address_map.specs.AddressMap.{AddressMap}
use Rattle.aff_core.specs.Address.{Address}
use Rattle.bridged_report.specs.Places.{place_at}
use Rattle.certificates.specs.declared.certificate.Certificate.{Certificate}
use Rattle.equality_form.specs.ReadBack.{AnswerByAddress}
use Rattle.equality_form.specs.Right.{IsRight}
use Rattle.fresh_bridging.specs.FreshBridging.{FreshBridging}
use Rattle.fresh_bridging.specs.TheRules.{Setting}
use Rattle.leaf_model.specs.LeafModel.{LeafModel}
use Rattle.solver_store.specs.declared.answer.LeafAnswer.{LeafAnswer}
use Rattle.std_form.specs.Answers.{answer_of}
use Rattle.tree_laws.specs.Certificate.{certificate_of}
use Rattle.user_model.specs.Model.{ModelValue}
use Rattle.cache_layer.specs.Outcome.{IsReadBackAs, Stops}
use Rattle.cache_layer.specs.declared.fault.OptFault.{OptFault}
use Rattle.cache_layer.specs.declared.fault.OptFault.TheVariants.{Memory, NotAttached, Overflow}

-- a right answer for the leaf model, or why there is none; out of memory says nothing
abbrev pub TellsLeaf : AddressMap → LeafModel → ℕ → Result LeafAnswer OptFault → Type 0
TellsLeaf map leaves pivots (Ok a) =
    IsReadBackAs leaves pivots (answer_of map a) × IsRight leaves (answer_of map a)
TellsLeaf map leaves pivots (Err Memory) = Unit {0}
TellsLeaf map leaves pivots (Err NotAttached) = ⊥
TellsLeaf map leaves pivots (Err fault) = Stops leaves pivots fault

-- ---- a fault of carrying back, in the user's names

-- the address of an overflow has a place
abbrev pub CanTell : ModelValue → BackFault → Type 0
CanTell model (back.Overflow at) = IsSome (place_at model at)
CanTell model back.Memory = Unit {0}

-- an overflow at the place of its address; memory may run out for the place too
abbrev pub TellsFault : ModelValue → BackFault → OptFault → Type 0
TellsFault model (back.Overflow at) (Overflow place) = place_at model at ≡ Some place
TellsFault model fault Memory = Unit {0}
TellsFault model fault told = ⊥

-- ---- carrying back

-- the certificate, or where the first of it stands that doesn't fit
abbrev pub TellsCertificate : {setting : Setting} {model : ModelValue}
    → FreshBridging setting model → AnswerByAddress → Result Certificate OptFault → Type 0
TellsCertificate bridging answer (Ok c) =
    AllFits bridging answer × (c ≡ certificate_of bridging answer)
TellsCertificate {model = model} bridging answer (Err (Overflow place)) =
    (at : Address) × IsFirstUnfitAddress bridging answer at × (place_at model at ≡ Some place)
TellsCertificate bridging answer (Err Memory) = Unit {0}
TellsCertificate bridging answer (Err fault) = ⊥
