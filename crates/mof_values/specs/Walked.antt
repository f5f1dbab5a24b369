-- Walks over a JSON value: a value, or the first fault with its place.
--     at part walked           a walk of what stands at that part of a pointer
--     or_fault fault found     what is found, or the fault
--     mapped f walked          what f makes of what a walk gives
--     each step items          a walk over the items of an array, in order
-- Places are relative to the value that is walked, and `at` puts a part before them.
use Rattle.std.specs.Prelude.{◌≡◌, ◌≢◌, ℕ, suc, List, [], ◌∷◌, ◌++◌, Option, Some, None, Result, Ok, Err, MatchResult, decimal, codes}
use Prim.Native.String.{String}
use Rattle.serde_json.specs.Data.{Data, Items, no_items, item}
use Rattle.mof_values.specs.declared.fault.MofFault.{MofFault}
use Rattle.mof_values.specs.declared.fault.MofFault.TheVariants.{NotJson, Shape, Version, UnknownKind, BadNumber, DuplicateName, UnknownName, Dimension, Memory}

abbrev pub Walked : Type 0 → Type 0
Walked A = Result A MofFault

infixl 10 ◌>>=◌
abbrev pub ◌>>=◌ : {A B : Type 0} → Walked A → (A → Walked B) → Walked B
(Ok x) >>= f = f x
(Err e) >>= f = Err e

-- what f makes of what a walk gives
abbrev pub mapped : {A B : Type 0} → (A → B) → Walked A → Walked B
mapped f walked = walked >>= (λ x. Ok (f x))

-- ---- places

-- the very value that is walked
abbrev pub here : List ℕ
here = []

-- the parts of a JSON pointer
abbrev pub key_part : List ℕ → List ℕ
key_part name = 47 ∷ name

abbrev pub key : String → List ℕ
key name = key_part (codes name)

abbrev pub index : ℕ → List ℕ
index n = 47 ∷ decimal n

-- the fault under a part of a pointer
abbrev pub under : List ℕ → MofFault → MofFault
under part (NotJson place) = NotJson (part ++ place)
under part (Shape place) = Shape (part ++ place)
under part (Version place) = Version (part ++ place)
under part (UnknownKind place) = UnknownKind (part ++ place)
under part (BadNumber place) = BadNumber (part ++ place)
under part (DuplicateName place) = DuplicateName (part ++ place)
under part (UnknownName place) = UnknownName (part ++ place)
under part (Dimension place) = Dimension (part ++ place)
under part Memory = Memory

-- ---- walks

abbrev pub at : {A : Type 0} → List ℕ → Walked A → Walked A
at part (Ok x) = Ok x
at part (Err e) = Err (under part e)

abbrev pub or_fault : {A : Type 0} → MofFault → Option A → Walked A
or_fault fault (Some x) = Ok x
or_fault fault None = Err fault

-- a walk over items, from this index on
abbrev pub each : {S : Type 0} → (S → Data → Walked S) → ℕ → S → Items → Walked S
each step i s no_items = Ok s
each step i s (item d ds) = at (index i) (step s d) >>= (λ more. each step (suc i) more ds)

-- ---- what a call answers

-- the fault, or running out of memory
abbrev pub TellsMofFault : MofFault → MofFault → Type 0
TellsMofFault told fault = told ≢ Memory → told ≡ fault

-- what the walk gives, or running out of memory
abbrev pub MeetsWalk : {T A : Type 0} → (T → A) → Result T MofFault → Walked A → Type 0
MeetsWalk seen r walked = MatchResult r (λ x. walked ≡ Ok (seen x)) (λ e. e ≢ Memory → walked ≡ Err e)

-- what is said at a part of a pointer of what was read there
abbrev pub TellsMofFaultAt : {T : Type 0} → List ℕ → Result T MofFault → Result T MofFault → Type 0
TellsMofFaultAt part (Ok x) told = told ≡ Ok x
TellsMofFaultAt part (Err fault) told = MatchResult told (λ _. ⊥) (λ e. TellsMofFault e (under part fault))
