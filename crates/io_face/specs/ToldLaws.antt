-- A fetch gives what it may give, and which files were asked for, call after call.
use Rattle.std.specs.Prelude.{◌≡◌, ◌≤◌, ℕ, Bool, IsTrue, List, [], ◌∷◌, ◌++◌, length, Option, None, Some, Result, Ok, Err, OnOk, IsErrOf, refl}
use Rattle.std.proofs.Common.{sym, ap, subst, ◌∙◌, append_assoc, append-nil}
use Rattle.io_face.specs.Shelf.{AsksFor, FilesByName, Gives, file_limit}
use Rattle.io_face.specs.Told.{MayGive, given_by, told_by}
use Rattle.io_face.specs.declared.shelf.FetchFault.{FetchFault}
use Rattle.io_face.specs.declared.shelf.FetchFault.TheVariants.{Failed, Memory, TooLong}

-- from the clauses of `fetch`
pub may_give : (files : Option FilesByName) (sure : Bool) (name : List ℕ)
    (result : Result Unit FetchFault) (bytes : List ℕ) → OnOk result (Gives files name (Ok bytes))
    → length bytes ≤ file_limit → (IsErrOf result TooLong → Gives files name (Err TooLong))
    → (IsErrOf result Failed → IsTrue sure → Gives files name (Err Failed))
    → MayGive (told_by files sure) name (given_by result bytes)
may_give files sure name (Ok done) bytes ok within too_long missing = (ok, within)
may_give files sure name (Err TooLong) bytes ok within too_long missing = too_long refl
may_give files sure name (Err Failed) bytes ok within too_long missing = missing refl
may_give files sure name (Err Memory) bytes ok within too_long missing = tt

-- ---- which files were asked for

-- no file
pub asks_none : (asked : Option (List (List ℕ))) → AsksFor asked asked []
asks_none None = refl
asks_none (Some names) = ap Some (sym (append-nil names))

-- some, and then others
pub asks_more : (first second third : Option (List (List ℕ))) (names more : List (List ℕ))
    → AsksFor first second names → AsksFor second third more
    → AsksFor first third (names ++ more)
asks_more None second third names more p q = rw p at q
asks_more (Some asked) second third names more p q =
    (rw p at q) ∙ ap Some (append_assoc asked names more)

-- the file of a name, by the text that was asked for
pub asked_for : (old new : Option (List (List ℕ))) (text name : List ℕ) → text ≡ name
    → AsksFor old new (text ∷ []) → AsksFor old new (name ∷ [])
asked_for old new text name same asks = subst (λ n. AsksFor old new (n ∷ [])) same asks
