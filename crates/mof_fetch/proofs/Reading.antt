-- What is read of a file, by what the shelf gave.
use Rattle.std.specs.Prelude.{◌≡◌, ◌≢◌, ◌≤◌, ℕ, Bool, true, false, IsTrue, List, length, Option, Result, Ok, Err, refl}
use Rattle.std.proofs.Common.{sym, ap, subst, true≢false}
use Rattle.io_face.specs.Shelf.{FilesByName, Gives, file_limit}
use Rattle.io_face.specs.Told.{MayGive, Told, told_by}
use Rattle.io_face.specs.declared.shelf.FetchFault.TheVariants as fetch
use Rattle.mof_fetch.specs.Fetched.{IsReadOf, walked}
use Rattle.mof_fetch.specs.declared.fault.FileFault.{FileFault}
use Rattle.mof_fetch.specs.declared.fault.FileFault.TheVariants.{Failed, Memory, TooLong, Unread}
use Rattle.mof_read.specs.Edits.{edits_in}
use Rattle.user_model.specs.declared.edit.Edit.{Edit}

abbrev is_memory : Result (List Edit) FileFault → Bool
is_memory (Err Memory) = true
is_memory read = false

-- the file is read as its walk gives, unless memory runs out
read_given : (shelf : Told) (name bytes : List ℕ) (read : Result (List Edit) FileFault)
    → MayGive shelf name (Ok bytes) → (read ≢ Err Memory → read ≡ walked (edits_in bytes))
    → IsReadOf shelf name read
read_given shelf name bytes (Err Memory) may is = (Err fetch.Memory, tt, refl)
read_given shelf name bytes (Ok edits) may is =
    (Ok bytes, may, is (λ e. true≢false (sym (ap is_memory e))))
read_given shelf name bytes (Err Failed) may is =
    (Ok bytes, may, is (λ e. true≢false (sym (ap is_memory e))))
read_given shelf name bytes (Err TooLong) may is =
    (Ok bytes, may, is (λ e. true≢false (sym (ap is_memory e))))
read_given shelf name bytes (Err (Unread kind place)) may is =
    (Ok bytes, may, is (λ e. true≢false (sym (ap is_memory e))))

-- ---- by the text that was asked for, which is the name

pub fetched_whole : (files : Option FilesByName) (sure : Bool) (asked name put bytes : List ℕ)
    (read : Result (List Edit) FileFault) → asked ≡ name → bytes ≡ put
    → Gives files asked (Ok put) → length put ≤ file_limit
    → (read ≢ Err Memory → read ≡ walked (edits_in bytes))
    → IsReadOf (told_by files sure) name read
fetched_whole files sure asked name put bytes read same taken gives within is =
    read_given (told_by files sure) name bytes read
    (subst (λ (b : List ℕ). MayGive (told_by files sure) name (Ok b)) (sym taken)
    (subst (λ (n : List ℕ). Gives files n (Ok put)) same gives, within)) is

pub failed_to_fetch : (files : Option FilesByName) (sure : Bool) (asked name : List ℕ)
    → asked ≡ name → (IsTrue sure → Gives files asked (Err fetch.Failed))
    → IsReadOf (told_by files sure) name (Err Failed)
failed_to_fetch files sure asked name same missing = (
  Err fetch.Failed,
  subst (λ (n : List ℕ). IsTrue sure → Gives files n (Err fetch.Failed)) same
      missing,
  refl,
)

pub found_too_long : (files : Option FilesByName) (sure : Bool) (asked name : List ℕ)
    → asked ≡ name → Gives files asked (Err fetch.TooLong)
    → IsReadOf (told_by files sure) name (Err TooLong)
found_too_long files sure asked name same long =
    (Err fetch.TooLong, subst (λ (n : List ℕ). Gives files n (Err fetch.TooLong)) same long, refl)
