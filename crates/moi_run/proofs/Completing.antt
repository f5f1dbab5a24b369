-- With nothing against it, the work ends.
use Rattle.std.proofs.Common.{◌≡◌, ℕ, ◌<◌, ◌≤◌, ◌⊎◌, List, length, refl, sym, ◌∙◌, subst, inl, inr, Option, Some, None, arith, true≢false}
use Rattle.std.specs.Prelude.{All, Any, IsTrue}
use Rattle.std.specs.Str.Lines.{lines}
use Rattle.std.proofs.lemmas.List.Elements.{All-get_or}
use Rattle.command_words.specs.declared.words.Invocation.{Invocation}
use Rattle.command_words.specs.declared.words.Invocation.TheVariants.{Generate, Plan, Run}
use Rattle.edit_engine.specs.Lines.{heard}
use Rattle.io_face.specs.Fault.{CountsNoFault, HasFaulted}
use Rattle.io_face.specs.Told.{Told}
use Rattle.moi_run.specs.Commands.{AsksInVain, CanAllBeFetched, CanBeRead, HasReadFault}
use Rattle.moi_run.specs.Input.{IsInputWithinLimits, PassesLimit}
use Rattle.moi_run.specs.Run.{HasTooLong, Runs}
use Rattle.moi_run.specs.Status.{IsEnded}
use Rattle.moi_run.specs.RunState.{RunState}
use Rattle.moi_run.specs.declared.status.Status.{Status}
use Rattle.moi_run.specs.declared.status.Status.TheVariants as status
use Rattle.line_reader.specs.Limits.{line_limit}

-- what holds of all doesn't fail at one
pub clash : (P Q : List ℕ → Type 0) (xs : List (List ℕ)) → All Q xs → Any P xs
    → ((x : List ℕ) → Q x → P x → ⊥) → ⊥
clash P Q xs all any h = h any.1 (subst Q any.3 (All-get_or Q xs any.0 any.1 any.2 all)) any.4

-- no fault was counted
unsound : (old new : ℕ) → CountsNoFault old new → HasFaulted old new → ⊥
unsound old new sound (inl rose) = omega (arith, sound.0, sound.1, rose)
unsound old new sound (inr stands) = omega (arith, sound.0, sound.1, stands)

-- no limit was passed
within : (bytes : List ℕ) → IsInputWithinLimits bytes → PassesLimit bytes → ⊥
within bytes limits (inl long) =
    clash (λ line. line_limit < length line) (λ line. length line ≤ line_limit)
    (heard (lines bytes)) limits.each long (λ line short is_long. omega (arith, short, is_long))
within bytes limits (inr long) = elim limits.whole [
  | inl short ↦ omega (arith, short, long.0)
  | inr quit ↦ true≢false (sym quit ∙ long.1)
]

module _ (shelf : Told) (reads reads' fetches fetches' : ℕ) where
  -- the shelf counted no fault, or is sure of what was asked
  not_in_vain : (said : Option Invocation) (left : Option (List ℕ))
      → CanAllBeFetched said left shelf fetches fetches'
      → HasFaulted fetches fetches' × (IsTrue shelf.sure → AsksInVain said left shelf) → ⊥
  not_in_vain said left fetched fault = elim fetched.there [
    | inl sound ↦ unsound fetches fetches' sound fault.0
    | inr there ↦ there.1 (fault.1 there.0)
  ]

  no_read_fault : (said : Option Invocation) (left : Option (List ℕ))
      → CanBeRead said left reads reads' → CanAllBeFetched said left shelf fetches fetches'
      → HasReadFault said (HasFaulted reads reads')
      (HasFaulted fetches fetches' × (IsTrue shelf.sure → AsksInVain said left shelf)) → ⊥
  no_read_fault None left read fetched fault = absurd read
  no_read_fault (Some (Plan setup)) left read fetched fault = absurd fault
  no_read_fault (Some (Generate numbers)) left read fetched fault = absurd fault
  no_read_fault (Some (Run setup)) left read fetched (inl fault) =
      unsound reads reads' read.2 fault
  no_read_fault (Some (Run setup)) left read fetched (inr fault) =
      not_in_vain (Some (Run setup)) left fetched fault
  no_read_fault (Some command) left read fetched fault =
      not_in_vain (Some command) left fetched fault

  no_limit : (said : Option Invocation) (left : Option (List ℕ))
      → CanBeRead said left reads reads' → CanAllBeFetched said left shelf fetches fetches'
      → HasTooLong said left shelf → ⊥
  no_limit None left read fetched long = absurd read
  no_limit (Some (Run setup)) None read fetched long = absurd (true≢false (sym read.0))
  no_limit (Some (Run setup)) (Some bytes) read fetched (inl passes) = within bytes read.1 passes
  no_limit (Some (Run setup)) (Some bytes) read fetched (inr much) = fetched.short much
  no_limit (Some command) left read fetched long = fetched.short long

pub completes : (said : Option Invocation) (end : Status) (left left' : Option (List ℕ)) (shelf : Told)
    (reads reads' fetches fetches' writes writes' : ℕ) (s new : RunState)
    (wrote begun : List ℕ → Type 0)
    → Runs said end left left' shelf (HasFaulted reads reads')
    (HasFaulted fetches fetches') s new wrote begun
    → (end ≡ status.Usage → said ≡ None) → (end ≡ status.WriteFault → HasFaulted writes writes')
    → CanBeRead said left reads reads' → CanAllBeFetched said left shelf fetches fetches'
    → CountsNoFault writes writes' → IsEnded end ⊎ (end ≡ status.Memory)
completes said end left left' shelf reads reads' fetches fetches' writes writes' s new wrote begun
    runs usage write read fetched sound = by end refl
  where
    by : (how : Status) → end ≡ how → IsEnded how ⊎ (how ≡ status.Memory)
    by status.Done is = inl tt
    by status.SomeRefused is = inl tt
    by status.Memory is = inr refl
    by status.Usage is = absurd (subst (λ o. CanBeRead o left reads reads') (usage is) read)
    by status.WriteFault is = absurd (unsound writes writes' sound (write is))
    by status.ReadFault is = absurd (no_read_fault shelf reads reads' fetches fetches' said left
        read fetched (runs.read_fault is))
    by status.TooLong is = absurd (no_limit shelf reads reads' fetches fetches' said left
        read fetched (runs.too_long is))
