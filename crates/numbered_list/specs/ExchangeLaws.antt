-- The state of a run of exchanges, and one more of them.
use Rattle.std.specs.Prelude.{◌≡◌, ℕ, ◌+◌, ◌<◌, ◌≤◌, ◌&&◌, cond, List, [], ◌∷◌, Option, Some, None, IsSome, IsNone, is_some, length, drop, slice_index_or, refl}
use Rattle.std.specs.Option.{is_none}
use Rattle.std.proofs.Math.ListN.{set}
use Rattle.std.proofs.Common.{arith, sym, ap, subst, ◌∙◌}
use Rattle.std.proofs.lemmas.List.{drop_more, drop_all}
use Rattle.map_laws.specs.LoopLaws.{IsPast, past_none, as_it_was, past_more, past_all}
use Rattle.numbered_list.specs.declared.change.Change.{Change}
use Rattle.numbered_list.specs.Numbered.{Rise, IsAt, find, set_at}
use Rattle.numbered_list.specs.Changes.{changed_number, AreChanges, set_all, old, olds, added}
use Rattle.numbered_list.specs.Laws.{Rise-head}
use Rattle.numbered_list.specs.SetLaws.{Rise-set_at, length-set_at}
use Rattle.numbered_list.specs.ChangeLaws.{AreChanges-rest, AreChanges-olds, IsAt-first, olds-set_at, added-cons, added-set_at, room_back, room_of_one}

module _ {X : Type 0} (number_of : X → ℕ) where
  -- what is left of the changes gives, from the items now, what all gave from the items at the
  -- start
  pub record ExchangedSoFar (start now : List X) (changes left : List (Change X))
      (i capacity least : ℕ) : Type 0 where
    pub rest : set_all number_of (drop i changes) now ≡ set_all number_of changes start
    pub still : olds number_of (drop i changes) now ≡ olds number_of (drop i changes) start
    pub past : IsPast (old number_of start) changes left i
    pub rising : Rise number_of now
    pub are : AreChanges number_of (drop i changes)
    pub fits : length now + added number_of (drop i changes) now ≤ capacity
    pub grown : least ≤ capacity

  pub at_start : (start : List X) (changes : List (Change X)) (room : ℕ) → Rise number_of start
      → AreChanges number_of changes → length start + added number_of changes start ≤ room
      → ExchangedSoFar start start changes changes 0 room room
  at_start start changes room rise are enough = record {
    rest = refl;
    still = refl;
    past = past_none (old number_of start) changes;
    rising = rise;
    are = are;
    fits = enough;
    grown = omega arith;
  }

  room_for : (new was : Option X) (n more capacity : ℕ)
      → n + (cond (is_some new && is_none was) 1 0 + more) ≤ capacity → IsSome new → IsNone was
      → n < capacity
  room_for None was n more capacity h some none = cc
  room_for (Some x) (Some y) n more capacity h some none = cc
  room_for (Some x) None n more capacity h some none = omega arith

  -- what the next change may rest on
  pub record IsNextChange (now : List X) (change : Change X) (capacity : ℕ) : Type 0 where
    pub own : IsAt number_of change.number change.content
    pub room : IsSome change.content → IsNone (find number_of change.number now)
        → length now < capacity

  first_of : (now : List X) (c : Change X) (rest : List (Change X)) (capacity : ℕ)
      → AreChanges number_of (c ∷ rest) → length now + added number_of (c ∷ rest) now ≤ capacity
      → IsNextChange now c capacity
  first_of now c rest capacity are enough =
      record {
        own = IsAt-first number_of c rest are;
        room = room_for c.content (find number_of c.number now) (length now)
            (added number_of rest now) capacity (subst (λ m. length now + m ≤ capacity)
            (added-cons number_of c rest now) enough);
      }

  pub next : (start now : List X) (changes left : List (Change X)) (i capacity least : ℕ)
      (d : Change X) → ExchangedSoFar start now changes left i capacity least → i < length changes
      → IsNextChange now (slice_index_or left i d) capacity
  next start now changes left i capacity least d so_far lt =
      let split = drop_more changes i d lt in
      subst (λ c. IsNextChange now c capacity) (sym (as_it_was (old number_of start) changes left i d lt
      so_far.past))
      (first_of now (slice_index_or changes i d) (drop (i + 1) changes) capacity
      (subst (AreChanges number_of) split so_far.are)
      (subst (λ cs. length now + added number_of cs now ≤ capacity) split so_far.fits))

  -- the state after the first of the changes that are left
  pub record ExchangedStep (start now : List X) (c : Change X) (rest : List (Change X)) (capacity : ℕ)
      (all : List X) : Type 0 where
    pub gives : set_all number_of rest (set_at number_of c.number c.content now) ≡ all
    pub found : find number_of c.number now ≡ find number_of c.number start
    pub still : olds number_of rest (set_at number_of c.number c.content now)
        ≡ olds number_of rest start
    pub rising : Rise number_of (set_at number_of c.number c.content now)
    pub are : AreChanges number_of rest
    pub fits : length (set_at number_of c.number c.content now)
        + added number_of rest (set_at number_of c.number c.content now) ≤ capacity

  same_content : (c : Change X) (a b : Option X) (cs ds : List (Change X))
      → (let old_change : Change X = record { number = c.number; content = a } in old_change ∷ cs)
      ≡ (let old_change : Change X = record { number = c.number; content = b } in old_change ∷ ds)
      → (a ≡ b) × (cs ≡ ds)
  same_content c a b cs ds e = (ap content_of e, ap rest_of e)
    where
      content_of : List (Change X) → Option X
      content_of [] = a
      content_of (y ∷ ys) = y.content

      rest_of : List (Change X) → List (Change X)
      rest_of [] = cs
      rest_of (y ∷ ys) = ys

  stepped : (start now : List X) (c : Change X) (rest : List (Change X)) (capacity : ℕ)
      (all : List X) → set_all number_of (c ∷ rest) now ≡ all
      → olds number_of (c ∷ rest) now ≡ olds number_of (c ∷ rest) start → Rise number_of now
      → AreChanges number_of (c ∷ rest) → length now + added number_of (c ∷ rest) now ≤ capacity
      → ExchangedStep start now c rest capacity all
  stepped start now c rest capacity all gives still rise are enough =
      let own = IsAt-first number_of c rest are in
      let later = Rise-head changed_number c rest are.rising in
      let parts = same_content c (find number_of c.number now) (find number_of c.number start)
      (olds number_of rest now) (olds number_of rest start) still in
      let same = added-set_at number_of c.number c.content rest now own later in
      let one = room_of_one number_of c.content (find number_of c.number now) (length now)
      (length (set_at number_of c.number c.content now))
      (length-set_at number_of c.number c.content now rise) in
      let first = added-cons number_of c rest now in
      record {
        gives = gives;
        found = parts.0;
        still = olds-set_at number_of c.number c.content rest now own later ∙ parts.1;
        rising = Rise-set_at number_of c.number c.content now own rise;
        are = AreChanges-rest number_of c rest are;
        fits = omega (arith, same, one, first, enough);
      }

  -- one more exchange: x is the change as it stands in the list
  pub one_more : (start now after : List X) (changes left : List (Change X))
      (i capacity more least : ℕ) (d : Change X) (new was : Option X)
      → ExchangedSoFar start now changes left i capacity least → i < length changes
      → new ≡ (slice_index_or left i d).content
      → was ≡ find number_of (slice_index_or left i d).number now
      → after ≡ set_at number_of (slice_index_or left i d).number new now → capacity ≤ more
      → ExchangedSoFar start after changes (let given : Change
      X = record { number = (slice_index_or left i d).number; content = was }
      in set left i given) (i + 1) more least
  one_more start now after changes left i capacity more least d new was so_far lt content before is
      grows =
      let split = drop_more changes i d lt in
      let x = slice_index_or left i d in
      let c = slice_index_or changes i d in
      let read : x ≡ c = as_it_was (old number_of start) changes left i d lt so_far.past in
      let step =
      stepped start now c (drop (i + 1) changes) capacity (set_all number_of changes start)
      (subst (λ cs. set_all number_of cs now ≡ set_all number_of changes start) split so_far.rest)
      (subst (λ cs. olds number_of cs now ≡ olds number_of cs start) split so_far.still)
      so_far.rising
      (subst (AreChanges number_of) split so_far.are)
      (subst (λ cs. length now + added number_of cs now ≤ capacity) split so_far.fits) in
      let became : after ≡ set_at number_of c.number c.content now = is
      ∙ (ap (λ o. set_at number_of x.number o now) content
      ∙ ap (λ (y : Change X). set_at number_of y.number y.content now) read) in
      let found : was ≡ find number_of x.number start = before
      ∙ (ap (λ (y : Change X). find number_of y.number now) read
      ∙ (step.found ∙ sym (ap (λ (y : Change X). find number_of y.number start) read))) in
      record {
        rest = ap (set_all number_of (drop (i + 1) changes)) became ∙ step.gives;
        still = ap (olds number_of (drop (i + 1) changes)) became ∙ step.still;
        past = past_more (old number_of start) changes left i d
            (record { number = x.number; content = was }) lt so_far.past
            (ap (λ o. let given : Change X = record { number = x.number; content = o } in given)
            found);
        rising = subst (Rise number_of) (sym became) step.rising;
        are = step.are;
        fits = omega (
          arith,
          step.fits,
          ap length became,
          ap
              (added number_of (drop (i + 1) changes)) became,
        );
        grown = omega (arith, so_far.grown);
      }

  -- after the last
  pub record Done (start now : List X) (changes left : List (Change X))
      (capacity : ℕ) : Type 0 where
    pub before : left ≡ olds number_of changes start
    pub are : AreChanges number_of left
    pub room : length now + added number_of left now ≤ capacity

  pub done : (start now : List X) (changes left : List (Change X)) (i capacity least : ℕ)
      → ExchangedSoFar start now changes left i capacity least → length changes ≤ i
      → Rise number_of start
      → AreChanges number_of changes → length start + added number_of changes start ≤ least
      → Done start now changes left capacity
  done start now changes left i capacity least so_far end rise are enough =
      let nothing = drop_all i changes end in
      let gave : now ≡ set_all number_of changes start = subst
      (λ cs. set_all number_of cs now ≡ set_all number_of changes start) nothing so_far.rest
      in
      let before = past_all (old number_of start) changes left i end so_far.past in
      let back = room_back number_of changes start are rise in
      record {
        before = before;
        are =
            subst (AreChanges number_of) (sym before) (AreChanges-olds number_of changes start are);
        room = omega (
          arith,
          so_far.grown,
          back,
          ap length gave,
          ap (λ cs. added number_of cs now)
              before,
          ap (added number_of (olds number_of changes start)) gave,
        );
      }
