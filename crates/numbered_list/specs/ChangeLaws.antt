-- Laws of changes: what is found after them, that their olds take them back, and that the room for
-- them is room for that.
use Rattle.std.specs.Prelude.{◌≡◌, ℕ, ◌+◌, ◌<◌, ◌≤◌, ◌==◌, ◌&&◌, true, false, cond, List, [], ◌∷◌, Option, Some, None, All, is_some, length, slice_index_or, refl}
use Rattle.std.specs.Option.{is_none, option_map, option_map_or, option_to_list}
use Rattle.std.proofs.Common.{arith, sym, ap, subst, inl, inr, ◌∙◌}
use Rattle.std.proofs.lemmas.Bool.{cases_eq}
use Rattle.std.proofs.lemmas.List.Elements.{All-nil, All-cons, All-head, All-tail}
use Rattle.std.proofs.lemmas.List.Sums.{sum_by-cons, count_by-le-length}
use Rattle.std.proofs.lemmas.Option.{slice_get-get_or}
use Rattle.numbered_list.specs.declared.change.Change.{Change}
use Rattle.numbered_list.specs.Numbered.{Rise, IsAt, find, set_at}
use Rattle.numbered_list.specs.Changes.{changed_number, AreChanges, set_all, old, olds, added}
use Rattle.numbered_list.specs.Laws.{Rise-nil, Rise-cons, Rise-head, Rise-tail, find-first, find-rest, find-none_above, find-at, IsAt-find, number_of_found, same_lists}
use Rattle.numbered_list.specs.SetLaws.{find-set_at_same, find-set_at_other, Rise-set_at, length-set_at}

module _ {X : Type 0} (number_of : X → ℕ) where
  pub AreChanges-nil : AreChanges number_of []
  AreChanges-nil = record {
    rising = Rise-nil changed_number;
    own = All-nil (λ c. IsAt number_of c.number c.content);
  }

  pub AreChanges-cons : (c : Change X) (cs : List (Change X)) → IsAt number_of c.number c.content
      → All (λ d. c.number < d.number) cs → AreChanges number_of cs → AreChanges number_of (c ∷ cs)
  AreChanges-cons c cs own later are = record {
    rising = Rise-cons changed_number c cs later
        are.rising;
    own = All-cons (λ d. IsAt number_of d.number d.content) c cs own are.own;
  }

  pub AreChanges-rest : (c : Change X) (cs : List (Change X)) → AreChanges number_of (c ∷ cs)
      → AreChanges number_of cs
  AreChanges-rest c cs h = record {
    rising = Rise-tail changed_number c cs h.rising;
    own = All-tail (λ d. IsAt number_of d.number d.content) c cs h.own;
  }

  pub IsAt-first : (c : Change X) (cs : List (Change X)) → AreChanges number_of (c ∷ cs)
      → IsAt number_of c.number c.content
  IsAt-first c cs h = All-head (λ d. IsAt number_of d.number d.content) c cs h.own

  -- the numbers still rise
  pub Rise-set_all : (cs : List (Change X)) (xs : List X) → AreChanges number_of cs
      → Rise number_of xs → Rise number_of (set_all number_of cs xs)
  Rise-set_all [] xs h rise = rise
  Rise-set_all (c ∷ cs) xs h rise = Rise-set_all cs (set_at number_of c.number c.content xs)
      (AreChanges-rest c cs h) (Rise-set_at number_of c.number c.content xs (IsAt-first c cs h)
      rise)

  -- at a changed number the change's content is found, and at another what was
  pub find-set_all : (n : ℕ) (cs : List (Change X)) (xs : List X) → AreChanges number_of cs
      → find number_of n (set_all number_of cs xs)
      ≡ option_map_or (λ c. c.content) (find changed_number n cs) (find number_of n xs)
  find-set_all n [] xs h = refl
  find-set_all n (c ∷ cs) xs h =
      let own = IsAt-first c cs h in
      find-set_all n cs (set_at number_of c.number c.content xs) (AreChanges-rest c cs h)
      ∙ elim (cases_eq c.number n) [
        | inl e ↦
            ap (λ o. option_map_or (λ c. c.content) o (find number_of n
            (set_at number_of c.number c.content xs))) (find-none_above changed_number n cs
            (subst (λ m. All (λ d. m < d.number) cs) e (Rise-head changed_number c cs
            h.rising)))
            ∙ (subst (λ m. find number_of m (set_at number_of c.number c.content xs) ≡ c.content) e
            (find-set_at_same number_of c.number c.content xs own)
            ∙ sym (ap (λ o. option_map_or (λ c. c.content) o (find number_of n xs))
            (find-first changed_number n c cs e)))
        | inr ne ↦
            ap (option_map_or (λ c. c.content) (find changed_number n cs))
            (find-set_at_other number_of n c.number c.content xs (λ e. ne (sym e)) own)
            ∙ sym (ap (λ o. option_map_or (λ c. c.content) o (find number_of n xs))
            (find-rest changed_number n c cs ne))
      ]

  pub find-olds : (n : ℕ) (cs : List (Change X)) (xs : List X)
      → find changed_number n (olds number_of cs xs)
      ≡ option_map (old number_of xs) (find changed_number n cs)
  find-olds n [] xs = refl
  find-olds n (c ∷ cs) xs =
      elim (c.number
      == n) as (λ b. cond b (Some (old number_of xs c))
      (find changed_number n (olds number_of cs xs))
      ≡ option_map (old number_of xs) (cond b (Some c) (find changed_number n cs)))
      [ true ↦ refl | false ↦ find-olds n cs xs ]

  All-olds : (n : ℕ) (cs : List (Change X)) (xs : List X) → All (λ c. n < c.number) cs
      → All (λ c. n < c.number) (olds number_of cs xs)
  All-olds n [] xs h = All-nil (λ c. n < c.number)
  All-olds n (c ∷ cs) xs h =
      All-cons (λ c. n < c.number) (old number_of xs c) (olds number_of cs xs)
      (All-head (λ c. n < c.number) c cs h) (All-olds n cs xs
      (All-tail (λ c. n < c.number) c cs h))

  -- what takes changes back is changes
  pub AreChanges-olds : (cs : List (Change X)) (xs : List X) → AreChanges number_of cs
      → AreChanges number_of (olds number_of cs xs)
  AreChanges-olds [] xs h = record {
    rising = Rise-nil changed_number;
    own = All-nil (λ c. IsAt number_of c.number c.content);
  }
  AreChanges-olds (c ∷ cs) xs h =
      let rest = AreChanges-olds cs xs (AreChanges-rest c cs h) in
      record {
        rising = Rise-cons changed_number (old number_of xs c) (olds number_of cs xs)
            (All-olds c.number cs xs (Rise-head changed_number c cs h.rising)) rest.rising;
        own = All-cons (λ c. IsAt number_of c.number c.content) (old number_of xs c)
            (olds number_of cs xs) (IsAt-find number_of c.number xs) rest.own;
      }

  -- the olds take the changes back
  pub set_all_back : (cs : List (Change X)) (xs : List X) → AreChanges number_of cs
      → Rise number_of xs → set_all number_of (olds number_of cs xs) (set_all number_of cs xs) ≡ xs
  set_all_back cs xs h rise =
      let back = AreChanges-olds cs xs h in
      same_lists number_of _ xs (Rise-set_all (olds number_of cs xs) (set_all number_of cs xs) back
      (Rise-set_all cs xs h rise)) rise (λ n.
      find-set_all n (olds number_of cs xs) (set_all number_of cs xs) back
      ∙ (ap (λ o. option_map_or (λ c. c.content) o (find number_of n (set_all number_of cs xs)))
      (find-olds n cs xs)
      ∙ (ap (option_map_or (λ c. c.content) (option_map (old number_of xs)
      (find changed_number n cs))) (find-set_all n cs xs h)
      ∙ at n (find changed_number n cs) refl)))
    where
      at : (n : ℕ) (o : Option (Change X)) → find changed_number n cs ≡ o
          → option_map_or (λ c. c.content) (option_map (old number_of xs) o)
          (option_map_or (λ c. c.content) o (find number_of n xs)) ≡ find number_of n xs
      at n None e = refl
      at n (Some c) e = ap (λ m. find number_of m xs) (number_of_found changed_number n c cs e)

  -- a content set at a number below all of them changes no old
  pub olds-set_at : (n : ℕ) (new : Option X) (cs : List (Change X)) (xs : List X)
      → IsAt number_of n new → All (λ c. n < c.number) cs
      → olds number_of cs (set_at number_of n new xs) ≡ olds number_of cs xs
  olds-set_at n new [] xs own h = refl
  olds-set_at n new (c ∷ cs) xs own h =
      let lt = All-head (λ c. n < c.number) c cs h in
      let first : old number_of (set_at number_of n new xs) c ≡ old number_of xs c = ap
      (λ o. record { number = c.number; content = o })
      (find-set_at_other number_of c.number n new xs (λ e. omega (arith, lt)) own) in
      let rest = olds-set_at n new cs xs own (All-tail (λ c. n < c.number) c cs h) in
      cc

  -- at each changed number the change's content is found
  pub find-changed : (cs : List (Change X)) (xs : List X) → AreChanges number_of cs
      → All (λ c. find number_of c.number (set_all number_of cs xs) ≡ c.content) cs
  find-changed cs xs h = λ k d end.
      let c = slice_index_or cs k d in
      find-set_all c.number cs xs h
      ∙ ap (λ o. option_map_or (λ c. c.content) o (find number_of c.number xs))
      (find-at changed_number cs k c h.rising (slice_get-get_or cs k d end))

  -- the first change, and the others
  pub added-cons : (c : Change X) (cs : List (Change X)) (xs : List X)
      → added number_of (c ∷ cs) xs
      ≡ cond (is_some c.content && is_none (find number_of c.number xs)) 1 0 + added number_of cs xs
  added-cons c cs xs =
      sum_by-cons (λ c. cond (is_some c.content && is_none (find number_of c.number xs)) 1 0) c cs

  -- a content set at a number below all of them adds no room
  pub added-set_at : (n : ℕ) (new : Option X) (cs : List (Change X)) (xs : List X)
      → IsAt number_of n new → All (λ c. n < c.number) cs
      → added number_of cs (set_at number_of n new xs) ≡ added number_of cs xs
  added-set_at n new [] xs own h = refl
  added-set_at n new (c ∷ cs) xs own h =
      let lt = All-head (λ c. n < c.number) c cs h in
      let first : find number_of c.number (set_at number_of n new xs) ≡ find number_of c.number xs =
      find-set_at_other number_of c.number n new xs (λ e. omega (arith, lt)) own in
      let rest = added-set_at n new cs xs own (All-tail (λ c. n < c.number) c cs h) in
      added-cons c cs (set_at number_of n new xs)
      ∙ (ap (λ o. cond (is_some c.content && is_none o) 1 0
      + added number_of cs (set_at number_of n new xs)) first
      ∙ (ap (λ m. cond (is_some c.content && is_none (find number_of c.number xs)) 1 0 + m) rest
      ∙ sym (added-cons c cs xs)))

  -- one change and its way back
  pub room_of_one : (new was : Option X) (before after : ℕ)
      → after + length (option_to_list was) ≡ before + length (option_to_list new)
      → after + cond (is_some was && is_none new) 1 0
      ≡ before + cond (is_some new && is_none was) 1 0
  room_of_one None None before after e = omega arith
  room_of_one None (Some x) before after e = omega arith
  room_of_one (Some y) None before after e = omega arith
  room_of_one (Some y) (Some x) before after e = omega arith

  -- the room for the changes is the room for taking them back
  pub room_back : (cs : List (Change X)) (xs : List X) → AreChanges number_of cs → Rise number_of xs
      → length (set_all number_of cs xs)
      + added number_of (olds number_of cs xs) (set_all number_of cs xs)
      ≡ length xs + added number_of cs xs
  room_back [] xs h rise = refl
  room_back (c ∷ cs) xs h rise =
      let own = IsAt-first c cs h in
      let later = Rise-head changed_number c cs h.rising in
      let ys = set_at number_of c.number c.content xs in
      let zs = set_all number_of cs ys in
      let rest = room_back cs ys (AreChanges-rest c cs h)
      (Rise-set_at number_of c.number c.content xs own rise) in
      let same_olds = olds-set_at c.number c.content cs xs own later in
      let same_added = added-set_at c.number c.content cs xs own later in
      let first = added-cons (old number_of xs c) (olds number_of cs xs) zs in
      let content : find number_of c.number zs ≡ c.content = All-head
      (λ d. find number_of d.number zs ≡ d.content) c cs (find-changed (c ∷ cs) xs h) in
      let one = room_of_one c.content (find number_of c.number xs) (length xs) (length ys)
      (length-set_at number_of c.number c.content xs rise) in
      let all = added-cons c cs xs in
      let there = is_some (find number_of c.number xs) in
      let left = added number_of (olds number_of cs xs) zs in
      let back : added number_of (olds number_of (c ∷ cs) xs) zs
      ≡ cond (there && is_none c.content) 1 0 + left =
      first ∙ ap (λ o. cond (there && is_none o) 1 0 + left) content in
      omega (arith, rw same_olds at rest, same_added, back, one, all)

  -- the room for as many more as there are changes is enough
  pub added-le : (cs : List (Change X)) (xs : List X) → added number_of cs xs ≤ length cs
  added-le cs xs =
      count_by-le-length (λ c. is_some c.content && is_none (find number_of c.number xs)) cs
