-- Laws of places and of the items that stand at them: what is found, and what a change of one place
-- makes of the items.
use Rattle.std.specs.Prelude.{◌≡◌, ◌≢◌, ℕ, suc, ◌+◌, ◌<◌, ◌≤◌, Bool, true, false, IsTrue, cond, List, [], ◌∷◌, ◌++◌, Option, Some, None, All, filter, is_some, length, refl}
use Rattle.std.specs.List.{cons_option}
use Rattle.std.specs.Option.{option_and_then, option_to_list}
use Rattle.std.proofs.Common.{arith, sym, ap, subst, inl, inr, true≢false, ◌∙◌}
use Rattle.std.proofs.lemmas.Bool.{cases_eq}
use Rattle.std.proofs.lemmas.List.Elements.{All-append, All-cons, All-filter, All-head, All-nil, All-tail}
use Rattle.numbered_list.specs.declared.change.Change.{Change}
use Rattle.numbered_list.specs.Numbered.{Rise, IsAt, above, below, find, set_at}
use Rattle.numbered_list.specs.Changes.{AreChanges, change_to, changed_number}
use Rattle.numbered_list.specs.Listed.{has_item, present}
use Rattle.numbered_list.specs.Laws.{Rise-nil, Rise-cons, Rise-head, Rise-filter, find-first, find-rest, find-none_above, same_lists}
use Rattle.numbered_list.specs.SetLaws.{find-set_at_same, find-set_at_other, Rise-set_at}
use Rattle.numbered_list.specs.ChangeLaws.{AreChanges-rest, IsAt-first}

-- no more items stand than there are places
pub length-present : {X : Type 0} (cs : List (Change X)) → length (present cs) ≤ length cs
length-present {X} [] = omega arith
length-present {X} (c ∷ cs) = first c.content (length-present cs)
  where
    first : (o : Option X) → length (present cs) ≤ length cs
        → length (cons_option o (present cs)) ≤ length (c ∷ cs)
    first None le = omega arith
    first (Some x) le = omega arith

-- the items of some places and of one more
pub present-last : {X : Type 0} (cs : List (Change X)) (c : Change X)
    → present (cs ++ c ∷ []) ≡ present cs ++ option_to_list c.content
present-last {X} [] c = only c.content
  where
    only : {X : Type 0} (o : Option X) → cons_option o [] ≡ option_to_list o
    only None = refl
    only (Some x) = refl
present-last {X} (x ∷ cs) c = first x.content (present-last cs c)
  where
    first : (o : Option X) → present (cs ++ c ∷ []) ≡ present cs ++ option_to_list c.content
        → cons_option o (present (cs ++ c ∷ []))
        ≡ cons_option o (present cs) ++ option_to_list c.content
    first None e = e
    first (Some y) e = ap (λ ys. y ∷ ys) e

pub last_present : {X : Type 0} (places others : List (Change X)) (c : Change X) (o : Option X)
    → places ≡ others ++ c ∷ [] → c.content ≡ o
    → present places ≡ present others ++ option_to_list o
last_present places others c o is e =
    ap present is ∙ (present-last others c ∙ ap (λ o. present others ++ option_to_list o) e)

-- the places with an item
module _ {X : Type 0} where
  pub present-swept : (cs : List (Change X)) → present (filter has_item cs) ≡ present cs
  present-swept [] = refl
  present-swept (c ∷ cs) = first c.content refl (present-swept cs)
    where
      first : (o : Option X) → c.content ≡ o → present (filter has_item cs) ≡ present cs
          → present (filter has_item (c ∷ cs)) ≡ present (c ∷ cs)
      first None is same =
          ap (λ o. present (cond (is_some o) (c ∷ filter has_item cs) (filter has_item cs))) is
          ∙ (same ∙ sym (ap (λ o. cons_option o (present cs)) is))
      first (Some x) is same =
          ap (λ o. present (cond (is_some o) (c ∷ filter has_item cs) (filter has_item cs))) is
          ∙ ap (cons_option c.content) same

  pub length-swept : (cs : List (Change X)) → length (filter has_item cs) ≡ length (present cs)
  length-swept [] = refl
  length-swept (c ∷ cs) = first c.content refl (length-swept cs)
    where
      first : (o : Option X) → c.content ≡ o → length (filter has_item cs) ≡ length (present cs)
          → length (filter has_item (c ∷ cs)) ≡ length (present (c ∷ cs))
      first None is same =
          ap (λ o. length (cond (is_some o) (c ∷ filter has_item cs) (filter has_item cs))) is
          ∙ (same ∙ sym (ap (λ o. length (cons_option o (present cs))) is))
      first (Some x) is same =
          ap (λ o. length (cond (is_some o) (c ∷ filter has_item cs) (filter has_item cs))) is
          ∙ (ap suc same ∙ sym (ap (λ o. length (cons_option o (present cs))) is))

  -- at a number without a place there is none among them
  pub none-swept : (p : Change X → Bool) (n : ℕ) (cs : List (Change X))
      → find changed_number n cs ≡ None → find changed_number n (filter p cs) ≡ None
  none-swept p n [] h = refl
  none-swept p n (c ∷ cs) h =
      elim (cases_eq c.number n) [
        | inl e ↦ absurd (let found : Some c ≡ None = sym (find-first changed_number n c cs e) ∙ h
            in cc)
        | inr ne ↦
            let rest = none-swept p n cs (sym (find-rest changed_number n c cs ne) ∙ h) in
            elim (p c) as (λ b. find changed_number n (cond b (c ∷ filter p cs) (filter p cs))
            ≡ None) [
              | true ↦ find-rest changed_number n c (filter p cs) ne ∙ rest
              | false ↦ rest
            ]
      ]

module _ {X : Type 0} (number_of : X → ℕ) where
  pub AreChanges-filter : (p : Change X → Bool) (cs : List (Change X)) → AreChanges number_of cs
      → AreChanges number_of (filter p cs)
  AreChanges-filter p cs are = record {
    rising = Rise-filter changed_number p cs are.rising;
    own = All-filter p (λ c. IsAt number_of c.number c.content) cs are.own;
  }

  All-present : (n : ℕ) (cs : List (Change X)) → AreChanges number_of cs
      → All (λ c. n < c.number) cs → All (λ x. n < number_of x) (present cs)
  All-present n [] are h = All-nil (λ x. n < number_of x)
  All-present n (c ∷ cs) are h =
      first c.content (IsAt-first number_of c cs are) (All-present n cs
      (AreChanges-rest number_of c cs are) (All-tail (λ c. n < c.number) c cs h))
    where
      first : (o : Option X) → IsAt number_of c.number o → All (λ x. n < number_of x) (present cs)
          → All (λ x. n < number_of x) (cons_option o (present cs))
      first None at rest = rest
      first (Some x) at rest =
          let lt = All-head (λ c. n < c.number) c cs h
          in All-cons (λ x. n < number_of x) x (present cs) (omega (arith, lt, at)) rest

  -- the items that stand there are in the order of their numbers
  pub Rise-present : (cs : List (Change X)) → AreChanges number_of cs
      → Rise number_of (present cs)
  Rise-present [] are = Rise-nil number_of
  Rise-present (c ∷ cs) are =
      let rest = AreChanges-rest number_of c cs are in
      first c.content (IsAt-first number_of c cs are) (Rise-present cs rest)
      (All-present c.number cs rest (Rise-head changed_number c cs are.rising))
    where
      first : (o : Option X) → IsAt number_of c.number o → Rise number_of (present cs)
          → All (λ x. c.number < number_of x) (present cs)
          → Rise number_of (cons_option o (present cs))
      first None at up later = up
      first (Some x) at up later = Rise-cons number_of x (present cs)
          (subst (λ n. All (λ y. n < number_of y) (present cs)) (sym at) later) up

  -- what is found is what stands at the number's place
  pub find-present : (n : ℕ) (cs : List (Change X)) → AreChanges number_of cs
      → find number_of n (present cs)
      ≡ option_and_then (λ c. c.content) (find changed_number n cs)
  find-present n [] are = refl
  find-present n (c ∷ cs) are =
      let rest = AreChanges-rest number_of c cs are in
      let at = IsAt-first number_of c cs are in
      elim (cases_eq c.number n) [
        | inl e ↦ here c.content refl at e
            (All-present c.number cs rest (Rise-head changed_number c cs are.rising))
            ∙ ap (option_and_then (λ c. c.content)) (sym (find-first changed_number n c cs e))
        | inr e ↦ other c.content at e
            ∙ (find-present n cs rest
            ∙ ap (option_and_then (λ c. c.content)) (sym (find-rest changed_number n c cs e)))
      ]
    where
      here : (o : Option X) → c.content ≡ o → IsAt number_of c.number o → c.number ≡ n
          → All (λ x. c.number < number_of x) (present cs)
          → find number_of n (cons_option o (present cs)) ≡ c.content
      here None is at e later = find-none_above number_of n (present cs)
          (subst (λ m. All (λ x. m < number_of x) (present cs)) e later) ∙ sym is
      here (Some x) is at e later = find-first number_of n x (present cs) (at ∙ e) ∙ sym is

      other : (o : Option X) → IsAt number_of c.number o → c.number ≢ n
          → find number_of n (cons_option o (present cs)) ≡ find number_of n (present cs)
      other None at e = refl
      other (Some x) at e = find-rest number_of n x (present cs) (λ same. e (sym at ∙ same))

  -- a content set at a number's place
  module _ (n : ℕ) (new : Option X) (cs : List (Change X)) (own : IsAt number_of n new)
      (are : AreChanges number_of cs) where
    abbrev given : Change X
    given = change_to n new

    abbrev with_given : List (Change X)
    with_given = set_at changed_number n (Some given) cs

    pub AreChanges-given : AreChanges number_of
        (set_at changed_number n (Some (change_to n new)) cs)
    unfolding set_at
    AreChanges-given = record {
      rising = Rise-set_at changed_number n (Some given) cs refl are.rising;
      own =
          let P : Change X → Type 0 = λ c. IsAt number_of c.number c.content in
          All-append P (below changed_number n cs) (given ∷ above changed_number n cs)
          (All-filter _ P cs are.own)
          (All-cons P given (above changed_number n cs) own (All-filter _ P cs are.own));
    }

    pub present-given : present (set_at changed_number n (Some (change_to n new)) cs)
        ≡ set_at number_of n new (present cs)
    present-given =
        same_lists number_of _ _ (Rise-present with_given AreChanges-given)
        (Rise-set_at number_of n new (present cs) own (Rise-present cs are)) (λ m.
        elim (cases_eq m n) [
          | inl e ↦ subst (λ k. find number_of k (present with_given)
              ≡ find number_of k (set_at number_of n new (present cs))) (sym e)
              (find-present n with_given AreChanges-given
              ∙ (ap (option_and_then (λ c. c.content))
              (find-set_at_same changed_number n (Some given) cs refl)
              ∙ sym (find-set_at_same number_of n new (present cs) own)))
          | inr ne ↦ find-present m with_given AreChanges-given
              ∙ (ap (option_and_then (λ c. c.content))
              (find-set_at_other changed_number m n (Some given) cs ne refl)
              ∙ (sym (find-present m cs are)
              ∙ sym (find-set_at_other number_of m n new (present cs) ne own)))
        ])

  -- what stood at the place that was found, and at a number without one
  pub content_found : (n : ℕ) (c : Change X) (cs : List (Change X)) → AreChanges number_of cs
      → Some c ≡ find changed_number n cs → c.content ≡ find number_of n (present cs)
  content_found n c cs are is =
      ap (option_and_then (λ c. c.content)) is ∙ sym (find-present n cs are)

  pub nothing_found : (n : ℕ) (cs : List (Change X)) → AreChanges number_of cs
      → find changed_number n cs ≡ None → None ≡ find number_of n (present cs)
  nothing_found n cs are is =
      sym (find-present n cs are ∙ ap (option_and_then (λ c. c.content)) is)

-- how many items there are once one may have come and one may have gone
pub counted_is : {X : Type 0} (new was : Option X) (comes goes : Bool) (before after count : ℕ)
    → comes ≡ is_some new → goes ≡ is_some was
    → after + length (option_to_list was) ≡ before + length (option_to_list new)
    → count + cond goes 1 0 ≡ before + cond comes 1 0 → count ≡ after
counted_is None None comes goes before after count new was e h =
    omega (arith, ap (λ b. cond {A = ℕ} b 1 0) new, ap (λ b. cond {A = ℕ} b 1 0) was, e, h)
counted_is None (Some y) comes goes before after count new was e h =
    omega (arith, ap (λ b. cond {A = ℕ} b 1 0) new, ap (λ b. cond {A = ℕ} b 1 0) was, e, h)
counted_is (Some x) None comes goes before after count new was e h =
    omega (arith, ap (λ b. cond {A = ℕ} b 1 0) new, ap (λ b. cond {A = ℕ} b 1 0) was, e, h)
counted_is (Some x) (Some y) comes goes before after count new was e h =
    omega (arith, ap (λ b. cond {A = ℕ} b 1 0) new, ap (λ b. cond {A = ℕ} b 1 0) was, e, h)

-- where one is found there is one
pub some_there : {X : Type 0} (number_of : X → ℕ) (n : ℕ) (xs : List X) (goes : Bool)
    → goes ≡ is_some (find number_of n xs) → IsTrue goes → 0 < length xs
some_there number_of n [] goes e there = absurd (true≢false (sym there ∙ e))
some_there number_of n (x ∷ xs) goes e there = omega arith
