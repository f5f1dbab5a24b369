-- What is given in turn at listed numbers: what is left of them gives, from what stands now, what
-- all of them give from what stood first.
use Rattle.std.proofs.Common.{◌≡◌, ℕ, ◌+◌, ◌<◌, ◌==◌, cond, List, ◌∷◌, length, drop, None, refl, sym, ap, subst, ◌∙◌, inl, inr}
use Rattle.std.specs.Prelude.{IsSome, slice_index_or}
use Rattle.std.specs.Option.{option_map_or}
use Rattle.std.proofs.lemmas.Bool.{cases_eq, eq-eqb, ne_eqb}
use Rattle.std.proofs.lemmas.List.{drop_more}
use Rattle.map_laws.specs.OptionLaws.{not_some, some_is}
use Rattle.numbered_list.specs.Numbered.{Rise, find}
use Rattle.numbered_list.specs.Laws.{Rise-head, Rise-tail, find-first, find-rest, find-none_above}
use Rattle.model_catalog.specs.declared.names.NameChange.{NameChange}
use Rattle.model_catalog.specs.Names.{listed_number}

-- what stands at a number, where each that is listed has what is given for it
abbrev given_in : {V : Type 0} → (NameChange → V → V) → List NameChange → (ℕ → V) → ℕ → V
given_in give listed at n =
    option_map_or (λ l. give l (at n)) (find listed_number n listed) (at n)

-- what is left of the listed numbers gives what all give, and what stands at their own is as it was
pub record GivenSoFar {V : Type 0} (give : NameChange → V → V) (start now : ℕ → V)
    (listed left : List NameChange) : Type 0 where
  pub rest : (n : ℕ) → given_in give left now n ≡ given_in give listed start n
  pub still : (n : ℕ) → IsSome (find listed_number n left) → now n ≡ start n
  pub among : (n : ℕ) → IsSome (find listed_number n left) → IsSome (find listed_number n listed)
  pub rising : Rise listed_number left

absent : (x : NameChange) (rest : List NameChange) (n : ℕ) → Rise listed_number (x ∷ rest)
    → x.number ≡ n → find listed_number n rest ≡ None
absent x rest n rise e =
    find-none_above listed_number n rest (subst (λ m. (i : ℕ) (d : NameChange) → i < length rest
    → m < (slice_index_or rest i d).number) e (Rise-head listed_number x rest rise))

module _ {V : Type 0} {give : NameChange → V → V} {start now : ℕ → V}
    {listed : List NameChange} where
  given_next : {after : ℕ → V} (x : NameChange) (rest : List NameChange)
      → GivenSoFar give start now listed (x ∷ rest)
      → ((n : ℕ) → after n ≡ cond (x.number == n) (give x (now n)) (now n))
      → GivenSoFar give start after listed rest
  given_next {after} x rest h is = record {
    rest = λ n. elim (cases_eq x.number n) [
      | inl same ↦
          ap (λ o. option_map_or (λ l. give l (after n)) o (after n))
          (absent x rest n h.rising same)
          ∙ (is n ∙ (ap (λ b. cond b (give x (now n)) (now n)) (eq-eqb x.number n same)
          ∙ (sym (ap (λ o. option_map_or (λ l. give l (now n)) o (now n))
          (find-first listed_number n x rest same)) ∙ h.rest n)))
      | inr other ↦
          ap (λ v. option_map_or (λ l. give l v) (find listed_number n rest) v) (is n
          ∙ ap (λ b. cond b (give x (now n)) (now n)) (ne_eqb x.number n other))
          ∙ (sym (ap (λ o. option_map_or (λ l. give l (now n)) o (now n))
          (find-rest listed_number n x rest other)) ∙ h.rest n)
    ];
    still = λ n some. elim (cases_eq x.number n) [
      | inl same ↦ absurd (not_some _ (absent x rest n h.rising same) some)
      | inr other ↦
          is n ∙ (ap (λ b. cond b (give x (now n)) (now n)) (ne_eqb x.number n other)
          ∙ h.still n (subst IsSome (sym (find-rest listed_number n x rest other)) some))
    ];
    among = λ n some. elim (cases_eq x.number n) [
      | inl same ↦ absurd (not_some _ (absent x rest n h.rising same) some)
      | inr other ↦ h.among n (subst IsSome (sym (find-rest listed_number n x rest other)) some)
    ];
    rising = Rise-tail listed_number x rest h.rising;
  }

  -- the next of those that are left
  module _ (i : ℕ) (d : NameChange) {x : NameChange} (lt : i < length listed)
      (h : GivenSoFar give start now listed (drop i listed))
      (read : x ≡ slice_index_or listed i d) where
    split : drop i listed ≡ x ∷ drop (i + 1) listed
    split = drop_more listed i d lt ∙ ap (λ y. y ∷ drop (i + 1) listed) (sym read)

    pub given_more : {after : ℕ → V}
        → ((n : ℕ) → after n ≡ cond (x.number == n) (give x (now n)) (now n))
        → GivenSoFar give start after listed (drop (i + 1) listed)
    given_more is =
        given_next x (drop (i + 1) listed) (subst (GivenSoFar give start now listed) split h) is

    pub among_next : IsSome (find listed_number x.number (drop i listed))
    among_next =
        subst (λ xs. IsSome (find listed_number x.number xs)) (sym split)
        (some_is (find listed_number x.number (x ∷ drop (i + 1) listed)) x
        (find-first listed_number x.number x (drop (i + 1) listed) refl))

    -- what stands at its number
    pub still_next : now x.number ≡ start x.number
    still_next = h.still x.number among_next
