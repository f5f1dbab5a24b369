-- The variables that are kept, as those that are listed come and go.
use Rattle.std.proofs.Common.{◌≡◌, ℕ, ◌+◌, ◌<◌, ◌≤◌, ◌==◌, Bool, true, false, cond, List, length, drop, Option, Some, None, refl, sym, ap, subst, ◌∙◌, arith, inl, inr}
use Rattle.std.specs.Prelude.{IsSome, is_some, unwrap_or, slice_index_or}
use Rattle.std.specs.Option.{option_to_list}
use Rattle.std.proofs.lemmas.Bool.{cases_eq, eq-eqb, ne_eqb}
use Rattle.std.proofs.lemmas.List.{drop_more}
use Rattle.numbered_list.specs.Numbered.{Rise, IsAt, find, set_at}
use Rattle.numbered_list.specs.Laws.{IsAt-find}
use Rattle.numbered_list.specs.SetLaws.{find-set_at_same, find-set_at_other, length-set_at, set_at_found}
use Rattle.model_catalog.specs.declared.names.NameChange.{NameChange}
use Rattle.model_catalog.specs.declared.variable.Variable.{Variable}
use Rattle.model_catalog.specs.Names.{put_count}
use Rattle.model_catalog.specs.Index.{given_variable, kept_count, unbounded_in, variable_number}
use Rattle.map_laws.specs.OptionLaws.{not_some}
use Rattle.map_laws.specs.SumLaws.{count_first}
use Rattle.model_catalog.proofs.InTurn.{GivenSoFar, given_more, still_next}

-- what is given stands at its number
pub IsAt-given : (group : ℕ) (l : NameChange) (kept : List Variable)
    → IsAt variable_number l.number (given_variable group l (find variable_number l.number kept))
IsAt-given group l kept =
    by_name (is_some l.name) (find variable_number l.number kept)
    (IsAt-find variable_number l.number kept)
  where
    by_name : (named : Bool) (o : Option Variable) → IsAt variable_number l.number o
        → IsAt variable_number l.number (cond named
        (Some (unwrap_or o (unbounded_in group l.number))) None)
    by_name false o at = tt
    by_name true None at = refl
    by_name true (Some v) at = at

-- a variable that is listed with a name, and was kept, stays
pub kept_there : (group : ℕ) (l : NameChange) (kept : List Variable) → is_some l.name ≡ true
    → IsSome (find variable_number l.number kept) → Rise variable_number kept
    → kept ≡ set_at variable_number l.number (given_variable group l
    (find variable_number l.number kept)) kept
kept_there group l kept named there rise =
    by_name l.name (find variable_number l.number kept) named refl there
  where
    by_name : (name : Option (List ℕ)) (o : Option Variable) → is_some name ≡ true
        → find variable_number l.number kept ≡ o → IsSome (find variable_number l.number kept)
        → kept ≡ set_at variable_number l.number (cond (is_some name)
        (Some (unwrap_or (find variable_number l.number kept) (unbounded_in group l.number))) None)
        kept
    by_name None o unnamed e some = let both : false ≡ true = unnamed in cc
    by_name (Some name) None unnamed e some =
        absurd (not_some (find variable_number l.number kept) e some)
    by_name (Some name) (Some v) unnamed e some =
        sym (set_at_found variable_number l.number kept rise)
        ∙ ap (λ o. set_at variable_number l.number o kept) (e
        ∙ sym (ap (λ o. Some (unwrap_or o (unbounded_in group l.number))) e))

-- ---- the loop

-- what is left of the listed gives, from those that are kept now, what all of them give
pub record ListedSoFar (group : ℕ) (start now : List Variable) (listed : List NameChange)
    (i first capacity : ℕ) : Type 0 where
  pub given : GivenSoFar (given_variable group) (λ n. find variable_number n start)
      (λ n. find variable_number n now) listed (drop i listed)
  pub rising : Rise variable_number now
  pub count : length now + kept_count start listed + put_count (drop i listed)
      ≡ length start + put_count listed + kept_count start (drop i listed)
  pub fits : length now + put_count (drop i listed) ≤ capacity
  pub grown : first ≤ capacity

-- what is found after one of them
found_then : (group : ℕ) (now : List Variable) (x : NameChange) (n : ℕ)
    → find variable_number n (set_at variable_number x.number
    (given_variable group x (find variable_number x.number now)) now)
    ≡ cond (x.number == n) (given_variable group x (find variable_number n now))
    (find variable_number n now)
found_then group now x n =
    elim (cases_eq x.number n) [
      | inl same ↦
          subst (λ m. find variable_number m after ≡ given_variable group x
          (find variable_number m now)) same (find-set_at_same variable_number x.number given now
          (IsAt-given group x now)) ∙ sym (ap by_test (eq-eqb x.number n same))
      | inr other ↦
          find-set_at_other variable_number n x.number given now (λ e. other (sym e))
          (IsAt-given group x now) ∙ sym (ap by_test (ne_eqb x.number n other))
    ]
  where
    given : Option Variable
    given = given_variable group x (find variable_number x.number now)

    after : List Variable
    after = set_at variable_number x.number given now

    by_test : Bool → Option Variable
    by_test b =
        cond b (given_variable group x (find variable_number n now)) (find variable_number n now)

length_of : {X : Type 0} (o : Option X) → length (option_to_list o) ≡ cond (is_some o) 1 0
length_of None = refl
length_of (Some x) = refl

some_given : (group : ℕ) (l : NameChange) (o : Option Variable) → is_some (given_variable group l o)
    ≡ is_some l.name
some_given group l o =
    elim (is_some l.name) as (λ b. is_some
    (cond b (Some (unwrap_or o (unbounded_in group l.number))) None) ≡ b)
    [ true ↦ refl | false ↦ refl ]

pub listed_more : (group : ℕ) (start now after : List Variable) (listed : List NameChange)
    (i first capacity more : ℕ) (d : NameChange)
    → ListedSoFar group start now listed i first capacity → i < length listed
    → after ≡ set_at variable_number (slice_index_or listed i d).number (given_variable group
    (slice_index_or listed i d) (find variable_number (slice_index_or listed i d).number now)) now
    → Rise variable_number after → capacity ≤ more
    → ListedSoFar group start after listed (i + 1) first more
listed_more group start now after listed i first capacity more d h lt is rise grows =
    let x = slice_index_or listed i d in
    let left = drop (i + 1) listed in
    let split = drop_more listed i d lt in
    let own = still_next i d lt h.given refl in
    let given = given_variable group x (find variable_number x.number now) in
    let lengths = length-set_at variable_number x.number given now h.rising in
    let was = length_of (find variable_number x.number now)
    ∙ ap (λ o. cond {A = ℕ} (is_some o) 1 0) own in
    let gives = length_of given ∙ ap (λ b. cond {A = ℕ} b 1 0)
    (some_given group x (find variable_number x.number now)) in
    let puts = ap put_count split ∙ count_first (λ l. is_some l.name) x left in
    let keeps = ap (kept_count start) split
    ∙ count_first (λ l. is_some (find variable_number l.number start)) x left in
    let long = ap length is in
    record {
      given = given_more i d lt h.given refl (λ n. ap (find variable_number n) is
          ∙ found_then group now x n);
      rising = rise;
      count = omega (arith, h.count, lengths, was, gives, puts, keeps, long);
      fits = omega (arith, h.fits, lengths, was, gives, puts, keeps, long);
      grown = omega (arith, h.grown);
    }
