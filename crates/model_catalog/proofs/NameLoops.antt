-- The loops over the listed names: what is left of them gives, from the names now, what all of them
-- give.
use Rattle.std.proofs.Common.{◌≡◌, ℕ, ◌+◌, ◌<◌, ◌≤◌, ◌==◌, cond, List, [], ◌∷◌, map, length, drop, Option, Some, None, refl, sym, ap, subst, ◌∙◌, arith}
use Rattle.std.specs.Prelude.{true, false, IsSome, IfSome, is_some, slice_index_or}
use Rattle.std.specs.Option.{option_map, option_map_or}
use Rattle.std.specs.FinMap.{get}
use Rattle.std.proofs.Math.ListN.{set}
use Rattle.std.proofs.lemmas.List.{drop_more}
use Rattle.std.proofs.lemmas.List.Sums.{sum_by-drop_more}
use Rattle.std.proofs.lemmas.Option.{none-some, slice_get-get_or}
use Rattle.map_laws.specs.LoopLaws.{IsPast, as_it_was, past_more}
use Rattle.map_laws.specs.OptionLaws.{not_some, some_is}
use Rattle.numbered_list.specs.Numbered.{Rise, find}
use Rattle.numbered_list.specs.Laws.{find-at}
use Rattle.name_index.specs.NameTable.{NumbersByName, IsOneToOne}
use Rattle.model_catalog.specs.declared.names.NameChange.{NameChange}
use Rattle.model_catalog.specs.Names.{AreDistinct, listed_number, standing_names, name_of, put_aside, put_count, renamed_by, settled, without_names}
use Rattle.model_catalog.proofs.Found.{find-map}
use Rattle.model_catalog.proofs.InTurn.{GivenSoFar, among_next, given_more, still_next}
use Rattle.model_catalog.proofs.TableNames.{none_of_free}

abbrev pub Naming : Type 0
Naming = ℕ → Option (List ℕ)

-- ---- the names taken out

pub record TakenSoFar (start now : NumbersByName) (listed left : List NameChange)
    (i first spare_now : ℕ) : Type 0 where
  pub names : GivenSoFar (λ l _. None) (name_of start) (name_of now) listed (drop i listed)
  pub past : IsPast (put_aside (name_of start)) listed left i
  pub one_to_one : IsOneToOne now
  pub spare : first ≤ spare_now

pub taken_more : (start now after : NumbersByName) (listed left : List NameChange)
    (i spare spare_now spare_after : ℕ) (d : NameChange) (was : Option (List ℕ))
    → TakenSoFar start now listed left i spare spare_now → i < length listed
    → was ≡ name_of now (slice_index_or left i d).number
    → ((n : ℕ) → name_of after n ≡ cond ((slice_index_or left i d).number == n) None
    (name_of now n)) → spare_now ≤ spare_after → IsOneToOne after
    → TakenSoFar start after listed (let given : NameChange = record {
      number = (slice_index_or left i d).number;
      name = (slice_index_or left i d).name;
      aside = was;
    } in set left i given) (i + 1) spare spare_after
taken_more start now after listed left i spare spare_now spare_after d was h lt value is grows one =
    let x = slice_index_or left i d in
    let read = as_it_was (put_aside (name_of start)) listed left i d lt h.past in
    let stood : was ≡ name_of start x.number = value ∙ still_next i d lt h.names read in
    record {
      names = given_more i d lt h.names read is;
      past = past_more (put_aside (name_of start)) listed left i d _ lt h.past
          (ap (λ o. record { number = x.number; name = x.name; aside = o }) stood);
      one_to_one = one;
      spare = omega (arith, h.spare);
    }

-- ---- the names put in

pub record PutSoFar (start now : NumbersByName) (listed left : List NameChange)
    (i first spare_now : ℕ) : Type 0 where
  pub names : GivenSoFar (λ l _. l.name) (name_of start) (name_of now) listed (drop i listed)
  pub past : IsPast settled listed left i
  pub one_to_one : IsOneToOne now
  pub spare : first + put_count (drop i listed) ≤ spare_now + put_count listed

-- the names that stand before the listed ones are put in, and those that are to stand afterwards
pub record ArePut (start : NumbersByName) (listed : List NameChange) (spare : ℕ) : Type 0 where
  pub rising : Rise listed_number listed
  pub free : (n : ℕ) → IsSome (find listed_number n listed) → name_of start n ≡ None
  pub distinct : AreDistinct (renamed_by listed (name_of start))
  pub room : put_count listed ≤ spare

-- what the next may rest on
pub record NextPut (now : NumbersByName) (x : NameChange) (spare : ℕ) : Type 0 where
  pub free : name_of now x.number ≡ None
  pub new : IfSome x.name (λ name. get now name ≡ None)
  pub room : IsSome x.name → 0 < spare

put_count-first : (x : NameChange) (rest : List NameChange)
    → put_count (x ∷ rest) ≡ cond (is_some x.name) 1 0 + put_count rest
put_count-first x rest =
    sum_by-drop_more (λ l. cond (is_some l.name) 1 0) (x ∷ rest) 0 x (omega arith)

one_of_some : (o : Option (List ℕ)) → IsSome o → 0 < cond (is_some o) 1 0
one_of_some None some = absurd (let both : false ≡ true = some in cc)
one_of_some (Some x) some = omega arith

-- a name that is put in next is no other's yet
new_name : (start now : NumbersByName) (listed : List NameChange) (i spare : ℕ) (x : NameChange)
    → ArePut start listed spare → GivenSoFar (λ l _. l.name) (name_of start) (name_of now) listed
    (drop i listed) → IsOneToOne now → find listed_number x.number listed ≡ Some x
    → IsSome (find listed_number x.number (drop i listed)) → (o : Option (List ℕ)) → x.name ≡ o
    → IfSome o (λ name. get now name ≡ None)
new_name start now listed i spare x put h one there some None is = tt
new_name start now listed i spare x put h one there some (Some name) is =
    none_of_free now one name (λ n at. by_place n (find listed_number n (drop i listed)) refl at)
  where
    its : renamed_by listed (name_of start) x.number ≡ Some name
    its = ap (λ o. option_map_or (λ l. l.name) o (name_of start x.number)) there ∙ is

    by_place : (n : ℕ) (o : Option NameChange) → find listed_number n (drop i listed) ≡ o
        → name_of now n ≡ Some name → ⊥
    by_place n (Some y) e at =
        let listed_still = some_is (find listed_number n (drop i listed)) y e in
        none-some name (sym (put.free n (h.among n listed_still))
        ∙ (sym (h.still n listed_still) ∙ at))
    by_place n None e at =
        let gives = sym (h.rest n) ∙ (ap (λ o. option_map_or (λ l. l.name) o (name_of now n)) e
        ∙ at) in
        let same : n ≡ x.number = put.distinct n x.number name gives its in
        not_some (find listed_number x.number (drop i listed))
        (ap (λ m. find listed_number m (drop i listed)) (sym same) ∙ e) some

pub next_put : (start now : NumbersByName) (listed left : List NameChange) (i spare spare_now : ℕ)
    (d : NameChange) → ArePut start listed spare → PutSoFar start now listed left i spare spare_now
    → i < length listed → NextPut now (slice_index_or left i d) spare_now
next_put start now listed left i spare spare_now d put h lt =
    let x = slice_index_or left i d in
    let read = as_it_was settled listed left i d lt h.past in
    let split = drop_more listed i d lt ∙ ap (λ y. y ∷ drop (i + 1) listed) (sym read) in
    let there : find listed_number x.number listed ≡ Some x =
    ap (λ (y : NameChange). find listed_number y.number listed) read ∙ (find-at listed_number
    listed i (slice_index_or listed i d) put.rising (slice_get-get_or listed i d lt) ∙ ap Some
    (sym read)) in
    let some = among_next i d lt h.names read in
    let count = ap put_count split ∙ put_count-first x (drop (i + 1) listed) in
    record {
      free = h.names.still x.number some ∙ put.free x.number (h.names.among x.number some);
      new = new_name start now listed i spare x put h.names h.one_to_one there some x.name refl;
      room = λ named. omega (arith, h.spare, put.room, count, one_of_some x.name named);
    }

one_if : {o p : Option (List ℕ)} → o ≡ p → cond {A = ℕ} (is_some o) 1 0 ≡ cond (is_some p) 1 0
one_if e = ap (λ x. cond (is_some x) 1 0) e

pub put_more : (start now after : NumbersByName) (listed left : List NameChange)
    (i spare spare_now spare_after : ℕ) (d : NameChange) (was nothing new : Option (List ℕ))
    → PutSoFar start now listed left i spare spare_now → i < length listed
    → was ≡ (slice_index_or left i d).aside → nothing ≡ None → new ≡ (slice_index_or left i d).name
    → ((n : ℕ) → name_of after n ≡ cond ((slice_index_or left i d).number == n) new (name_of now n))
    → spare_now ≤ spare_after + cond (is_some new) 1 0 → IsOneToOne after
    → PutSoFar start after listed (let given : NameChange = record
    { number = (slice_index_or left i d).number; name = was; aside = nothing } in
    set left i given) (i + 1) spare spare_after
put_more start now after listed left i spare spare_now spare_after d was nothing new h lt aside none
    name is grows one =
    let x = slice_index_or left i d in
    let read = as_it_was settled listed left i d lt h.past in
    let split = drop_more listed i d lt ∙ ap (λ y. y ∷ drop (i + 1) listed) (sym read) in
    let count = ap put_count split ∙ put_count-first x (drop (i + 1) listed) in
    let counted = one_if name in
    record {
      names = given_more i d lt h.names read (λ n. is n
          ∙ ap (λ o. cond (x.number == n) o (name_of now n)) name);
      past = past_more settled listed left i d _ lt h.past
          (λ j. record { number = x.number; name = aside j; aside = none j });
      one_to_one = one;
      spare = omega (arith, h.spare, count, counted, grows);
    }

-- ---- both

module _ (naming : Naming) where
  pub free_aside : {taken : List NameChange} (now : Naming) (listed : List NameChange)
      → taken ≡ map (put_aside naming) listed → ((n : ℕ) → now n ≡ without_names listed naming n)
      → (n : ℕ) → IsSome (find listed_number n taken) → now n ≡ None
  free_aside now listed e is n some =
      is n ∙ by_place (find listed_number n listed) (subst IsSome (ap (find listed_number n) e
      ∙ find-map (put_aside naming) listed_number n listed) some)
    where
      by_place : (o : Option NameChange) → IsSome (option_map (put_aside naming) o)
          → option_map_or (λ (l : NameChange). None) o (naming n) ≡ None
      by_place None some = absurd (not_some (option_map (put_aside naming) None) refl some)
      by_place (Some l) some = refl

  pub renamed_aside : {taken : List NameChange} (now : Naming) (listed : List NameChange)
      → taken ≡ map (put_aside naming) listed → ((n : ℕ) → now n ≡ without_names listed naming n)
      → (n : ℕ) → renamed_by taken now n ≡ renamed_by listed naming n
  renamed_aside now listed e is n =
      ap (λ o. option_map_or (λ l. l.name) o (now n)) (ap (find listed_number n) e
      ∙ find-map (put_aside naming) listed_number n listed)
      ∙ (ap (option_map_or (λ l. l.name) (option_map (put_aside naming)
      (find listed_number n listed))) (is n) ∙ by_place (find listed_number n listed))
    where
      by_place : (o : Option NameChange) → option_map_or (λ (l : NameChange). l.name)
          (option_map (put_aside naming) o) (option_map_or (λ (l : NameChange). None) o (naming n))
          ≡ option_map_or (λ (l : NameChange). l.name) o (naming n)
      by_place None = refl
      by_place (Some l) = refl

  pub settled_aside : (listed : List NameChange) → map settled (map (put_aside naming) listed)
      ≡ standing_names naming listed
  settled_aside [] = refl
  settled_aside (x ∷ xs) = ap (λ ys. settled (put_aside naming x) ∷ ys) (settled_aside xs)
