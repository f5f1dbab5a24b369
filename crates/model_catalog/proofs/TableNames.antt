-- The names in a table by their numbers: one clause on them says what a look-up, an addition and a
-- removal say.
use Rattle.std.proofs.Common.{◌≡◌, ◌≢◌, ℕ, zero, suc, ◌==◌, true, false, cond, List, [], ◌∷◌, Option, Some, None, refl, sym, ap, ◌∙◌, inl, inr, find, slice_get}
use Rattle.std.specs.FinMap as map
use Rattle.std.specs.FinMap.{entries, entries_sorted, get-entries, get-insert, get-remove}
use Rattle.std.specs.Option.{option_map, IfSome, IfNone}
use Rattle.std.specs.Ordering.{nat_cmp, eq_by_cmp}
use Rattle.std.specs.Cmp.{tied_itself}
use Rattle.std.specs.Cmp.Lexicographic.{slice_cmp, texts_ties, nat_list_cmp_total, bytes_decides}
use Rattle.std.proofs.lemmas.Bool.{cases_Bool, cases_eq, eq-eqb, ne_eqb}
use Rattle.std.proofs.lemmas.Option.{none-some, same_Some, slice_get_within, get_or_from_slice_get}
use Rattle.map_laws.specs.EntryLaws.{find_at}
use Rattle.name_index.specs.NameTable.{NumbersByName, IsNumberFree, IsOneToOne, IsNameAt}
use Rattle.model_catalog.specs.Names.{name_of}

abbrev Entries : Type 0
Entries = List (List ℕ × ℕ)

-- the first name with a number
abbrev name_in : ℕ → Entries → Option (List ℕ)
name_in n es = option_map (λ e. e.0) (find (λ e. e.1 == n) es)

name_in-first : (e : List ℕ × ℕ) (es : Entries) (n : ℕ) → e.1 ≡ n → name_in n (e ∷ es) ≡ Some e.0
name_in-first e es n same =
    ap (λ b. option_map (λ (x : List ℕ × ℕ). x.0) (cond b (Some e) (find (λ x. x.1 == n) es)))
    (eq-eqb e.1 n same)

name_in-rest : (e : List ℕ × ℕ) (es : Entries) (n : ℕ) → e.1 ≢ n → name_in n (e ∷ es) ≡ name_in n es
name_in-rest e es n other =
    ap (λ b. option_map (λ (x : List ℕ × ℕ). x.0) (cond b (Some e) (find (λ x. x.1 == n) es)))
    (ne_eqb e.1 n other)

place_of_name : (es : Entries) (n : ℕ) (name : List ℕ) → name_in n es ≡ Some name
    → (i : ℕ) × (slice_get es i ≡ Some (name, n))
place_of_name [] n name e = absurd (none-some name e)
place_of_name (x ∷ es) n name e =
    elim (cases_eq x.1 n) [
      | inl same ↦ let read =
          same_Some x.0 name (sym (name_in-first x es n same) ∙ e) in
          (0, λ i. Some (read i, same i))
      | inr other ↦ let rest =
          place_of_name es n name (sym (name_in-rest x es n other) ∙ e) in (suc rest.0, rest.1)
    ]

some_name : (es : Entries) (i n : ℕ) (name : List ℕ) → slice_get es i ≡ Some (name, n)
    → (other : List ℕ) × (name_in n es ≡ Some other)
some_name [] i n name at = absurd (none-some (name, n) at)
some_name (x ∷ es) zero n name at =
    (x.0, name_in-first x es n (ap (λ e. e.1) (same_Some x (name, n) at)))
some_name (x ∷ es) (suc i) n name at =
    elim (cases_eq x.1 n) [
      | inl same ↦ (x.0, name_in-first x es n same)
      | inr other ↦ let rest =
          some_name es i n name at in (rest.0, name_in-rest x es n other ∙ rest.1)
    ]

same_text : (x y : List ℕ) → eq_by_cmp (slice_cmp nat_cmp) x y ≡ true → x ≡ y
same_text x y e = (bytes_decides x y).0 (texts_ties x y ∙ e)

text_itself : (x : List ℕ) → eq_by_cmp (slice_cmp nat_cmp) x x ≡ true
text_itself x = sym (texts_ties x x) ∙ (bytes_decides x x).1 refl

place_of_found : (es : Entries) (name : List ℕ) (n : ℕ) → map.find (slice_cmp nat_cmp) name es
    ≡ Some n → (i : ℕ) × (slice_get es i ≡ Some (name, n))
place_of_found [] name n e = absurd (none-some n e)
place_of_found (x ∷ es) name n e =
    elim (eq_by_cmp (slice_cmp nat_cmp) name x.0) as (λ b. eq_by_cmp (slice_cmp nat_cmp) name x.0
    ≡ b → cond b (Some x.1) (map.find (slice_cmp nat_cmp) name es) ≡ Some n → (i : ℕ)
    × (slice_get (x ∷ es) i ≡ Some (name, n))) [
      | true ↦ λ tied is. let same =
          same_text name x.0 tied in let value = same_Some x.1 n is in
          (0, λ i. Some (sym same i, value i))
      | false ↦ λ tied is. let rest = place_of_found es name n is in (suc rest.0, rest.1)
    ] refl e

found_at : (m : NumbersByName) (i n : ℕ) (name : List ℕ) → slice_get (entries m) i ≡ Some (name, n)
    → map.get m name ≡ Some n
found_at m i n name at =
    let d : List ℕ × ℕ = (name, n) in
    let read = get_or_from_slice_get (entries m) i (name, n) d at in
    let found = find_at nat_list_cmp_total name (entries m) i d (entries_sorted m)
    (slice_get_within (entries m) i (name, n) at)
    (ap (λ (e : List ℕ × ℕ). slice_cmp nat_cmp e.0 name) read
    ∙ tied_itself nat_list_cmp_total name) in
    get-entries m name ∙ (found ∙ ap (λ (e : List ℕ × ℕ). Some e.1) read)

-- the name that stands at a number has it
pub get-name_of : (m : NumbersByName) (n : ℕ) (name : List ℕ) → name_of m n ≡ Some name
    → map.get m name ≡ Some n
unfolding name_of
get-name_of m n name e =
    let place = place_of_name (entries m) n name e in found_at m place.0 n name place.1

-- where a name has a number, some name stands at it
pub some_name_of : (m : NumbersByName) (n : ℕ) (name : List ℕ) → map.get m name ≡ Some n
    → (other : List ℕ) × (name_of m n ≡ Some other)
unfolding name_of
some_name_of m n name e =
    let place = place_of_found (entries m) name n (sym (get-entries m name) ∙ e) in
    some_name (entries m) place.0 n name place.1

pub name_of-get : (m : NumbersByName) → IsOneToOne m → (n : ℕ) (name : List ℕ)
    → map.get m name ≡ Some n
    → name_of m n ≡ Some name
name_of-get m one n name e =
    let some = some_name_of m n name e in
    some.1 ∙ ap Some (one some.0 name n (get-name_of m n some.0 some.1) e)

-- a number at which no name stands is no name's
pub free_of_none : (m : NumbersByName) (n : ℕ) → name_of m n ≡ None → IsNumberFree m n
free_of_none m n none name e =
    let some = some_name_of m n name e in none-some some.0 (sym none ∙ some.1)

-- a name that stands at no number has none
pub none_of_free : (m : NumbersByName) → IsOneToOne m → (name : List ℕ)
    → ((n : ℕ) → name_of m n ≢ Some name) → map.get m name ≡ None
none_of_free m one name free = by_answer (map.get m name) refl
  where
    by_answer : (o : Option ℕ) → map.get m name ≡ o → o ≡ None
    by_answer None e = refl
    by_answer (Some n) e = absurd (free n (name_of-get m one n name e))

-- two answers of which each is a name exactly where the other is
pub same_answers : (o p : Option (List ℕ)) → ((name : List ℕ) → o ≡ Some name → p ≡ Some name)
    → ((name : List ℕ) → p ≡ Some name → o ≡ Some name) → o ≡ p
same_answers None None to from = refl
same_answers None (Some y) to from = from y refl
same_answers (Some x) p to from = sym (to x refl)

-- what a look-up of a number answers
pub name_of_is : (m : NumbersByName) → IsOneToOne m → (n : ℕ) (o : Option (List ℕ)) → IsNameAt m n o
    → o ≡ name_of m n
name_of_is m one n o at =
    same_answers o (name_of m n) (λ name e. name_of-get m one n name ((at name).0 e))
    (λ name e. (at name).1 (get-name_of m n name e))

-- after a new name and its number
pub name_of-insert : (m more : NumbersByName) (name : List ℕ) (k : ℕ) → IsOneToOne more
    → more ≡ map.insert m name k → map.get m name ≡ None → name_of m k ≡ None → IsOneToOne m
    → (n : ℕ) → name_of more n ≡ cond (k == n) (Some name) (name_of m n)
name_of-insert m more name k one is free none old_one n =
    elim (cases_eq k n) [
      | inl same ↦ name_of-get more one n name (at_itself ∙ ap Some same)
          ∙ sym (ap (λ b. cond b (Some name) (name_of m n)) (eq-eqb k n same))
      | inr other ↦ same_answers (name_of more n) (name_of m n) (to other) from
          ∙ sym (ap (λ b. cond b (Some name) (name_of m n)) (ne_eqb k n other))
    ]
  where
    at : (q : List ℕ) → map.get more q ≡ cond (eq_by_cmp (slice_cmp nat_cmp) q name) (Some k)
        (map.get m q)
    at q = ap (λ x. map.get x q) is ∙ get-insert nat_list_cmp_total m name k q

    at_itself : map.get more name ≡ Some k
    at_itself = at name ∙ ap (λ b. cond b (Some k) (map.get m name)) (text_itself name)

    to : k ≢ n → (q : List ℕ) → name_of more n ≡ Some q → name_of m n ≡ Some q
    to other q e =
        elim (eq_by_cmp (slice_cmp nat_cmp) q name) as (λ b. cond b (Some k) (map.get m q) ≡ Some n
        → name_of m n ≡ Some q) [
          | true ↦ λ got. absurd (other (same_Some k n got))
          | false ↦ λ got. name_of-get m old_one n q got
        ] (sym (at q) ∙ get-name_of more n q e)

    from : (q : List ℕ) → name_of m n ≡ Some q → name_of more n ≡ Some q
    from q e =
        elim (cases_Bool (eq_by_cmp (slice_cmp nat_cmp) q name)) [
          | inl tied ↦ absurd (none-some n (sym free
              ∙ (ap (map.get m) (sym (same_text q name tied)) ∙ get-name_of m n q e)))
          | inr off ↦ name_of-get more one n q (at q
              ∙ (ap (λ b. cond b (Some k) (map.get m q)) off ∙ get-name_of m n q e))
        ]

-- after a name is taken out
pub name_of-remove : (m fewer : NumbersByName) (name : List ℕ) (k : ℕ) → IsOneToOne fewer
    → fewer ≡ map.remove m name → map.get m name ≡ Some k → IsOneToOne m → (n : ℕ)
    → name_of fewer n ≡ cond (k == n) None (name_of m n)
name_of-remove m fewer name k one is got old_one n =
    elim (cases_eq k n) [
      | inl same ↦ same_answers (name_of fewer n) None
          (λ q e. absurd (gone same q (get-name_of fewer n q e))) (λ q e. absurd (none-some q e))
          ∙ sym (ap (λ b. cond b None (name_of m n)) (eq-eqb k n same))
      | inr other ↦ same_answers (name_of fewer n) (name_of m n) to (from other)
          ∙ sym (ap (λ b. cond b None (name_of m n)) (ne_eqb k n other))
    ]
  where
    at : (q : List ℕ) → map.get fewer q ≡ cond (eq_by_cmp (slice_cmp nat_cmp) q name) None
        (map.get m q)
    at q = ap (λ x. map.get x q) is ∙ get-remove nat_list_cmp_total m name q

    kept : (q : List ℕ) → map.get fewer q ≡ Some n
        → (map.get m q ≡ Some n) × (eq_by_cmp (slice_cmp nat_cmp) q name ≡ false)
    kept q e =
        elim (eq_by_cmp (slice_cmp nat_cmp) q name) as (λ b. eq_by_cmp (slice_cmp nat_cmp) q name
        ≡ b → cond b None (map.get m q) ≡ Some n → (map.get m q ≡ Some n)
        × (eq_by_cmp (slice_cmp nat_cmp) q name ≡ false)) [
          | true ↦ λ tied got. absurd (none-some n got)
          | false ↦ λ tied got. (got, tied)
        ] refl (sym (at q) ∙ e)

    gone : k ≡ n → (q : List ℕ) → map.get fewer q ≡ Some n → ⊥
    gone same q e =
        let was = kept q e in
        let name_is : q ≡ name = old_one q name n was.0 (got ∙ ap Some same) in
        let both : true ≡ false =
        sym (text_itself name) ∙ (ap (λ x. eq_by_cmp (slice_cmp nat_cmp) x name)
        (sym name_is) ∙ was.1) in
        cc

    to : (q : List ℕ) → name_of fewer n ≡ Some q → name_of m n ≡ Some q
    to q e = name_of-get m old_one n q (kept q (get-name_of fewer n q e)).0

    from : k ≢ n → (q : List ℕ) → name_of m n ≡ Some q → name_of fewer n ≡ Some q
    from other q e =
        elim (cases_Bool (eq_by_cmp (slice_cmp nat_cmp) q name)) [
          | inl tied ↦ absurd (other (same_Some k n (sym got
              ∙ (ap (map.get m) (sym (same_text q name tied)) ∙ get-name_of m n q e))))
          | inr off ↦ name_of-get fewer one n q (at q
              ∙ (ap (λ b. cond b None (map.get m q)) off ∙ get-name_of m n q e))
        ]

-- after what stood at a number, a name or none, is taken out
pub taken_names : (m fewer : NumbersByName) (k : ℕ) (o : Option (List ℕ)) → IsOneToOne fewer
    → IsOneToOne m → o ≡ name_of m k → IfSome o (λ name. fewer ≡ map.remove m name)
    → IfNone o (fewer ≡ m) → (n : ℕ) → name_of fewer n ≡ cond (k == n) None (name_of m n)
taken_names m fewer k (Some name) one old_one at removed absent n =
    name_of-remove m fewer name k one removed (get-name_of m k name (sym at)) old_one n
taken_names m fewer k None one old_one at removed absent n =
    elim (cases_eq k n) [
      | inl same ↦ ap (λ x. name_of x n) absent ∙ (ap (name_of m) (sym same)
          ∙ (sym at ∙ sym (ap (λ b. cond b None (name_of m n)) (eq-eqb k n same))))
      | inr other ↦ ap (λ x. name_of x n) absent
          ∙ sym (ap (λ b. cond b None (name_of m n)) (ne_eqb k n other))
    ]
