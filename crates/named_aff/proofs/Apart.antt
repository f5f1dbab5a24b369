-- Entries of distinct names, taken one by one as terms.
use Rattle.std.proofs.Common.{◌≡◌, ℕ, Bool, true, false, ◌||◌, List, [], ◌∷◌, ◌++◌, refl, sym, ap, subst, ◌∙◌, map, append_assoc}
use Rattle.std.specs.Cmp.Lexicographic.{nat_list_eq_equiv}
use Rattle.std.specs.List.{AllByRecursion, IsDistinct, list_any}
use Rattle.std.specs.Map.{keys_of}
use Rattle.std.specs.Str.{bytes_eq}
use Rattle.std.proofs.lemmas.List.{map-append}
use Rattle.std.proofs.lemmas.Map.Keys.{IsDistinct-push}
use Rattle.named_aff.specs.Distinct.{HasDistinctNames}
use Rattle.named_aff.specs.declared.terms.NamedTerm.{NamedTerm}
use Rattle.indexmap.specs.IndexMap.{insert_entry}
use Rattle.named_aff.specs.Entries.{Entries, has_variable, terms_in}

all_first : {X : Type 0} (P : X → Type 0) (xs ys : List X) → AllByRecursion P (xs ++ ys)
    → AllByRecursion P xs
all_first P [] ys h = tt
all_first P (x ∷ xs) ys h = (h.0, all_first P xs ys h.1)

distinct_first : {X : Type 0} (eq : X → X → Bool) (xs ys : List X) → IsDistinct eq (xs ++ ys)
    → IsDistinct eq xs
unfolding IsDistinct
distinct_first eq [] ys h = tt
distinct_first eq (x ∷ xs) ys h =
    (all_first (λ y. eq x y ≡ false) xs ys h.0, distinct_first eq xs ys h.1)

names_in : (entries : Entries) → map (λ t. t.variable) (terms_in entries) ≡ keys_of entries
names_in [] = refl
names_in (e ∷ entries) = ap (λ names. e.0 ∷ names) (names_in entries)

pub distinct_terms : (entries : Entries) → IsDistinct bytes_eq (keys_of entries)
    → HasDistinctNames (terms_in entries)
distinct_terms entries h = subst (IsDistinct bytes_eq) (sym (names_in entries)) h

-- the terms so far with the next, of those that are all distinct
pub distinct_more : (made : List NamedTerm) (t : NamedTerm) (more all : List NamedTerm)
    → made ++ t ∷ more ≡ all → HasDistinctNames all → HasDistinctNames (made ++ t ∷ [])
distinct_more made t more all e h =
    let names : List NamedTerm → List (List ℕ) = map (λ t. t.variable) in
    let parted : names all ≡ names (made ++ t ∷ []) ++ names more =
    sym (ap names (append_assoc made (t ∷ []) more ∙ e))
    ∙ map-append (λ t. t.variable) (made ++ t ∷ []) more in
    distinct_first bytes_eq (names (made ++ t ∷ [])) (names more)
    (subst (IsDistinct bytes_eq) parted h)

-- ---- a term of a variable that has none yet

pub distinct_last : (ts : List NamedTerm) (t : NamedTerm) → HasDistinctNames ts
    → has_variable ts t.variable ≡ false → HasDistinctNames (ts ++ t ∷ [])
distinct_last ts t h absent =
    subst (IsDistinct bytes_eq) (sym (map-append (λ t. t.variable) ts (t ∷ [])))
    (IsDistinct-push nat_list_eq_equiv (map (λ t. t.variable) ts) t.variable h absent)

apart_later : (x : List ℕ) (names : List (List ℕ)) (name : List ℕ) (others : List (List ℕ))
    → AllByRecursion (λ y. bytes_eq x y ≡ false) (names ++ name ∷ others) → bytes_eq x name ≡ false
apart_later x [] name others h = h.0
apart_later x (n ∷ names) name others h = apart_later x names name others h.1

absent_first : (names : List (List ℕ)) (name : List ℕ) (others : List (List ℕ))
    → IsDistinct bytes_eq (names ++ name ∷ others) → list_any (bytes_eq name) names ≡ false
unfolding IsDistinct
absent_first [] name others h = refl
absent_first (x ∷ names) name others h =
    ap (λ b. b || list_any (bytes_eq name) names) (nat_list_eq_equiv.symm name x
    ∙ apart_later x names name others h.0)
    ∙ absent_first names name others h.1

insert_last : (entries : Entries) (t : NamedTerm)
    → has_variable (terms_in entries) t.variable ≡ false
    → terms_in (insert_entry bytes_eq entries t.variable t.coefficient) ≡ terms_in entries ++ t ∷ []
insert_last [] t absent = refl
insert_last (e ∷ entries) t absent = at (bytes_eq t.variable e.0) refl (insert_last entries t)
  where
    at : (b : Bool) → bytes_eq t.variable e.0 ≡ b
        → (has_variable (terms_in entries) t.variable ≡ false → terms_in
        (insert_entry bytes_eq entries t.variable t.coefficient) ≡ terms_in entries ++ t ∷ [])
        → terms_in (insert_entry bytes_eq (e ∷ entries) t.variable t.coefficient)
        ≡ terms_in (e ∷ entries) ++ t ∷ []
    at true same rest = let bad : true ≡ false = rw same at absent in cc
    at false other rest =
        rw other (ap (λ ts. record { variable = e.0; coefficient = e.1 } ∷ ts)
        (rest (rw other at absent)))

-- the next of terms that are all distinct, as an entry
pub inserted_next : (entries : Entries) (t : NamedTerm) (more all : List NamedTerm)
    → terms_in entries ++ t ∷ more ≡ all → HasDistinctNames all
    → terms_in (insert_entry bytes_eq entries t.variable t.coefficient) ++ more ≡ all
inserted_next entries t more all e h =
    let names : List NamedTerm → List (List ℕ) = map (λ t. t.variable) in
    let parted : names all ≡ names (terms_in entries) ++ t.variable ∷ names more =
    sym (ap names e) ∙ map-append (λ t. t.variable) (terms_in entries) (t ∷ more) in
    let absent : has_variable (terms_in entries) t.variable ≡ false =
    absent_first (names (terms_in entries)) t.variable (names more)
    (subst (IsDistinct bytes_eq) parted h) in
    ap (λ ts. ts ++ more) (insert_last entries t absent) ∙ append_assoc (terms_in entries)
    (t ∷ []) more ∙ e
