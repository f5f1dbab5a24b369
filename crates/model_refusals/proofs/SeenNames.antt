-- Names that stand twice, as they are found by going over the names, with marks for the hashes of
-- those that were seen.
use Rattle.std.specs.Prelude.{◌≡◌, ℕ, zero, suc, ◌+◌, ◌%◌, ◌==◌, ◌<◌, ◌≤◌, Bool, true, false, ◌||◌, List, [], ◌∷◌, length, slice_get, Some, refl}
use Rattle.std.proofs.Common.{arith, eq-eqb, inl, inr, sym, ap, ◌∙◌}
use Rattle.std.proofs.lemmas.Bool.{cases_Bool, cases_eq, false≢true, or_from, or_parts, or_right}
use Rattle.std.proofs.lemmas.List.Folds.{list_any_more}
use Rattle.std.proofs.lemmas.Option.{get_or_from_slice_get, same_Some, slice_get_within}
use Rattle.std.proofs.lemmas.Slice.Eq.{bytes_eq-Decides}
use Rattle.std.specs.Cmp.Lexicographic.{nat_list_eq_equiv}
use Rattle.std.specs.List.{list_any}
use Rattle.std.specs.Str.{bytes_eq}
use Rattle.user_model.specs.Refusals.{has_twins}
use Rattle.model_refusals.specs.declared.marks.Marks.{Marks}
use Rattle.model_refusals.specs.Hash.{AreNew, hash_of, is_seen}
use Rattle.model_refusals.specs.Marked.{is_marked}

-- fewer than two names
pub no_twins : (names : List (List ℕ)) → length names < 2 → false ≡ has_twins names
no_twins [] few = refl
no_twins (name ∷ []) few = refl
no_twins (name ∷ other ∷ names) few = absurd (omega arith)

either : (a b : Bool) → (a || b) ≡ true → (a ≡ true → ⊥) → b ≡ true
either true b e not = absurd (not refl)
either false b e not = e

-- some name passes a test that a name passes
passes_at : (p : List ℕ → Bool) (names : List (List ℕ)) (place : ℕ) (name : List ℕ)
    → slice_get names place ≡ Some name → p name ≡ true → list_any p names ≡ true
passes_at p [] place name at e = cc
passes_at p (q ∷ qs) zero name at e = ap (λ b. b || list_any p qs) (ap p (same_Some q name at) ∙ e)
passes_at p (q ∷ qs) (suc place) name at e =
    or_right (p q) (list_any p qs) (passes_at p qs place name at e)

-- a name that stands before stands twice
pub twin_at : (names : List (List ℕ)) (place : ℕ) (name : List ℕ)
    → slice_get names place ≡ Some name → is_seen names place name ≡ true → has_twins names ≡ true
twin_at [] place name at seen = cc
twin_at (q ∷ qs) zero name at seen = absurd (false≢true seen)
twin_at (q ∷ qs) (suc place) name at seen =
    elim (cases_Bool (bytes_eq name q)) [
      | inl same ↦ ap (λ b. b || has_twins qs) (passes_at (bytes_eq q) qs place name at
          (nat_list_eq_equiv.symm q name ∙ same))
      | inr other ↦ or_right (list_any (bytes_eq q) qs) (has_twins qs)
          (twin_at qs place name at (either (bytes_eq name q) (is_seen qs place name) seen
          (λ e. false≢true (sym other ∙ e))))
    ]

-- no name passes a test that none at a place passes
passes_nowhere : (p : List ℕ → Bool) (names : List (List ℕ))
    → ((place : ℕ) (name : List ℕ) → slice_get names place ≡ Some name → p name ≡ false)
    → list_any p names ≡ false
passes_nowhere p [] none = refl
passes_nowhere p (q ∷ qs) none =
    or_from (p q) (list_any p qs) (none zero q refl)
    (passes_nowhere p qs (λ place. none (suc place)))

-- names none of which stands before are no twins
pub all_new : (names : List (List ℕ))
    → ((place : ℕ) (name : List ℕ) → slice_get names place ≡ Some name → is_seen names place
    name ≡ false) → has_twins names ≡ false
all_new [] new = refl
all_new (q ∷ qs) new =
    or_from (list_any (bytes_eq q) qs) (has_twins qs)
    (passes_nowhere (bytes_eq q) qs (λ place name at. nat_list_eq_equiv.symm q name
    ∙ (or_parts (bytes_eq name q) (is_seen qs place name) (new (suc place) name at)).0))
    (all_new qs (λ place name at. (or_parts (bytes_eq name q) (is_seen qs place name)
    (new (suc place) name at)).1))

-- ---- the names of one part

pub record IsAt (names : List (List ℕ)) (of_part : ℕ → Bool) (place : ℕ)
    (marks : Marks) : Type 0 where
  -- those that were seen stood not before
  pub new : (before : ℕ) (name : List ℕ) → before < place → slice_get names before ≡ Some name
      → of_part (hash_of name) ≡ true → is_seen names before name ≡ false
  -- and their hashes are marked
  pub marked : (name : List ℕ) → is_seen names place name ≡ true → of_part (hash_of name) ≡ true
      → is_marked marks (hash_of name) ≡ true

module _ (names : List (List ℕ)) (of_part : ℕ → Bool) where
  pub at_start : (marks : Marks) → IsAt names of_part 0 marks
  at_start marks = record {
    new = λ before name lt. absurd (omega (arith, lt));
    marked = λ name seen. absurd (false≢true seen);
  }

  pub at_end : (place : ℕ) (marks : Marks) → length names ≤ place → IsAt names of_part place marks
      → AreNew names of_part
  at_end place marks past at =
      λ before name here. at.new before name
      (omega (arith, past, slice_get_within names before name here)) here

  module _ (place : ℕ) (name : List ℕ) (marks : Marks) (here : slice_get names place ≡ Some name)
      (at : IsAt names of_part place marks) where
    -- a name whose hash isn't marked is new
    pub new_by_mark : of_part (hash_of name) ≡ true → is_marked marks (hash_of name) ≡ false
        → is_seen names place name ≡ false
    new_by_mark of_this unmarked =
        elim (cases_Bool (is_seen names place name)) [
          | inl seen ↦ absurd (false≢true (sym unmarked ∙ at.marked name seen of_this))
          | inr new ↦ new
        ]

    seen_more : (q : List ℕ) → is_seen names (place + 1) q
        ≡ (is_seen names place q || bytes_eq q name)
    seen_more q =
        list_any_more (bytes_eq q) names place name (slice_get_within names place name here)
        ∙ ap (λ n. is_seen names place q || bytes_eq q n)
        (get_or_from_slice_get names place name name here)

    -- one name more was seen
    pub one_more : (after : Marks)
        → (of_part (hash_of name) ≡ true → is_seen names place name ≡ false)
        → (of_part (hash_of name) ≡ true → is_marked after (hash_of name) ≡ true)
        → ((n : ℕ) → is_marked marks n ≡ true → is_marked after n ≡ true)
        → IsAt names of_part (place + 1) after
    one_more after unseen put kept = record {
      new = λ before q lt there of_this.
          elim (cases_eq before place) [
            | inl same ↦ up_to before q same there of_this
            | inr other ↦ at.new before q (omega (arith, lt, other)) there of_this
          ];
      marked = λ q seen of_this.
          elim (cases_Bool (bytes_eq q name)) [
            | inl same ↦ let is =
                (bytes_eq-Decides q name).0 same in ap (λ n. is_marked after (hash_of n)) is
                ∙ put (ap (λ n. of_part (hash_of n)) (sym is) ∙ of_this)
            | inr other ↦ kept (hash_of q) (at.marked q (before_it (is_seen names place q)
                (bytes_eq q name) other (sym (seen_more q) ∙ seen)) of_this)
          ];
    }
      where
        before_it : (a b : Bool) → b ≡ false → (a || b) ≡ true → a ≡ true
        before_it true b f e = refl
        before_it false b f e = sym f ∙ e

        up_to : (before : ℕ) (q : List ℕ) → before ≡ place → slice_get names before ≡ Some q
            → of_part (hash_of q) ≡ true → is_seen names before q ≡ false
        up_to before q same there of_this =
            let is : q ≡ name = same_Some q name (sym there ∙ (ap (slice_get names) same ∙ here)) in
            ap (λ k. is_seen names k q) same ∙ (ap (is_seen names place) is
            ∙ unseen (ap (λ n. of_part (hash_of n)) (sym is) ∙ of_this))

-- ---- all parts

-- the names of the parts so far are new
abbrev pub AreNewBelow : List (List ℕ) → ℕ → ℕ → Type 0
AreNewBelow names parts part =
    (place : ℕ) (name : List ℕ) → slice_get names place ≡ Some name → hash_of name % parts < part
    → is_seen names place name ≡ false

pub part_more : (names : List (List ℕ)) (parts part : ℕ) → AreNewBelow names parts part
    → AreNew names (λ hash. hash % parts == part) → AreNewBelow names parts (part + 1)
part_more names parts part below this = λ place name here lt.
    elim (cases_eq (hash_of name % parts) part) [
      | inl same ↦ this place name here (eq-eqb (hash_of name % parts) part same)
      | inr other ↦ below place name here (omega (arith, lt, other))
    ]

pub each_part : (names : List (List ℕ)) (parts part : ℕ) → 0 < parts → parts ≤ part
    → AreNewBelow names parts part → false ≡ has_twins names
each_part names parts part some all below =
    sym (all_new names (λ place name here. below place name here (omega (arith, some, all))))
