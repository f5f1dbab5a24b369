-- Edits that pass each test are accepted, and edits one after another.
use Rattle.std.specs.Prelude.{◌≡◌, ℕ, ◌≤◌, Bool, if◌then◌else◌, List, [], ◌∷◌, ◌++◌, map, Some, None, All, refl}
use Rattle.std.proofs.Common.{ap, append-nil, append_assoc, subst, sym, ◌∙◌}
use Rattle.std.proofs.lemmas.Bool.{le-ltb}
use Rattle.std.proofs.lemmas.List.Elements.{All-cons, All-head, All-nil, All-tail}
use Rattle.user_model.specs.declared.edit.Edit.{Edit}
use Rattle.user_model.specs.declared.refusal.Refusal.{Refusal}
use Rattle.user_model.specs.Consistent.{IsConsistent}
use Rattle.user_model.specs.Edited.{edited}
use Rattle.user_model.specs.Limits.{TERMS}
use Rattle.user_model.specs.Model.{ModelValue}
use Rattle.user_model.specs.Refusals.{counts, first_of, first_refusal, full_at, refusal_tests, within}
use Rattle.model_laws.specs.KeptConsistent.{kept_consistent}
use Rattle.model_laws.specs.Passed.{AllFail, IsPassed}

-- ---- one edit

none_first : (tests : List (Bool × Refusal)) → AllFail tests → first_of tests ≡ None
none_first [] h = refl
none_first (test ∷ tests) h =
    ap (λ b. if b then Some test.1 else first_of tests) h.0 ∙ none_first tests h.1

none_full : (counted : List (ℕ × ℕ)) → All (λ c. c.0 ≤ c.1) counted → AllFail (map full_at counted)
none_full [] h = tt
none_full (c ∷ counted) h = (
  le-ltb c.1 c.0 (All-head (λ c. c.0 ≤ c.1) c counted h),
  none_full counted (All-tail (λ c. c.0 ≤ c.1) c counted h),
)

-- each count is at most its limit
abbrev pub AreCountsWithin : List (ℕ × ℕ) → Type 0
AreCountsWithin [] = Unit {0}
AreCountsWithin (c ∷ counted) = (c.0 ≤ c.1) × AreCountsWithin counted

pub each_within : (counted : List (ℕ × ℕ)) → AreCountsWithin counted → All (λ c. c.0 ≤ c.1) counted
each_within [] h = All-nil (λ c. c.0 ≤ c.1)
each_within (c ∷ counted) h =
    All-cons (λ c. c.0 ≤ c.1) c counted h.0 (each_within counted h.1)

-- counts of terms, and others behind them
pub terms_within : (ns : List ℕ) (rest : List (ℕ × ℕ)) → All (λ n. n ≤ TERMS) ns
    → AreCountsWithin rest
    → AreCountsWithin (within TERMS ns ++ rest)
terms_within [] rest h others = others
terms_within (n ∷ ns) rest h others = (
  All-head (λ n. n ≤ TERMS) n ns h,
  terms_within ns rest (All-tail (λ n. n ≤ TERMS) n ns h) others,
)

-- an edit that passes every test is accepted
pub accepted : (model : ModelValue) (e : Edit) → IsPassed model e → first_refusal model e ≡ None
unfolding first_refusal
accepted model e h =
    none_first (refusal_tests model e) (
      h.known,
      (
        h.free,
        (
          h.shaped,
          (
            h.dimension,
            (
              h.output,
              (
                h.interval,
                (
                  h.lower,
                  (
                    h.upper,
                    (h.of_type, (h.deletable, none_full (counts model e) h.counted)),
                  ),
                ),
              ),
            ),
          ),
        ),
      ),
    )

-- ---- edits one after another

-- each is accepted, and the last leads to the new model
abbrev pub LeadTo : ModelValue → List Edit → ModelValue → Type 0
LeadTo old [] new = old ≡ new
LeadTo old (e ∷ es) new = (first_refusal old e ≡ None) × LeadTo (edited old e) es new

-- an edit, and those after it
pub lead_on : (old next new : ModelValue) (e : Edit) (es : List Edit) → IsPassed old e
    → edited old e ≡ next → LeadTo next es new → LeadTo old (e ∷ es) new
lead_on old next new e es h is rest =
    (accepted old e h, subst (λ m. LeadTo m es new) (sym is) rest)

-- an edit for each item, and those after them: each leads from the items before it to one more
pub each_leads : {X : Type 0} (behind : List X → ModelValue) (edit_of : X → Edit) (all : List X)
    → ((done : List X) (x : X) (rest : List X) → all ≡ done ++ x ∷ rest
    → IsPassed (behind done) (edit_of x))
    → ((done : List X) (x : X) (rest : List X) → all ≡ done ++ x ∷ rest
    → edited (behind done) (edit_of x) ≡ behind (done ++ x ∷ []))
    → (done rest : List X) → all ≡ done ++ rest → (es : List Edit) (new : ModelValue)
    → LeadTo (behind all) es new → LeadTo (behind done) (map edit_of rest ++ es) new
each_leads behind edit_of all passes adds done [] whole es new next =
    subst (λ xs. LeadTo (behind xs) es new) (whole ∙ append-nil done) next
each_leads behind edit_of all passes adds done (x ∷ rest) whole es new next =
    lead_on (behind done) (behind (done ++ x ∷ [])) new (edit_of x) (map edit_of rest ++ es)
    (passes done x rest whole) (adds done x rest whole)
    (each_leads behind edit_of all passes adds (done ++ x ∷ []) rest
    (whole ∙ sym (append_assoc done (x ∷ []) rest)) es new next)

-- what they lead to is consistent
pub stays_consistent : (es : List Edit) (old new : ModelValue) → IsConsistent old
    → LeadTo old es new
    → IsConsistent new
stays_consistent [] old new c is = subst IsConsistent is c
stays_consistent (e ∷ es) old new c h =
    stays_consistent es (edited old e) new (kept_consistent old e c h.0) h.1
