-- Rows one after another, and variables that are moved one after another.
use Rattle.std.specs.Prelude.{◌≡◌, ℕ, List, [], ◌∷◌, ◌++◌, flat_map, refl}
use Rattle.std.proofs.Common.{sym, ◌∙◌, ap, inl, inr, subst}
use Rattle.std.proofs.lemmas.List.{append-nil, append_assoc}
use Rattle.ratio_core.specs.Rational.{Rational}
use Rattle.user_model.specs.declared.group.GroupVar.{GroupVar}
use Rattle.user_model.specs.declared.objective.Objective.{Objective}
use Rattle.user_model.specs.declared.row.Row.{Row}
use Rattle.dualization.specs.declared.sums.Sums.{Sums}
use Rattle.dualization.specs.Fitting.{AllBoundsFit, FirstBounds, FirstMove, MoveFits, MovesFit, RowBoundsFit, after_move, after_moves, row_start}

-- ---- rows

pub record StartedSoFar (rows left : List Row) (parts : List Rational) : Type 0 where
  pub whole : parts ++ flat_map row_start left ≡ flat_map row_start rows
  pub fit : AllBoundsFit left → AllBoundsFit rows
  pub first : (name : List ℕ) → FirstBounds left name → FirstBounds rows name

pub started_none : (rows left : List Row) (parts : List Rational) → left ≡ rows → parts ≡ []
    → StartedSoFar rows left parts
started_none rows left parts e n = record {
  whole = ap (λ ps. ps ++ flat_map row_start left) n ∙ ap (flat_map row_start) e;
  fit = subst AllBoundsFit e;
  first = λ name. subst (λ rs. FirstBounds rs name) e;
}

module _ (rows left others : List Row) (r : Row) (parts : List Rational)
    (next : left ≡ r ∷ others) (so : StartedSoFar rows left parts) where
  pub started_unfit : ¬ (RowBoundsFit r) → FirstBounds rows r.name
  started_unfit n = so.first r.name (subst (λ rs. FirstBounds rs r.name) (sym next) (inl (n, refl)))

  pub started_more : (new : List Rational) → RowBoundsFit r → new ≡ parts ++ row_start r
      → StartedSoFar rows others new
  started_more new fits e = record {
    whole =
        ap (λ ps. ps ++ flat_map row_start others) e
        ∙ append_assoc parts (row_start r) (flat_map row_start others)
        ∙ ap (λ rs. parts ++ flat_map row_start rs) (sym next)
        ∙ so.whole;
    fit = λ h. so.fit (subst AllBoundsFit (sym next) (fits, h));
    first = λ name h. so.first name (subst (λ rs. FirstBounds rs name) (sym next) (inr (fits, h)));
  }

pub started_all : (rows left : List Row) (parts : List Rational) → left ≡ []
    → StartedSoFar rows left parts → AllBoundsFit rows × (parts ≡ flat_map row_start rows)
started_all rows left parts e so = (
  so.fit (subst AllBoundsFit (sym e) tt),
  sym (append-nil parts) ∙ ap (λ rs. parts ++ flat_map row_start rs) (sym e) ∙ so.whole,
)

-- ---- moves

abbrev Moves : Type 0
Moves = List (GroupVar × Rational)

module _ (rows : List Row) (objective : Objective) where
  abbrev Fit : Moves → Sums → Type 0
  Fit ms s = MovesFit rows objective ms s

  abbrev after : Moves → Sums → Sums
  after ms s = after_moves rows objective ms s

  abbrev First : Moves → Sums → List ℕ → Type 0
  First ms s name = FirstMove rows objective ms s name

  after_both : (ms ns : Moves) (s : Sums) → after (ms ++ ns) s ≡ after ns (after ms s)
  after_both [] ns s = refl
  after_both (m ∷ ms) ns s = after_both ms ns (after_move rows objective m s)

  fit_both : (ms ns : Moves) (s : Sums) → Fit ms s → Fit ns (after ms s) → Fit (ms ++ ns) s
  fit_both [] ns s h k = k
  fit_both (m ∷ ms) ns s h k = (h.0, fit_both ms ns (after_move rows objective m s) h.1 k)

  first_of_first : (ms ns : Moves) (s : Sums) (name : List ℕ) → First ms s name
      → First (ms ++ ns) s name
  first_of_first [] ns s name h = absurd h
  first_of_first (m ∷ ms) ns s name (inl h) = inl h
  first_of_first (m ∷ ms) ns s name (inr h) =
      inr (h.0, first_of_first ms ns (after_move rows objective m s) name h.1)

  first_of_second : (ms ns : Moves) (s : Sums) (name : List ℕ) → Fit ms s
      → First ns (after ms s) name → First (ms ++ ns) s name
  first_of_second [] ns s name h k = k
  first_of_second (m ∷ ms) ns s name h k =
      inr (h.0, first_of_second ms ns (after_move rows objective m s) name h.1 k)

  pub record MovedSoFar (all left : Moves) (start now : Sums) : Type 0 where
    pub last : after left now ≡ after all start
    pub fit : Fit left now → Fit all start
    pub first : (name : List ℕ) → First left now name → First all start name

  pub moved_none : (all : Moves) (start : Sums) → MovedSoFar all all start start
  moved_none all start = record { last = refl; fit = λ h. h; first = λ name h. h }

  -- some of them
  pub moved_more : (all left ms others : Moves) (start now new : Sums) → left ≡ ms ++ others
      → Fit ms now → new ≡ after ms now → MovedSoFar all left start now
      → MovedSoFar all others start new
  moved_more all left ms others start now new next fits is so =
      subst (MovedSoFar all others start) (sym is) (record {
        last = sym (after_both ms others now) ∙ ap (λ xs. after xs now) (sym next) ∙ so.last;
        fit = λ h. so.fit (subst (λ xs. Fit xs now) (sym next) (fit_both ms others now fits h));
        first = λ name h. so.first name (subst (λ xs. First xs now name) (sym next)
            (first_of_second ms others now name fits h));
      })

  pub moved_unfit : (all left ms others : Moves) (start now : Sums) → left ≡ ms ++ others
      → MovedSoFar all left start now → (name : List ℕ) → First ms now name → First all start name
  moved_unfit all left ms others start now next so name h =
      so.first name (subst (λ xs. First xs now name) (sym next)
      (first_of_first ms others now name h))

  pub moved_all : (all left : Moves) (start now : Sums) → left ≡ [] → MovedSoFar all left start now
      → Fit all start × (now ≡ after all start)
  moved_all all left start now e so = (
    so.fit (subst (λ xs. Fit xs now) (sym e) tt),
    ap (λ xs. after xs now) (sym e) ∙ so.last,
  )

  -- one alone
  pub one_fits : (m : GroupVar × Rational) (s : Sums) → MoveFits rows objective m s → Fit (m ∷ []) s
  one_fits m s h = (h, tt)

  pub one_unfit : (m : GroupVar × Rational) (s : Sums) → ¬ (MoveFits rows objective m s)
      → First (m ∷ []) s m.0.name
  one_unfit m s n = inl (n, refl)
