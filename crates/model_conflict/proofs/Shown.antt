-- What a walk shows: the rows that are needed are some of the model's, in its order; the last duals
-- are theirs alone; and each one's point meets all others of them.
use Rattle.std.proofs.Common.{◌≡◌, ℕ, List, [], ◌∷◌, ◌++◌, length, map, ap, ap₂, append-nil, append_assoc, arith, refl, subst, sym, ◌∙◌, Ok, Err}
use Rattle.std.specs.Prelude.{All, IfOk, Result}
use Rattle.std.proofs.lemmas.List.{map-append}
use Rattle.std.proofs.lemmas.List.Elements.{All-append, All-cons, All-head, All-nil, All-tail}
use Rattle.map_laws.specs.EachLaws.{all_first, all_second}
use Rattle.cache_layer.specs.CacheState.{CacheState}
use Rattle.cache_layer.specs.declared.fault.OptFault.{OptFault}
use Rattle.certificates.specs.Feasible.{IsFeasible}
use Rattle.certificates.specs.Good.{IsInfeasible}
use Rattle.conflict_laws.specs.Contents.{AreSame, RowMeets, all_same, feasible_with, infeasible_with, plain}
use Rattle.conflict_laws.specs.Rotated.{rotated_infeasible}
use Rattle.model_conflict.specs.Conflict.{EachIsNeeded, IsSublist, NeededRow, ShowsFound, left, none, rows_of, taken, with_rows_alone}
use Rattle.model_conflict.specs.Walk.{Finds, WalkEnd, Walks, WalksAll, ended, found_as, left_out, needed, stopped, with_kept, with_last, with_rows}
use Rattle.model_conflict.specs.declared.optimizing.Duals.{Duals}
use Rattle.model_conflict.specs.declared.found.Found.{Found}
use Rattle.model_conflict.specs.declared.found.Found.TheVariants.{Conflict, Feasible}
use Rattle.ratio_core.specs.Rational.{Rational}
use Rattle.user_model.specs.Model.{ModelValue}
use Rattle.user_model.specs.declared.row.Row.{Row}

sublist_all : {X : Type 0} (P : X → Type 0) {some all : List X} → IsSublist some all → All P all
    → All P some
sublist_all P none h = All-nil P
sublist_all P (taken {x} {some} {all} rest) h =
    All-cons P x some (All-head P x all h) (sublist_all P rest (All-tail P x all h))
sublist_all P (left {x} {some} {all} rest) h = sublist_all P rest (All-tail P x all h)

first_same : (r l : Row) (rs ls : List Row) → r ∷ rs ≡ l ∷ ls → r ≡ l
first_same r l rs ls e = cc

others_same : (r l : Row) (rs ls : List Row) → r ∷ rs ≡ l ∷ ls → rs ≡ ls
others_same r l rs ls e = cc

module _ (model : ModelValue) where
  -- the state's rows are those that are still to be tried, and then some again
  record IsAt (s : CacheState) (n : ℕ) (rows again : List Row) (duals : Duals) : Type 0 where
    groups : s.model.groups ≡ model.groups
    later : List Row
    rows_are : s.model.rows ≡ rows ++ later
    same : AreSame later again
    long : length rows ≡ n
    infeasible : IsInfeasible s.model duals.gap duals.rows duals.vars

  record Shown (rows again : List Row) (kept : List NeededRow) (last : Duals) : Type 0 where
    some : IsSublist (rows_of kept) rows
    infeasible :
        IsInfeasible (with_rows_alone model (again ++ rows_of kept)) last.gap last.rows last.vars
    without : EachIsNeeded model again kept

  abbrev ShownEnd : List Row → List Row → WalkEnd → Type 0
  ShownEnd rows again (Ok all) = Shown rows again all.0 all.1
  ShownEnd rows again (Err why) = Unit {0}

  -- a row that is left out
  one_left : (l : Row) (rows again : List Row) (end : WalkEnd) → ShownEnd rows again end
      → ShownEnd (l ∷ rows) again end
  one_left l rows again (Ok all) h =
      record { some = left h.some; infeasible = h.infeasible; without = h.without }
  one_left l rows again (Err why) h = tt

  -- a row that is needed
  one_kept : (l : Row) (x : List Rational) (rows again : List Row) (end : WalkEnd)
      → All (RowMeets model.groups x) rows → All (RowMeets model.groups x) again
      → ((others : List Row) → All (RowMeets model.groups x) others
      → IsFeasible (with_rows_alone model others) x)
      → ShownEnd rows (again ++ l ∷ []) end
      → ShownEnd (l ∷ rows) again (with_kept (record { row = l; point = x }) end)
  one_kept l x rows again (Ok all) meets meet feasible h = record {
    some = taken h.some;
    infeasible = subst
        (λ rs. IsInfeasible (with_rows_alone model rs) all.1.gap all.1.rows all.1.vars)
        (append_assoc again (l ∷ []) (rows_of all.0)) h.infeasible;
    without = (
      feasible (again ++ rows_of all.0)
          (All-append (RowMeets model.groups x) again (rows_of all.0) meet
          (sublist_all (RowMeets model.groups x) h.some meets)),
      h.without,
    );
  }
  one_kept l x rows again (Err why) meets meet feasible h = tt

  walk_shown : {pivots n : ℕ} {s : CacheState} {duals : Duals} {end : WalkEnd}
      → Walks pivots n s duals end → (rows again : List Row) → IsAt s n rows again duals
      → ShownEnd rows again end
  walk_shown (ended {s} {duals}) [] again at = record {
    some = none;
    infeasible = infeasible_with s.model (with_rows_alone model (again ++ [])) duals.gap duals.rows
        duals.vars (sym at.groups)
        (record {
          same = ap (map plain) at.rows_are ∙ at.same.same
              ∙ ap (map plain) (sym (append-nil again));
        })
        at.infeasible;
    without = tt;
  }
  walk_shown ended (l ∷ rows) again at = let long = at.long in absurd (omega (arith, long))
  walk_shown (left_out {n} {s} {row = row} {rest = rest} whole others gives walks) [] again at =
      let long = at.long in absurd (omega (arith, long))
  walk_shown (left_out {n} {s} {end = end} {row = row} {rest = rest} whole others gives walks)
      (l ∷ rows) again at =
      let long = at.long in
      one_left l rows again end (walk_shown walks rows again record {
        groups = at.groups;
        later = at.later;
        rows_are = others_same row l rest (rows ++ at.later) (sym whole ∙ at.rows_are);
        same = at.same;
        long = omega (arith, long);
        infeasible = gives.good;
      })
  walk_shown (needed {n} {s} {row = row} {rest = rest} whole value x ys vars gives walks) [] again
      at =
      let long = at.long in absurd (omega (arith, long))
  walk_shown (needed {n} {s} {duals} {end = end} {row = row} {rest = rest} whole value x ys vars
      gives walks) (l ∷ rows) again at =
      let long = at.long in
      let split = sym whole ∙ at.rows_are in
      let this = first_same row l rest (rows ++ at.later) split in
      let rest_is = others_same row l rest (rows ++ at.later) split in
      let f = gives.good.feasible in
      let meets : All (RowMeets model.groups x) (rows ++ at.later) =
      subst (All (RowMeets model.groups x)) rest_is
      (subst (λ gs. All (RowMeets gs x) rest) at.groups f.rows) in
      subst (λ r. ShownEnd (l ∷ rows) again (with_kept (record { row = r; point = x }) end)) (sym this)
      (one_kept l x rows again end
      (all_first (RowMeets model.groups x) rows at.later meets)
      (all_same model.groups x at.later again at.same
      (all_second (RowMeets model.groups x) rows at.later meets))
      (λ others all. feasible_with (with_rows s rest).model (with_rows_alone model others) x
      (sym at.groups) f (subst (λ gs. All (RowMeets gs x) others) (sym at.groups) all))
      (walk_shown walks rows (again ++ l ∷ []) record {
        groups = at.groups;
        later = at.later ++ again_row s row ∷ [];
        rows_are = ap (λ rs. rs ++ again_row s row ∷ []) rest_is
            ∙ append_assoc rows at.later (again_row s row ∷ []);
        same = record {
          same = map-append plain at.later (again_row s row ∷ [])
              ∙ ap₂ (λ rs r. rs ++ plain r ∷ []) at.same.same this
              ∙ sym (map-append plain again (l ∷ []));
        };
        long = omega (arith, long);
        infeasible = rotated_infeasible s.model (with_last (with_rows s rest) row).model row
            (again_row s row) rest duals.gap duals.rows duals.vars whole refl refl (λ y. refl)
            at.infeasible;
      }))
    where
      again_row : CacheState → Row → Row
      again_row s row =
          record { id = s.model.next.row; name = row.name; func = row.func; set = row.set }
  walk_shown (stopped whole outcome) rows again at = tt

-- ---- from the first row on

walk_shows : (s : CacheState) (pivots : ℕ) (all : List NeededRow × Duals)
    → WalksAll s pivots (Ok all)
    → ShowsFound s.model (found_as all)
walk_shows s pivots all h =
    let shown = walk_shown s.model h.walks s.model.rows [] record {
      groups = refl;
      later = [];
      rows_are = sym (append-nil s.model.rows);
      same = record { same = refl };
      long = refl;
      infeasible = h.first.good;
    } in (
      all.0,
      record {
        some = shown.some;
        infeasible = tt;
        good = shown.infeasible;
        without = shown.without;
      },
      refl,
    )

pub found_shows : (s : CacheState) (pivots : ℕ) (result : Result Found OptFault)
    → Finds s pivots result → IfOk result (ShowsFound s.model)
found_shows s pivots (Ok (Feasible x)) h = h.3.good.feasible
found_shows s pivots (Ok (Conflict names certificate points)) h =
    subst (ShowsFound s.model) (sym h.2) (walk_shows s pivots h.0 h.1)
found_shows s pivots (Err why) h = tt
