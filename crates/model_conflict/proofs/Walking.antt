-- A walk that has come so far, and one row more.
use Rattle.std.proofs.Common.{◌≡◌, ℕ, suc, ◌+◌, ◌≤◌, ◌<◌, List, [], ◌∷◌, ◌++◌, length, map, ap, append-nil, append_assoc, arith, refl, subst, sym, ◌∙◌, Ok, Err}
use Rattle.std.proofs.lemmas.List.{map-append}
use Rattle.cache_layer.specs.CacheState.{CacheState}
use Rattle.cache_layer.specs.declared.fault.OptFault.{OptFault}
use Rattle.cache_layer.specs.declared.fault.OptFault.TheVariants as fault
use Rattle.model_conflict.specs.Conflict.{NeededRow, rows_of}
use Rattle.model_conflict.specs.Steps.{CanWalk, IsFirstRow, Tries, TriesFirst, left_out as stays_out, needed as is_needed}
use Rattle.model_conflict.specs.Walk.{FindsFrom, WalkEnd, Walks, ended, infeasible_by, left_out, needed, stopped, with_kept, with_last, with_rows}
use Rattle.model_conflict.specs.declared.found.Found.TheVariants.{Conflict}
use Rattle.model_conflict.specs.declared.optimizing.Duals.{Duals}
use Rattle.model_conflict.specs.declared.trials.Walked.{Walked}
use Rattle.ratio_core.specs.Rational.{Rational}
use Rattle.user_model.specs.declared.row.Row.{Row}

-- these rows were needed before
abbrev before : List NeededRow → WalkEnd → WalkEnd
before kept (Ok all) = Ok (kept ++ all.0, all.1)
before kept (Err why) = Err why

before_none : (end : WalkEnd) → before [] end ≡ end
before_none (Ok all) = refl
before_none (Err why) = refl

before_more : (kept : List NeededRow) (k : NeededRow) (end : WalkEnd)
    → before kept (with_kept k end) ≡ before (kept ++ k ∷ []) end
before_more kept k (Ok all) = ap (λ ks. Ok (ks, all.1)) (sym (append_assoc kept (k ∷ []) all.0))
before_more kept k (Err why) = refl

abbrev name_of : Row → List ℕ
name_of r = r.name

abbrev point_of : NeededRow → List Rational
point_of k = k.point

module _ (start : CacheState) (pivots : ℕ) (first : Duals) where
  -- `done` rows were tried
  pub record WalkedSoFar (done : ℕ) (now : CacheState) (walked : Walked) : Type 0 where
    pub rows : List Row
    pub later : List Row
    pub rows_are : now.model.rows ≡ rows ++ later
    pub long : length rows + done ≡ length start.model.rows
    pub names : walked.rows ≡ map name_of later
    pub can : CanWalk now (length rows)
    pub groups : now.model.groups ≡ start.model.groups
    pub kept : List NeededRow
    pub kept_names : walked.rows ≡ map name_of (rows_of kept)
    pub kept_points : walked.points ≡ map point_of kept
    pub goes_on :
        (end : WalkEnd) → Walks pivots (length rows) now walked.duals end
        → Walks pivots (length start.model.rows) start first (before kept end)

  pub at_start : CanWalk start (length start.model.rows) → (walked : Walked) → walked.rows ≡ []
      → walked.points ≡ [] → walked.duals ≡ first → WalkedSoFar 0 start walked
  at_start can walked none no_points same = record {
    rows = start.model.rows;
    later = [];
    rows_are = sym (append-nil start.model.rows);
    long = omega arith;
    names = none;
    can = can;
    groups = refl;
    kept = [];
    kept_names = none;
    kept_points = no_points;
    goes_on = λ end w. subst (Walks pivots (length start.model.rows) start first)
        (sym (before_none end))
        (subst (λ d. Walks pivots (length start.model.rows) start d end) same w);
  }

  -- ---- one row more

  pub record HasFirst (done : ℕ) (now : CacheState) (walked : Walked) : Type 0 where
    pub row : Row
    pub others : List Row
    pub later : List Row
    pub stands : IsFirstRow now.model row (others ++ later)

  pub has_first : (done : ℕ) (now : CacheState) (walked : Walked) → WalkedSoFar done now walked
      → done < length start.model.rows → HasFirst done now walked
  has_first done now walked w more = by w.rows w.rows_are w.long
    where
      by : (rows : List Row) → now.model.rows ≡ rows ++ w.later
          → length rows + done ≡ length start.model.rows → HasFirst done now walked
      by [] is long = absurd (omega (arith, long, more))
      by (r ∷ rows) is long =
          record { row = r; others = rows; later = w.later; stands = record { whole = is } }

  -- there is one to be tried
  pub can_try : (done : ℕ) (now : CacheState) (walked : Walked) → WalkedSoFar done now walked
      → done < length start.model.rows → CanWalk now 1
  can_try done now walked w more = record {
    attached = w.can.attached;
    bare = w.can.bare;
    room = (let room = w.can.room in let long = w.long in omega (arith, room, long, more));
  }

  pub is_first_row : (done : ℕ) (now : CacheState) (walked : Walked) → WalkedSoFar done now walked
      → done < length start.model.rows
      → (row : Row) × (rest : List Row) × IsFirstRow now.model row rest
  is_first_row done now walked w more =
      let first = has_first done now walked w more in
      (first.row, first.others ++ first.later, first.stands)

  module _ (done : ℕ) (now : CacheState) (walked : Walked) (w : WalkedSoFar done now walked) (row : Row)
      (others : List Row) (rows_are : w.rows ≡ row ∷ others) where
    whole : now.model.rows ≡ row ∷ (others ++ w.later)
    whole = w.rows_are ∙ ap (λ rs. rs ++ w.later) rows_are

    count_is : length w.rows ≡ suc (length others)
    count_is = ap length rows_are

    on : (end : WalkEnd) → Walks pivots (suc (length others)) now walked.duals end
        → Walks pivots (length start.model.rows) start first (before w.kept end)
    on end walks =
        w.goes_on end (subst (λ n. Walks pivots n now walked.duals end) (sym count_is) walks)

    left_long : length others + suc done ≡ length start.model.rows
    left_long = let long = w.long in let count = count_is in omega (arith, long, count)

    stepped : (new : CacheState) (after : Walked)
        → TriesFirst now pivots row (others ++ w.later) walked new after
        → WalkedSoFar (suc done) new after
    stepped new after (stays_out duals gives is now_is) =
        subst (λ s. WalkedSoFar (suc done) s after) (sym is)
        (subst (WalkedSoFar (suc done) (with_rows now (others ++ w.later))) (sym now_is) record {
          rows = others;
          later = w.later;
          rows_are = refl;
          long = left_long;
          names = w.names;
          can = record {
            attached = w.can.attached;
            bare = w.can.bare;
            room = (let room = w.can.room in let count = count_is in omega (arith, room, count));
          };
          groups = w.groups;
          kept = w.kept;
          kept_names = w.kept_names;
          kept_points = w.kept_points;
          goes_on = λ end walks. on end (left_out whole duals gives walks);
        })
    stepped new after (is_needed value x rows vars gives is now_is) =
        let last : Row = record {
          id = now.model.next.row;
          name = row.name;
          func = row.func;
          set = row.set;
        } in
        let this : NeededRow = record { row = row; point = x } in
        subst (λ s. WalkedSoFar (suc done) s after) (sym is)
        (subst (WalkedSoFar (suc done) (with_last (with_rows now (others ++ w.later)) row))
        (sym now_is) record {
          rows = others;
          later = w.later ++ last ∷ [];
          rows_are = append_assoc others w.later (last ∷ []);
          long = left_long;
          names = ap (λ ns. ns ++ row.name ∷ []) w.names
              ∙ sym (map-append name_of w.later (last ∷ []));
          can = record {
            attached = w.can.attached;
            bare = w.can.bare;
            room = (let room = w.can.room in let count = count_is in omega (arith, room, count));
          };
          groups = w.groups;
          kept = w.kept ++ this ∷ [];
          kept_names = ap (λ ns. ns ++ row.name ∷ []) w.kept_names
              ∙ sym (map-append name_of (rows_of w.kept) (row ∷ []))
              ∙ ap (map name_of) (sym (map-append (λ (k : NeededRow). k.row) w.kept (this ∷ [])));
          kept_points = ap (λ ps. ps ++ x ∷ []) w.kept_points
              ∙ sym (map-append point_of w.kept (this ∷ []));
          goes_on = λ end walks. subst (Walks pivots (length start.model.rows) start first)
              (before_more w.kept this end)
              (on (with_kept this end) (needed whole value x rows vars gives walks));
        })

    failed : (why : OptFault) (new : CacheState) (after : Walked)
        → Tries now pivots row (others ++ w.later) walked (Err why) new after
        → FindsFrom start pivots first (Err why)
    failed (fault.TooLarge cells) new after h =
        on (Err (fault.TooLarge cells)) (stopped whole h)
    failed (fault.Overflow place) new after h =
        on (Err (fault.Overflow place)) (stopped whole h)
    failed (fault.Limit n) new after h = on (Err (fault.Limit n)) (stopped whole h)
    failed fault.NotAttached new after h = absurd h
    failed fault.Memory new after h = tt

  -- ---- no row more

  pub all_tried : (done : ℕ) (now : CacheState) (walked : Walked) → WalkedSoFar done now walked
      → length start.model.rows ≤ done
      → FindsFrom start pivots first (Ok (Conflict walked.rows (infeasible_by walked.duals)
      walked.points))
      × (walked.rows ≡ map name_of now.model.rows)
  all_tried done now walked w all = by w.rows w.rows_are w.long w.goes_on
    where
      by : (rows : List Row) → now.model.rows ≡ rows ++ w.later
          → length rows + done ≡ length start.model.rows
          → ((end : WalkEnd) → Walks pivots (length rows) now walked.duals end
          → Walks pivots (length start.model.rows) start first (before w.kept end))
          → FindsFrom start pivots first (Ok (Conflict walked.rows (infeasible_by walked.duals)
          walked.points))
          × (walked.rows ≡ map name_of now.model.rows)
      by [] is long on = (
        (
          (w.kept, walked.duals),
          subst (λ ks. Walks pivots (length start.model.rows) start first (Ok (ks, walked.duals)))
              (append-nil w.kept) (on (Ok ([], walked.duals)) ended),
          λ i. Conflict (w.kept_names i) (infeasible_by walked.duals) (w.kept_points i),
        ),
        w.names ∙ ap (map name_of) (sym is),
      )
      by (r ∷ rows) is long on = absurd (omega (arith, long, all))

  -- the first row is tried
  pub one_more : (done : ℕ) (now : CacheState) (walked : Walked) → WalkedSoFar done now walked
      → (new : CacheState) (after : Walked)
      → ((row : Row) (rest : List Row) → IsFirstRow now.model row rest
      → Tries now pivots row rest walked (Ok tt) new after)
      → done < length start.model.rows → WalkedSoFar (done + 1) new after
  one_more done now walked w new after tries more = by w.rows refl
    where
      by : (rows : List Row) → w.rows ≡ rows → WalkedSoFar (done + 1) new after
      by [] is = let long = w.long in let none = ap length is in absurd (omega (arith, long, none, more))
      by (row ∷ others) is =
          let counted : suc done ≡ done + 1 = omega arith in
          subst (λ n. WalkedSoFar n new after) counted
          (stepped done now walked w row others is new after
          (tries row (others ++ w.later) (record { whole = whole done now walked w row others is })))

  pub one_failed : (done : ℕ) (now : CacheState) (walked : Walked) → WalkedSoFar done now walked
      → (why : OptFault) (new : CacheState) (after : Walked)
      → ((row : Row) (rest : List Row) → IsFirstRow now.model row rest
      → Tries now pivots row rest walked (Err why) new after)
      → done < length start.model.rows → FindsFrom start pivots first (Err why)
  one_failed done now walked w why new after tries more = by w.rows refl
    where
      by : (rows : List Row) → w.rows ≡ rows → FindsFrom start pivots first (Err why)
      by [] is =
          let long = w.long in let none = ap length is in absurd (omega (arith, long, none, more))
      by (row ∷ others) is =
          failed done now walked w row others is why new after
          (tries row (others ++ w.later)
          (record { whole = whole done now walked w row others is }))
