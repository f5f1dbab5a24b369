-- The model with the mapped rows: the rows that aren't used as they were, and then for each use its row,
-- which is in its cone as M f.
use Rattle.std.specs.Prelude.{◌≡◌, ◌≢◌, ℕ, Bool, true, false, ◌||◌, ◌&&◌, not, cond, List, [], ◌∷◌, ◌++◌, Option, Some, None, Ok, Err, All, AllPairs, bytes_eq, filter, find, flat_map, length, map, unwrap_or, refl}
use Rattle.std.specs.Option.{option_map_or, option_or}
use Rattle.std.proofs.Common.{ap, ap₂, append-nil, append_assoc, inl, inr, subst, sym, ◌∙◌}
use Rattle.std.proofs.lemmas.Bool.{both_ways, cases_Bool, eqb-true}
use Rattle.std.proofs.lemmas.List.Elements.{All-cons, All-contains, All-head, All-nil, All-tail, filter-append}
use Rattle.std.proofs.lemmas.List.Folds.{find-append}
use Rattle.std.proofs.lemmas.Slice.Eq.{bytes_eq-Decides}
use Rattle.map_laws.specs.PlaceLaws.{filter_all}
use Rattle.certificates.specs.Points.{functions_of}
use Rattle.map_file.specs.declared.map_text.MapText.{MapText}
use Rattle.map_file.specs.declared.use_text.UseText.{UseText}
use Rattle.map_file.specs.Shaped.{IsMapWhole, NamesMap}
use Rattle.mapped_certificates.specs.GoodSeen.{Use, is_used, rows_seen}
use Rattle.mapped_certificates.specs.TakenBack.{IsMappedRow, StandForSeen}
use Rattle.mapped_model.proofs.Again.{located_again}
use Rattle.mapped_model.proofs.Deleting.{deleted, with_rows}
use Rattle.mapped_model.proofs.Names.{found_before, none_behind}
use Rattle.mapped_model.proofs.Pairs.{matrix_size, pair_of}
use Rattle.mapped_model.proofs.Placed.{mapped_placed}
use Rattle.mapped_model.specs.Mapping.{edits_for, edits_of, mapped_functions}
use Rattle.mapped_model.specs.Stands.{StandsFor}
use Rattle.mapped_model.specs.Uses.{IsMap, is_free, is_free_vector, map_at, matrix_of, named_in, no_map, no_row, others, usable, used, wrong_use}
use Rattle.model_laws.specs.Found.{found_passes, found_stands}
use Rattle.model_laws.specs.KeptConsistent.{kept_consistent}
use Rattle.model_laws.specs.Passed.{passed}
use Rattle.model_load.specs.Loads.{after_edits}
use Rattle.mof_laws.specs.ReadBack.{named_function}
use Rattle.mof_write.specs.Written.{naming}
use Rattle.set_core.specs.declared.set.Set.{Set}
use Rattle.set_core.specs.declared.set.Set.TheVariants.{Reals}
use Rattle.set_map.specs.Matrices.{Matrix}
use Rattle.user_model.specs.Consistent.{IsConsistent}
use Rattle.user_model.specs.declared.edit.Edit.{Edit}
use Rattle.user_model.specs.declared.edit.Edit.TheVariants as edit
use Rattle.user_model.specs.declared.function.UserFunc.{UserFunc}
use Rattle.user_model.specs.declared.function.UserFunc.TheVariants.{Affine, AffineVec, Plain, PlainVec}
use Rattle.user_model.specs.declared.refusal.Refusal.{Refusal}
use Rattle.user_model.specs.declared.row.Row.{Row}
use Rattle.user_model.specs.Edited.{add_row, edited, located}
use Rattle.user_model.specs.Functions.{is_vector_affine}
use Rattle.user_model.specs.Model.{ModelValue, row_named}
use Rattle.user_model.specs.Refusals.{first_refusal}
use Rattle.user_model.specs.Valid.{IsValid, IsValidRow}

-- ---- one edit of several

record Leads (m : ModelValue) (e : Edit) (es : List Edit) (new : ModelValue) : Type 0 where
  accepted : first_refusal m e ≡ None
  rest : after_edits (edited m e) es ≡ Ok new

leads : (m : ModelValue) (e : Edit) (es : List Edit) (new : ModelValue)
    → after_edits m (e ∷ es) ≡ Ok new → Leads m e es new
unfolding after_edits
leads m e es new h = by (first_refusal m e) refl h
  where
    by : (o : Option Refusal) → first_refusal m e ≡ o
        → option_map_or Err o (after_edits (edited m e) es) ≡ Ok new → Leads m e es new
    by None is h = record { accepted = is; rest = h }
    by (Some refusal) is h = cc

nothing_done : (m new : ModelValue) → after_edits m [] ≡ Ok new → new ≡ m
unfolding after_edits
nothing_done m new h = cc

-- ---- a use of a row that its map fits

record IsFreeVector (size : ℕ) (func : UserFunc) : Type 0 where
  vector : is_vector_affine func ≡ true
  count : length (functions_of func) ≡ size

free_vector : (size : ℕ) (func : UserFunc) (set : Set) → is_free size func set ≡ true
    → IsFreeVector size func
free_vector size (AffineVec fs) (Reals n) e = record { vector = refl; count = eqb-true _ _ e }
free_vector size (AffineVec fs) _ e = absurd (both_ways false refl e)
free_vector size (Plain var) set e = absurd (both_ways false refl e)
free_vector size (Affine f) set e = absurd (both_ways false refl e)
free_vector size (PlainVec vars) set e = absurd (both_ways false refl e)

pub record IsUsed (maps : List MapText) (rows : List Row) (u : UseText)
    (uses : List UseText) : Type 0 where
  pub row : Row
  pub found : named_in rows u.row ≡ Some row
  pub free : is_free_vector (map_at maps u.map).size row ≡ true
  pub others : wrong_use maps (others u.row rows) uses ≡ None

-- no use is wrong, so that the first isn't
pub first_used : (maps : List MapText) (rows : List Row) (u : UseText) (uses : List UseText)
    → wrong_use maps rows (u ∷ uses) ≡ None → IsUsed maps rows u uses
first_used maps rows u uses h = by (named_in rows u.row) refl h
  where
    fits : (r : Row) (b : Bool) → is_free_vector (map_at maps u.map).size r ≡ b
        → named_in rows u.row ≡ Some r
        → option_map_or (λ (s : Row). wrong_use maps (others u.row rows) uses)
        (cond b (Some r) None) (Some u.line) ≡ None
        → IsUsed maps rows u uses
    fits r true free found h = record { row = r; found = found; free = free; others = h }
    fits r false free found h = cc

    by : (o : Option Row) → named_in rows u.row ≡ o
        → option_map_or (λ (s : Row). wrong_use maps (others u.row rows) uses) (usable maps o u)
        (Some u.line) ≡ None → IsUsed maps rows u uses
    by None found h = cc
    by (Some r) found h = fits r (is_free_vector (map_at maps u.map).size r) refl found h

-- ---- what isn't used

filtered_twice : {X : Type 0} (p q : X → Bool) (xs : List X)
    → filter q (filter p xs) ≡ filter (λ x. p x && q x) xs
filtered_twice p q [] = refl
filtered_twice p q (x ∷ xs) =
    elim (cases_Bool (p x)) [
      | inl is ↦
          ap (λ b. filter q (cond b (x ∷ filter p xs) (filter p xs))) is
          ∙ ap (cond (q x) (x ∷ filter q (filter p xs))) (filtered_twice p q xs)
          ∙ ap (λ ys. cond (q x) (x ∷ ys) (filter (λ x. p x && q x) xs)) (filtered_twice p q xs)
          ∙ sym (ap (λ b. cond (b && q x) (x ∷ filter (λ x. p x && q x) xs)
          (filter (λ x. p x && q x) xs)) is)
      | inr off ↦
          ap (λ b. filter q (cond b (x ∷ filter p xs) (filter p xs))) off
          ∙ filtered_twice p q xs
          ∙ sym (ap (λ b. cond (b && q x) (x ∷ filter (λ x. p x && q x) xs)
          (filter (λ x. p x && q x) xs)) off)
    ]

neither : (a b : Bool) → (not a && not b) ≡ not (a || b)
neither true b = refl
neither false b = refl

abbrev unused : List Use → List Row → List Row
unused uses rows = filter (λ r. not (is_used uses r)) rows

all_unused : (rows : List Row) → unused [] rows ≡ rows
all_unused rows = filter_all (λ r. not (is_used [] r)) rows (λ k d within. refl)

unused_more : (u : Use) (uses : List Use) (rows : List Row)
    → unused uses (others u.row.name rows) ≡ unused (u ∷ uses) rows
unused_more u uses rows =
    filtered_twice (λ r. not (bytes_eq r.name u.row.name)) (λ r. not (is_used uses r)) rows
    ∙ (λ k. filter (λ r. neither (bytes_eq r.name u.row.name) (is_used uses r) k) rows)

-- ---- rows that stand for others

stand_beside : (rows : List Row) (owns : List Row) (uses : List Use)
    → StandForSeen owns (map (λ u. record { row = u.row; seen = Some u.set }) uses)
    → StandForSeen (rows ++ owns)
    (map (λ r. record { row = r; seen = None }) rows
    ++ map (λ u. record { row = u.row; seen = Some u.set }) uses)
stand_beside [] owns uses h = h
stand_beside (r ∷ rows) owns uses h =
    (refl, stand_beside rows owns uses h)

-- ---- one use

module _ (model : ModelValue) (valid : IsValid model) (maps : List MapText)
    (whole : All IsMapWhole maps) (right : All IsMap maps) where
  -- what no use named so far is found as it is in the model
  abbrev AreLeft : List Row → Type 0
  AreLeft left = (name : List ℕ) (r : Row) → named_in left name ≡ Some r
      → row_named model name ≡ Some r

  -- a model on the way: the rows that are left, and then those that were added
  record IsOnWay (left added : List Row) (m : ModelValue) : Type 0 where
    known : AreLeft left
    rows : m.rows ≡ left ++ added
    groups : m.groups ≡ model.groups
    consistent : IsConsistent m

  -- a use later
  record Step (left added : List Row) (u : UseText) (m : ModelValue) (rest : List Edit)
      (new : ModelValue) : Type 0 where
    next : ModelValue
    own : Row
    way : IsOnWay (others u.row left) (added ++ own ∷ []) next
    objective : next.objective ≡ m.objective
    mapped : IsMappedRow (used model maps u).set own (used model maps u).row
    name : (used model maps u).row.name ≡ u.row
    leads : after_edits next rest ≡ Ok new

  module _ (left added : List Row) (u : UseText) (uses : List UseText) (m : ModelValue)
      (way : IsOnWay left added m) (named : NamesMap maps u) (this : IsUsed maps left u uses)
      (rest : List Edit) (new : ModelValue)
      (h : after_edits m (edits_of (naming model) (used model maps u) ++ rest) ≡ Ok new) where
    abbrev row : Row
    row = (used model maps u).row

    abbrev matrix : Matrix
    matrix = matrix_of (map_at maps u.map)

    abbrev func : UserFunc
    func = AffineVec (mapped_functions matrix row)

    abbrev delete : Edit
    delete = edit.DeleteRow row.name

    abbrev add : Edit
    add = edit.AddRow row.name (named_function (naming model) func) u.set

    one : Leads m delete (add ∷ rest) new
    one = leads m delete (add ∷ rest) new h

    two : Leads (edited m delete) add rest new
    two = leads (edited m delete) add rest new one.rest

    -- the row

    is_row : row ≡ this.row
    is_row = ap (λ o. unwrap_or o no_row) (way.known u.row this.row this.found)

    row_name : row.name ≡ u.row
    row_name =
        ap (λ (s : Row). s.name) is_row
        ∙ (bytes_eq-Decides this.row.name u.row).0
        (found_passes (λ s. bytes_eq s.name u.row) left this.row this.found)

    free : IsFreeVector (map_at maps u.map).size row.func
    free = subst (λ (s : Row). IsFreeVector (map_at maps u.map).size s.func) (sym is_row)
        (free_vector (map_at maps u.map).size this.row.func this.row.set this.free)

    row_valid : IsValidRow model.groups row
    row_valid = subst (IsValidRow model.groups) (sym is_row)
        (All-contains (IsValidRow model.groups) model.rows this.row valid.parts.valid_rows
        (found_stands (λ s. bytes_eq s.name u.row) model.rows this.row
        (way.known u.row this.row this.found)))

    -- deleted

    found_now : row_named m u.row ≡ Some this.row
    found_now =
        ap (find (λ s. bytes_eq s.name u.row)) way.rows
        ∙ find-append (λ s. bytes_eq s.name u.row) left added
        ∙ ap (λ o. option_or o (named_in added u.row)) this.found

    rows_left : others u.row m.rows ≡ others u.row left ++ added
    rows_left =
        ap (others u.row) way.rows
        ∙ filter-append (λ s. not (bytes_eq s.name u.row)) left added
        ∙ ap (λ rs. others u.row left ++ rs)
        (none_behind u.row left added this.row
        (subst (AllPairs {X = Row} (λ r s. r.name ≢ s.name)) way.rows way.consistent.row_names)
        this.found)

    without_it : edited m delete ≡ with_rows m (others u.row left ++ added)
    without_it =
        ap (λ n. edited m (edit.DeleteRow n)) row_name
        ∙ deleted m way.consistent u.row this.row found_now
        ∙ ap (with_rows m) rows_left

    same_groups : (edited m delete).groups ≡ model.groups
    same_groups = ap (λ (n : ModelValue). n.groups) without_it ∙ way.groups

    -- and added again

    again : located (edited m delete) (named_function (naming model) func) ≡ func
    again = located_again model valid.consistent (edited m delete) same_groups func
        (mapped_placed model row matrix row_valid free.vector)

    abbrev own : Row
    own = record {
      id = (edited m delete).next.row;
      name = row.name;
      func = located (edited m delete) (named_function (naming model) func);
      set = u.set;
    }

    abbrev next : ModelValue
    next = add_row (edited m delete) row.name
        (located (edited m delete) (named_function (naming model) func)) u.set

    with_it : edited (edited m delete) add ≡ next
    unfolding edited
    with_it = refl

    rows_now : next.rows ≡ others u.row left ++ (added ++ own ∷ [])
    rows_now =
        ap (λ (n : ModelValue). n.rows ++ own ∷ []) without_it
        ∙ append_assoc (others u.row left) added (own ∷ [])

    consistent_now : IsConsistent next
    consistent_now =
        subst IsConsistent with_it
        (kept_consistent (edited m delete) add
        (kept_consistent m delete way.consistent one.accepted) two.accepted)

    mapped_now : IsMappedRow (used model maps u).set own row
    mapped_now = record {
      name = refl;
      functions = ap functions_of again;
      set = refl;
      cone = (passed (edited m delete) add two.accepted).shaped;
      pair = pair_of (map_at maps u.map) (whole u.map no_map named);
      inverse = (right u.map no_map named).inverse;
      size = free.count ∙ sym (matrix_size (map_at maps u.map) (whole u.map no_map named));
    }

    step : Step left added u m rest new
    step = record {
      next = next;
      own = own;
      way = record {
        known = λ name r found. way.known name r (found_before u.row left name r found);
        rows = rows_now;
        groups = same_groups;
        consistent = consistent_now;
      };
      objective = ap (λ (n : ModelValue). n.objective) without_it;
      mapped = mapped_now;
      name = row_name;
      leads = subst (λ n. after_edits n rest ≡ Ok new) with_it two.rest;
    }

  -- ---- all uses

  record Becomes (left added : List Row) (uses : List UseText) (m new : ModelValue) : Type 0 where
    groups : new.groups ≡ model.groups
    objective : new.objective ≡ m.objective
    more : List Row
    rows : new.rows ≡ unused (map (used model maps) uses) left ++ (added ++ more)
    mapped : StandForSeen more
        (map (λ u. record { row = u.row; seen = Some u.set }) (map (used model maps) uses))

  becomes : (uses : List UseText) (left added : List Row) (m new : ModelValue)
      → All (NamesMap maps) uses → wrong_use maps left uses ≡ None → IsOnWay left added m
      → after_edits m (flat_map (edits_of (naming model)) (map (used model maps) uses)) ≡ Ok new
      → Becomes left added uses m new
  becomes [] left added m new named none way h =
      let same : new ≡ m = nothing_done m new h in record {
        groups = ap (λ (n : ModelValue). n.groups) same ∙ way.groups;
        objective = ap (λ (n : ModelValue). n.objective) same;
        more = [];
        rows = ap (λ (n : ModelValue). n.rows) same ∙ way.rows
            ∙ ap₂ (λ xs ys. xs ++ ys) (sym (all_unused left)) (sym (append-nil added));
        mapped = tt;
      }
  becomes (u ∷ uses) left added m new named none way h =
      let rest : List Edit =
      flat_map (edits_of (naming model)) (map (used model maps) uses) in
      let this : IsUsed maps left u uses = first_used maps left u uses none in
      let s : Step left added u m rest new =
      step left added u uses m way (All-head (NamesMap maps) u uses named) this rest new h in
      let others_then : Becomes (others u.row left) (added ++ s.own ∷ []) uses s.next new =
      becomes uses (others u.row left) (added ++ s.own ∷ []) s.next new
      (All-tail (NamesMap maps) u uses named) this.others s.way s.leads in record {
        groups = others_then.groups;
        objective = others_then.objective ∙ s.objective;
        more = s.own ∷ others_then.more;
        rows = others_then.rows
            ∙ ap₂ (λ xs ys. xs ++ ys)
            (ap (λ n. unused (map (used model maps) uses) (others n left)) (sym s.name)
            ∙ unused_more (used model maps u) (map (used model maps) uses) left)
            (append_assoc added (s.own ∷ []) others_then.more);
        mapped = (s.mapped, others_then.mapped);
      }

  pub stands : (uses : List UseText) (new : ModelValue) → All (NamesMap maps) uses
      → wrong_use maps model.rows uses ≡ None
      → after_edits model (edits_for model (map (used model maps) uses)) ≡ Ok new
      → StandsFor model (map (used model maps) uses) new
  stands uses new named none h =
      let b : Becomes model.rows [] uses model new =
      becomes uses model.rows [] model new named none record {
        known = λ name r found. found;
        rows = sym (append-nil model.rows);
        groups = refl;
        consistent = valid.consistent;
      } h in record {
        groups = b.groups;
        objective = b.objective;
        rows = subst (λ rs. StandForSeen rs (rows_seen model.rows (map (used model maps) uses)))
            (sym b.rows)
            (stand_beside (unused (map (used model maps) uses) model.rows) b.more
            (map (used model maps) uses) b.mapped);
      }

  -- ---- each use

  -- a use of a row that its map fits
  pub record IsGoodUse (u : UseText) : Type 0 where
    pub vector : is_vector_affine (used model maps u).row.func ≡ true
    pub size : length (functions_of (used model maps u).row.func)
        ≡ length (matrix_of (map_at maps u.map))
    pub is_valid : IsValidRow model.groups (used model maps u).row

  good_use : (left : List Row) (u : UseText) (uses : List UseText) → AreLeft left
      → NamesMap maps u → IsUsed maps left u uses → IsGoodUse u
  good_use left u uses known named this =
      let is : (used model maps u).row ≡ this.row =
      ap (λ o. unwrap_or o no_row) (known u.row this.row this.found) in
      let free : IsFreeVector (map_at maps u.map).size (used model maps u).row.func =
      subst (λ (s : Row). IsFreeVector (map_at maps u.map).size s.func) (sym is)
      (free_vector (map_at maps u.map).size this.row.func this.row.set this.free) in record {
        vector = free.vector;
        size = free.count ∙ sym (matrix_size (map_at maps u.map) (whole u.map no_map named));
        is_valid = subst (IsValidRow model.groups) (sym is)
            (All-contains (IsValidRow model.groups) model.rows this.row valid.parts.valid_rows
            (found_stands (λ s. bytes_eq s.name u.row) model.rows this.row
            (known u.row this.row this.found)));
      }

  good_from : (uses : List UseText) (left : List Row) → AreLeft left → All (NamesMap maps) uses
      → wrong_use maps left uses ≡ None → All IsGoodUse uses
  good_from [] left known named none = All-nil IsGoodUse
  good_from (u ∷ uses) left known named none =
      let this : IsUsed maps left u uses = first_used maps left u uses none in
      All-cons IsGoodUse u uses
      (good_use left u uses known (All-head (NamesMap maps) u uses named) this)
      (good_from uses (others u.row left)
      (λ name r found. known name r (found_before u.row left name r found))
      (All-tail (NamesMap maps) u uses named) this.others)

  pub all_good : (uses : List UseText) → All (NamesMap maps) uses
      → wrong_use maps model.rows uses ≡ None → All IsGoodUse uses
  all_good uses named none = good_from uses model.rows (λ name r found. found) named none
