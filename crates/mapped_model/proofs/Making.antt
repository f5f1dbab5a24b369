-- The edits of the uses, one use after the other, and what comes of them.
use Rattle.std.specs.Prelude.{◌≡◌, ℕ, ◌+◌, ◌<◌, ◌≤◌, true, false, ◌||◌, zero, suc, List, [], ◌∷◌, ◌++◌, Option, Some, None, Ok, Err, All, drop, flat_map, length, map, take, refl}
use Rattle.std.specs.List.{list_any}
use Rattle.std.specs.Borrow.{Bor}
use Rattle.std.specs.Option.{option_or}
use Rattle.std.proofs.Common.{ap, ap₂, append-nil, append_assoc, arith, get_or, subst, sym, ◌∙◌}
use Rattle.std.proofs.lemmas.List.{drop_more, length-map, map-id, take_all, take-append-drop, take_more}
use Rattle.std.proofs.lemmas.List.Elements.{All-push}
use mathlib.Core.List.{map-map}
use Rattle.map_file.specs.declared.file.MapFile.{MapFile}
use Rattle.map_file.specs.declared.use_text.UseText.{UseText}
use Rattle.map_file.specs.Shaped.{IsShaped}
use Rattle.mapped_certificates.specs.GoodSeen.{Use}
use Rattle.mapped_model.proofs.Pairs.{map_here, matrix_at}
use Rattle.mapped_model.proofs.Standing.{IsGoodUse, all_good, stands}
use Rattle.mapped_model.specs.Answers.{MapsRows}
use Rattle.mapped_model.specs.Edits.{IsMappingPlan, MakesEdits, PlansMapping, Pushes, TellsUnmade}
use Rattle.mapped_model.specs.Mapping.{AreBefore, AreEditsFor, Exceeds, FitsMap, IsRefused, Made, Mapped, Maps, MapsBy, UseFits, edits_by, edits_for, edits_of, is_lone, mapped_by}
use Rattle.mapped_model.specs.Stands.{StandsFor}
use Rattle.mapped_model.specs.Tells.{AreMapsRight, TellsMaps, TellsUses}
use Rattle.mapped_model.specs.Uses.{map_at, matrix_of, used, uses_in, wrong_line, wrong_use}
use Rattle.mapped_model.specs.declared.fault.MappingFault.{MappingFault}
use Rattle.mapped_model.specs.declared.fault.MappingFault.TheVariants as fault
use Rattle.mapped_model.specs.declared.mapping.MappingPlan.{MappingPlan}
use Rattle.model_load.specs.Loads.{after_edits}
use Rattle.model_store.specs.Store.{StoredModel}
use Rattle.mof_write.specs.Written.{naming}
use Rattle.set_map.specs.Matrices.{Matrix}
use Rattle.user_model.specs.declared.edit.Edit.{Edit}
use Rattle.user_model.specs.declared.refusal.Refusal.{Refusal}
use Rattle.user_model.specs.declared.row.Row.{Row}
use Rattle.user_model.specs.Model.{ModelValue}
use Rattle.user_model.specs.Functions.{is_vector_affine}
use Rattle.user_model.specs.Valid.{IsValid, IsValidRow}
use Rattle.certificates.specs.Points.{functions_of}

joined : {X Y : Type 0} (f : X → List Y) (xs : List X) (x : X)
    → flat_map f (xs ++ x ∷ []) ≡ flat_map f xs ++ f x
joined f [] x = append-nil (f x)
joined f (y ∷ xs) x =
    ap (λ zs. f y ++ zs) (joined f xs x) ∙ sym (append_assoc (f y) (flat_map f xs) (f x))

module _ (model : ModelValue) (uses : List Use) where
  -- those before a place fit, and their edits are made
  pub record AreSoFar (i : ℕ) (edits : List Edit) : Type 0 where
    pub fit : All UseFits (take i uses)
    pub same : edits ≡ edits_for model (take i uses)

  pub none_so_far : AreSoFar 0 []
  none_so_far = record { fit = λ k d within. absurd (omega arith); same = refl }

  module _ (i : ℕ) (edits : List Edit) (h : AreSoFar i edits) (u : Use) (here : u ≡ get_or uses i u)
      (within : i < length uses) where
    pub one_so_far : (next : List Edit) → UseFits u → next ≡ edits ++ edits_of (naming model) u
        → AreSoFar (i + 1) next
    one_so_far next fits pushed = record {
      fit = subst (All UseFits) (sym (take_more uses i u within))
          (All-push UseFits (take i uses) (get_or uses i u) h.fit (subst UseFits here fits));
      same = pushed ∙ ap (λ es. es ++ edits_of (naming model) u) h.same
          ∙ sym (joined (edits_of (naming model)) (take i uses) u)
          ∙ ap (λ v. edits_for model (take i uses ++ v ∷ [])) here
          ∙ ap (edits_for model) (sym (take_more uses i u within));
    }

    pub first_unfit : (name : List ℕ) → ¬ (UseFits u) → name ≡ u.row.name
        → AreEditsFor model uses edits (Some name)
    first_unfit name unfit named = record {
      fitting = take i uses;
      before = record {
        this = u;
        rest = drop (i + 1) uses;
        parts = sym (take-append-drop i uses)
            ∙ ap (λ us. take i uses ++ us) (drop_more uses i u within
            ∙ ap (λ v. v ∷ drop (i + 1) uses) (sym here));
        unfit = unfit;
        row = named;
      };
      fit = h.fit;
      same = h.same;
    }

  pub all_so_far : (i : ℕ) (edits : List Edit) → AreSoFar i edits → length uses ≤ i
      → AreEditsFor model uses edits None
  all_so_far i edits h le = record {
    fitting = uses;
    before = refl;
    fit = subst (All UseFits) (take_all i uses le) h.fit;
    same = h.same ∙ ap (edits_for model) (take_all i uses le);
  }

-- ---- the edits of one use

same_at : {X Y Z : Type 0} (f : X → Z) (g : Y → Z) (xs : List X) (ys : List Y)
    → map f xs ≡ map g ys → (i : ℕ) (x : X) (y : Y) → i < length xs
    → f (get_or xs i x) ≡ g (get_or ys i y)
same_at f g [] ys e i x y lt = absurd (omega (arith, lt))
same_at f g (a ∷ xs) [] e i x y lt = cc
same_at f g (a ∷ xs) (b ∷ ys) e zero x y lt = cc
same_at f g (a ∷ xs) (b ∷ ys) e (suc i) x y lt =
    let rest : map f xs ≡ map g ys = cc in same_at f g xs ys rest i x y (omega (arith, lt))

as_many : {X Y Z : Type 0} (f : X → Z) (g : Y → Z) (xs : List X) (ys : List Y)
    → map f xs ≡ map g ys → length xs ≡ length ys
as_many f g xs ys e = sym (length-map xs f) ∙ ap length e ∙ length-map ys g

module _ (model : ModelValue) (file : MapFile) (rows : List Row)
    (same : rows ≡ map (λ u. u.row) (uses_in model file)) where
  -- as many rows as uses, each that of its use
  pub row_count : length rows ≡ length file.uses
  row_count =
      ap length same ∙ length-map (uses_in model file) (λ u. u.row)
      ∙ length-map file.uses (used model file.maps)

  pub row_at : (i : ℕ) (u : UseText) (row : Row) → u ≡ get_or file.uses i u
      → row ≡ get_or rows i row → i < length file.uses
      → row ≡ (used model file.maps u).row
  row_at i u row here at lt =
      at ∙ ap (λ rs. get_or rs i row) same
      ∙ same_at (λ (r : Row). r) (λ v. (used model file.maps v).row)
      (map (λ u. u.row) (uses_in model file)) file.uses
      (map-id (map (λ u. u.row) (uses_in model file))
      ∙ map-map (λ (v : Use). v.row) (used model file.maps) file.uses) i row u
      (subst (λ n. i < n) (sym (length-map (uses_in model file) (λ u. u.row)
      ∙ length-map file.uses (used model file.maps))) lt)
      ∙ ap (λ v. (used model file.maps v).row) (sym here)

module _ (model : ModelValue) (file : MapFile) (i : ℕ) (u : UseText) (row : Row) (matrix : Matrix)
    (here : u ≡ get_or file.uses i u) (lt : i < length file.uses)
    (is_row : row ≡ (used model file.maps u).row)
    (is_matrix : matrix ≡ matrix_of (map_at file.maps u.map)) (edits : List Edit)
    (h : AreSoFar model (uses_in model file) i edits) where
  abbrev this : Use
  this = used model file.maps u

  this_at : this ≡ get_or (uses_in model file) i this
  this_at =
      ap (used model file.maps) here
      ∙ sym (same_at (λ (v : Use). v) (used model file.maps) (uses_in model file) file.uses
      (map-id (uses_in model file)) i this u (subst (λ n. i < n) (sym (length-map file.uses _)) lt))

  within : i < length (uses_in model file)
  within = subst (λ n. i < n) (sym (length-map file.uses (used model file.maps))) lt

  pub use_made : (next : List Edit)
      → Pushes true matrix row edits (edits_by (naming model) row matrix u.set) next
      → AreSoFar model (uses_in model file) (i + 1) next
  use_made next pushes =
      one_so_far model (uses_in model file) i edits h this this_at within next
      (subst (λ m. FitsMap m this.row) is_matrix (subst (FitsMap matrix) is_row pushes.0))
      (pushes.1 ∙ ap₂ (λ r m. edits ++ edits_by (naming model) r m u.set) is_row is_matrix)

  pub use_unfit : (name : List ℕ) (next : List Edit)
      → Pushes false matrix row edits (edits_by (naming model) row matrix u.set) next
      → name ≡ row.name → AreEditsFor model (uses_in model file) next (Some name)
  use_unfit name next pushes named =
      subst (λ es. AreEditsFor model (uses_in model file) es (Some name)) (sym pushes.1)
      (first_unfit model (uses_in model file) i edits h this this_at within name
      (λ fits. pushes.0 (subst (FitsMap matrix) (sym is_row)
      (subst (λ m. FitsMap m this.row) (sym is_matrix) fits)))
      (named ∙ ap (λ (r : Row). r.name) is_row))

-- no line is wrong, so no use is
first_none : (o p : Option ℕ) → option_or o p ≡ None → o ≡ None
first_none None p e = refl
first_none (Some line) p e = cc

pub no_use_wrong : (model : ModelValue) (file : MapFile) → wrong_line model file ≡ None
    → wrong_use file.maps model.rows file.uses ≡ None
no_use_wrong model file e =
    first_none (wrong_use file.maps model.rows file.uses) file.wrong e

-- the rows of the uses, and their maps
module _ (model : ModelValue) (valid : IsValid model) (file : MapFile) (shaped : IsShaped file)
    (right : AreMapsRight model file) (rows : List (Bor Row))
    (same : map (λ (r : Bor Row). r.now) rows ≡ map (λ u. u.row) (uses_in model file))
    (matrices : List Matrix) (are : matrices ≡ map matrix_of file.maps) (i : ℕ) (u : UseText)
    (here : u ≡ get_or file.uses i u) (lt : i < length file.uses) where
  pub rows_enough : i < length rows
  rows_enough =
      subst (λ n. i < n) (sym (row_count model file (map (λ (r : Bor Row). r.now) rows) same)
      ∙ length-map rows (λ (r : Bor Row). r.now)) lt

  pub row_is : (row : Row) → row ≡ get_or (map (λ (r : Bor Row). r.now) rows) i row
      → row ≡ (used model file.maps u).row
  row_is row at = row_at model file (map (λ (r : Bor Row). r.now) rows) same i u row here at lt

  pub matrix_is : (matrix : Matrix) → matrix ≡ get_or matrices u.map []
      → matrix ≡ matrix_of (map_at file.maps u.map)
  matrix_is matrix at =
      at ∙ ap (λ ms. get_or ms u.map []) are
      ∙ matrix_at file.maps u.map [] (map_here file.maps file.uses i u shaped.uses here lt)

  good : IsGoodUse model valid file.maps shaped.maps right.maps u
  good = subst (IsGoodUse model valid file.maps shaped.maps right.maps) (sym here)
      (all_good model valid file.maps shaped.maps right.maps file.uses shaped.uses
      (no_use_wrong model file right.lines) i u lt)

  module _ (row : Row) (at : row ≡ get_or (map (λ (r : Bor Row). r.now) rows) i row)
      (matrix : Matrix) (map_is : matrix ≡ get_or matrices u.map []) where
    pub use_vector : is_vector_affine row.func ≡ true
    use_vector = subst (λ (r : Row). is_vector_affine r.func ≡ true) (sym (row_is row at)) good.vector

    pub use_size : length (functions_of row.func) ≡ length matrix
    use_size =
        ap (λ (r : Row). length (functions_of r.func)) (row_is row at) ∙ good.size
        ∙ ap length (sym (matrix_is matrix map_is))

    pub use_valid : IsValidRow model.groups row
    use_valid = subst (IsValidRow model.groups) (sym (row_is row at)) good.is_valid

-- ---- what comes of the edits

any_lone : (f : UseText → Use) → ((u : UseText) → (f u).set.cone ≡ u.set) → (uses : List UseText)
    → list_any (λ u. is_lone u.set) uses ≡ list_any (λ u. is_lone u.set.cone) (map f uses)
any_lone f same [] = refl
any_lone f same (u ∷ uses) =
    ap₂ ◌||◌ (ap is_lone (sym (same u))) (any_lone f same uses)

module _ (old : StoredModel) (file : MapFile) where
  lone_is : list_any (λ u. is_lone u.set) file.uses
      ≡ list_any (λ u. is_lone u.set.cone) (uses_in old.model file)
  lone_is = any_lone (used old.model file.maps) (λ u. refl) file.uses

  pub unused_failed : (reason : MappingFault) → TellsUses old.model file (Err reason)
      → PlansMapping old.model file (Err reason)
  unused_failed (fault.BadMaps line) h = h
  unused_failed (fault.BadMap name) h = absurd h
  unused_failed (fault.Refused refusal) h = absurd h
  unused_failed (fault.Overflow row) h = absurd h
  unused_failed fault.Memory h = tt

  pub maps_failed : (reason : MappingFault) → wrong_line old.model file ≡ None
      → TellsMaps file.maps (Err reason) → PlansMapping old.model file (Err reason)
  maps_failed (fault.BadMaps line) none h = absurd h
  maps_failed (fault.BadMap name) none h = (none, h)
  maps_failed (fault.Refused refusal) none h = absurd h
  maps_failed (fault.Overflow row) none h = absurd h
  maps_failed fault.Memory none h = tt

  pub unplanned : (reason : MappingFault) (new : StoredModel)
      → PlansMapping old.model file (Err reason)
      → MapsRows old file (Err reason) new
  unplanned (fault.BadMaps line) new h = h
  unplanned (fault.BadMap name) new h = h
  unplanned (fault.Refused refusal) new h = (
    h.0,
    subst (λ b. MapsBy b old.model (uses_in old.model file) (IsRefused refusal))
        (sym h.1 ∙ lone_is) (ap IsRefused h.2),
  )
  unplanned (fault.Overflow row) new h = absurd h
  unplanned fault.Memory new h = tt

  module _ (plan : MappingPlan) (is : IsMappingPlan old.model file plan) where
    maps_each : (what : Mapped)
        → what ≡ mapped_by plan.edits.exceeds (after_edits old.model plan.edits.edits.items)
        → Maps old.model (uses_in old.model file) what
    maps_each what comes =
        subst (λ b. MapsBy b old.model (uses_in old.model file) what) (sym is.many ∙ lone_is)
        (plan.edits.edits.items, plan.edits.exceeds, is.edits, comes)

    refused_by : (exceeds : Option (List ℕ)) (refusal : Refusal)
        → IsRefused refusal ≡ mapped_by exceeds (Err refusal)
    refused_by None refusal = refl
    refused_by (Some row) refusal = refl

    pub unmade : (reason : MappingFault) (between new : StoredModel)
        → MakesEdits old plan.edits.edits.items (Err reason) between
        → MapsRows old file (Err reason) new
    unmade (fault.BadMaps line) between new h = absurd h
    unmade (fault.BadMap name) between new h = absurd h
    unmade (fault.Refused refusal) between new h = (
      is.right,
      maps_each (IsRefused refusal) (refused_by plan.edits.exceeds refusal
          ∙ ap (mapped_by plan.edits.exceeds) (sym h)),
    )
    unmade (fault.Overflow row) between new h = absurd h
    unmade fault.Memory between new h = tt

    pub exceeded : (row : List ℕ) (reason : MappingFault) (new : StoredModel)
        → TellsUnmade old.model plan.edits.edits.items row reason → plan.edits.exceeds ≡ Some row
        → MapsRows old file (Err reason) new
    exceeded row (fault.BadMaps line) new h some = absurd h
    exceeded row (fault.BadMap name) new h some = absurd h
    exceeded row (fault.Refused refusal) new h some = (
      is.right,
      maps_each (IsRefused refusal) (refused_by plan.edits.exceeds refusal
          ∙ ap (mapped_by plan.edits.exceeds) (sym h)),
    )
    exceeded row (fault.Overflow name) new h some = (
      is.right,
      maps_each (Exceeds name) (ap Exceeds h.1 ∙ ap₂ mapped_by (sym some) (sym h.0.1)),
    )
    exceeded row fault.Memory new h some = tt

    pub made : (mapped : MapFile) (new : StoredModel)
        → MakesEdits old plan.edits.edits.items (Ok tt) new → plan.edits.exceeds ≡ None
        → mapped ≡ file → MapsRows old file (Ok mapped) new
    made mapped new h none same = (
      is.right,
      same,
      maps_each (Made new.model) (ap₂ mapped_by (sym none) (sym h.0)),
      h.1,
    )

    pub made_stands : (new : StoredModel) → IsShaped file
        → MakesEdits old plan.edits.edits.items (Ok tt) new → plan.edits.exceeds ≡ None
        → StandsFor old.model (uses_in old.model file) new.model
    made_stands new shaped h none =
        stands old.model is.valid file.maps shaped.maps is.right.maps file.uses new.model
        shaped.uses right_uses
        (ap (after_edits old.model) (sym all_edits) ∙ h.0)
      where
        right_uses : wrong_use file.maps old.model.rows file.uses ≡ None
        right_uses = no_use_wrong old.model file is.right.lines

        whole : AreBefore (uses_in old.model file) is.edits.fitting None
        whole = subst (AreBefore (uses_in old.model file) is.edits.fitting) none is.edits.before

        all_edits : plan.edits.edits.items ≡ edits_for old.model (uses_in old.model file)
        all_edits = is.edits.same ∙ ap (edits_for old.model) whole
