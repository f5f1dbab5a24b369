-- The row that a use names.
use Rattle.std.specs.Prelude.{◌≡◌, ℕ, ◌<◌, Bool, true, false, cond, List, [], ◌∷◌, ◌++◌, Option, Some, None, length, map, refl}
use Rattle.std.specs.Borrow.{Bor}
use Rattle.std.specs.Option.{option_copied}
use Rattle.std.proofs.Common.{ap, get_or, sym, ◌∙◌}
use Rattle.std.proofs.lemmas.List.{get_or_default}
use mathlib.Core.List.{map-append, map-map}
use Rattle.map_file.specs.declared.file.MapFile.{MapFile}
use Rattle.map_file.specs.declared.map_text.MapText.{MapText}
use Rattle.map_file.specs.declared.use_text.UseText.{UseText}
use Rattle.mapped_certificates.specs.GoodSeen.{Use}
use Rattle.mapped_model.specs.Uses.{is_free_vector, map_at, no_map, usable, used, uses_in}
use Rattle.user_model.specs.declared.row.Row.{Row}
use Rattle.user_model.specs.Model.{ModelValue}

module _ (maps : List MapText) (u : UseText) where
  pub usable_none : (o : Option Row) → o ≡ None → usable maps o u ≡ None
  usable_none o e = ap (λ p. usable maps p u) e

  pub usable_when : (o : Option Row) (r : Row) (size : ℕ) (b : Bool) → o ≡ Some r
      → size ≡ (map_at maps u.map).size → b ≡ is_free_vector size r
      → usable maps o u ≡ cond b (Some r) None
  usable_when o r size b e at is =
      ap (λ p. usable maps p u) e
      ∙ ap (λ c. cond c (Some r) None) (ap (λ n. is_free_vector n r) (sym at) ∙ sym is)

pub same_size : (maps : List MapText) (place : ℕ) (m : MapText) → m ≡ get_or maps place m
    → place < length maps → m.size ≡ (map_at maps place).size
same_size maps place m here lt =
    ap (λ (n : MapText). n.size) (here ∙ get_or_default maps place m no_map lt)

-- ---- what is looked up, by value

pub copied_put : (b : Bool) (x : Bor Row) (o : Option (Bor Row))
    → option_copied (cond b (Some x) o) ≡ cond b (Some x.now) (option_copied o)
copied_put true x o = refl
copied_put false x o = refl

pub copied_out : (b : Bool) (o : Option (Bor Row))
    → option_copied (cond b None o) ≡ cond b None (option_copied o)
copied_out true o = refl
copied_out false o = refl

pub now_pushed : (old new : List (Bor Row)) (r : Bor Row) → new ≡ old ++ r ∷ []
    → map (λ (r : Bor Row). r.now) new ≡ map (λ (r : Bor Row). r.now) old ++ r.now ∷ []
now_pushed old new r e =
    ap (map (λ (r : Bor Row). r.now)) e ∙ map-append (λ (r : Bor Row). r.now) old (r ∷ [])

-- the rows of the uses
pub rows_as : (model : ModelValue) (file : MapFile) (rows : List Row)
    → rows ≡ map (λ u. (used model file.maps u).row) file.uses
    → rows ≡ map (λ u. u.row) (uses_in model file)
rows_as model file rows e =
    e ∙ sym (map-map (λ (v : Use). v.row) (used model file.maps) file.uses)
