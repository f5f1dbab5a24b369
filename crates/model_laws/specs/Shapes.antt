-- A row or a group that an edit changes differs from what it was exactly where the function, the
-- set or the name does.
use Rattle.std.specs.Prelude.{◌≡◌, ◌≢◌, ℕ, zero, suc, ◌-◌, ◌<◌, List, [], ◌∷◌, Some, Contains, length, map, slice_get, slice_index_or}
use Rattle.std.proofs.Common.{arith, sym, ap, subst, ◌∙◌}
use Rattle.aff_core.specs.Function.{Function}
use Rattle.set_core.specs.declared.set.Set.{Set}
use Rattle.user_model.specs.declared.function.UserFunc.{UserFunc}
use Rattle.user_model.specs.declared.function.UserFunc.TheVariants.{Affine, AffineVec}
use Rattle.user_model.specs.declared.group.Group.{Group}
use Rattle.user_model.specs.declared.group.GroupVar.{GroupVar}
use Rattle.user_model.specs.declared.row.Row.{Row}
use Rattle.user_model.specs.Edited.{on_affine, on_output, renamed}
use Rattle.model_laws.specs.Coefficients.{other_at, same_at}
use Rattle.model_laws.specs.Renamed.{renamed_there}

-- ---- rows

module _ (h : Function → Function) where
  same_affine : (f : Function) (func : UserFunc) → func ≡ Affine f → h f ≡ f
      → on_affine h func ≡ func
  same_affine f func is e = subst (λ g. on_affine h g ≡ g) (sym is) (ap Affine e)

  other_affine : (f : Function) (func : UserFunc) → func ≡ Affine f → h f ≢ f
      → on_affine h func ≢ func
  other_affine f func is ne same =
      ne (let both : Affine (h f) ≡ Affine f = sym (ap (on_affine h) is) ∙ (same ∙ is) in cc)

  same_output : (output : ℕ) (fs : List Function) (f : Function) (func : UserFunc)
      → func ≡ AffineVec fs → slice_get fs (output - 1) ≡ Some f → h f ≡ f
      → on_output output h func ≡ func
  same_output output fs f func is at e = subst (λ g. on_output output h g ≡ g) (sym is)
      (ap AffineVec (same_at (output - 1) h fs f at e))

  other_output : (output : ℕ) (fs : List Function) (f : Function) (func : UserFunc)
      → func ≡ AffineVec fs → slice_get fs (output - 1) ≡ Some f → h f ≢ f
      → on_output output h func ≢ func
  other_output output fs f func is at ne same = other_at (output - 1) h fs f at ne
      (parts _ _ (sym (ap (on_output output h) is) ∙ (same ∙ is)))
    where
      parts : (gs hs : List Function) → AffineVec gs ≡ AffineVec hs → gs ≡ hs
      parts gs hs e = cc

  pub affine_row_same : (row : Row) (f : Function) → row.func ≡ Affine f → h f ≡ f
      → record row { func = on_affine h row.func } ≡ row
  affine_row_same row f is e = ap (λ func. record row { func = func }) (same_affine f row.func is e)

  pub affine_row_other : (row : Row) (f : Function) → row.func ≡ Affine f → h f ≢ f
      → record row { func = on_affine h row.func } ≢ row
  affine_row_other row f is ne same = other_affine f row.func is ne (ap (λ r. r.func) same)

  pub output_row_same : (output : ℕ) (row : Row) (fs : List Function) (f : Function)
      → row.func ≡ AffineVec fs → slice_get fs (output - 1) ≡ Some f → h f ≡ f
      → record row { func = on_output output h row.func } ≡ row
  output_row_same output row fs f is at e =
      ap (λ func. record row { func = func }) (same_output output fs f row.func is at e)

  pub output_row_other : (output : ℕ) (row : Row) (fs : List Function) (f : Function)
      → row.func ≡ AffineVec fs → slice_get fs (output - 1) ≡ Some f → h f ≢ f
      → record row { func = on_output output h row.func } ≢ row
  output_row_other output row fs f is at ne same =
      other_output output fs f row.func is at ne (ap (λ r. r.func) same)

pub row_set_same : (row : Row) (set : Set) → row.set ≡ set → record row { set = set } ≡ row
row_set_same row set e = ap (λ s. record row { set = s }) (sym e)

pub row_set_other : (row : Row) (set : Set) → row.set ≢ set → record row { set = set } ≢ row
row_set_other row set ne same = ne (sym (ap (λ r. r.set) same))

pub row_name_other : (row : Row) (name : List ℕ) → row.name ≢ name
    → record row { name = name } ≢ row
row_name_other row name ne same = ne (sym (ap (λ r. r.name) same))

-- ---- groups

pub group_set_same : (group : Group) (set : Set) → group.set ≡ set
    → record group { set = set } ≡ group
group_set_same group set e = ap (λ s. record group { set = s }) (sym e)

pub group_set_other : (group : Group) (set : Set) → group.set ≢ set
    → record group { set = set } ≢ group
group_set_other group set ne same = ne (sym (ap (λ g. g.set) same))

-- a group of which a variable has another name
pub group_name_other : (n : ℕ) (name : List ℕ) (group : Group) (var : GroupVar)
    → Contains group.vars var → var.number ≡ n → var.name ≢ name
    → record group { vars = map (renamed n name) group.vars } ≢ group
group_name_other n name group var there at ne same =
    ne (named group.vars there.0 there.1 there.2 (ap (λ g. g.vars) same))
  where
    named : (vs : List GroupVar) (k : ℕ) → k < length vs → slice_index_or vs k var ≡ var
        → map (renamed n name) vs ≡ vs → var.name ≡ name
    named [] k lt is e = absurd (omega arith)
    named (v ∷ vs) zero lt is e =
        let first : renamed n name v ≡ v = ap (λ ws. slice_index_or ws 0 v) e in
        sym (ap (λ w. w.name) is)
        ∙ (sym (ap (λ w. w.name) first) ∙ renamed_there n name v (ap (λ w. w.number) is ∙ at))
    named (v ∷ vs) (suc k) lt is e =
        let rest : map (renamed n name) vs ≡ vs = cc in named vs k (omega arith) is rest
