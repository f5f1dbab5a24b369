-- Entries that stand for variables alike are put in alike.
use Rattle.std.specs.Prelude.{◌≡◌, Bool, ◌&&◌, List, [], ◌∷◌, map, refl}
use Rattle.std.proofs.Common.{ap, ap₂}
use Rattle.std.specs.List.{list_all}
use Rattle.expansion.specs.Grown.{Held, joined}
use Rattle.aff_core.specs.Arithmetic.{composed}
use Rattle.bridge_face.specs.Law.{expressed}
use Rattle.item_core.specs.declared.image.Expression.{Expression}
use Rattle.item_core.specs.declared.image.Expression.TheVariants.{Kept, Bridged}
use Rattle.item_core.specs.declared.item.Body.{Body}
use Rattle.item_core.specs.declared.item.Body.TheVariants.{Group, Free, Plain, Affine, PlainVec, AffineVec, PlainObj, AffineObj}
use Rattle.item_core.specs.declared.item.Item.{Item}
use Rattle.fresh_bridging.specs.Entries.{Entry, expression_in, is_kept, objective_by, plain_or_affine, put_in, put_in_body, put_in_body_fits, put_in_fits, put_into, put_into_fits, vector_by}
use Rattle.fresh_bridging.specs.FitTests.{substitution_fits}
use Rattle.bridge_plan.specs.Worked.{worked_in}

module _ (es fs : List Entry) (same : expression_in es ≡ expression_in fs) where
  body_alike : (b : Body) → put_in_body es b ≡ put_in_body fs b
  unfolding put_in_body
  body_alike (Group set vars) = refl
  body_alike (Free vars) = refl
  body_alike (Plain var set) = ap (λ e. plain_or_affine (e var) set) same
  body_alike (Affine func set) = ap (λ e. Affine (composed (λ v. expressed (e v)) func) set) same
  body_alike (PlainVec vars set) =
      ap (λ e. vector_by (list_all is_kept (map e vars)) (map e vars) set) same
  body_alike (AffineVec funcs set) =
      ap (λ e. AffineVec (map (composed (λ v. expressed (e v))) funcs) set) same
  body_alike (PlainObj sense var) = ap (λ e. objective_by sense (e var)) same
  body_alike (AffineObj sense func) =
      ap (λ e. AffineObj sense (composed (λ v. expressed (e v)) func)) same

  body_fits_alike : (b : Body) → put_in_body_fits es b ≡ put_in_body_fits fs b
  body_fits_alike (Affine func set) = ap (λ e. substitution_fits (λ v. expressed (e v)) func) same
  body_fits_alike (AffineVec funcs set) =
      ap (λ e. list_all (substitution_fits (λ v. expressed (e v))) funcs) same
  body_fits_alike (AffineObj sense func) =
      ap (λ e. substitution_fits (λ v. expressed (e v)) func) same
  body_fits_alike _ = refl

  pub put_alike : put_in es ≡ put_in fs
  put_alike = λ i item. record item { body = body_alike item.body i }

  pub put_fits_alike : (item : Item) → put_in_fits es item ≡ put_in_fits fs item
  put_fits_alike item = body_fits_alike item.body

  expression_alike : (e : Expression) → put_into es e ≡ put_into fs e
  expression_alike (Kept var) = ap (λ e. e var) same
  expression_alike (Bridged func) = ap (λ e. Bridged (composed (λ v. expressed (e v)) func)) same

  expression_fits_alike : (e : Expression) → put_into_fits es e ≡ put_into_fits fs e
  expression_fits_alike (Kept var) = refl
  expression_fits_alike (Bridged func) =
      ap (λ e. substitution_fits (λ v. expressed (e v)) func) same

  pub into_alike : put_into es ≡ put_into fs
  into_alike = λ i e. expression_alike e i

  pub into_fits_alike : put_into_fits es ≡ put_into_fits fs
  into_fits_alike = λ i e. expression_fits_alike e i

  pub worked_in_alike : (choice : _) (below : Item → Held Item Entry) (items : List Item)
      → worked_in choice below es items ≡ worked_in choice below fs items
  unfolding worked_in
  worked_in_alike choice below [] = refl
  worked_in_alike choice below (item ∷ items) =
      ap₂ joined
      (λ i. put_one (put_fits_alike item i) (below (put_alike i item)))
      (worked_in_alike choice below items)
    where
      put_one : Bool → Held Item Entry → Held Item Entry
      put_one fits held = record held { entries = []; fits = fits && held.fits }
