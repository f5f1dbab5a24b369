-- What the proofs of all families share.
use Rattle.std.specs.Prelude.{◌≡◌, ◌==◌, Bool, true, false, ℕ, suc, slice_index_or, List, [], ◌∷◌, map, All, length, refl}
use Rattle.std.specs.Cmp.{unsigned_Decides}
use Rattle.std.specs.List.{AllByRecursion}
use Rattle.std.proofs.Common.{sym, ap, ap₂, subst, ◌∙◌, arith, true≢false}
use denote.Enum.Declared.{tag_of}
use Rattle.std.proofs.lemmas.List.{length-map}
use Rattle.std.proofs.lemmas.List.Elements.{All-from_recursion, All-weaker}
use Rattle.ratio_core.specs.Rational.{Rational}
use Rattle.item_core.specs.declared.edge.Edge.{Edge}
use Rattle.item_core.specs.declared.family.Family.{Family}
use Rattle.item_core.specs.declared.family.Family.TheVariants as family
use Rattle.item_core.specs.contracts.family.Family as contracts
use Rattle.item_core.specs.declared.item.Body.{Body}
use Rattle.item_core.specs.declared.item.Item.{Item}
use Rattle.item_core.specs.declared.image.Image.{Image}
use Rattle.item_core.specs.Edge.{edge_entry, edges_of, family_of, source_of}
use Rattle.item_core.specs.Item.{functions_of}
use Rattle.item_core.specs.Valid.{IsValidItem}
use Rattle.bridge_face.specs.BackOf.{BackFits, BackFitsBy, back_by, back_of, tail_of}
use Rattle.bridge_face.specs.ImageOf.{FitsBy, ImageFits, image_by, image_of}
use Rattle.bridge_face.specs.Law.{EdgeLaw, IsItemFor, IsLawful, LeadsToKind}
use Rattle.bridge_face.specs.Sources.{OfKind, of_kind}
use Rattle.bridge_face.specs.BridgeState.{TakesDuals, child_rows_of}
use Rattle.bridge_face.specs.declared.child_rows.ChildRows.{ChildRows}
use Rattle.bridge_face.specs.declared.kept_item.KeptItem.{KeptItem}

-- ---- from what is said of each edge of the family to the family's law

abbrev OfFamily : Family → Edge → Type 0
OfFamily f edge = family_of edge ≡ f

own_each : (f : Family) → AllByRecursion (OfFamily f) (edges_of f)
unfolding edge_entry edges_of
own_each family.GreaterLess = (refl, (refl, (refl, (refl, tt))))
own_each family.OrthantFlip = (refl, (refl, tt))
own_each family.NonposVar = (refl, tt)
own_each family.ObjFlip = (refl, (refl, tt))
own_each family.Vectorize = (refl, (refl, (refl, (refl, (refl, (refl, tt))))))
own_each family.Scalarize = (refl, (refl, (refl, (refl, (refl, (refl, tt))))))
own_each family.ScalarFunctionize = (refl, (refl, (refl, (refl, tt))))
own_each family.VectorFunctionize = (refl, (refl, (refl, (refl, (refl, tt)))))
own_each family.VectorizeVar = (refl, (refl, (refl, tt)))
own_each family.ObjFunctionize = (refl, (refl, tt))
own_each family.SplitSet = (refl, (refl, (refl, (refl, tt))))
own_each family.DropReals = (refl, (refl, tt))
own_each family.ZerosVar = (refl, tt)
own_each family.FreeVar = (refl, tt)
own_each family.ScalarSlack = (refl, (refl, (refl, tt)))
own_each family.VectorSlack = (refl, (refl, (refl, (refl, tt))))
own_each family.Later = (refl, (refl, (refl, (refl, (refl, (refl, (refl, (refl, (refl, tt)))))))))
own_each family.ObjSlack = (refl, (refl, tt))
own_each family.NormInfinity = (refl, tt)
own_each family.NormOne = (refl, tt)

own_edges : (f : Family) → All (OfFamily f) (edges_of f)
own_edges f = All-from_recursion (OfFamily f) (edges_of f) (own_each f)

abbrev pub Lawful : Edge → Type 0
Lawful edge = (item : Item) → IsItemFor edge item → EdgeLaw edge item (image_of edge item)

pub lawful_family : (f : Family) → ((edge : Edge) → family_of edge ≡ f → Lawful edge) → IsLawful f
lawful_family f h = All-weaker (OfFamily f) Lawful h (edges_of f) (own_edges f)

-- of which bodies the family's edges make images, which, and what is carried back
pub record Rule (f : Family) (Source : Edge → Body → Type 0) (make : Edge → Item → Image)
    (carry : Item → List (List Rational) → List Rational) : Type 0 where
  pub image : (edge : Edge) (item : Item) → image_by f edge item ≡ make edge item
  pub back : (item : Item) (ys : List (List Rational)) → back_by f item ys ≡ carry item ys
  pub sourced :
      (edge : Edge) → family_of edge ≡ f → {b : Body} → OfKind (source_of edge) b
      → Source edge b

module _ {f : Family} {Source : Edge → Body → Type 0} {make : Edge → Item → Image}
    {carry : Item → List (List Rational) → List Rational} (rule : Rule f Source make carry) where
  pub image_is : (edge : Edge) → family_of edge ≡ f → (item : Item)
      → image_of edge item ≡ make edge item
  image_is edge own item = ap (λ f. image_by f edge item) own ∙ rule.image edge item

  pub back_is : (edge : Edge) → family_of edge ≡ f → (item : Item) (ys : List (List Rational))
      → back_of edge item ys ≡ carry item ys
  back_is edge own item ys = ap (λ f. back_by f item ys) own ∙ rule.back item ys

  pub source_is : (edge : Edge) → family_of edge ≡ f → (item : Item) → IsItemFor edge item
      → Source edge item.body
  source_is edge own item suits =
      rule.sourced edge own (subst (λ k. OfKind k item.body) suits.kind
      (of_kind item.body suits.valid.function))

  pub lawful_by :
      ((edge : Edge) → family_of edge ≡ f → (item : Item) → IsValidItem item
      → Source edge item.body → EdgeLaw edge item (make edge item))
      → IsLawful f
  lawful_by law =
      lawful_family f (λ edge own item suits.
      subst (EdgeLaw edge item) (sym (image_is edge own item))
      (law edge own item suits.valid (source_is edge own item suits)))

-- such a body, from which the edge makes one of a kind that it leads to
pub record Sourced (Source : Body → Type 0) (made : Body → Body) (edge : Edge) (b : Body)
    : Type 0 where
  pub source : Source b
  pub leads : LeadsToKind edge (made b)

-- ---- where nothing is summed, nothing has to fit

abbrev pub sums_in_images : Family → Bool
sums_in_images family.Vectorize = true
sums_in_images family.NormInfinity = true
sums_in_images family.NormOne = true
sums_in_images _ = false

abbrev pub sums_of_duals : Family → Bool
sums_of_duals family.SplitSet = true
sums_of_duals family.NormInfinity = true
sums_of_duals family.NormOne = true
sums_of_duals _ = false

pub unsummed_fits : (f : Family) → sums_in_images f ≡ false → (item : Item) → FitsBy f item
unfolding FitsBy
unsummed_fits family.Vectorize none item = absurd (true≢false none)
unsummed_fits family.NormInfinity none item = absurd (true≢false none)
unsummed_fits family.NormOne none item = absurd (true≢false none)
unsummed_fits _ none item = tt

pub fits_back_by : (f : Family) → sums_of_duals f ≡ false
    → (item : Item) (ys : List (List Rational))
    → BackFitsBy f item ys
unfolding BackFitsBy
fits_back_by family.SplitSet none item ys = absurd (true≢false none)
fits_back_by family.NormInfinity none item ys = absurd (true≢false none)
fits_back_by family.NormOne none item ys = absurd (true≢false none)
fits_back_by _ none item ys = tt

module _ {f : Family} (edge : Edge) (own : family_of edge ≡ f) where
  pub image_fits : sums_in_images f ≡ false → (item : Item) → ImageFits edge item
  image_fits none item = unsummed_fits (family_of edge) (ap sums_in_images own ∙ none) item

  pub back_fits : sums_of_duals f ≡ false → (item : Item) (ys : List (List Rational))
      → BackFits edge item ys
  back_fits none item ys = fits_back_by (family_of edge) (ap sums_of_duals own ∙ none) item ys

-- ---- an edge of one family is of no other

abbrev pub family_number : Family → ℕ
family_number f = tag_of contracts.the_type f

pub of_another : {C : Type 0} {f g : Family} → f ≡ g
    → (family_number f == family_number g) ≡ false → C
of_another {C} {f} {g} e h =
    absurd (true≢false (sym ((unsigned_Decides (family_number f) (family_number g)).1
    (ap family_number e)) ∙ h))

-- ---- where child rows stand, and their duals

abbrev pub record_of : ℕ → ℕ → ChildRows
record_of first count = record { first = first; count = count }

abbrev pub kept_by : Edge → Item → KeptItem
kept_by edge item = record { edge = edge; item = item }

module _ (edge : Edge) (item : Item) (image : Image) (image_is : image_of edge item ≡ image) where
  pub child_rows_are : record_of (length image.groups) (length image.rows) ≡ child_rows_of edge item
  child_rows_are =
      sym (ap (λ image. record_of (length image.groups) (length image.rows)) image_is)

  pub dual_sizes : (ys : List (List Rational)) → TakesDuals (kept_by edge item) ys
      → map length ys ≡ map (λ row. length (functions_of row.body)) image.rows
  dual_sizes ys t =
      t.sizes ∙ ap (λ image. map (λ row. length (functions_of row.body)) image.rows) image_is

  -- one dual for each child row
  pub dual_count : (ys : List (List Rational)) → TakesDuals (kept_by edge item) ys
      → length ys ≡ length image.rows
  dual_count ys t =
      sym (length-map ys length) ∙ ap length (dual_sizes ys t)
      ∙ length-map image.rows (λ row. length (functions_of row.body))

-- the first size of several
abbrev pub first_size : List ℕ → ℕ
first_size [] = 0
first_size (n ∷ ns) = n

-- ---- the only one of a list

pub only : (ys : List (List Rational)) (y : List Rational)
    → length ys ≡ 1 → y ≡ slice_index_or ys 0 y → ys ≡ y ∷ []
only [] y one first = absurd (omega (arith, one))
only (z ∷ []) y one first = ap (λ u. u ∷ []) (sym first)
only (z ∷ (u ∷ us)) y one first = absurd (omega (arith, one))

-- what is carried back of the only dual
pub back_one : (edge : Edge) (item : Item) (back : List Rational → List Rational)
    → ((y : List Rational) → back_of edge item (y ∷ []) ≡ back y)
    → (ys : List (List Rational)) (y : List Rational)
    → length ys ≡ 1 → y ≡ slice_index_or ys 0 y → back y ≡ back_of edge item ys
back_one edge item back back_is ys y one first =
    sym (back_is y) ∙ ap (back_of edge item) (sym (only ys y one first))

-- the two of a list
pub only_two : (ys : List (List Rational)) (p q : List Rational) → length ys ≡ 2
    → p ≡ slice_index_or ys 0 p → q ≡ slice_index_or ys 1 q → ys ≡ p ∷ q ∷ []
only_two [] p q two first second = absurd (omega (arith, two))
only_two (u ∷ []) p q two first second = absurd (omega (arith, two))
only_two (u ∷ (v ∷ [])) p q two first second = ap₂ (λ a b. a ∷ b ∷ []) (sym first) (sym second)
only_two (u ∷ (v ∷ (w ∷ ws))) p q two first second = absurd (omega (arith, two))

-- ---- a list of several numbers

pub length-tail : (y : List Rational) (n : ℕ) → length y ≡ suc n → length (tail_of y) ≡ n
length-tail [] n e = absurd (omega (arith, e))
length-tail (r ∷ y) n e = omega (arith, e)
