-- An image has few enough children for each to have a position of an address.
use Rattle.std.specs.Prelude.{◌+◌, ◌≤◌, length}
use Rattle.std.proofs.Common.{arith}
use Rattle.std.proofs.lemmas.List.{length-map}
use Rattle.aff_core.specs.Address.{address_cmp}
use Rattle.aff_core.specs.Function.{variable}
use Rattle.set_core.specs.declared.set.Set.{Set}
use Rattle.item_core.specs.declared.edge.Edge.{Edge}
use Rattle.item_core.specs.declared.family.Family.{Family}
use Rattle.item_core.specs.declared.family.Family.TheVariants as family
use Rattle.item_core.specs.declared.item.Body.{Body}
use Rattle.item_core.specs.declared.item.Body.TheVariants.{Affine, AffineVec, Plain, PlainVec}
use Rattle.item_core.specs.declared.item.Item.{Item}
use Rattle.item_core.specs.Item.{functions_of, set_of}
use Rattle.item_core.specs.Valid.{IsValidItem}
use Rattle.bridge_face.specs.ImageOf.{image_by}
use Rattle.bridge_face.specs.Images.{component_of, each_component}
use Rattle.bridge_face.specs.RowsLaws.{length-children_from}

-- a vector has a component for each of its functions
few_components : (b : Body) (s : Set) → length (each_component b s) ≤ length (functions_of b)
few_components (PlainVec vars t) s =
    omega (arith, length-map vars (λ v. Plain v s), length-map vars (variable {R = address_cmp}))
few_components (AffineVec funcs t) s = omega (arith, length-map funcs (λ f. Affine f s))
few_components _ s = omega arith

-- the positions of all child rows fit
pub few_rows : (f : Family) (edge : Edge) (item : Item) → IsValidItem item
    → length (image_by f edge item).groups + length (image_by f edge item).rows + 1 ≤ 65536
unfolding image_by
few_rows family.GreaterLess edge item h = omega arith
few_rows family.OrthantFlip edge item h = omega arith
few_rows family.NonposVar edge item h = omega arith
few_rows family.ObjFlip edge item h = omega arith
few_rows family.Vectorize edge item h = omega arith
few_rows family.Scalarize edge item h =
    let part = component_of (set_of item.body) in
    omega (
      arith,
      length-children_from item 0 (each_component item.body part),
      few_components item.body part,
      h.at_most,
    )
few_rows family.ScalarFunctionize edge item h = omega arith
few_rows family.VectorFunctionize edge item h = omega arith
few_rows family.VectorizeVar edge item h = omega arith
few_rows family.ObjFunctionize edge item h = omega arith
few_rows family.SplitSet edge item h = omega arith
few_rows family.DropReals edge item h = omega arith
few_rows family.ZerosVar edge item h = omega arith
few_rows family.FreeVar edge item h = omega arith
few_rows family.ScalarSlack edge item h = omega arith
few_rows family.VectorSlack edge item h = omega arith
few_rows family.Later edge item h = omega arith
few_rows family.ObjSlack edge item h = omega arith
few_rows family.NormInfinity edge item h = omega arith
few_rows family.NormOne edge item h = omega arith
