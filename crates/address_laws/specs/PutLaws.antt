-- An item stays what it is where expressions are put in: a group, a row or an objective.
use Rattle.std.specs.Prelude.{◌≡◌, Bool, true, false, List, map, refl}
use Rattle.std.specs.List.{list_all}
use Rattle.std.proofs.Common.{ap}
use Rattle.set_core.specs.declared.set.Set.{Set}
use Rattle.aff_core.specs.declared.sense.Sense.{Sense}
use Rattle.item_core.specs.declared.image.Expression.{Expression}
use Rattle.item_core.specs.declared.image.Expression.TheVariants.{Kept, Bridged}
use Rattle.item_core.specs.declared.item.Body.{Body}
use Rattle.item_core.specs.declared.item.Body.TheVariants.{Plain, PlainVec, PlainObj}
use Rattle.item_core.specs.Item.{is_group}
use Rattle.bridge_face.specs.Law.{is_objective}
use Rattle.fresh_bridging.specs.Entries.{Entry, expression_in, is_kept, objective_by, plain_or_affine, put_in_body, vector_by}

-- whether it is a group, and whether it is an objective: a row is neither
abbrev pub class_of : Body → Bool × Bool
class_of b = (is_group b, is_objective b)

plain_class : (e : Expression) (set : Set) → class_of (plain_or_affine e set) ≡ (false, false)
plain_class (Kept var) set = refl
plain_class (Bridged func) set = refl

vector_class : (b : Bool) (es : List Expression) (set : Set)
    → class_of (vector_by b es set) ≡ (false, false)
unfolding vector_by
vector_class true es set = refl
vector_class false es set = refl

objective_class : (sense : Sense) (e : Expression)
    → class_of (objective_by sense e) ≡ (false, true)
objective_class sense (Kept var) = refl
objective_class sense (Bridged func) = refl

class_stays : (entries : List Entry) (b : Body) → class_of (put_in_body entries b) ≡ class_of b
unfolding put_in_body
class_stays entries (Plain var set) = plain_class (expression_in entries var) set
class_stays entries (PlainVec vars set) =
    vector_class (list_all is_kept (map (expression_in entries) vars))
    (map (expression_in entries) vars) set
class_stays entries (PlainObj sense var) = objective_class sense (expression_in entries var)
class_stays entries _ = refl

pub group_stays : (entries : List Entry) (b : Body) → is_group (put_in_body entries b) ≡ is_group b
group_stays entries b = ap (λ p. p.0) (class_stays entries b)

pub objective_stays : (entries : List Entry) (b : Body)
    → is_objective (put_in_body entries b) ≡ is_objective b
objective_stays entries b = ap (λ p. p.1) (class_stays entries b)
