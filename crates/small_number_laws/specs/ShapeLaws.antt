-- Bodies of images within bounds, by their shapes.
use Rattle.std.specs.Prelude.{◌≡◌, ℕ, ◌+◌, ◌*◌, ◌^◌, ◌≤◌, Bool, true, false, cond, List, [], ◌∷◌, ◌++◌, All, map}
use Rattle.std.proofs.Common.{sym, arith, true≢false}
use Rattle.std.proofs.lemmas.List.Elements.{All-append, All-cons, All-head, All-nil, All-tail}
use Rattle.aff_core.specs.Address.{Address, address_cmp}
use Rattle.aff_core.specs.Function.{Function, variable}
use Rattle.bridge_face.specs.Images.{affine, child_at, children_from, each_component, first_in, plain, with_set}
use Rattle.item_core.specs.declared.item.Body.{Body}
use Rattle.item_core.specs.declared.item.Body.TheVariants.{Group, Free, Plain, Affine, PlainVec, AffineVec}
use Rattle.item_core.specs.declared.item.Item.{Item}
use Rattle.item_core.specs.Item.{is_group, set_of}
use Rattle.set_core.specs.Shapes.{is_scalar}
use Rattle.set_core.specs.declared.set.Set.{Set}
use Rattle.small_number_laws.specs.BodyLaws.{IsBodyWithin, all_more}
use Rattle.small_number_laws.specs.ListLaws.{first_within, variables_within}
use Rattle.small_number_laws.specs.SetLaws.{none_small}
use Rattle.small_number_laws.specs.SmallNumbers.{set_numbers}
use Rattle.small_number_laws.specs.Whole.{AreSmall}
use Rattle.small_number_laws.specs.WithinLaws.{IsFunctionWithin}

-- the bodies of these items are within the bound
abbrev pub AreBodiesWithin : ℕ → List Item → Type 0
AreBodiesWithin a items = All (λ c. IsBodyWithin a c.body) items

-- ---- bodies

pub no_items : (a : ℕ) → AreBodiesWithin a []
no_items a = All-nil (λ c. IsBodyWithin a c.body)

pub one_item : (a : ℕ) (c : Item) → IsBodyWithin a c.body → AreBodiesWithin a (c ∷ [])
one_item a c w = All-cons (λ c. IsBodyWithin a c.body) c [] w (no_items a)

pub from_list : (a : ℕ) (item : Item) (n : ℕ) (bodies : List Body) → All (IsBodyWithin a) bodies
    → AreBodiesWithin a (children_from item n bodies)
from_list a item n [] w = no_items a
from_list a item n (b ∷ bs) w =
    All-cons (λ c. IsBodyWithin a c.body) (child_at item n b) (children_from item (n + 1) bs)
    (All-head (IsBodyWithin a) b bs w)
    (from_list a item (n + 1) bs (All-tail (IsBodyWithin a) b bs w))

-- rows alone, in a list
pub rows_alone : (a : ℕ) (item : Item) (bodies : List Body) → All (IsBodyWithin a) bodies
    → AreBodiesWithin a (children_from item 0 bodies ++ [])
rows_alone a item bodies w =
    All-append (λ c. IsBodyWithin a c.body) (children_from item 0 bodies) []
    (from_list a item 0 bodies w) (no_items a)

pub one_function : (a k : ℕ) (f : Function) → IsFunctionWithin a k f
    → All (IsFunctionWithin a k) (f ∷ [])
one_function a k f w =
    All-cons (IsFunctionWithin a k) f [] w (All-nil (IsFunctionWithin a k))

pub affine_row : (a : ℕ) (f : Function) (set : Set) → IsFunctionWithin a (a * 2 ^ 41) f
    → AreSmall (set_numbers set) → IsBodyWithin a (Affine f set)
affine_row a f set w s =
    record { functions = one_function a (a * 2 ^ 41) f w; set = s }

pub vector_row : (a : ℕ) (fs : List Function) (set : Set) → All (IsFunctionWithin a (a * 2 ^ 41)) fs
    → AreSmall (set_numbers set) → IsBodyWithin a (AffineVec fs set)
vector_row a fs set w s = record { functions = w; set = s }

pub affine_body : (a : ℕ) (fs : List Function) (set : Set)
    → All (IsFunctionWithin a (a * 2 ^ 41)) fs
    → AreSmall (set_numbers set) → IsBodyWithin a (affine fs set)
affine_body a fs set w s = by (is_scalar set)
  where
    by : (b : Bool) → IsBodyWithin a (cond b (Affine (first_in fs) set) (AffineVec fs set))
    by true = affine_row a (first_in fs) set (first_within a (a * 2 ^ 41) fs w) s
    by false = vector_row a fs set w s

pub variables_one : (a : ℕ) (vs : List Address) → 1 ≤ a
    → All (IsFunctionWithin a (a * 2 ^ 41)) (map (variable {R = address_cmp}) vs)
variables_one a vs h =
    all_more 1 a 0 (a * 2 ^ 41) (map (variable {R = address_cmp}) vs) h (omega arith)
    (variables_within vs)

pub plain_body : (a : ℕ) (vs : List Address) (set : Set) → 1 ≤ a → AreSmall (set_numbers set)
    → IsBodyWithin a (plain vs set)
plain_body a [] set h s = record { functions = variables_one a [] h; set = s }
plain_body a (v ∷ vs) set h s = by (is_scalar set)
  where
    by : (b : Bool) → IsBodyWithin a (cond b (Plain v set) (PlainVec (v ∷ vs) set))
    by true = record { functions = variables_one a (v ∷ []) h; set = s }
    by false = record { functions = variables_one a (v ∷ vs) h; set = s }

pub group_body : (a : ℕ) (vs : List Address) (set : Set) → 1 ≤ a → AreSmall (set_numbers set)
    → IsBodyWithin a (Group set vs)
group_body a vs set h s = record { functions = variables_one a vs h; set = s }

pub free_body : (a : ℕ) (vs : List Address) → 1 ≤ a → IsBodyWithin a (Free vs)
free_body a vs h = record { functions = variables_one a vs h; set = none_small }

pub with_set_body : (a : ℕ) (b : Body) (set : Set) → IsBodyWithin a b → AreSmall (set_numbers set)
    → IsBodyWithin a (with_set b set)
with_set_body a (Plain var s) set w h = record { functions = w.functions; set = h }
with_set_body a (Affine func s) set w h = record { functions = w.functions; set = h }
with_set_body a (PlainVec vars s) set w h = record { functions = w.functions; set = h }
with_set_body a (AffineVec funcs s) set w h = record { functions = w.functions; set = h }
with_set_body a _ set w h = w

pub each_body : (a : ℕ) (b : Body) (set : Set) → 1 ≤ a → IsBodyWithin a b
    → AreSmall (set_numbers set)
    → All (IsBodyWithin a) (each_component b set)
each_body a (PlainVec vars s) set h w e = each vars
  where
    each : (vs : List Address) → All (IsBodyWithin a) (map (λ v. Plain v set) vs)
    each [] = All-nil (IsBodyWithin a)
    each (v ∷ vs) =
        All-cons (IsBodyWithin a) (Plain v set) (map (λ v. Plain v set) vs)
        (record { functions = variables_one a (v ∷ []) h; set = e }) (each vs)
each_body a (AffineVec funcs s) set h w e = each funcs w.functions
  where
    each : (fs : List Function) → All (IsFunctionWithin a (a * 2 ^ 41)) fs
        → All (IsBodyWithin a) (map (λ f. Affine f set) fs)
    each [] v = All-nil (IsBodyWithin a)
    each (f ∷ fs) v =
        All-cons (IsBodyWithin a) (Affine f set) (map (λ f. Affine f set) fs)
        (affine_row a f set (All-head (IsFunctionWithin a (a * 2 ^ 41)) f fs v) e)
        (each fs (All-tail (IsFunctionWithin a (a * 2 ^ 41)) f fs v))
each_body a _ set h w e = All-nil (IsBodyWithin a)

-- a group has variables, and a set
pub group_itself : (a : ℕ) (b : Body) → is_group b ≡ true → 1 ≤ a
    → AreSmall (set_numbers (set_of b)) → IsBodyWithin a b
group_itself a (Group set vars) is h s = group_body a vars set h s
group_itself a (Free vars) is h s = free_body a vars h
group_itself a _ is h s = absurd (true≢false (sym is))
