-- What is carried back to a row has a number for each of its components, and a row has few enough
-- child rows.
use Rattle.std.specs.Prelude.{◌≡◌, ◌+◌, ◌-◌, ◌≤◌, ◌^◌, ℕ, suc, Bool, true, false, cond, List, [], ◌∷◌, ◌++◌, drop, length, map, take, refl}
use Rattle.std.proofs.Common.{arith, ap, ap₂, sym, ◌∙◌, true≢false}
use Rattle.std.proofs.lemmas.List.{length-append, length-drop, length-map, length-replicate, length-take-le}
use Rattle.ratio_core.specs.Folds.{sum_from}
use Rattle.ratio_core.specs.Rational.{Rational, zero_ℚ}
use Rattle.rational_laws.specs.Dot.{negated}
use Rattle.rational_laws.specs.DotLaws.{length-negated, length-plus}
use Rattle.aff_core.specs.Address.{address_cmp, child_of}
use Rattle.aff_core.specs.Arithmetic.{sum_of}
use Rattle.aff_core.specs.Function.{Function, negated as negated_function, variable}
use Rattle.set_core.specs.Shapes.{is_scalar}
use Rattle.set_core.specs.declared.set.Set.{Set}
use Rattle.set_core.specs.declared.set.Set.TheVariants as set
use Rattle.item_core.specs.declared.edge.Edge.{Edge}
use Rattle.item_core.specs.declared.family.Family.{Family}
use Rattle.item_core.specs.declared.family.Family.TheVariants as family
use Rattle.item_core.specs.declared.item.Body.{Body}
use Rattle.item_core.specs.declared.item.Body.TheVariants.{Group, Free, Plain, Affine, PlainVec, AffineVec, PlainObj, AffineObj}
use Rattle.item_core.specs.declared.item.Item.{Item}
use Rattle.item_core.specs.declared.kind.Kind.{Kind}
use Rattle.item_core.specs.declared.kind.Kind.TheVariants as kind
use Rattle.item_core.specs.Item.{functions_of, set_of}
use Rattle.item_core.specs.KindOf.{kind_of_body, affine_kind_of, plain_kind_of}
use Rattle.item_core.specs.Valid.{FitsItsFunction, IsValidItem}
use Rattle.bridge_face.specs.BackOf.{across, back_by, first_of, head_of, joined, second_of, size, tail_of}
use Rattle.bridge_face.specs.ComponentLaws.{length-components}
use Rattle.bridge_face.specs.DifferenceLaws.{length-differences, length-sums}
use Rattle.bridge_face.specs.ImageOf.{differences, image_by, inner, inner_functions, sums}
use Rattle.bridge_face.specs.Images.{affine, children_from, component_of, difference, each_component, first_in, lower_part, rest_of, upper_part, with_set}
use Rattle.bridge_face.specs.FamilyLaws.{length-tail}
use Rattle.bridge_face.specs.OneRowLaws.{IsRowBody}
use Rattle.bridge_face.specs.WidthLaws.{few_rows as fewer_rows}
use Rattle.address_laws.specs.ClassLaws.{class_of_family}

-- ---- rows of numbers alone, by their kinds

abbrev pub is_scalar_kind : Kind → Bool
is_scalar_kind kind.PlainLessThan = true
is_scalar_kind kind.PlainGreaterThan = true
is_scalar_kind kind.PlainEqualTo = true
is_scalar_kind kind.PlainInterval = true
is_scalar_kind kind.AffineLessThan = true
is_scalar_kind kind.AffineGreaterThan = true
is_scalar_kind kind.AffineEqualTo = true
is_scalar_kind kind.AffineInterval = true
is_scalar_kind _ = false

record OfSet (s : Set) : Type 0 where
  pub plain : is_scalar_kind (plain_kind_of s) ≡ is_scalar s
  pub affine : is_scalar_kind (affine_kind_of s) ≡ is_scalar s

of_set : (s : Set) → OfSet s
of_set (set.LessThan u) = record { plain = refl; affine = refl }
of_set _ = record { plain = refl; affine = refl }

-- a row's set is of numbers exactly where its kind is
scalar_set : (b : Body) → IsRowBody b → is_scalar_kind (kind_of_body b) ≡ is_scalar (set_of b)
unfolding kind_of_body
scalar_set (Group s vars) h = absurd (true≢false h.no_group)
scalar_set (Free vars) h = absurd (true≢false h.no_group)
scalar_set (Plain var s) h = (of_set s).plain
scalar_set (Affine func s) h = (of_set s).affine
scalar_set (PlainVec vars s) h = (of_set s).plain
scalar_set (AffineVec funcs s) h = (of_set s).affine
scalar_set (PlainObj sense var) h = absurd (true≢false h.no_objective)
scalar_set (AffineObj sense func) h = absurd (true≢false h.no_objective)

-- a row of numbers has one component
one_component : (b : Body) → IsRowBody b → FitsItsFunction b → is_scalar (set_of b) ≡ true
    → length (functions_of b) ≡ 1
one_component (Group s vars) h f e = absurd (true≢false h.no_group)
one_component (Free vars) h f e = absurd (true≢false h.no_group)
one_component (Plain var s) h f e = refl
one_component (Affine func s) h f e = refl
one_component (PlainVec vars s) h f e = absurd (true≢false (sym e ∙ f))
one_component (AffineVec funcs s) h f e = absurd (true≢false (sym e ∙ f))
one_component (PlainObj sense var) h f e = absurd (true≢false h.no_objective)
one_component (AffineObj sense func) h f e = absurd (true≢false h.no_objective)

-- ---- lengths

-- of a list of 2 n numbers
length-across : (n : ℕ) (y : List Rational) → length y ≡ n + n → length (across n y) ≡ n
length-across n y e =
    let long = length-negated (take n y) ∙ length-take-le n y (omega (arith, e)) in
    length-plus (drop n y) (negated (take n y)) (omega (arith, length-drop n y, e, long)) ∙ long

nothing_there : {A : Type 0} {x : A} {xs : List A} → [] ≡ x ∷ xs → ⊥
nothing_there e = cc

first_size : (ys : List (List Rational)) (n : ℕ) → map length ys ≡ n ∷ [] → length (first_of ys) ≡ n
first_size [] n e = absurd (nothing_there e)
first_size (y ∷ ys) n e = cc

both_sizes : (ys : List (List Rational)) (n m : ℕ) → map length ys ≡ n ∷ (m ∷ [])
    → (length (first_of ys) ≡ n) × (length (second_of ys) ≡ m)
both_sizes [] n m e = absurd (nothing_there e)
both_sizes (y ∷ []) n m e = absurd (nothing_there (second e))
  where
    second : length y ∷ [] ≡ n ∷ (m ∷ []) → [] ≡ m ∷ []
    second k = cc
both_sizes (y ∷ (z ∷ zs)) n m e = (cc, cc)

length-rest : (fs : List Function) → 1 ≤ length fs → suc (length (rest_of fs)) ≡ length fs
length-rest [] h = absurd (omega (arith, h))
length-rest (f ∷ fs) h = refl

-- lists of one number each
length-joined : (ys : List (List Rational)) (bodies : List Body)
    → map length ys ≡ map (λ b. 1) bodies → length (joined ys) ≡ length bodies
length-joined [] [] e = refl
length-joined [] (b ∷ bodies) e = absurd (nothing_there e)
length-joined (y ∷ ys) [] e = absurd (nothing_there (sym e))
length-joined (y ∷ ys) (b ∷ bodies) e =
    let first : length y ≡ 1 = cc in
    let rest : map length ys ≡ map (λ b. 1) bodies = cc in
    omega (arith, length-append y (joined ys), first, length-joined ys bodies rest)

-- ---- bodies

with_set_functions : (b : Body) (s : Set) → IsRowBody b
    → functions_of (with_set b s) ≡ functions_of b
with_set_functions (Group t vars) s h = absurd (true≢false h.no_group)
with_set_functions (Free vars) s h = absurd (true≢false h.no_group)
with_set_functions (PlainObj sense var) s h = absurd (true≢false h.no_objective)
with_set_functions (AffineObj sense func) s h = absurd (true≢false h.no_objective)
with_set_functions _ s h = refl

affine_size : (b : Body) → IsRowBody b → FitsItsFunction b
    → length (functions_of (affine (functions_of b) (set_of b))) ≡ length (functions_of b)
affine_size b h f = by (is_scalar (set_of b)) refl
  where
    by : (t : Bool) → is_scalar (set_of b) ≡ t
        → length (functions_of (cond t (Affine (first_in (functions_of b)) (set_of b))
        (AffineVec (functions_of b) (set_of b)))) ≡ length (functions_of b)
    by true e = sym (one_component b h f e)
    by false e = refl

-- the bodies of a vector's components
component_count : (b : Body) (s : Set) → IsRowBody b → FitsItsFunction b
    → is_scalar (set_of b) ≡ false
    → length (each_component b s) ≡ length (functions_of b)
component_count (Group t vars) s h f e = absurd (true≢false h.no_group)
component_count (Free vars) s h f e = absurd (true≢false h.no_group)
component_count (Plain var t) s h f e = absurd (true≢false (sym f ∙ e))
component_count (Affine func t) s h f e = absurd (true≢false (sym f ∙ e))
component_count (PlainVec vars t) s h f e =
    length-map vars (λ v. Plain v s) ∙ sym (length-map vars (variable {R = address_cmp}))
component_count (AffineVec funcs t) s h f e = length-map funcs (λ f. Affine f s)
component_count (PlainObj sense var) s h f e = absurd (true≢false h.no_objective)
component_count (AffineObj sense func) s h f e = absurd (true≢false h.no_objective)

-- rows of one number each
ones_of : {X : Type 0} (f : X → Body) → ((x : X) → length (functions_of (f x)) ≡ 1)
    → (item : Item) (low : ℕ) (xs : List X)
    → map (λ (row : Item). length (functions_of row.body)) (children_from item low (map f xs))
    ≡ map (λ c. 1) (map f xs)
ones_of f one item low [] = refl
ones_of f one item low (x ∷ xs) = ap₂ ◌∷◌ (one x) (ones_of f one item (low + 1) xs)

ones : (b : Body) (s : Set) → (item : Item) (low : ℕ)
    → map (λ (row : Item). length (functions_of row.body))
    (children_from item low (each_component b s))
    ≡ map (λ c. 1) (each_component b s)
ones (PlainVec vars t) s item low = ones_of (λ v. Plain v s) (λ v. refl) item low vars
ones (AffineVec funcs t) s item low = ones_of (λ f. Affine f s) (λ f. refl) item low funcs
ones _ s item low = refl

-- ---- by family

-- families that lead from numbers, and one that leads from vectors
abbrev pub is_of_numbers : Family → Bool
is_of_numbers family.GreaterLess = true
is_of_numbers family.Vectorize = true
is_of_numbers family.ScalarSlack = true
is_of_numbers _ = false

abbrev pub is_of_vectors : Family → Bool
is_of_vectors family.Scalarize = true
is_of_vectors _ = false

pub record IsRowFor (f : Family) (item : Item) : Type 0 where
  pub class : class_of_family f ≡ (false, false)
  pub row : IsRowBody item.body
  pub valid : IsValidItem item
  pub numbers : is_of_numbers f ≡ true → is_scalar_kind (kind_of_body item.body) ≡ true
  pub vectors : is_of_vectors f ≡ true → is_scalar_kind (kind_of_body item.body) ≡ false

one_number : (f : Family) (item : Item) → IsRowFor f item → is_of_numbers f ≡ true
    → length (functions_of item.body) ≡ 1
one_number f item h e =
    one_component item.body h.row h.valid.function
    (sym (scalar_set item.body h.row) ∙ h.numbers e)

abbrev pub row_size : Item → ℕ
row_size row = length (functions_of row.body)

not_here : {C : Type 0} {b : Bool} → ◌≡◌ {A = Bool × Bool} (true, b) (false, false) → C
not_here e = absurd (true≢false (ap (λ (p : Bool × Bool). p.0) e))

nor_here : {C : Type 0} {b : Bool} → ◌≡◌ {A = Bool × Bool} (b, true) (false, false) → C
nor_here e = absurd (true≢false (ap (λ (p : Bool × Bool). p.1) e))

inner_size : (item : Item) (n : ℕ) → length (inner_functions item n) ≡ n
inner_size item n =
    length-map (inner item n) (variable {R = address_cmp})
    ∙ length-components (child_of item.at 0) n

norm_infinity_size : (item : Item) (ys : List (List Rational)) (t : Function)
    → 1 ≤ length (functions_of item.body)
    → map length ys
    ≡ length (map (difference t) (rest_of (functions_of item.body))
    ++ map (sum_of t) (rest_of (functions_of item.body))) ∷ []
    → length (sum_from zero_ℚ (first_of ys) ∷ across (size item - 1) (first_of ys)) ≡ size item
norm_infinity_size item ys t some e =
    let xs = rest_of (functions_of item.body) in
    let n = length xs in
    let whole = length-rest (functions_of item.body) some in
    let less : size item - 1 ≡ n = omega (arith, whole) in
    let twice : length (first_of ys) ≡ n + n =
    first_size ys _ e ∙ omega (
      arith,
      length-append (map (difference t) xs) (map (sum_of t) xs),
      length-map xs (difference t),
      length-map xs (sum_of t),
    ) in
    let most = ap (λ k. length (across k (first_of ys))) less ∙ length-across n (first_of ys) twice
    in
    omega (arith, most, whole)

norm_one_size : (item : Item) (ys : List (List Rational)) (t : Function)
    → 1 ≤ length (functions_of item.body)
    → map length ys
    ≡ length (t ∷ differences (inner_functions item (length (rest_of (functions_of item.body))))
    (rest_of (functions_of item.body))
    ++ sums (inner_functions item (length (rest_of (functions_of item.body))))
    (rest_of (functions_of item.body))) ∷ []
    → length (head_of (first_of ys) ∷ across (size item - 1) (tail_of (first_of ys))) ≡ size item
norm_one_size item ys t some e =
    let xs = rest_of (functions_of item.body) in
    let n = length xs in
    let ss = inner_functions item n in
    let whole = length-rest (functions_of item.body) some in
    let less : size item - 1 ≡ n = omega (arith, whole) in
    let same : length ss ≡ length xs = inner_size item n in
    let all : length (first_of ys) ≡ suc (n + n) =
    first_size ys _ e ∙ omega (
      arith,
      length-append (t ∷ differences ss xs) (sums ss xs),
      length-differences ss xs same,
      length-sums ss xs same,
      same,
    ) in
    let twice = length-tail (first_of ys) (n + n) all in
    let most = ap (λ k. length (across k (tail_of (first_of ys)))) less
    ∙ length-across n (tail_of (first_of ys)) twice in
    omega (arith, most, whole)

pub back_size : (f : Family) (edge : Edge) (item : Item) → IsRowFor f item
    → (ys : List (List Rational)) → map length ys ≡ map row_size (image_by f edge item).rows
    → length (back_by f item ys) ≡ length (functions_of item.body)
unfolding image_by back_by
back_size family.GreaterLess edge item h ys e =
    length-negated (first_of ys) ∙ first_size ys 1 e
    ∙ sym (one_number family.GreaterLess item h refl)
back_size family.OrthantFlip edge item h ys e =
    length-negated (first_of ys) ∙ first_size ys _ e
    ∙ length-map (functions_of item.body) negated_function
back_size family.Vectorize edge item h ys e =
    first_size ys 1 e ∙ sym (one_number family.Vectorize item h refl)
back_size family.ScalarFunctionize edge item h ys e =
    first_size ys _ e ∙ affine_size item.body h.row h.valid.function
back_size family.VectorFunctionize edge item h ys e =
    first_size ys _ e ∙ affine_size item.body h.row h.valid.function
back_size family.ScalarSlack edge item h ys e =
    first_size ys 1 e ∙ sym (one_number family.ScalarSlack item h refl)
back_size family.VectorSlack edge item h ys e =
    first_size ys _ e
    ∙ length-differences (functions_of item.body) (inner_functions item (size item))
    (sym (inner_size item (size item)))
back_size family.SplitSet edge item h ys e =
    let sizes = both_sizes ys _ _ e in
    let first = ap length (with_set_functions item.body (lower_part (set_of item.body)) h.row) in
    let second = ap length (with_set_functions item.body (upper_part (set_of item.body)) h.row) in
    length-plus (first_of ys) (second_of ys) (sizes.0 ∙ first ∙ sym (sizes.1 ∙ second))
    ∙ sizes.1 ∙ second
back_size family.Scalarize edge item h ys e =
    let part = component_of (set_of item.body) in
    length-joined ys (each_component item.body part) (e ∙ ones item.body part item 0)
    ∙ component_count item.body part h.row h.valid.function
    (sym (scalar_set item.body h.row) ∙ h.vectors refl)
back_size family.DropReals edge item h ys e = length-replicate (size item) zero_ℚ
back_size family.NormInfinity edge item h ys e = norm_infinity_size item ys _ h.valid.some e
back_size family.NormOne edge item h ys e =
    norm_one_size item ys (variable {R = address_cmp} item.at) h.valid.some e
back_size family.NonposVar edge item h ys e = not_here h.class
back_size family.VectorizeVar edge item h ys e = not_here h.class
back_size family.ZerosVar edge item h ys e = not_here h.class
back_size family.FreeVar edge item h ys e = not_here h.class
back_size family.Later edge item h ys e = not_here h.class
back_size family.ObjFlip edge item h ys e = nor_here h.class
back_size family.ObjFunctionize edge item h ys e = nor_here h.class
back_size family.ObjSlack edge item h ys e = nor_here h.class

-- the positions of all child rows fit
pub few_rows : (f : Family) (edge : Edge) (item : Item) → IsValidItem item
    → length (image_by f edge item).groups + length (image_by f edge item).rows ≤ 2 ^ 16
few_rows f edge item h = omega (arith, fewer_rows f edge item h)
