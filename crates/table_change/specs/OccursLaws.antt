-- Each kind that an edge leads to is the kind of a child that it makes of an item.
use Rattle.std.specs.Prelude.{◌≡◌, ◌≤◌, ◌+◌, ◌&&◌, ◌||◌, ℕ, Bool, true, false, cond, not, List, [], ◌∷◌, All, Contains, Some, length, refl, slice_get}
use Rattle.std.specs.List.{list_all, list_any}
use Rattle.std.proofs.Common.{arith, ap, ap₂, sym, subst, ◌∙◌, true≢false}
use Rattle.std.proofs.lemmas.List.Elements.{All-contains, All-cons, All-head, All-nil, All-tail, Contains-append_left}
use Rattle.aff_core.specs.Address.{Address, child_of}
use Rattle.aff_core.specs.Function.{Function}
use Rattle.aff_core.specs.declared.sense.Sense.{Sense}
use Rattle.aff_core.specs.declared.sense.Sense.TheVariants.{Min, Max}
use Rattle.bridge_face.specs.ImageOf.{begins_free, beyond, free_at, group_at, image_by, image_of, inner, inner_functions, sense_of}
use Rattle.bridge_face.specs.BackOf.{size}
use Rattle.bridge_face.specs.Images.{affine, children_from, component_of, each_component, first_in, lower_part, plain, rest_of, upper_part, with_set}
use Rattle.bridge_face.specs.Law.{LeadsToKind, children}
use Rattle.fresh_bridging.specs.TableLaws.{and_first, and_second, equal_kind, is_group_kind}
use Rattle.fresh_bridging.specs.TheRules.{edge_at}
use Rattle.item_core.specs.Edge.{children_of, edge_entry, kinds_in}
use Rattle.item_core.specs.Item.{functions_of, set_of}
use Rattle.item_core.specs.Kind.{kind_eq}
use Rattle.item_core.specs.KindOf.{affine_kind_of, group_kind_of, kind_of_body, plain_kind_of}
use Rattle.item_core.specs.declared.edge.Children.{Children}
use Rattle.item_core.specs.declared.edge.Children.TheVariants as kinds
use Rattle.item_core.specs.declared.edge.Edge.{Edge}
use Rattle.item_core.specs.declared.edge.EdgeEntry.{EdgeEntry}
use Rattle.item_core.specs.declared.edge.TheConstants.{EDGES}
use Rattle.item_core.specs.declared.family.Family.{Family}
use Rattle.item_core.specs.declared.family.Family.TheVariants as family
use Rattle.item_core.specs.declared.item.Body.{Body}
use Rattle.item_core.specs.declared.item.Body.TheVariants.{Group, Free, Plain, Affine, PlainVec, AffineVec, PlainObj, AffineObj}
use Rattle.item_core.specs.declared.item.Item.{Item}
use Rattle.item_core.specs.declared.kind.Kind.{Kind}
use Rattle.item_core.specs.declared.kind.Kind.TheVariants as kind
use Rattle.item_core.specs.Valid.{FitsItsFunction, IsValidItem}
use Rattle.map_laws.specs.EachLaws.{all_at, contains_here, contains_later}
use Rattle.ratio_core.specs.Rational.{zero_ℚ}
use Rattle.set_core.specs.Shapes.{is_scalar}
use Rattle.set_core.specs.declared.set.Set.{Set}
use Rattle.set_core.specs.declared.set.Set.TheVariants as set

-- a child of the kind
abbrev pub Occurs : List Item → Kind → Type 0
Occurs items k = (i : Item) × Contains items i × (kind_of_body i.body ≡ k)

-- ---- kinds by what they are of

abbrev is_of_variables : Kind → Bool
is_of_variables k = is_group_kind k || kind_eq k kind.Free

abbrev is_of_objectives : Kind → Bool
is_of_objectives k =
    list_any (kind_eq k) (kind.MinPlain ∷ kind.MinAffine ∷ kind.MaxPlain ∷ kind.MaxAffine ∷ [])

-- of rows that are at most something
abbrev is_upper : Kind → Bool
is_upper k =
    list_any (kind_eq k)
    (kind.PlainLessThan ∷ kind.AffineLessThan ∷ kind.VplainNonpositives ∷ kind.VaffineNonpositives ∷ [])

abbrev is_split : Kind → Bool
is_split k =
    list_any (kind_eq k)
    (kind.PlainInterval ∷ kind.AffineInterval ∷ kind.PlainEqualTo ∷ kind.AffineEqualTo
    ∷ kind.VplainZeros ∷ kind.VaffineZeros ∷ [])

abbrev is_vector : Kind → Bool
is_vector k =
    list_any (kind_eq k)
    (kind.VplainZeros ∷ kind.VplainNonnegatives ∷ kind.VplainNonpositives ∷ kind.VaffineZeros
    ∷ kind.VaffineNonnegatives ∷ kind.VaffineNonpositives ∷ [])

group_of_variables : (s : Set) → is_of_variables (group_kind_of s) ≡ true
group_of_variables (set.LessThan u) = refl
group_of_variables _ = refl

plain_of_none : (s : Set) → (is_of_variables (plain_kind_of s) ≡ false)
    × (is_of_objectives (plain_kind_of s) ≡ false)
plain_of_none (set.LessThan u) = (refl, refl)
plain_of_none _ = (refl, refl)

affine_of_none : (s : Set) → (is_of_variables (affine_kind_of s) ≡ false)
    × (is_of_objectives (affine_kind_of s) ≡ false)
affine_of_none (set.LessThan u) = (refl, refl)
affine_of_none _ = (refl, refl)

-- ---- the shape of an entry, which tells its children apart

abbrev is_shaped : Family → Kind → Children → Bool
is_shaped family.ScalarSlack source (kinds.Two a b) = is_of_variables a && not (is_of_variables b)
is_shaped family.VectorSlack source (kinds.Two a b) = is_of_variables a && not (is_of_variables b)
is_shaped family.NormOne source (kinds.Two a b) = is_of_variables a && not (is_of_variables b)
is_shaped family.Later source (kinds.Two a b) = is_of_variables a && not (is_of_variables b)
is_shaped family.SplitSet source (kinds.Two a b) = is_split source && (not (is_upper a) && is_upper b)
is_shaped family.ObjSlack source (kinds.Three a b c) =
    (is_of_variables a && not (is_of_objectives a))
    && ((not (is_of_variables b) && not (is_of_objectives b))
    && (not (is_of_variables c) && is_of_objectives c))
is_shaped family.DropReals source kinds.None = true
is_shaped family.ZerosVar source kinds.None = true
is_shaped family.DropReals source _ = false
is_shaped family.ZerosVar source _ = false
is_shaped family.ScalarSlack source _ = false
is_shaped family.VectorSlack source _ = false
is_shaped family.NormOne source _ = false
is_shaped family.Later source _ = false
is_shaped family.SplitSet source _ = false
is_shaped family.ObjSlack source _ = false
is_shaped family.Scalarize source (kinds.One a) = is_vector source
is_shaped _ source (kinds.One a) = true
is_shaped _ source _ = false

all_shaped : list_all (λ (e : EdgeEntry). is_shaped e.family e.source e.children) EDGES ≡ true
all_shaped = refl

-- ---- the listed kind of a child

abbrev Leads : List Kind → Item → Type 0
Leads ks i = list_any (kind_eq (kind_of_body i.body)) ks ≡ true

-- where one kind alone passes a test, a kind that passes is that one
the_one : (test : Kind → Bool) (ks : List Kind) (k c : Kind) → list_any (kind_eq k) ks ≡ true
    → test k ≡ true → All (λ x. test x ≡ true → x ≡ c) ks → k ≡ c
the_one test [] k c listed t one = absurd (true≢false (sym listed))
the_one test (x ∷ xs) k c listed t one =
    by (kind_eq k x) refl listed
    (λ l. the_one test xs k c l t (All-tail (λ x. test x ≡ true → x ≡ c) x xs one))
  where
    by : (b : Bool) → kind_eq k x ≡ b → (b || list_any (kind_eq k) xs) ≡ true
        → (list_any (kind_eq k) xs ≡ true → k ≡ c) → k ≡ c
    by true same l later =
        let is = equal_kind k x same in
        is ∙ All-head (λ x. test x ≡ true → x ≡ c) x xs one (sym (ap test is) ∙ t)
    by false other l later = later l

fails : (test : Kind → Bool) (x c : Kind) → test x ≡ false → test x ≡ true → x ≡ c
fails test x c f t = absurd (true≢false (sym t ∙ f))

inverted : (b : Bool) → not b ≡ true → b ≡ false
inverted true e = absurd (true≢false (sym e))
inverted false e = refl

refuted : (b : Bool) → b ≡ false → not b ≡ true
refuted true e = absurd (true≢false e)
refuted false e = refl

one_kind : (a : Kind) (items : List Item) (c : Item) → Contains items c
    → All (Leads (a ∷ [])) items → All (Occurs items) (a ∷ [])
one_kind a items c inside leads =
    All-cons (Occurs items) a [] (
      c,
      inside,
      the_one (λ _. true) (a ∷ []) (kind_of_body c.body) a
          (All-contains (Leads (a ∷ [])) items c leads inside) refl
          (All-cons (λ x. true ≡ true → x ≡ a) a [] (λ _. refl) (All-nil (λ x. true ≡ true → x ≡ a))),
    ) (All-nil (Occurs items))

-- two children; the second passes a test
two_kinds : (test : Kind → Bool) (a b : Kind) (i j : Item) → test a ≡ false → test b ≡ true
    → test (kind_of_body i.body) ≡ false → test (kind_of_body j.body) ≡ true
    → All (Leads (a ∷ b ∷ [])) (i ∷ j ∷ []) → All (Occurs (i ∷ j ∷ [])) (a ∷ b ∷ [])
two_kinds test a b i j not_a is_b first second leads =
    All-cons (Occurs (i ∷ j ∷ [])) a (b ∷ []) (
      i,
      contains_here i (j ∷ []),
      the_one (λ k. not (test k)) (a ∷ b ∷ []) (kind_of_body i.body) a
          (All-head (Leads (a ∷ b ∷ [])) i (j ∷ []) leads) (refuted _ first)
          (All-cons (λ x. not (test x) ≡ true → x ≡ a) a (b ∷ []) (λ _. refl)
          (All-cons (λ x. not (test x) ≡ true → x ≡ a) b []
          (λ t. absurd (true≢false (sym is_b ∙ inverted (test b) t)))
          (All-nil (λ x. not (test x) ≡ true → x ≡ a)))),
    )
    (All-cons (Occurs (i ∷ j ∷ [])) b [] (
      j,
      contains_later i j (j ∷ []) (contains_here j []),
      the_one test (a ∷ b ∷ []) (kind_of_body j.body) b
          (All-head (Leads (a ∷ b ∷ [])) j [] (All-tail (Leads (a ∷ b ∷ [])) i (j ∷ []) leads)) second
          (All-cons (λ x. test x ≡ true → x ≡ b) a (b ∷ []) (fails test a b not_a)
          (All-cons (λ x. test x ≡ true → x ≡ b) b [] (λ _. refl)
          (All-nil (λ x. test x ≡ true → x ≡ b)))),
    ) (All-nil (Occurs (i ∷ j ∷ []))))

three_kinds : (a b c : Kind) (i j k : Item)
    → is_shaped family.ObjSlack a (kinds.Three a b c) ≡ true
    → is_of_variables (kind_of_body i.body) ≡ true
    → (is_of_variables (kind_of_body j.body) ≡ false)
    × (is_of_objectives (kind_of_body j.body) ≡ false)
    → is_of_objectives (kind_of_body k.body) ≡ true
    → All (Leads (a ∷ b ∷ c ∷ [])) (i ∷ j ∷ k ∷ [])
    → All (Occurs (i ∷ j ∷ k ∷ [])) (a ∷ b ∷ c ∷ [])
three_kinds a b c i j k told group row objective leads =
    let A = and_first (is_of_variables a && not (is_of_objectives a)) _ told in
    let B = and_first (not (is_of_variables b) && not (is_of_objectives b)) _
    (and_second (is_of_variables a && not (is_of_objectives a)) _ told) in
    let C = and_second (not (is_of_variables b) && not (is_of_objectives b)) _
    (and_second (is_of_variables a && not (is_of_objectives a)) _ told) in
    let neither : Kind → Bool = λ x. not (is_of_variables x) && not (is_of_objectives x) in
    let av = and_first (is_of_variables a) _ A in
    let ao = inverted (is_of_objectives a) (and_second (is_of_variables a) _ A) in
    let bv = inverted (is_of_variables b) (and_first (not (is_of_variables b)) _ B) in
    let bo = inverted (is_of_objectives b) (and_second (not (is_of_variables b)) _ B) in
    let cv = inverted (is_of_variables c) (and_first (not (is_of_variables c)) _ C) in
    let co = and_second (not (is_of_variables c)) _ C in
    let ks = a ∷ b ∷ c ∷ [] in
    let items = i ∷ j ∷ k ∷ [] in
    All-cons (Occurs items) a (b ∷ c ∷ []) (
      i,
      contains_here i (j ∷ k ∷ []),
      the_one is_of_variables ks (kind_of_body i.body) a (All-head (Leads ks) i (j ∷ k ∷ []) leads)
          group (each_of is_of_variables a (λ _. refl) (fails is_of_variables b a bv)
          (fails is_of_variables c a cv)),
    )
    (All-cons (Occurs items) b (c ∷ []) (
      j,
      contains_later i j (j ∷ k ∷ []) (contains_here j (k ∷ [])),
      the_one neither ks (kind_of_body j.body) b
          (All-head (Leads ks) j (k ∷ []) (All-tail (Leads ks) i (j ∷ k ∷ []) leads))
          (ap₂ (λ x y. not x && not y) row.0 row.1)
          (each_of neither b (fails neither a b (ap (λ x. not x && not (is_of_objectives a)) av))
          (λ _. refl)
          (fails neither c b (ap₂ (λ x y. not x && not y) cv co))),
    )
    (All-cons (Occurs items) c [] (
      k,
      contains_later i k (j ∷ k ∷ []) (contains_later j k (k ∷ []) (contains_here k [])),
      the_one is_of_objectives ks (kind_of_body k.body) c
          (All-head (Leads ks) k []
          (All-tail (Leads ks) j (k ∷ []) (All-tail (Leads ks) i (j ∷ k ∷ []) leads)))
          objective
          (each_of is_of_objectives c (fails is_of_objectives a c ao)
          (fails is_of_objectives b c bo) (λ _. refl)),
    ) (All-nil (Occurs items))))
  where
    each_of : (test : Kind → Bool) (x : Kind) → (test a ≡ true → a ≡ x) → (test b ≡ true → b ≡ x)
        → (test c ≡ true → c ≡ x) → All (λ y. test y ≡ true → y ≡ x) (a ∷ b ∷ c ∷ [])
    each_of test x f g h =
        All-cons (λ y. test y ≡ true → y ≡ x) a (b ∷ c ∷ []) f
        (All-cons (λ y. test y ≡ true → y ≡ x) b (c ∷ []) g
        (All-cons (λ y. test y ≡ true → y ≡ x) c [] h (All-nil (λ y. test y ≡ true → y ≡ x))))

-- ---- kinds of children

abbrev IsParted : (Set → Kind) → Set → Type 0
IsParted f s = (is_upper (f (lower_part s)) ≡ false) × (is_upper (f (upper_part s)) ≡ true)

plain_parted : (s : Set) → is_split (plain_kind_of s) ≡ true → IsParted plain_kind_of s
plain_parted (set.Interval l u) t = (refl, refl)
plain_parted (set.EqualTo v) t = (refl, refl)
plain_parted (set.Zeros n) t = (refl, refl)
plain_parted _ t = absurd (true≢false (sym t))

affine_parted : (s : Set) → is_split (affine_kind_of s) ≡ true → IsParted affine_kind_of s
affine_parted (set.Interval l u) t = (refl, refl)
affine_parted (set.EqualTo v) t = (refl, refl)
affine_parted (set.Zeros n) t = (refl, refl)
affine_parted _ t = absurd (true≢false (sym t))

no_split_group : (s : Set) → is_split (group_kind_of s) ≡ false
no_split_group (set.LessThan u) = refl
no_split_group _ = refl

parted : (b : Body) → is_split (kind_of_body b) ≡ true
    → (is_upper (kind_of_body (with_set b (lower_part (set_of b)))) ≡ false)
    × (is_upper (kind_of_body (with_set b (upper_part (set_of b)))) ≡ true)
unfolding kind_of_body
parted (Plain v s) t = plain_parted s t
parted (Affine f s) t = affine_parted s t
parted (PlainVec vs s) t = plain_parted s t
parted (AffineVec fs s) t = affine_parted s t
parted (Group s vs) t = absurd (true≢false (sym t ∙ no_split_group s))
parted (Free vs) t = absurd (true≢false (sym t))
parted (PlainObj Min v) t = absurd (true≢false (sym t))
parted (PlainObj Max v) t = absurd (true≢false (sym t))
parted (AffineObj Min f) t = absurd (true≢false (sym t))
parted (AffineObj Max f) t = absurd (true≢false (sym t))

no_plain_vector : (s : Set) → is_scalar s ≡ true → is_vector (plain_kind_of s) ≡ false
no_plain_vector (set.LessThan u) t = refl
no_plain_vector (set.GreaterThan u) t = refl
no_plain_vector (set.EqualTo u) t = refl
no_plain_vector (set.Interval l u) t = refl
no_plain_vector _ t = absurd (true≢false (sym t))

no_affine_vector : (s : Set) → is_scalar s ≡ true → is_vector (affine_kind_of s) ≡ false
no_affine_vector (set.LessThan u) t = refl
no_affine_vector (set.GreaterThan u) t = refl
no_affine_vector (set.EqualTo u) t = refl
no_affine_vector (set.Interval l u) t = refl
no_affine_vector _ t = absurd (true≢false (sym t))

no_group_vector : (s : Set) → is_vector (group_kind_of s) ≡ false
no_group_vector (set.LessThan u) = refl
no_group_vector _ = refl

-- a vector has a first component
has_component : (item : Item) (part : Set) → FitsItsFunction item.body
    → 1 ≤ length (functions_of item.body) → is_vector (kind_of_body item.body) ≡ true
    → (c : Item) × Contains (children_from item 0 (each_component item.body part)) c
unfolding kind_of_body
has_component item part fits some t = by item.body fits some t
  where
    by : (b : Body) → FitsItsFunction b → 1 ≤ length (functions_of b)
        → is_vector (kind_of_body b) ≡ true
        → (c : Item) × Contains (children_from item 0 (each_component b part)) c
    by (PlainVec [] s) fits some t = absurd (omega (arith, some))
    by (PlainVec (v ∷ vs) s) fits some t = (_, contains_here _ _)
    by (AffineVec [] s) fits some t = absurd (omega (arith, some))
    by (AffineVec (f ∷ fs) s) fits some t = (_, contains_here _ _)
    by (Plain v s) fits some t = absurd (true≢false (sym t ∙ no_plain_vector s fits))
    by (Affine f s) fits some t = absurd (true≢false (sym t ∙ no_affine_vector s fits))
    by (Group s vs) fits some t = absurd (true≢false (sym t ∙ no_group_vector s))
    by (Free vs) fits some t = absurd (true≢false (sym t))
    by (PlainObj Min v) fits some t = absurd (true≢false (sym t))
    by (PlainObj Max v) fits some t = absurd (true≢false (sym t))
    by (AffineObj Min f) fits some t = absurd (true≢false (sym t))
    by (AffineObj Max f) fits some t = absurd (true≢false (sym t))

plain_kind : (vs : List Address) (s : Set) → kind_of_body (plain vs s) ≡ plain_kind_of s
unfolding kind_of_body
plain_kind [] s = refl
plain_kind (v ∷ vs) s = by (is_scalar s)
  where
    by : (b : Bool) → kind_of_body (cond b (Plain v s) (PlainVec (v ∷ vs) s)) ≡ plain_kind_of s
    by true = refl
    by false = refl

affine_kind : (fs : List Function) (s : Set) → kind_of_body (affine fs s) ≡ affine_kind_of s
unfolding kind_of_body
affine_kind fs s = by (is_scalar s)
  where
    by : (b : Bool)
        → kind_of_body (cond b (Affine (first_in fs) s) (AffineVec fs s)) ≡ affine_kind_of s
    by true = refl
    by false = refl

later_group : (free : Bool) (item : Item) (n : ℕ)
    → is_of_variables (kind_of_body (cond free (free_at item n) (group_at item (set.Reals n) n)).body)
    ≡ true
unfolding kind_of_body
later_group true item n = refl
later_group false item n = refl

later_row : (free : Bool) (vs : List Address) (fs : List Function) (s : Set)
    → is_of_variables (kind_of_body (cond free (plain vs s) (affine fs s))) ≡ false
later_row true vs fs s = ap is_of_variables (plain_kind vs s) ∙ (plain_of_none s).0
later_row false vs fs s = ap is_of_variables (affine_kind fs s) ∙ (affine_of_none s).0

objective_kind : (sense : Sense) (v : Address)
    → is_of_objectives (kind_of_body (PlainObj sense v)) ≡ true
unfolding kind_of_body
objective_kind Min v = refl
objective_kind Max v = refl

-- ---- by the families

abbrev Listed : Family → Edge → Item → Children → Type 0
Listed f edge item ch = All (Leads (kinds_in ch)) (children (image_by f edge item))

abbrev Occur : Family → Edge → Item → Children → Type 0
Occur f edge item ch = All (Occurs (children (image_by f edge item))) (kinds_in ch)

-- ---- lists of children

abbrev has_some : List Item → Bool
has_some [] = false
has_some (i ∷ items) = true

one_of : (a : Kind) (items : List Item) → has_some items ≡ true → All (Leads (a ∷ [])) items
    → All (Occurs items) (a ∷ [])
one_of a [] some leads = absurd (true≢false (sym some))
one_of a (i ∷ items) some leads = one_kind a (i ∷ items) i (contains_here i items) leads

-- of two the second passes
abbrev AreTwo : (Kind → Bool) → List Item → Type 0
AreTwo test (i ∷ j ∷ []) =
    (test (kind_of_body i.body) ≡ false) × (test (kind_of_body j.body) ≡ true)
AreTwo test _ = ⊥

two_of : (test : Kind → Bool) (a b : Kind) (items : List Item) → test a ≡ false → test b ≡ true
    → AreTwo test items → All (Leads (a ∷ b ∷ [])) items → All (Occurs items) (a ∷ b ∷ [])
two_of test a b [] f t are leads = absurd are
two_of test a b (i ∷ []) f t are leads = absurd are
two_of test a b (i ∷ j ∷ []) f t are leads = two_kinds test a b i j f t are.0 are.1 leads
two_of test a b (i ∷ j ∷ k ∷ items) f t are leads = absurd are

-- a group and a row
abbrev is_of_rows : Kind → Bool
is_of_rows k = not (is_of_variables k)

variables_first : (a b : Kind) (items : List Item)
    → (is_of_variables a && not (is_of_variables b)) ≡ true → AreTwo is_of_rows items
    → All (Leads (a ∷ b ∷ [])) items → All (Occurs items) (a ∷ b ∷ [])
variables_first a b items told are leads =
    two_of is_of_rows a b items (ap not (and_first (is_of_variables a) _ told))
    (and_second (is_of_variables a) _ told) are leads

-- a group, a row and an objective
abbrev AreThree : List Item → Type 0
AreThree (i ∷ j ∷ k ∷ []) =
    (is_of_variables (kind_of_body i.body) ≡ true)
    × ((is_of_variables (kind_of_body j.body) ≡ false)
    × (is_of_objectives (kind_of_body j.body) ≡ false))
    × (is_of_objectives (kind_of_body k.body) ≡ true)
AreThree _ = ⊥

three_of : (a b c : Kind) (items : List Item)
    → is_shaped family.ObjSlack a (kinds.Three a b c) ≡ true → AreThree items
    → All (Leads (a ∷ b ∷ c ∷ [])) items → All (Occurs items) (a ∷ b ∷ c ∷ [])
three_of a b c [] told are leads = absurd are
three_of a b c (i ∷ []) told are leads = absurd are
three_of a b c (i ∷ j ∷ []) told are leads = absurd are
three_of a b c (i ∷ j ∷ k ∷ []) told are leads =
    three_kinds a b c i j k told are.0 are.1 are.2 leads
three_of a b c (i ∷ j ∷ k ∷ l ∷ items) told are leads = absurd are

occurs_by : (f : Family) (edge : Edge) (item : Item) (source : Kind) (ch : Children)
    → is_shaped f source ch ≡ true → kind_of_body item.body ≡ source → IsValidItem item
    → Listed f edge item ch → Occur f edge item ch
unfolding image_by kind_of_body
occurs_by family.DropReals edge item source kinds.None told is valid leads =
    All-nil (Occurs (children (image_by family.DropReals edge item)))
occurs_by family.ZerosVar edge item source kinds.None told is valid leads =
    All-nil (Occurs (children (image_by family.ZerosVar edge item)))
occurs_by family.GreaterLess edge item source (kinds.One a) told is valid leads =
    one_of a (children (image_by family.GreaterLess edge item)) refl leads
occurs_by family.OrthantFlip edge item source (kinds.One a) told is valid leads =
    one_of a (children (image_by family.OrthantFlip edge item)) refl leads
occurs_by family.NonposVar edge item source (kinds.One a) told is valid leads =
    one_of a (children (image_by family.NonposVar edge item)) refl leads
occurs_by family.ObjFlip edge item source (kinds.One a) told is valid leads =
    one_of a (children (image_by family.ObjFlip edge item)) refl leads
occurs_by family.Vectorize edge item source (kinds.One a) told is valid leads =
    one_of a (children (image_by family.Vectorize edge item)) refl leads
occurs_by family.ScalarFunctionize edge item source (kinds.One a) told is valid leads =
    one_of a (children (image_by family.ScalarFunctionize edge item)) refl leads
occurs_by family.VectorFunctionize edge item source (kinds.One a) told is valid leads =
    one_of a (children (image_by family.VectorFunctionize edge item)) refl leads
occurs_by family.VectorizeVar edge item source (kinds.One a) told is valid leads =
    one_of a (children (image_by family.VectorizeVar edge item)) refl leads
occurs_by family.ObjFunctionize edge item source (kinds.One a) told is valid leads =
    one_of a (children (image_by family.ObjFunctionize edge item)) refl leads
occurs_by family.FreeVar edge item source (kinds.One a) told is valid leads =
    one_of a (children (image_by family.FreeVar edge item)) refl leads
occurs_by family.NormInfinity edge item source (kinds.One a) told is valid leads =
    one_of a (children (image_by family.NormInfinity edge item)) refl leads
occurs_by family.Scalarize edge item source (kinds.One a) told is valid leads =
    let first = has_component item (component_of (set_of item.body)) valid.function valid.some
    (ap is_vector is ∙ told) in
    one_kind a (children (image_by family.Scalarize edge item)) first.0
    (Contains-append_left
    (children_from item 0 (each_component item.body (component_of (set_of item.body)))) [] first.0
    first.1) leads
occurs_by family.ScalarSlack edge item source (kinds.Two a b) told is valid leads =
    variables_first a b (children (image_by family.ScalarSlack edge item)) told (
      ap not (group_of_variables (set_of item.body)),
      ap not (affine_of_none (set.EqualTo zero_ℚ)).0,
    ) leads
occurs_by family.VectorSlack edge item source (kinds.Two a b) told is valid leads =
    variables_first a b (children (image_by family.VectorSlack edge item)) told (
      ap not (group_of_variables (set_of item.body)),
      ap not (affine_of_none (set.Zeros (size item))).0,
    ) leads
occurs_by family.NormOne edge item source (kinds.Two a b) told is valid leads =
    let n = length (rest_of (functions_of item.body)) in
    variables_first a b (children (image_by family.NormOne edge item)) told (
      ap not (group_of_variables (set.Reals n)),
      ap not (affine_of_none (set.Nonnegatives (n + n + 1))).0,
    ) leads
occurs_by family.Later edge item source (kinds.Two a b) told is valid leads =
    let free = begins_free (children_of edge) in
    let d = size item in
    variables_first a b (children (image_by family.Later edge item)) told (
      ap not (later_group free item d),
      ap not (later_row free (inner item d) (inner_functions item d) (set_of item.body)),
    ) leads
occurs_by family.SplitSet edge item source (kinds.Two a b) told is valid leads =
    let parts = parted item.body (ap is_split is ∙ and_first (is_split source) _ told) in
    let both = and_second (is_split source) _ told in
    two_of is_upper a b (children (image_by family.SplitSet edge item))
    (inverted (is_upper a) (and_first (not (is_upper a)) _ both))
    (and_second (not (is_upper a)) _ both) parts leads
occurs_by family.ObjSlack edge item source (kinds.Three a b c) told is valid leads =
    three_of a b c (children (image_by family.ObjSlack edge item)) told (
      refl,
      affine_of_none (beyond (sense_of item.body)),
      objective_kind (sense_of item.body) (child_of (child_of item.at 0) 0),
    ) leads
occurs_by _ edge item source _ told is valid leads = absurd (true≢false (sym told))

-- ---- so at each number of an edge

pub occurs : (n : ℕ) (entry : EdgeEntry) → slice_get EDGES n ≡ Some entry
    → edge_entry (edge_at n) ≡ entry → (item : Item) → kind_of_body item.body ≡ entry.source
    → IsValidItem item
    → All (λ c. LeadsToKind (edge_at n) c.body) (children (image_of (edge_at n) item))
    → All (Occurs (children (image_of (edge_at n) item))) (children_of (edge_at n))
occurs n entry here same item is valid leads =
    let this = edge_entry (edge_at n) in
    occurs_by this.family (edge_at n) item this.source this.children
    (subst (λ (e : EdgeEntry). is_shaped e.family e.source e.children ≡ true) (sym same)
    (all_at (λ (e : EdgeEntry). is_shaped e.family e.source e.children) EDGES n entry all_shaped here))
    (is ∙ ap (λ (e : EdgeEntry). e.source) (sym same)) valid leads
