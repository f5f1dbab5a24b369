-- What the calls that plan a node say, of the node.
use Rattle.std.specs.Prelude.{◌≡◌, ℕ, IsTrue, List, [], ◌∷◌, ◌++◌, All, length, map, slice_index_or, Result, Ok, Err}
use Rattle.std.proofs.Common.{ap, sym, subst, ◌∙◌}
use Rattle.std.specs.List.{list_all, zip}
use Rattle.ratio_core.specs.declared.fault.NumberFault.{NumberFault}
use Rattle.ratio_core.specs.declared.fault.NumberFault.TheVariants.{Memory, Overflow}
use Rattle.ratio_core.specs.Answers.{ExactWhere}
use Rattle.expansion.specs.Grown.{Held}
use Rattle.item_core.specs.declared.edge.Edge.{Edge}
use Rattle.item_core.specs.declared.image.Expression.{Expression}
use Rattle.item_core.specs.declared.image.Image.{Image}
use Rattle.item_core.specs.declared.item.Body.{Body}
use Rattle.item_core.specs.declared.item.Item.{Item}
use Rattle.item_core.specs.Item.{variables_of}
use Rattle.bridge_face.specs.ImageOf.{image_of}
use Rattle.bridge_face.specs.Law.{listed}
use Rattle.bridge_face.specs.declared.kept_item.KeptItem.{KeptItem}
use Rattle.fresh_bridging.specs.Entries.{Entry, expression_in, put_in, put_into, put_into_fits}
use Rattle.fresh_bridging.specs.TheRules.{edge_at, image_fits}
use Rattle.bridge_plan.specs.AddsHeld.{AddsHeld, kept_of}
use Rattle.bridge_plan.specs.Means.{Means}
use Rattle.bridge_plan.specs.Worked.{IsItemWithinLevels, Splits, worked, worked_each, worked_in}
use Rattle.bridge_plan.specs.declared.plan.Plan.{Plan}
use Rattle.bridge_plan.proofs.Nodes.{groups_held, needs_others, needs_outer, node, node_planned, others_held, others_within, placed}

module _ (first : Means) (n edge : ℕ) (item : Item) where
  abbrev pub below : Item → Held Item Entry
  below child = worked first.choice n child

  abbrev pub SplitsHere : Type 0
  SplitsHere = Splits first.choice (worked first.choice n) (IsItemWithinLevels first.choice n) edge item

  module _ (means : Means) (same : means ≡ first) (image : Image)
      (is : image ≡ image_of (edge_at edge) item) where
    -- the child groups are planned as the node's
    pub groups_said : worked_each means.choice (worked means.choice n) image.groups
        ≡ groups_held first.choice (worked first.choice n) edge item
    groups_said =
        ap (λ (m : Means). worked_each m.choice (worked m.choice n) image.groups) same
        ∙ ap (λ (i : Image). worked_each first.choice (worked first.choice n) i.groups) is

    module _ (others : List Item) (others_are : others ≡ image.rows ++ listed image.objective)
        (standing : List Entry) where
      listed_children : others
          ≡ (image_of (edge_at edge) item).rows ++ listed (image_of (edge_at edge) item).objective
      listed_children = others_are ∙ ap (λ (i : Image). i.rows ++ listed i.objective) is

      pub others_said : worked_in means.choice (worked means.choice n) standing others
          ≡ others_held first.choice (worked first.choice n) edge item standing
      others_said =
          ap (λ (m : Means). worked_in m.choice (worked m.choice n) standing others) same
          ∙ ap (worked_in first.choice (worked first.choice n) standing) listed_children

      pub others_ready : SplitsHere
          → expression_in standing
          ≡ expression_in (groups_held first.choice (worked first.choice n) edge item).entries
          → All (λ child. IsItemWithinLevels means.choice n (put_in standing child)) others
      others_ready h alike =
          subst (λ (m : Means). All (λ child. IsItemWithinLevels m.choice n (put_in standing child)) others)
          (sym same)
          (subst (All (λ child. IsItemWithinLevels first.choice n (put_in standing child)))
          (sym listed_children)
          (others_within first.choice (worked first.choice n) edge item standing alike h))

-- ---- the steps in turn

pub pushed_node : (nodes after : List KeptItem) (e : Edge) (edge : ℕ) (item : Item)
    → after ≡ nodes ++ record { edge = e; item = item } ∷ [] → e ≡ edge_at edge
    → after ≡ nodes ++ kept_of (edge, item) ∷ []
pushed_node nodes after e edge item pushed is =
    pushed ∙ ap (λ (x : Edge). nodes ++ record { edge = x; item = item } ∷ []) is

-- what is read at the node's place
pub node_read : (nodes one two three : List KeptItem) (x read : KeptItem)
    (groups others : List KeptItem) (place : ℕ) → one ≡ nodes ++ x ∷ [] → two ≡ one ++ groups
    → three ≡ two ++ others → place ≡ length nodes → read ≡ slice_index_or three place read
    → read ≡ x
node_read nodes one two three x read groups others place pushed first second at is =
    is ∙ ap (λ n. slice_index_or three n read) at
    ∙ placed nodes two three x groups others (first ∙ ap (λ l. l ++ groups) pushed) second read

module _ (first : Means) (n edge : ℕ) (item : Item) (image : Image)
    (is : image ≡ image_of (edge_at edge) item) (one_means : Means) (one_same : one_means ≡ first)
    (one two : Plan) (none inner standing : List Entry) (empty : none ≡ [])
    (groups : IsTrue (worked_each one_means.choice (worked one_means.choice n) image.groups).fits
    × AddsHeld one two none inner
    (worked_each one_means.choice (worked one_means.choice n) image.groups))
    (stands : expression_in standing ≡ expression_in inner) where
  abbrev Here : Held Item Entry → Type 0
  Here h = IsTrue h.fits × AddsHeld one two [] inner h

  groups_here : Here (groups_held first.choice (worked first.choice n) edge item)
  groups_here =
      subst Here (groups_said first n edge item one_means one_same image is) (
        groups.0,
        subst (λ l. AddsHeld one two l inner
            (worked_each one_means.choice (worked one_means.choice n) image.groups)) empty groups.1,
      )

  pub stands_alike : expression_in standing
      ≡ expression_in (groups_held first.choice (worked first.choice n) edge item).entries
  stands_alike = stands ∙ ap expression_in groups_here.1.entries

  module _ (two_means : Means) (two_same : two_means ≡ first) (others : List Item)
      (others_are : others ≡ image.rows ++ listed image.objective) where
    pub needs_further : IsTrue (node first.choice (worked first.choice n) edge item).fits
        → IsTrue (worked_in two_means.choice (worked two_means.choice n) standing others).fits
    needs_further t =
        ap (λ (h : Held Item Entry). h.fits)
        (others_said first n edge item two_means two_same image is others others_are standing)
        ∙ needs_others first.choice (worked first.choice n) edge item standing stands_alike t

    module _ (plan three : Plan) (es fs : List Entry) (fit : IsTrue (image_fits edge item))
        (leaves : one.leaves.items ≡ plan.leaves.items)
        (nodes : one.nodes.items ≡ plan.nodes.items ++ kept_of (edge, item) ∷ [])
        (further : IsTrue (worked_in two_means.choice (worked two_means.choice n) standing
        others).fits × AddsHeld two three [] []
        (worked_in two_means.choice (worked two_means.choice n) standing others)) where
      abbrev There : Held Item Entry → Type 0
      There h = IsTrue h.fits × AddsHeld two three [] [] h

      others_here : There (others_held first.choice (worked first.choice n) edge item standing)
      others_here =
          subst There (others_said first n edge item two_means two_same image is others
          others_are standing) further

      abbrev Said : {T : Type 0} → Result T NumberFault → List Entry → Body → List Expression
          → Type 0
      Said answer stand body exprs =
          ExactWhere answer (IsTrue (list_all (put_into_fits stand) exprs))
          (λ _. fs ≡ es ++ map (λ p. record { component = p.0; expression = put_into stand p.1 })
          (zip (variables_of body) exprs))

      by_answer : {T : Type 0} (r : Result T NumberFault)
          → Said r standing item.body (image_of (edge_at edge) item).exprs
          → ExactWhere r (IsTrue (node first.choice (worked first.choice n) edge item).fits)
          (λ _. AddsHeld plan three es fs (node first.choice (worked first.choice n) edge item))
      by_answer (Ok x) h =
          node_planned first.choice (worked first.choice n) edge item standing stands_alike fit
          leaves nodes groups_here.0 groups_here.1 others_here.0 others_here.1 h.0 h.1
      by_answer (Err Overflow) h =
          λ t. h (needs_outer first.choice (worked first.choice n) edge item standing
          stands_alike t)
      by_answer (Err Memory) h = tt

      pub node_answered : {T : Type 0} (answer : Result T NumberFault) (after : List Entry)
          (body : Body) (exprs : List Expression) → after ≡ standing → body ≡ item.body
          → exprs ≡ image.exprs → Said answer after body exprs
          → ExactWhere answer
          (IsTrue (node first.choice (worked first.choice n) edge item).fits)
          (λ _. AddsHeld plan three es fs (node first.choice (worked first.choice n) edge item))
      node_answered answer after body exprs kept body_is exprs_are said =
          by_answer answer
          (subst (λ s. Said answer s item.body (image_of (edge_at edge) item).exprs) kept
          (subst (λ b. Said answer after b (image_of (edge_at edge) item).exprs) body_is
          (subst (Said answer after body) (exprs_are ∙ ap (λ (i : Image). i.exprs) is) said)))
