-- The objective, which has an address but no index: set, set at another address, or taken away.
use Rattle.std.specs.Prelude.{not, Bool, true, false, MatchBool, ◌≡◌, ◌≢◌, ℕ, ◌≤◌, ◌-◌, ◌^◌, List, [], ◌∷◌, All, IfSome, IsSome, Option, Some, None, length, refl}
use Rattle.std.specs.FinMap as finite
use Rattle.std.specs.FinMap.{FinMap}
use Rattle.std.specs.Option.{option_map, option_map_or}
use Rattle.std.proofs.Common.{true≢false, arith, sym, ◌∙◌, ap, subst}
use Rattle.std.proofs.lemmas.List.Elements.{All-head}
use Rattle.std.proofs.lemmas.Option.{none-some, same_Some}
use Rattle.address_map.specs.AddressMap.{AddressMap}
use Rattle.address_map.specs.Places.{AreIndicesOneToOne, Indices}
use Rattle.aff_core.specs.Address.{Address, address_cmp, address_eq, address_eq-Decides, address_total, exact_addresses}
use Rattle.aff_core.specs.KeyOrder.{address_order, same_or_other}
use Rattle.item_core.specs.declared.item.Body.{Body}
use Rattle.leaf_update.specs.Named.{NamesEach, ObjectiveNames}
use Rattle.leaf_update.specs.Puts.{objective_at}
use Rattle.leaf_model.specs.LeafModel.{Differ, IsCountOf}
use Rattle.leaf_model.specs.ReadThrough.{read_objective, read_through}
use Rattle.map_laws.specs.EachLaws.{cons_head}
use Rattle.map_laws.specs.OptionLaws.{not_some}
use Rattle.solver_store.specs.SolverModel.{Leaves, with_objective}
use Rattle.solver_store.specs.declared.leaf.LeafObjective.{LeafObjective}
use Rattle.leaf_update.specs.Steps.{CallsAtMost}
use Rattle.leaf_update.proofs.Counted.{counts_none}
use Rattle.leaf_update.proofs.SameLaws.{objective_read}
use Rattle.leaf_update.specs.Splice.{spliced, without_all}
use Rattle.leaf_update.specs.SplicedLaws.{get_beside, get_gone, get_past, get_put}
use Rattle.leaf_update.proofs.VariableSteps.{gone_counts, one_call, set_counts}
use Rattle.leaf_update.specs.Objective.{CanChange, ChangesObjective, HasOneAddress, SetsObjective, no_body, objective_held, objective_in, only}

pub read_objective_is : (map : AddressMap) (leaves : Leaves) (at : Address)
    → (read_through map leaves at).objective ≡ objective_held at (objective_in map leaves)
read_objective_is map leaves at = by leaves.objective
  where
    by : (o : Option LeafObjective)
        → option_map_or (λ o. finite.insert no_body at (read_objective map.vars.indices o)) o
        no_body
        ≡ objective_held at (option_map (read_objective map.vars.indices) o)
    by None = refl
    by (Some o) = refl

get_empty : (q : Address) → finite.get no_body q ≡ None
get_empty q = finite.get-empty address_cmp q

-- ---- maps of one

remove_empty : (at : Address) → finite.remove no_body at ≡ no_body
remove_empty at = finite.same_map address_total exact_addresses _ _ (λ q.
    same_or_other address_order _ q at
    (λ e. ap (finite.get (finite.remove no_body at)) e ∙ get_gone address_order no_body at
    ∙ sym (get_empty q))
    (λ n. get_beside address_order no_body at q n))

without_none : (gone : List Address) → without_all no_body gone ≡ no_body
without_none [] = refl
without_none (at ∷ gone) = ap (λ m. without_all m gone) (remove_empty at) ∙ without_none gone

remove_one : (at : Address) (b : Body)
    → finite.remove (finite.insert no_body at b) at ≡ no_body
remove_one at b = finite.same_map address_total exact_addresses _ _ (λ q.
    same_or_other address_order _ q at
    (λ e. ap (finite.get (finite.remove (finite.insert no_body at b) at)) e
    ∙ get_gone address_order (finite.insert no_body at b) at ∙ sym (get_empty q))
    (λ n. get_beside address_order (finite.insert no_body at b) at q n
    ∙ get_past address_order no_body at b q n))

-- what stands in a map of one stands at its address
one_there : (at : Address) (b : Body) (q : Address)
    → IsSome (finite.get (finite.insert no_body at b) q) → q ≡ at
one_there at b q h = same_or_other address_order _ q at (λ e. e)
    (λ n. absurd (not_some _ (get_past address_order no_body at b q n ∙ get_empty q) h))

-- a map with at most one is the map of what is known to stand there
is_one : (m : FinMap address_cmp Body) (p : Address) (b : Body) → HasOneAddress m
    → finite.get m p ≡ Some b → m ≡ finite.insert no_body p b
is_one m p b one here = finite.same_map address_total exact_addresses _ _ (λ q.
    same_or_other address_order _ q p
    (λ e. ap (finite.get m) e ∙ here
    ∙ sym (ap (finite.get (finite.insert no_body p b)) e
    ∙ get_put address_order no_body p b))
    (λ n. none_at q n (finite.get m q) refl
    ∙ sym (get_past address_order no_body p b q n ∙ get_empty q)))
  where
    none_at : (q : Address) → ¬ (q ≡ p) → (o : Option Body) → finite.get m q ≡ o
        → finite.get m q ≡ None
    none_at q n None e = e
    none_at q n (Some x) e = absurd (n (one q p x b e here))

-- ---- what the step is to say

module _ (map : AddressMap) (leaves : Leaves) (names : NamesEach map leaves) (at : Address) where
  abbrev held : FinMap address_cmp Body
  held = (read_through map leaves at).objective

  -- ---- it stays

  pub objective_stays : ChangesObjective map leaves at [] [] 0 leaves at
  objective_stays = record {
    named = names;
    vars = refl;
    rows = refl;
    spliced_is = refl;
    counts = counts_none held;
    calls = record { rises = omega arith; bound = omega arith };
  }

  -- ---- it is taken away

  named_with : (after : Leaves) (o : Option LeafObjective) → after ≡ with_objective leaves o
      → IfSome o (ObjectiveNames map.vars.indices) → NamesEach map after
  named_with after o is own =
      subst (NamesEach map) (sym is) (record {
        vars = names.vars;
        rows = names.rows;
        each_row = names.each_row;
        objective = own;
      })

  none_left : (gone : List Address) (o : Option Body) → objective_held at o ≡ held
      → ¬ (gone ≡ [])
      → All (λ q. IsSome (finite.get held q)) gone
      → (b : Body) × (o ≡ Some b) × (without_all held gone ≡ no_body)
  none_left [] o e n there = absurd (n refl)
  none_left (g ∷ gone) None e n there =
      absurd (not_some (finite.get held g) (ap (λ m. finite.get m g) (sym e) ∙ get_empty g)
      (All-head (λ q. IsSome (finite.get held q)) g gone there))
  none_left (g ∷ gone) (Some b) e n there = (
    b,
    refl,
    ap (λ (p : FinMap address_cmp Body × Address). without_all (finite.remove p.0 p.1) gone)
        (λ i. (
          sym e i,
          one_there at b g
              (subst (λ m. IsSome (finite.get m g)) (sym e)
              (All-head (λ q. IsSome (finite.get held q)) g gone there)) i,
        ))
        ∙ ap (λ m. without_all m gone) (remove_one at b) ∙ without_none gone,
  )

  module _ (few : leaves.calls ≤ 2 ^ 64 - 1) (after : Leaves) where
    call : (o : Option LeafObjective) → after ≡ with_objective leaves o → (n : ℕ) → 1 ≤ n
        → CallsAtMost leaves after n
    call o is n h =
        let c = one_call leaves.calls after.calls few (ap (λ l. l.calls) is) in
        record { rises = c.0; bound = omega (arith, c.1, h) }

    pub objective_dropped : (gone : List Address) → ¬ (gone ≡ [])
        → CanChange held gone [] → after ≡ with_objective leaves None
        → ChangesObjective map leaves at gone [] 1 after at
    objective_dropped gone some can is =
        let left = none_left gone (objective_in map leaves) (sym (read_objective_is map leaves at))
        some can.there in
        let now : (read_through map after at).objective ≡ no_body =
        ap (λ (l : Leaves). (read_through map l at).objective) is in
        let was : held ≡ finite.insert no_body at left.0 =
        read_objective_is map leaves at ∙ ap (objective_held at) left.1 in
        record {
          named = named_with after None is tt;
          vars = ap (λ l. l.vars) is;
          rows = ap (λ l. l.rows) is;
          spliced_is = now ∙ sym left.2;
          counts = subst (λ m. IsCountOf (Differ held m) 1) (sym now)
              (gone_counts held at left.0 no_body
              (sym (ap (λ m. finite.remove m at) was ∙ remove_one at left.0))
              (ap (λ m. finite.get m at) was ∙ get_put address_order no_body at left.0)
              held refl 0 (counts_none held));
          calls = call None is 1 (omega arith);
        }

  -- in the place of what goes
  pub objective_changes : (gone : List Address) (p : Address) (body : Body) (n : ℕ) (after : Leaves)
      (at_after : Address) → CanChange held gone ((p, body) ∷ [])
      → SetsObjective map leaves at p body n after at_after
      → ChangesObjective map leaves at gone ((p, body) ∷ []) n after at_after
  objective_changes gone p body n after at_after can step = record {
    named = step.named;
    vars = step.vars;
    rows = step.rows;
    spliced_is = step.set
        ∙ sym (is_one (spliced held gone ((p, body) ∷ [])) p body can.one
        (get_put address_order (without_all held gone) p body));
    counts = step.counts;
    calls = step.calls;
  }

-- ---- how many addresses differ

module _ (at p : Address) (body : Body) where
  abbrev here : FinMap address_cmp Body
  here = only p body

  pub one_new : (h : FinMap address_cmp Body) → h ≡ objective_held at None
      → IsCountOf (Differ h here) 1
  one_new h e =
      subst (λ m. IsCountOf (Differ m here) 1) (sym e)
      (set_counts no_body p body here refl (λ k. none-some body (sym (get_empty p) ∙ k))
      no_body refl 0 (counts_none no_body))

  pub one_other : (h : FinMap address_cmp Body) (b : Body) → h ≡ objective_held at (Some b)
      → p ≡ at → ¬ (b ≡ body) → IsCountOf (Differ h here) 1
  one_other h b e same other =
      subst (λ m. IsCountOf (Differ m here) 1) (sym e)
      (set_counts (finite.insert no_body at b) p body here again
      (λ k. other (same_Some b body (sym (get_put address_order no_body at b)
      ∙ ap (finite.get (finite.insert no_body at b)) (sym same) ∙ k)))
      (finite.insert no_body at b) refl 0 (counts_none (finite.insert no_body at b)))
    where
      again : here ≡ finite.insert (finite.insert no_body at b) p body
      again = finite.same_map address_total exact_addresses _ _ (λ q.
          same_or_other address_order _ q p
          (λ s. ap (finite.get here) s ∙ get_put address_order no_body p body
          ∙ sym (ap (finite.get (finite.insert (finite.insert no_body at b) p body)) s
          ∙ get_put address_order (finite.insert no_body at b) p body))
          (λ n. get_past address_order no_body p body q n
          ∙ sym (get_past address_order (finite.insert no_body at b) p body q n
          ∙ get_past address_order no_body at b q (λ s. n (s ∙ sym same)))))

  pub two_other : (h : FinMap address_cmp Body) (b : Body) → h ≡ objective_held at (Some b)
      → ¬ (p ≡ at) → IsCountOf (Differ h here) 2
  two_other h b e apart =
      subst (λ m. IsCountOf (Differ m here) 2) (sym e)
      (set_counts no_body p body here refl (λ k. none-some body (sym (get_empty p) ∙ k))
      (finite.insert no_body at b)
      (sym (get_past address_order no_body at b p apart)) 1
      (gone_counts (finite.insert no_body at b) at b no_body (sym (remove_one at b))
      (get_put address_order no_body at b) (finite.insert no_body at b) refl 0
      (counts_none (finite.insert no_body at b))))

-- ---- the objective among leaves

pub alone_of : {X : Type 0} (e : X) (es : List X) → length (e ∷ es) ≤ 1 → e ∷ es ≡ e ∷ []
alone_of e [] h = refl
alone_of e (f ∷ es) h = absurd (omega (arith, h))

-- the objective that is held, tested against one that is made of a leaf
module _ (map : AddressMap) (leaves : Leaves) (names : NamesEach map leaves)
    (one : AreIndicesOneToOne map.vars.indices) (held made : LeafObjective) (body : Body)
    (there : leaves.objective ≡ Some held) (own : ObjectiveNames map.vars.indices made)
    (reads : read_objective map.vars.indices made ≡ body) (r : Bool)
    (test : MatchBool r (held ≡ made) (held ≢ made)) where
  tested : MatchBool r (read_objective map.vars.indices held ≡ body)
      (read_objective map.vars.indices held ≢ body)
  tested =
      subst (λ b. MatchBool r (read_objective map.vars.indices held ≡ b)
      (read_objective map.vars.indices held ≢ b)) reads
      (objective_read map.vars.indices one held made
      (subst (λ o. IfSome o (ObjectiveNames map.vars.indices)) there names.objective) own r test)

  pub same_read : r ≡ true → read_objective map.vars.indices held ≡ body
  same_read t =
      subst (λ b. MatchBool b (read_objective map.vars.indices held ≡ body)
      (read_objective map.vars.indices held ≢ body)) t tested

  pub other_read : r ≡ false → read_objective map.vars.indices held ≢ body
  other_read f =
      subst (λ b. MatchBool b (read_objective map.vars.indices held ≡ body)
      (read_objective map.vars.indices held ≢ body)) f tested

-- the objective that is made of a leaf is read as the leaf's body
pub objective_body : (indices : Indices) (at : Address) (body : Body) (o : Option LeafObjective)
    (objective : LeafObjective) (es : List (Address × Body)) → objective_at indices at o ≡ es
    → es ≡ (at, body) ∷ [] → o ≡ Some objective → read_objective indices objective ≡ body
objective_body indices at body o objective es made is some =
    ap (λ (p : Address × Body). p.1)
    (cons_head (at, read_objective indices objective) (at, body) [] []
    (subst (λ p. objective_at indices at p ≡ es) some made ∙ is))

pub objective_own : (P : LeafObjective → Type 0) (o : Option LeafObjective) (x : LeafObjective)
    → o ≡ Some x → IfSome o P → P x
objective_own P o x is h = subst (λ p. IfSome p P) is h

pub other_from_test : (a b : Address) (r : Bool) → r ≡ not (address_eq a b) → r ≡ true → ¬ (a ≡ b)
other_from_test a b r is t e =
    true≢false (sym t ∙ is ∙ ap not ((address_eq-Decides a b).1 e))

pub same_from_test : (a b : Address) (r : Bool) → r ≡ not (address_eq a b) → r ≡ false → a ≡ b
same_from_test a b r is f = (address_eq-Decides a b).0 (by (address_eq a b) refl)
  where
    by : (t : Bool) → address_eq a b ≡ t → t ≡ true
    by true k = refl
    by false k = absurd (true≢false (sym (ap not k) ∙ sym is ∙ f))

-- the objective by what is held
module _ (map : AddressMap) (leaves : Leaves) (at : Address) where
  pub held_none : leaves.objective ≡ None
      → (read_through map leaves at).objective ≡ objective_held at None
  held_none e = read_objective_is map leaves at
      ∙ ap (λ o. objective_held at (option_map (read_objective map.vars.indices) o)) e

  pub held_some : (o : LeafObjective) → leaves.objective ≡ Some o
      → (read_through map leaves at).objective
      ≡ objective_held at (Some (read_objective map.vars.indices o))
  held_some o e = read_objective_is map leaves at
      ∙ ap (λ o. objective_held at (option_map (read_objective map.vars.indices) o)) e

  pub held_same : (o : LeafObjective) (p : Address) (body : Body) → leaves.objective ≡ Some o
      → p ≡ at → read_objective map.vars.indices o ≡ body
      → IsCountOf (Differ (read_through map leaves at).objective (only p body)) 0
  held_same o p body e s same =
      subst (λ m. IsCountOf (Differ (read_through map leaves at).objective m) 0)
      (held_some o e ∙ ap (λ b. finite.insert no_body at b) same
      ∙ ap (λ q. finite.insert no_body q body) (sym s))
      (counts_none (read_through map leaves at).objective)

pub empty_list : (gone : List Address) → length gone ≡ 0 → gone ≡ []
empty_list [] e = refl
empty_list (g ∷ gone) e = absurd (omega (arith, e))

pub some_list : (gone : List Address) → ¬ (length gone ≡ 0) → ¬ (gone ≡ [])
some_list gone n e = n (ap length e)
