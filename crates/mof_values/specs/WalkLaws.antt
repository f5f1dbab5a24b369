-- Walks step by step: each lemma is what one way out of a function shows.
use Rattle.std.specs.Prelude.{◌≡◌, ◌≢◌, ℕ, suc, ◌+◌, ◌<◌, ◌≤◌, List, drop, length, Result, Ok, Err}
use Rattle.std.proofs.Common.{add-one, ap, get_or, subst, sym, ◌∙◌}
use Rattle.std.proofs.lemmas.List.{drop_all, drop_more}
use Rattle.serde_json.specs.Data.{Data}
use Rattle.serde_json.specs.View.{items_view, view}
use Rattle.serde_json.specs.declared.value.Value.{Value}
use Rattle.mof_values.specs.declared.fault.MofFault.{MofFault}
use Rattle.mof_values.specs.declared.fault.MofFault.TheVariants.{Memory}
use Rattle.mof_values.specs.Values.{field_at, walk_at}
use Rattle.mof_values.specs.Walked.{MeetsWalk, TellsMofFault, TellsMofFaultAt, Walked, at, each, index, key_part, under, ◌>>=◌}

-- a fault that is reported at a part of a pointer
pub at_fault : {A : Type 0} (part : List ℕ) (walked : Walked A) (fault told : MofFault)
    → (fault ≢ Memory → walked ≡ Err fault) → TellsMofFault told (under part fault) → told ≢ Memory
    → at part walked ≡ Err told
at_fault part walked fault told failed tells not =
    ap (at part) (failed (λ is. not (tells not ∙ ap (under part) is))) ∙ ap Err (sym (tells not))

-- what is said at a part of a pointer of what was read there
pub at_met : {T A : Type 0} (seen : T → A) (part : List ℕ) (walked : Walked A)
    (read told : Result T MofFault) → MeetsWalk seen read walked → TellsMofFaultAt part read told
    → MeetsWalk seen told (at part walked)
at_met seen part walked (Ok x) told met same =
    subst (λ t. MeetsWalk seen t (at part walked)) (sym same) (ap (at part) met)
at_met seen part walked (Err fault) (Ok x) met none = elim none [ ]
at_met seen part walked (Err fault) (Err told) met tells = at_fault part walked fault told met tells

-- ---- what stands at a key

module _ {T A : Type 0} (seen : T → A) (walk : Data → Walked A) (name : List ℕ) (d : Data)
    (told : Result T MofFault) where
  there : (w : Walked Data) → field_at name d ≡ w
      → walk_at walk name d ≡ (w >>= (λ e. at (key_part name) (walk e)))
  unfolding walk_at
  there w found = ap (λ w. w >>= (λ e. at (key_part name) (walk e))) found

  pub walk_at_missing : (fault : MofFault) → (fault ≢ Memory → field_at name d ≡ Err fault)
      → told ≡ Err fault → MeetsWalk seen told (walk_at walk name d)
  walk_at_missing fault missing same =
      subst (λ t. MeetsWalk seen t (walk_at walk name d)) (sym same)
      (λ not. there (Err fault) (missing not))

  pub walk_at_met : (read : Result T MofFault) (e : Data) → field_at name d ≡ Ok e
      → MeetsWalk seen read (walk e) → TellsMofFaultAt (key_part name) read told
      → MeetsWalk seen told (walk_at walk name d)
  walk_at_met read e found met tells =
      subst (MeetsWalk seen told) (sym (there (Ok e) found))
      (at_met seen (key_part name) (walk e) read told met tells)

pub ruleset walk_at_steps = (walk_at_missing, walk_at_met)

-- ---- the items of an array, of which this one is next

module _ {S : Type 0} (step : S → Data → Walked S) (xs : List Value) (i : ℕ) (s : S)
    (all : Walked S) (so_far : each step i s (items_view (drop i xs)) ≡ all) where
  pub each_all : length xs ≤ i → all ≡ Ok s
  each_all past = sym so_far ∙ ap (λ ys. each step i s (items_view ys)) (drop_all i xs past)

  module _ (x : Value) (is : x ≡ get_or xs i x) (within : i < length xs) where
    next : all ≡ (at (index i) (step s (view x))
        >>= (λ more. each step (suc i) more (items_view (drop (i + 1) xs))))
    next = sym so_far
        ∙ ap (λ ys. each step i s (items_view ys)) (drop_more xs i x within)
        ∙ ap (λ y. at (index i) (step s (view y))
        >>= (λ more. each step (suc i) more (items_view (drop (i + 1) xs)))) (sym is)

    pub each_more : (more : S) → step s (view x) ≡ Ok more
        → each step (i + 1) more (items_view (drop (i + 1) xs)) ≡ all
    each_more more stepped =
        ap (λ j. each step j more (items_view (drop (i + 1) xs))) (add-one i)
        ∙ sym (next ∙ ap (λ w. at (index i) w
        >>= (λ more. each step (suc i) more (items_view (drop (i + 1) xs)))) stepped)

    pub each_fault : (fault told : MofFault) → (fault ≢ Memory → step s (view x) ≡ Err fault)
        → TellsMofFault told (under (index i) fault) → told ≢ Memory → all ≡ Err told
    each_fault fault told failed tells not =
        next ∙ ap (λ w. w >>= (λ more. each step (suc i) more (items_view (drop (i + 1) xs))))
        (at_fault (index i) (step s (view x)) fault told failed tells not)

pub ruleset each_steps = (each_all, each_more, each_fault)
