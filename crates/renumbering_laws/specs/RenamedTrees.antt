-- A bridging of rewritten items: where each rule commutes with the rewriting, it holds what the
-- bridging of the items holds, rewritten.
use Rattle.std.specs.Prelude.{◌≡◌, ℕ, ◌&&◌, List, [], ◌∷◌, ◌++◌, map, refl}
use Rattle.std.proofs.Common.{ap, ap₂, subst, sym, ◌∙◌}
use Rattle.std.proofs.lemmas.List.{map-append}
use Rattle.bridge_graph.specs.declared.Choice.TheVariants.{By, Native}
use Rattle.expansion.specs.Bridged.{Bridged, EachBridged, EachBridgedIn, by, each, each_in, natively, none, none_in}
use Rattle.expansion.specs.Read.{fits, fits_each, fits_in, leaves, leaves_in, leaves_of_each}
use Rattle.expansion.specs.Rules.{Rules}

-- what is done to an item and to what is made of it is one
pub record IsRewriting {Item Entry : Type 0} (rules : Rules Item Entry) (f : Item → Item)
    (g : Entry → Entry) : Type 0 where
  pub choice : (item : Item) → rules.choice (f item) ≡ rules.choice item
  pub groups : (edge : ℕ) (item : Item)
      → (rules.image edge (f item)).groups ≡ map f (rules.image edge item).groups
  pub others : (edge : ℕ) (item : Item)
      → (rules.image edge (f item)).others ≡ map f (rules.image edge item).others
  pub own : (item : Item) → rules.own (f item) ≡ map g (rules.own item)
  pub outer : (edge : ℕ) (item : Item) (inner : List Entry)
      → rules.outer edge (f item) (map g inner) ≡ map g (rules.outer edge item inner)
  pub put_in : (inner : List Entry) (item : Item)
      → rules.put_in (map g inner) (f item) ≡ f (rules.put_in inner item)
  pub image_fits : (edge : ℕ) (item : Item)
      → rules.image_fits edge (f item) ≡ rules.image_fits edge item
  pub outer_fits : (edge : ℕ) (item : Item) (inner : List Entry)
      → rules.outer_fits edge (f item) (map g inner) ≡ rules.outer_fits edge item inner
  pub put_in_fits : (inner : List Entry) (item : Item)
      → rules.put_in_fits (map g inner) (f item) ≡ rules.put_in_fits inner item

module _ {Item Entry : Type 0} (rules : Rules Item Entry) (f : Item → Item)
    (g : Entry → Entry) where
  -- two bridgings of one shape, the second of the rewritten items
  mutual
    pub data Alike : (item other : Item) (es fs : List Entry) → Bridged rules item es
        → Bridged rules other fs → Type 0 where
      alike_native : {item other : Item} → other ≡ f item
          → (c : rules.choice item ≡ Native) (d : rules.choice other ≡ Native)
          → Alike item other (rules.own item) (rules.own other) (natively c) (natively d)
      alike_by : {item other : Item} {edge : ℕ} {inner after : List Entry} → other ≡ f item
          → (c : rules.choice item ≡ By edge) (d : rules.choice other ≡ By edge)
          → {gs : EachBridged rules (rules.image edge item).groups inner}
          → {hs : EachBridged rules (rules.image edge other).groups after}
          → {os : EachBridgedIn rules inner (rules.image edge item).others}
          → {ps : EachBridgedIn rules after (rules.image edge other).others}
          → EachAlike _ _ _ _ gs hs → InAlike _ _ _ _ os ps
          → Alike item other (rules.outer edge item inner) (rules.outer edge other after)
          (by c gs os) (by d hs ps)

    pub data EachAlike : (items others : List Item) (es fs : List Entry)
        → EachBridged rules items es → EachBridged rules others fs → Type 0 where
      alike_none : EachAlike [] [] [] [] none none
      alike_each : {item other : Item} {items others : List Item} {es fs es' fs' : List Entry}
          → {first : Bridged rules item es} {second : Bridged rules other fs}
          → {rest : EachBridged rules items es'} {more : EachBridged rules others fs'}
          → Alike item other es fs first second → EachAlike items others es' fs' rest more
          → EachAlike (item ∷ items) (other ∷ others) (es ++ es') (fs ++ fs') (each first rest)
          (each second more)

    pub data InAlike : (inner after : List Entry) (items others : List Item)
        → EachBridgedIn rules inner items → EachBridgedIn rules after others → Type 0 where
      alike_none_in : {inner after : List Entry} → InAlike inner after [] [] none_in none_in
      alike_each_in : {inner after : List Entry} {item other : Item} {items others : List Item}
          → {es fs : List Entry} → after ≡ map g inner → other ≡ f item
          → {first : Bridged rules (rules.put_in inner item) es}
          → {second : Bridged rules (rules.put_in after other) fs}
          → {rest : EachBridgedIn rules inner items} {more : EachBridgedIn rules after others}
          → Alike (rules.put_in inner item) (rules.put_in after other) es fs first second
          → InAlike inner after items others rest more
          → InAlike inner after (item ∷ items) (other ∷ others) (each_in first rest)
          (each_in second more)

  module _ (m : IsRewriting rules f g) where
    -- ---- the expressions

    mutual
      pub entries_alike : {item other : Item} {es fs : List Entry} {tree : Bridged rules item es}
          {second : Bridged rules other fs}
          → Alike item other es fs tree second → fs ≡ map g es
      entries_alike (alike_native {item} same c d) = ap rules.own same ∙ m.own item
      entries_alike (alike_by {item} {other} {edge} {inner} {after} same c d gs os) =
          ap₂ (rules.outer edge) same (each_entries_alike gs) ∙ m.outer edge item inner

      pub each_entries_alike : {items others : List Item} {es fs : List Entry}
          {trees : EachBridged rules items es} {second : EachBridged rules others fs}
          → EachAlike items others es fs trees second → fs ≡ map g es
      each_entries_alike alike_none = refl
      each_entries_alike (alike_each {es = es} {es' = es'} first rest) =
          ap₂ (λ a b. a ++ b) (entries_alike first) (each_entries_alike rest)
          ∙ sym (map-append g es es')

    -- ---- there is one of the rewritten items

    abbrev Moved : {item : Item} {es : List Entry} → Bridged rules item es → Item → Type 0
    Moved {item} {es} tree other =
        (fs : List Entry) × (second : Bridged rules other fs) × Alike item other es fs tree second

    abbrev EachMoved : {items : List Item} {es : List Entry} → EachBridged rules items es
        → List Item → Type 0
    EachMoved {items} {es} trees others =
        (fs : List Entry) × (second : EachBridged rules others fs)
        × EachAlike items others es fs trees second

    abbrev InMoved : {inner : List Entry} {items : List Item} → EachBridgedIn rules inner items
        → List Entry → List Item → Type 0
    InMoved {inner} {items} trees after others =
        (second : EachBridgedIn rules after others) × InAlike inner after items others trees second

    mutual
      pub moved : {item : Item} {es : List Entry} (tree : Bridged rules item es) (other : Item)
          → other ≡ f item → Moved tree other
      moved (natively {item} c) other same =
          let d = ap rules.choice same ∙ m.choice item ∙ c in
          (rules.own other, natively d, alike_native same c d)
      moved (by {item} {edge} {inner} c groups others) other same =
          let d = ap rules.choice same ∙ m.choice item ∙ c in
          let gs : EachMoved groups (rules.image edge other).groups = subst (EachMoved groups)
          (sym (ap (λ i. (rules.image edge i).groups) same ∙ m.groups edge item))
          (each_moved groups) in
          let os : InMoved others gs.0 (rules.image edge other).others =
          subst (InMoved others gs.0)
          (sym (ap (λ i. (rules.image edge i).others) same ∙ m.others edge item))
          (in_moved others gs.0 (each_entries_alike gs.2)) in
          (rules.outer edge other gs.0, by d gs.1 os.0, alike_by same c d gs.2 os.1)

      pub each_moved : {items : List Item} {es : List Entry} (trees : EachBridged rules items es)
          → EachMoved trees (map f items)
      each_moved none = ([], none, alike_none)
      each_moved (each {item} first rest) =
          let one = moved first (f item) refl in
          let more = each_moved rest in
          (one.0 ++ more.0, each one.1 more.1, alike_each one.2 more.2)

      pub in_moved : {inner : List Entry} {items : List Item}
          (trees : EachBridgedIn rules inner items) (after : List Entry) → after ≡ map g inner
          → InMoved trees after (map f items)
      in_moved none_in after same = (none_in, alike_none_in)
      in_moved (each_in {inner} {item} first rest) after same =
          let one = moved first (rules.put_in after (f item))
          (ap (λ e. rules.put_in e (f item)) same ∙ m.put_in inner item) in
          let more = in_moved rest after same in
          (each_in one.1 more.0, alike_each_in same refl one.2 more.1)

    -- ---- what they hold

    mutual
      unfolding leaves

      pub leaves_alike : {item other : Item} {es fs : List Entry} {tree : Bridged rules item es}
          {second : Bridged rules other fs}
          → Alike item other es fs tree second → leaves second ≡ map f (leaves tree)
      leaves_alike (alike_native same c d) = ap (λ item. item ∷ []) same
      leaves_alike (alike_by same c d {gs = gs} {os = os} groups others) =
          ap₂ (λ a b. a ++ b) (each_leaves_alike groups) (in_leaves_alike others)
          ∙ sym (map-append f (leaves_of_each gs) (leaves_in os))

      pub each_leaves_alike : {items others : List Item} {es fs : List Entry}
          {trees : EachBridged rules items es} {second : EachBridged rules others fs}
          → EachAlike items others es fs trees second
          → leaves_of_each second ≡ map f (leaves_of_each trees)
      each_leaves_alike alike_none = refl
      each_leaves_alike (alike_each {first = one} {rest = others} first rest) =
          ap₂ (λ a b. a ++ b) (leaves_alike first) (each_leaves_alike rest)
          ∙ sym (map-append f (leaves one) (leaves_of_each others))

      pub in_leaves_alike : {inner after : List Entry} {items others : List Item}
          {trees : EachBridgedIn rules inner items} {second : EachBridgedIn rules after others}
          → InAlike inner after items others trees second
          → leaves_in second ≡ map f (leaves_in trees)
      in_leaves_alike alike_none_in = refl
      in_leaves_alike (alike_each_in after same {first = one} {rest = others} first rest) =
          ap₂ (λ a b. a ++ b) (leaves_alike first) (in_leaves_alike rest)
          ∙ sym (map-append f (leaves one) (leaves_in others))

    mutual
      unfolding fits

      pub fits_alike : {item other : Item} {es fs : List Entry} {tree : Bridged rules item es}
          {second : Bridged rules other fs}
          → Alike item other es fs tree second → fits second ≡ fits tree
      fits_alike (alike_native same c d) = refl
      fits_alike (alike_by {item} {other} {edge} {inner} {after} same c d groups others) =
          (λ i. (ap (rules.image_fits edge) same ∙ m.image_fits edge item) i
          && (each_fits_alike groups i
          && ((ap₂ (rules.outer_fits edge) same (each_entries_alike groups)
          ∙ m.outer_fits edge item inner) i && in_fits_alike others i)))

      pub each_fits_alike : {items others : List Item} {es fs : List Entry}
          {trees : EachBridged rules items es} {second : EachBridged rules others fs}
          → EachAlike items others es fs trees second → fits_each second ≡ fits_each trees
      each_fits_alike alike_none = refl
      each_fits_alike (alike_each first rest) =
          ap₂ (λ a b. a && b) (fits_alike first) (each_fits_alike rest)

      pub in_fits_alike : {inner after : List Entry} {items others : List Item}
          {trees : EachBridgedIn rules inner items} {second : EachBridgedIn rules after others}
          → InAlike inner after items others trees second → fits_in second ≡ fits_in trees
      in_fits_alike alike_none_in = refl
      in_fits_alike (alike_each_in {inner} {item = item} after same first rest) =
          (λ i. ((ap₂ rules.put_in_fits after same ∙ m.put_in_fits inner item) i
          && fits_alike first i) && in_fits_alike rest i)
