-- Whether a kind is changed, a level at a time; and tables of kinds, filled by their numbers.
use Rattle.std.specs.Prelude.{◌≡◌, ◌||◌, ◌≢◌, ◌==◌, ◌&&◌, ◌-◌, ◌<◌, ◌+◌, ℕ, zero, suc, Bool, true, false, not, List, [], ◌∷◌, length, slice_index_or, slice_set, refl}
use Rattle.std.specs.List.{list_any}
use Rattle.std.proofs.Common.{arith, ap, ap₂, sym, ◌∙◌, true≢false}
use Rattle.std.proofs.lemmas.Bool.Decides.{Decides-eqb}
use Rattle.std.proofs.lemmas.List.{get_or-set_other, get_or-set_same}
use Rattle.std.proofs.lemmas.Option.{slice_get_within}
use Rattle.bridge_graph.specs.declared.Choice.{Choice}
use Rattle.fresh_bridging.specs.TableLaws.{and_first, and_second, kind_stands, same_kind}
use Rattle.item_core.specs.Edge.{kinds_in}
use Rattle.item_core.specs.declared.kind.TheConstants.{KINDS}
use Rattle.item_core.specs.Kind.{kind_count, kind_number}
use Rattle.item_core.specs.declared.edge.Children.{Children}
use Rattle.item_core.specs.declared.edge.Children.TheVariants as kinds
use Rattle.item_core.specs.declared.kind.Kind.{Kind}
use Rattle.table_change.specs.ChangedKinds.{is_changed, is_other, led_to, same_choice}

module _ (c o : ℕ → Choice) (kind : Kind) where
  abbrev Below : ℕ → Bool
  Below levels = list_any (is_changed c o levels) (led_to (c (kind_number kind)))

  pub on_no_level : (levels : ℕ) → levels ≡ 0 → false ≡ is_changed c o levels kind
  unfolding is_changed
  on_no_level zero e = refl
  on_no_level (suc n) e = absurd (omega (arith, e))

  step : (levels : ℕ) → ¬ (levels ≡ 0)
      → is_changed c o levels kind ≡ (is_other c o kind || Below (levels - 1))
  unfolding is_changed
  step zero some = absurd (some refl)
  step (suc n) some =
      let less : n ≡ suc n - 1 = omega arith in
      ap (λ m. is_other c o kind || Below m) less

  pub otherwise : (levels : ℕ) → ¬ (levels ≡ 0) → (b : Bool)
      → b ≡ same_choice (c (kind_number kind)) (o (kind_number kind)) → b ≡ false
      → true ≡ is_changed c o levels kind
  otherwise levels some b e f =
      sym (step levels some ∙ ap (λ x. not x || Below (levels - 1)) (sym e ∙ f))

  pub as_below : (levels : ℕ) → ¬ (levels ≡ 0) → (b : Bool)
      → b ≡ same_choice (c (kind_number kind)) (o (kind_number kind)) → b ≡ true
      → (ch : Children) → kinds_in ch ≡ led_to (c (kind_number kind))
      → is_changed c o levels kind ≡ list_any (is_changed c o (levels - 1)) (kinds_in ch)
  as_below levels some b e t ch is =
      step levels some ∙ ap (λ x. not x || Below (levels - 1)) (sym e ∙ t)
      ∙ ap (list_any (is_changed c o (levels - 1))) (sym is)

  module _ (mine other : Choice) (mine_is : mine ≡ c (kind_number kind))
      (other_is : other ≡ o (kind_number kind)) where
    pub otherwise_by : (levels : ℕ) → ¬ (levels ≡ 0) → (b : Bool) → b ≡ same_choice mine other
        → b ≡ false → true ≡ is_changed c o levels kind
    otherwise_by levels some b e f =
        otherwise levels some b (e ∙ ap₂ same_choice mine_is other_is) f

    pub as_below_by : (levels : ℕ) → ¬ (levels ≡ 0) → (b : Bool) → b ≡ same_choice mine other
        → b ≡ true → (ch : Children) → kinds_in ch ≡ led_to mine
        → is_changed c o levels kind ≡ list_any (is_changed c o (levels - 1)) (kinds_in ch)
    as_below_by levels some b e t ch is =
        as_below levels some b (e ∙ ap₂ same_choice mine_is other_is) t ch (is ∙ ap led_to mine_is)

or_none : (b : Bool) → (b || false) ≡ b
or_none true = refl
or_none false = refl

module _ (p : Kind → Bool) where
  pub of_one : (ch : Children) (a : Kind) → ch ≡ kinds.One a → list_any p (kinds_in ch) ≡ p a
  of_one ch a e = ap (λ x. list_any p (kinds_in x)) e ∙ or_none (p a)

  pub of_two : (ch : Children) (a b : Kind) → ch ≡ kinds.Two a b
      → list_any p (kinds_in ch) ≡ (p a || p b)
  of_two ch a b e = ap (λ x. list_any p (kinds_in x)) e ∙ ap (λ x. p a || x) (or_none (p b))

  pub of_three : (ch : Children) (a b c : Kind) → ch ≡ kinds.Three a b c
      → list_any p (kinds_in ch) ≡ (p a || (p b || p c))
  of_three ch a b c e =
      ap (λ x. list_any p (kinds_in x)) e ∙ ap (λ x. p a || (p b || x)) (or_none (p c))

-- the first that is so decides
pub first_so : (r a b : Bool) → r ≡ a → r ≡ true → true ≡ (a || b)
first_so r a b e t = sym (ap (λ x. x || b) (sym e ∙ t))

pub next_so : (r s a b : Bool) → r ≡ a → r ≡ false → s ≡ b → s ≡ (a || b)
next_so r s a b e f g = g ∙ sym (ap (λ x. x || b) (sym e ∙ f))

-- ---- tables of kinds

abbrev are_numbered : ℕ → List Kind → Bool
are_numbered n [] = true
are_numbered n (k ∷ ks) = kind_number k == n && are_numbered (n + 1) ks

numbered : are_numbered 0 KINDS.kinds ≡ true
numbered = refl

number_from : (first n : ℕ) (ks : List Kind) (d : Kind) → are_numbered first ks ≡ true
    → n < length ks → kind_number (slice_index_or ks n d) ≡ first + n
number_from first n [] d h less = absurd (omega (arith, less))
number_from first zero (k ∷ ks) d h less =
    let here = (Decides-eqb (kind_number k) first).0
    (and_first (kind_number k == first) (are_numbered (first + 1) ks) h) in
    omega (arith, here)
number_from first (suc n) (k ∷ ks) d h less =
    let later = number_from (first + 1) n ks d
    (and_second (kind_number k == first) (are_numbered (first + 1) ks) h) (omega (arith, less)) in
    omega (arith, later)

pub number_there : (n : ℕ) (d : Kind) → n < kind_count → kind_number (slice_index_or KINDS.kinds n d) ≡ n
number_there n d less =
    let from = number_from 0 n KINDS.kinds d numbered less in
    let none : 0 + n ≡ n = omega arith in
    from ∙ none

pub few_kinds : (kind : Kind) → kind_number kind < kind_count
few_kinds kind = slice_get_within KINDS.kinds (kind_number kind) kind (kind_stands kind)

-- a table that has the first kinds, and the next one put in
pub put_next : {X : Type 0} (d : X) (xs : List X) (n : ℕ) (v : X) (f : Kind → X) (now : Kind)
    → n < length xs → kind_number now ≡ n → v ≡ f now
    → ((kind : Kind) → kind_number kind < n → slice_index_or xs (kind_number kind) d ≡ f kind)
    → (kind : Kind) → kind_number kind < n + 1
    → slice_index_or (slice_set xs n v) (kind_number kind) d ≡ f kind
put_next d xs n v f now within is put before kind less =
    by (kind_number kind == n) refl
  where
    by : (b : Bool) → (kind_number kind == n) ≡ b
        → slice_index_or (slice_set xs n v) (kind_number kind) d ≡ f kind
    by true e =
        let here = (Decides-eqb (kind_number kind) n).0 e in
        ap (λ k. slice_index_or (slice_set xs n v) k d) here
        ∙ get_or-set_same xs n v d within ∙ put ∙ ap f (same_kind now kind (is ∙ sym here))
    by false e =
        let other : kind_number kind ≢ n = λ same. true≢false
        (sym ((Decides-eqb (kind_number kind) n).1 same) ∙ e) in
        get_or-set_other xs n (kind_number kind) v d other
        ∙ before kind (omega (arith, less, other))
