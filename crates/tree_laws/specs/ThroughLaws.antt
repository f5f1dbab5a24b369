-- Rows with duals in which expressions are put in: pulls, adjoints and gaps.
use Rattle.std.specs.Prelude.{◌≡◌, List, [], ◌∷◌, ◌++◌, All, map, refl}
use Rattle.std.proofs.Common.{sym, ap, ap₂, subst, ◌∙◌}
use Rattle.std.proofs.lemmas.List.{length-map}
use Rattle.std.proofs.lemmas.List.Elements.{All-append, All-head, All-map, All-tail, All-weaker}
use Rattle.ratio_core.specs.Rational.{Rational, neg_ℚ, zero_ℚ, ◌*ℚ◌, ◌+ℚ◌, ◌-ℚ◌, ◌≤ℚ◌}
use Rattle.rational_laws.specs.Dot.{dot}
use Rattle.rational_laws.specs.DotLaws.{dot_zeros}
use Rattle.rational_laws.specs.Field.{+ℚ-zero, -ℚ-itself}
use Rattle.rational_laws.specs.Order.{≤ℚ-+ℚ, ≤ℚ-+ℚ_right, ≤ℚ_trans}
use Rattle.rational_laws.specs.Ring.{as_expression, by_ring, ring₃, ring₄}
use Rattle.rational_laws.specs.Sums.{sum_by_ℚ_same}
use Rattle.set_core.specs.Membership.{low_of}
use Rattle.set_core.specs.Shapes.{IsSetOf}
use Rattle.aff_core.specs.Address.{Address, address_cmp}
use Rattle.aff_core.specs.Arithmetic.{composed}
use Rattle.aff_core.specs.ArithmeticLaws.{coefficient-composed, constant-composed}
use Rattle.aff_core.specs.Function.{Function, coefficient, value_of, variable}
use Rattle.aff_core.specs.FunctionLaws.{constant-variable, same_coefficients}
use Rattle.aff_core.specs.FunctionLists.{coefficients, constants}
use Rattle.aff_core.specs.KeyOrder.{address_order}
use Rattle.aff_core.specs.Points.{unit}
use Rattle.linear_laws.specs.ListLaws.{coefficient_variable, coefficients-composed, constants-composed, dot_values}
use Rattle.linear_laws.specs.SlopeLaws.{coefficient_by_unit, slope_agreeing}
use Rattle.linear_laws.specs.SupportLaws.{support, support_supports, supports_first, supports_second}
use Rattle.dual_laws.specs.Held.{DualsHold, DualRow, IsHeld, adjoint, adjoint_of, gap, gap_of, pull, pull_of}
use Rattle.dual_laws.specs.PullLaws.{adjoint-append, gap-append, mentioned_in, pull_over, pull_same}
use Rattle.bridge_face.specs.Law.{Miss}
use Rattle.map_laws.specs.EachLaws.{all_from_map}
use Rattle.fresh_bridging.specs.Entries.{Entry, function_in}
use Rattle.fresh_bridging.specs.MentionLaws.{slope_zero}
use Rattle.tree_laws.specs.Carried.{StandFor, constants_in, seen_at, through}

module _ (entries : List Entry) where
  -- ---- of one

  pub adjoint_through : (h : DualRow) (v : Address)
      → adjoint_of (through entries h) v ≡ pull_of h (seen_at entries v)
  adjoint_through h v =
      ap (dot h.duals) (coefficients-composed (function_in entries) h.functions v)

  apart_sum : (l a b : Rational) → l -ℚ (a +ℚ b) ≡ (l -ℚ a) -ℚ b
  apart_sum = ring₃ _ (λ ρ. simp as_expression (by_ring ρ _ _ refl))

  pub gap_through : (h : DualRow)
      → gap_of (through entries h) ≡ gap_of h -ℚ pull_of h (constants_in entries)
  gap_through h =
      ap (λ q. low_of h.set h.duals -ℚ q)
      (ap (dot h.duals) (constants-composed (function_in entries) h.functions)
      ∙ dot_values h.duals h.functions (constants_in entries))
      ∙ apart_sum (low_of h.set h.duals) (dot h.duals (constants h.functions))
      (pull_of h (constants_in entries))

  pub held_through : (h : DualRow) → IsHeld h → IsHeld (through entries h)
  held_through h i =
      let same = length-map h.functions (composed (function_in entries)) in
      record {
        set = subst (λ n. IsSetOf n h.set) (sym same) i.set;
        size = i.size ∙ sym same;
        dual = i.dual;
      }

  pub held_from_through : (h : DualRow) → IsHeld (through entries h) → IsHeld h
  held_from_through h i =
      let same = length-map h.functions (composed (function_in entries)) in
      record {
        set = subst (λ n. IsSetOf n h.set) same i.set;
        size = i.size ∙ same;
        dual = i.dual;
      }

  -- ---- of all

  abbrev pub all_through : List DualRow → List DualRow
  all_through hs = map (through entries) hs

  pub adjoints_through : (hs : List DualRow) (v : Address)
      → adjoint (all_through hs) v ≡ pull hs (seen_at entries v)
  adjoints_through [] v = refl
  adjoints_through (h ∷ hs) v = ap₂ ◌+ℚ◌ (adjoint_through h v) (adjoints_through hs v)

  apart_sums : (g p a b : Rational) → (g -ℚ p) +ℚ (a -ℚ b) ≡ (g +ℚ a) -ℚ (p +ℚ b)
  apart_sums = ring₄ _ (λ ρ. simp as_expression (by_ring ρ _ _ refl))

  pub gaps_through : (hs : List DualRow)
      → gap (all_through hs) ≡ gap hs -ℚ pull hs (constants_in entries)
  gaps_through [] = sym (-ℚ-itself zero_ℚ)
  gaps_through (h ∷ hs) =
      ap₂ ◌+ℚ◌ (gap_through h) (gaps_through hs)
      ∙ apart_sums (gap_of h) (pull_of h (constants_in entries)) (gap hs)
      (pull hs (constants_in entries))

  pub duals_through : (hs : List DualRow) → DualsHold hs → DualsHold (all_through hs)
  duals_through hs d =
      All-map IsHeld (through entries) hs
      (All-weaker IsHeld (λ h. IsHeld (through entries h)) held_through hs d)

  pub duals_from_through : (hs : List DualRow) → DualsHold (all_through hs) → DualsHold hs
  duals_from_through hs d =
      All-weaker (λ h. IsHeld (through entries h)) IsHeld held_from_through hs
      (all_from_map IsHeld (through entries) hs d)

  -- equal adjoints stay equal, and a gap that is no smaller stays so
  pub stand_through : (hs gs : List DualRow) → StandFor hs gs
      → StandFor (all_through hs) (all_through gs)
  stand_through hs gs s = record {
    holds = duals_through hs s.holds;
    same = λ v. adjoints_through hs v ∙ pull_same hs gs s.same (seen_at entries v)
        ∙ sym (adjoints_through gs v);
    gaps =
        subst (λ q. q ≤ℚ gap (all_through hs))
        (ap (λ q. gap gs -ℚ q) (pull_same hs gs s.same (constants_in entries))
        ∙ sym (gaps_through gs))
        (subst (λ q. (gap gs -ℚ pull hs (constants_in entries)) ≤ℚ q) (sym (gaps_through hs))
        (≤ℚ-+ℚ_right (gap gs) (gap hs) (neg_ℚ (pull hs (constants_in entries))) s.gaps));
  }

  -- ---- functions that mention no component

  pub untouched : (f : Function)
      → ((u : Address) → ¬ (coefficient f u ≡ zero_ℚ) → function_in entries u ≡ variable u)
      → composed (function_in entries) f ≡ f
  unfolding value_of
  untouched f h =
      same_coefficients address_order (composed (function_in entries) f) f
      (λ v. coefficient-composed address_order (function_in entries) f v
      ∙ slope_agreeing f (seen_at entries v) (unit v)
      (λ u some. ap (λ g. coefficient g v) (h u some) ∙ coefficient_variable u v)
      ∙ coefficient_by_unit f v)
      (constant-composed address_order (function_in entries) f
      ∙ ap (λ q. f.constant +ℚ q)
      (slope_agreeing f (constants_in entries) (λ _. zero_ℚ)
      (λ u some. ap (λ (g : Function). g.constant) (h u some) ∙ constant-variable address_cmp u)
      ∙ slope_zero f)
      ∙ +ℚ-zero f.constant)

-- ---- one list after another, and one before another

pub stand_both : (hs ls gs ks : List DualRow) → StandFor hs ls → StandFor gs ks
    → StandFor (hs ++ gs) (ls ++ ks)
stand_both hs ls gs ks s t = record {
  holds = All-append IsHeld hs gs s.holds t.holds;
  same = λ v. adjoint-append hs gs v ∙ ap₂ ◌+ℚ◌ (s.same v) (t.same v) ∙ sym
      (adjoint-append ls ks v);
  gaps =
      subst (λ q. q ≤ℚ gap (hs ++ gs)) (sym (gap-append ls ks))
      (subst (λ q. (gap ls +ℚ gap ks) ≤ℚ q) (sym (gap-append hs gs))
      (≤ℚ-+ℚ (gap ls) (gap hs) (gap ks) (gap gs) s.gaps t.gaps));
}

pub stand_after : (hs gs ls : List DualRow) → StandFor hs gs → StandFor gs ls → StandFor hs ls
stand_after hs gs ls s t = record {
  holds = s.holds;
  same = λ v. s.same v ∙ t.same v;
  gaps = ≤ℚ_trans (gap ls) (gap gs) (gap hs) t.gaps s.gaps;
}

-- ---- pulls at a point where the adjoints weigh alike

pub pull_alike : (hs gs : List DualRow) (x : Address → Rational)
    → ((u : Address) → adjoint hs u *ℚ x u ≡ adjoint gs u *ℚ x u) → pull hs x ≡ pull gs x
pull_alike hs gs x h =
    pull_over both hs x (supports_first both (mentioned_in hs) (mentioned_in gs)
    (support_supports (mentioned_in hs ++ mentioned_in gs)))
    ∙ sum_by_ℚ_same (λ u. adjoint hs u *ℚ x u) (λ u. adjoint gs u *ℚ x u) both h
    ∙ sym (pull_over both gs x (supports_second both (mentioned_in hs) (mentioned_in gs)
    (support_supports (mentioned_in hs ++ mentioned_in gs))))
  where
    both : List Address
    both = support (mentioned_in hs ++ mentioned_in gs)

-- ---- what isn't mentioned

abbrev pub HeldMisses : Address → DualRow → Type 0
HeldMisses v h = Miss h.functions v

pub adjoint_missed : (h : DualRow) (v : Address) → HeldMisses v h → adjoint_of h v ≡ zero_ℚ
adjoint_missed h v m =
    dot_zeros h.duals (coefficients h.functions v)
    (All-map (λ q. q ≡ zero_ℚ) (λ f. coefficient f v) h.functions m)

pub adjoints_missed : (hs : List DualRow) (v : Address) → All (HeldMisses v) hs
    → adjoint hs v ≡ zero_ℚ
adjoints_missed [] v m = refl
adjoints_missed (h ∷ hs) v m =
    ap₂ ◌+ℚ◌ (adjoint_missed h v (All-head (HeldMisses v) h hs m))
    (adjoints_missed hs v (All-tail (HeldMisses v) h hs m))
    ∙ +ℚ-zero zero_ℚ
