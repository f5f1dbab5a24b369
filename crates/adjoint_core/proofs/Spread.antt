-- The numbers of the leaf variables, as a point.
use Rattle.std.specs.Prelude.{◌≡◌, ℕ, Bool, true, false, cond, List, [], ◌∷◌, ◌++◌, All, Some, None, map, unwrap_or, refl}
use Rattle.std.specs.FinMap as finite
use Rattle.std.specs.FinMap.{FinMap}
use Rattle.std.specs.FinMap.Entries.{find}
use Rattle.std.specs.Option.{option_map_or}
use Rattle.std.specs.Ordering.{nat_cmp}
use Rattle.std.specs.declared.cmp.Ordering.TheVariants.{Less}
use Rattle.std.proofs.Common.{ap, ap₂, sym, ◌∙◌}
use Rattle.std.proofs.lemmas.List.{append-nil, append_assoc}
use Rattle.std.proofs.lemmas.List.Elements.{All-head, All-tail}
use Rattle.map_laws.specs.EntryLaws.{key_less}
use Rattle.map_laws.specs.PairLaws.{AllPairs-map}
use Rattle.ratio_core.specs.Rational.{Rational, zero_ℚ}
use Rattle.address_map.specs.AddressMap.{AddressMap}
use Rattle.address_map.specs.Places.{Indices}
use Rattle.cert_core.specs.Variables.{Ascend}
use Rattle.aff_core.specs.Address.{Address, address_cmp, address_eq, address_eq-Decides, address_total}
use Rattle.aff_core.specs.Points.{spread}
use Rattle.std_form.specs.NameLaws.{IsEntry, entries_found}
use Rattle.adjoint_core.specs.Read.{numbers_by}

-- numbers that are 0 at an address that no entry is of, spread over the entries' addresses
spread_found : (x : Address → Rational) (es : List (Address × ℕ)) (v : Address)
    → (find address_cmp v es ≡ None → x v ≡ zero_ℚ)
    → spread (map (λ e. e.0) es) (map x (map (λ e. e.0) es)) v ≡ x v
spread_found x [] v none = sym (none refl)
spread_found x (e ∷ es) v none = by (address_eq v e.0) refl (spread_found x es v)
  where
    by : (b : Bool) → address_eq v e.0 ≡ b
        → ((find address_cmp v es ≡ None → x v ≡ zero_ℚ)
        → spread (map (λ e. e.0) es) (map x (map (λ e. e.0) es)) v ≡ x v)
        → cond b (x e.0) (spread (map (λ e. e.0) es) (map x (map (λ e. e.0) es)) v) ≡ x v
    by true same rest = ap x (sym ((address_eq-Decides v e.0).0 same))
    by false other rest =
        rest (λ k. none (ap (λ b. cond b (Some e.1) (find address_cmp v es)) other ∙ k))

spread_numbers : (places : AddressMap) (x : FinMap nat_cmp Rational)
    → spread (finite.keys places.vars.indices)
    (map (numbers_by places x) (finite.keys places.vars.indices))
    ≡ numbers_by places x
spread_numbers places x =
    λ i v. spread_found (numbers_by places x) (finite.entries places.vars.indices) v (none v) i
  where
    none : (v : Address) → find address_cmp v (finite.entries places.vars.indices) ≡ None
        → numbers_by places x v ≡ zero_ℚ
    none v is =
        ap (λ o. option_map_or (λ i. unwrap_or (finite.get x i) zero_ℚ) o zero_ℚ)
        (finite.get-entries places.vars.indices v ∙ is)

-- the number at an entry's index
abbrev pub number_at : FinMap nat_cmp Rational → Address × ℕ → Rational
number_at x e = unwrap_or (finite.get x e.1) zero_ℚ

read_by : (places : AddressMap) (x : FinMap nat_cmp Rational) (es : List (Address × ℕ))
    → All (IsEntry places.vars.indices) es
    → map (number_at x) es ≡ map (numbers_by places x) (map (λ e. e.0) es)
read_by places x [] h = refl
read_by places x (e ∷ es) h =
    ap₂ ◌∷◌ (sym (ap (λ o. option_map_or (λ i. unwrap_or (finite.get x i) zero_ℚ) o zero_ℚ)
    (All-head (IsEntry places.vars.indices) e es h)))
    (read_by places x es (All-tail (IsEntry places.vars.indices) e es h))

-- those of all entries, spread over the entries' addresses
pub spread_entries : (places : AddressMap) (x : FinMap nat_cmp Rational)
    → spread (finite.keys places.vars.indices)
    (map (number_at x) (finite.entries places.vars.indices))
    ≡ numbers_by places x
spread_entries places x =
    ap (spread (finite.keys places.vars.indices))
    (read_by places x (finite.entries places.vars.indices) (entries_found places.vars.indices))
    ∙ spread_numbers places x

-- ---- what is made of each entry, in their order

module _ {X Y : Type 0} (f : X → Y) where
  pub made_next : (left rest : List X) (x : X) (old new all : List Y) → left ≡ x ∷ rest
      → old ++ map f left ≡ all → new ≡ old ++ f x ∷ [] → new ++ map f rest ≡ all
  made_next left rest x old new all next so_far pushed =
      ap (λ ys. ys ++ map f rest) pushed ∙ append_assoc old (f x ∷ []) (map f rest)
      ∙ ap (λ xs. old ++ map f xs) (sym next) ∙ so_far

  pub made_all : (left : List X) (made all : List Y) → left ≡ [] → made ++ map f left ≡ all
      → made ≡ all
  made_all left made all none so_far =
      sym (append-nil made) ∙ ap (λ xs. made ++ map f xs) (sym none) ∙ so_far

abbrev IsBelow : Address → Address → Type 0
IsBelow u w = address_cmp u w ≡ Less

pub keys_ascend : (m : Indices) → Ascend (finite.keys m)
keys_ascend m = record {
  ascending =
      AllPairs-map IsBelow (λ (e : Address × ℕ). e.0)
      (λ (e f : Address × ℕ). IsBelow e.0 f.0) (finite.entries m) (λ e f less. less)
      (λ i j d lt end.
      key_less address_total (finite.entries m) i j d (finite.entries_sorted m) lt end);
}
