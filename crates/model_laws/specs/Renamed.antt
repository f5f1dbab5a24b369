-- Variables of which one has a new name: numbers stay, and names stay distinct where the new one is
-- free.
use Rattle.std.specs.Prelude.{◌≡◌, ◌≢◌, ℕ, ◌<◌, ◌==◌, true, false, ◌||◌, cond, List, [], ◌∷◌, All, AllPairs, map, refl}
use Rattle.std.specs.List.{list_any}
use Rattle.std.proofs.Common.{arith, sym, ap, ap₂, inl, inr, ◌∙◌}
use Rattle.std.proofs.lemmas.Bool.{cases_eq, eq-eqb, ne_eqb}
use Rattle.std.proofs.lemmas.List.Elements.{All-map, All-weaker}
use Rattle.numbered_list.specs.Numbered.{Rise}
use Rattle.user_model.specs.declared.group.GroupVar.{GroupVar}
use Rattle.user_model.specs.Edited.{renamed}
use Rattle.user_model.specs.Consistent.{variable_number}
use Rattle.map_laws.specs.PairLaws.{AllPairs-map}

module _ (n : ℕ) (name : List ℕ) where
  pub renamed_number : (v : GroupVar) → (renamed n name v).number ≡ v.number
  renamed_number v = elim (v.number == n) as (λ b. (cond b (record v { name = name }) v).number
      ≡ v.number) [ true ↦ refl | false ↦ refl ]

  pub renamed_there : (v : GroupVar) → v.number ≡ n → (renamed n name v).name ≡ name
  renamed_there v e =
      ap (λ b. (cond b (record v { name = name }) v).name) (eq-eqb v.number n e)

  renamed_other : (v : GroupVar) → v.number ≢ n → (renamed n name v).name ≡ v.name
  renamed_other v ne =
      ap (λ b. (cond b (record v { name = name }) v).name) (ne_eqb v.number n ne)

  apart : (v w : GroupVar)
      → (v.number < w.number) × (v.name ≢ w.name) × (v.name ≢ name) × (w.name ≢ name)
      → (renamed n name v).name ≢ (renamed n name w).name
  apart v w h same =
      elim (cases_eq v.number n) [
        | inl at ↦ elim (cases_eq w.number n) [
          | inl too ↦ let lt = h.0 in omega (arith, lt)
          | inr off ↦ h.3 (sym (renamed_other w off) ∙ (sym same ∙ renamed_there v at))
        ]
        | inr off ↦ elim (cases_eq w.number n) [
          | inl at ↦ h.2 (sym (renamed_other v off) ∙ (same ∙ renamed_there w at))
          | inr too ↦ h.1 (sym (renamed_other v off) ∙ (same ∙ renamed_other w too))
        ]
      ]

  pub renamed_rise : (vs : List GroupVar) → Rise variable_number vs
      → Rise variable_number (map (renamed n name) vs)
  renamed_rise vs rise = record {
    rising = AllPairs-map (λ v w. v.number < w.number) (renamed n name) (λ v w. v.number < w.number)
        vs (λ v w lt. omega (arith, renamed_number v, renamed_number w)) rise.rising;
  }

  pub renamed_distinct : (vs : List GroupVar) → Rise variable_number vs
      → AllPairs (λ v w. v.name ≢ w.name) vs → All (λ v. v.name ≢ name) vs
      → AllPairs (λ v w. v.name ≢ w.name) (map (renamed n name) vs)
  renamed_distinct vs rise distinct free =
      AllPairs-map (λ v w. v.name ≢ w.name) (renamed n name)
      (λ v w. (v.number < w.number) × (v.name ≢ w.name) × (v.name ≢ name) × (w.name ≢ name)) vs
      apart (λ i j d lt end. (
        rise.rising i j d lt end,
        distinct i j d lt end,
        free i d
            (omega arith),
        free j d end,
      ))

  pub renamed_below : (limit : ℕ) (vs : List GroupVar) → All (λ v. v.number < limit) vs
      → All (λ v. v.number < limit) (map (renamed n name) vs)
  renamed_below limit vs h =
      All-map (λ v. v.number < limit) (renamed n name) vs
      (All-weaker (λ v. v.number < limit) (λ v. (renamed n name v).number < limit)
      (λ v lt. omega (arith, renamed_number v)) vs h)

  pub renamed_stands : (m : ℕ) (vs : List GroupVar)
      → list_any (λ v. v.number == m) (map (renamed n name) vs) ≡ list_any (λ v. v.number == m) vs
  renamed_stands m [] = refl
  renamed_stands m (v ∷ vs) = ap₂ (λ k b. (k == m) || b) (renamed_number v) (renamed_stands m vs)
