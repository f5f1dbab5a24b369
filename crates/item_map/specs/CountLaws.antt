-- How many addresses a map has.
use Rattle.std.specs.Prelude.{◌≡◌, length}
use Rattle.std.proofs.Common.{sym, ap, ◌∙◌}
use Rattle.std.proofs.lemmas.List.{length-map}
use Rattle.std.specs.FinMap as finite
use Rattle.std.specs.FinMap.{FinMap}
use Rattle.aff_core.specs.Address.{address_cmp}

module _ {X : Type 0} where
  pub counted : (m : FinMap address_cmp X) → length (finite.keys m) ≡ finite.len m
  counted m = length-map (finite.entries m) (λ e. e.0) ∙ sym (finite.len-entries m)

  pub none_counted : (m : FinMap address_cmp X) → m ≡ finite.empty → length (finite.keys m) ≡ 0
  none_counted m e = counted m ∙ ap finite.len e ∙ finite.len-empty address_cmp X

  pub empty_from_count : (m : FinMap address_cmp X) → length (finite.keys m) ≡ 0
      → m ≡ finite.empty
  empty_from_count m e = finite.empty_of_len m (sym (counted m) ∙ e)
