-- Whether the keys of a list rise.
use Rattle.std.specs.Prelude.{◌≡◌, ◌+◌, Bool, true, false, T, List, [], ◌∷◌, refl}
use Rattle.std.proofs.Common.{arith, sym, ap, subst, ◌∙◌}
use Rattle.std.specs.Bool.{Decides}
use Rattle.std.specs.Cmp.{IsTotalOrder}
use Rattle.std.specs.List.{IsAllAdjacentAnswer}
use Rattle.std.specs.Ordering.{is_lt}
use Rattle.std.specs.declared.cmp.Ordering.{Ordering}
use Rattle.map_laws.specs.EntryLaws.{is_sorted_adjacent, key_less}
use Rattle.map_laws.specs.TestLaws.{is_less}
use Rattle.aff_core.specs.FunctionLaws.{tested}
use Rattle.aff_core.specs.Rising.{RiseBy}
use Rattle.aff_core.specs.FunctionLaws.{rises}

module _ {K X : Type 0} {R : K → K → Ordering} (total : IsTotalOrder R) where
  pub rise_decided : (es : List (K × X)) (r : Bool)
      → IsAllAdjacentAnswer (λ s t b. b ≡ is_lt (R s.0 t.0)) es r → Decides r (RiseBy R es)
  rise_decided es true h = (
    λ e. record {
      rising = tested _ (is_sorted_adjacent total es
          (λ k d lt. is_less _ (subst T (h k d lt) tt)));
    },
    λ r. refl,
  )
  rise_decided [] false (k, lt, h) = absurd (omega arith)
  rise_decided (e ∷ es) false (k, lt, h) = (
    λ e. absurd (subst T (sym e) tt),
    λ r. absurd (subst T (sym (h e ∙ ap is_lt (key_less total (e ∷ es) k (k + 1) e
        (rises (e ∷ es) r) (omega arith) lt))) tt),
  )
