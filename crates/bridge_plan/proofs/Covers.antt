-- Functions made for the variables of some terms.
use Rattle.std.specs.Prelude.{◌≡◌, ℕ, ◌+◌, ◌<◌, Bool, true, false, not, cond, IsTrue, is_some, List, All, length, take, Option, Some, None, refl}
use Rattle.std.proofs.Common.{ap, sym, subst, ◌∙◌, get_or, Bor}
use Rattle.std.specs.FinMap as finite
use Rattle.std.specs.FinMap.{FinMap, get-insert}
use Rattle.std.specs.Option.{option_copied}
use Rattle.std.proofs.lemmas.List.Elements.{All-push, All-weaker}
use Rattle.ratio_core.specs.Rational.{Rational}
use Rattle.aff_core.specs.Address.{Address, address_cmp, address_eq, address_eq-Decides, address_total}
use Rattle.aff_core.specs.Function.{Function}
use Rattle.fresh_bridging.specs.Entries.{Entry, function_in}
use Rattle.bridge_plan.specs.Stands.{AreFunctions}
use Rattle.bridge_plan.proofs.Made.{one_made}
use Rattle.bridge_plan.proofs.Left.{taken_item}

abbrev Functions : Type 0
Functions = FinMap address_cmp Function

abbrev Terms : Type 0
Terms = List (Address × Rational)

abbrev HasKey : Functions → Address × Rational → Type 0
HasKey m t = IsTrue (finite.contains_key m t.0)

abbrev pub Covers : List Entry → Functions → Terms → Type 0
Covers es m ts = AreFunctions es m × All (HasKey m) ts

has_still : (m : Functions) (k : Address) (f : Function) (q : Address)
    → IsTrue (finite.contains_key m q)
    → IsTrue (finite.contains_key (finite.insert m k f) q)
has_still m k f q h = ap is_some (get-insert address_total m k f q) ∙ by (address_eq q k)
  where
    by : (b : Bool) → is_some (cond b (Some f) (finite.get m q)) ≡ true
    by true = refl
    by false = h

has_now : (m : Functions) (k : Address) (f : Function)
    → IsTrue (finite.contains_key (finite.insert m k f) k)
has_now m k f =
    ap is_some (get-insert address_total m k f k)
    ∙ ap (λ b. is_some (cond b (Some f) (finite.get m k))) ((address_eq-Decides k k).1 refl)

module _ (es : List Entry) (m after : Functions) (ts : Terms) (i : ℕ) (t : Address × Rational)
    (covers : Covers es m (take i ts)) (is : t ≡ get_or ts i t) (inside : i < length ts) where
  pub one_covered : (f : Function) → f ≡ function_in es t.0 → after ≡ finite.insert m t.0 f
      → Covers es after (take (i + 1) ts)
  one_covered f f_is after_is =
      subst (λ n. Covers es n (take (i + 1) ts)) (sym after_is) (
        one_made m es t.0 f covers.0 f_is,
        subst (All (HasKey (finite.insert m t.0 f))) (sym (taken_item ts i t is inside))
            (All-push (HasKey (finite.insert m t.0 f)) (take i ts) t
            (All-weaker (HasKey m) (HasKey (finite.insert m t.0 f))
            (λ u h. has_still m t.0 f u.0 h) (take i ts) covers.1)
            (has_now m t.0 f)),
      )

  pub one_there : (o : Option (Bor Function)) (b : Bool) → option_copied o ≡ finite.get m t.0
      → is_some o ≡ not b → b ≡ false → after ≡ m → Covers es after (take (i + 1) ts)
  one_there o b found some none after_is =
      subst (λ n. Covers es n (take (i + 1) ts)) (sym after_is) (
        covers.0,
        subst (All (HasKey m)) (sym (taken_item ts i t is inside))
            (All-push (HasKey m) (take i ts) t covers.1
            (ap is_some (sym found) ∙ copied o ∙ some ∙ ap not none)),
      )
    where
      copied : (o : Option (Bor Function)) → is_some (option_copied o) ≡ is_some o
      copied None = refl
      copied (Some x) = refl
