-- What a loop sets, one item after another: a value at each key that an item is of, while others stay.
use Rattle.std.specs.Prelude.{◌≡◌, ◌||◌, Bool, true, false, cond, List, [], ◌∷◌}
use Rattle.std.specs.List.{list_any}
use Rattle.std.proofs.Common.{sym, ap, ◌∙◌}

module _ {X K T : Type 0} (is_of : X → K → Bool) (value : K → T) where
  abbrev pub of_one : List X → K → Bool
  of_one xs k = list_any (λ x. is_of x k) xs

  -- what is there now, with what is left to set, is what all is to be
  pub record IsSetting (all left : List X) (old now : K → T) : Type 0 where
    pub so_far :
        (k : K) → cond (of_one left k) (value k) (now k) ≡ cond (of_one all k) (value k) (old k)

  pub setting_start : (all left : List X) (old now : K → T) → left ≡ all
      → ((k : K) → now k ≡ old k) → IsSetting all left old now
  setting_start all left old now e same = record {
    so_far = λ k i. cond (of_one (e i) k) (value k) (same k i);
  }

  two : (a b : Bool) (v old : T) → cond b v (cond a v old) ≡ cond (a || b) v old
  two true true v old = λ i. v
  two true false v old = λ i. v
  two false b v old = λ i. cond b v old

  pub setting_more : (all left rest : List X) (x : X) (old now after : K → T)
      → IsSetting all left old now → left ≡ x ∷ rest
      → ((k : K) → after k ≡ cond (is_of x k) (value k) (now k)) → IsSetting all rest old after
  setting_more all left rest x old now after h next sets = record {
    so_far = λ k. ap (cond (of_one rest k) (value k)) (sets k)
        ∙ two (is_of x k) (of_one rest k) (value k) (now k)
        ∙ ap (λ l. cond (of_one l k) (value k) (now k)) (sym next)
        ∙ h.so_far k;
  }

  pub setting_done : (all left : List X) (old now : K → T) → IsSetting all left old now
      → left ≡ [] → (k : K) → now k ≡ cond (of_one all k) (value k) (old k)
  setting_done all left old now h none k =
      ap (λ l. cond (of_one l k) (value k) (now k)) (sym none) ∙ h.so_far k
