-- Bodies whose functions and sets are within a bound, and what expressions put in make of them.
use Rattle.std.specs.Prelude.{◌≡◌, ℕ, ◌+◌, ◌*◌, ◌^◌, ◌<◌, ◌≤◌, Bool, true, false, List, [], All, refl}
use Rattle.std.proofs.Common.{sym, subst, arith}
use Rattle.std.proofs.lemmas.List.Elements.{All-head, All-map, All-weaker}
use Rattle.aff_core.specs.Address.{Address}
use Rattle.aff_core.specs.Arithmetic.{SubstitutionFits, composed}
use Rattle.aff_core.specs.Function.{Function, variable}
use Rattle.aff_core.specs.KeyOrder.{address_order}
use Rattle.bridge_face.specs.Law.{expressed}
use Rattle.fresh_bridging.specs.BodyLaws.{functions_put, set_put}
use Rattle.fresh_bridging.specs.Entries.{Entry, function_in, put_in_body, put_in_body_fits, put_into, put_into_fits}
use Rattle.fresh_bridging.specs.ExistenceLaws.{group_put}
use Rattle.fresh_bridging.specs.FitTests.{Decides-all, substitution_fits, substitution_fits_Decides}
use Rattle.fresh_bridging.specs.MentionLaws.{by_lookup, composed-variable}
use Rattle.item_core.specs.declared.image.Expression.{Expression}
use Rattle.item_core.specs.declared.image.Expression.TheVariants.{Kept, Bridged}
use Rattle.item_core.specs.declared.item.Body.{Body}
use Rattle.item_core.specs.declared.item.Body.TheVariants.{Affine, AffineVec, AffineObj}
use Rattle.item_core.specs.Item.{functions_of, is_group, set_of}
use Rattle.small_number_laws.specs.SmallNumbers.{set_numbers}
use Rattle.small_number_laws.specs.Whole.{AreSmall}
use Rattle.small_number_laws.specs.WithinLaws.{IsFunctionWithin, composed_within, substitution_fits_within, variable_within, within_more}

-- the coefficients of each function weigh no more than a number, and its constant is no more than
-- 2 ^ 41 times as large; the set's numbers are small
pub record IsBodyWithin (a : ℕ) (b : Body) : Type 0 where
  pub functions : All (IsFunctionWithin a (a * 2 ^ 41)) (functions_of b)
  pub set : AreSmall (set_numbers (set_of b))

pub all_more : (a b k l : ℕ) (fs : List Function) → a ≤ b → k ≤ l → All (IsFunctionWithin a k) fs
    → All (IsFunctionWithin b l) fs
all_more a b k l fs h e all =
    All-weaker (IsFunctionWithin a k) (IsFunctionWithin b l) (λ f. within_more a b k l f h e) fs all

pub body_more : (a b : ℕ) (body : Body) → a ≤ b → IsBodyWithin a body → IsBodyWithin b body
body_more a b body h w = record {
  functions =
      all_more a b (a * 2 ^ 41) (b * 2 ^ 41) (functions_of body) h (omega (arith, h)) w.functions;
  set = w.set;
}

-- ---- what expressions are put in

-- the expression's function is within these bounds
abbrev pub IsEntryWithin : ℕ → ℕ → Entry → Type 0
IsEntryWithin l c e = IsFunctionWithin l c (expressed e.expression)

module _ (l c : ℕ) (entries : List Entry) (one : 1 ≤ l) (all : All (IsEntryWithin l c) entries)
  where
    each : (v : Address) → IsFunctionWithin l c (function_in entries v)
    each v =
        by_lookup (λ e. IsFunctionWithin l c (expressed e)) entries v all
        (within_more 1 l 0 c (variable v) one (omega arith) (variable_within v))

    one_put : (a k : ℕ) (f : Function) → IsFunctionWithin a k f
        → IsFunctionWithin (a * l) (k + a * c) (composed (function_in entries) f)
    one_put a k f w = composed_within address_order l c (function_in entries) each a k f w

    one_fits : (a k : ℕ) (f : Function) → IsFunctionWithin a k f → a * l < 2 ^ 127
        → k + a * c < 2 ^ 127 → substitution_fits (function_in entries) f ≡ true
    one_fits a k f w h g =
        (substitution_fits_Decides (function_in entries) f).1
        (substitution_fits_within address_order l c (function_in entries) each a k f w h g)

    -- in an expression
    into_composed : (e : Expression)
        → composed (function_in entries) (expressed e) ≡ expressed (put_into entries e)
    into_composed (Kept var) = composed-variable (function_in entries) var
    into_composed (Bridged func) = refl

    pub into_within : (a k : ℕ) (e : Expression) → IsFunctionWithin a k (expressed e)
        → IsFunctionWithin (a * l) (k + a * c) (expressed (put_into entries e))
    into_within a k e w =
        subst (IsFunctionWithin (a * l) (k + a * c)) (into_composed e)
        (one_put a k (expressed e) w)

    pub into_fits : (a k : ℕ) (e : Expression) → IsFunctionWithin a k (expressed e)
        → a * l < 2 ^ 127 → k + a * c < 2 ^ 127 → put_into_fits entries e ≡ true
    into_fits a k (Kept var) w h g = refl
    into_fits a k (Bridged func) w h g = one_fits a k func w h g

    -- in a body
    functions_within : (a k : ℕ) (b : Body) → is_group b ≡ false
        → All (IsFunctionWithin a k) (functions_of b)
        → All (IsFunctionWithin (a * l) (k + a * c)) (functions_of (put_in_body entries b))
    functions_within a k b row w =
        subst (All (IsFunctionWithin (a * l) (k + a * c))) (sym (functions_put entries b row))
        (All-map (IsFunctionWithin (a * l) (k + a * c)) (composed (function_in entries))
        (functions_of b)
        (All-weaker (IsFunctionWithin a k)
        (λ f. IsFunctionWithin (a * l) (k + a * c) (composed (function_in entries) f))
        (one_put a k) (functions_of b) w))

    -- the body with the expressions is within another bound
    pub put_within : (a d : ℕ) (b : Body) → a ≤ d → a * l ≤ d → a * 2 ^ 41 + a * c ≤ d * 2 ^ 41
        → IsBodyWithin a b → IsBodyWithin d (put_in_body entries b)
    put_within a d b h g e w = by_group (is_group b) refl
      where
        by_group : (t : Bool) → is_group b ≡ t → IsBodyWithin d (put_in_body entries b)
        by_group true is =
            subst (IsBodyWithin d) (sym (group_put entries b is)) (body_more a d b h w)
        by_group false is = record {
          functions =
              all_more (a * l) d (a * 2 ^ 41 + a * c) (d * 2 ^ 41)
              (functions_of (put_in_body entries b)) g e
              (functions_within a (a * 2 ^ 41) b is w.functions);
          set = subst (λ s. AreSmall (set_numbers s)) (sym (set_put entries b is)) w.set;
        }

    pub put_fits : (a : ℕ) (b : Body) → a * l < 2 ^ 127 → a * 2 ^ 41 + a * c < 2 ^ 127
        → IsBodyWithin a b → put_in_body_fits entries b ≡ true
    put_fits a (Affine func set) h g w =
        one_fits a (a * 2 ^ 41) func
        (All-head (IsFunctionWithin a (a * 2 ^ 41)) func [] w.functions) h g
    put_fits a (AffineVec funcs set) h g w =
        (Decides-all (substitution_fits (function_in entries))
        (SubstitutionFits (function_in entries))
        (substitution_fits_Decides (function_in entries)) funcs).1
        (All-weaker (IsFunctionWithin a (a * 2 ^ 41)) (SubstitutionFits (function_in entries))
        (λ f k. substitution_fits_within address_order l c (function_in entries) each a
        (a * 2 ^ 41) f k h g) funcs w.functions)
    put_fits a (AffineObj sense func) h g w =
        one_fits a (a * 2 ^ 41) func
        (All-head (IsFunctionWithin a (a * 2 ^ 41)) func [] w.functions) h g
    put_fits a _ h g w = refl
