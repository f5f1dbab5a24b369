-- Expressions put into items, under other addresses in the same order.
use Rattle.std.specs.Prelude.{◌≡◌, Bool, true, false, ◌&&◌, cond, List, [], ◌∷◌, Option, Some, None, find, map, refl}
use Rattle.std.proofs.Common.{ap, ap₂, ◌∙◌}
use Rattle.std.specs.List.{list_all}
use Rattle.std.specs.Option.{option_map, option_map_or}
use Rattle.std.specs.Ordering.{is_eq}
use Rattle.set_core.specs.declared.set.Set.{Set}
use Rattle.aff_core.specs.Address.{Address, address_eq}
use Rattle.aff_core.specs.Arithmetic.{composed}
use Rattle.aff_core.specs.Function.{Function}
use Rattle.aff_core.specs.KeyOrder.{address_order}
use Rattle.aff_core.specs.declared.sense.Sense.{Sense}
use Rattle.bridge_face.specs.Law.{expressed, listed}
use Rattle.expansion.specs.Rules.{ItemChildren as Children}
use Rattle.fresh_bridging.specs.Entries.{Entry, expression_in, function_in, is_kept, kept_in, objective_by, plain_or_affine, put_in, put_in_body, put_in_body_fits, put_in_fits, put_into, put_into_fits, vector_by}
use Rattle.fresh_bridging.specs.FitTests.{substitution_fits}
use Rattle.item_core.specs.declared.image.Expression.{Expression}
use Rattle.item_core.specs.declared.image.Expression.TheVariants.{Kept, Bridged}
use Rattle.item_core.specs.declared.item.Body.{Body}
use Rattle.item_core.specs.declared.item.Body.TheVariants.{Group, Free, Plain, Affine, PlainVec, AffineVec, PlainObj, AffineObj}
use Rattle.item_core.specs.declared.item.Item.{Item}
use Rattle.renumbering_laws.specs.RenamedFitLaws.{substitution_fits-renamed}
use Rattle.renumbering_laws.specs.RenamedFunctions.{composed-renamed, variable-renamed}
use Rattle.renumbering_laws.specs.RenamedItems.{IsRenaming, map_either, renamed, renamed_body, renamed_expression, renamed_item}

module _ (σ : Address → Address) where
  abbrev pub renamed_entry : Entry → Entry
  renamed_entry e =
      record { component = σ e.component; expression = renamed_expression σ e.expression }

  -- children, as an edge makes them
  abbrev pub renamed_children : Children Item → Children Item
  renamed_children children = record {
    groups = map (renamed_item σ) children.groups;
    others = map (renamed_item σ) children.others;
  }

  is_kept-renamed : (e : Expression) → is_kept (renamed_expression σ e) ≡ is_kept e
  is_kept-renamed (Kept var) = refl
  is_kept-renamed (Bridged func) = refl

  all_kept-renamed : (es : List Expression)
      → list_all is_kept (map (renamed_expression σ) es) ≡ list_all is_kept es
  all_kept-renamed [] = refl
  all_kept-renamed (e ∷ es) = ap₂ (λ a b. a && b) (is_kept-renamed e) (all_kept-renamed es)

  kept_in-renamed : (es : List Expression)
      → kept_in (map (renamed_expression σ) es) ≡ map σ (kept_in es)
  unfolding kept_in
  kept_in-renamed [] = refl
  kept_in-renamed (Kept var ∷ es) = ap (λ vs. σ var ∷ vs) (kept_in-renamed es)
  kept_in-renamed (Bridged func ∷ es) = kept_in-renamed es

  plain_or_affine-renamed : (e : Expression) (set : Set)
      → plain_or_affine (renamed_expression σ e) set ≡ renamed_body σ (plain_or_affine e set)
  plain_or_affine-renamed (Kept var) set = refl
  plain_or_affine-renamed (Bridged func) set = refl

  objective_by-renamed : (sense : Sense) (e : Expression)
      → objective_by sense (renamed_expression σ e) ≡ renamed_body σ (objective_by sense e)
  objective_by-renamed sense (Kept var) = refl
  objective_by-renamed sense (Bridged func) = refl

  pub listed-renamed : (o : Option Item)
      → listed (option_map (renamed_item σ) o) ≡ map (renamed_item σ) (listed o)
  listed-renamed None = refl
  listed-renamed (Some item) = refl

module _ (σ : Address → Address) (r : IsRenaming σ) where
  pub expressed-renamed : (e : Expression)
      → expressed (renamed_expression σ e) ≡ renamed σ (expressed e)
  expressed-renamed (Kept var) = variable-renamed σ r.order var
  expressed-renamed (Bridged func) = refl

  -- ---- what stands for a variable

  found-renamed : (es : List Entry) (v : Address)
      → find (λ e. address_eq e.component (σ v)) (map (renamed_entry σ) es)
      ≡ option_map (renamed_entry σ) (find (λ e. address_eq e.component v) es)
  found-renamed [] v = refl
  found-renamed (e ∷ es) v =
      ap₂ (λ c o. cond (is_eq c) (Some (renamed_entry σ e)) o) (r.order e.component v)
      (found-renamed es v)
      ∙ over (address_eq e.component v)
    where
      over : (b : Bool) → cond b (Some (renamed_entry σ e))
          (option_map (renamed_entry σ) (find (λ e. address_eq e.component v) es))
          ≡ option_map (renamed_entry σ)
          (cond b (Some e) (find (λ e. address_eq e.component v) es))
      over true = refl
      over false = refl

  pub expression_in-renamed : (es : List Entry) (v : Address)
      → expression_in (map (renamed_entry σ) es) (σ v)
      ≡ renamed_expression σ (expression_in es v)
  expression_in-renamed es v =
      ap (λ o. option_map_or (λ e. e.expression) o (Kept (σ v))) (found-renamed es v)
      ∙ over (find (λ e. address_eq e.component v) es)
    where
      over : (o : Option Entry)
          → option_map_or (λ e. e.expression) (option_map (renamed_entry σ) o) (Kept (σ v))
          ≡ renamed_expression σ (option_map_or (λ e. e.expression) o (Kept v))
      over None = refl
      over (Some e) = refl

  pub function_in-renamed : (es : List Entry) (v : Address)
      → function_in (map (renamed_entry σ) es) (σ v) ≡ renamed σ (function_in es v)
  function_in-renamed es v =
      ap expressed (expression_in-renamed es v) ∙ expressed-renamed (expression_in es v)

  -- ---- put in

  module _ (es : List Entry) where
    abbrev fs : List Entry
    fs = map (renamed_entry σ) es

    put_function : (f : Function)
        → composed (function_in fs) (renamed σ f) ≡ renamed σ (composed (function_in es) f)
    put_function f =
        composed-renamed address_order σ r.order (function_in es) (function_in fs)
        (function_in-renamed es) f

    function_fits : (f : Function)
        → substitution_fits (function_in fs) (renamed σ f) ≡ substitution_fits (function_in es) f
    function_fits f =
        substitution_fits-renamed address_order σ r.order (function_in es) (function_in fs)
        (function_in-renamed es) f

    pub put_into-renamed : (e : Expression)
        → put_into fs (renamed_expression σ e) ≡ renamed_expression σ (put_into es e)
    put_into-renamed (Kept var) = expression_in-renamed es var
    put_into-renamed (Bridged func) = ap Bridged (put_function func)

    vector_by-renamed : (b : Bool) (xs : List Expression) (set : Set)
        → vector_by b (map (renamed_expression σ) xs) set ≡ renamed_body σ (vector_by b xs set)
    unfolding vector_by
    vector_by-renamed true xs set = ap (λ vs. PlainVec vs set) (kept_in-renamed σ xs)
    vector_by-renamed false xs set =
        ap (λ gs. AffineVec gs set)
        (map_either (renamed_expression σ) expressed expressed (renamed σ) expressed-renamed xs)

    put_in_body-renamed : (b : Body)
        → put_in_body fs (renamed_body σ b) ≡ renamed_body σ (put_in_body es b)
    unfolding put_in_body
    put_in_body-renamed (Group set vars) = refl
    put_in_body-renamed (Free vars) = refl
    put_in_body-renamed (Plain var set) =
        ap (λ e. plain_or_affine e set) (expression_in-renamed es var)
        ∙ plain_or_affine-renamed σ (expression_in es var) set
    put_in_body-renamed (Affine func set) = ap (λ f. Affine f set) (put_function func)
    put_in_body-renamed (PlainVec vars set) =
        let xs = map (expression_in es) vars in
        ap (λ ys. vector_by (list_all is_kept ys) ys set)
        (map_either σ (expression_in fs) (expression_in es) (renamed_expression σ)
        (expression_in-renamed es) vars)
        ∙ ap (λ b. vector_by b (map (renamed_expression σ) xs) set) (all_kept-renamed σ xs)
        ∙ vector_by-renamed (list_all is_kept xs) xs set
    put_in_body-renamed (AffineVec funcs set) =
        ap (λ gs. AffineVec gs set)
        (map_either (renamed σ) (composed (function_in fs)) (composed (function_in es)) (renamed σ)
        put_function funcs)
    put_in_body-renamed (PlainObj sense var) =
        ap (objective_by sense) (expression_in-renamed es var)
        ∙ objective_by-renamed σ sense (expression_in es var)
    put_in_body-renamed (AffineObj sense func) = ap (AffineObj sense) (put_function func)

    pub put_in-renamed : (item : Item)
        → put_in fs (renamed_item σ item) ≡ renamed_item σ (put_in es item)
    put_in-renamed item =
        ap (λ b. record { at = σ item.at; body = b }) (put_in_body-renamed item.body)

    -- ---- and what of it fits

    pub put_into_fits-renamed : (e : Expression)
        → put_into_fits fs (renamed_expression σ e) ≡ put_into_fits es e
    put_into_fits-renamed (Kept var) = refl
    put_into_fits-renamed (Bridged func) = function_fits func

    pub all_put_into_fits : (xs : List Expression)
        → list_all (put_into_fits fs) (map (renamed_expression σ) xs)
        ≡ list_all (put_into_fits es) xs
    all_put_into_fits [] = refl
    all_put_into_fits (x ∷ xs) =
        ap₂ (λ a b. a && b) (put_into_fits-renamed x) (all_put_into_fits xs)

    functions_fit : (gs : List Function)
        → list_all (substitution_fits (function_in fs)) (map (renamed σ) gs)
        ≡ list_all (substitution_fits (function_in es)) gs
    functions_fit [] = refl
    functions_fit (g ∷ gs) = ap₂ (λ a b. a && b) (function_fits g) (functions_fit gs)

    put_in_body_fits-renamed : (b : Body)
        → put_in_body_fits fs (renamed_body σ b) ≡ put_in_body_fits es b
    put_in_body_fits-renamed (Affine func set) = function_fits func
    put_in_body_fits-renamed (AffineVec funcs set) = functions_fit funcs
    put_in_body_fits-renamed (AffineObj sense func) = function_fits func
    put_in_body_fits-renamed _ = refl

    pub put_in_fits-renamed : (item : Item)
        → put_in_fits fs (renamed_item σ item) ≡ put_in_fits es item
    put_in_fits-renamed item = put_in_body_fits-renamed item.body
