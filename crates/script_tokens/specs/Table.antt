-- The words of lines on tables: targets, native kinds, and edges by number.
use Rattle.std.specs.Prelude.{ℕ, ◌-◌, ◌==◌, Bool, ◌&&◌, List, Option, Some, None, bytes_eq, codes, if◌then◌else◌}
use Rattle.std.specs.List.{find, before_first, after_first}
use Rattle.item_core.specs.declared.edge.Edge.{Edge}
use Rattle.item_core.specs.declared.kind.Kind.{Kind}
use Rattle.item_core.specs.declared.kind.TheConstants.{KINDS}
use Rattle.item_core.specs.declared.table.Target.{Target}
use Rattle.item_core.specs.declared.table.Target.TheVariants.{Standard, Rows, Cone, All, Less}
use Rattle.item_core.specs.Edge as item
use Rattle.item_core.specs.Kind.{first_of, first_text, is_native, second_of, second_text}

unfoldable pub target_of : List ℕ → Option Target
target_of token =
    if bytes_eq token (codes "standard") then Some Standard
    else (if bytes_eq token (codes "rows") then Some Rows
    else (if bytes_eq token (codes "cone") then Some Cone
    else (if bytes_eq token (codes "all") then Some All
    else (if bytes_eq token (codes "less") then Some Less
    else None))))

-- a native kind, by the two words of its name
abbrev pub is_native_named : List ℕ → List ℕ → Kind → Bool
is_native_named first second kind =
    is_native kind && bytes_eq first (first_text (first_of kind))
    && bytes_eq second (second_text (second_of kind))

-- the native kind with a name, as `affine:LessThan`
unfoldable pub native_kind_of : List ℕ → Option Kind
native_kind_of token =
    find
    (is_native_named (before_first (λ b. b == 58) token) (after_first (λ b. b == 58) token))
    KINDS.kinds

-- the edge with a number, counted from 1
unfoldable pub edge_numbered : ℕ → Option Edge
edge_numbered number =
    if number == 0 then None else item.edge_numbered (number - 1)
