-- The first words of lines.
use Rattle.std.specs.Prelude.{ℕ, List, Option, bytes_eq, codes}
use Rattle.std.specs.List.{find}
use Rattle.script_core.specs.declared.keyword.Keyword.{Keyword}
use Rattle.script_core.specs.declared.keyword.Keyword.TheVariants.{Var, Vars, Bound, Row, Vbound, Vrow, Min, Max, Minvar, Maxvar, Feasibility, Coef, Vcoef, Const, Vconst, Objcoef, Objconst, Set, Reset, Free, Delvar, Delrow, Renvar, Renrow, Target, Support, Unsupport, Cost, On, Off, Attach, Detach, Begin, Commit, Abandon, Optimize, Bridged, Plan, Write, Load, Quit}
use Rattle.script_core.specs.declared.keyword.TheConstants.{KEYWORDS}

abbrev pub keyword_text : Keyword → List ℕ
keyword_text Var = codes "var"
keyword_text Vars = codes "vars"
keyword_text Bound = codes "bound"
keyword_text Row = codes "row"
keyword_text Vbound = codes "vbound"
keyword_text Vrow = codes "vrow"
keyword_text Min = codes "min"
keyword_text Max = codes "max"
keyword_text Minvar = codes "minvar"
keyword_text Maxvar = codes "maxvar"
keyword_text Feasibility = codes "feasibility"
keyword_text Coef = codes "coef"
keyword_text Vcoef = codes "vcoef"
keyword_text Const = codes "const"
keyword_text Vconst = codes "vconst"
keyword_text Objcoef = codes "objcoef"
keyword_text Objconst = codes "objconst"
keyword_text Set = codes "set"
keyword_text Reset = codes "reset"
keyword_text Free = codes "free"
keyword_text Delvar = codes "delvar"
keyword_text Delrow = codes "delrow"
keyword_text Renvar = codes "renvar"
keyword_text Renrow = codes "renrow"
keyword_text Target = codes "target"
keyword_text Support = codes "support"
keyword_text Unsupport = codes "unsupport"
keyword_text Cost = codes "cost"
keyword_text On = codes "on"
keyword_text Off = codes "off"
keyword_text Attach = codes "attach"
keyword_text Detach = codes "detach"
keyword_text Begin = codes "begin"
keyword_text Commit = codes "commit"
keyword_text Abandon = codes "abandon"
keyword_text Optimize = codes "optimize"
keyword_text Bridged = codes "bridged"
keyword_text Plan = codes "plan"
keyword_text Write = codes "write"
keyword_text Load = codes "load"
keyword_text Quit = codes "quit"

-- the keyword that a token is
unfoldable pub keyword_of : List ℕ → Option Keyword
keyword_of token = find (λ keyword. bytes_eq token (keyword_text keyword)) KEYWORDS
