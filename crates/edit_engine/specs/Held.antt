-- What contracts see of a session: its cache, the edits of a group while one is open, and how many
-- pivots a solve may take where its line names no number.
use Rattle.std.specs.Prelude.{ℕ, List, Option, refl}
use Rattle.std.specs.Coded.{Coded, code_by, coded×, coded_list, coded_option, coded_ℕ}
use Rattle.cache_layer.specs.Cached.{Cached, cached_code}
use Rattle.cache_layer.specs.Cached as cached
use Rattle.cache_layer.specs.Answers.{IsUntouched}
use Rattle.cache_layer.specs.CacheState.{CacheState, with_table}
use Rattle.edit_engine.specs.Script.{Machine, machine_by}
use Rattle.io_face.specs.Told.{Told}
use Rattle.item_core.specs.declared.table.Table.{Table}
use Rattle.report_core.specs.declared.answer.Answer.{Answer}
use Rattle.report_core.specs.declared.answer.Answer.TheVariants.{Refused}
use Rattle.user_model.specs.declared.edit.Edit.{Edit}
use Rattle.user_model.specs.contracts.edit.Edit as edit

pub record SessionValue : Type 0 where
  pub cache : Cached
  pub group : Option (List Edit)
  pub pivots : ℕ

abbrev pub held_code : Coded SessionValue
held_code =
    code_by (Cached × (Option (List Edit) × ℕ))
    (coded× cached_code (coded× (coded_option (coded_list (edit.the_row).coded)) coded_ℕ))
    (λ s. (s.cache, (s.group, s.pivots)))
    (λ p. record { cache = p.0; group = p.1.0; pivots = p.1.1 }) (λ _. refl)

abbrev pub state_of : SessionValue → CacheState
state_of session = cached.state_of session.cache

-- the machine that lines step over, beside what the shelf tells
abbrev pub machine_of : SessionValue → Told → Machine
machine_of session shelf = machine_by (state_of session) session.group session.pivots shelf

-- by another table and another allowance
abbrev pub set_up : Machine → Table → ℕ → Machine
set_up machine table pivots =
    record machine { state = with_table machine.state table; pivots = pivots }

-- a refused line leaves all of the cache but its bridges' turns
abbrev pub KeepsRefused : Answer → Cached → Cached → Type 0
KeepsRefused (Refused text) old new = IsUntouched old new
KeepsRefused answer old new = Unit {0}
