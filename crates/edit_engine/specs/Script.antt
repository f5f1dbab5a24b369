-- The script machine: what each line answers in a state, and the state that it leaves. A state is
-- the user's model, the table, and whether a solver is attached; what an attached solver holds is
-- the fresh bridging of the model by the table, a function of these. The machine has beside its
-- state the edits of a group, while one is open, and what no line changes: how many pivots an
-- optimise may take whose line names no number, and what the shelf tells from which a line `load`
-- fetches its file.
--
--     DoesAlone machine command answer new    a command while no group is open
--     DoesInGroup state edits command ..      a command while a group of these edits is open
--     group_after group said answer           the group that a line leaves
--     DoesLine machine line answer new        a line, by the state that it leaves
--     Steps machine line answer new           a line, by the machine that it leaves
--     Answered machine line answer new        a line, where memory may run out
use Rattle.std.specs.Prelude.{◌≡◌, ℕ, Bool, true, false, List, [], ◌∷◌, ◌++◌, All, IfOk, Option, Some, None, Result, Ok, Err, ◌⊎◌, length, unwrap_or}
use Rattle.std.specs.List.{zip}
use Rattle.lists.specs.declared.memory.Memory.{Memory as NoMemory}
use Rattle.bridge_graph.specs.Hypergraph.{Hypergraph}
use Rattle.bridge_graph.specs.Tree.{IsLeastCost, IsTreeless}
use Rattle.bridge_graph.specs.declared.Choice.{Choice}
use Rattle.bridged_report.specs.Lines.{bridged_text}
use Rattle.cache_layer.specs.Answers.{Becomes, IsAttached, IsEdited, IsGroupAnswer, IsLoaded}
use Rattle.cache_layer.specs.Outcome.{IsOptimized}
use Rattle.cache_layer.specs.CacheState.{Bridging, CacheState, detached, leaves, with_table}
use Rattle.cache_layer.specs.declared.fault.AttachFault.{AttachFault}
use Rattle.cache_layer.specs.declared.fault.AttachFault.TheVariants as attach
use Rattle.cache_layer.specs.declared.fault.EditFault.{EditFault}
use Rattle.cache_layer.specs.declared.fault.EditFault.TheVariants as edit
use Rattle.cache_layer.specs.declared.fault.GroupFault.{GroupFault}
use Rattle.cache_layer.specs.declared.fault.GroupFault.TheVariants as grouped
use Rattle.cache_layer.specs.declared.fault.OptFault.{OptFault}
use Rattle.cache_layer.specs.declared.fault.OptFault.TheVariants as opt
use Rattle.certificates.specs.Points.{variables_of}
use Rattle.cert_text.specs.Text.{certificate_text}
use Rattle.certificates.specs.Good.{Good}
use Rattle.certificates.specs.declared.certificate.Certificate.{Certificate}
use Rattle.file_answers.specs.FileAnswers.{fault_answer, refused}
use Rattle.fresh_bridging.specs.TheRules.{IsChoice, graph_of}
use Rattle.io_face.specs.Told.{Told}
use Rattle.item_core.specs.declared.kind.Kind.{Kind}
use Rattle.item_core.specs.declared.kind.TheConstants.{KINDS}
use Rattle.item_core.specs.declared.table.Table.{Table}
use Rattle.item_core.specs.Kind.{kind_number}
use Rattle.mof_fetch.specs.Fetched.{IsReadOf}
use Rattle.mof_fetch.specs.declared.fault.FileFault.{FileFault}
use Rattle.mof_write.specs.Written.{written}
use Rattle.report_core.specs.Plan.{plan_text}
use Rattle.report_core.specs.Refused.{refused_of}
use Rattle.report_core.specs.Replies.{done_text, held_text}
use Rattle.report_core.specs.Words.{newline}
use Rattle.report_core.specs.declared.answer.Answer.{Answer}
use Rattle.report_core.specs.declared.answer.Answer.TheVariants.{Memory, Printed, Quit, Silent}
use Rattle.report_core.specs.declared.refused.Place.TheVariants.{Line}
use Rattle.report_core.specs.declared.refused.Refused.TheVariants.{AlreadyAttached, BadLine, Group, GroupOpen, Limit, NoGroup, NotAttached, NotEmpty, Overflow, TooLarge, Unsupported}
use Rattle.script_core.specs.declared.command.Command.{Command}
use Rattle.script_core.specs.declared.command.Command.TheVariants as line
use Rattle.script_core.specs.declared.fault.LineFault.{LineFault}
use Rattle.script_core.specs.declared.fault.LineFault.TheVariants as fault
use Rattle.script_core.specs.Line.{line_said}
use Rattle.user_model.specs.Model.{ModelValue}
use Rattle.user_model.specs.declared.edit.Edit.{Edit}
use Rattle.edit_engine.specs.Bare.{is_bare}
use Rattle.edit_engine.specs.Tables.{costing, supporting, switched, targeted}

pub record Machine : Type 0 where
  pub state : CacheState
  pub group : Option (List Edit)
  pub pivots : ℕ
  pub shelf : Told

abbrev pub machine_by : CacheState → Option (List Edit) → ℕ → Told → Machine
machine_by s group pivots shelf =
    record { state = s; group = group; pivots = pivots; shelf = shelf }

-- in another state, and with another group or none
abbrev pub moved : Machine → CacheState → Option (List Edit) → Machine
moved machine s group = record machine { state = s; group = group }

-- ---- what is printed

abbrev pub done : Option ℕ → Answer
done count = Printed (done_text count)

abbrev pub edit_answer : Result (Option ℕ) EditFault → Answer
edit_answer (Ok count) = done count
edit_answer (Err (edit.Refused r)) = refused (refused_of r)
edit_answer (Err (edit.Unsupported kind)) = refused (Unsupported kind)
edit_answer (Err (edit.Overflow place)) = refused (Overflow place)
edit_answer (Err edit.Memory) = Memory

-- an edit is held
abbrev pub held : Answer
held = Printed held_text

-- the edits of a group were made, or none of them
abbrev pub group_answer : Result (Option ℕ) GroupFault → Answer
group_answer (Ok count) = done count
group_answer (Err (grouped.Refused index r)) = refused (Group index r)
group_answer (Err (grouped.Unsupported kind)) = refused (Unsupported kind)
group_answer (Err (grouped.Overflow place)) = refused (Overflow place)
group_answer (Err grouped.Memory) = Memory

abbrev pub attach_answer : Result ℕ AttachFault → Answer
attach_answer (Ok count) = done (Some count)
attach_answer (Err attach.AlreadyAttached) = refused AlreadyAttached
attach_answer (Err (attach.Unsupported kind)) = refused (Unsupported kind)
attach_answer (Err (attach.Overflow place)) = refused (Overflow place)
attach_answer (Err attach.Memory) = Memory

-- a certificate in the names of the model
abbrev pub optimize_answer : ModelValue → Result Certificate OptFault → Answer
optimize_answer model (Ok certificate) =
    Printed (certificate_text (variables_of model.groups) model.rows certificate)
optimize_answer model (Err opt.NotAttached) = refused NotAttached
optimize_answer model (Err (opt.TooLarge cells)) = refused (TooLarge cells)
optimize_answer model (Err (opt.Overflow place)) = refused (Overflow place)
optimize_answer model (Err (opt.Limit pivots)) = refused (Limit pivots)
optimize_answer model (Err opt.Memory) = Memory

-- a file's edits were made, or none of them
abbrev pub load_answer : Result Unit EditFault → Answer
load_answer (Ok loaded) = done None
load_answer (Err (edit.Refused r)) = refused (refused_of r)
load_answer (Err (edit.Unsupported kind)) = refused (Unsupported kind)
load_answer (Err (edit.Overflow place)) = refused (Overflow place)
load_answer (Err edit.Memory) = Memory

-- ---- one line

-- what may be answered in a state, and the state that is left
abbrev pub Step : Type 1
Step = Answer → CacheState → Type 0

-- what a call may give, as it is printed
abbrev pub TellsCall : {A : Type 0} → (A → Answer) → (A → CacheState → Type 0) → Step
TellsCall {A} text gives answer new = (given : A) × gives given new × (answer ≡ text given)

-- nothing but the answer
abbrev pub Says : CacheState → Answer → Step
Says s said answer new = (answer ≡ said) × (new ≡ s)

-- the table is changed
abbrev pub Tabled : CacheState → (Table → Table) → Step
Tabled s change = TellsCall edit_answer (Becomes s (with_table s (change s.setting.table)))

-- the solver is detached, where one is attached
abbrev pub Detaches : Bool → CacheState → Step
Detaches true s answer new = (answer ≡ done None) × (new ≡ detached s)
Detaches false s answer new = Says s (refused NotAttached) answer new

-- what the solver holds, where one is attached
abbrev pub ShowsLeaves : Bool → CacheState → Step
ShowsLeaves true s answer new =
    (b : Bridging s) × Says s (Printed (bridged_text s.model (leaves b))) answer new
ShowsLeaves false s answer new = Says s (refused NotAttached) answer new

-- the least cost of the kind's trees, if it has any
abbrev pub IsCost : Hypergraph → ℕ → Option ℕ → Type 0
IsCost graph kind None = IsTreeless graph kind
IsCost graph kind (Some cost) = IsLeastCost graph kind cost

-- how the kind is bridged at least cost
abbrev pub IsChosen : Hypergraph → Kind × (Choice × Option ℕ) → Type 0
IsChosen graph (kind, (choice, cost)) =
    IsChoice graph (kind_number kind) choice × IsCost graph (kind_number kind) cost

-- so each kind
pub record AreKindChoices (graph : Hypergraph) (choices : List (Choice × Option ℕ)) : Type 0 where
  pub count : length choices ≡ length KINDS.kinds
  pub each : All (IsChosen graph) (zip KINDS.kinds choices)

abbrev pub AnswersPlan : CacheState → Step
AnswersPlan s answer new =
    (choices : List (Choice × Option ℕ)) × AreKindChoices (graph_of s.setting) choices
    × Says s (Printed (plan_text choices)) answer new

-- the first of the outcomes that holds; a certificate is good for the user's model
abbrev pub Optimizes : CacheState → ℕ → Step
Optimizes s pivots =
    TellsCall (optimize_answer s.model)
    (λ given new. IsOptimized s pivots given × IfOk given (Good s.model) × (new ≡ s))

-- the user's model as a file, in one line
abbrev pub file_line : ModelValue → List ℕ
file_line model = written model ++ newline

-- the edits of a file are made, or it is said why there are none
abbrev pub LoadsEdits : CacheState → Result (List Edit) FileFault → Step
LoadsEdits s (Ok edits) = TellsCall load_answer (IsLoaded s edits)
LoadsEdits s (Err fault) = Says s (fault_answer fault)

-- a file is fetched only while no solver is attached and nothing stands in the model
abbrev pub LoadsWhere : Bool → Bool → Told → CacheState → List ℕ → Step
LoadsWhere true bare shelf s name answer new = Says s (refused AlreadyAttached) answer new
LoadsWhere false false shelf s name answer new = Says s (refused NotEmpty) answer new
LoadsWhere false true shelf s name answer new =
    (read : Result (List Edit) FileFault) × IsReadOf shelf name read × LoadsEdits s read answer new

abbrev pub Loads : Told → CacheState → List ℕ → Step
Loads shelf s = LoadsWhere s.attached (is_bare s.model) shelf s

-- while no group is open
abbrev pub DoesAlone : Machine → Command → Step
DoesAlone m line.Silent = Says m.state Silent
DoesAlone m line.Quit = Says m.state Quit
DoesAlone m (line.Edit e) = TellsCall edit_answer (IsEdited m.state e)
DoesAlone m line.Begin = Says m.state (done None)
DoesAlone m line.Commit = Says m.state (refused NoGroup)
DoesAlone m line.Abandon = Says m.state (refused NoGroup)
DoesAlone m (line.Target target) = Tabled m.state (targeted target)
DoesAlone m (line.Support kind value) = Tabled m.state (supporting kind value)
DoesAlone m (line.Cost edge cost) = Tabled m.state (costing edge cost)
DoesAlone m (line.Switch family value) = Tabled m.state (switched family value)
DoesAlone m line.Attach = TellsCall attach_answer (IsAttached m.state)
DoesAlone m line.Detach = Detaches m.state.attached m.state
DoesAlone m line.Bridged = ShowsLeaves m.state.attached m.state
DoesAlone m line.Plan = AnswersPlan m.state
DoesAlone m (line.Optimize own) = Optimizes m.state (unwrap_or own m.pivots)
DoesAlone m line.Write = Says m.state (Printed (file_line m.state.model))
DoesAlone m (line.Load name) = Loads m.shelf m.state name

-- while a group of these edits is open: they are made at once or not at all
abbrev pub DoesInGroup : CacheState → List Edit → Command → Step
DoesInGroup s edits line.Silent = Says s Silent
DoesInGroup s edits line.Quit = Says s Quit
DoesInGroup s edits (line.Edit e) = Says s held
DoesInGroup s edits line.Commit = TellsCall group_answer (IsGroupAnswer s edits)
DoesInGroup s edits line.Abandon = Says s (done None)
DoesInGroup s edits _ = Says s (refused GroupOpen)

abbrev pub DoesBy : Option (List Edit) → Machine → Command → Step
DoesBy None m = DoesAlone m
DoesBy (Some edits) m = DoesInGroup m.state edits

abbrev pub Does : Machine → Command → Step
Does m = DoesBy m.group m

-- an accepted `begin` opens a group, an edit is appended to it, and `commit` and `abandon` close it
abbrev pub group_by : Option (List Edit) → Result Command LineFault → Option (List Edit)
group_by None (Ok line.Begin) = Some []
group_by (Some edits) (Ok (line.Edit e)) = Some (edits ++ e ∷ [])
group_by (Some edits) (Ok line.Commit) = None
group_by (Some edits) (Ok line.Abandon) = None
group_by group said = group

abbrev pub is_printed : Answer → Bool
is_printed (Printed text) = true
is_printed answer = false

-- a command that closes a group where it is accepted
abbrev pub is_end : Command → Bool
is_end line.Commit = true
is_end line.Abandon = true
is_end command = false

-- the edits that are held after a command in an open group was answered so, before it is closed
abbrev pub edits_after : List Edit → Answer → Command → List Edit
edits_after edits (Printed text) (line.Edit e) = edits ++ e ∷ []
edits_after edits answer command = edits

-- the group after a line that was answered so
abbrev pub group_after : Option (List Edit) → Result Command LineFault → Answer → Option (List Edit)
group_after group said (Printed text) = group_by group said
group_after group said answer = group

abbrev pub DoesSaid : Machine → Result Command LineFault → Step
DoesSaid m (Ok command) = Does m command
DoesSaid m (Err fault.BadLine) = Says m.state (refused BadLine)
DoesSaid m (Err fault.Overflow) = Says m.state (refused (Overflow Line))
DoesSaid m (Err fault.Memory) = Says m.state Memory

abbrev pub DoesLine : Machine → List ℕ → Step
DoesLine m line = DoesSaid m (line_said line)

abbrev pub Steps : Machine → List ℕ → Answer → Machine → Type 0
Steps old line answer new = DoesLine old line answer new.state
    × (new ≡ moved old new.state (group_after old.group (line_said line) answer))

-- ---- out of memory

-- the state is the one before, that one without its solver, or one that the step leaves
abbrev pub IsLeftBy : Step → CacheState → CacheState → Type 0
IsLeftBy step old new = (new ≡ old) ⊎ (new ≡ detached old) ⊎ ((answer : Answer) × step answer new)

-- a step is made, or memory runs out on the way
abbrev pub Makes : Step → CacheState → Result Answer NoMemory → CacheState → Type 0
Makes step old (Ok answer) new = step answer new
Makes step old (Err memory) new = IsLeftBy step old new

-- of a group nothing is said after that
abbrev pub Answered : Machine → List ℕ → Answer → Machine → Type 0
Answered old line Memory new =
    IsLeftBy (DoesLine old line) old.state new.state × (new ≡ moved old new.state new.group)
Answered old line answer new = Steps old line answer new
