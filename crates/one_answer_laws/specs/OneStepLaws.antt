-- A step of the script machine has one answer and leaves one state, where neither memory runs out
-- nor the shelf fails.
use Rattle.std.specs.Prelude.{◌≡◌, ◌≤◌, ℕ, zero, suc, Bool, true, false, List, [], ◌∷◌, All, IsSome, Option, Some, None, Result, Ok, Err, length, slice_get, slice_set, unwrap_or, refl}
use Rattle.std.specs.List.{zip}
use Rattle.std.proofs.Common.{ap, ap₂, arith, subst, sym, true≢false, ◌∙◌}
use Rattle.std.proofs.lemmas.List.Elements.{All-head, All-tail}
use Rattle.std.proofs.lemmas.Option.{same_Some}
use Rattle.bridge_graph.specs.Hypergraph.{Hypergraph, IsCostly}
use Rattle.bridge_graph.specs.declared.Choice.{Choice}
use Rattle.bridged_report.specs.Lines.{bridged_text}
use Rattle.cache_layer.specs.Answers.{Becomes, IsAttached, IsEdited, IsGroupAnswer, IsLoaded, as_edits}
use Rattle.cache_layer.specs.CacheState.{CacheState, attached, detached, with_model, with_table}
use Rattle.cache_layer.specs.declared.fault.AttachFault.{AttachFault}
use Rattle.cache_layer.specs.declared.fault.AttachFault.TheVariants as attach
use Rattle.cache_layer.specs.declared.fault.EditFault.{EditFault}
use Rattle.cache_layer.specs.declared.fault.EditFault.TheVariants as edit
use Rattle.cache_layer.specs.declared.fault.GroupFault.{GroupFault}
use Rattle.cache_layer.specs.declared.fault.GroupFault.TheVariants as group
use Rattle.cache_layer.specs.declared.fault.OptFault.{OptFault}
use Rattle.cache_layer.specs.declared.fault.OptFault.TheVariants as opt
use Rattle.certificates.specs.declared.certificate.Certificate.{Certificate}
use Rattle.edit_engine.specs.Bare.{is_bare}
use Rattle.edit_engine.specs.Script.{AreKindChoices, Detaches, DoesAlone, DoesBy, DoesInGroup, DoesSaid, IsChosen, IsCost, LoadsEdits, LoadsWhere, Machine, ShowsLeaves, Tabled, attach_answer, done, edit_answer, group_answer, load_answer, optimize_answer}
use Rattle.file_answers.specs.FileAnswers.{fault_answer}
use Rattle.edit_engine.specs.Tables.{costing, supporting, switched, targeted}
use Rattle.fresh_bridging.specs.ChoiceLaws.{one_choice}
use Rattle.fresh_bridging.specs.OnceLaws.{same_leaves}
use Rattle.fresh_bridging.specs.TheRules.{graph_of}
use Rattle.io_face.specs.Shelf.{FilesByName, Gives, fetched}
use Rattle.io_face.specs.Told.{MayGive, Told}
use Rattle.io_face.specs.declared.shelf.FetchFault.{FetchFault}
use Rattle.io_face.specs.declared.shelf.FetchFault.TheVariants as fetch
use Rattle.item_core.specs.Kind.{kind_number}
use Rattle.item_core.specs.declared.edge.Edge.{Edge}
use Rattle.item_core.specs.declared.kind.Kind.{Kind}
use Rattle.item_core.specs.declared.kind.TheConstants.{KINDS}
use Rattle.item_core.specs.declared.table.Table.{Table}
use Rattle.item_core.specs.Edge.{edge_number}
use Rattle.mof_fetch.specs.Fetched.{IsReadOf, read_of, walked}
use Rattle.mof_fetch.specs.declared.fault.FileFault.{FileFault}
use Rattle.mof_fetch.specs.declared.fault.FileFault.TheVariants as file
use Rattle.mof_read.specs.Edits.{edits_in}
use Rattle.report_core.specs.Plan.{plan_text}
use Rattle.report_core.specs.declared.answer.Answer.{Answer}
use Rattle.report_core.specs.declared.answer.Answer.TheVariants.{Memory, Printed, ReadFault, TooLong}
use Rattle.script_core.specs.declared.command.Command.{Command}
use Rattle.script_core.specs.declared.command.Command.TheVariants as line
use Rattle.script_core.specs.declared.fault.LineFault.{LineFault}
use Rattle.script_core.specs.declared.fault.LineFault.TheVariants as fault
use Rattle.user_model.specs.Edited.{edited}
use Rattle.user_model.specs.declared.edit.Edit.{Edit}
use Rattle.one_answer_laws.specs.CostLaws.{CostsSome}
use Rattle.one_answer_laws.specs.OneCallLaws.{attached_once, becomes_once, edited_once, grouped_once, loaded_once}
use Rattle.one_answer_laws.specs.OneOutcomeLaws.{optimized_once}

-- memory didn't run out, and no file stopped the work
abbrev pub GoesOn : Answer → Type 0
GoesOn Memory = ⊥
GoesOn ReadFault = ⊥
GoesOn TooLong = ⊥
GoesOn answer = Unit {0}

-- a file is one that the shelf tells
abbrev pub IsFileKnown : Told → Result Command LineFault → Type 0
IsFileKnown shelf (Ok (line.Load name)) = IsSome shelf.files
IsFileKnown shelf said = Unit {0}

-- one answer, and one state
abbrev pub Same : Answer → Answer → CacheState → CacheState → Type 0
Same a b new after = (a ≡ b) × (new ≡ after)

-- ---- plans

module _ (graph : Hypergraph) (costly : IsCostly graph) where
  cost_once : (kind : ℕ) (p q : Option ℕ) → IsCost graph kind p → IsCost graph kind q → p ≡ q
  cost_once kind None None h k = refl
  cost_once kind None (Some c) h k = absurd (h c k.tree)
  cost_once kind (Some c) None h k = absurd (k c h.tree)
  cost_once kind (Some c) (Some d) h k =
      let same : c ≡ d = omega (arith, h.least d k.tree, k.least c h.tree) in ap Some same

  chosen_once : (kind : Kind) (c d : Choice × Option ℕ) → IsChosen graph (kind, c)
      → IsChosen graph (kind, d) → c ≡ d
  chosen_once kind (a, p) (b, q) h k =
      ap₂ (λ x y. (x, y)) (one_choice graph costly (kind_number kind) a b h.0 k.0)
      (cost_once (kind_number kind) p q h.1 k.1)

  each_chosen_once : (kinds : List Kind) (cs ds : List (Choice × Option ℕ))
      → length cs ≡ length kinds → length ds ≡ length kinds → All (IsChosen graph) (zip kinds cs)
      → All (IsChosen graph) (zip kinds ds) → cs ≡ ds
  each_chosen_once [] [] [] e f h k = refl
  each_chosen_once [] [] (d ∷ ds) e f h k = absurd (omega (arith, f))
  each_chosen_once [] (c ∷ cs) ds e f h k = absurd (omega (arith, e))
  each_chosen_once (kind ∷ kinds) [] ds e f h k = absurd (omega (arith, e))
  each_chosen_once (kind ∷ kinds) (c ∷ cs) [] e f h k = absurd (omega (arith, f))
  each_chosen_once (kind ∷ kinds) (c ∷ cs) (d ∷ ds) e f h k =
      let longer : length cs ≡ length kinds = omega (arith, e) in
      let longer_too : length ds ≡ length kinds = omega (arith, f) in
      ap₂ (λ x xs. x ∷ xs)
      (chosen_once kind c d (All-head (IsChosen graph) (kind, c) (zip kinds cs) h)
      (All-head (IsChosen graph) (kind, d) (zip kinds ds) k))
      (each_chosen_once kinds cs ds longer longer_too
      (All-tail (IsChosen graph) (kind, c) (zip kinds cs) h)
      (All-tail (IsChosen graph) (kind, d) (zip kinds ds) k))

  plan_once : (cs ds : List (Choice × Option ℕ)) → AreKindChoices graph cs → AreKindChoices graph ds
      → cs ≡ ds
  plan_once cs ds h k = each_chosen_once KINDS.kinds cs ds h.count k.count h.each k.each

-- ---- what was given, where the answer goes on

edit_goes_on : (x : Result (Option ℕ) EditFault) (a : Answer) → a ≡ edit_answer x → GoesOn a
    → ¬ (x ≡ Err edit.Memory)
edit_goes_on x a is on e = subst GoesOn (is ∙ ap edit_answer e) on

group_goes_on : (x : Result (Option ℕ) GroupFault) (a : Answer) → a ≡ group_answer x → GoesOn a
    → ¬ (x ≡ Err group.Memory)
group_goes_on x a is on e = subst GoesOn (is ∙ ap group_answer e) on

attach_goes_on : (x : Result ℕ AttachFault) (a : Answer) → a ≡ attach_answer x → GoesOn a
    → ¬ (x ≡ Err attach.Memory)
attach_goes_on x a is on e = subst GoesOn (is ∙ ap attach_answer e) on

load_goes_on : (x : Result Unit EditFault) (a : Answer) → a ≡ load_answer x → GoesOn a
    → ¬ (x ≡ Err edit.Memory)
load_goes_on x a is on e = subst GoesOn (is ∙ ap load_answer e) on

optimize_goes_on : (s : CacheState) (x : Result Certificate OptFault) (a : Answer)
    → a ≡ optimize_answer s.model x → GoesOn a → ¬ (x ≡ Err opt.Memory)
optimize_goes_on s x a is on e = subst GoesOn (is ∙ ap (optimize_answer s.model) e) on

-- ---- files

given_once : (files : Option FilesByName) (name a b : List ℕ) → IsSome files
    → Gives files name (Ok a) → Gives files name (Ok b) → a ≡ b
given_once None name a b told h k = absurd (true≢false (sym told))
given_once (Some files) name a b told h k = one (fetched files name) h k
  where
    one : (r : Result (List ℕ) FetchFault) → r ≡ Ok a → r ≡ Ok b → a ≡ b
    one r e f = cc

-- the file was given
record IsGiven (shelf : Told) (name : List ℕ) (read : Result (List Edit) FileFault)
    : Type 0 where
  pub bytes : List ℕ
  pub gives : Gives shelf.files name (Ok bytes)
  pub read_as : read ≡ walked (edits_in bytes)

was_given : (s new : CacheState) (shelf : Told) (name : List ℕ) (read : Result (List Edit) FileFault)
    (a : Answer) → GoesOn a → IsReadOf shelf name read → LoadsEdits s read a new
    → IsGiven shelf name read
was_given s new shelf name read a on (given, may, from) does = by given may from
  where
    stopped : (f : FileFault) → read ≡ Err f → ¬ (GoesOn (fault_answer f))
        → IsGiven shelf name read
    stopped f is not_on =
        let says = subst (λ r. LoadsEdits s r a new) is does in
        absurd (not_on (subst GoesOn says.0 on))

    by : (given : Result (List ℕ) FetchFault) → MayGive shelf name given → read ≡ read_of given
        → IsGiven shelf name read
    by (Ok bytes) may from = record { bytes = bytes; gives = may.0; read_as = from }
    by (Err fetch.Failed) may from = stopped file.Failed from (λ on. on)
    by (Err fetch.TooLong) may from = stopped file.TooLong from (λ on. on)
    by (Err fetch.Memory) may from = stopped file.Memory from (λ on. on)

read_once : (shelf : Told) (name : List ℕ) (r q : Result (List Edit) FileFault)
    → IsSome shelf.files → IsGiven shelf name r → IsGiven shelf name q → r ≡ q
read_once shelf name r q told h k =
    h.read_as
    ∙ ap (λ bytes. walked (edits_in bytes))
    (given_once shelf.files name h.bytes k.bytes told h.gives k.gives)
    ∙ sym k.read_as

edits_loaded_once : (s new after : CacheState) (read : Result (List Edit) FileFault) (a b : Answer)
    → GoesOn a → GoesOn b → LoadsEdits s read a new → LoadsEdits s read b after
    → Same a b new after
edits_loaded_once s new after (Ok edits) a b m n h k =
    let one = loaded_once s edits h.0 k.0 new after (load_goes_on h.0 a h.2 m)
    (load_goes_on k.0 b k.2 n) h.1 k.1 in
    (h.2 ∙ ap load_answer one.0 ∙ sym k.2, one.1)
edits_loaded_once s new after (Err f) a b m n h k = (h.0 ∙ sym k.0, h.1 ∙ sym k.1)

loads_once : (s new after : CacheState) (attached bare : Bool) (shelf : Told) (name : List ℕ)
    (a b : Answer) → IsSome shelf.files → GoesOn a → GoesOn b
    → LoadsWhere attached bare shelf s name a new → LoadsWhere attached bare shelf s name b after
    → Same a b new after
loads_once s new after true bare shelf name a b told m n h k = (h.0 ∙ sym k.0, h.1 ∙ sym k.1)
loads_once s new after false false shelf name a b told m n h k =
    (h.0 ∙ sym k.0, h.1 ∙ sym k.1)
loads_once s new after false true shelf name a b told m n (read, of, does) (other, from, did) =
    edits_loaded_once s new after other a b m n
    (subst (λ r. LoadsEdits s r a new)
    (read_once shelf name read other told (was_given s new shelf name read a m of does)
    (was_given s after shelf name other b n from did)) does)
    did

-- ---- the solver

detaches_once : (s new after : CacheState) (attached : Bool) (a b : Answer)
    → Detaches attached s a new
    → Detaches attached s b after → Same a b new after
detaches_once s new after true a b h k = (h.0 ∙ sym k.0, h.1 ∙ sym k.1)
detaches_once s new after false a b h k = (h.0 ∙ sym k.0, h.1 ∙ sym k.1)

shows_once : (s new after : CacheState) → IsCostly (graph_of s.setting) → (attached : Bool)
    (a b : Answer) → ShowsLeaves attached s a new → ShowsLeaves attached s b after → Same a b new after
shows_once s new after costly true a b h k = (
  h.1.0
      ∙ ap (λ l. Printed (bridged_text s.model l))
      (same_leaves s.setting s.model costly h.0.bridging k.0.bridging)
      ∙ sym k.1.0,
  h.1.1 ∙ sym k.1.1,
)
shows_once s new after costly false a b h k = (h.0 ∙ sym k.0, h.1 ∙ sym k.1)

-- ---- the costs of a table

-- each is at least 1
abbrev CostSome : List ℕ → Type 0
CostSome costs = (edge cost : ℕ) → slice_get costs edge ≡ Some cost → 1 ≤ cost

set_first : (c : ℕ) (costs : List ℕ) (x : ℕ) → 1 ≤ x → CostSome (c ∷ costs)
    → CostSome (x ∷ costs)
set_first c costs x some h zero cost e = subst (λ d. 1 ≤ d) (same_Some x cost e) some
set_first c costs x some h (suc edge) cost e = h (suc edge) cost e

set_later : (c : ℕ) (costs others : List ℕ) → CostSome (c ∷ costs) → CostSome others
    → CostSome (c ∷ others)
set_later c costs others h k zero cost e = h zero cost e
set_later c costs others h k (suc edge) cost e = k edge cost e

set_costs : (costs : List ℕ) (n x : ℕ) → 1 ≤ x → CostSome costs → CostSome (slice_set costs n x)
set_costs [] n x some h = h
set_costs (c ∷ costs) zero x some h = set_first c costs x some h
set_costs (c ∷ costs) (suc n) x some h =
    set_later c costs (slice_set costs n x) h
    (set_costs costs n x some (λ edge cost e. h (suc edge) cost e))

costing_costly : (s : CacheState) (edge : Edge) (cost : ℕ) → 1 ≤ cost
    → IsCostly (graph_of s.setting)
    → IsCostly (graph_of (with_table s (costing edge cost s.setting.table)).setting)
costing_costly s edge cost some costly =
    set_costs s.setting.table.cost (edge_number edge) cost some costly

-- ---- a step

tabled_once : (s new after : CacheState) (change : Table → Table) → IsCostly (graph_of s.setting)
    → IsCostly (graph_of (with_table s (change s.setting.table)).setting) → (a b : Answer)
    → GoesOn a → GoesOn b → Tabled s change a new → Tabled s change b after → Same a b new after
tabled_once s new after change c d a b m n h k =
    let one = becomes_once s (with_table s (change s.setting.table)) c d h.0 k.0 new after
    (edit_goes_on h.0 a h.2 m) (edit_goes_on k.0 b k.2 n) h.1 k.1 in
    (h.2 ∙ ap edit_answer one.0 ∙ sym k.2, one.1)

module _ (m : Machine) (costly : IsCostly (graph_of m.state.setting)) (new after : CacheState)
    (a b : Answer) (on : GoesOn a) (on_too : GoesOn b) where
  alone_once : (command : Command) → CostsSome (Ok command) → IsFileKnown m.shelf (Ok command)
      → DoesAlone m command a new → DoesAlone m command b after → Same a b new after
  alone_once line.Silent some known h k = (h.0 ∙ sym k.0, h.1 ∙ sym k.1)
  alone_once line.Quit some known h k = (h.0 ∙ sym k.0, h.1 ∙ sym k.1)
  alone_once (line.Edit e) some known h k =
      let one = edited_once m.state costly e h.0 k.0 new after (edit_goes_on h.0 a h.2 on)
      (edit_goes_on k.0 b k.2 on_too) h.1 k.1 in
      (h.2 ∙ ap edit_answer one.0 ∙ sym k.2, one.1)
  alone_once line.Begin some known h k = (h.0 ∙ sym k.0, h.1 ∙ sym k.1)
  alone_once line.Commit some known h k = (h.0 ∙ sym k.0, h.1 ∙ sym k.1)
  alone_once line.Abandon some known h k = (h.0 ∙ sym k.0, h.1 ∙ sym k.1)
  alone_once (line.Target target) some known h k =
      tabled_once m.state new after (targeted target) costly costly a b on on_too h k
  alone_once (line.Support kind value) some known h k =
      tabled_once m.state new after (supporting kind value) costly costly a b on on_too h k
  alone_once (line.Cost edge cost) some known h k =
      tabled_once m.state new after (costing edge cost) costly
      (costing_costly m.state edge cost some costly) a b on on_too h k
  alone_once (line.Switch family value) some known h k =
      tabled_once m.state new after (switched family value) costly costly a b on on_too h k
  alone_once line.Attach some known h k =
      let one = attached_once m.state costly h.0 k.0 new after (attach_goes_on h.0 a h.2 on)
      (attach_goes_on k.0 b k.2 on_too) h.1 k.1 in
      (h.2 ∙ ap attach_answer one.0 ∙ sym k.2, one.1)
  alone_once line.Detach some known h k =
      detaches_once m.state new after m.state.attached a b h k
  alone_once line.Bridged some known h k =
      shows_once m.state new after costly m.state.attached a b h k
  alone_once line.Plan some known h k = (
    h.2.0
        ∙ ap (λ choices. Printed (plan_text choices))
        (plan_once (graph_of m.state.setting) costly h.0 k.0 h.1 k.1)
        ∙ sym k.2.0,
    h.2.1 ∙ sym k.2.1,
  )
  alone_once (line.Optimize own) some known h k = (
    h.2
        ∙ ap (optimize_answer m.state.model)
        (optimized_once m.state costly (unwrap_or own m.pivots) h.0 k.0
        (optimize_goes_on m.state h.0 a h.2 on) (optimize_goes_on m.state k.0 b k.2 on_too) h.1.0
        k.1.0)
        ∙ sym k.2,
    h.1.2 ∙ sym k.1.2,
  )
  alone_once line.Write some known h k = (h.0 ∙ sym k.0, h.1 ∙ sym k.1)
  alone_once (line.Load name) some known h k =
      loads_once m.state new after m.state.attached (is_bare m.state.model) m.shelf name a b known
      on on_too h k

  in_group_once : (edits : List Edit) (command : Command) → DoesInGroup m.state edits command a new
      → DoesInGroup m.state edits command b after → Same a b new after
  in_group_once edits line.Commit h k =
      let one = grouped_once m.state costly edits h.0 k.0 new after (group_goes_on h.0 a h.2 on)
      (group_goes_on k.0 b k.2 on_too) h.1 k.1 in
      (h.2 ∙ ap group_answer one.0 ∙ sym k.2, one.1)
  in_group_once edits _ h k = (h.0 ∙ sym k.0, h.1 ∙ sym k.1)

  pub said_once : (said : Result Command LineFault) → CostsSome said → IsFileKnown m.shelf said
      → DoesSaid m said a new → DoesSaid m said b after → Same a b new after
  said_once (Ok command) some known h k = by m.group h k
    where
      by : (open_group : Option (List Edit)) → DoesBy open_group m command a new
          → DoesBy open_group m command b after → Same a b new after
      by None h k = alone_once command some known h k
      by (Some edits) h k = in_group_once edits command h k
  said_once (Err fault.BadLine) some known h k = (h.0 ∙ sym k.0, h.1 ∙ sym k.1)
  said_once (Err fault.Overflow) some known h k = (h.0 ∙ sym k.0, h.1 ∙ sym k.1)
  said_once (Err fault.Memory) some known h k = absurd (subst GoesOn h.0 on)

-- ---- the costs after a step

-- where the state is one of these
becomes_costly : (old next new : CacheState) → IsCostly (graph_of old.setting)
    → IsCostly (graph_of next.setting) → (x : Result (Option ℕ) EditFault)
    → Becomes old next x new → IsCostly (graph_of new.setting)
becomes_costly old next new c d (Ok None) h =
    subst (λ (t : CacheState). IsCostly (graph_of t.setting)) (sym h.1) d
becomes_costly old next new c d (Ok (Some n)) h =
    subst (λ (t : CacheState). IsCostly (graph_of t.setting)) (sym h.2) d
becomes_costly old next new c d (Err (edit.Unsupported kind)) h =
    subst (λ (t : CacheState). IsCostly (graph_of t.setting)) (sym h.2) c
becomes_costly old next new c d (Err (edit.Overflow place)) h =
    subst (λ (t : CacheState). IsCostly (graph_of t.setting)) (sym h.2) c
becomes_costly old next new c d (Err edit.Memory) h =
    subst (λ (t : CacheState). IsCostly (graph_of t.setting)) (sym h) c
becomes_costly old next new c d (Err (edit.Refused r)) h = absurd h

-- where it has the same setting
same_costly : (old other new : CacheState) → IsCostly (graph_of other.setting) → new ≡ other
    → IsCostly (graph_of new.setting)
same_costly old other new c e = subst (λ (t : CacheState). IsCostly (graph_of t.setting)) (sym e) c

edited_costly : (s new : CacheState) → IsCostly (graph_of s.setting) → (e : Edit)
    (x : Result (Option ℕ) EditFault) → IsEdited s e x new → IsCostly (graph_of new.setting)
edited_costly s new c e (Err (edit.Refused r)) h = same_costly s s new c h.1
edited_costly s new c e (Err edit.Memory) h = same_costly s (detached s) new c h
edited_costly s new c e x h =
    becomes_costly s (with_model s (edited s.model e)) new c c x h.1

grouped_costly : (s new : CacheState) → IsCostly (graph_of s.setting) → (edits : List Edit)
    (x : Result (Option ℕ) GroupFault) → IsGroupAnswer s edits x new
    → IsCostly (graph_of new.setting)
grouped_costly s new c edits (Err (group.Refused i r)) h = same_costly s s new c h.2
grouped_costly s new c edits (Err group.Memory) h = same_costly s (detached s) new c h
grouped_costly s new c edits x h =
    becomes_costly s (with_model s h.0) new c c (as_edits x) h.2

attached_costly : (s new : CacheState) → IsCostly (graph_of s.setting) → (x : Result ℕ AttachFault)
    → IsAttached s x new → IsCostly (graph_of new.setting)
attached_costly s new c (Ok n) h = same_costly s (attached s) new c h.2
attached_costly s new c (Err attach.AlreadyAttached) h = same_costly s s new c h.1
attached_costly s new c (Err (attach.Unsupported kind)) h = same_costly s s new c h.2
attached_costly s new c (Err (attach.Overflow place)) h = same_costly s s new c h.2
attached_costly s new c (Err attach.Memory) h = same_costly s s new c h.1

loaded_costly : (s new : CacheState) → IsCostly (graph_of s.setting) → (edits : List Edit)
    (x : Result Unit EditFault) → IsLoaded s edits x new → IsCostly (graph_of new.setting)
loaded_costly s new c edits (Ok done) h = same_costly s (with_model s new.model) new c h.1
loaded_costly s new c edits (Err (edit.Refused r)) h = same_costly s s new c h.1
loaded_costly s new c edits (Err edit.Memory) h = same_costly s s new c h
loaded_costly s new c edits (Err (edit.Unsupported kind)) h = absurd h
loaded_costly s new c edits (Err (edit.Overflow place)) h = absurd h

edits_costly : (s new : CacheState) → IsCostly (graph_of s.setting)
    → (read : Result (List Edit) FileFault) (a : Answer) → LoadsEdits s read a new
    → IsCostly (graph_of new.setting)
edits_costly s new c (Ok edits) a h = loaded_costly s new c edits h.0 h.1
edits_costly s new c (Err f) a h = same_costly s s new c h.1

loads_costly : (s new : CacheState) → IsCostly (graph_of s.setting) → (attached bare : Bool)
    (shelf : Told) (name : List ℕ) (a : Answer) → LoadsWhere attached bare shelf s name a new
    → IsCostly (graph_of new.setting)
loads_costly s new c true bare shelf name a h = same_costly s s new c h.1
loads_costly s new c false false shelf name a h = same_costly s s new c h.1
loads_costly s new c false true shelf name a (read, of, does) = edits_costly s new c read a does

detaches_costly : (s new : CacheState) → IsCostly (graph_of s.setting) → (attached : Bool)
    (a : Answer) → Detaches attached s a new → IsCostly (graph_of new.setting)
detaches_costly s new c true a h = same_costly s (detached s) new c h.1
detaches_costly s new c false a h = same_costly s s new c h.1

shows_costly : (s new : CacheState) → IsCostly (graph_of s.setting) → (attached : Bool) (a : Answer)
    → ShowsLeaves attached s a new → IsCostly (graph_of new.setting)
shows_costly s new c true a h = same_costly s s new c h.1.1
shows_costly s new c false a h = same_costly s s new c h.1

module _ (m : Machine) (costly : IsCostly (graph_of m.state.setting)) (new : CacheState)
    (a : Answer) where
  alone_costly : (command : Command) → CostsSome (Ok command) → DoesAlone m command a new
      → IsCostly (graph_of new.setting)
  alone_costly line.Silent some h = same_costly m.state m.state new costly h.1
  alone_costly line.Quit some h = same_costly m.state m.state new costly h.1
  alone_costly (line.Edit e) some h = edited_costly m.state new costly e h.0 h.1
  alone_costly line.Begin some h = same_costly m.state m.state new costly h.1
  alone_costly line.Commit some h = same_costly m.state m.state new costly h.1
  alone_costly line.Abandon some h = same_costly m.state m.state new costly h.1
  alone_costly (line.Target target) some h =
      becomes_costly m.state (with_table m.state (targeted target m.state.setting.table)) new costly costly
      h.0 h.1
  alone_costly (line.Support kind value) some h =
      becomes_costly m.state (with_table m.state (supporting kind value m.state.setting.table)) new costly costly
      h.0 h.1
  alone_costly (line.Cost edge cost) some h =
      becomes_costly m.state (with_table m.state (costing edge cost m.state.setting.table)) new costly
      (costing_costly m.state edge cost some costly) h.0 h.1
  alone_costly (line.Switch family value) some h =
      becomes_costly m.state (with_table m.state (switched family value m.state.setting.table)) new costly costly
      h.0 h.1
  alone_costly line.Attach some h = attached_costly m.state new costly h.0 h.1
  alone_costly line.Detach some h =
      detaches_costly m.state new costly m.state.attached a h
  alone_costly line.Bridged some h = shows_costly m.state new costly m.state.attached a h
  alone_costly line.Plan some h = same_costly m.state m.state new costly h.2.1
  alone_costly (line.Optimize own) some h = same_costly m.state m.state new costly h.1.2
  alone_costly line.Write some h = same_costly m.state m.state new costly h.1
  alone_costly (line.Load name) some h =
      loads_costly m.state new costly m.state.attached (is_bare m.state.model) m.shelf name a h

  in_group_costly : (edits : List Edit) (command : Command)
      → DoesInGroup m.state edits command a new → IsCostly (graph_of new.setting)
  in_group_costly edits line.Commit h = grouped_costly m.state new costly edits h.0 h.1
  in_group_costly edits _ h = same_costly m.state m.state new costly h.1

  pub said_costly : (said : Result Command LineFault) → CostsSome said
      → DoesSaid m said a new → IsCostly (graph_of new.setting)
  said_costly (Ok command) some h = by m.group h
    where
      by : (open_group : Option (List Edit)) → DoesBy open_group m command a new
          → IsCostly (graph_of new.setting)
      by None h = alone_costly command some h
      by (Some edits) h = in_group_costly edits command h
  said_costly (Err fault.BadLine) some h = same_costly m.state m.state new costly h.1
  said_costly (Err fault.Overflow) some h = same_costly m.state m.state new costly h.1
  said_costly (Err fault.Memory) some h = same_costly m.state m.state new costly h.1
