-- Lines that are answered one after another, and which of them ends the run.
use Rattle.std.specs.Prelude.{◌≡◌, ◌⊎◌, ℕ, Bool, true, false, ◌||◌, List, [], ◌∷◌, ◌++◌, Option, None, Some, Result, Ok, Err, cond, refl}
use Rattle.std.specs.List.{list_any}
use Rattle.std.proofs.Common.{inl, inr, sym, ap, ◌∙◌, subst, append_assoc, append-nil, true≢false}
use Rattle.std.proofs.lemmas.Bool.{cond-false, cond-true}
use Rattle.cache_layer.specs.CacheState.{CacheState}
use Rattle.cache_layer.specs.declared.fault.AttachFault.{AttachFault}
use Rattle.cache_layer.specs.declared.fault.AttachFault.TheVariants as attach
use Rattle.cache_layer.specs.declared.fault.EditFault.{EditFault}
use Rattle.cache_layer.specs.declared.fault.EditFault.TheVariants as edit
use Rattle.cache_layer.specs.declared.fault.GroupFault.{GroupFault}
use Rattle.cache_layer.specs.declared.fault.GroupFault.TheVariants as group
use Rattle.cache_layer.specs.declared.fault.OptFault.{OptFault}
use Rattle.cache_layer.specs.declared.fault.OptFault.TheVariants as opt
use Rattle.certificates.specs.declared.certificate.Certificate.{Certificate}
use Rattle.edit_engine.specs.Bare.{is_bare}
use Rattle.edit_engine.specs.Lines.{Answers, Prints, heard, is_quit, next, none, says_quit}
use Rattle.edit_engine.specs.Script.{Detaches, Does, DoesAlone, DoesBy, DoesInGroup, DoesSaid, LoadsEdits, LoadsWhere, Machine, ShowsLeaves, Steps, attach_answer, edit_answer, group_answer, load_answer, optimize_answer}
use Rattle.io_face.specs.Told.{MayGive}
use Rattle.io_face.specs.declared.shelf.FetchFault.{FetchFault}
use Rattle.io_face.specs.declared.shelf.FetchFault.TheVariants as fetch
use Rattle.mof_fetch.specs.Fetched.{IsReadOf}
use Rattle.mof_fetch.specs.FetchedLaws.{may_fail, shelf_fault}
use Rattle.mof_fetch.specs.declared.fault.FileFault.{FileFault}
use Rattle.mof_fetch.specs.declared.fault.FileFault.TheVariants as file
use Rattle.report_core.specs.declared.answer.Answer.{Answer}
use Rattle.report_core.specs.declared.answer.Answer.TheVariants.{Quit, ReadFault, TooLong}
use Rattle.script_core.specs.Line.{line_said}
use Rattle.script_core.specs.declared.command.Command.{Command}
use Rattle.script_core.specs.declared.command.Command.TheVariants as line
use Rattle.script_core.specs.declared.fault.LineFault.{LineFault}
use Rattle.script_core.specs.declared.fault.LineFault.TheVariants as fault
use Rattle.user_model.specs.Model.{ModelValue}
use Rattle.user_model.specs.declared.edit.Edit.{Edit}

or_regrouped : (a b c : Bool) → (a || (b || c)) ≡ ((a || b) || c)
or_regrouped true b c = refl
or_regrouped false b c = refl

or_nothing : (b : Bool) → (b || false) ≡ b
or_nothing true = refl
or_nothing false = refl

if_same : {X : Type 0} (b : Bool) (x : X) → cond b x x ≡ x
if_same true x = refl
if_same false x = refl

-- ---- answers to no line, to one, and to some lines and then to others

pub Answers-none : {s : Machine} → Answers s [] [] false s
Answers-none = none

pub Answers-one : {s new : Machine} {line text : List ℕ} {answer : Answer} {was : Bool}
    → Steps s line answer new → Prints answer text was → Answers s (line ∷ []) text was new
Answers-one {s} {new} {line} {text} {answer} {was} steps prints =
    subst (λ t. Answers s (line ∷ []) t was new) (append-nil text)
    (subst (λ b. Answers s (line ∷ []) (text ++ []) b new) (or_nothing was)
    (next steps prints none))

pub Answers-append : {s middle new : Machine} {lines more : List (List ℕ)} {text rest : List ℕ}
    {any other : Bool} → Answers s lines text any middle → Answers middle more rest other new
    → Answers s (lines ++ more) (text ++ rest) (any || other) new
Answers-append none after = after
Answers-append {new = new} {more = more} {rest = rest} {other = other}
    (next {s = s} {line = line} {text = text} {more = printed} {lines = lines} {was = was}
    {any = any} steps prints before) after =
    subst (λ t. Answers s (line ∷ (lines ++ more)) t ((was || any) || other) new)
    (sym (append_assoc text printed rest))
    (subst (λ b. Answers s (line ∷ (lines ++ more)) (text ++ (printed ++ rest)) b new)
    (or_regrouped was any other) (next steps prints (Answers-append before after)))

-- ---- which lines are heard

pub heard-append : (done more : List (List ℕ)) → list_any says_quit done ≡ false
    → heard (done ++ more) ≡ done ++ heard more
heard-append [] more h = refl
heard-append (line ∷ done) more h =
    let first : says_quit line ≡ false = first_of (says_quit line) (list_any says_quit done) h in
    let others : list_any says_quit done ≡ false =
    others_of (says_quit line) (list_any says_quit done) h in
    ap (λ lines. line ∷ lines)
    (cond-false (says_quit line) [] (heard (done ++ more)) first ∙ heard-append done more others)
  where
    first_of : (a b : Bool) → (a || b) ≡ false → a ≡ false
    first_of true b e = absurd (true≢false e)
    first_of false b e = refl

    others_of : (a b : Bool) → (a || b) ≡ false → b ≡ false
    others_of true b e = absurd (true≢false e)
    others_of false b e = e

-- a line that ends the run is the last that is heard, and so is the last line
pub heard_at_quit : (line : List ℕ) (more : List (List ℕ)) → says_quit line ≡ true
    → heard (line ∷ more) ≡ line ∷ []
heard_at_quit line more e =
    ap (λ lines. line ∷ lines) (cond-true (says_quit line) [] (heard more) e)

pub heard_at_last : (line : List ℕ) → heard (line ∷ []) ≡ line ∷ []
heard_at_last line = ap (λ lines. line ∷ lines) (if_same (says_quit line) [])

-- ---- a step of the machine

abbrev pub answers_quit : Answer → Bool
answers_quit Quit = true
answers_quit answer = false

abbrev pub fetches : Answer → Bool
fetches ReadFault = true
fetches TooLong = true
fetches answer = false

-- a command while no group is open
pub does_alone : (m : Machine) (command : Command) (new : CacheState) (answer : Answer)
    → m.group ≡ None → Does m command answer new → DoesAlone m command answer new
does_alone m command new answer shut does =
    subst (λ (open_group : Option (List Edit)). DoesBy open_group m command answer new) shut does

-- whether an answer ends the run, and whether it is a file's
abbrev pub ends_or_fetches : Answer → Bool × Bool
ends_or_fetches answer = (answers_quit answer, fetches answer)

-- a line asked for a file and the shelf had this fault, which left the machine
pub record IsStopped (m : Machine) (said : Result Command LineFault) (reason : FetchFault)
    (new : CacheState) : Type 0 where
  pub name : List ℕ
  pub said_so : said ≡ Ok (line.Load name)
  pub gave : MayGive m.shelf name (Err reason)
  pub kept : new ≡ m.state

-- by the answer: the shelf's fault, where the answer is one
abbrev pub StopsBy : Machine → Result Command LineFault → Answer → CacheState → Type 0
StopsBy m said ReadFault new = IsStopped m said fetch.Failed new
StopsBy m said TooLong new = IsStopped m said fetch.TooLong new
StopsBy m said answer new = Unit {0}

-- whether the answer ends the run as the line says, and that none but a shelf's fault is a file's
abbrev pub EndsAsSaid : Machine → Result Command LineFault → Answer → CacheState → Type 0
EndsAsSaid m said answer new = (answers_quit answer ≡ is_quit said) × StopsBy m said answer new

-- the answer is no file's, or fits
abbrev IsPlainly : Machine → Result Command LineFault → Answer → CacheState → Type 0
IsPlainly m said answer new =
    (ends_or_fetches answer ≡ (is_quit said, false)) ⊎ EndsAsSaid m said answer new

fits_plainly : (m : Machine) (said : Result Command LineFault) (answer : Answer) (new : CacheState)
    → ends_or_fetches answer ≡ (is_quit said, false) → EndsAsSaid m said answer new
fits_plainly m said ReadFault new is = absurd (true≢false (ap (λ p. p.1) is))
fits_plainly m said TooLong new is = absurd (true≢false (ap (λ p. p.1) is))
fits_plainly m said _ new is = (ap (λ p. p.0) is, tt)

edit_plain : (made : Result (Option ℕ) EditFault)
    → ends_or_fetches (edit_answer made) ≡ (false, false)
edit_plain (Ok count) = refl
edit_plain (Err edit.Memory) = refl
edit_plain (Err _) = refl

load_plain : (made : Result Unit EditFault)
    → ends_or_fetches (load_answer made) ≡ (false, false)
load_plain (Ok loaded) = refl
load_plain (Err edit.Memory) = refl
load_plain (Err _) = refl

group_plain : (made : Result (Option ℕ) GroupFault)
    → ends_or_fetches (group_answer made) ≡ (false, false)
group_plain (Ok count) = refl
group_plain (Err group.Memory) = refl
group_plain (Err _) = refl

attach_plain : (made : Result ℕ AttachFault) → ends_or_fetches (attach_answer made) ≡ (false, false)
attach_plain (Ok count) = refl
attach_plain (Err attach.Memory) = refl
attach_plain (Err _) = refl

detach_plain : (attached : Bool) (s new : CacheState) (answer : Answer)
    → Detaches attached s answer new
    → ends_or_fetches answer ≡ (false, false)
detach_plain true s new answer does = ap ends_or_fetches does.0
detach_plain false s new answer does = ap ends_or_fetches does.0

show_plain : (attached : Bool) (s new : CacheState) (answer : Answer)
    → ShowsLeaves attached s answer new
    → ends_or_fetches answer ≡ (false, false)
show_plain true s new answer does = ap ends_or_fetches does.1.0
show_plain false s new answer does = ap ends_or_fetches does.0

optimize_plain : (model : ModelValue) (made : Result Certificate OptFault)
    → ends_or_fetches (optimize_answer model made) ≡ (false, false)
optimize_plain model (Ok certificate) = refl
optimize_plain model (Err opt.Memory) = refl
optimize_plain model (Err _) = refl

-- the shelf had this fault
is_stopped : (m : Machine) (name : List ℕ) (read : Result (List Edit) FileFault)
    (reason : FetchFault) (new : CacheState) → shelf_fault read ≡ Some reason
    → IsReadOf m.shelf name read → new ≡ m.state
    → IsStopped m (Ok (line.Load name)) reason new
is_stopped m name read reason new is read_so kept = record {
  name = name;
  said_so = refl;
  gave = may_fail m.shelf name read reason is read_so;
  kept = kept;
}

-- what was read of the file, or why there is none
load_fits : (m : Machine) (name : List ℕ) (read : Result (List Edit) FileFault) (new : CacheState)
    (answer : Answer) → IsReadOf m.shelf name read → LoadsEdits m.state read answer new
    → IsPlainly m (Ok (line.Load name)) answer new
load_fits m name (Ok edits) new answer read_so does =
    inl (ap ends_or_fetches does.2 ∙ load_plain does.0)
load_fits m name (Err (file.Unread kind place)) new answer read_so does =
    inl (ap ends_or_fetches does.0)
load_fits m name (Err file.Memory) new answer read_so does =
    inl (ap ends_or_fetches does.0)
load_fits m name (Err file.Failed) new answer read_so does =
    inr (subst (λ (a : Answer). EndsAsSaid m (Ok (line.Load name)) a new) (sym does.0)
    (refl, is_stopped m name (Err file.Failed) fetch.Failed new refl read_so does.1))
load_fits m name (Err file.TooLong) new answer read_so does =
    inr (subst (λ (a : Answer). EndsAsSaid m (Ok (line.Load name)) a new) (sym does.0)
    (refl, is_stopped m name (Err file.TooLong) fetch.TooLong new refl read_so does.1))

loads_fit : (m : Machine) (name : List ℕ) (attached bare : Bool) (new : CacheState) (answer : Answer)
    → LoadsWhere attached bare m.shelf m.state name answer new
    → IsPlainly m (Ok (line.Load name)) answer new
loads_fit m name true bare new answer does = inl (ap ends_or_fetches does.0)
loads_fit m name false false new answer does = inl (ap ends_or_fetches does.0)
loads_fit m name false true new answer (read, read_so, does) =
    load_fits m name read new answer read_so does

alone_what : (m : Machine) (command : Command) (new : CacheState) (answer : Answer)
    → DoesAlone m command answer new → IsPlainly m (Ok command) answer new
alone_what m line.Silent new answer does = inl (ap ends_or_fetches does.0)
alone_what m line.Quit new answer does = inl (ap ends_or_fetches does.0)
alone_what m (line.Edit e) new answer does =
    inl (ap ends_or_fetches does.2 ∙ edit_plain does.0)
alone_what m line.Begin new answer does = inl (ap ends_or_fetches does.0)
alone_what m line.Commit new answer does = inl (ap ends_or_fetches does.0)
alone_what m line.Abandon new answer does = inl (ap ends_or_fetches does.0)
alone_what m (line.Target target) new answer does =
    inl (ap ends_or_fetches does.2 ∙ edit_plain does.0)
alone_what m (line.Support kind value) new answer does =
    inl (ap ends_or_fetches does.2 ∙ edit_plain does.0)
alone_what m (line.Cost edge cost) new answer does =
    inl (ap ends_or_fetches does.2 ∙ edit_plain does.0)
alone_what m (line.Switch family value) new answer does =
    inl (ap ends_or_fetches does.2 ∙ edit_plain does.0)
alone_what m line.Attach new answer does =
    inl (ap ends_or_fetches does.2 ∙ attach_plain does.0)
alone_what m line.Detach new answer does =
    inl (detach_plain m.state.attached m.state new answer does)
alone_what m line.Bridged new answer does =
    inl (show_plain m.state.attached m.state new answer does)
alone_what m line.Plan new answer does = inl (ap ends_or_fetches does.2.0)
alone_what m (line.Optimize own) new answer does =
    inl (ap ends_or_fetches does.2 ∙ optimize_plain m.state.model does.0)
alone_what m line.Write new answer does = inl (ap ends_or_fetches does.0)
alone_what m (line.Load name) new answer does =
    loads_fit m name m.state.attached (is_bare m.state.model) new answer does

group_what : (m : Machine) (edits : List Edit) (command : Command) (new : CacheState)
    (answer : Answer) → DoesInGroup m.state edits command answer new
    → IsPlainly m (Ok command) answer new
group_what m edits line.Commit new answer does =
    inl (ap ends_or_fetches does.2 ∙ group_plain does.0)
group_what m edits line.Quit new answer does = inl (ap ends_or_fetches does.0)
group_what m edits _ new answer does = inl (ap ends_or_fetches does.0)

does_what : (m : Machine) (said : Result Command LineFault) (new : CacheState) (answer : Answer)
    → DoesSaid m said answer new → IsPlainly m said answer new
does_what m (Ok command) new answer does = by m.group does
  where
    by : (open_group : Option (List Edit)) → DoesBy open_group m command answer new
        → IsPlainly m (Ok command) answer new
    by None does = alone_what m command new answer does
    by (Some edits) does = group_what m edits command new answer does
does_what m (Err fault.BadLine) new answer does = inl (ap ends_or_fetches does.0)
does_what m (Err fault.Overflow) new answer does = inl (ap ends_or_fetches does.0)
does_what m (Err fault.Memory) new answer does = inl (ap ends_or_fetches does.0)

pub does_fit : (m : Machine) (said : Result Command LineFault) (new : CacheState) (answer : Answer)
    → DoesSaid m said answer new → EndsAsSaid m said answer new
does_fit m said new answer does = by (does_what m said new answer does)
  where
    by : IsPlainly m said answer new → EndsAsSaid m said answer new
    by (inl is) = fits_plainly m said answer new is
    by (inr h) = h

-- the answer says whether the line ends the run
pub quit_is_said : (s new : Machine) (line : List ℕ) (answer : Answer) → Steps s line answer new
    → says_quit line ≡ answers_quit answer
unfolding says_quit
quit_is_said s new line answer steps =
    sym (does_fit s (line_said line) new.state answer steps.0).0

-- where the shelf stops the work, the line asks for a file, which the shelf may fail to give, and
-- the machine is as it was
pub stops_by : (s new : Machine) (line : List ℕ) (answer : Answer) → Steps s line answer new
    → StopsBy s (line_said line) answer new.state
stops_by s new line answer steps = (does_fit s (line_said line) new.state answer steps.0).1
