-- The refusals: one table of their numbers and names, and the fields of each.
use Rattle.std.specs.Prelude.{ℕ, List, [], ◌∷◌, ◌++◌, codes, decimal, flat_map}
use Rattle.item_core.specs.Kind.{name_of}
use Rattle.mof_values.specs.declared.fault.FaultKind.{FaultKind}
use Rattle.mof_values.specs.declared.fault.FaultKind.TheVariants as fault
use Rattle.name_index.specs.Escape.{escaped}
use Rattle.report_core.specs.declared.refused.Place.{Place}
use Rattle.report_core.specs.declared.refused.Place.TheVariants as place
use Rattle.report_core.specs.declared.refused.Refused.{Refused}
use Rattle.report_core.specs.declared.refused.Refused.TheVariants.{BadLine, UnknownName, NameTaken, FunctionShape, BadDimension, OutputIndex, BadInterval, LowerBoundAlreadySet, UpperBoundAlreadySet, SetTypeMismatch, DeleteNotAllowed, Full, NotAttached, AlreadyAttached, TooLarge, Unsupported, Overflow, Limit, NotEmpty, File, Group, GroupOpen, NoGroup}
use Rattle.user_model.specs.declared.refusal.Refusal.{Refusal}
use Rattle.user_model.specs.declared.refusal.Refusal.TheVariants as edit
use Rattle.report_core.specs.Words.{newline, spaced}

-- the number and the name
abbrev pub heading : Refused → ℕ × List ℕ
heading BadLine = (1, codes "BadLine")
heading UnknownName = (2, codes "UnknownName")
heading NameTaken = (3, codes "NameTaken")
heading FunctionShape = (4, codes "FunctionShape")
heading BadDimension = (5, codes "BadDimension")
heading OutputIndex = (6, codes "OutputIndex")
heading BadInterval = (7, codes "BadInterval")
heading LowerBoundAlreadySet = (8, codes "LowerBoundAlreadySet")
heading UpperBoundAlreadySet = (9, codes "UpperBoundAlreadySet")
heading SetTypeMismatch = (10, codes "SetTypeMismatch")
heading DeleteNotAllowed = (11, codes "DeleteNotAllowed")
heading (Full count limit) = (12, codes "Full")
heading NotAttached = (13, codes "NotAttached")
heading AlreadyAttached = (14, codes "AlreadyAttached")
heading (TooLarge cells) = (15, codes "TooLarge")
heading (Unsupported kind) = (16, codes "Unsupported")
heading (Overflow place) = (17, codes "Overflow")
heading (Limit pivots) = (18, codes "Limit")
heading NotEmpty = (19, codes "NotEmpty")
heading (File kind place) = (20, codes "File")
heading (Group index refusal) = (21, codes "Group")
heading GroupOpen = (22, codes "GroupOpen")
heading NoGroup = (23, codes "NoGroup")

-- why an edit of the user's model is refused
abbrev pub refused_of : Refusal → Refused
refused_of edit.UnknownName = UnknownName
refused_of edit.NameTaken = NameTaken
refused_of edit.FunctionShape = FunctionShape
refused_of edit.BadDimension = BadDimension
refused_of edit.OutputIndex = OutputIndex
refused_of edit.BadInterval = BadInterval
refused_of edit.LowerBoundAlreadySet = LowerBoundAlreadySet
refused_of edit.UpperBoundAlreadySet = UpperBoundAlreadySet
refused_of edit.SetTypeMismatch = SetTypeMismatch
refused_of edit.DeleteNotAllowed = DeleteNotAllowed
refused_of (edit.Full count limit) = Full count limit

-- where a number doesn't fit
abbrev pub place_text : Place → List ℕ
place_text place.Line = codes "line"
place_text (place.Var name) = codes "var " ++ escaped name
place_text (place.Row name) = codes "row " ++ escaped name
place_text place.Objective = codes "objective"
place_text place.Solver = codes "solver"
place_text place.Check = codes "check"

-- the number and the name of a kind of a file's fault
abbrev pub fault_heading : FaultKind → ℕ × List ℕ
fault_heading fault.NotJson = (1, codes "NotJson")
fault_heading fault.Shape = (2, codes "Shape")
fault_heading fault.Version = (3, codes "Version")
fault_heading fault.UnknownKind = (4, codes "UnknownKind")
fault_heading fault.BadNumber = (5, codes "BadNumber")
fault_heading fault.DuplicateName = (6, codes "DuplicateName")
fault_heading fault.UnknownName = (7, codes "UnknownName")
fault_heading fault.Dimension = (8, codes "Dimension")

-- the most cells of an equality form
abbrev pub most_cells : ℕ
most_cells = 16777216

-- the fields of an edit's refusal
abbrev pub own_fields : Refusal → List (List ℕ)
own_fields (edit.Full count limit) = decimal count ∷ decimal limit ∷ []
own_fields _ = []

-- an edit's refusal inside another: its number, its name and its fields
abbrev pub edit_fields : Refusal → List (List ℕ)
edit_fields refusal =
    let heads = heading (refused_of refusal) in
    decimal heads.0 ∷ heads.1 ∷ own_fields refusal

abbrev pub fields : Refused → List (List ℕ)
fields (Full count limit) = decimal count ∷ decimal limit ∷ []
fields (TooLarge cells) = decimal cells ∷ decimal most_cells ∷ []
fields (Unsupported kind) = name_of kind ∷ []
fields (Overflow place) = place_text place ∷ []
fields (Limit pivots) = decimal pivots ∷ []
fields (File kind place) = decimal (fault_heading kind).0 ∷ (fault_heading kind).1 ∷ place ∷ []
fields (Group index refusal) = decimal index ∷ edit_fields refusal
fields _ = []

abbrev pub heading_text : Refused → List ℕ
heading_text refused =
    codes "refused " ++ decimal (heading refused).0 ++ codes " " ++ (heading refused).1

-- the number, the name and the fields
unfoldable pub refusal_text : Refused → List ℕ
refusal_text refused = heading_text refused ++ flat_map spaced (fields refused) ++ newline
