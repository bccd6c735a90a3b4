-- What a spool text says: a line for each item, each with its LF, and no two of one log.
use Rattle.std.specs.Prelude.{◌≡◌, ℕ, ◌+◌, ◌==◌, pos, if◌then◌else◌, List, [], ◌∷◌, ◌++◌, Option, None, Some, Result, Ok, Err}
use Rattle.serde_json.specs.Written.{compact_text}
use Rattle.job_values.specs.declared.run.CallbackItem.{CallbackItem}
use Rattle.callback_spool.specs.Different.{names}
use Rattle.api_messages.specs.Members.{Cell, int, text}
use Rattle.api_messages.specs.Tables.{item_rows}
use Rattle.api_messages.specs.Seen.{item_cells}
use Rattle.api_messages.specs.Reading.{one_item_at}
use Rattle.api_messages.specs.Writing.{object_of}
use Rattle.api_messages.specs.declared.fault.MessageFault.{MessageFault}
use Rattle.spool_text.specs.declared.fault.SpoolFault.{SpoolFault}
use Rattle.spool_text.specs.declared.fault.SpoolFault.TheVariants as faults

-- the JSON of an item, in one line
abbrev pub item_line : CallbackItem → List ℕ
item_line item = compact_text (object_of item_rows (item_cells item))

-- the text of these items
abbrev pub spool_text : List CallbackItem → List ℕ
spool_text [] = []
spool_text (item ∷ items) = item_line item ++ 10 ∷ spool_text items

-- ---- lines

-- the lines that have their LF, where the first one has begun with these bytes
abbrev pub whole_from : List ℕ → List ℕ → List (List ℕ)
whole_from line [] = []
whole_from line (b ∷ bs) = if b == 10 then line ∷ whole_from [] bs else whole_from (line ++ b ∷ []) bs

-- what stands behind the last LF
abbrev pub last_from : List ℕ → List ℕ → List ℕ
last_from line [] = line
last_from line (b ∷ bs) = if b == 10 then last_from [] bs else last_from (line ++ b ∷ []) bs

-- ---- items

-- the item that has these values
abbrev pub item_in : List Cell → Option CallbackItem
item_in (int code ∷ text msg ∷ int (pos moment) ∷ int (pos log) ∷ []) = Some (record { log = log; log_moment = moment; code = code; msg = msg })
item_in _ = None

abbrev pub item_read : Result (List Cell) MessageFault → Option CallbackItem
item_read (Ok cells) = item_in cells
item_read (Err e) = None

-- the item that a line is, in either form
abbrev pub item_at : List ℕ → Option CallbackItem
item_at line = item_read (one_item_at line)

-- a further item, where its log is none of those before; else the line is bad
abbrev pub goes_on : ℕ → List CallbackItem → Option CallbackItem → (List CallbackItem → Result (List CallbackItem) ℕ) → Result (List CallbackItem) ℕ
goes_on n before None more = Err n
goes_on n before (Some item) more = if names item.log before then Err n else more (before ++ item ∷ [])

abbrev pub ends : ℕ → List CallbackItem → List ℕ → Result (List CallbackItem) ℕ
ends n before [] = Ok before
ends n before (b ∷ bs) = Err n

-- the items of the lines from number n on, behind those of the lines before, or the number of the first bad line
abbrev pub items_from : ℕ → List CallbackItem → List (List ℕ) → List ℕ → Result (List CallbackItem) ℕ
items_from n before [] last = ends n before last
items_from n before (line ∷ lines) last = goes_on n before (item_at line) (λ all. items_from (n + 1) all lines last)

-- the items of a spool text, or the number of its first line that is no item, has a log of an earlier line, or lacks its LF
abbrev pub spool_at : List ℕ → Result (List CallbackItem) ℕ
spool_at bytes = items_from 1 [] (whole_from [] bytes) (last_from [] bytes)

-- a fault names the first bad line, unless memory ran out
abbrev pub IsFaultOf : Result (List CallbackItem) ℕ → SpoolFault → Type 0
IsFaultOf given (faults.Bad line) = given ≡ Err line
IsFaultOf given faults.NoMemory = Unit {0}

-- a line with this number is no item, unless memory ran out
abbrev pub IsLineFault : ℕ → Option CallbackItem → SpoolFault → Type 0
IsLineFault n given (faults.Bad line) = (given ≡ None) × (line ≡ n)
IsLineFault n given faults.NoMemory = Unit {0}
