-- What a cron text says, or its first fault.
use Rattle.std.specs.Prelude.{ℕ, ◌+◌, ◌==◌, nat_lt, Bool, true, false, not, ◌≡◌, ◌&&◌, List, [], ◌∷◌, ◌++◌, length, fold, find, is_none, Option, Some, None, Result, Ok, Err, if◌then◌else◌}
use Rattle.std.specs.List.{list_any, filter_map}
use Rattle.job_values.specs.declared.fault.ScheduleFault.{ScheduleFault}
use Rattle.cron_schedule.specs.declared.item.Item.{Item}
use Rattle.cron_schedule.specs.declared.item.Item.TheVariants.{Values, Free, Last, LastWorkday, Workday, LastWeekday, NthWeekday}
use Rattle.cron_schedule.specs.declared.item.FieldItem.{FieldItem}
use Rattle.cron_schedule.specs.declared.piece.Piece.{Piece}
use Rattle.cron_schedule.specs.declared.fault.ParseFault.{ParseFault}
use Rattle.cron_schedule.specs.declared.fault.ParseFault.TheVariants.{Bad, NoMemory}
use Rattle.cron_schedule.specs.Pieces.{pieces, item_at, stands_alone}
use Rattle.cron_schedule.specs.Reading.{item_of}

-- a fault at a place of a field
abbrev pub fault_at : ℕ → ℕ → ScheduleFault
fault_at field place = record { field = field; place = place }

-- an item that may stand beside others in its field
abbrev pub may_stand : Item → Bool → Bool
may_stand (Values run) alone = true
may_stand Free alone = alone
may_stand (Last back) alone = alone
may_stand LastWorkday alone = alone
may_stand (Workday n) alone = alone
may_stand (LastWeekday weekday) alone = alone
may_stand (NthWeekday weekday k) alone = alone

-- an item of a field, unless it does not stand as it must
abbrev pub standing : ℕ → Bool → Option Item → Option FieldItem
standing field alone None = None
standing field alone (Some item) =
    if may_stand item alone then Some (record { field = field; item = item }) else None

-- the item that the text has at a piece, if it is one of its field
abbrev pub item_at_piece : List ℕ → Piece → Option FieldItem
item_at_piece text p = standing p.field (stands_alone text p.start) (item_of p.field (item_at text p.start))

-- how many fields the pieces are of
abbrev pub field_count : List Piece → ℕ
field_count ps = fold (λ count p. p.field) 0 ps

-- the place of a piece's first byte, from 1
abbrev pub place_at : Option Piece → ℕ
place_at None = 0
place_at (Some p) = p.start + 1

-- the place of a field's first byte
abbrev pub place_of : ℕ → List Piece → ℕ
place_of field ps = place_at (find (λ p. p.field == field) ps)

abbrev pub is_free_item : Item → Bool
is_free_item (Values run) = false
is_free_item Free = true
is_free_item (Last back) = false
is_free_item LastWorkday = false
is_free_item (Workday n) = false
is_free_item (LastWeekday weekday) = false
is_free_item (NthWeekday weekday k) = false

-- a field is `?`
abbrev pub is_free : ℕ → List FieldItem → Bool
is_free field items = list_any (λ i. (i.field == field) && is_free_item i.item) items

-- a field that is missing at the end is `*`
abbrev pub with_years : List FieldItem → List FieldItem
with_years items =
    if list_any (λ i. i.field == 7) items then items
    else items ++ record { field = 7; item = Values (record { from = 1970; to = 2099; step = 1 }) } ∷ []

-- exactly one of two tests passes
abbrev pub is_one : Bool → Bool → Bool
is_one true other = not other
is_one false other = other

-- exactly one of the fields 4 and 6 is `?`
abbrev pub free_checked : List Piece → List FieldItem → Result (List FieldItem) ScheduleFault
free_checked ps items =
    if is_one (is_free 4 items) (is_free 6 items) then Ok (with_years items) else Err (fault_at 6 (place_of 6 ps))

-- each piece is an item of its field: the first that is none is the fault
abbrev pub items_checked : List ℕ → List Piece → Option Piece → Result (List FieldItem) ScheduleFault
items_checked text ps (Some p) = Err (fault_at p.field (p.start + 1))
items_checked text ps None = free_checked ps (filter_map (item_at_piece text) ps)

-- there are six or seven fields
abbrev pub count_checked : List ℕ → List Piece → Result (List FieldItem) ScheduleFault
count_checked text ps =
    if nat_lt (field_count ps) 6 then Err (fault_at (field_count ps + 1) (length text + 1))
    else if nat_lt 7 (field_count ps) then Err (fault_at 8 (place_of 8 ps))
    else items_checked text ps (find (λ p. is_none (item_at_piece text p)) ps)

-- the items of a cron text with their fields, or its first fault
abbrev pub cron_parsed : List ℕ → Result (List FieldItem) ScheduleFault
cron_parsed text = count_checked text (pieces text)

-- an answer gives the items or the fault that are said, or tells of memory
abbrev pub GivesItems : Result (List FieldItem) ParseFault → Result (List FieldItem) ScheduleFault → Type 0
GivesItems (Ok items) said = said ≡ Ok items
GivesItems (Err (Bad fault)) said = said ≡ Err fault
GivesItems (Err NoMemory) said = Unit {0}
