-- Where the fields and items of a cron text stand.
use Rattle.std.specs.Prelude.{ℕ, ◌+◌, ◌-◌, ◌==◌, nat_le, Bool, not, ◌&&◌, ◌||◌, List, [], ◌∷◌, length, drop, slice_index, take, position, Option, Some, None, if◌then◌else◌}
use Rattle.cron_schedule.specs.declared.piece.Piece.{Piece}

-- a space or a tab
abbrev pub is_blank : ℕ → Bool
is_blank byte = (byte == 32) || (byte == 9)

-- a byte of an item: no blank and no comma
abbrev pub in_item : ℕ → Bool
in_item byte = not (is_blank byte) && not (byte == 44)

-- the items of the bytes from a place on, in their fields: one begins behind each comma, and, in
-- the next field, at each byte that is no blank and stands behind one or first
abbrev pub pieces_from : ℕ → ℕ → ℕ → List ℕ → List Piece
pieces_from field before start [] =
    if before == 44 then record { field = field; start = start } ∷ [] else []
pieces_from field before start (byte ∷ bytes) =
    if before == 44 then record { field = field; start = start } ∷ pieces_from field byte (start + 1) bytes
    else if is_blank before && not (is_blank byte)
    then record { field = field + 1; start = start } ∷ pieces_from (field + 1) byte (start + 1) bytes
    else pieces_from field byte (start + 1) bytes

-- the items of a text
abbrev pub pieces : List ℕ → List Piece
pieces text = pieces_from 0 32 0 text

-- the bytes before a place, or all where none is given
abbrev pub up_to : Option ℕ → List ℕ → List ℕ
up_to None bytes = bytes
up_to (Some end) bytes = take end bytes

-- the bytes of the item that begins at a place: all before the next blank or comma
abbrev pub item_at : List ℕ → ℕ → List ℕ
item_at text start = up_to (position (λ byte. not (in_item byte)) (drop start text)) (drop start text)

-- no comma stands directly before or behind the item that begins at a place
abbrev pub stands_alone : List ℕ → ℕ → Bool
stands_alone text start =
    ((start == 0) || not (slice_index text (start - 1) == 44))
    && (nat_le (length text) (start + length (item_at text start)) || not (slice_index text (start + length (item_at text start)) == 44))
