-- Texts between quotes: characters in UTF-8, with `"`, `\` and the characters below U+0020 escaped.
use Rattle.std.specs.Prelude.{◌≡◌, ℕ, zero, suc, ◌+◌, ◌-◌, ◌/◌, ◌%◌, ◌≤◌, Bool, ◌&&◌, ◌||◌, nat_lt, nat_le, ◌==◌, if◌then◌else◌, List, [], ◌∷◌, ◌++◌, length, Option, Some, None, Result}
use Rattle.std.specs.List.{flat_map}
use Rattle.std.specs.Str.{IsUtf8}
use Rattle.line_grammar.specs.declared.ends.End.{End}
use Rattle.line_grammar.specs.declared.texts.TextForm.{TextForm}
use Rattle.line_grammar.specs.declared.texts.Tail.{Tail}
use Rattle.line_grammar.specs.declared.texts.TextStage.{TextStage}
use Rattle.line_grammar.specs.declared.texts.TextStage.TheVariants.{Opening, Open, Inside, Slash, Hex, Closed}
use Rattle.line_grammar.specs.declared.texts.TextMove.{TextMove}
use Rattle.line_grammar.specs.declared.texts.TextMove.TheVariants.{Stay, Add, Whole, Wrong}
use Rattle.line_grammar.specs.Ends.{end_byte}
use Rattle.line_grammar.specs.Automata.{Step, Goes, Ends, Refuses, run}

-- ---- what a text says

-- a hexadecimal digit, in lower case
abbrev pub hex_digit : ℕ → ℕ
hex_digit d = if nat_lt d 10 then 48 + d else 87 + d

-- how one byte of a text is written
abbrev pub escape : ℕ → List ℕ
escape b =
    if b == 34 then 92 ∷ 34 ∷ []
    else (if b == 92 then 92 ∷ 92 ∷ []
    else (if nat_lt b 32 then 92 ∷ (48 + b / 16) ∷ hex_digit (b % 16) ∷ []
    else b ∷ []))

-- how the bytes of a text are written
abbrev pub spelled : List ℕ → List ℕ
spelled text = flat_map escape text

-- the one spelling of a text
abbrev pub text_text : TextForm → List ℕ → List ℕ
text_text form text = 34 ∷ (spelled text ++ 34 ∷ end_byte form.behind ∷ [])

-- the bytes say this text, which is UTF-8 and within the bounds
abbrev pub IsText : TextForm → List ℕ → List ℕ → Type 0
IsText form text bytes = IsUtf8 text × (form.least ≤ length text) × (length text ≤ form.greatest) × (bytes ≡ text_text form text)

-- the bounds are such that each text's front begins a text
abbrev pub is_text_form : TextForm → Bool
is_text_form form = nat_le form.least 1 && nat_le 1 form.greatest

-- texts of least to greatest bytes with this end
abbrev pub text_form : ℕ → ℕ → End → TextForm
text_form least greatest end = record { least = least; greatest = greatest; behind = end }

-- ---- how a text is read

-- what follows the first byte of a character of two to four bytes: bounds of the second, and how many more there are
abbrev pub tail_of : ℕ → Option Tail
tail_of b =
    if nat_lt b 194 then None
    else (if nat_lt b 224 then Some (record { low = 128; high = 191; more = 0 })
    else (if b == 224 then Some (record { low = 160; high = 191; more = 1 })
    else (if b == 237 then Some (record { low = 128; high = 159; more = 1 })
    else (if nat_lt b 240 then Some (record { low = 128; high = 191; more = 1 })
    else (if b == 240 then Some (record { low = 144; high = 191; more = 2 })
    else (if nat_lt b 244 then Some (record { low = 128; high = 191; more = 2 })
    else (if b == 244 then Some (record { low = 128; high = 143; more = 2 })
    else None)))))))

-- where reading stands when this many bytes of a character are still to come
abbrev pub stage_behind : ℕ → TextStage
stage_behind zero = Open
stage_behind (suc n) = Inside (record { low = 128; high = 191; more = n })

-- a character's first byte, where the whole character fits
abbrev pub lead_move : TextForm → ℕ → ℕ → Option Tail → TextMove
lead_move form len b None = Wrong
lead_move form len b (Some tail) = if nat_le (len + 2 + tail.more) form.greatest then Add b (Inside tail) else Wrong

-- a byte between characters
abbrev pub open_move : TextForm → ℕ → ℕ → TextMove
open_move form len b =
    if b == 34 then (if nat_le form.least len then Stay Closed else Wrong)
    else (if b == 92 then (if nat_lt len form.greatest then Stay Slash else Wrong)
    else (if nat_lt b 32 then Wrong
    else (if nat_lt b 128 then (if nat_lt len form.greatest then Add b Open else Wrong)
    else lead_move form len b (tail_of b))))

-- the byte behind `\`
abbrev pub slash_move : ℕ → TextMove
slash_move b =
    if b == 34 || b == 92 then Add b Open
    else (if b == 48 || b == 49 then Stay (Hex (b == 49)) else Wrong)

-- the second digit of an escape, behind 1 or behind 0
abbrev pub hex_move : Bool → ℕ → TextMove
hex_move one b =
    if nat_lt b 48 then Wrong
    else (if nat_lt b 58 then Add ((if one then 16 else 0) + (b - 48)) Open
    else (if nat_lt b 97 then Wrong
    else (if nat_lt b 103 then Add ((if one then 16 else 0) + (b - 87)) Open else Wrong)))

-- what a byte does, where this many bytes of the text were read
abbrev pub text_move : TextForm → TextStage → ℕ → ℕ → TextMove
text_move form Opening len b = if b == 34 then Stay Open else Wrong
text_move form Open len b = open_move form len b
text_move form (Inside tail) len b = if nat_lt b tail.low || nat_lt tail.high b then Wrong else Add b (stage_behind tail.more)
text_move form Slash len b = slash_move b
text_move form (Hex one) len b = hex_move one b
text_move form Closed len b = if b == end_byte form.behind then Whole else Wrong

abbrev pub text_step_of : List ℕ → TextMove → Step (TextStage × List ℕ) (List ℕ)
text_step_of front (Stay stage) = Goes (stage, front)
text_step_of front (Add b stage) = Goes (stage, front ++ b ∷ [])
text_step_of front Whole = Ends front
text_step_of front Wrong = Refuses

abbrev pub text_step : TextForm → TextStage × List ℕ → ℕ → Step (TextStage × List ℕ) (List ℕ)
text_step form s b = text_step_of s.1 (text_move form s.0 (length s.1) b)

-- reading a text
unfoldable pub text_at : TextForm → List ℕ → Result (List ℕ × List ℕ) ℕ
text_at form bytes = run (text_step form) (Opening, []) bytes
