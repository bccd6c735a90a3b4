-- Items of different logs.
use Rattle.std.specs.Prelude.{◌≡◌, ℕ, ◌==◌, Bool, false, List, [], ◌∷◌}
use Rattle.std.specs.List.{list_any}
use Rattle.job_values.specs.declared.run.CallbackItem.{CallbackItem}

-- some item is one of the log
abbrev pub names : ℕ → List CallbackItem → Bool
names log items = list_any (λ (item : CallbackItem). log == item.log) items

-- no two items are of one log
abbrev pub HaveDifferentLogs : List CallbackItem → Type 0
HaveDifferentLogs [] = Unit {0}
HaveDifferentLogs (item ∷ items) = (names item.log items ≡ false) × HaveDifferentLogs items
