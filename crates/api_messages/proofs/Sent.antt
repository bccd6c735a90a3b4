-- The items of a callback as they are written, one by one.
use Rattle.std.proofs.Common.{◌≡◌, ℕ, ◌+◌, ◌<◌, ◌≤◌, List, [], ◌∷◌, ◌++◌, length, get_or, take, map, true, false, Result, Ok, Err, refl, sym, ap, subst, ◌∙◌, append_assoc, append-nil, Some, arith}
use Rattle.std.specs.Prelude.{IfOk}
use Rattle.std.specs.Str.{IsUtf8}
use Rattle.std.proofs.lemmas.List.{take_more, map_push, length-map}
use Rattle.std.proofs.lemmas.Bool.{le-ltb}
use Rattle.serde_json.specs.Data.{Data, depth, items_depth}
use Rattle.serde_json.specs.Read.{read, max_depth}
use Rattle.serde_json.specs.View.{view, items_of}
use Rattle.serde_json.specs.Written.{has_float, items_have_float, compact_text}
use Rattle.serde_json.specs.declared.value.Value.{Value}
use Rattle.job_values.specs.declared.no_memory.NoMemory.{NoMemory}
use Rattle.job_values.specs.declared.run.CallbackItem.{CallbackItem}
use Rattle.api_messages.specs.Members.{Cell}
use Rattle.api_messages.specs.Tables.{item_rows}
use Rattle.job_values.specs.declared.limits.TheConstants.{LONGEST_BODY, BATCH_ITEMS}
use Rattle.api_messages.specs.Seen.{item_cells}
use Rattle.api_messages.specs.Reading.{items_from, all_objects, results_in, callbacks_at}
use Rattle.api_messages.specs.Writing.{Fit, FitAll, object_of, array_of}
use Rattle.api_messages.proofs.Again.{flat_members}
use Rattle.api_messages.proofs.OneItem.{item_again}
use Rattle.api_messages.proofs.Bodies.{value_at-json}
use Rattle.api_messages.proofs.Items.{first, no_item, list_of-items_of}

-- what was made of the items so far
pub record Sent (made : List Data) (items : List (List Cell)) : Type 0 where
  pub same : made ≡ map (object_of item_rows) items
  pub fit : FitAll items

pub Sent-none : Sent [] []
Sent-none = record { same = refl; fit = tt }

FitAll-push : (items : List (List Cell)) (cells : List Cell) → FitAll items → Fit item_rows cells → FitAll (items ++ cells ∷ [])
FitAll-push [] cells h k = (k, tt)
FitAll-push (x ∷ xs) cells h k = (h.0, FitAll-push xs cells h.1 k)

Sent-push : (made : List Data) (items : List (List Cell)) (d : Data) (cells : List Cell) → Sent made items → d ≡ object_of item_rows cells → Fit item_rows cells → Sent (made ++ d ∷ []) (items ++ cells ∷ [])
Sent-push made items d cells s is fits = record { same = rw (s.same, is, map_push (object_of item_rows) items cells) refl; fit = FitAll-push items cells s.fit fits }

-- one more item
pub Sent-more : (values made : List Value) (items : List CallbackItem) (i : ℕ) (value : Value) (item : CallbackItem)
    → made ≡ values ++ value ∷ [] → i < length items → item ≡ get_or items i item → Sent (map view values) (map item_cells (take i items))
    → view value ≡ object_of item_rows (item_cells item) → Fit item_rows (item_cells item) → Sent (map view made) (map item_cells (take (i + 1) items))
Sent-more values made items i value item more h at so_far is fits =
    let e : map view made ≡ map view values ++ view value ∷ [] = rw more (map_push view values value) in
    let f : map item_cells (take (i + 1) items) ≡ map item_cells (take i items) ++ item_cells item ∷ [] = rw (take_more items i item h, ← at) (map_push item_cells _ item) in
    rw (e, f) (Sent-push _ _ (view value) (item_cells item) so_far is fits)

-- ---- what was written is read again

item_depth : (m : CallbackItem) → depth (object_of item_rows (item_cells m)) ≤ 1
item_depth m = omega arith

array_depth : (items : List CallbackItem) → items_depth (items_of (map (object_of item_rows) (map item_cells items))) ≤ 1
array_depth [] = omega arith
array_depth (m ∷ ms) = omega (arith, item_depth m, array_depth ms)

array_float : (items : List CallbackItem) → items_have_float (items_of (map (object_of item_rows) (map item_cells items))) ≡ false
array_float [] = refl
array_float (m ∷ ms) = rw (flat_members item_rows (item_cells m) refl) (array_float ms)

all_are_objects : (items : List (List Cell)) → all_objects (map (object_of item_rows) items) ≡ true
all_are_objects [] = refl
all_are_objects (cells ∷ items) = all_are_objects items

items_again : (before items : List (List Cell)) → FitAll items → items_from before (map (object_of item_rows) items) ≡ Ok (before ++ items)
items_again before [] h = no_item before ∙ ap Ok (sym (append-nil before))
items_again before (cells ∷ items) h =
    first before (object_of item_rows cells) _ cells (item_again cells h.0) ∙ items_again (before ++ cells ∷ []) items h.1 ∙ ap Ok (append_assoc before (cells ∷ []) items)

results_again : (items : List (List Cell)) → length items ≤ BATCH_ITEMS → FitAll items → results_in (map (object_of item_rows) items) ≡ Ok items
results_again items few h = rw (all_are_objects items, length-map items (object_of item_rows), le-ltb BATCH_ITEMS (length items) few) (items_again [] items h)

callbacks_again : (items : List (List Cell)) (b : List ℕ) → length items ≤ BATCH_ITEMS → FitAll items → length b ≤ LONGEST_BODY → IsUtf8 b → read b ≡ Some (array_of items) → callbacks_at b ≡ Ok items
unfolding callbacks_at
callbacks_again items b few fits short utf8 reads = rw (value_at-json b _ short utf8 reads, list_of-items_of (map (object_of item_rows) items)) (results_again items few fits)

pub array_text : (r : Result (List ℕ) NoMemory) (d : Data) (items : List CallbackItem) → d ≡ array_of (map item_cells items)
    → IfOk r (λ b. has_float d ≡ false → b ≡ compact_text d) → IfOk r (λ b. b ≡ compact_text (array_of (map item_cells items)))
array_text (Ok b) d items is texts = subst (λ e. has_float e ≡ false → b ≡ compact_text e) is texts (array_float items)
array_text (Err e) d items is texts = tt

pub array_again : (r : Result (List ℕ) NoMemory) (d : Data) (items : List CallbackItem) → d ≡ array_of (map item_cells items) → FitAll (map item_cells items) → IfOk r IsUtf8
    → IfOk r (λ b. depth d ≤ max_depth → read b ≡ Some d) → IfOk r (λ b. length b ≤ LONGEST_BODY → length items ≤ BATCH_ITEMS → callbacks_at b ≡ Ok (map item_cells items))
array_again (Ok b) d items is fits utf8 reads =
    λ short few.
    let within : depth (array_of (map item_cells items)) ≤ max_depth = omega (arith, array_depth items) in
    callbacks_again (map item_cells items) b (omega (arith, length-map items item_cells)) fits short utf8 (subst (λ e. depth e ≤ max_depth → read b ≡ Some e) is reads within)
array_again (Err e) d items is fits utf8 reads = tt
