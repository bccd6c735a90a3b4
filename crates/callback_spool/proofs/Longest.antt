-- The batch is the longest prefix within both limits.
use Rattle.std.proofs.Common.{◌≡◌, ℕ, ◌+◌, ◌≤◌, Bool, true, false, ◌&&◌, nat_lt, nat_le, if◌then◌else◌, List, [], ◌∷◌, length, take, zero, suc, refl, sym, ◌∙◌, ◌<◌, add-one, add_comm, arith}
use Rattle.std.proofs.lemmas.Bool.Decides.{nat_tests}
use Rattle.std.proofs.lemmas.List.Sums.{sum_by-cons}
use Rattle.std.proofs.lemmas.Bool.{false≢true}
use Rattle.job_values.specs.declared.limits.TheConstants.{BATCH_ITEMS, BATCH_BYTES}
use Rattle.job_values.specs.declared.run.CallbackItem.{CallbackItem}
use Rattle.callback_spool.specs.Batches.{fitting, batch_len, text_bytes, IsLongest}

-- a test of both limits that holds
pub record Fits (count bytes : ℕ) : Type 0 where
  pub few : count < BATCH_ITEMS
  pub small : bytes ≤ BATCH_BYTES

fits_of : (count bytes : ℕ) → nat_lt count BATCH_ITEMS && nat_le bytes BATCH_BYTES ≡ true → Fits count bytes
fits_of count bytes e = record { few = grind (arith, nat_tests); small = grind (arith, nat_tests) }

test_of : (count bytes : ℕ) → count < BATCH_ITEMS → bytes ≤ BATCH_BYTES → nat_lt count BATCH_ITEMS && nat_le bytes BATCH_BYTES ≡ true
test_of count bytes few small = grind (arith, nat_tests)

few_step : (b : Bool) (count bytes n : ℕ) → nat_lt count BATCH_ITEMS && nat_le bytes BATCH_BYTES ≡ b → count ≤ BATCH_ITEMS → (count + 1 ≤ BATCH_ITEMS → (count + 1) + n ≤ BATCH_ITEMS) → count + (if b then 1 + n else 0) ≤ BATCH_ITEMS
few_step true count bytes n e h step = let fits = fits_of count bytes e in let k : (count + 1) + n ≤ BATCH_ITEMS = step (omega (arith, fits.few)) in omega arith
few_step false count bytes n e h step = omega arith

few : (count bytes : ℕ) (items : List CallbackItem) → count ≤ BATCH_ITEMS → count + fitting count bytes items ≤ BATCH_ITEMS
few count bytes [] h = omega arith
few count bytes (item ∷ items) h =
    few_step (nat_lt count BATCH_ITEMS && nat_le (bytes + length item.msg) BATCH_BYTES) count (bytes + length item.msg) (fitting (count + 1) (bytes + length item.msg) items) refl h (few (count + 1) (bytes + length item.msg) items)

small_step : (b : Bool) (count bytes text n : ℕ) (item : CallbackItem) (items : List CallbackItem) → nat_lt count BATCH_ITEMS && nat_le (bytes + text) BATCH_BYTES ≡ b → text ≡ length item.msg → bytes ≤ BATCH_BYTES
    → (bytes + text ≤ BATCH_BYTES → (bytes + text) + text_bytes (take n items) ≤ BATCH_BYTES) → bytes + text_bytes (take (if b then 1 + n else 0) (item ∷ items)) ≤ BATCH_BYTES
small_step true count bytes text n item items e is h step =
    let fits = fits_of count (bytes + text) e in
    let k : (bytes + text) + text_bytes (take n items) ≤ BATCH_BYTES = step fits.small in
    let one : text_bytes (item ∷ take n items) ≡ length item.msg + text_bytes (take n items) = sum_by-cons (λ (x : CallbackItem). length x.msg) item (take n items) in
    rw (add_comm 1 n, add-one) (omega (arith, one))
small_step false count bytes text n item items e is h step = omega arith

small : (count bytes : ℕ) (items : List CallbackItem) → bytes ≤ BATCH_BYTES → bytes + text_bytes (take (fitting count bytes items) items) ≤ BATCH_BYTES
small count bytes [] h = omega arith
small count bytes (item ∷ items) h =
    small_step (nat_lt count BATCH_ITEMS && nat_le (bytes + length item.msg) BATCH_BYTES) count bytes (length item.msg) (fitting (count + 1) (bytes + length item.msg) items) item items refl refl h (small (count + 1) (bytes + length item.msg) items)

longest_step : (b : Bool) (count bytes m n : ℕ) → nat_lt count BATCH_ITEMS && nat_le bytes BATCH_BYTES ≡ b → count < BATCH_ITEMS → bytes ≤ BATCH_BYTES → m ≤ n → suc m ≤ (if b then 1 + n else 0)
longest_step true count bytes m n e few small h = omega arith
longest_step false count bytes m n e few small h = absurd (false≢true (sym e ∙ test_of count bytes few small))

longest : (count bytes : ℕ) (items : List CallbackItem) (m : ℕ) → m ≤ length items → count + m ≤ BATCH_ITEMS → bytes + text_bytes (take m items) ≤ BATCH_BYTES → m ≤ fitting count bytes items
longest count bytes [] m within h s = omega arith
longest count bytes (item ∷ items) zero within h s = omega arith
longest count bytes (item ∷ items) (suc m) within h s =
    let one : text_bytes (item ∷ take m items) ≡ length item.msg + text_bytes (take m items) = sum_by-cons (λ (x : CallbackItem). length x.msg) item (take m items) in
    let k : bytes + text_bytes (item ∷ take m items) ≤ BATCH_BYTES = s in
    longest_step (nat_lt count BATCH_ITEMS && nat_le (bytes + length item.msg) BATCH_BYTES) count (bytes + length item.msg) m (fitting (count + 1) (bytes + length item.msg) items) refl (omega arith) (omega arith)
    (longest (count + 1) (bytes + length item.msg) items m (omega arith) (omega arith) (omega arith))

pub batch_is_longest : (items : List CallbackItem) → IsLongest items (batch_len items)
batch_is_longest items = record {
  few = let h = few 0 0 items (omega arith) in omega arith;
  small = let h = small 0 0 items (omega arith) in omega arith;
  longest = λ m within h s. longest 0 0 items m within (omega arith) (omega arith);
}
