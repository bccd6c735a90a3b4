-- What the bytes of a body are.
use Rattle.std.proofs.Common.{◌≡◌, ℕ, ◌≤◌, List, length, Some, None, Ok, Err, Bool, true, false, cond, refl}
use Rattle.std.proofs.lemmas.Bool.{le-ltb}
use Rattle.std.specs.Str.{IsUtf8, is_utf8}
use Rattle.std.proofs.lemmas.Str.{IsUtf8-from_is_utf8, is_utf8-from_IsUtf8}
use Rattle.serde_json.specs.Data.{Data}
use Rattle.serde_json.specs.Read.{read}
use Rattle.job_values.specs.declared.limits.TheConstants.{LONGEST_BODY}
use Rattle.api_messages.specs.Reading.{value_at}
use Rattle.api_messages.specs.declared.fault.MessageFault.TheVariants.{NotJson}

pub value_at-json : (bytes : List ℕ) (d : Data) → length bytes ≤ LONGEST_BODY → IsUtf8 bytes → read bytes ≡ Some d → value_at bytes ≡ Ok d
unfolding value_at
value_at-json bytes d short utf8 is = rw (le-ltb LONGEST_BODY (length bytes) short, is_utf8-from_IsUtf8 bytes utf8, is) refl

no_json : (b : Bool) (bytes : List ℕ) → is_utf8 bytes ≡ b → (IsUtf8 bytes → read bytes ≡ None) → cond b (read bytes) None ≡ None
no_json true bytes e none = none (IsUtf8-from_is_utf8 bytes e)
no_json false bytes e none = refl

pub value_at-none : (bytes : List ℕ) → length bytes ≤ LONGEST_BODY → (IsUtf8 bytes → read bytes ≡ None) → value_at bytes ≡ Err NotJson
unfolding value_at
value_at-none bytes short none = rw (le-ltb LONGEST_BODY (length bytes) short, no_json (is_utf8 bytes) bytes refl none) refl
