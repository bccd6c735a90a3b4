-- What holds of all lines.
use Rattle.std.specs.Prelude.{◌≡◌, ℕ, List, [], ◌++◌}
use Rattle.job_values.specs.declared.limits.TheConstants.{LAST_ADMIN, LAST_MOMENT, LAST_LOG_ID, LAST_LOG_MOMENT, LAST_JOB_ID, LAST_SECONDS, LAST_RETRIES, LONGEST_APP, LONGEST_NAME, LONGEST_PARAM, LONGEST_RESULT, LONGEST_SCHEDULE_GIVEN, MOST_ADDRESSES, MOST_CHILDREN}
use Rattle.job_events.specs.declared.cluster.ClusterEvent.{ClusterEvent}
use Rattle.script_text.specs.declared.limits.TheConstants.{LAST_WORD}
use Rattle.script_text.specs.Lines.{IsLine}
use Rattle.script_text.specs.Spelling.{spelling, IsWithin}

-- no line is a proper prefix of another, and no bytes are the line of two events
abbrev pub NoLineBeginsAnother : Type 0
NoLineBeginsAnother = (event other : ClusterEvent) (bytes more : List ℕ) → IsLine event bytes → IsLine other (bytes ++ more) → (event ≡ other) × (more ≡ [])

-- each event, within the bounds that its type keeps, has exactly one line: its spelling
pub record EachEventHasOneLine : Type 0 where
  pub line : (event : ClusterEvent) → IsWithin event → IsLine event (spelling event)
  pub only : (event : ClusterEvent) (bytes : List ℕ) → IsLine event bytes → bytes ≡ spelling event

-- the bounds of the words of lines, as numbers
pub record BoundsAre : Type 0 where
  pub admin : LAST_ADMIN ≡ 63
  pub moment : LAST_MOMENT ≡ 4102444799999
  pub log : LAST_LOG_ID ≡ 9223372036854775807
  pub word : LAST_WORD ≡ 18446744073709551615
  pub log_moment : LAST_LOG_MOMENT ≡ 9223372036854775807
  pub id : LAST_JOB_ID ≡ 2147483647
  pub timeout : LAST_SECONDS ≡ 2147483647
  pub retries : LAST_RETRIES ≡ 100
  pub app : LONGEST_APP ≡ 64
  pub name : LONGEST_NAME ≡ 255
  pub param : LONGEST_PARAM ≡ 512
  pub result : LONGEST_RESULT ≡ 15000
  pub schedule : LONGEST_SCHEDULE_GIVEN ≡ 1024
  pub addresses : MOST_ADDRESSES ≡ 256
  pub children : MOST_CHILDREN ≡ 64
