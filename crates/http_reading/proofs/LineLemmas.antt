-- Lines before chunks: where none can begin, and what the parser tells of the first 16,384 bytes.
use Rattle.std.proofs.Common.{◌≡◌, ℕ, ◌+◌, ◌<◌, ◌≤◌, List, [], ◌∷◌, ◌++◌, length, take, drop, sym, ap, ◌∙◌, subst, arith, append-nil, length-take, length-append, take-append-drop}
use Rattle.std.proofs.lemmas.List.{take_all, take-take}
use Rattle.httparse.specs.Grammar.{ChunkLine, print_chunk_line, ReadsChunkLine, HasNoChunkLine, NeverHasChunkLine, MayBecomeChunkLine}
use Rattle.httparse.specs.Spans.{IsChunkLineAt}
use Rattle.httparse.proofs.ChunkLemmas.{ReadsChunkLine-append}
use Rattle.httparse.proofs.OpenLemmas.{chunk_may, digits_cut}
use Rattle.std.proofs.lemmas.List.Elements.{All-nil}
use Rattle.http_reading.specs.declared.plan.TheConstants.{MOST_LINE}
use Rattle.http_reading.specs.Chunks.{OpenLine, LongLine, BadLine}
use Rattle.http_reading.specs.ChunkReads.{FirstBad, LineAt}
use Rattle.http_reading.proofs.HeadLemmas.{behind_front}

-- a front of bytes with which no line begins holds none
pub never_front : (bytes : List ℕ) (n : ℕ) → NeverHasChunkLine bytes → HasNoChunkLine (take n bytes)
never_front bytes n never line rest reads =
    never [] line (rest ++ drop n bytes)
    (subst (λ t. ReadsChunkLine t line (rest ++ drop n bytes)) (take-append-drop n bytes ∙ sym (append-nil bytes))
    (ReadsChunkLine-append (take n bytes) line rest (drop n bytes) reads))

-- a line may begin with no byte
pub may_none : MayBecomeChunkLine []
may_none = chunk_may (digits_cut [] (All-nil _) (omega arith))

-- a byte less than all of the bytes with which no line begins is there
pub never_some : (bytes : List ℕ) → NeverHasChunkLine bytes → 0 < length bytes
never_some [] never = absurd (never may_none.0 may_none.1 [] may_none.2)
never_some (b ∷ bytes) never = omega arith

-- the first bad byte of the front is that of all bytes
pub bad_line : (bytes text : List ℕ) (place : ℕ) → text ≡ take MOST_LINE bytes → FirstBad text place → BadLine bytes place
bad_line bytes text place e bad =
    let size : length text ≤ 16384 = omega (arith, ap length e, length-take MOST_LINE bytes) in
    record {
      inside = omega (arith, bad.inside, ap length e, length-take MOST_LINE bytes);
      early = omega (arith, bad.inside);
      some = subst MayBecomeChunkLine (ap (take place) e ∙ take-take place MOST_LINE bytes (omega (arith, bad.inside))) bad.some;
      none = subst NeverHasChunkLine (ap (take (place + 1)) e ∙ take-take (place + 1) MOST_LINE bytes (omega (arith, bad.inside))) bad.none;
    }

pub open_line : (bytes text : List ℕ) → text ≡ take MOST_LINE bytes → length bytes < 16384 → HasNoChunkLine text → MayBecomeChunkLine text → OpenLine bytes
open_line bytes text e few none some =
    let all : text ≡ bytes = e ∙ take_all 16384 bytes (omega arith) in
    record { few = few; none = subst HasNoChunkLine all none; some = subst MayBecomeChunkLine all some }

pub long_line : (bytes text : List ℕ) → text ≡ take MOST_LINE bytes → 16384 ≤ length bytes → HasNoChunkLine text → MayBecomeChunkLine text → LongLine bytes
long_line bytes text e many none some =
    record { many = many; none = subst HasNoChunkLine e none; some = subst MayBecomeChunkLine e some }

-- a line at the front of the first bytes is at the front of all
pub line_at : (bytes text : List ℕ) (len size : ℕ) → text ≡ take MOST_LINE bytes → (l : ChunkLine) × IsChunkLineAt text len size l
    → len ≤ length text → LineAt bytes (record { len = len; size = size })
line_at bytes text len size e at inside =
    let is = at.0 in
    let shorter : length text ≤ 16384 = omega (arith, ap length e, length-take MOST_LINE bytes) in
    let whole : ReadsChunkLine (text ++ drop MOST_LINE bytes) is (drop len text ++ drop MOST_LINE bytes) = ReadsChunkLine-append text is (drop len text) (drop MOST_LINE bytes) at.1.reads in
    let front : text ++ drop MOST_LINE bytes ≡ bytes = ap (λ (t : List ℕ). t ++ drop MOST_LINE bytes) e ∙ take-append-drop MOST_LINE bytes in
    let rest : drop len text ++ drop MOST_LINE bytes ≡ drop len bytes =
    ap (λ (t : List ℕ). drop len t ++ drop MOST_LINE bytes) e ∙ behind_front MOST_LINE len bytes (omega (arith, inside, ap length e)) in
    record {
      is = is;
      reads = record {
        reads = subst (λ t. ReadsChunkLine t is (drop len bytes)) front (subst (ReadsChunkLine (text ++ drop MOST_LINE bytes) is) rest whole);
        short = omega (arith, at.1.len_is, inside);
      };
      len_is = at.1.len_is;
      inside = omega (arith, inside, ap length e, length-take MOST_LINE bytes);
      size_is = at.1.size_is;
    }

-- the parser's line is within the bytes
pub line_inside : (text : List ℕ) (len size : ℕ) → (l : ChunkLine) × IsChunkLineAt text len size l → len ≤ length text
line_inside text len size at = omega (arith, at.1.len_is, ap length at.1.reads.1, length-append {A = ℕ} (print_chunk_line at.0) (drop len text))
