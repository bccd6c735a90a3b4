-- A chunk of a line, its content and CR LF.
use Rattle.std.proofs.Common.{◌≡◌, ℕ, ◌+◌, ◌-◌, ◌<◌, ◌≤◌, ◌⊎◌, Bool, false, eqb, List, [], ◌∷◌, ◌++◌, length, take, drop, replicate, refl, sym, ap, ◌∙◌, subst, arith, append_assoc, length-append, length-take, length-drop, take-append-drop, inl, inr, Option}
use Rattle.std.proofs.lemmas.List.{drop-drop, drop-append-le, length-replicate}
use Rattle.std.proofs.lemmas.Bool.Decides.{eqb_tells}
use Rattle.httparse.specs.Grammar.{print_chunk_line}
use Rattle.http_reading.specs.Draws.{Draws, Fails}
use Rattle.http_reading.specs.Chunks.{Line, OpenChunk, TailFault}
use Rattle.http_reading.specs.ChunkReads.{LineAt, SizeRead, ClosedAt, OpenAt, Closed, CloseFault, ReadsOne, ChunkRead, ChunkFault}
use Rattle.http_reading.specs.declared.size_line.SizeLine.{SizeLine}
use Rattle.http_reading.specs.declared.fault.HttpFault.{HttpFault}
use Rattle.http_reading.specs.declared.fault.HttpFault.TheVariants.{Ended, BadHead, TooLarge, BadBody, LinkFault, NoMemory}
use Rattle.http_reading.proofs.DrawLemmas.{draws_more, fails_grown}
use Rattle.http_reading.proofs.GrowLemmas.{Line-append}
use Rattle.http_reading.proofs.BodyLemmas.{part_is}

-- the line, where more bytes were read
line_more : (bytes more : List ℕ) (line : SizeLine) → LineAt bytes line → LineAt (bytes ++ more) line
line_more bytes more line at = record {
  is = at.is;
  reads = subst (Line (bytes ++ more) at.is) (sym (drop-append-le line.len bytes more at.inside)) (Line-append bytes at.is (drop line.len bytes) more at.reads);
  len_is = at.len_is;
  inside = omega (arith, at.inside, length-append bytes more);
  size_is = at.size_is;
}

line_grown : (mid bytes holds : List ℕ) (at : ℕ) (line : SizeLine) → at ≤ length mid → holds ≡ mid ++ bytes → LineAt (drop at mid) line → LineAt (drop at holds) line
line_grown mid bytes holds at line inside grown is =
    subst (λ t. LineAt t line) (sym (ap (drop at) grown ∙ drop-append-le at mid bytes inside)) (line_more (drop at mid) bytes line is)

-- content that is not whole, or not closed, can be made so
unclosed : (rest : List ℕ) (size : ℕ) → (length rest < size) ⊎ ((drop size rest ≡ []) ⊎ (drop size rest ≡ 13 ∷ []))
    → (content : List ℕ) × (more : List ℕ) × (length content ≡ size) × (0 < length more) × (rest ++ more ≡ content ++ 13 ∷ 10 ∷ [])
unclosed rest size (inl few) =
    let pad = replicate (size - length rest) 0 in (
      rest ++ pad,
      pad ++ 13 ∷ 10 ∷ [],
      omega (arith, length-append rest pad, length-replicate {A = ℕ} (size - length rest) 0),
      omega (arith, length-append pad (13 ∷ 10 ∷ [])),
      sym (append_assoc rest pad (13 ∷ 10 ∷ [])),
    )
unclosed rest size (inr (inl none)) =
    let pad = replicate (size - length rest) 0 in (
      rest ++ pad,
      pad ++ 13 ∷ 10 ∷ [],
      omega (arith, length-append rest pad, length-replicate {A = ℕ} (size - length rest) 0, length-drop size rest, ap length none),
      omega (arith, length-append pad (13 ∷ 10 ∷ [])),
      sym (append_assoc rest pad (13 ∷ 10 ∷ [])),
    )
unclosed rest size (inr (inr one)) = (
  take size rest,
  10 ∷ [],
  omega (arith, length-take size rest, length-drop size rest, ap length one),
  omega arith,
  ap (λ (t : List ℕ). t ++ 10 ∷ []) (sym (take-append-drop size rest) ∙ ap (λ (t : List ℕ). take size rest ++ t) one)
      ∙ append_assoc (take size rest) (13 ∷ []) (10 ∷ []),
)

-- what stands behind the content
behind : (holds : List ℕ) (at len size : ℕ) → drop size (drop len (drop at holds)) ≡ drop (at + len + size) holds
behind holds at len size = ap (drop size) (drop-drop len at holds) ∙ drop-drop size (at + len) holds

size_behind : (holds : List ℕ) (at len : ℕ) → length (drop len (drop at holds)) ≡ length holds - at - len
size_behind holds at len = length-drop len (drop at holds) ∙ ap (λ (n : ℕ). n - len) (length-drop at holds)

may_close : (holds : List ℕ) (at len size : ℕ) → OpenAt holds (at + len + size) → at + len ≤ length holds
    → (length (drop len (drop at holds)) < size) ⊎ ((drop size (drop len (drop at holds)) ≡ []) ⊎ (drop size (drop len (drop at holds)) ≡ 13 ∷ []))
may_close holds at len size (inl few) inside = inl (omega (arith, size_behind holds at len))
may_close holds at len size (inr (inl none)) inside = inr (inl (behind holds at len size ∙ none))
may_close holds at len size (inr (inr one)) inside = inr (inr (behind holds at len size ∙ one))

-- the fault of a chunk whose line is whole
close_fault : (at before : ℕ) (holds : List ℕ) (f : Bool) (line : SizeLine) (fault : HttpFault) → LineAt (drop at holds) line
    → before + line.size ≤ 1048576 → at ≤ length holds
    → CloseFault (at + line.len + line.size) holds f fault → TailFault at before (drop at holds) f fault
close_fault at before holds f line (Ended taken) is few inside h =
    let tail = drop at holds in
    let rest = drop line.len tail in
    let enough : at + line.len ≤ length holds = omega (arith, is.inside, length-drop at holds) in
    let u = unclosed rest line.size (may_close holds at line.len line.size h.2 enough) in (
      h.0,
      omega (arith, h.1, length-drop at holds),
      inr (record {
        line = is.is;
        rest = rest;
        chunk = record { reads = is.reads; few = omega (arith, is.size_is) };
        content = u.0;
        more = u.1;
        size = u.2 ∙ is.size_is;
        some = u.3;
        are = u.4;
      }),
    )
close_fault at before holds f line BadHead is few inside h = h
close_fault at before holds f line TooLarge is few inside h = absurd h
close_fault at before holds f line (BadBody place) is few inside h =
    let tail = drop at holds in
    let rest = drop line.len tail in
    let content = take line.size rest in
    let behind_is = behind holds at line.len line.size in
    let size : length content ≡ line.size = omega (arith, length-take line.size rest, size_behind holds at line.len, h.0) in
    let parts : rest ≡ content ++ drop (at + line.len + line.size) holds = sym (take-append-drop line.size rest) ∙ ap (λ (t : List ℕ). content ++ t) behind_is in
    let chunk : OpenChunk before tail is.is rest = record { reads = is.reads; few = omega (arith, is.size_is) } in
    elim h.1.2 [
      | inl x ↦ (
        length (print_chunk_line is.is) + length content,
        omega (arith, x.2, is.len_is, size),
        inr (record {
          line = is.is;
          rest = rest;
          chunk = chunk;
          content = content;
          byte = h.1.0;
          more = h.1.1;
          size = size ∙ is.size_is;
          is = inl (parts ∙ ap (λ (t : List ℕ). content ++ t) x.0, x.1, refl);
        }),
      )
      | inr x ↦ (
        length (print_chunk_line is.is) + length content + 1,
        omega (arith, x.2, is.len_is, size),
        inr (record {
          line = is.is;
          rest = rest;
          chunk = chunk;
          content = content;
          byte = h.1.0;
          more = h.1.1;
          size = size ∙ is.size_is;
          is = inr (parts ∙ ap (λ (t : List ℕ). content ++ t) x.0, x.1, refl);
        }),
      )
    ]
close_fault at before holds f line LinkFault is few inside h = tt
close_fault at before holds f line NoMemory is few inside h = tt

pub empty_list : (xs : List ℕ) → length xs ≡ 0 → xs ≡ []
empty_list [] e = refl
empty_list (x ∷ xs) e = absurd (omega arith)

-- a chunk with its content, or the last one
one_read : (at : ℕ) (holds content : List ℕ) (line : SizeLine) → LineAt (drop at holds) line → ClosedAt holds (at + line.len + line.size)
    → (length content ≡ line.size) × (drop (at + line.len) holds ≡ content ++ drop (at + line.len + line.size) holds)
    → ReadsOne (eqb line.size 0) (drop at holds) content (drop (at + line.len + line.size + 2) holds)
one_read at holds content line is closed part =
    let tail = drop at holds in
    let rest = drop (at + line.len + line.size + 2) holds in
    let line_rest : drop line.len tail ≡ content ++ 13 ∷ 10 ∷ rest = drop-drop line.len at holds ∙ part.1 ∙ ap (λ (t : List ℕ). content ++ t) closed.is in
    let reads : Line tail is.is (content ++ 13 ∷ 10 ∷ rest) = subst (Line tail is.is) line_rest is.reads in
    elim (eqb_tells line.size 0) [
      | inl zero_size ↦
          let none : content ≡ [] = empty_list content (part.0 ∙ zero_size.1) in
          subst (λ b. ReadsOne b tail content rest) (sym zero_size.0)
          (none, (is.is, subst (λ t. Line tail is.is (t ++ 13 ∷ 10 ∷ rest)) none reads, sym is.size_is ∙ zero_size.1))
      | inr some_size ↦
          subst (λ b. ReadsOne b tail content rest) (sym some_size.0)
          (is.is, record { line = reads; size = sym is.size_is ∙ sym part.0; some = omega (arith, part.0, some_size.1) })
    ]

module _ {A : Type 0} {left seen taken : A → Option (List ℕ)} {met : A → Bool} {dial faults : A → ℕ} where
  at_inside : (a b : A) (held mid : List ℕ) (ended : Bool) (at : ℕ) → at ≤ length held → Draws left seen taken met dial faults a b held mid ended → at ≤ length mid
  at_inside a b held mid ended at inside draws = omega (arith, ap length draws.grown, length-append held draws.bytes)

  pub failed_close : (a b c : A) (held mid : List ℕ) (at before : ℕ) (line : SizeLine) (fault : HttpFault)
      → at ≤ length held → before + line.size ≤ 1048576
      → SizeRead left seen taken met dial faults a b held mid at line
      → Fails left seen taken met dial faults b c mid (CloseFault (at + line.len + line.size)) fault
      → Fails left seen taken met dial faults a c held (ChunkFault at before) fault
  failed_close a b c held mid at before line fault inside few read fails =
      let in_mid = at_inside a b held mid false at inside read.draws in
      fails_grown (ChunkFault at before) read.draws fails (λ holds f bytes grown is.
      close_fault at before holds f line fault (line_grown mid bytes holds at line in_mid grown read.is) few
      (omega (arith, in_mid, ap length grown, length-append mid bytes)) is)

  pub chunk_read : (a b c : A) (held mid holds body whole slice : List ℕ) (at : ℕ) (line : SizeLine)
      → at ≤ length held → length body + line.size ≤ 1048576
      → SizeRead left seen taken met dial faults a b held mid at line
      → Closed left seen taken met dial faults b c mid holds (at + line.len + line.size)
      → slice ≡ holds → whole ≡ body ++ take ((at + line.len + line.size) - (at + line.len)) (drop (at + line.len) slice)
      → ChunkRead left seen taken met dial faults a c held holds at body whole
      (record { end = at + line.len + line.size + 2; last = eqb line.size 0 })
  chunk_read a b c held mid holds body whole slice at line inside few read closed same added =
      let in_mid = at_inside a b held mid false at inside read.draws in
      let is = line_grown mid closed.draws.bytes holds at line in_mid closed.draws.grown read.is in
      let content = take ((at + line.len + line.size) - (at + line.len)) (drop (at + line.len) slice) in
      let part = part_is holds slice content (at + line.len) line.size (omega (arith, closed.is.inside)) (omega (arith, closed.is.inside)) same refl in
      record {
        draws = draws_more read.draws closed.draws;
        content = content;
        added = added;
        few = omega (arith, ap length added, length-append body content, part.0);
        inside = omega (arith, length-drop (at + line.len + line.size) holds, ap length closed.is.is);
        is = one_read at holds content line is closed.is part;
      }
