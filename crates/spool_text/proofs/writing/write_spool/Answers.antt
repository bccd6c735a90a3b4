use Rattle.std.proofs.Common.{◌≡◌, ◌≤◌, ◌∷◌, ◌++◌, [], ◌+◌, List, ℕ, take, length, Ok, sym, ap, subst, ◌∙◌, arith}
use Rattle.std.proofs.lemmas.List.{take_more, take_all}
use Rattle.job_values.specs.declared.run.CallbackItem.{CallbackItem}
use Rattle.job_values.specs.declared.limits.TheConstants.{LONGEST_BODY}
use Rattle.api_messages.specs.Tables.{item_rows}
use Rattle.api_messages.specs.Seen.{item_cells}
use Rattle.api_messages.specs.Reading.{one_item_at}
use Rattle.spool_text.specs.Spool.{spool_text}
use Rattle.spool_text.proofs.Written.{AreReadAgain, read_again, again-push, text-push, spool_again}
use Rattle.spool_text.proofs.writing.write_spool.Goals as goal

pub loop-item-preserved : goal.loop-item-preserved
loop-item-preserved c =
    let item = c.item-item.result in
    let xs = c.as_slice-item-items.result.now in
    let i = c.loop-item.item-index in
    let more : take (i + 1) xs ≡ take i xs ++ item ∷ [] = take_more xs i item (omega arith) ∙ ap (λ (x : CallbackItem). take i xs ++ x ∷ []) (sym c.item-item.is) in
    let line = c.in_ok-line.ensures.text in
    let P : List ℕ → Type 0 = λ b. length b ≤ LONGEST_BODY → one_item_at b ≡ Ok (item_cells item) in
    rw more (record {
      text = c.in_ok-append.ensures ∙ (rw (c.loop-item.invariant.text, c.as_slice.ensures, line) (sym (text-push (take i xs) item)));
      again = again-push (take i xs) item c.loop-item.invariant.again (read_again item c.in_ok-line.ensures.fits (subst P line c.in_ok-line.ensures.reads));
    })

pub returns-clause-reads : goal.returns-clause-reads
returns-clause-reads c =
    let xs = c.as_slice-item-items.result.now in
    let all : take c.loop-item.item-index xs ≡ xs = take_all c.loop-item.item-index xs c.loop-item-test.false in
    let text : c.loop-item.bytes.items ≡ spool_text xs = c.loop-item.invariant.text ∙ ap spool_text all in
    let again : AreReadAgain xs = subst AreReadAgain all c.loop-item.invariant.again in
    λ d. rw (c.of.ensures, text, c.as_slice-item-items.ensures) (spool_again c.args.items.now (subst AreReadAgain c.as_slice-item-items.ensures again) d)
