use Rattle.std.proofs.Common.{◌≡◌, ◌++◌, OnOk, codes, to_z, of_z, w32, arith, subst, sym, FitsSigned, rules}
use Rattle.std.proofs.lemmas.Int.{to_z-of_z}
use Rattle.script_text.specs.Spelling.{spaced_code}
use Rattle.script_text.specs.Replies.{refusal_text}
use Rattle.script_text.proofs.replies.put_refusal.Goals as goal

-- the word is long beside the others that `search` takes up with it
pub returns-in-AlreadySent : goal.returns-in-AlreadySent
returns-in-AlreadySent c =
    let fits : FitsSigned w32 c.in-AlreadySent.code = search rules in
    subst (λ refusal. OnOk c.put_coded.result (c.put_coded.new.out.items ≡ c.args.out.now.items ++ refusal_text refusal)) (sym c.in-AlreadySent.is)
    (subst (λ code. OnOk c.put_coded.result (c.put_coded.new.out.items ≡ c.args.out.now.items ++ (codes "AlreadySent" ++ spaced_code code))) (to_z-of_z w32 c.in-AlreadySent.code fits) c.put_coded.ensures)
