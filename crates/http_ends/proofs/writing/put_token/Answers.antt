use Rattle.std.proofs.Common.{◌≡◌, ◌∙◌, ℕ, nat_eq, false, List, [], ◌∷◌, ◌++◌, length, codes, append_assoc, ap}
use Rattle.std.proofs.lemmas.Bool.{false≢true}
use Rattle.std.proofs.lemmas.Result.{on_ok_weaker}
use Rattle.http_ends.specs.Writing.{token_line}
use Rattle.http_ends.proofs.writing.put_token.Goals as goal

in_line : (token old first second third : List ℕ) → false ≡ nat_eq (length token) 0 → first ≡ old ++ codes "XXL-JOB-ACCESS-TOKEN: " → second ≡ first ++ token → third ≡ second ++ codes "\r\n" → third ≡ old ++ token_line token
in_line [] old first second third some p q r = absurd (false≢true some)
in_line (b ∷ bs) old first second third some p q r =
    r ∙ ap (λ t. t ++ codes "\r\n") (q ∙ ap (λ t. t ++ (b ∷ bs)) p) ∙ ap (λ t. t ++ codes "\r\n") (append_assoc old (codes "XXL-JOB-ACCESS-TOKEN: ") (b ∷ bs)) ∙ append_assoc old (codes "XXL-JOB-ACCESS-TOKEN: " ++ (b ∷ bs)) (codes "\r\n")

pub returns : goal.returns
returns c = on_ok_weaker c.put-3.result
    (in_line c.args.token.now _ _ _ _ c.if-is_empty.ensures c.in_ok-put.ensures c.in_ok-put-2.ensures)
    c.put-3.ensures
