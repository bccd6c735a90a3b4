use Rattle.http_ends.proofs.writing.text_of_request.Goals as goal

pub returns : goal.returns
returns c = rw (c.in_ok-put-9.ensures, c.in_ok-put-8.ensures, c.in_ok-put_number-2.ensures, c.in_ok-put-7.ensures, c.in_ok-put_token.ensures, c.in_ok-put-6.ensures, c.in_ok-put_number.ensures, c.in_ok-put-5.ensures, c.in_ok-put-4.ensures, c.in_ok-put-3.ensures, c.in_ok-put-2.ensures, c.in_ok-put_base.ensures, c.in_ok-put.ensures, c.in_ok-text.ensures, c.as_bytes.ensures.value, c.as_bytes-2.ensures.value, c.from.ensures)
