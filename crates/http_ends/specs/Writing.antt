-- The bytes of requests and responses as they are written.
use Rattle.std.specs.Prelude.{◌≡◌, ℕ, ◌==◌, ◌⊎◌, List, [], ◌∷◌, ◌++◌, length, codes, decimal, if◌then◌else◌}
use Rattle.http_reading.specs.declared.response.Response.{Response}
use Rattle.http_ends.specs.Addresses.{Address}

-- the head of an answer with so many bytes of body
abbrev pub answer_head : ℕ → List ℕ
answer_head count =
    codes "HTTP/1.1 200 OK\r\nContent-Type: application/json;charset=UTF-8\r\nContent-Length: " ++ decimal count ++ codes "\r\n\r\n"

-- the answer to a request that is none
abbrev pub bad_request : List ℕ
bad_request = codes "HTTP/1.1 400 Bad Request\r\nContent-Length: 0\r\nConnection: close\r\n\r\n"

-- the answer to a request that is too large
abbrev pub too_large : List ℕ
too_large = codes "HTTP/1.1 413 Payload Too Large\r\nContent-Length: 0\r\nConnection: close\r\n\r\n"

-- a response that can be written: an answer, or the refusal of a request, which has no body
abbrev pub CanBeWritten : Response → Type 0
CanBeWritten r = (r.status ≡ 200) ⊎ (((r.status ≡ 400) ⊎ (r.status ≡ 413)) × (r.body ≡ []))

-- the bytes of a response that can be written
abbrev pub response_text : Response → List ℕ
response_text r =
    if r.status == 200 then answer_head (length r.body) ++ r.body
    else if r.status == 400 then bad_request else too_large

-- the line of a token, if there is one
abbrev pub token_line : List ℕ → List ℕ
token_line [] = []
token_line (b ∷ bs) = codes "XXL-JOB-ACCESS-TOKEN: " ++ (b ∷ bs) ++ codes "\r\n"

-- the bytes of a request to an address: the path follows that of the address
abbrev pub request_text : Address → List ℕ → List ℕ → List ℕ → List ℕ
request_text address path token body =
    codes "POST " ++ address.base ++ path ++ codes " HTTP/1.1\r\nHost: " ++ address.host ++ codes ":" ++ decimal address.port
    ++ codes "\r\nContent-Type: application/json;charset=UTF-8\r\n" ++ token_line token
    ++ codes "Connection: close\r\nContent-Length: " ++ decimal (length body) ++ codes "\r\n\r\n" ++ body
