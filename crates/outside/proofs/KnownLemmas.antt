-- Known bytes over two writes or two reads, one after the other.
use Rattle.std.proofs.Common.{◌∙◌, List, ℕ, ◌++◌, Option, Some, None, append_assoc}
use Rattle.std.specs.Io.KnownBytes.{Appends, Consumes}

-- two writes one after the other wrote both pieces
pub appends_both : (old mid new : Option (List ℕ)) (xs ys : List ℕ) → Appends old mid xs → Appends mid new ys → Appends old new (xs ++ ys)
appends_both None mid new xs ys first second = tt
appends_both (Some xs0) None new xs ys first second = absurd first
appends_both (Some xs0) (Some ys0) None xs ys first second = absurd second
appends_both (Some xs0) (Some ys0) (Some zs0) xs ys first second = second ∙ rw first (append_assoc xs0 xs ys)

-- two reads one after the other gave both pieces
pub consumes_both : (old mid new : Option (List ℕ)) (xs ys : List ℕ) → Consumes old mid xs → Consumes mid new ys → Consumes old new (xs ++ ys)
consumes_both None mid new xs ys first second = tt
consumes_both (Some xs0) None new xs ys first second = absurd first
consumes_both (Some xs0) (Some ys0) None xs ys first second = absurd second
consumes_both (Some xs0) (Some ys0) (Some zs0) xs ys first second = rw append_assoc (rw (← second) first)
