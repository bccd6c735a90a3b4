-- Ports and their decimal digits.
use Rattle.std.proofs.Common.{◌≡◌, ℕ, ◌≤◌, List, Result, Ok, Err, decimal, arith}
use Rattle.std.specs.Str.Parse.{ParsesUnsigned}
use Rattle.std.proofs.lemmas.Fmt.{parse-decimal}

-- what is read of a port's digits is that port
pub port_read : {E : Type 0} (bytes : List ℕ) (r : Result ℕ E) (port n : ℕ) → r ≡ Ok port → ParsesUnsigned 16 10 bytes r → n ≤ 65535 → bytes ≡ decimal n → port ≡ n
port_read bytes r port n ok reads most is =
    let e : r ≡ Ok n = parse-decimal 16 n bytes r (omega arith) (omega arith) is reads in cc

-- a port's digits are read
pub port_unread : {E : Type 0} (bytes : List ℕ) (r : Result ℕ E) (fault : E) (n : ℕ) → r ≡ Err fault → ParsesUnsigned 16 10 bytes r → n ≤ 65535 → bytes ≡ decimal n → ⊥
port_unread bytes r fault n err reads most is =
    let e : r ≡ Ok n = parse-decimal 16 n bytes r (omega arith) (omega arith) is reads in cc
