use Rattle.std.proofs.Common.{sym, subst, arith}
use Rattle.option_words.specs.Forms.{Each, IsOneAddress}
use Rattle.option_command.proofs.Parts.{no_address, each_index}
use Rattle.option_command.proofs.forms.addresses_in.Goals as goal

pub returns-then-not-is_address : goal.returns-then-not-is_address
returns-then-not-is_address c = λ list is.
    (let all = subst (Each IsOneAddress) (sym c.in-Ok.ensures) is.1 in
    no_address c.is_address.result c.index-part.result.now.now c.if-not-is_address.true c.is_address.ensures
    (each_index IsOneAddress (λ p. p.now) c.in-Ok.parts.items c.loop-at.at c.index-part.result.now (omega arith) c.index-part.ensures all))
