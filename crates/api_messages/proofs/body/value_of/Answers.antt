use Rattle.std.proofs.Common.{arith, rules, inr}
use Rattle.api_messages.proofs.Bodies.{value_at-json, value_at-none}
use Rattle.api_messages.proofs.body.value_of.Goals as goal

pub returns-in-Ok : goal.returns-in-Ok
returns-in-Ok c = value_at-json c.args.bytes.now _ (omega arith) c.in-Ok.ensures.ok.0 c.in-Ok.ensures.ok.1

pub returns-else-is_memory : goal.returns-else-is_memory
returns-else-is_memory c = inr (value_at-none c.args.bytes.now (omega arith) (c.in-Err.ensures.err (λ memory. search rules)))
