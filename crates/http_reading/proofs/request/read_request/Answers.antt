use Rattle.http_reading.proofs.StreamLemmas.{took_request, failed_stream, took_none, failed_end}
use Rattle.http_reading.proofs.request.read_request.Goals as goal

pub returns-in-Ok-clause-request : goal.returns-in-Ok-clause-request
returns-in-Ok-clause-request g c =
    rw (← c.buffer.view_is)
    (took_request c.args.link.now c.take_request.new.link c.buffer.inside.bytes.items c.take_request.new.bytes.items c.in-Ok.request c.in-Ok.ensures.ok)

pub returns-in-Err-clause-fault : goal.returns-in-Err-clause-fault
returns-in-Err-clause-fault g c =
    rw (← c.buffer.view_is)
    (λ clean. failed_stream c.args.link.now c.take_request.new.link c.buffer.inside.bytes.items c.in-Err.fault c.in-Err.ensures.err)

pub returns-in-Ok-clause-none : goal.returns-in-Ok-clause-none
returns-in-Ok-clause-none g c =
    took_none c.args.link.now c.take_request.new.link c.buffer.inside.bytes.items c.take_request.new.bytes.items c.in-Ok.request c.in-Ok.ensures.ok

pub returns-in-Err-clause-ended : goal.returns-in-Err-clause-ended
returns-in-Err-clause-ended g c =
    λ clean. failed_end c.args.link.now c.take_request.new.link c.buffer.inside.bytes.items c.in-Err.fault c.in-Err.ensures.err
