use Rattle.std.proofs.Common.{inl, inr, refl, false}
use Rattle.outside.specs.declared.failed.Failed.{Failed}
use Rattle.http_reading.proofs.DrawLemmas.{read_failed, read_gave, meets_none, fails_none}
use Rattle.http_reading.proofs.fill.fill.Goals as goal

pub returns-in-Err-clause-err : goal.returns-in-Err-clause-err
returns-in-Err-clause-err g c =
    let e = c.in-Err.ensures in
    record {
      holds = c.args.bytes.now.items;
      ended = false;
      draws = read_failed c.args.link.now c.read.new.self c.args.bytes.now.items _ e.bytes e.grows e.other e.place e.cause.later e.end (fails_none c.read.new.into c.in-Err.field-0);
      cause = λ same. e.cause.failed;
      is = inl refl;
    }

pub returns-in-Err-extend_from_slice-clause-err : goal.returns-in-Err-extend_from_slice-clause-err
returns-in-Err-extend_from_slice-clause-err g c =
    let e = c.in-Ok.ensures in
    record {
      holds = _;
      ended = false;
      draws = read_gave c.args.link.now c.read.new.self c.args.bytes.now.items _ _ e.bytes.0 e.grows e.other e.place e.cause.later e.end (meets_none Failed c.read.new.into c.in-Ok.count c.if-count-eq0.false);
      cause = λ same. absurd (let never : ⊥ = cc in never);
      is = inr refl;
    }
