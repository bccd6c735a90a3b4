use Rattle.std.proofs.Common.{◌≡◌, ◌+◌, subst, sym, arith, take}
use Rattle.std.proofs.Math.Seq.{take-length}
use Rattle.httparse.specs.Grammar.{NeverHasChunkLine}
use Rattle.http_reading.proofs.LineLemmas.{may_none, never_some, never_front}
use Rattle.http_reading.proofs.size_line.first_bad.Goals as goal

pub loop-bad-init : goal.loop-bad-init
loop-bad-init c =
    let bytes = c.args.bytes.now in
    (never_some bytes c.requires, omega arith, may_none, subst NeverHasChunkLine (sym (take-length bytes)) c.requires)

pub is_refused-requires : goal.is_refused-requires
is_refused-requires c = never_front c.args.bytes.now _ c.requires

pub returns : goal.returns
returns c =
    let next : c.loop-bad.bad ≡ c.loop-bad.good + 1 = omega arith in
    record {
      inside = omega arith;
      some = c.loop-bad.invariant.2;
      none = subst (λ n. NeverHasChunkLine (take n c.args.bytes.now)) next c.loop-bad.invariant.3;
    }
