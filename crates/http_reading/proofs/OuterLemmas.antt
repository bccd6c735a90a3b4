-- A fault that is not of the bytes is one of any bytes.
use Rattle.std.proofs.Common.{ℕ, Bool, List, sym, subst, inl, inr}
use Rattle.http_reading.specs.Draws.{IsOutside}
use Rattle.http_reading.specs.Requests.{HeadFault}
use Rattle.http_reading.specs.Responses.{TopFault}
use Rattle.http_reading.specs.Chunks.{TailFault}
use Rattle.http_reading.specs.ChunkReads.{CloseFault}
use Rattle.http_reading.specs.Bodies.{BodyFault}
use Rattle.http_reading.specs.declared.plan.BodyPlan.{BodyPlan}
use Rattle.http_reading.specs.declared.fault.HttpFault.{HttpFault}

pub outer_head : (bytes : List ℕ) (ended : Bool) (fault : HttpFault) → IsOutside fault → HeadFault bytes ended fault
outer_head bytes ended fault (inl e) = subst (HeadFault bytes ended) (sym e) tt
outer_head bytes ended fault (inr e) = subst (HeadFault bytes ended) (sym e) tt

pub outer_top : (bytes : List ℕ) (ended : Bool) (fault : HttpFault) → IsOutside fault → TopFault bytes ended fault
outer_top bytes ended fault (inl e) = subst (TopFault bytes ended) (sym e) tt
outer_top bytes ended fault (inr e) = subst (TopFault bytes ended) (sym e) tt

pub outer_body : (plan : BodyPlan) (start : ℕ) (bytes : List ℕ) (ended : Bool) (fault : HttpFault) → IsOutside fault → BodyFault plan start bytes ended fault
outer_body plan start bytes ended fault (inl e) = subst (BodyFault plan start bytes ended) (sym e) tt
outer_body plan start bytes ended fault (inr e) = subst (BodyFault plan start bytes ended) (sym e) tt

pub outer_tail : (at before : ℕ) (bytes : List ℕ) (ended : Bool) (fault : HttpFault) → IsOutside fault → TailFault at before bytes ended fault
outer_tail at before bytes ended fault (inl e) = subst (TailFault at before bytes ended) (sym e) tt
outer_tail at before bytes ended fault (inr e) = subst (TailFault at before bytes ended) (sym e) tt

pub outer_close : (end : ℕ) (holds : List ℕ) (ended : Bool) (fault : HttpFault) → IsOutside fault → CloseFault end holds ended fault
outer_close end holds ended fault (inl e) = subst (CloseFault end holds ended) (sym e) tt
outer_close end holds ended fault (inr e) = subst (CloseFault end holds ended) (sym e) tt
