use Rattle.std.proofs.Common.{Option, Some, None, IfSome, IfNone, MatchOption}
use Rattle.std.proofs.lemmas.Str.Pattern.{split_parts}
use Rattle.http_ends.proofs.address.around.Goals as goal

if_some : {T : Type 0} (o : Option T) (N : Type 0) (A B : T → Type 0) → MatchOption o N (λ x. A x × B x) → IfSome o B
if_some None N A B m = tt
if_some (Some x) N A B m = m.1

if_none : {T : Type 0} (o : Option T) (N : Type 0) (A : T → Type 0) → MatchOption o N A → IfNone o N
if_none None N A m = m
if_none (Some x) N A m = tt

pub returns-clause-first : goal.returns-clause-first
returns-clause-first c = if_some c.split_once.result _ _ _ (split_parts c.args.mark c.args.text.now _ c.split_once.ensures.cases c.requires)

pub returns-clause-none : goal.returns-clause-none
returns-clause-none c = if_none c.split_once.result _ _ (split_parts c.args.mark c.args.text.now _ c.split_once.ensures.cases c.requires)
