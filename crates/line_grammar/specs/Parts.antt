-- Grammars put together.
use Rattle.line_grammar.specs.Grammar.{Grammar, Gives, Number, Text, Optional, Code, Choice, TextList, EndedNumbers}

-- a grammar and behind it another, which may depend on what the first says
abbrev pub and_then : {D E : Type 0} → Grammar D → (D → Grammar E) → Grammar E
and_then (Gives x) next = next x
and_then (Number form ok more) next = Number form ok (λ n. and_then (more n) next)
and_then (Text form ok more) next = Text form ok (λ t. and_then (more t) next)
and_then (Optional form ok more) next = Optional form ok (λ t. and_then (more t) next)
and_then (Code end more) next = Code end (λ z. and_then (more z) next)
and_then (Choice word words ok more) next = Choice word words ok (λ i. and_then (more i) next)
and_then (TextList most form counts ok more) next = TextList most form counts ok (λ ts. and_then (more ts) next)
and_then (EndedNumbers most least greatest counts ok more) next = EndedNumbers most least greatest counts ok (λ end ns. and_then (more end ns) next)
