-- The loop keeps: the words of the events passed are written, over words of the end.
use Rattle.event.specs.Events.{input_of}
use Rattle.descent_tokens.proofs.TokenWords.{Written}
use Rattle.descent_tokens.proofs.tokens_of.Given as goal

abbrev pub invariant-loop-place : goal.invariant-loop-place
invariant-loop-place l = Written l.lookahead l.terminals (input_of l.events) l.place l.tokens
