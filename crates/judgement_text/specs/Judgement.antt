-- What is printed of a judgement: a refusal, or a verdict and the calls that the memo table holds.
use Rattle.std.specs.Prelude.{List, [], ◌++◌, ℕ}
use Prim.Native.String.{String}
use Rattle.answer.specs.declared.Calls.{Calls}
use Rattle.answer.specs.declared.Answer.{Answer}
use Rattle.answer.specs.declared.Answer.TheVariants.{Refused, Passed, Rejected, Accepted}
use Rattle.text.specs.Ascii.{ascii}
use Rattle.text.specs.Decimal.{labelled}
use Rattle.refusal_text.specs.Refusal.{refusal_text}
use Rattle.calls_text.specs.Calls.{calls_text}

unfoldable pub verdict_line : String → Calls → List ℕ
verdict_line verdict c = labelled verdict c.count ++ labelled " " c.farthest ++ ascii "\n"

-- what is printed of a judgement; a check that passed is none
unfoldable pub judgement_text : Answer → ℕ → ℕ → List ℕ → List ℕ
judgement_text (Refused e) nonterminals tokens memo = refusal_text e
judgement_text Passed nonterminals tokens memo = []
judgement_text (Rejected c) nonterminals tokens memo = verdict_line "rejected " c ++ calls_text nonterminals tokens memo
judgement_text (Accepted c) nonterminals tokens memo = verdict_line "accepted " c ++ calls_text nonterminals tokens memo
