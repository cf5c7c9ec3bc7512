-- The promises of the exported calls, from those of the library's calls: the answers fit, so the packed number is theirs.
use mathlib.Core.Path.{◌≡◌}
use mathlib.Core.List.{List}
use Prim.Native.Nat.{ℕ}
use Rattle.answer.specs.declared.Answer.{Answer}
use Rattle.answer.specs.Numbers.{numbers}
use Rattle.lookahead.specs.declared.Lookahead.{Lookahead}
use Rattle.recognizer_promises.specs.Properties.{Checks, Judges}
use Rattle.recognizer_promises.specs.Costliest.{JudgesCostliest}
use Rattle.usage.specs.declared.Usage.{Usage}
use Rattle.client_records.specs.declared.Served.{Served}
use Rattle.clients_promises.specs.Properties.{JudgesFor}
use Rattle.tree_writer_promises.specs.declared.Shown.{Shown}
use Rattle.tree_writer_promises.specs.Properties.{Shows}
use Rattle.tabular_promises.specs.Properties.{TabularJudges}
use Rattle.embed_promises.specs.Packing.{packed}
use Rattle.embed_promises.specs.inner.Packing.{cut}
use Rattle.embed_promises.specs.inner.Records.{HandedBack}
use Rattle.embed_promises.specs.Records.{usages_in}
use Rattle.embed_promises.specs.Exports.{CheckExported, JudgeExported, CostliestExported, ServedExported, TreeExported, TabularExported}
use Rattle.embed_promises.proofs.Packed.{packs}
use Rattle.embed_promises.proofs.Fitting.{check_fits, judge_fits, costliest_fits, served_fits, tabular_fits, tree_fits}

pub check_exported : {k : Lookahead} {words before after : List ℕ} {a : Answer} {r : ℕ} → Checks k words before a after → r ≡ packed (cut (numbers a))
    → CheckExported k words before r after
check_exported {a = a} c e = record { result = a; promise = c; packs = packs (check_fits c) e }

pub judge_exported : {k : Lookahead} {words input table memo table' memo' : List ℕ} {a : Answer} {r : ℕ} → Judges k words input table memo a table' memo'
    → r ≡ packed (cut (numbers a))
    → JudgeExported k words input table memo r table' memo'
judge_exported {a = a} j e = record { result = a; promise = j; packs = packs (judge_fits j) e }

pub costliest_exported : {words : List ℕ} {k : ℕ} {log table memo log' table' memo' : List ℕ} {a : Answer} {r : ℕ}
    → JudgesCostliest words k log table memo a log' table' memo' → r ≡ packed (cut (numbers a)) → CostliestExported words k log table memo r log' table' memo'
costliest_exported {a = a} j e = record { result = a; promise = j; packs = packs (costliest_fits j) e }

pub served_exported : {client share limit : ℕ} {words input table memo table' memo' row row' : List ℕ} {us : List Usage} {x : Served} {r : ℕ}
    → us ≡ usages_in row
    → JudgesFor client share limit words input table memo us x table' memo'
    → HandedBack x r row'
    → ServedExported client share limit words input table memo row r table' memo' row'
served_exported {x = x} h j b = record {
  exported = record { result = x; promise = rw h at j; packs = packs (served_fits j) b.packs };
  written = b.written;
}

pub tabular_exported : {words input before after : List ℕ} {a : Answer} {r : ℕ} → TabularJudges words input before a after → r ≡ packed (cut (numbers a))
    → TabularExported words input before r after
tabular_exported {a = a} j e = record { result = a; promise = j; packs = packs (tabular_fits j) e }

pub tree_exported : {words input table memo tree table' memo' tree' : List ℕ} {x : Shown} {r written' : ℕ}
    → Shows words input table memo tree x table' memo' tree'
    → written' ≡ x.written
    → r ≡ packed (cut (numbers x.answer))
    → TreeExported words input table memo tree r table' memo' tree' written'
tree_exported {x = x} s w e = record { result = x; promise = (s, w); packs = packs (tree_fits s) e }
