-- The theorems of specs/Theorems, each by citing the file that proves it.
use mathlib.Core.Path.{refl}
use native.Mathlib.Omega.{arith}
use Rattle.semantics.specs.Valuations.{solution}
use Rattle.base.specs.Strings.{look}
use Rattle.semantics.specs.FirstFollow.{First}
use Rattle.semantics.specs.Descent.{descend}
use Rattle.semantics.specs.inner.Theorems.{Theorems}
use Rattle.semantics.proofs.meaning.Nullable.{nullable_closed, nullable_least}
use Rattle.semantics.proofs.meaning.LeftRecursion.{left_recursive_iff, lowest_left_recursive_some, lowest_left_recursive_none}
use Rattle.semantics.proofs.meaning.Rank.{rank_falls, rank_below}
use Rattle.semantics.proofs.meaning.Unique.{rules_lower, solution_solves, solution_unique, solution_null}
use Rattle.semantics.proofs.meaning.OneMore.{more_derived, more_meeting}
use Rattle.semantics.proofs.families.First.{first_closed, first_least, first_lookahead, least_unique}
use Rattle.semantics.proofs.families.FirstNullable.{first_none}
use Rattle.semantics.proofs.families.Productive.{unproductive_iff, lowest_unproductive_lem, all_productive}
use Rattle.semantics.proofs.families.Follow.{follow_least, follow_lookahead}
use Rattle.semantics.proofs.families.Concatenation.{first_strung, follow_strung, claims_strung}
use Rattle.semantics.proofs.families.Claims.{clashes_elim, clashes_make, table_some, table_none, every_ends_elim, every_ends_make}
use Rattle.semantics.proofs.families.Columns.{strings_columns, first_clash_lem}
use Rattle.semantics.proofs.families.FirstSound.{first_sound, first_sound_body}
use Rattle.semantics.proofs.descent.Outcomes.{end_ends}
use Rattle.semantics.proofs.descent.Ends.{descend_forward, descend_null}
use Rattle.semantics.proofs.descent.Results.{descend_results, results_unique}
use Rattle.semantics.proofs.descent.Predictive.{table_own, own_guides, passed_iff}
use Rattle.semantics.proofs.descent.Verdict.{local_verdict, local_verdict_body, local_verdict_piece, verdict}
use Rattle.semantics.proofs.descent.Measure.{tokens_then_rank}
use Rattle.semantics.proofs.descent.Called.{calls_listing, count_listing, count_bound, farthest_most, farthest_called}
use Rattle.semantics.proofs.descent.Range.{all_ordered}
use Rattle.semantics.proofs.descent.Memo.{memo_recorded}

pub theorems : Theorems
theorems = record {
  one_solution = λ G scoped free w. record {
    solves = solution_solves G scoped free w;
    only = λ v s. solution_unique G scoped free w v (solution G w) s (solution_solves G scoped free w);
    lower = rules_lower G scoped free w;
  };
  left_recursion_decided = λ G scoped. record {
    test = left_recursive_iff G scoped;
    lowest = lowest_left_recursive_some G scoped;
    absent = lowest_left_recursive_none G scoped;
    falls = rank_falls G scoped;
    below = rank_below G scoped;
  };
  least_sets = λ G scoped terminals start k. record {
    nullable_closed = nullable_closed G scoped;
    nullable_least = nullable_least G;
    first = first_least G k scoped;
    follow = follow_least G k scoped terminals start;
    first_lookahead = first_lookahead G k;
    follow_lookahead = follow_lookahead G k;
    nothing = first_none G k scoped;
    clash = λ A x. (clashes_elim G k A x, clashes_make G k A x);
    claimed = table_some G k;
    unclaimed = table_none G k;
    ends = (every_ends_elim G k, every_ends_make G k);
  };
  productive_decided = λ G k. record { test = unproductive_iff G k; lowest = lowest_unproductive_lem G k; absent = all_productive G k };
  least_unique = least_unique;
  one_token = λ G. record {
    first = first_strung G;
    follow = follow_strung G;
    claims = claims_strung G;
    columns = strings_columns G.terminals;
    first_clash_lem = first_clash_lem G;
  };
  one_more = λ r b. record { derived = more_derived r b; meeting = more_meeting r b };
  sound_first = λ G scoped free k w over v solves. record {
    nonterminal = first_sound G scoped free w v solves k (First G k) (first_closed G k scoped) over;
    body = λ b n i j ij jw. first_sound_body G scoped free w v solves k (First G k) (first_closed G k scoped) over b i j ij jw n;
    empty = λ A i a iw t. solution_null G scoped free w v solves A i i a (omega arith) iw t refl;
  };
  local_verdict = λ G k p w over v solves. record {
    nonterminal = local_verdict p.scoped p.unrecursive (own_guides G k p) w over v solves;
    rest = local_verdict_body p.scoped p.unrecursive (own_guides G k p) w over v solves;
    piece = local_verdict_piece p.scoped p.unrecursive (own_guides G k p) w over v solves;
  };
  verdict = λ G k p w over v solves. verdict p.scoped p.unrecursive (own_guides G k p) w over v solves p.start;
  descent_ends = λ G scoped free choice own w. record {
    unfolds = descend_results G choice w scoped free own;
    only = results_unique G choice w scoped free own;
    forward = λ A i j iw e. descend_forward G choice w own A i j iw (end_ends (descend G choice w A i) j e);
    empty = λ A i iw e. descend_null G choice w own scoped A i i iw refl (end_ends (descend G choice w A i) i e);
    falls = tokens_then_rank G choice w scoped own free;
  };
  calls_counted = λ G scoped free start choice own w. record {
    listing = calls_listing G choice w scoped free own start;
    count = count_listing G choice w scoped free own start;
    bounded = count_bound G choice w scoped free own start;
    farthest_most = farthest_most G choice w scoped free own start;
    farthest_called = farthest_called G choice w scoped free own start;
  };
  memo_right = λ G scoped free start choice own w fits.
      let r = memo_recorded G choice w scoped free own fits start in
      record { outcome = r.0; recorded = r.1; ordered = all_ordered G w };
  own_rules = λ G k w A i. table_own G k A (look k w i);
  passed = passed_iff;
}
