use Rattle.std.proofs.Common.{◌≡◌, ℕ, ◌+◌, ◌≤◌, length, List}
use Rattle.sp_checker.specs.Trail.{free}
use Rattle.sp_rules.specs.Facts.{holds_in}
use Rattle.sp_rules.specs.Terms.{count as term_count}
use Rattle.sp_cert.specs.Tree.{tree}
use Rattle.sp_cert.specs.Checks.{fault, count_nodes, count_all}
use Rattle.sp_checker.specs.Known.{judge, chain, weight}
use Rattle.sp_checker.specs.Trail.{Trailed, EachWithin, Kept}
use Rattle.sp_checker.proofs.walk.front.Given as goal

abbrev pub invariant-loop-at : goal.invariant-loop-at
invariant-loop-at l = record {
  eq : l.eq.count ≡ l.initial.eq.count;
  le : l.le.count ≡ l.initial.le.count;
  size : length l.trail ≡ length l.initial.trail;
  room : l.top + (free l.eq + free l.le) ≤ length l.trail;
  longer : l.from ≤ l.top;
  within : EachWithin (term_count l.terms) l.trail l.top;
  kept : Kept l.initial.trail l.trail l.from;
  trailed : Trailed (holds_in l.initial.eq l.initial.le) l.trail l.from l.top (holds_in l.eq l.le);
  fault : (atoms : List ℕ) → fault (judge l.terms atoms) (tree l.cert) (holds_in l.initial.eq l.initial.le) l.depth l.initial.number l.initial.count
      ≡ fault (judge l.terms atoms) (tree l.at) (holds_in l.eq l.le) l.depth l.number l.count;
  weight : weight (tree l.at) ≡ weight (tree l.cert);
  nodes : count_nodes l.initial.number (tree l.cert) ≡ count_nodes l.number (tree l.at);
  counted : count_all l.initial.count (tree l.cert) ≡ count_all l.count (tree l.at);
}

abbrev pub decreases-loop-at : goal.decreases-loop-at
decreases-loop-at l = chain (tree l.at)
