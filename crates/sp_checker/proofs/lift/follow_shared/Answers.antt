use Rattle.std.proofs.Common.{◌≡◌, ℕ, ◌+◌, ◌-◌, true, false, List, [], length, take, drop, get_or, sym, ap, ◌∙◌, subst, arith}
use Rattle.std.proofs.lemmas.List.{take_all, length-drop}
use Rattle.sp_rules.specs.declared.fact.Step.{Step}
use Rattle.sp_rules.specs.declared.fact.Fact.TheVariants.{Eq}
use Rattle.sp_rules.specs.Facts.{holds_in}
use Rattle.sp_rules.specs.Terms.{count as term_count}
use Rattle.sp_checker.specs.Known.{judge}
use Rattle.sp_checker.specs.Migration.{common, following}
use Rattle.sp_checker.specs.Raising.{goes_on}
use Rattle.sp_checker.specs.Trail.{EachWithin}
use Rattle.sp_checker.proofs.Following.{within_from_lack}
use Rattle.sp_checker.proofs.Raising.{goes_lacks, shared_after, shared_all, shared_ends, stands_there}
use Rattle.sp_checker.proofs.lift.follow_shared.Goals as goal

abbrev blank : Step
blank = record { fact = Eq 0 0; rule = 0; p = 0; q = 0 }

whole : (l : List Step) (i : ℕ) → drop i l ≡ take (length l - i) (drop i l)
whole l i = sym (take_all (length l - i) (drop i l) (omega (arith, length-drop i l)))

pub put-top-requires-clause-fact : goal.put-top-requires-clause-fact
put-top-requires-clause-fact c =
    let i = c.loop-place.place in
    let h = holds_in c.loop-place.eq c.loop-place.le in
    let s : Step = get_or c.args.first.now i blank in
    let ys = c.args.second.now in
    let goes : goes_on (judge c.args.terms.now []) h s (drop i ys) ≡ true = ap (goes_on (judge c.args.terms.now []) h s) (whole ys i) ∙ sym (c.goes_on.ensures []) ∙ c.if-goes_on.true in
    rw (c.loop-place.invariant.eq, c.requires.eq) (within_from_lack c.args.terms.now h s (goes_lacks (judge c.args.terms.now []) h s (drop i ys) goes))

pub loop-place-preserved : goal.loop-place-preserved
loop-place-preserved c =
    let xs = c.args.first.now in
    let ys = c.args.second.now in
    let i = c.loop-place.place in
    let below = c.loop-place-test.true in
    let h = holds_in c.loop-place.eq c.loop-place.le in
    let h' = holds_in c.put-top.new.eq c.put-top.new.le in
    let s : Step = get_or xs i blank in
    let count : c.loop-place.eq.count ≡ term_count c.args.terms.now = c.loop-place.invariant.eq ∙ c.requires.eq in
    let goes : (atoms : List ℕ) → goes_on (judge c.args.terms.now atoms) h s (drop i ys) ≡ true = λ atoms. ap (goes_on (judge c.args.terms.now atoms) h s) (whole ys i) ∙ sym (c.goes_on.ensures atoms) ∙ c.if-goes_on.true in
    let there = stands_there (judge c.args.terms.now []) h s ys i (goes []) in
    record {
      eq = omega arith;
      le = omega arith;
      room = c.put-top.ensures.room;
      trailed = c.put-top.ensures.trailed (holds_in c.args.eq.now c.args.le.now) 0 c.loop-place.invariant.trailed;
      within = subst (λ n. EachWithin n c.put-top.new.trail c.put-top.result) count (c.put-top.ensures.within (subst (λ n. EachWithin n c.loop-place.trail c.loop-place.top) (sym count) c.loop-place.invariant.within));
      there = omega (arith, there);
      count = λ atoms.
          let j = judge c.args.terms.now atoms in
          let n = length (following j h' (common (drop (i + 1) xs) (drop (i + 1) ys))) in
          let more = shared_after j h xs ys i blank below h' c.put-top.ensures.has (goes atoms) in
          let so_far = c.loop-place.invariant.count atoms in
          omega (arith, more, so_far);
    }

pub returns-else-goes_on-clause-count : goal.returns-else-goes_on-clause-count
returns-else-goes_on-clause-count c = λ atoms.
    let xs = c.args.first.now in
    let ys = c.args.second.now in
    let i = c.loop-place.place in
    let h = holds_in c.loop-place.eq c.loop-place.le in
    let j = judge c.args.terms.now atoms in
    let s : Step = get_or xs i blank in
    let ends : goes_on j h s (drop i ys) ≡ false = ap (goes_on j h s) (whole ys i) ∙ sym (c.goes_on.ensures atoms) ∙ c.if-goes_on.false in
    let none = shared_ends j h xs ys i blank c.loop-place-test.true ends in
    let so_far = c.loop-place.invariant.count atoms in
    omega (arith, none, so_far)

pub returns-clause-count : goal.returns-clause-count
returns-clause-count c = λ atoms.
    let none = shared_all (judge c.args.terms.now atoms) (holds_in c.loop-place.eq c.loop-place.le) c.args.first.now c.args.second.now c.loop-place.place c.loop-place-test.false in
    let so_far = c.loop-place.invariant.count atoms in
    omega (arith, none, so_far)
