use Rattle.std.proofs.Common.{◌≡◌, ◌-◌, ◌<◌, List, length, take, map, true, sym, ap, ◌∙◌, subst, arith}
use Rattle.std.proofs.lemmas.List.{take-map, length-map}
use Rattle.sp_rules.specs.Facts.{holds_in}
use Rattle.sp_rules.specs.declared.fact.Step.{Step}
use Rattle.sp_pool.specs.Records.{Records}
use Rattle.sp_saturate.specs.Steps.{on, step_of, step_at}
use Rattle.sp_saturate.specs.Trail.{Found, IsTrail}
use Rattle.sp_saturate.specs.Marked.{IsUnmarked}
use Rattle.sp_saturate.proofs.Trails.{in_range_held, step_there, trail_less}
use Rattle.sp_saturate.proofs.trail.Trail.drop_last.Goals as goal
use Rattle.sp_saturate.proofs.StepLemmas.{on_at}

there : (c : goal.After-unmark-arg-2-1) → holds_in c.self.inside.eq c.self.inside.le c.fact_of-fact.result ≡ true
there c =
    let s = c.self.inside in
    let some : 0 < length (map step_of s.records.records) = rw (← c.self.view_is) at c.requires in
    let e : (step_at (map step_of s.records.records) (c.count-last.result - 1)).fact ≡ c.fact_of-fact.result = ap (λ (x : Step). x.fact) (step_there s.terms.now s.eq s.le s.records c.self.invariant (c.count-last.result - 1) c.record.result.now c.record.ensures) ∙ sym c.fact_of-fact.ensures in
    c.self.invariant.here c.fact_of-fact.result ∙ ap (λ f. on (map step_of s.records.records) f) (sym e) ∙ on_at (map step_of s.records.records) (c.count-last.result - 1) (omega (arith, some, length-map s.records.records step_of))

pub unmark-requires-clause-there : goal.unmark-requires-clause-there
unmark-requires-clause-there c = there c

pub unmark-requires-clause-fact : goal.unmark-requires-clause-fact
unmark-requires-clause-fact c =
    let s = c.self.inside in
    in_range_held s.eq.count s.eq s.le c.tell_within.ensures.within c.tell_within-2.ensures.within (omega arith) (omega (arith, c.self.invariant.eq_size, c.self.invariant.le_size)) c.fact_of-fact.result (there c)

pub invariant_of-self : goal.invariant_of-self
invariant_of-self c =
    let s = c.self.inside in
    let some : 0 < length (map step_of s.records.records) = rw (← c.self.view_is) at c.requires in
    let last : step_of c.record.result.now ≡ step_at (map step_of s.records.records) (c.count-last.result - 1) = sym (step_there s.terms.now s.eq s.le s.records c.self.invariant (c.count-last.result - 1) c.record.result.now c.record.ensures) in
    let unmarked : IsUnmarked (step_of c.record.result.now).fact s.eq s.le c.unmark.new.eq c.unmark.new.le = subst (λ f. IsUnmarked f s.eq s.le c.unmark.new.eq c.unmark.new.le) c.fact_of-fact.ensures c.unmark.ensures in
    subst (λ r. IsTrail s.terms.now c.unmark.new.eq c.unmark.new.le r) (sym c.release.ensures)
    (trail_less s.terms.now s.eq s.le s.records c.self.invariant (c.count-last.result - 1) (omega (arith, some, length-map s.records.records step_of)) (step_of c.record.result.now) last c.unmark.new.eq c.unmark.new.le unmarked)

pub returns : goal.returns
returns c =
    let s = c.self.inside in
    let m : length (map step_of s.records.records) ≡ c.count-last.result = length-map s.records.records step_of ∙ sym c.count-last.ensures in
    let e : map step_of c.release.new.self.records ≡ take (length (map step_of s.records.records) - 1) (map step_of s.records.records) = ap (λ (r : Records). map step_of r.records) c.release.ensures ∙ sym (take-map step_of (c.count-last.result - 1) s.records.records) ∙ ap (λ n. take (n - 1) (map step_of s.records.records)) (sym m) in
    rw (← c.self.view_is) (ap (λ (xs : List Step). let f : Found = record { terms = s.terms.now; steps = xs } in f) e)
