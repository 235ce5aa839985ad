use Rattle.std.proofs.Common.{◌≡◌, ◌+◌, ◌-◌, ◌<◌, length, take, sym, ap, ◌∙◌, subst, arith}
use Rattle.std.specs.Prelude.{slice_index}
use Rattle.sp_rules.specs.Questions.{Question}
use Rattle.sp_saturate.specs.Situations.{AreKept}
use Rattle.sp_saturate.specs.Trail.{Found}
use Rattle.sp_saturate.proofs.Levels.{kept_less}
use Rattle.sp_saturate.proofs.facts.Facts.back.Goals as goal

pub invariant_of-self : goal.invariant_of-self
invariant_of-self c =
    let a = c.self.inside in
    let q : Question = record { terms = a.trail.terms; given = a.given.now; atoms = a.atoms.now } in
    let last = c.len-last.result - 1 in
    let some : 0 < length a.assumed.items = rw (← c.self.view_is) at c.requires in
    let m : length a.starts.items ≡ last + 1 = omega (arith, some, c.self.invariant.0.as_many, c.len-last.ensures) in
    let start : c.start_at-start.result ≡ slice_index a.starts.items last = c.start_at-start.ensures ∙ ap (λ xs. slice_index xs last) c.deref.ensures.value in
    let kept : AreKept q (take (slice_index a.starts.items last) a.trail.steps) (take last a.assumed.items) (take last a.starts.items) =
    kept_less q a.trail.steps a.assumed.items a.starts.items c.self.invariant.0 last m in
    let new : c.release.new.self ≡ record { terms = a.trail.terms; steps = take (slice_index a.starts.items last) a.trail.steps } = c.release.ensures ∙ ap (λ n. let t : Found = record { terms = a.trail.terms; steps = take n a.trail.steps } in t) start in (
      subst (λ (t : Found). AreKept (record { terms = t.terms; given = a.given.now; atoms = a.atoms.now }) t.steps c.truncate.new.self.items c.truncate-2.new.self.items) (sym new)
          (subst (λ z. AreKept q (take (slice_index a.starts.items last) a.trail.steps) z c.truncate-2.new.self.items) (sym c.truncate.ensures.items)
          (subst (λ z. AreKept q (take (slice_index a.starts.items last) a.trail.steps) (take last a.assumed.items) z) (sym c.truncate-2.ensures.items) kept)),
      omega (arith, c.self.invariant.1, c.truncate.ensures.capacity),
      omega (arith, c.self.invariant.2, c.truncate-2.ensures.capacity),
    )
